pub mod Formula
pub mod RuleSet
pub mod HeldTrees
