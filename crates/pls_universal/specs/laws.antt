pub mod MapLaws
pub mod LabelLaws
pub mod RuleLaws
pub mod MapShow
pub mod MapMet
pub mod ShortMaps
pub mod MapRecoded
