-- Chains from parent to parent, by any relation "has as its parent", and how many there are of what
-- has something in common.
use Rattle.std.specs.Prelude.{◌≡◌, ℕ, ◌↔◌, List, ◌∷◌, length, Contains}
use Rattle.pls_configuration.specs.WalkBy.{WalkBy}
use Rattle.pls_facts.specs.SpanningTree.{AreDistinct}

-- the chain of parents of u meets v; it meets u itself
abbrev pub ChainMeets : (ℕ → ℕ → Type 0) → ℕ → ℕ → Type 0
ChainMeets HasParent u v = (nodes : List ℕ) × WalkBy HasParent u nodes v

-- no chain of parents leads back to where it began
abbrev pub NoParentsReturn : (ℕ → ℕ → Type 0) → Type 0
NoParentsReturn HasParent =
    (u x : ℕ) (nodes : List ℕ) → WalkBy HasParent u (x ∷ nodes) u → ⊥

-- there are exactly so many such numbers
pub record AreSoMany (Such : ℕ → Type 0) (count : ℕ) : Type 0 where
  pub all : List ℕ
  pub distinct : AreDistinct all
  pub many : length all ≡ count
  pub are : (number : ℕ) → Contains all number ↔ Such number
