-- Walks along a relation between nodes, which may come to a node more than once.
use Rattle.std.specs.Prelude.{◌≡◌, ℕ, List, [], ◌∷◌}

-- from u along the listed nodes each stands in the relation to the next, and the last is v
abbrev pub WalkBy : (ℕ → ℕ → Type 0) → ℕ → List ℕ → ℕ → Type 0
WalkBy Leads u [] v = u ≡ v
WalkBy Leads u (next ∷ nodes) v = Leads u next × WalkBy Leads next nodes v
