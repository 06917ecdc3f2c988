-- Walks along a relation compose.
use Rattle.std.proofs.Common.{ℕ, List, [], ◌∷◌, ◌++◌, sym, subst}
use Rattle.pls_configuration.specs.WalkBy.{WalkBy}

pub WalkBy-append : (Leads : ℕ → ℕ → Type 0) (u v w : ℕ) (there onward : List ℕ)
    → WalkBy Leads u there v → WalkBy Leads v onward w → WalkBy Leads u (there ++ onward) w
WalkBy-append Leads u v w [] onward same walk =
    subst (λ (u : ℕ). WalkBy Leads u onward w) (sym same) walk
WalkBy-append Leads u v w (next ∷ there) onward walk rest =
    (walk.0, WalkBy-append Leads next v w there onward walk.1 rest)
