-- Without a node there is no component.
use Rattle.std.proofs.Common.{◌≡◌, ℕ, List, [], ◌∷◌, refl, arith}
use Rattle.pls_graph.proofs.Members.{Contains-first}
use Rattle.pls_components.specs.Components.{AreComponents}

pub empty_parts : AreComponents [] []
empty_parts = record {
  each = λ places in'. absurd (let i = in'.1 in omega arith);
  all = λ place within. absurd (omega arith);
  order = λ i j d less inside. absurd (omega arith);
}

pub no_parts : (parts : List (List ℕ)) → AreComponents [] parts → parts ≡ []
no_parts [] are = refl
no_parts (places ∷ parts) are =
    let is = are.each places (Contains-first places parts) in
    let joined = (is.members is.node).0 is.own in
    absurd (let none = joined.there in cc)
