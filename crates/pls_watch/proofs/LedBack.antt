-- What a neighbour has heard at its port that leads back.
use Rattle.std.proofs.Common.{◌≡◌, ◌∙◌, ℕ, Bool, List, Some, get_or, slice_get, sym, ap, subst}
use Rattle.std.proofs.lemmas.Option.{same_Some, slice_get_within}
use Rattle.pls_configuration.specs.declared.row.Port.{Port}
use Rattle.pls_configuration.specs.declared.row.NodeRow.{NodeRow}
use Rattle.pls_configuration.specs.Configuration.{IsNetwork}
use Rattle.pls_graph.specs.Places.{beside}
use Rattle.pls_sim.specs.Applying.{Played}
use Rattle.pls_sim.specs.Schedule.{has_heard}
use Rattle.pls_sim.specs.Ways.{IsSlot}
use Rattle.pls_sim.proofs.Ends.{end_at}

module _ (rows : List NodeRow) (net : IsNetwork rows) (played : Played)
    (same : played.network ≡ rows) (i p : ℕ) (row : NodeRow) (at : Port)
    (here : slice_get rows i ≡ Some row) (has : slice_get row.ports p ≡ Some at)
    (number back : ℕ) (numbered : IsSlot played.network number row.id at.nbr)
    (leads : (node neighbour : ℕ) → IsSlot played.network number node neighbour
    → IsSlot played.network back neighbour node) where
  led : IsSlot played.network back at.nbr row.id
  led = leads row.id at.nbr numbered

  pub slot_led : IsSlot rows back at.nbr row.id
  slot_led = subst (λ (rows : List NodeRow). IsSlot rows back at.nbr row.id) same led

  pub heard_led : (places : List ℕ) → places ≡ beside rows i → (heard : Bool)
      → ((other : NodeRow) (neighbour : ℕ)
      → slice_get played.network (get_or places p 0) ≡ Some other
      → IsSlot played.network back other.id neighbour
      → heard ≡ has_heard played.network played.events other.id neighbour)
      → heard ≡ has_heard played.network played.events at.nbr row.id
  heard_led places are heard is =
      let end = end_at rows net i p row here (slice_get_within row.ports p at has) in
      let id : end.other.id ≡ at.nbr =
      sym end.leads ∙ ap (λ (port : Port). port.nbr)
      (same_Some end.port at (sym end.has ∙ has)) in
      let there : slice_get played.network (get_or places p 0) ≡ Some end.other =
      ap (λ (rows : List NodeRow). slice_get rows (get_or places p 0)) same
      ∙ ap (λ (places : List ℕ). slice_get rows (get_or places p 0)) are ∙ end.there in
      is end.other row.id there
      (subst (λ (id : ℕ). IsSlot played.network back id row.id) (sym id) led)
      ∙ ap (λ (id : ℕ). has_heard played.network played.events id row.id) id
