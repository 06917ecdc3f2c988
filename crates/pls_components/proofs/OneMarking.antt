-- Components are marked in one way, and those that lack a property are listed in one way.
use Rattle.std.proofs.Common.{◌≡◌, ◌∙◌, ℕ, Bool, List, length, slice_get, Contains, Some, sym, ap, subst, arith}
use Rattle.std.proofs.lemmas.Option.{same_Some, slice_get_within}
use Rattle.pls_configuration.specs.declared.row.NodeRow.{NodeRow}
use Rattle.pls_configuration.specs.Configuration.{IsNetwork}
use Rattle.pls_graph.proofs.Members.{place_from_Contains}
use Rattle.pls_facts.proofs.Lists.{same_at_places}
use Rattle.pls_scheme.specs.SchemeLaws.{IsMarkedOnce}
use Rattle.pls_components.specs.Components.{AreComponents, FitsInEach, HasInEach, IsComponent, items_at, least_id}
use Rattle.pls_components.specs.Parts.{AreLacking, LacksIn}
use Rattle.pls_components.proofs.Apart.{same_rising}
use Rattle.pls_components.proofs.Items.{items-at}
use Rattle.pls_components.proofs.Part.{part_connected, part_network, places_within}

module _ (rows : List NodeRow) (net : IsNetwork rows) where
  -- where each component by itself is marked in one way, so is the network
  pub one_labelling : (holds : List NodeRow → Type 0)
      (marked : List NodeRow → List (List Bool) → Type 0) → IsMarkedOnce holds marked
      → (parts : List (List ℕ)) → AreComponents rows parts → HasInEach holds rows
      → (labels others : List (List Bool)) → length labels ≡ length rows
      → length others ≡ length rows → FitsInEach marked rows labels
      → FitsInEach marked rows others → labels ≡ others
  one_labelling holds marked once parts are has labels others each other_each mine theirs =
      same_at_places labels others (each ∙ sym other_each) agree
    where
      agree : (place : ℕ) (a b : List Bool) → slice_get labels place ≡ Some a
          → slice_get others place ≡ Some b → a ≡ b
      agree place a b at_a at_b =
          let (places, listed, in') : (places : List ℕ) × Contains parts places
          × Contains places place =
          are.all place (let within = slice_get_within labels place a at_a in omega arith) in
          let is : IsComponent rows places = are.each places listed in
          let same : items_at labels places ≡ items_at others places =
          once (items_at rows places) (items_at labels places) (items_at others places)
          (part_network rows net places is) (part_connected rows net places is) (has places is)
          (mine places is) (theirs places is) in
          let (j, at) : (j : ℕ) × (slice_get places j ≡ Some place) =
          place_from_Contains places place in' in
          let one : slice_get (items_at labels places) j ≡ slice_get labels place =
          items-at labels places (λ k d inside.
          let within = places_within rows net places is k d inside in omega arith) j place at in
          let other : slice_get (items_at others places) j ≡ slice_get others place =
          items-at others places (λ k d inside.
          let within = places_within rows net places is k d inside in omega arith) j place at in
          same_Some a b (sym at_a ∙ sym one ∙ ap (λ (labels : List (List Bool)). slice_get labels j) same
          ∙ other ∙ at_b)

-- there is one list of the components that lack a property
pub one_lacking : (holds : List NodeRow → Type 0) (rows : List NodeRow) (ids others : List ℕ)
    → AreLacking holds rows ids → AreLacking holds rows others → ids ≡ others
one_lacking holds rows ids others one other =
    same_rising (λ (id : ℕ). id) ids others one.rising other.rising
    (λ id in'. from id (one.each id in') others other.all)
    (λ id in'. from id (other.each id in') ids one.all)
  where
    from : (id : ℕ) → (places : List ℕ) × LacksIn holds rows places × (least_id rows places ≡ id)
        → (ids : List ℕ)
        → ((places : List ℕ) → LacksIn holds rows places → Contains ids (least_id rows places))
        → Contains ids id
    from id (places, lacks, is) ids all = subst (Contains ids) is (all places lacks)
