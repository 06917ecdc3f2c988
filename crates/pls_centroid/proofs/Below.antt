-- Chains of parents in the pieces of a level, and which nodes edges join: a node's chain meets a
-- place exactly where edges join the two that do not lead past that place's parent.
use Rattle.std.proofs.Common.{◌≡◌, ◌∙◌, ℕ, ◌<◌, ◌≤◌, ◌⊎◌, inl, inr, Bool, true, false, List, [], ◌∷◌, length, slice_get, Contains, Option, Some, refl, sym, ap, subst, arith}
use Rattle.std.specs.Option.{option_map_or}
use Rattle.std.proofs.lemmas.Bool.{true≢false}
use Rattle.std.proofs.lemmas.Option.{same_Some, slice_get_within}
use Rattle.pls_configuration.specs.declared.row.NodeRow.{NodeRow}
use Rattle.pls_configuration.specs.Configuration.{IsNetwork, ids_of}
use Rattle.pls_configuration.specs.Walk.{Edge, Adjacent, AreJoined}
use Rattle.pls_graph.proofs.Finds.{item_at}
use Rattle.pls_graph.proofs.Joined.{Adjacent-turned, AreJoined-adjacent, AreJoined-through, along}
use Rattle.pls_graph.proofs.Members.{place_from_Contains}
use Rattle.pls_configuration.specs.WalkBy.{WalkBy}
use Rattle.pls_facts.specs.Parents.{ChainMeets}
use Rattle.pls_facts.proofs.NamedPlaces.{place_named}
use Rattle.pls_facts.proofs.Pointed.{row_from_id}
use Rattle.pls_graph.specs.Places.{place_in}
use Rattle.pls_search.specs.SubtreeSizes.{HasParentAt}
use Rattle.pls_centroid.specs.Centroid.{edges_without}
use Rattle.pls_centroid.specs.inner.Cut.{IsCut, id_at}
use Rattle.pls_centroid.proofs.Pieces.{adjacent-left, left-adjacent}

-- the identity at a place is that of its row
pub id_at-row : (rows : List NodeRow) (place : ℕ) (row : NodeRow) → slice_get rows place ≡ Some row
    → id_at rows place ≡ row.id
id_at-row rows place row at =
    ap (λ (found : Option NodeRow). option_map_or (λ row. row.id) found 0) at

-- an identity stands at a place
pub place_of_id : (rows : List NodeRow) (id : ℕ) → Contains (ids_of rows) id
    → (place : ℕ) × (place < length rows) × (id_at rows place ≡ id)
place_of_id rows id in' =
    let (row, row_in, is) : (row : NodeRow) × Contains rows row × (row.id ≡ id) =
    row_from_id rows id in' in
    let (place, at) : (place : ℕ) × (slice_get rows place ≡ Some row) =
    place_from_Contains rows row row_in in
    (place, slice_get_within rows place row at, id_at-row rows place row at ∙ is)

-- at two places stand two identities
pub one_place_of : (rows : List NodeRow) → IsNetwork rows → (place other : ℕ)
    → place < length rows → other < length rows → id_at rows place ≡ id_at rows other
    → place ≡ other
one_place_of rows net place other within inside same =
    let (row, at) : (row : NodeRow) × (slice_get rows place ≡ Some row) = item_at rows place within
    in
    let (also, there) : (row : NodeRow) × (slice_get rows other ≡ Some row) =
    item_at rows other inside in
    sym (place_named rows net place row at)
    ∙ ap (place_in rows) (sym (id_at-row rows place row at) ∙ same
    ∙ id_at-row rows other also there)
    ∙ place_named rows net other also there

module _ (rows : List NodeRow) (net : IsNetwork rows) (edges : List Edge)
    (known : (u v : ℕ) → Adjacent edges u v → Contains (ids_of rows) v)
    (parents : List (Option ℕ)) (cut : IsCut rows edges parents) where
  abbrev id : ℕ → ℕ
  id place = id_at rows place

  abbrev Up : ℕ → ℕ → Type 0
  Up = HasParentAt parents

  -- a place has one parent
  pub one_parent : (place one other : ℕ) → Up place one → Up place other → one ≡ other
  one_parent place one other first second =
      let same : Some one ≡ Some other = same_Some (Some one) (Some other) (sym first ∙ second) in
      same_Some one other same

  -- along a chain the depth falls
  pub chain_falls : (place last : ℕ) (nodes : List ℕ) → WalkBy Up place nodes last
      → cut.depth last ≤ cut.depth place
  chain_falls place last [] same = let e = ap cut.depth same in omega arith
  chain_falls place last (x ∷ nodes) chain =
      let step = (cut.to place x chain.0).2 in
      let rest = chain_falls x last nodes chain.1 in
      omega (arith, step, rest)

  module _ (taken : ℕ → Bool) (top : ℕ)
      (stays : (place : ℕ) → cut.depth top ≤ cut.depth place → place < length rows
      → taken (id place) ≡ false) where
    abbrev left : List Edge
    left = edges_without taken edges

    -- what leads up to the place, edges join that avoid what is taken away
    pub chain_joins : (place : ℕ) (nodes : List ℕ) → place < length rows
        → WalkBy Up place nodes top → AreJoined left (id place) (id top)
    chain_joins place [] within same = ([], ap id same)
    chain_joins place (x ∷ nodes) within chain =
        let step = cut.to place x chain.0 in
        let down = chain_falls place top (x ∷ nodes) chain in
        let rest = chain_falls x top nodes chain.1 in
        AreJoined-through left (id place) (id x) (id top)
        (AreJoined-adjacent left (id place) (id x)
        (adjacent-left taken edges (id place) (id x) step.1 (stays place down within)
        (stays x rest step.0)))
        (chain_joins x nodes step.0 chain.1)

    -- and the other way round, where the place's parent is taken away, if it has one
    module _ (inside : top < length rows)
        (stopped : (parent : ℕ) → Up top parent → taken (id parent) ≡ true) where
      abbrev Led : ℕ → Type 0
      Led u = (place : ℕ) → place < length rows → id place ≡ u → ChainMeets Up place top

      led_on : (u x : ℕ) → Led u → Adjacent left u x → Led x
      led_on u x led adjacent place within is =
          let whole = left-adjacent taken edges u x adjacent in
          let (other, other_in, named) : (place : ℕ) × (place < length rows)
          × (id_at rows place ≡ u) = place_of_id rows u
          (known x u (Adjacent-turned edges u x whole.0)) in
          let beside : Adjacent edges (id place) (id other) =
          subst (λ (x : ℕ). Adjacent edges x (id other)) (sym is)
          (subst (Adjacent edges x) (sym named) (Adjacent-turned edges u x whole.0)) in
          by other (led other other_in named) (cut.from place other within other_in beside)
          (ap taken is ∙ whole.2)
        where
          by : (other : ℕ) → ChainMeets Up other top → Up place other ⊎ Up other place
              → taken (id place) ≡ false → ChainMeets Up place top
          by other (nodes, chain) (inl up) out = (other ∷ nodes, (up, chain))
          by other ([], same) (inr down) out = absurd (true≢false
              (sym (stopped place (subst (λ (other : ℕ). Up other place) same down)) ∙ out))
          by other (y ∷ nodes, chain) (inr down) out = (
            nodes,
            subst (λ (y : ℕ). WalkBy Up y nodes top) (one_parent other y place chain.0 down)
                chain.1,
          )

      pub joined_chain : (place : ℕ) → place < length rows → AreJoined left (id top) (id place)
          → ChainMeets Up place top
      joined_chain place within joined = along left Led (λ u x led adjacent. led_on u x led
          adjacent)
          (id top) (id place) joined (λ other other_in same.
          ([], one_place_of rows net other top other_in inside same)) place within refl
