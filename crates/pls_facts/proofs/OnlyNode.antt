-- The identities of a network ascend, and exactly one node passes a test of its state.
use Rattle.std.proofs.Common.{◌≡◌, ◌∙◌, ℕ, ◌<◌, inl, inr, Bool, true, List, [], ◌∷◌, length, Contains, Some, sym, subst, arith, get_or, slice_get}
use Rattle.std.specs.List.{AllPairs, filter}
use Rattle.std.proofs.lemmas.List.{get_or-map, length-map}
use Rattle.std.proofs.lemmas.Option.{slice_get-get_or}
use Rattle.pls_configuration.specs.declared.row.State.{State}
use Rattle.pls_configuration.specs.declared.row.NodeRow.{NodeRow}
use Rattle.pls_configuration.specs.Configuration.{IsNetwork, ids_of}
use Rattle.pls_graph.proofs.Finds.{item_at}
use Rattle.pls_graph.proofs.Members.{Contains-cons_cases, Contains-filter, Contains-first, Contains-from_filter}
use Rattle.pls_graph.proofs.Placed.{ids_rise}
use Rattle.pls_facts.specs.OnlyNode.{passing}
use Rattle.pls_facts.specs.SpanningTree.{AreDistinct}
use Rattle.pls_facts.proofs.Filtered.{filter-one, count_by-one}

-- of each two rows of a network the later has the greater identity
pub ids_ascend : (rows : List NodeRow) → IsNetwork rows
    → AllPairs (λ row later. row.id < later.id) rows
ids_ascend rows net i j d before within =
    ids_rise rows net i j (get_or rows i d) (get_or rows j d) before
    (slice_get-get_or rows i d (omega (arith, before, within))) (slice_get-get_or rows j d within)

-- so its identities are distinct
pub ids_distinct : (rows : List NodeRow) → IsNetwork rows → AreDistinct (ids_of rows)
ids_distinct rows net i j d before within same =
    let some : (row : NodeRow) × (slice_get rows 0 ≡ Some row) =
    item_at rows 0 net.limits.some in
    let name : NodeRow → ℕ = λ row. row.id in
    let inside : j < length rows = omega (arith, within, length-map rows name) in
    let first = get_or-map name rows i some.0 d (omega (arith, before, inside)) in
    let second = get_or-map name rows j some.0 d inside in
    let rise = ids_ascend rows net i j some.0 before inside in
    omega (arith, same, first, second, rise)

module _ (test : State → Bool) (rows : List NodeRow) where
  -- the test, of a row
  abbrev passes : NodeRow → Bool
  passes row = test row.state

  -- where one node passes, here is one
  pub the_only : passing test rows ≡ 1
      → (row : NodeRow) × Contains rows row × (test row.state ≡ true)
  the_only one =
      let (row, kept) : (row : NodeRow) × (filter passes rows ≡ row ∷ []) =
      filter-one passes rows one in
      let found : Contains rows row × (passes row ≡ true) = Contains-from_filter passes rows row
      (subst (λ (kept : List NodeRow). Contains kept row) (sym kept) (Contains-first row [])) in
      (row, found.0, found.1)

  -- where one node passes, any two that do are that one
  pub only_of : passing test rows ≡ 1 → (row other : NodeRow) → Contains rows row
      → Contains rows other → test row.state ≡ true → test other.state ≡ true → row ≡ other
  only_of one row other is_in other_in here there = sym (same row is_in here) ∙ same other other_in
      there
    where
      kept : (row : NodeRow) × (filter passes rows ≡ row ∷ [])
      kept = filter-one passes rows one

      same : (row : NodeRow) → Contains rows row → test row.state ≡ true → kept.0 ≡ row
      same row is_in here =
          let found : Contains (kept.0 ∷ []) row =
          subst (λ (kept : List NodeRow). Contains kept row)
          kept.1 (Contains-filter passes rows row is_in here) in
          elim (Contains-cons_cases kept.0 [] row found) [
            | inl e ↦ e
            | inr later ↦ absurd (omega (arith, later.1))
          ]

  -- where a node of a network passes and all that do have one identity, one passes
  pub only_from : IsNetwork rows → (id : ℕ)
      → ((row : NodeRow) → Contains rows row → test row.state ≡ true → row.id ≡ id)
      → (row : NodeRow) → Contains rows row → test row.state ≡ true → passing test rows ≡ 1
  only_from net id same row is_in here =
      count_by-one passes rows (λ row later. row.id < later.id) (ids_ascend rows net)
      (λ row later is_in later_in here there rise.
      let one = same row is_in here in
      let two = same later later_in there in
      omega (arith, one, two, rise))
      row is_in here
