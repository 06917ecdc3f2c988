-- The one node that passes a test, as a loop over the rows finds it.
use Rattle.std.proofs.Common.{◌≡◌, ◌∙◌, ℕ, ◌+◌, ◌<◌, ◌≤◌, inl, inr, Bool, true, false, List, length, take, get_or, slice_get, Contains, Option, Some, None, option_map, refl, sym, ap, subst, arith, count_by, cond, is_some}
use Rattle.std.specs.List.{filter}
use Rattle.std.proofs.lemmas.List.{take_more}
use Rattle.std.proofs.lemmas.List.Elements.{Contains-push_cases}
use Rattle.std.proofs.lemmas.List.Sums.{count_by_more_no, count_by_more_yes, length-filter, sum_by_more_le}
use Rattle.std.proofs.lemmas.Option.{get_or_from_slice_get, slice_get_within}
use Rattle.pls_configuration.specs.declared.row.State.{State}
use Rattle.pls_configuration.specs.declared.row.NodeRow.{NodeRow}
use Rattle.pls_graph.proofs.Members.{Contains-filter}
use Rattle.pls_facts.specs.OnlyNode.{IsOnly, passing}
use Rattle.pls_facts.specs.inner.Found.{IsOnlyFound}

-- the row at a place, of which the identity and the state are known
record Shows (rows : List NodeRow) (i id : ℕ) (state : State) : Type 0 where
  row : NodeRow
  at : slice_get rows i ≡ Some row
  named : row.id ≡ id
  shown : row.state ≡ state

shows : (rows : List NodeRow) (i id : ℕ) (state : State)
    → option_map (λ row. row.id) (slice_get rows i) ≡ Some id
    → option_map (λ row. row.state) (slice_get rows i) ≡ Some state → Shows rows i id state
shows rows i id state id_is state_is = by (slice_get rows i) refl id_is state_is
  where
    by : (found : Option NodeRow) → slice_get rows i ≡ found
        → option_map (λ row. row.id) found ≡ Some id
        → option_map (λ row. row.state) found ≡ Some state → Shows rows i id state
    by None at a b = absurd (cc)
    by (Some row) at a b = record { row = row; at = at; named = cc; shown = cc }

module _ (test : State → Bool) where
  -- the test, of a row
  abbrev passes : NodeRow → Bool
  passes row = test row.state

  -- where none passes, no row does
  none_passes : (rows : List NodeRow) (row : NodeRow) → passing test rows ≡ 0 → Contains rows row
      → test row.state ≡ true → ⊥
  none_passes rows row none in' here =
      let found : Contains (filter passes rows) row = Contains-filter passes rows row in' here in
      omega (arith, length-filter passes rows, none, found.1)

  module _ (rows : List NodeRow) (i id : ℕ) (state : State)
      (id_is : option_map (λ row. row.id) (slice_get rows i) ≡ Some id)
      (state_is : option_map (λ row. row.state) (slice_get rows i) ≡ Some state) where
    here : Shows rows i id state
    here = shows rows i id state id_is state_is

    within : i < length rows
    within = slice_get_within rows i here.row here.at

    at_place : get_or rows i here.row ≡ here.row
    at_place = get_or_from_slice_get rows i here.row here.row here.at

    -- whether the row at the place passes
    tells : (answer : Bool) → test state ≡ answer → passes (get_or rows i here.row) ≡ answer
    tells answer is = ap passes at_place ∙ ap test here.shown ∙ is

    -- what holds of the rows that pass before the place and of the one at it holds up to it
    one_more : (only : ℕ)
        → ((row : NodeRow) → Contains (take i rows) row → test row.state ≡ true → row.id ≡ only)
        → (test state ≡ true → id ≡ only)
        → (row : NodeRow) → Contains (take (i + 1) rows) row → test row.state ≡ true
        → row.id ≡ only
    one_more only before now row in' pass =
        elim (Contains-push_cases (take i rows) (get_or rows i here.row) row
        (subst (λ (rows : List NodeRow). Contains rows row) (take_more rows i here.row within)
        in')) [
          | inl earlier ↦ before row earlier pass
          | inr same ↦
              let is : here.row ≡ row = sym at_place ∙ same in
              let passes_here : test state ≡ true =
              ap test (sym here.shown) ∙ ap passes is ∙ pass in
              ap (λ (row : NodeRow). row.id) (sym is) ∙ here.named ∙ now passes_here
        ]

    -- a row that does not pass is passed over
    pub found_stays : (only : Option ℕ) → IsOnlyFound test (take i rows) only
        → test state ≡ false → IsOnlyFound test (take (i + 1) rows) only
    found_stays None none fails =
        count_by_more_no passes rows i here.row within (tells false fails) ∙ none
    found_stays (Some only) found fails = record {
      one = count_by_more_no passes rows i here.row within (tells false fails) ∙ found.one;
      named = one_more only found.named (λ pass. absurd (cc));
    }

    -- the first row that passes is the one
    pub found_first : (only : Option ℕ) → IsOnlyFound test (take i rows) only
        → is_some only ≡ false → test state ≡ true → IsOnly test (take (i + 1) rows) id
    found_first (Some only) found none pass = absurd (cc)
    found_first None none unknown pass = record {
      one = omega (arith, count_by_more_yes passes rows i here.row within (tells true pass), none);
      named = one_more id
          (λ row in' other. absurd (none_passes (take i rows) row none in' other)) (λ _. refl);
    }

    -- where another comes after it, there are two
    pub found_twice : (only : Option ℕ) → IsOnlyFound test (take i rows) only
        → is_some only ≡ true → test state ≡ true → passing test rows ≡ 1 → ⊥
    found_twice None none known pass one = absurd (cc)
    found_twice (Some only) found known pass one =
        let all : count_by passes (take i rows) + cond (passes (get_or rows i here.row)) 1 0 ≤
        count_by passes rows =
        sum_by_more_le (λ row. cond (passes row) 1 0) rows i here.row within in
        let two : count_by passes (take i rows) + 1 ≤ count_by passes rows =
        rw (tells true pass) at all in
        omega (arith, two, found.one, one)
