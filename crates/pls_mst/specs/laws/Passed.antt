-- What the rules of `mst` say level by level gives the tests.
use Rattle.std.proofs.Common.{◌≡◌, ◌≢◌, ◌∙◌, ℕ, ◌<◌, ◌==◌, ◌⊎◌, inl, inr, true, not, ◌||◌, length, get_or, map, slice_get, Option, Some, None, is_some, sym, ap, subst}
use Rattle.std.specs.Option.{option_and_then}
use Rattle.std.proofs.lemmas.Bool.{and_from, cases_eq, cond-false, cond-true, eq-eqb, ne_eqb, not_from_false, or_left, or_right}
use Rattle.std.proofs.lemmas.List.{get_or_default}
use Rattle.std.proofs.lemmas.List.Sums.{list_all-from_AllPass}
use Rattle.std.proofs.lemmas.Option.{same_Some, slice_get-map}
use Rattle.pls_configuration.specs.declared.row.Port.{Port}
use Rattle.pls_configuration.specs.declared.row.NodeRow.{NodeRow}
use Rattle.pls_graph.proofs.Finds.{from_option_map}
use Rattle.pls_graph.proofs.Members.{Contains-from_place}
use Rattle.pls_scheme.specs.Judging.{AllHold}
use Rattle.pls_scheme.specs.Reading.{ReadPort, port_where, read_where}
use Rattle.pls_scheme.proofs.SaidPorts.{all_ports_pass}
use Rattle.pls_facts.specs.EdgeOrder.{edge_key, is_same_edge}
use Rattle.pls_facts.specs.Pointer.{pointed_port}
use Rattle.pls_facts.proofs.EdgeKeys.{is_same_edge-itself}
use Rattle.pls_pointer.specs.laws.PointingLaws.{points_or}
use Rattle.pls_configuration.specs.Walk.{Edge}
use Rattle.pls_boruvka.specs.declared.level.Level.{Level}
use Rattle.pls_levels.specs.laws.InTree.{pointed_has}
use Rattle.pls_levels.specs.laws.Levelwise.{all_from_0}
use Rattle.pls_levels.specs.laws.Placed.{of_target, test_of_placed}
use Rattle.pls_mst.specs.Labels.{MstLabel}
use Rattle.pls_mst.specs.Rules.{names_root_and_levels, chose_least, chose_least_at, edge_to, is_at_most, is_chosen_between, is_named_or_shared, is_one_fragment, mst_rules, names_all_fragments, on_each_level, on_some_level, shares_with_target}
use Rattle.pls_mst.specs.laws.Fragments.{KeepsRules, chosen_at, fragment_at, level_at, no_level, told_edge, told_outside}
use Rattle.pls_mst.specs.laws.Levelwise.{all_pass, some_passes, test-IsAtMost}

-- edges that are the same pass the test
same_edge : (one other : Edge) → one ≡ other → is_same_edge one other ≡ true
same_edge one other same =
    subst (λ (other : Edge). is_same_edge one other ≡ true) same (is_same_edge-itself one)

module _ (say : ℕ → MstLabel) (row : NodeRow) (keeps : KeepsRules say row) where
  abbrev mine : MstLabel
  mine = say row.id

  -- a node without pointer points at no port
  points_nowhere : row.state.up ≡ None → (port : Port) → pointed_port row ≡ Some port → ⊥
  points_nowhere none port pointed =
      let no : None ≡ Some port =
      sym (ap (λ (up : Option ℕ). option_and_then (slice_get row.ports) up) none) ∙ pointed in
      absurd (cc)

  names_all : row.state.up ≡ None → names_all_fragments mine ≡ true
  names_all none =
      list_all-from_AllPass (λ (level : Level). level.fragment == mine.own) mine.levels
      (λ i d within. eq-eqb (get_or mine.levels i d).fragment mine.own
      (ap (λ (level : Level). level.fragment) (get_or_default mine.levels i d no_level within)
      ∙ elim (keeps.named i within) [
        | inl own ↦ own
        | inr onward ↦ absurd (points_nowhere none onward.0 onward.1)
      ]))

  shares : shares_with_target (read_where say row) ≡ true
  shares = of_target say row (λ (port : ReadPort MstLabel).
      on_each_level (is_named_or_shared mine.own) mine.levels port.label.levels)
      (λ port pointed. all_pass (is_named_or_shared mine.own) mine.levels (say port.nbr).levels
      no_level no_level (λ i within also. at i port within pointed (keeps.named i within)))
    where
      at : (i : ℕ) (port : Port) → i < length mine.levels → pointed_port row ≡ Some port
          → (fragment_at say i row.id ≡ mine.own) ⊎ ((port : Port)
          × (pointed_port row ≡ Some port)
          × (fragment_at say i row.id ≡ fragment_at say i port.nbr))
          → is_named_or_shared mine.own (level_at say i row.id) (level_at say i port.nbr) ≡ true
      at i port within pointed (inl own) = or_left (fragment_at say i row.id == mine.own)
          (fragment_at say i row.id == fragment_at say i port.nbr)
          (eq-eqb (fragment_at say i row.id) mine.own own)
      at i port within pointed (inr (onward, also, same)) =
          let one : onward ≡ port = same_Some onward port (sym also ∙ pointed) in
          or_right (fragment_at say i row.id == mine.own)
          (fragment_at say i row.id == fragment_at say i port.nbr)
          (eq-eqb (fragment_at say i row.id) (fragment_at say i port.nbr)
          (same ∙ ap (λ (port : Port). fragment_at say i port.nbr) one))

  least_at : (number : ℕ) (port : Port) → slice_get row.ports number ≡ Some port
      → chose_least_at (read_where say row) number (port_where say port) ≡ true
  least_at number port at =
      all_pass (chose_least (told_edge say row port) (told_outside say row number port)) mine.levels
      (say port.nbr).levels no_level no_level (λ i within also.
      by i within (cases_eq (fragment_at say i row.id) (fragment_at say i port.nbr)))
    where
      by : (i : ℕ) → i < length mine.levels
          → (fragment_at say i row.id ≡ fragment_at say i port.nbr)
          ⊎ (fragment_at say i row.id ≢ fragment_at say i port.nbr)
          → chose_least (told_edge say row port) (told_outside say row number port)
          (level_at say i row.id) (level_at say i port.nbr) ≡ true
      by i within (inl same) =
          cond-true (fragment_at say i row.id == fragment_at say i port.nbr)
          (is_same_edge (chosen_at say i row.id) (chosen_at say i port.nbr))
          (is_at_most (edge_key (chosen_at say i row.id) 0)
          (edge_key (told_edge say row port) (told_outside say row number port)))
          (eq-eqb (fragment_at say i row.id) (fragment_at say i port.nbr) same)
          ∙ same_edge (chosen_at say i row.id) (chosen_at say i port.nbr)
          (keeps.agrees i port within (Contains-from_place row.ports number port at) same)
      by i within (inr apart) =
          cond-false (fragment_at say i row.id == fragment_at say i port.nbr)
          (is_same_edge (chosen_at say i row.id) (chosen_at say i port.nbr))
          (is_at_most (edge_key (chosen_at say i row.id) 0)
          (edge_key (told_edge say row port) (told_outside say row number port)))
          (ne_eqb (fragment_at say i row.id) (fragment_at say i port.nbr) apart)
          ∙ test-IsAtMost (edge_key (chosen_at say i row.id) 0)
          (edge_key (told_edge say row port) (told_outside say row number port))
          (keeps.least i number port within at apart)

  chosen : (port : Port) → pointed_port row ≡ Some port
      → on_some_level (is_chosen_between (told_edge say row port)) mine.levels
      (say port.nbr).levels ≡ true
  chosen port pointed =
      let (i, within, apart, which) : (i : ℕ) × (i < length mine.levels)
      × (fragment_at say i row.id ≢ fragment_at say i port.nbr)
      × ((chosen_at say i row.id ≡ told_edge say row port)
      ⊎ (chosen_at say i port.nbr ≡ told_edge say row port)) = keeps.chosen port pointed in
      some_passes (is_chosen_between (told_edge say row port)) mine.levels (say port.nbr).levels i
      no_level no_level within (keeps.alike port (pointed_has row port pointed)).1
      (and_from (not (is_one_fragment (level_at say i row.id) (level_at say i port.nbr)))
      (is_same_edge (chosen_at say i row.id) (told_edge say row port)
      || is_same_edge (chosen_at say i port.nbr) (told_edge say row port))
      (not_from_false (is_one_fragment (level_at say i row.id) (level_at say i port.nbr))
      (ne_eqb (fragment_at say i row.id) (fragment_at say i port.nbr) apart))
      (elim which [
        | inl own ↦ or_left (is_same_edge (chosen_at say i row.id) (told_edge say row port))
            (is_same_edge (chosen_at say i port.nbr) (told_edge say row port))
            (same_edge (chosen_at say i row.id) (told_edge say row port) own)
        | inr theirs ↦ or_right (is_same_edge (chosen_at say i row.id) (told_edge say row port))
            (is_same_edge (chosen_at say i port.nbr) (told_edge say row port))
            (same_edge (chosen_at say i port.nbr) (told_edge say row port) theirs)
      ]))

  -- what the rules say gives the tests
  pub rules_pass : AllHold (mst_rules (read_where say row))
  rules_pass = (
    test_of_placed say row keeps.placed,
    (
      all_ports_pass (names_root_and_levels mine) say row.ports (λ port has.
          let is = keeps.alike port has in
          and_from ((say port.nbr).root == mine.root)
          (length (say port.nbr).levels == length mine.levels)
          (eq-eqb (say port.nbr).root mine.root is.0)
          (eq-eqb (length (say port.nbr).levels) (length mine.levels) is.1)),
      (
        and_from (is_some row.state.up || names_all_fragments mine)
            (shares_with_target (read_where say row))
            (points_or row (names_all_fragments mine) names_all) shares,
        (
          all_from_0 (chose_least_at (read_where say row)) (map (port_where say) row.ports)
              (λ number read at.
              let (port, has, is) : (port : Port) × (slice_get row.ports number ≡ Some port)
              × (port_where say port ≡ read) =
              from_option_map (port_where say) (slice_get row.ports number) read
              (sym (slice_get-map (port_where say) row.ports number) ∙ at) in
              subst (λ (read : ReadPort MstLabel).
              chose_least_at (read_where say row) number read ≡ true) is
              (least_at number port has)),
          (
            of_target say row (λ (port : ReadPort MstLabel). on_some_level
                (is_chosen_between (edge_to mine port)) mine.levels port.label.levels) chosen,
            tt,
          ),
        ),
      ),
    ),
  )
