-- The rules of `mst` as tests, and what they say level by level.
use Rattle.std.proofs.Common.{◌≡◌, ◌∙◌, ℕ, ◌<◌, ◌==◌, ◌⊎◌, inl, inr, true, not, ◌||◌, List, length, map, slice_get, Contains, Option, Some, None, is_some, refl, sym, ap}
use Rattle.std.specs.Option.{option_and_then, option_map}
use Rattle.std.proofs.lemmas.Bool.{and_parts, cond-false, cond-true, eq-eqb, eqb-true, eqb-false, ne_eqb, not-true, or_cases}
use Rattle.std.proofs.lemmas.List.Sums.{AllPass-from_list_all}
use Rattle.std.proofs.lemmas.Option.{slice_get-map}
use Rattle.pls_configuration.specs.declared.row.Port.{Port}
use Rattle.pls_configuration.specs.declared.row.NodeRow.{NodeRow}
use Rattle.pls_configuration.specs.Configuration.{IsNetwork}
use Rattle.pls_graph.proofs.Members.{Contains-from_place, place_from_Contains}
use Rattle.pls_scheme.specs.Judging.{AllHold}
use Rattle.pls_scheme.specs.Reading.{ReadPort, port_where, read_where}
use Rattle.pls_scheme.proofs.SaidPorts.{passes_port}
use Rattle.pls_facts.specs.EdgeOrder.{edge_key, is_same_edge}
use Rattle.pls_facts.specs.Pointer.{pointed_node, pointed_port}
use Rattle.pls_facts.proofs.EdgeKeys.{same-is_same_edge}
use Rattle.pls_facts.proofs.Pointed.{pointed_port_of}
use Rattle.pls_boruvka.specs.declared.level.Level.{Level}
use Rattle.pls_levels.specs.laws.Levelwise.{passes_from_0}
use Rattle.pls_levels.specs.laws.Placed.{asked_of_target, placed_by_test, without_pointer}
use Rattle.pls_mst.specs.Labels.{MstLabel}
use Rattle.pls_mst.specs.Rules.{names_root_and_levels, chose_least, chose_least_at, edge_to, is_at_most, is_chosen_between, is_named_or_shared, is_one_fragment, mst_rules, names_all_fragments, on_each_level, on_some_level, shares_with_target}
use Rattle.pls_mst.specs.laws.Fragments.{KeepsRules, chosen_at, fragment_at, level_at, no_level, told_edge, told_outside}
use Rattle.pls_mst.specs.laws.Levelwise.{IsAtMost-test, passes_at, passes_somewhere}

module _ (say : ℕ → MstLabel) (row : NodeRow) where
  abbrev mine : MstLabel
  mine = say row.id

  -- the tests give what the rules say
  pub kept_rules : (rows : List NodeRow) → IsNetwork rows → Contains rows row
      → AllHold (mst_rules (read_where say row)) → KeepsRules say row
  kept_rules rows net in' hold = record {
    placed = placed_by_test say row hold.0;
    alike = alike;
    named = λ level within. by_pointer level within row.state.up refl;
    agrees = λ level port within has same.
        let (number, at) : (number : ℕ) × (slice_get row.ports number ≡ Some port) =
        place_from_Contains row.ports port has in
        same-is_same_edge (chosen_at say level row.id) (chosen_at say level port.nbr)
        (sym (cond-true (fragment_at say level row.id == fragment_at say level port.nbr)
        (is_same_edge (chosen_at say level row.id) (chosen_at say level port.nbr))
        (is_at_most (edge_key (chosen_at say level row.id) 0)
        (edge_key (told_edge say row port) (told_outside say row number port)))
        (eq-eqb (fragment_at say level row.id) (fragment_at say level port.nbr) same))
        ∙ least_at level number port within has at);
    least = λ level number port within at apart. IsAtMost-test
        (edge_key (chosen_at say level row.id) 0)
        (edge_key (told_edge say row port) (told_outside say row number port))
        (sym (cond-false (fragment_at say level row.id == fragment_at say level port.nbr)
        (is_same_edge (chosen_at say level row.id) (chosen_at say level port.nbr))
        (is_at_most (edge_key (chosen_at say level row.id) 0)
        (edge_key (told_edge say row port) (told_outside say row number port)))
        (ne_eqb (fragment_at say level row.id) (fragment_at say level port.nbr) apart))
        ∙ least_at level number port within (Contains-from_place row.ports number port at) at);
    chosen = λ port pointed.
        let (level, within, passes) : (level : ℕ) × (level < length mine.levels)
        × (is_chosen_between (told_edge say row port) (level_at say level row.id)
        (level_at say level port.nbr) ≡ true) =
        passes_somewhere (is_chosen_between (told_edge say row port)) mine.levels
        (say port.nbr).levels no_level no_level
        (asked_of_target say row (λ (port : ReadPort MstLabel). on_some_level
        (is_chosen_between (edge_to mine port)) mine.levels port.label.levels) hold.1.1.1.1.0 port
        pointed) in
        let parts = and_parts
        (not (is_one_fragment (level_at say level row.id) (level_at say level port.nbr)))
        (is_same_edge (chosen_at say level row.id) (told_edge say row port)
        || is_same_edge (chosen_at say level port.nbr) (told_edge say row port)) passes in (
          level,
          within,
          eqb-false (fragment_at say level row.id) (fragment_at say level port.nbr)
              (not-true (is_one_fragment (level_at say level row.id) (level_at say level port.nbr))
              parts.0),
          elim (or_cases (is_same_edge (chosen_at say level row.id) (told_edge say row port))
              (is_same_edge (chosen_at say level port.nbr) (told_edge say row port)) parts.1) [
                | inl own ↦ inl (same-is_same_edge (chosen_at say level row.id)
                    (told_edge say row port) own)
                | inr theirs ↦ inr (same-is_same_edge (chosen_at say level port.nbr)
                    (told_edge say row port) theirs)
              ],
        );
  }
    where
      alike : (port : Port) → Contains row.ports port → ((say port.nbr).root ≡ mine.root)
          × (length (say port.nbr).levels ≡ length mine.levels)
      alike port has =
          let both = and_parts ((say port.nbr).root == mine.root)
          (length (say port.nbr).levels == length mine.levels)
          (passes_port (names_root_and_levels mine) say row.ports hold.1.0 port has) in (
            eqb-true (say port.nbr).root mine.root both.0,
            eqb-true (length (say port.nbr).levels) (length mine.levels) both.1,
          )

      -- rule 5, by whether the node points at a port
      by_pointer : (level : ℕ) → level < length mine.levels → (up : Option ℕ) → row.state.up ≡ up
          → (fragment_at say level row.id ≡ mine.own) ⊎ ((port : Port)
          × (pointed_port row ≡ Some port)
          × (fragment_at say level row.id ≡ fragment_at say level port.nbr))
      by_pointer level within None none =
          let names : names_all_fragments mine ≡ true = without_pointer say row (names_all_fragments mine)
          (and_parts (is_some row.state.up || names_all_fragments mine)
          (shares_with_target (read_where say row)) hold.1.1.0).0 none in
          inl (eqb-true (fragment_at say level row.id) mine.own
          (AllPass-from_list_all (λ (level : Level). level.fragment == mine.own) mine.levels names level
          no_level within))
      by_pointer level within (Some number) up =
          let (port, has, onward) : (port : Port) × (slice_get row.ports number ≡ Some port)
          × (pointed_node rows row.id ≡ Some port.nbr) = pointed_port_of rows net row in' number up in
          let pointed : pointed_port row ≡ Some port =
          ap (option_and_then (slice_get row.ports)) up ∙ has in
          let passes = passes_at (is_named_or_shared mine.own) mine.levels (say port.nbr).levels
          (asked_of_target say row (λ (port : ReadPort MstLabel). on_each_level
          (is_named_or_shared mine.own) mine.levels port.label.levels)
          (and_parts (is_some row.state.up || names_all_fragments mine)
          (shares_with_target (read_where say row)) hold.1.1.0).1 port pointed)
          (alike port (Contains-from_place row.ports number port has)).1 level no_level no_level
          within in
          elim (or_cases (fragment_at say level row.id == mine.own)
          (fragment_at say level row.id == fragment_at say level port.nbr) passes) [
            | inl own ↦ inl (eqb-true (fragment_at say level row.id) mine.own own)
            | inr shared ↦ inr (
              port,
              pointed,
              eqb-true (fragment_at say level row.id) (fragment_at say level port.nbr) shared,
            )
          ]

      -- rule 6, at a level and a port
      least_at : (level number : ℕ) (port : Port) → level < length mine.levels
          → Contains row.ports port → slice_get row.ports number ≡ Some port
          → chose_least (told_edge say row port) (told_outside say row number port)
          (level_at say level row.id) (level_at say level port.nbr) ≡ true
      least_at level number port within has at =
          passes_at (chose_least (told_edge say row port) (told_outside say row number port))
          mine.levels (say port.nbr).levels
          (passes_from_0 (chose_least_at (read_where say row))
          (map (port_where say) row.ports) hold.1.1.1.0 number (port_where say port)
          (slice_get-map (port_where say) row.ports number
          ∙ ap (option_map (port_where say)) at))
          (alike port has).1 level no_level no_level within
