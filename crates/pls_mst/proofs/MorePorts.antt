-- What a node has gathered with one more port.
use Rattle.std.proofs.Common.{◌≡◌, ◌∙◌, ℕ, Bool, true, false, ◌&&◌, if◌then◌else◌, List, [], ◌∷◌, ◌++◌, length, Option, Some, None, option_map, slice_get, refl, sym, ap}
use Rattle.std.specs.List.{enumerate_from, list_all}
use Rattle.std.specs.Option.{option_and_then, option_map_or}
use Rattle.pls_configuration.specs.declared.row.State.{State}
use Rattle.pls_scheme.specs.Reading.{Read, ReadPort, is_pointer, label_above, port_with, reading}
use Rattle.pls_scheme.proofs.MorePorts.{all_more, at_pointer_more, numbered_from_0}
use Rattle.pls_mst.specs.declared.comparing.LevelComparison.{LevelComparison}
use Rattle.pls_mst.specs.declared.comparing.PortEdge.{PortEdge}
use Rattle.pls_mst.specs.declared.gathering.PortTally.{PortTally}
use Rattle.pls_mst.specs.declared.glance.MstGlance.{MstGlance}
use Rattle.pls_levels.specs.declared.label.LevelHead.{LevelHead}
use Rattle.pls_levels.specs.Labels.{head_of}
use Rattle.pls_mst.specs.Labels.{MstLabel, mst_levels}
use Rattle.pls_mst.specs.Rules.{agrees_on_root_and_levels, names_root_and_levels, chose_least_at, chosen_edges_are_least, edge_to, is_chosen_between, is_named_or_shared, on_each_level, on_some_level}
use Rattle.pls_mst.specs.inner.Comparing.{CountsAs, compared}
use Rattle.pls_mst.specs.inner.Gathering.{mst_tally, mst_tally_with, port_edge}
use Rattle.pls_mst.specs.inner.Glance.{glance_of}
use Rattle.pls_mst.specs.inner.Reading.{head_said}
use Rattle.pls_mst.proofs.Comparisons.{three}

-- what does not count is not gathered
gathered_alike : (pointer : Bool) (mine head : LevelHead) (both said : LevelComparison)
    (was : PortTally) → CountsAs pointer both said
    → mst_tally_with pointer mine head both was ≡ mst_tally_with pointer mine head said was
gathered_alike true mine head both said was (least, same) =
    ap (λ (both : LevelComparison). mst_tally_with true mine head both was) (same refl)
gathered_alike false mine head both said was (least, same) =
    ap (λ (b : Bool). mst_tally_with false mine head (three true b true) was) least

module _ (id : ℕ) (state : State) (own : MstLabel) (ports : List (ReadPort MstLabel)) (weight : ℕ)
    (theirs : MstLabel) where
  abbrev port : ReadPort MstLabel
  port = port_with weight theirs

  abbrev before : Read MstLabel
  before = reading id state own ports

  abbrev after : Read MstLabel
  after = reading id state own (ports ++ port ∷ [])

  abbrev here : Bool
  here = is_pointer state.up (length ports)

  -- the edge to the neighbour
  abbrev pub edge : PortEdge
  edge = port_edge here weight (head_said own) (head_said theirs)

  -- what is asked of the target, with one more port
  at_target : (test : ReadPort MstLabel → Bool)
      → option_map_or test (option_and_then (slice_get (ports ++ port ∷ [])) state.up) true
      ≡ (if here then test port
      else option_map_or test (option_and_then (slice_get ports) state.up) true)
  at_target test =
      ap (λ (read : Option (ReadPort MstLabel)). option_map_or test read true)
      (at_pointer_more ports port state.up)
      ∙ by here
    where
      by : (here : Bool) → option_map_or test
          (if here then Some port else option_and_then (slice_get ports) state.up) true
          ≡ (if here then test port
          else option_map_or test (option_and_then (slice_get ports) state.up) true)
      by true = refl
      by false = refl

  pub more_gathered : mst_tally after ≡ mst_tally_with here (head_said own) (head_said theirs)
      (compared edge own.own own.levels theirs.levels) (mst_tally before)
  more_gathered =
      let Numbered : Type 0 = ℕ × ReadPort MstLabel in
      let least : Numbered → Bool = λ numbered. chose_least_at before numbered.0 numbered.1 in
      let shares = at_target (λ port.
      on_each_level (is_named_or_shared own.own) own.levels port.label.levels) in
      let chosen = at_target (λ port.
      on_some_level (is_chosen_between (edge_to own port)) own.levels port.label.levels) in
      let agrees : agrees_on_root_and_levels after
      ≡ (agrees_on_root_and_levels before && names_root_and_levels own port) =
      all_more (names_root_and_levels own) ports port in
      let last : Numbered = (length ports, port) in
      let leasts : chosen_edges_are_least after
      ≡ (chosen_edges_are_least before && chose_least_at before (length ports) port) =
      ap (list_all least) (numbered_from_0 ports port)
      ∙ all_more least (enumerate_from 0 ports) last in
      rw (agrees, shares, leasts, chosen) refl

  -- what is gathered of the port, by what stands in front of the two labels
  pub is_gathered : (pointer : Bool) (mine head : LevelHead) (to : PortEdge)
      (both : LevelComparison) (was is : PortTally) → pointer ≡ here → head_said own ≡ mine
      → head_said theirs ≡ head → was ≡ mst_tally before → to ≡ port_edge pointer weight mine head
      → CountsAs pointer both (compared to own.own own.levels theirs.levels)
      → is ≡ mst_tally_with pointer mine head both was → is ≡ mst_tally after
  is_gathered pointer mine head to both was is pointer_is mine_is head_is was_is to_is both_is
      is_more =
      let edge_is : to ≡ edge = to_is ∙ rw (pointer_is, sym mine_is, sym head_is) refl in
      is_more
      ∙ gathered_alike pointer mine head both (compared to own.own own.levels theirs.levels) was
      both_is
      ∙ ap (λ (to : PortEdge). mst_tally_with pointer mine head
      (compared to own.own own.levels theirs.levels) was) edge_is
      ∙ rw (pointer_is, sym mine_is, sym head_is, was_is) (sym more_gathered)

-- what stands in front of the levels in the label above, by what is kept of that label
pub head_kept : (state : State) (ports : List (ReadPort MstLabel)) (glance : Option MstGlance)
    (head : Option LevelHead) → head ≡ option_map (λ (glance : MstGlance). glance.head) glance
    → glance ≡ option_map glance_of (label_above ports state.up)
    → head ≡ option_map (head_of mst_levels) (label_above ports state.up)
head_kept state ports glance head head_is glance_is =
    head_is ∙ ap (option_map (λ (glance : MstGlance). glance.head)) glance_is
    ∙ by (label_above ports state.up)
  where
    by : (label : Option MstLabel)
        → option_map (λ (glance : MstGlance). glance.head) (option_map glance_of label)
        ≡ option_map (head_of mst_levels) label
    by None = refl
    by (Some label) = refl
