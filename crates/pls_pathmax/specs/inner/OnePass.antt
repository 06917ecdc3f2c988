-- What a node gathers in one pass over its ports: the rules, of which rule 5 is asked of some
-- levels alone.
use Rattle.std.specs.Prelude.{◌≡◌, ℕ, ◌≤◌, ◌+◌, ◌==◌, nat_le, nat_lt, Bool, true, false, not, ◌&&◌, ◌||◌, List, [], ◌∷◌, map, slice_get, slice_index_or, Option, Some, None}
use Rattle.std.specs.List.{enumerate_from, list_all, list_any, range_with_len}
use Rattle.std.specs.Option.{option_map_or}
use Rattle.pls_configuration.specs.declared.verdict.Verdict.{Verdict}
use Rattle.pls_configuration.specs.declared.verdict.Verdict.TheVariants.{Accept, Reject}
use Rattle.pls_labels.specs.Seen.{Seen}
use Rattle.pls_scheme.specs.Reading.{Read, ReadPort, read_ports, reading}
use Rattle.pls_centroid.specs.declared.level.CentroidLevel.{CentroidLevel}
use Rattle.pls_levels.specs.Rules.{is_placed_in_tree}
use Rattle.pls_pathmax.specs.declared.gathering.PortTally.{PortTally}
use Rattle.pls_pathmax.specs.declared.gathering.TheConstants.{WINDOW}
use Rattle.pls_pathmax.specs.Labels.{PathMaxLabel}
use Rattle.pls_pathmax.specs.Rules.{agrees_on_root, has_way, has_ways_to_centroids, leads_on, leads_on_at, other_edges_are_heavy}

-- the neighbour's level leads on from the own one, where there are both
abbrev pub leads_from : ℕ → Option CentroidLevel → Option CentroidLevel → Bool
leads_from weight None theirs = false
leads_from weight (Some mine) None = false
leads_from weight (Some mine) (Some theirs) = leads_on mine weight theirs

-- on the level of this number, if there is one, some port leads on
abbrev pub is_led_on : Read PathMaxLabel → ℕ → Bool
is_led_on view number = option_map_or (λ level.
    list_any (λ (numbered : ℕ × ReadPort PathMaxLabel).
    leads_on_at view number level numbered.0 numbered.1) (enumerate_from 0 view.ports))
    (slice_get view.own.levels number) false

-- so it is or not on the levels from this number on, as many as are asked in one pass
abbrev pub led_on_from : ℕ → Read PathMaxLabel → List Bool
led_on_from first view = map (λ k. is_led_on view (first + k)) (range_with_len 0 WINDOW)

-- the level of this number is one of those
abbrev pub is_in_window : ℕ → ℕ → Bool
is_in_window first number = nat_le first number && nat_lt number (first + WINDOW)

-- rule 5 of these levels
abbrev pub has_ways_from : ℕ → Read PathMaxLabel → Bool
has_ways_from first view = list_all (λ (numbered : ℕ × CentroidLevel).
    not (is_in_window first numbered.0) || has_way view numbered.0 numbered.1)
    (enumerate_from 0 view.own.levels)

-- the rules from 3 on, of which rule 5 is asked of these levels
abbrev pub one_pass_rules : ℕ → Read PathMaxLabel → List Bool
one_pass_rules first view = is_placed_in_tree view ∷ agrees_on_root view
    ∷ has_ways_from first view ∷ other_edges_are_heavy view ∷ []

-- which flags are set with one neighbour more, whose port is in the tree
abbrev pub with_leads : ℕ → ℕ → List CentroidLevel → List CentroidLevel → List Bool → List Bool
with_leads first weight mine theirs before = map (λ k. slice_index_or before k false
    || leads_from weight (slice_get mine (first + k)) (slice_get theirs (first + k)))
    (range_with_len 0 WINDOW)

-- what is gathered of the ports
abbrev pub gathered_from : ℕ → Read PathMaxLabel → PortTally
gathered_from first view = record {
  agrees = agrees_on_root view;
  heavy = other_edges_are_heavy view;
  led_on = led_on_from first view;
}

-- the verdict stands whatever rule 5 says of further levels
abbrev pub is_settled : Verdict → Bool
is_settled Accept = false
is_settled (Reject leaf rule) = nat_lt rule 6

-- the verdict is that rule 5 fails
abbrev pub is_by_rule_5 : Verdict → Bool
is_by_rule_5 Accept = false
is_by_rule_5 (Reject leaf rule) = rule == 5

-- all labels of a view are read, and the rules before rule 5 hold
pub record IsReadThrough (read : List Bool → Option PathMaxLabel) (view : Seen) (own : PathMaxLabel)
    (ports : List (ReadPort PathMaxLabel)) : Type 0 where
  pub own_read : read view.own ≡ Some own
  pub ports_read : read_ports read view.ports ≡ Some ports
  pub placed : is_placed_in_tree (reading view.id view.state own ports) ≡ true
  pub agrees : agrees_on_root (reading view.id view.state own ports) ≡ true

-- what is told is whether rule 5 holds on the levels behind those of the first pass
abbrev pub HaveFurtherWays : Read PathMaxLabel → Bool → Type 0
HaveFurtherWays view true = (number : ℕ) (level : CentroidLevel)
    → slice_get view.own.levels number ≡ Some level → WINDOW ≤ number
    → has_way view number level ≡ true
HaveFurtherWays view false = has_ways_to_centroids view ≡ false
