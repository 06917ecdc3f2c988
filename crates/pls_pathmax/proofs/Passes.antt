-- The verdict by all rules, by those of passes in which rule 5 is asked of some levels alone.
use Rattle.std.proofs.Common.{◌≡◌, ◌∙◌, ℕ, inl, inr, Bool, true, false, List, [], ◌∷◌, Option, Some, None, refl, sym, ap, arith}
use Rattle.std.proofs.lemmas.Bool.{cases_Bool, cases_lt, true≢false}
use Rattle.pls_configuration.specs.declared.verdict.Verdict.{Verdict}
use Rattle.pls_configuration.specs.declared.verdict.Verdict.TheVariants.{Reject}
use Rattle.pls_labels.specs.Seen.{Seen}
use Rattle.pls_scheme.specs.Judging.{judged_from}
use Rattle.pls_scheme.specs.Reading.{Read, ReadPort, judge_by, judged_read, read_ports, reading}
use Rattle.pls_scheme.specs.laws.Readings.{judged_by_rules}
use Rattle.pls_pathmax.specs.declared.gathering.TheConstants.{WINDOW}
use Rattle.pls_pathmax.specs.Labels.{PathMaxLabel}
use Rattle.pls_levels.specs.Rules.{is_placed_in_tree}
use Rattle.pls_pathmax.specs.Rules.{agrees_on_root, has_ways_to_centroids, other_edges_are_heavy, pathmax_rules}
use Rattle.pls_pathmax.specs.inner.OnePass.{HaveFurtherWays, IsReadThrough, has_ways_from, is_by_rule_5, is_settled, one_pass_rules}
use Rattle.pls_pathmax.proofs.Windows.{to_window, whole_from, whole_window}

-- the verdict by four rules
abbrev pub verdict_of : Bool → Bool → Bool → Bool → Verdict
verdict_of placed agrees ways heavy =
    judged_from 3 (placed ∷ agrees ∷ ways ∷ heavy ∷ [])

-- what was settled by some of the levels is settled
settled_ways : (placed agrees some all heavy : Bool) → (all ≡ true → some ≡ true)
    → is_settled (verdict_of placed agrees some heavy) ≡ true
    → verdict_of placed agrees some heavy ≡ verdict_of placed agrees all heavy
settled_ways false agrees some all heavy weaker settled = refl
settled_ways true false some all heavy weaker settled = refl
settled_ways true true false false heavy weaker settled = refl
settled_ways true true false true heavy weaker settled = absurd (true≢false (sym (weaker refl)))
settled_ways true true true all false weaker settled = absurd (true≢false (sym settled))
settled_ways true true true all true weaker settled = absurd (true≢false (sym settled))

-- what was not settled passed the rules before
unsettled_ways : (placed agrees some heavy : Bool)
    → is_settled (verdict_of placed agrees some heavy) ≡ false
    → (placed ≡ true) × (agrees ≡ true) × (some ≡ true)
unsettled_ways false agrees some heavy open' = absurd (true≢false open')
unsettled_ways true false some heavy open' = absurd (true≢false open')
unsettled_ways true true false heavy open' = absurd (true≢false open')
unsettled_ways true true true heavy open' = (refl, refl, refl)

-- rule 5 is told by the verdict where the rules before it hold
told_by_5 : (some heavy : Bool) → is_by_rule_5 (verdict_of true true some heavy) ≡ false
    → some ≡ true
told_by_5 true heavy other = refl
told_by_5 false heavy other = absurd (true≢false other)

fails_by_5 : (some heavy : Bool) → is_by_rule_5 (verdict_of true true some heavy) ≡ true
    → some ≡ false
fails_by_5 true true fails = absurd (true≢false (sym fails))
fails_by_5 true false fails = absurd (true≢false (sym fails))
fails_by_5 false heavy fails = refl

module _ (read : List Bool → Option PathMaxLabel) (view : Seen) where
  -- what is read of the view
  abbrev seen : PathMaxLabel → List (ReadPort PathMaxLabel) → Read PathMaxLabel
  seen own ports = reading view.id view.state own ports

  -- the verdict of a pass
  abbrev pub pass : ℕ → Verdict
  pass first = judge_by read (one_pass_rules first) view

  abbrev pub all : Verdict
  all = judge_by read pathmax_rules view

  pub settled_same : is_settled (pass 0) ≡ true → pass 0 ≡ all
  settled_same = by (read view.own) (read_ports read view.ports)
    where
      by : (own : Option PathMaxLabel) (ports : Option (List (ReadPort PathMaxLabel)))
          → is_settled (judged_read (one_pass_rules 0) view own ports) ≡ true
          → judged_read (one_pass_rules 0) view own ports ≡ judged_read pathmax_rules view own ports
      by None ports settled = refl
      by (Some own) None settled = refl
      by (Some own) (Some ports) settled = settled_ways (is_placed_in_tree (seen own ports))
          (agrees_on_root (seen own ports)) (has_ways_from 0 (seen own ports))
          (has_ways_to_centroids (seen own ports)) (other_edges_are_heavy (seen own ports))
          (whole_window (seen own ports) 0) settled

  -- where it is not settled, all was read
  pub record IsOpen : Type 0 where
    pub own : PathMaxLabel
    pub ports : List (ReadPort PathMaxLabel)
    pub through : IsReadThrough read view own ports
    pub ways : has_ways_from 0 (seen own ports) ≡ true

  pub unsettled_open : is_settled (pass 0) ≡ false → IsOpen
  unsettled_open = by (read view.own) refl (read_ports read view.ports) refl
    where
      by : (own : Option PathMaxLabel) → read view.own ≡ own
          → (ports : Option (List (ReadPort PathMaxLabel))) → read_ports read view.ports ≡ ports
          → is_settled (judged_read (one_pass_rules 0) view own ports) ≡ false → IsOpen
      by None one ports other open' = absurd (true≢false open')
      by (Some own) one None other open' = absurd (true≢false open')
      by (Some own) one (Some ports) other open' =
          let hold = unsettled_ways (is_placed_in_tree (seen own ports))
          (agrees_on_root (seen own ports)) (has_ways_from 0 (seen own ports))
          (other_edges_are_heavy (seen own ports)) open' in record {
            own = own;
            ports = ports;
            through = record {
              own_read = one;
              ports_read = other;
              placed = hold.0;
              agrees = hold.1;
            };
            ways = hold.2;
          }

  module _ (own : PathMaxLabel) (ports : List (ReadPort PathMaxLabel))
      (through : IsReadThrough read view own ports) where
    -- then the verdicts are by rules 5 and 6
    pass_is : (first : ℕ) → pass first ≡ verdict_of true true (has_ways_from first (seen own ports))
        (other_edges_are_heavy (seen own ports))
    pass_is first = judged_by_rules read (one_pass_rules first) view own ports through.own_read
        through.ports_read ∙ rw (through.placed, through.agrees) refl

    all_is : all ≡ verdict_of true true (has_ways_to_centroids (seen own ports))
        (other_edges_are_heavy (seen own ports))
    all_is = judged_by_rules read pathmax_rules view own ports through.own_read
        through.ports_read ∙ rw (through.placed, through.agrees) refl

    -- a pass tells whether rule 5 holds on its levels
    pub pass_holds : (first : ℕ) → is_by_rule_5 (pass first) ≡ false
        → has_ways_from first (seen own ports) ≡ true
    pass_holds first other = told_by_5 (has_ways_from first (seen own ports))
        (other_edges_are_heavy (seen own ports)) (sym (ap is_by_rule_5 (pass_is first)) ∙ other)

    pub pass_fails : (first : ℕ) → is_by_rule_5 (pass first) ≡ true
        → HaveFurtherWays (seen own ports) false
    pass_fails first fails = elim (cases_Bool (has_ways_to_centroids (seen own ports))) [
      | inr none ↦ none
      | inl whole ↦ absurd (true≢false (sym (whole_window (seen own ports) first whole)
          ∙ fails_by_5 (has_ways_from first (seen own ports))
          (other_edges_are_heavy (seen own ports)) (sym (ap is_by_rule_5 (pass_is first)) ∙ fails)))
    ]

    -- where rule 5 holds on all levels, the first pass has the verdict
    pub further_hold : has_ways_from 0 (seen own ports) ≡ true
        → HaveFurtherWays (seen own ports) true → pass 0 ≡ all
    further_hold first further =
        let whole : has_ways_to_centroids (seen own ports) ≡ true =
        whole_from (seen own ports) (λ number level at. elim (cases_lt number WINDOW) [
          | inl before ↦ to_window (seen own ports) 0 first number level at (omega arith)
              (omega (arith, before))
          | inr later ↦ further number level at later
        ]) in
        pass_is 0
        ∙ ap (λ (ways : Bool). verdict_of true true ways (other_edges_are_heavy (seen own ports)))
        (first ∙ sym whole) ∙ sym all_is

    -- and where it fails, that is the verdict
    pub further_fail : HaveFurtherWays (seen own ports) false → Reject 1 5 ≡ all
    further_fail fails = sym (all_is
        ∙ ap (λ (ways : Bool). verdict_of true true ways (other_edges_are_heavy (seen own ports)))
        fails)
