-- Verdicts by numbered rules, and the round of all nodes.
use Rattle.std.specs.Prelude.{◌≡◌, ℕ, ◌+◌, ◌≤◌, Bool, true, if◌then◌else◌, List, [], ◌∷◌, map, All}
use Rattle.std.specs.List.{AllByRecursion}
use Rattle.pls_configuration.specs.declared.row.NodeRow.{NodeRow}
use Rattle.pls_configuration.specs.declared.verdict.Verdict.{Verdict}
use Rattle.pls_configuration.specs.declared.verdict.Verdict.TheVariants.{Accept, Reject}
use Rattle.pls_streams.specs.Steps.{up_by}
use Rattle.pls_labels.specs.Seen.{Seen, views}

-- the verdict of rules tried in order, the first of which has this number: a rejection by the first
-- that fails, which names leaf 1, the only one of a basic scheme
abbrev pub judged_from : ℕ → List Bool → Verdict
judged_from number [] = Accept
judged_from number (holds ∷ others) = if holds then judged_from (number + 1) others
    else Reject 1 number

-- each of the rules holds
abbrev pub AllHold : List Bool → Type 0
AllHold rules = AllByRecursion (λ (holds : Bool). holds ≡ true) rules

-- the verdict of each node, in the order of the rows
abbrev pub verdicts_by : (Seen → Verdict) → List NodeRow → List (List Bool) → List Verdict
verdicts_by judge rows labels = map judge (views rows labels)

-- the round: each node's identity and its verdict on its view
abbrev pub round_by : (Seen → Verdict) → List NodeRow → List (List Bool) → List (ℕ × Verdict)
round_by judge rows labels = map (λ view. (view.id, judge view)) (views rows labels)

-- every node accepts
abbrev pub AllAccept : (Seen → Verdict) → List NodeRow → List (List Bool) → Type 0
AllAccept judge rows labels = All (λ view. judge view ≡ Accept) (views rows labels)

-- a rejection names one of the leaves, or 0
abbrev pub LeafWithin : ℕ → Verdict → Type 0
LeafWithin leaves Accept = Unit {0}
LeafWithin leaves (Reject leaf rule) = leaf ≤ leaves

-- the counter rose by some number of steps that is at most this
abbrev pub RoseByAtMost : ℕ → ℕ → ℕ → Type 0
RoseByAtMost most old new = (count : ℕ) × (count ≤ most) × (new ≡ up_by count old)
