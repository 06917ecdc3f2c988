-- The text of a report: a line for each node, one for each component where there are several, and
-- then how many nodes reject.
use Rattle.std.specs.Prelude.{ℕ, Bool, true, false, List, [], ◌∷◌, ◌++◌, map, count_by, codes, decimal}
use Rattle.std.specs.List.{list_all}
use Rattle.pls_configuration.specs.declared.verdict.Verdict.{Verdict}
use Rattle.pls_configuration.specs.declared.verdict.Verdict.TheVariants.{Accept, Reject}
use Rattle.pls_configuration.specs.Verdict.{verdict_text}
use Rattle.pls_lines.specs.Text.{line_of, text_of}
use Rattle.pls_sim.specs.declared.outcome.Outcome.{Outcome}
use Rattle.pls_sim.specs.declared.outcome.Outcome.TheVariants.{Decided, Waiting}
use Rattle.pls_report.specs.ComponentLines.{if_several, component_line, waiting_words}
use Rattle.pls_report.specs.declared.component_row.ComponentRow.{ComponentRow}

-- the node accepts: it has decided, and not rejected
abbrev pub is_accepting : Outcome → Bool
is_accepting (Decided Accept) = true
is_accepting (Decided (Reject leaf rule)) = false
is_accepting (Waiting ports) = false

-- all nodes accept, where this is the outcome of what stands beside each identity
abbrev pub accept_by : {X : Type 0} → (X → Outcome) → List (ℕ × X) → Bool
accept_by outcome rows = list_all (λ row. is_accepting (outcome row.1)) rows

-- all nodes accept, by their outcomes
abbrev pub all_accept : List (ℕ × Outcome) → Bool
all_accept rows = accept_by (λ outcome. outcome) rows

-- all nodes accept, by their verdicts
abbrev pub all_verdicts_accept : List (ℕ × Verdict) → Bool
all_verdicts_accept rows = accept_by Decided rows

-- the node rejects
abbrev pub is_rejecting : Outcome → Bool
is_rejecting (Decided Accept) = false
is_rejecting (Decided (Reject leaf rule)) = true
is_rejecting (Waiting ports) = false

-- the node waits
abbrev pub is_waiting : Outcome → Bool
is_waiting (Decided verdict) = false
is_waiting (Waiting ports) = true

-- how many of the nodes reject, where this is the outcome of what stands beside each identity
abbrev pub rejecting_by : {X : Type 0} → (X → Outcome) → List (ℕ × X) → ℕ
rejecting_by outcome rows = count_by (λ row. is_rejecting (outcome row.1)) rows

-- how many of the nodes reject, by their outcomes
abbrev pub rejecting : List (ℕ × Outcome) → ℕ
rejecting rows = rejecting_by (λ outcome. outcome) rows

-- how many of the nodes reject, by their verdicts
abbrev pub rejecting_verdicts : List (ℕ × Verdict) → ℕ
rejecting_verdicts rows = rejecting_by Decided rows

-- how many of the nodes wait
abbrev pub waiting : List (ℕ × Outcome) → ℕ
waiting rows = count_by (λ row. is_waiting row.1) rows

-- the pieces that stand behind the identity: the text of the verdict, or `waiting` and the ports
abbrev pub outcome_words : Outcome → List (List ℕ)
outcome_words (Decided verdict) = verdict_text verdict ∷ []
outcome_words (Waiting ports) = codes "waiting" ∷ map decimal ports

-- `node ID accept`, `node ID reject LEAF RULE`, or `node ID waiting P1 P2` with the ports not heard
abbrev pub outcome_line : ℕ × Outcome → List ℕ
outcome_line row = line_of (codes "node" ∷ decimal row.0 ∷ outcome_words row.1)

-- the line of a node that has decided
abbrev pub decided_line : ℕ × Verdict → List ℕ
decided_line row = outcome_line (row.0, Decided row.1)

-- `rejecting R`, or `rejecting R waiting W`
abbrev pub closing_line : Bool → List (ℕ × Outcome) → List ℕ
closing_line simulated rows =
    line_of (codes "rejecting" ∷ decimal (rejecting rows)
    ∷ waiting_words simulated (waiting rows))

-- `yes` or `no`
abbrev pub yes_or_no : Bool → List ℕ
yes_or_no true = codes "yes"
yes_or_no false = codes "no"

-- `round K checked C connected YESNO rejecting R`
abbrev pub round_line : ℕ → ℕ → Bool → List (ℕ × Verdict) → List ℕ
round_line number checked connected rows =
    line_of (codes "round" ∷ decimal number ∷ codes "checked" ∷ decimal checked
    ∷ codes "connected" ∷ yes_or_no connected ∷ codes "rejecting"
    ∷ decimal (rejecting_verdicts rows) ∷ [])

-- the text of a round's report: a line for each node, and then the round's own
abbrev pub round_text : ℕ → ℕ → Bool → List (ℕ × Verdict) → List ℕ
round_text number checked connected rows =
    text_of (map decided_line rows ++ round_line number checked connected rows ∷ [])

-- the text of a report: a line for each node, a line for each component where there are several,
-- and then how many nodes reject
abbrev pub report_text : Bool → List ComponentRow → List (ℕ × Outcome) → List ℕ
report_text simulated parts rows =
    text_of (map outcome_line rows ++ (if_several parts (map (component_line simulated) parts)
    ++ closing_line simulated rows ∷ []))
