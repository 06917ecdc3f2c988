-- The text of a look at a round in which labels change: a line for each node, and then how many
-- reject, how many wait, and how many have decided on a neighbour's label that is not its newest.
use Rattle.std.specs.Prelude.{ℕ, Bool, not, ◌&&◌, ◌==◌, List, [], ◌∷◌, ◌++◌, length, map, count_by, codes, decimal}
use Rattle.std.specs.List.{list_all}
use Rattle.pls_lines.specs.Text.{line_of, text_of}
use Rattle.pls_sim.specs.declared.outcome.Outcome.{Outcome}
use Rattle.pls_sim.specs.declared.outcome.Outcome.TheVariants.{Decided, Waiting}
use Rattle.pls_report.specs.Report.{is_accepting, is_rejecting, is_waiting, outcome_words}

-- the stale ports that a node's line tells of: all of them where it has decided, else none
abbrev pub told_ports : Outcome → List ℕ → List ℕ
told_ports (Decided verdict) stale = stale
told_ports (Waiting ports) stale = []

-- `stale P1 P2`, where there is one
abbrev pub stale_words : List ℕ → List (List ℕ)
stale_words [] = []
stale_words (port ∷ ports) = codes "stale" ∷ decimal port ∷ map decimal ports

-- the line of a node, of its identity, its outcome and its stale ports: that of a report, and
-- behind it which ports are stale
abbrev pub look_line : ℕ × Outcome × List ℕ → List ℕ
look_line row = line_of (codes "node" ∷ decimal row.0
    ∷ (outcome_words row.1 ++ stale_words (told_ports row.1 row.2)))

-- how many of the nodes reject
abbrev pub rejecting_rows : List (ℕ × Outcome × List ℕ) → ℕ
rejecting_rows rows = count_by (λ row. is_rejecting row.1) rows

-- how many of the nodes wait
abbrev pub waiting_rows : List (ℕ × Outcome × List ℕ) → ℕ
waiting_rows rows = count_by (λ row. is_waiting row.1) rows

-- how many of the nodes have a line with stale ports
abbrev pub stale_rows : List (ℕ × Outcome × List ℕ) → ℕ
stale_rows rows = count_by (λ row. not (length (told_ports row.1 row.2) == 0)) rows

-- `look K rejecting R waiting W stale S`
abbrev pub look_closing : ℕ → List (ℕ × Outcome × List ℕ) → List ℕ
look_closing number rows =
    line_of (codes "look" ∷ decimal number ∷ codes "rejecting" ∷ decimal (rejecting_rows rows)
    ∷ codes "waiting" ∷ decimal (waiting_rows rows)
    ∷ codes "stale" ∷ decimal (stale_rows rows) ∷ [])

-- the text of a look
abbrev pub look_text : ℕ → List (ℕ × Outcome × List ℕ) → List ℕ
look_text number rows = text_of (map look_line rows ++ look_closing number rows ∷ [])

-- all nodes accept, and no port is stale
abbrev pub look_is_well : List (ℕ × Outcome × List ℕ) → Bool
look_is_well rows = list_all (λ row. is_accepting row.1 && length row.2 == 0) rows
