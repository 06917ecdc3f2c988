-- What the lines of nodes count as at a look.
use Rattle.std.specs.Prelude.{◌≡◌, ℕ, ◌+◌, ◌<◌, ◌^◌, ◌==◌, cond, not, List, length}
use Rattle.pls_sim.specs.declared.outcome.Outcome.{Outcome}
use Rattle.pls_report.specs.Look.{rejecting_rows, stale_rows, told_ports, waiting_rows}
use Rattle.pls_report.specs.Report.{is_rejecting, is_waiting}
use Rattle.pls_report.specs.declared.line_kind.LineKind.{LineKind}
use Rattle.pls_report.specs.declared.line_kind.LookCounts.{LookCounts}

-- what a node counts as
abbrev pub kind_of : ℕ × Outcome × List ℕ → LineKind
kind_of row = record {
  rejects = is_rejecting row.1;
  waits = is_waiting row.1;
  tells_stale = not (length (told_ports row.1 row.2) == 0);
}

-- how many of the nodes reject, how many wait, and how many have a line with stale ports
abbrev pub counts_of : List (ℕ × Outcome × List ℕ) → LookCounts
counts_of rows = record {
  rejecting = rejecting_rows rows;
  waiting = waiting_rows rows;
  stale = stale_rows rows;
}

-- what nodes count as, where there is one more of a kind
abbrev pub with_line : LineKind → LookCounts → LookCounts
with_line kind counts = record {
  rejecting = counts.rejecting + cond kind.rejects 1 0;
  waiting = counts.waiting + cond kind.waits 1 0;
  stale = counts.stale + cond kind.tells_stale 1 0;
}

-- a node of a kind is among those that were counted
abbrev pub HasLine : LineKind → LookCounts → Type 0
HasLine kind counts = (others : LookCounts) × (counts ≡ with_line kind others)

-- one node more can be counted
pub record HasRoomForOne (counts : LookCounts) : Type 0 where
  pub rejecting : counts.rejecting + 1 < 2 ^ 64
  pub waiting : counts.waiting + 1 < 2 ^ 64
  pub stale : counts.stale + 1 < 2 ^ 64
