-- All is well exactly where no line is counted.
use Rattle.std.proofs.Common.{◌≡◌, ◌∙◌, ℕ, ◌+◌, ◌==◌, ◌&&◌, Bool, true, false, List, [], ◌∷◌, cond, count_by, length, not, refl, sym, ap, arith}
use Rattle.std.proofs.lemmas.Bool.{ne_eqb}
use Rattle.std.proofs.lemmas.List.Sums.{sum_by-cons}
use Rattle.pls_configuration.specs.declared.verdict.Verdict.TheVariants.{Accept, Reject}
use Rattle.pls_sim.specs.declared.outcome.Outcome.TheVariants.{Decided, Waiting}
use Rattle.pls_report.specs.Look.{look_is_well}
use Rattle.pls_report.specs.declared.line_kind.LookCounts.{LookCounts}
use Rattle.pls_report.specs.inner.Lines.{counts_of, kind_of}
use Rattle.pls_report.proofs.Counts.{Row}

-- no line is counted
abbrev pub none_counted : LookCounts → Bool
none_counted counts = (counts.rejecting == 0 && counts.waiting == 0) && counts.stale == 0

-- where one is counted, there is not none
some_counted : (p : Row → Bool) (row : Row) (rows : List Row) → p row ≡ true
    → (count_by p (row ∷ rows) == 0) ≡ false
some_counted p row rows is =
    let first : count_by p (row ∷ rows) ≡ cond (p row) 1 0 + count_by p rows =
    sum_by-cons (λ (row : Row). cond (p row) 1 0) row rows in
    let one : cond {A = ℕ} (p row) 1 0 ≡ 1 = ap {B = ℕ} (λ (b : Bool). cond b 1 0) is in
    ne_eqb (count_by p (row ∷ rows)) 0 (λ none. omega (arith, first, one, none))

module _ (counts : LookCounts) where
  abbrev no_reject : Bool
  no_reject = counts.rejecting == 0

  abbrev no_wait : Bool
  no_wait = counts.waiting == 0

  abbrev no_stale : Bool
  no_stale = counts.stale == 0

  some_reject : no_reject ≡ false → none_counted counts ≡ false
  some_reject is = ap (λ (b : Bool). (b && no_wait) && no_stale) is

  some_wait : no_wait ≡ false → none_counted counts ≡ false
  some_wait is = ap (λ (b : Bool). (no_reject && b) && no_stale) is ∙ by no_reject
    where
      by : (a : Bool) → ((a && false) && no_stale) ≡ false
      by true = refl
      by false = refl

  some_stale : no_stale ≡ false → none_counted counts ≡ false
  some_stale is = ap (λ (b : Bool). (no_reject && no_wait) && b) is ∙ by (no_reject && no_wait)
    where
      by : (a : Bool) → (a && false) ≡ false
      by true = refl
      by false = refl

pub well_counted : (rows : List Row) → none_counted (counts_of rows) ≡ look_is_well rows
well_counted [] = refl
well_counted ((id, Decided Accept, []) ∷ rows) = well_counted rows
well_counted ((id, Decided Accept, port ∷ ports) ∷ rows) =
    let row : Row = (id, Decided Accept, port ∷ ports) in
    let more : (length (port ∷ ports) == 0) ≡ false =
    ne_eqb (length (port ∷ ports)) 0 (λ none. omega (arith, none)) in
    some_stale (counts_of (row ∷ rows))
    (some_counted (λ row. (kind_of row).tells_stale) row rows (ap not more))
    ∙ sym (ap (λ (b : Bool). b && look_is_well rows) more)
well_counted ((id, Decided (Reject leaf rule), ports) ∷ rows) =
    let row : Row = (id, Decided (Reject leaf rule), ports) in
    some_reject (counts_of (row ∷ rows))
    (some_counted (λ row. (kind_of row).rejects) row rows refl)
well_counted ((id, Waiting waits, ports) ∷ rows) =
    let row : Row = (id, Waiting waits, ports) in
    some_wait (counts_of (row ∷ rows)) (some_counted (λ row. (kind_of row).waits) row rows refl)
