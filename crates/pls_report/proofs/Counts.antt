-- What nodes count as, where one is replaced.
use Rattle.std.proofs.Common.{◌≡◌, ◌∙◌, ℕ, ◌+◌, ◌<◌, ◌≤◌, ◌^◌, Bool, List, [], ◌∷◌, ◌++◌, take, drop, set, length, get_or, count_by, cond, sym, ap, arith, append-nil}
use Rattle.std.proofs.lemmas.List.{drop_more, length-take-le, set_at, take-append-drop, take_more}
use Rattle.std.proofs.lemmas.List.Sums.{count_by-le-length, sum_by-append, sum_by-cons}
use Rattle.pls_sim.specs.declared.outcome.Outcome.{Outcome}
use Rattle.pls_report.specs.declared.line_kind.LineKind.{LineKind}
use Rattle.pls_report.specs.declared.line_kind.LookCounts.{LookCounts}
use Rattle.pls_report.specs.inner.Lines.{HasLine, HasRoomForOne, counts_of, kind_of, with_line}

abbrev pub Row : Type 0
Row = ℕ × Outcome × List ℕ

module _ (p : Row → Bool) (front behind : List Row) (row : Row) where
  one_more : count_by p (front ++ row ∷ behind) ≡ count_by p (front ++ behind) + cond (p row) 1 0
  one_more =
      let one : Row → ℕ = λ row. cond (p row) 1 0 in
      let before : count_by p (front ++ row ∷ behind) ≡ count_by p front + count_by p (row ∷ behind) =
      sum_by-append one front (row ∷ behind) in
      let first : count_by p (row ∷ behind) ≡ cond (p row) 1 0 + count_by p behind =
      sum_by-cons one row behind in
      let others : count_by p (front ++ behind) ≡ count_by p front + count_by p behind =
      sum_by-append one front behind in
      omega (arith, before, first, others)

-- what rows count as, where one is among others
counts_one : (front behind : List Row) (row : Row)
    → counts_of (front ++ row ∷ behind) ≡ with_line (kind_of row) (counts_of (front ++ behind))
counts_one front behind row i = record {
  rejecting = one_more (λ row. (kind_of row).rejects) front behind row i;
  waiting = one_more (λ row. (kind_of row).waits) front behind row i;
  stale = one_more (λ row. (kind_of row).tells_stale) front behind row i;
}

-- counts that are the same with a row of a kind are the same without it
same_without : (row : Row) (these those : LookCounts)
    → with_line (kind_of row) these ≡ with_line (kind_of row) those → these ≡ those
same_without row these those same i = record {
  rejecting = rejecting i;
  waiting = waiting i;
  stale = stale i;
}
  where
    rejecting : these.rejecting ≡ those.rejecting
    rejecting = omega (arith, ap (λ (counts : LookCounts). counts.rejecting) same)

    waiting : these.waiting ≡ those.waiting
    waiting = omega (arith, ap (λ (counts : LookCounts). counts.waiting) same)

    stale : these.stale ≡ those.stale
    stale = omega (arith, ap (λ (counts : LookCounts). counts.stale) same)

module _ (rows : List Row) (i : ℕ) (within : i < length rows) (was : Row)
    (is : was ≡ get_or rows i was) where
  abbrev others : LookCounts
  others = counts_of (take i rows ++ drop (i + 1) rows)

  with_it : counts_of rows ≡ with_line (kind_of was) others
  with_it =
      ap counts_of
      (sym (take-append-drop i rows)
      ∙ ap (λ (behind : List Row). take i rows ++ behind)
      (drop_more rows i was within ∙ (λ k. sym is k ∷ drop (i + 1) rows)))
      ∙ counts_one (take i rows) (drop (i + 1) rows) was

  -- the row is counted
  pub is_among : HasLine (kind_of was) (counts_of rows)
  is_among = (others, with_it)

  -- without it, and with the other one
  pub with_other : (row : Row) (left : LookCounts) → counts_of rows ≡ with_line (kind_of was) left
      → with_line (kind_of row) left ≡ counts_of (set rows i row)
  with_other row left without =
      ap (with_line (kind_of row)) (same_without was left others (sym without ∙ with_it))
      ∙ sym (counts_one (take i rows) (drop (i + 1) rows) row)
      ∙ ap counts_of (sym (ap (λ (all : List Row). set all i row)
      (sym (take-append-drop i rows)
      ∙ ap (λ (behind : List Row). take i rows ++ behind) (drop_more rows i was within))
      ∙ set_at (take i rows) (get_or rows i was) (drop (i + 1) rows) row i
      (length-take-le i rows (omega (arith, within)))))

module _ (rows : List Row) (i : ℕ) where
  few_of : (p : Row → Bool) → i < length rows → count_by p (take i rows) ≤ i
  few_of p within =
      omega (
        arith,
        count_by-le-length p (take i rows),
        length-take-le i rows (omega (arith, within)),
      )

  -- what the first rows count as is little
  pub counts_few : (counts : LookCounts) → counts ≡ counts_of (take i rows) → i < length rows
      → length rows < 2 ^ 63 → HasRoomForOne counts
  counts_few counts is within few = record {
    rejecting =
        omega (
          arith,
          ap (λ (all : LookCounts). all.rejecting) is,
          few_of (λ row. (kind_of row).rejects) within,
          within,
          few,
        );
    waiting =
        omega (
          arith,
          ap (λ (all : LookCounts). all.waiting) is,
          few_of (λ row. (kind_of row).waits) within,
          within,
          few,
        );
    stale =
        omega (
          arith,
          ap (λ (all : LookCounts). all.stale) is,
          few_of (λ row. (kind_of row).tells_stale) within,
          within,
          few,
        );
  }

  -- one row more
  pub counts_next : (row : Row) (kind : LineKind) (counts more : LookCounts) → row ≡ get_or rows i row
      → i < length rows → kind ≡ kind_of row → more ≡ with_line kind counts
      → counts ≡ counts_of (take i rows) → more ≡ counts_of (take (i + 1) rows)
  counts_next row kind counts more is within kind_is more_is counts_is =
      more_is ∙ (λ k. with_line (kind_is k) (counts_is k))
      ∙ (λ k. with_line (kind_of row) (counts_of (sym (append-nil (take i rows)) k)))
      ∙ sym (counts_one (take i rows) [] row)
      ∙ ap counts_of (sym (take_more rows i row within
      ∙ (λ k. take i rows ++ sym is k ∷ [])))
