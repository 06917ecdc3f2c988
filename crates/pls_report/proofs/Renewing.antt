-- Lines of rows while rows change and lines are made.
use Rattle.std.proofs.Common.{◌≡◌, ◌≢◌, ◌∙◌, ℕ, ◌⊎◌, inl, inr, Bool, true, false, List, length, replicate, get_or, set, slice_get, Some, sym, ap, arith, get_or-set_same, get_or-set_other}
use Rattle.std.proofs.lemmas.Bool.{cases_eq}
use Rattle.std.proofs.lemmas.List.{get_or-replicate, length-replicate, length-set}
use Rattle.std.proofs.lemmas.Option.{get_or_from_slice_get, slice_get-get_or, slice_get_within}
use Rattle.pls_sim.specs.declared.outcome.Outcome.{Outcome}
use Rattle.pls_report.specs.inner.Renewed.{AreRenewed}

-- what stands at a place of a list that was written once: the new item, or the old one elsewhere
set_cases : {X : Type 0} (xs : List X) (i : ℕ) (new : X) (k : ℕ) (x : X)
    → slice_get (set xs i new) k ≡ Some x
    → ((k ≡ i) × (x ≡ new)) ⊎ ((k ≢ i) × (slice_get xs k ≡ Some x))
set_cases xs i new k x at =
    let inside = slice_get_within (set xs i new) k x at in
    let long = length-set xs i new in
    elim (cases_eq k i) [
      | inl same ↦ inl (
        same,
        sym (get_or_from_slice_get (set xs i new) k x x at)
            ∙ ap (λ (k : ℕ). get_or (set xs i new) k x) same
            ∙ get_or-set_same xs i new x (omega (arith, inside, long, same)),
      )
      | inr apart ↦ inr (
        apart,
        slice_get-get_or xs k x (omega (arith, inside, long))
            ∙ ap Some (sym (get_or-set_other xs i k new x apart)
            ∙ get_or_from_slice_get (set xs i new) k x x at),
      )
    ]

module _ (rows : List (ℕ × Outcome × List ℕ)) (changed : List Bool) (lines : List (List ℕ))
    (are : AreRenewed rows changed lines) (i : ℕ) where
  -- a row is replaced, and noted as changed
  pub row_changed : (row : ℕ × Outcome × List ℕ)
      → AreRenewed (set rows i row) (set changed i true) lines
  row_changed row = record {
    each = length-set changed i true ∙ are.each ∙ sym (length-set rows i row);
    as_many = are.as_many ∙ sym (length-set rows i row);
    same = λ k other at kept. elim (set_cases changed i true k false kept) [
      | inl (same, not) ↦ absurd (cc)
      | inr (apart, stays) ↦ elim (set_cases rows i row k other at) [
        | inl here ↦ absurd (apart here.0)
        | inr there ↦ are.same k other there.1 stays
      ]
    ];
  }

-- where all rows count as changed, the lines may be any
pub all_changed : (rows : List (ℕ × Outcome × List ℕ)) (changed : List Bool) (lines : List (List ℕ))
    → changed ≡ replicate (length rows) true → length lines ≡ length rows
    → AreRenewed rows changed lines
all_changed rows changed lines is long =
    let many : length changed ≡ length rows =
    ap (length {A = Bool}) is ∙ length-replicate (length rows) true in record {
      each = many;
      as_many = long;
      same = λ i row at kept.
          let within = slice_get_within rows i row at in
          let not : false ≡ true =
          sym (get_or_from_slice_get changed i false false kept)
          ∙ (λ k. get_or (is k) i false)
          ∙ get_or-replicate (length rows) i true false within in
          absurd (cc);
    }
