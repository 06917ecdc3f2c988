-- Flags that are taken back one by one from the front.
use Rattle.std.proofs.Common.{◌≡◌, ◌≢◌, ◌∙◌, inl, inr, ℕ, zero, suc, ◌+◌, ◌<◌, ◌≤◌, Bool, true, false, cond, List, [], ◌∷◌, count_by, drop, length, set, slice_get, Some, refl, sym, ap, subst, arith, get_or, Result, Ok, Err, OnErr}
use Rattle.std.proofs.lemmas.Bool.{cases_order}
use Rattle.std.proofs.lemmas.List.{length-map, length-set, get_or-set_same, get_or-set_other}
use Rattle.std.proofs.lemmas.List.Recursion.{is_count_by}
use Rattle.std.proofs.lemmas.Option.{same_Some, slice_get_within, slice_get-get_or, slice_get_read, get_or_from_slice_get}
use Rattle.pls_configuration.specs.declared.row.NodeRow.{NodeRow}
use Rattle.pls_configuration.specs.declared.verdict.Verdict.{Verdict}
use Rattle.pls_configuration.specs.Configuration.{IsNetwork, ids_of}
use Rattle.pls_streams.specs.Steps.{up_by}
use Rattle.pls_labels.specs.Seen.{Seen, views}
use Rattle.pls_graph.proofs.Placed.{ids_differ}
use Rattle.pls_recheck.specs.Snapshot.{RiseTogether, is_number_among}
use Rattle.pls_recheck.specs.inner.Flags.{AreCurrent, cleared, marked, set_among}
use Rattle.pls_recheck.proofs.Marked.{among_marked, id_at_view}

pub length-cleared : (i : ℕ) (flags : List Bool) → length (cleared i flags) ≡ length flags
length-cleared zero flags = refl
length-cleared (suc i) [] = refl
length-cleared (suc i) (flag ∷ flags) = ap suc (length-cleared i flags)

pub few_set : (i : ℕ) (flags : List Bool) → set_among i flags ≤ i
few_set zero flags = omega arith
few_set (suc i) [] = omega arith
few_set (suc i) (true ∷ flags) = let rest = few_set i flags in omega arith
few_set (suc i) (false ∷ flags) = let rest = few_set i flags in omega arith

-- behind the cleared flags all are as they were
pub cleared_at : (i : ℕ) (flags : List Bool) → slice_get (cleared i flags) i ≡ slice_get flags i
cleared_at zero flags = refl
cleared_at (suc i) [] = refl
cleared_at (suc i) (flag ∷ flags) = cleared_at i flags

more_set : (i : ℕ) (flags : List Bool) → slice_get flags i ≡ Some true
    → set_among (suc i) flags ≡ suc (set_among i flags)
more_set i [] at = absurd (cc)
more_set zero (true ∷ flags) at = refl
more_set zero (false ∷ flags) at = absurd (cc)
more_set (suc i) (true ∷ flags) at = ap suc (more_set i flags at)
more_set (suc i) (false ∷ flags) at = more_set i flags at

same_set : (i : ℕ) (flags : List Bool) → slice_get flags i ≡ Some false
    → set_among (suc i) flags ≡ set_among i flags
same_set i [] at = absurd (cc)
same_set zero (true ∷ flags) at = absurd (cc)
same_set zero (false ∷ flags) at = refl
same_set (suc i) (true ∷ flags) at = ap suc (same_set i flags at)
same_set (suc i) (false ∷ flags) at = same_set i flags at

clear_one : (i : ℕ) (flags : List Bool) → i < length flags
    → set (cleared i flags) i false ≡ cleared (suc i) flags
clear_one i [] within = absurd (omega (arith, within))
clear_one zero (flag ∷ flags) within = refl
clear_one (suc i) (flag ∷ flags) within =
    ap (λ (rest : List Bool). false ∷ rest) (clear_one i flags (omega (arith, within)))

clear_none : (i : ℕ) (flags : List Bool) → slice_get flags i ≡ Some false
    → cleared i flags ≡ cleared (suc i) flags
clear_none i [] at = absurd (cc)
clear_none zero (flag ∷ flags) at =
    ap (λ (flag : Bool). flag ∷ flags) (same_Some flag false at)
clear_none (suc i) (flag ∷ flags) at =
    ap (λ (rest : List Bool). false ∷ rest) (clear_none i flags at)

next : (i : ℕ) → suc i ≡ i + 1
next i = omega arith

pub set_among_more : (i : ℕ) (flags : List Bool) → slice_get flags i ≡ Some true
    → set_among (i + 1) flags ≡ set_among i flags + 1
set_among_more i flags at = let one = more_set i flags at in
    ap (λ (n : ℕ). set_among n flags) (sym (next i)) ∙ one ∙ next (set_among i flags)

pub set_among_same : (i : ℕ) (flags : List Bool) → slice_get flags i ≡ Some false
    → set_among (i + 1) flags ≡ set_among i flags
set_among_same i flags at =
    ap (λ (n : ℕ). set_among n flags) (sym (next i)) ∙ same_set i flags at

pub cleared_more : (i : ℕ) (flags : List Bool) → i < length flags
    → set (cleared i flags) i false ≡ cleared (i + 1) flags
cleared_more i flags within =
    clear_one i flags within ∙ ap (λ (n : ℕ). cleared n flags) (next i)

pub cleared_same : (i : ℕ) (flags : List Bool) → slice_get flags i ≡ Some false
    → cleared i flags ≡ cleared (i + 1) flags
cleared_same i flags at = clear_none i flags at ∙ ap (λ (n : ℕ). cleared n flags) (next i)

pub count_by-set : (flags : List Bool)
    → set_among (length flags) flags ≡ count_by (λ (flag : Bool). flag) flags
count_by-set flags =
    is_count_by (λ (flags : List Bool). set_among (length flags) flags) (λ (flag : Bool). flag) refl
    more flags
  where
    more : (flag : Bool) (flags : List Bool) → set_among (length (flag ∷ flags)) (flag ∷ flags)
        ≡ cond flag (1 + set_among (length flags) flags) (set_among (length flags) flags)
    more true flags = omega arith
    more false flags = refl

drop_nothing : (k : ℕ) (xs : List ℕ) → xs ≡ [] → xs ≡ drop k xs
drop_nothing zero xs none = refl
drop_nothing (suc k) [] none = refl
drop_nothing (suc k) (x ∷ xs) none = absurd (cc)

-- what is marked still
pub marked_cleared : (ids : List ℕ) (i : ℕ) (flags : List Bool)
    → marked ids (cleared i flags) ≡ drop (set_among i flags) (marked ids flags)
marked_cleared ids zero flags = refl
marked_cleared [] (suc i) flags = drop_nothing (set_among (suc i) flags) [] refl
marked_cleared (id ∷ ids) (suc i) [] = refl
marked_cleared (id ∷ ids) (suc i) (true ∷ flags) = marked_cleared ids i flags
marked_cleared (id ∷ ids) (suc i) (false ∷ flags) = marked_cleared ids i flags

-- a flag that is set still is one more
pub not_all_set : (ids : List ℕ) (i : ℕ) (flags : List Bool) → length flags ≡ length ids
    → slice_get flags i ≡ Some true → set_among i flags < length (marked ids flags)
not_all_set ids i [] many at = absurd (cc)
not_all_set [] i (flag ∷ flags) many at = absurd (cc)
not_all_set (id ∷ ids) zero (true ∷ flags) many at = omega arith
not_all_set (id ∷ ids) zero (false ∷ flags) many at = absurd (cc)
not_all_set (id ∷ ids) (suc i) (true ∷ flags) many at =
    let rest = not_all_set ids i flags (omega (arith, many)) at in omega arith
not_all_set (id ∷ ids) (suc i) (false ∷ flags) many at =
    let rest = not_all_set ids i flags (omega (arith, many)) at in omega arith

pub all_set : (ids : List ℕ) (i : ℕ) (flags : List Bool) → length flags ≡ length ids
    → length flags ≤ i → set_among i flags ≡ length (marked ids flags)
all_set [] zero [] many past = refl
all_set [] (suc i) [] many past = refl
all_set [] i (flag ∷ flags) many past = absurd (cc)
all_set (id ∷ ids) i [] many past = absurd (cc)
all_set (id ∷ ids) zero (flag ∷ flags) many past = absurd (omega (arith, past))
all_set (id ∷ ids) (suc i) (true ∷ flags) many past =
    ap suc (all_set ids i flags (omega (arith, many)) (omega (arith, past)))
all_set (id ∷ ids) (suc i) (false ∷ flags) many past =
    all_set ids i flags (omega (arith, many)) (omega (arith, past))

pub none_left : (ids : List ℕ) (i : ℕ) (flags : List Bool) → length flags ≡ length ids
    → length flags ≤ i → marked ids (cleared i flags) ≡ []
none_left [] i flags many past = refl
none_left (id ∷ ids) i [] many past = absurd (cc)
none_left (id ∷ ids) zero (flag ∷ flags) many past = absurd (omega (arith, past))
none_left (id ∷ ids) (suc i) (flag ∷ flags) many past =
    none_left ids i flags (omega (arith, many)) (omega (arith, past))

module _ (judge : Seen → Verdict) (rows : List NodeRow) (labels : List (List Bool))
    (flags : List Bool) (kept : List (ℕ × Verdict)) where
  -- one node more was judged
  pub current_more : AreCurrent judge rows labels flags kept → (i : ℕ) → (found : ℕ × Verdict)
      → i < length kept
      → ((view : Seen) → slice_get (views rows labels) i ≡ Some view → found ≡ (view.id, judge view))
      → AreCurrent judge rows labels (set flags i false) (set kept i found)
  current_more current i found inside judged k view at unset = elim (cases_order i k) [
    | inl e ↦ slice_get-get_or (set kept i found) k found
        (omega (arith, length-set kept i found, inside, e))
        ∙ ap Some (ap (λ (k : ℕ). get_or (set kept i found) k found) (sym e)
        ∙ get_or-set_same kept i found found inside
        ∙ judged view (ap (slice_get (views rows labels)) e ∙ at))
    | inr apart ↦
        let other : k ≢ i = λ e. elim apart [
          | inl before ↦ absurd (omega (arith, before, e))
          | inr after ↦ absurd (omega (arith, after, e))
        ] in
        elsewhere k other (current k view at (back k other unset))
  ]
    where
      back : (k : ℕ) → k ≢ i → slice_get (set flags i false) k ≡ Some false
          → slice_get flags k ≡ Some false
      back k other unset =
          let within = slice_get_within (set flags i false) k false unset in
          slice_get-get_or flags k true (omega (arith, within, length-set flags i false))
          ∙ ap Some (sym (get_or-set_other flags i k false true other)
          ∙ get_or_from_slice_get (set flags i false) k false true unset)

      elsewhere : (k : ℕ) → k ≢ i → {x : ℕ × Verdict} → slice_get kept k ≡ Some x
          → slice_get (set kept i found) k ≡ Some x
      elsewhere k other {x} has =
          let within = slice_get_within kept k x has in
          slice_get-get_or (set kept i found) k x (omega (arith, within, length-set kept i found))
          ∙ ap Some (get_or-set_other kept i k found x other ∙ get_or_from_slice_get kept k x x has)

  module _ (net : IsNetwork rows) (many : length flags ≡ length rows) where
    -- touched by identities, and by flags
    pub current_by_flags : ((k : ℕ) (view : Seen) → slice_get (views rows labels) k ≡ Some view
        → is_number_among (marked (ids_of rows) flags) view.id ≡ false
        → slice_get kept k ≡ Some (view.id, judge view)) → AreCurrent judge rows labels flags kept
    current_by_flags current k view at unset =
        current k view at (among_marked (ids_of rows) flags k view.id false (ids_differ rows net)
        (id_at_view rows labels k view at) unset)

    pub current_by_ids : AreCurrent judge rows labels flags kept
        → (k : ℕ) (view : Seen) → slice_get (views rows labels) k ≡ Some view
        → is_number_among (marked (ids_of rows) flags) view.id ≡ false
        → slice_get kept k ≡ Some (view.id, judge view)
    current_by_ids current k view at untouched =
        let id_at = id_at_view rows labels k view at in
        let row_within : k < length rows = within_rows k view.id id_at in
        let has : slice_get flags k ≡ Some (get_or flags k true) =
        slice_get-get_or flags k true (omega (arith, row_within, many)) in
        let is = among_marked (ids_of rows) flags k view.id (get_or flags k true)
        (ids_differ rows net) id_at has in
        current k view at (has ∙ ap Some (sym is ∙ untouched))
      where
        within_rows : (k id : ℕ) → slice_get (ids_of rows) k ≡ Some id → k < length rows
        within_rows k id at = let inside = slice_get_within (ids_of rows) k id at in
            omega (arith, length-map rows (λ (row : NodeRow). row.id), inside)

-- what was read behind the cleared flags
pub flag_was : (i : ℕ) (flags now : List Bool) (flag : Bool) → now ≡ cleared i flags
    → i < length flags → flag ≡ get_or now i flag → slice_get flags i ≡ Some flag
flag_was i flags now flag is within read =
    sym (cleared_at i flags) ∙ ap (λ (all : List Bool). slice_get all i) (sym is)
    ∙ slice_get_read now (length now) i flag refl
    (omega (arith, ap length is, length-cleared i flags, within)) read

pub judged_same : (one other : Seen → Verdict) → one ≡ other → (found : ℕ × Verdict) (view : Seen)
    → found ≡ (view.id, one view) → found ≡ (view.id, other view)
judged_same one other same found view is =
    subst (λ (judge : Seen → Verdict). found ≡ (view.id, judge view)) same is

-- one node more was asked about, or none
pub rise_more : (count checked : ℕ) → count ≡ checked
    → {spent asked now steps made after : ℕ} → asked ≡ up_by count spent → made ≡ up_by count steps
    → RiseTogether 0 asked now made after → RiseTogether checked spent now steps after
rise_more count checked is spent_is steps_are early = record {
  rose = count + early.rose;
  rose_is = elim early.rose_is [
    | inl none ↦ inl (omega (arith, none, is))
    | inr one ↦ inr (omega (arith, one, is))
  ];
  spent_is = omega (arith, early.spent_is, spent_is);
  steps_are = omega (arith, early.steps_are, steps_are);
}

pub on_err : {X E : Type 0} (result : Result X E) (P : Type 0) → P → OnErr result P
on_err (Ok x) P p = tt
on_err (Err e) P p = p

pub many_ids : (rows : List NodeRow) (flags : List Bool) → length flags ≡ length rows
    → length flags ≡ length (ids_of rows)
many_ids rows flags many = many ∙ sym (length-map rows (λ (row : NodeRow). row.id))
