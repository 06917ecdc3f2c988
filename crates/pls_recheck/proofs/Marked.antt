-- The identities whose flags are set.
use Rattle.std.proofs.Common.{◌≡◌, ◌∙◌, ℕ, zero, suc, ◌≤◌, Bool, true, false, ◌==◌, ◌||◌, List, [], ◌∷◌, length, filter, slice_get, Option, Some, None, option_map, get_or, if◌then◌else◌, refl, sym, ap, arith, replicate}
use Rattle.std.proofs.lemmas.Option.{same_Some, slice_get-map, slice_get-get_or, slice_get_within}
use Rattle.std.proofs.lemmas.List.{length-map}
use Rattle.std.proofs.lemmas.Bool.{eq-eqb}
use Rattle.pls_configuration.specs.declared.row.NodeRow.{NodeRow}
use Rattle.pls_configuration.specs.Configuration.{IsNetwork, has_repeat, ids_of}
use Rattle.pls_graph.proofs.Finds.{eqb_comm, fails_at, from_option_map}
use Rattle.pls_graph.proofs.Placed.{ids_differ}
use Rattle.pls_labels.specs.Seen.{Seen, label_of, seen, views}
use Rattle.pls_recheck.specs.Snapshot.{is_number_among}
use Rattle.pls_recheck.specs.inner.Flags.{MarksMore, marked}

pub marked_all : (ids : List ℕ) → marked ids (replicate (length ids) true) ≡ ids
marked_all [] = refl
marked_all (id ∷ ids) = ap (λ (rest : List ℕ). id ∷ rest) (marked_all ids)

-- what stands on a list is among its numbers
pub among_itself : (ids : List ℕ) (k id : ℕ) → slice_get ids k ≡ Some id → is_number_among ids id ≡ true
among_itself [] k id at = absurd (cc)
among_itself (first ∷ ids) zero id at =
    let same : first ≡ id = same_Some first id at in rw (eq-eqb id first (sym same)) refl
among_itself (first ∷ ids) (suc k) id at = by (id == first) (among_itself ids k id at)
  where
    by : (b : Bool) → is_number_among ids id ≡ true → b || is_number_among ids id ≡ true
    by true rest = refl
    by false rest = rest

pub few_marked : (ids : List ℕ) (flags : List Bool) → length (marked ids flags) ≤ length ids
few_marked [] flags = omega arith
few_marked (id ∷ ids) [] = omega arith
few_marked (id ∷ ids) (true ∷ flags) = let rest = few_marked ids flags in omega arith
few_marked (id ∷ ids) (false ∷ flags) = let rest = few_marked ids flags in omega arith

-- flags that say a test of the identities
pub flags_filter : (test : ℕ → Bool) (ids : List ℕ) (flags : List Bool) → length flags ≡ length ids
    → ((k id : ℕ) → slice_get ids k ≡ Some id → slice_get flags k ≡ Some (test id))
    → marked ids flags ≡ filter test ids
flags_filter test [] flags many say = refl
flags_filter test (id ∷ ids) [] many say = absurd (cc)
flags_filter test (id ∷ ids) (flag ∷ flags) many say =
    let first : flag ≡ test id = same_Some flag (test id) (say 0 id refl) in
    rw first (by (test id) (flags_filter test ids flags (omega (arith, many))
    (λ k other at. say (suc k) other at)))
  where
    by : (b : Bool) → marked ids flags ≡ filter test ids
        → marked (id ∷ ids) (b ∷ flags) ≡ (if b then id ∷ filter test ids else filter test ids)
    by true rest = ap (λ (others : List ℕ). id ∷ others) rest
    by false rest = rest

-- what is not on the list is not among the marked
none_marked : (id : ℕ) (ids : List ℕ) (flags : List Bool) → is_number_among ids id ≡ false
    → is_number_among (marked ids flags) id ≡ false
none_marked id [] flags none = refl
none_marked id (first ∷ ids) [] none = refl
none_marked id (first ∷ ids) (flag ∷ flags) none =
    by flag (id == first) refl none (none_marked id ids flags)
  where
    by : (flag b : Bool) → (id == first) ≡ b → b || is_number_among ids id ≡ false
        → (is_number_among ids id ≡ false → is_number_among (marked ids flags) id ≡ false)
        → is_number_among (marked (first ∷ ids) (flag ∷ flags)) id ≡ false
    by flag true e none rest = absurd (cc)
    by true false e none rest = rw e (rest none)
    by false false e none rest = rest none

-- a node is marked where its flag is set
pub among_marked : (ids : List ℕ) (flags : List Bool) (k id : ℕ) (flag : Bool)
    → has_repeat ids ≡ false → slice_get ids k ≡ Some id → slice_get flags k ≡ Some flag
    → is_number_among (marked ids flags) id ≡ flag
among_marked [] flags k id flag apart at has = absurd (cc)
among_marked (first ∷ ids) [] k id flag apart at has = absurd (cc)
among_marked (first ∷ ids) (mark ∷ flags) k id flag apart at has =
    split (is_number_among ids first) refl apart k at has (λ k apart at has. among_marked ids flags k id flag apart at has)
  where
    here : (mark : Bool) → is_number_among ids first ≡ false
        → is_number_among (marked (first ∷ ids) (mark ∷ flags)) first ≡ mark
    here true new = rw (eq-eqb first first refl) refl
    here false new = none_marked first ids flags new

    later : (mark : Bool) → (id == first) ≡ false → is_number_among (marked ids flags) id ≡ flag
        → is_number_among (marked (first ∷ ids) (mark ∷ flags)) id ≡ flag
    later true other rest = rw other rest
    later false other rest = rest

    split : (b : Bool) → is_number_among ids first ≡ b → b || has_repeat ids ≡ false
        → (k : ℕ) → slice_get (first ∷ ids) k ≡ Some id → slice_get (mark ∷ flags) k ≡ Some flag
        → ((k : ℕ) → has_repeat ids ≡ false → slice_get ids k ≡ Some id
        → slice_get flags k ≡ Some flag → is_number_among (marked ids flags) id ≡ flag)
        → is_number_among (marked (first ∷ ids) (mark ∷ flags)) id ≡ flag
    split true e apart k at has rest = absurd (cc)
    split false new apart zero at has rest =
        let same : first ≡ id = same_Some first id at in
        let is : mark ≡ flag = same_Some mark flag has in
        rw (← same, ← is) (here mark new)
    split false new apart (suc k) at has rest =
        later mark (eqb_comm id first ∙ fails_at (λ (other : ℕ). first == other) ids k id new at)
        (rest k apart at has)

module _ (rows : List NodeRow) (net : IsNetwork rows) (old new : List Bool)
    (many : length old ≡ length rows) (passes : ℕ → Bool)
    (more : MarksMore passes rows old new) where
  -- the marked nodes after some were touched
  pub marked_more : marked (ids_of rows) new
      ≡ filter (λ id. is_number_among (marked (ids_of rows) old) id || passes id) (ids_of rows)
  marked_more = flags_filter (λ id. is_number_among (marked (ids_of rows) old) id || passes id)
      (ids_of rows) new
      (let ids = length-map rows (λ (row : NodeRow). row.id) in omega (arith, more.as_many, many))
      (λ k id at. flag_at k id at)
    where
      flag_at : (k id : ℕ) → slice_get (ids_of rows) k ≡ Some id → slice_get new k
          ≡ Some (is_number_among (marked (ids_of rows) old) id || passes id)
      flag_at k id at =
          let row : (row : NodeRow) × (slice_get rows k ≡ Some row) × (row.id ≡ id) =
          from_option_map (λ (row : NodeRow). row.id) (slice_get rows k) id
          (sym (slice_get-map (λ (row : NodeRow). row.id) rows k) ∙ at) in
          let within = slice_get_within rows k row.0 row.1 in
          let flag : Bool = get_or old k false in
          let has : slice_get old k ≡ Some flag = slice_get-get_or old k false (omega (arith, many)) in
          more.each k row.0 flag row.1 has
          ∙ ap (λ (b : Bool). Some (b || passes row.0.id))
          (sym (among_marked (ids_of rows) old k id flag (ids_differ rows net) at has))
          ∙ ap (λ (id' : ℕ). Some (is_number_among (marked (ids_of rows) old) id || passes id')) row.2

pub marked_all_rows : (rows : List NodeRow) (flags : List Bool)
    → flags ≡ replicate (length rows) true → marked (ids_of rows) flags ≡ ids_of rows
marked_all_rows rows flags are =
    ap (marked (ids_of rows)) (are ∙ ap (λ (n : ℕ). replicate n true)
    (sym (length-map rows (λ (row : NodeRow). row.id)))) ∙ marked_all (ids_of rows)

-- the identity of the view at a place is that of the row
pub id_at_view : (rows : List NodeRow) (labels : List (List Bool)) (k : ℕ) (view : Seen)
    → slice_get (views rows labels) k ≡ Some view → slice_get (ids_of rows) k ≡ Some view.id
id_at_view rows labels k view at = by (slice_get rows k) refl
  where
    shows : option_map (seen (label_of rows labels)) (slice_get rows k) ≡ Some view
    shows = sym (slice_get-map (seen (label_of rows labels)) rows k) ∙ at

    by : (found : Option NodeRow) → slice_get rows k ≡ found
        → slice_get (ids_of rows) k ≡ Some view.id
    by None is = let no : None ≡ Some view = sym (ap (option_map (seen (label_of rows labels))) is)
        ∙ shows in absurd (cc no)
    by (Some row) is =
        let same : seen (label_of rows labels) row ≡ view =
        same_Some (seen (label_of rows labels) row) view
        (sym (ap (option_map (seen (label_of rows labels))) is) ∙ shows) in
        slice_get-map (λ (row : NodeRow). row.id) rows k
        ∙ ap (option_map (λ (row : NodeRow). row.id)) is
        ∙ ap (λ (view : Seen). Some view.id) same

-- none of so many notes is set
pub none_is_set : (n k : ℕ) → slice_get (replicate n false) k ≡ Some true → ⊥
none_is_set zero k set = absurd (cc (set))
none_is_set (suc n) zero set = absurd (cc (set))
none_is_set (suc n) (suc k) set = none_is_set n k set
