-- The first levels of a label, as they are kept at a glance in a short form.
use Rattle.std.proofs.Common.{◌≡◌, ◌∙◌, ℕ, ◌+◌, ◌-◌, ◌≤◌, ◌<◌, [], ◌∷◌, ◌++◌, inl, inr, min, true, false, List, length, map, get_or, take, drop, replicate, set, slice_get, Some, refl, sym, ap, arith}
use Rattle.std.proofs.lemmas.Bool.{cases_lt}
use Rattle.std.proofs.lemmas.List.{drop-drop, drop-replicate, drop-set-lt, drop_more, get_or-map, get_or-take, length-drop, length-map, length-replicate, length-set, length-take, length-take-le, map_more, take-append-drop, take-append-le, take-map, take-take, take_more_set}
use Rattle.std.proofs.lemmas.List.Sums.{prefix_len-le-length, prefix_len_is}
use Rattle.std.proofs.lemmas.Option.{slice_get-get_or}
use Rattle.pls_levels.specs.inner.ShortForm.{IsKeptFront, ShortForm, in_full, kept_count, kept_front}

-- levels of a front in full
module _ {Full Short : Type 0} (form : ShortForm Full Short) where
  -- a level where there is none
  abbrev pub blank : Full
  blank = form.whole form.none

  pub in_full-at : (front : List Short) (place : ℕ) → place < length front
      → form.whole (get_or front place form.none) ≡ get_or (in_full form front) place blank
  in_full-at front place within = sym (get_or-map form.whole front place form.none blank within)

  -- a level among the first
  module _ (count : ℕ) (front : List Short) (place : ℕ) (within : place < count)
      (there : place < length front) where
    -- there are more of them than its place
    more : place < length (take count (in_full form front))
    more = omega (
      arith,
      within,
      there,
      length-take count (in_full form front),
      length-map front form.whole,
    )

    level_is : get_or (take count (in_full form front)) place blank
        ≡ form.whole (get_or front place form.none)
    level_is = get_or-take count (in_full form front) place blank within
        ∙ sym (in_full-at front place there)

    -- it stands there
    pub kept_at : slice_get (take count (in_full form front)) place
        ≡ Some (form.whole (get_or front place form.none))
    kept_at = slice_get-get_or (take count (in_full form front)) place blank more
        ∙ ap Some level_is

    -- it comes first of those that are left
    pub kept_split : drop place (take count (in_full form front))
        ≡ form.whole (get_or front place form.none)
        ∷ drop (place + 1) (take count (in_full form front))
    kept_split = drop_more (take count (in_full form front)) place blank more
        ∙ ap (λ (level : Full). level ∷ drop (place + 1) (take count (in_full form front)))
        level_is

-- the front, where at most so many levels are kept
module _ {Full Short : Type 0} (form : ShortForm Full Short) (most : ℕ) where
  -- so many of these levels are kept in a front, and the rest stands behind them
  pub record IsKept (place : ℕ) (front : List Short) (levels rest : List Full) : Type 0 where
    pub many : place ≤ length levels
    pub long : length front ≡ most
    pub kept : take place front ≡ map form.short (take place levels)
    pub empty : drop place front ≡ replicate (most - place) form.none
    pub fit : (i : ℕ) → i < place → form.fits (get_or levels i (blank form)) ≡ true
    pub left : drop place levels ≡ rest

  -- with one level more, one place less has none
  empty-next : (place : ℕ) (front : List Short) (level : Short) → place < most
      → drop place front ≡ replicate (most - place) form.none
      → drop (place + 1) (set front place level) ≡ replicate (most - (place + 1)) form.none
  empty-next place front level within left =
      let less : most - place - 1 ≡ most - (place + 1) = omega arith in
      drop-set-lt (place + 1) front place level (omega arith)
      ∙ sym (drop-drop 1 place front)
      ∙ ap (drop 1) left ∙ drop-replicate 1 (most - place) form.none
      ∙ ap (λ (count : ℕ). replicate count form.none) less

  -- of levels that all are left none is kept
  pub front-none : (levels rest : List Full) → levels ≡ rest
      → IsKept 0 (replicate most form.none) levels rest
  front-none levels rest same = record {
    many = omega arith;
    long = length-replicate most form.none;
    kept = refl;
    empty = ap (λ (count : ℕ). replicate count form.none) (omega arith);
    fit = λ i less. absurd (omega (arith, less));
    left = same;
  }

  -- one level more is kept
  pub front-next : (place : ℕ) (front : List Short) (levels : List Full) (level : Full)
      (rest : List Full) (short : Short) → place < most
      → IsKept place front levels (level ∷ rest) → form.fits level ≡ true
      → short ≡ form.short level → IsKept (place + 1) (set front place short) levels rest
  front-next place front levels level rest short within was fit is =
      let more : place < length levels =
      omega (arith, length-drop place levels, ap length was.left) in
      let both : get_or levels place (blank form) ∷ drop (place + 1) levels ≡ level ∷ rest =
      sym (drop_more levels place (blank form) more) ∙ was.left in
      let here : get_or levels place (blank form) ≡ level =
      ap (λ (list : List Full). get_or list 0 (blank form)) both in
      record {
        many = omega (arith, more);
        long = length-set front place short ∙ was.long;
        kept = take_more_set front place short (omega (arith, within, was.long))
            ∙ ap (λ (done : List Short). done ++ short ∷ []) was.kept
            ∙ ap (λ (last : Short). map form.short (take place levels) ++ last ∷ [])
            (is ∙ ap form.short (sym here))
            ∙ sym (map_more form.short levels place (blank form) more);
        empty = empty-next place front short within was.empty;
        fit = λ i less. elim (cases_lt i place) [
          | inl before ↦ was.fit i before
          | inr not_before ↦
              let last : i ≡ place = omega (arith, less, not_before) in
              ap (λ (i : ℕ). form.fits (get_or levels i (blank form))) last
              ∙ ap form.fits here ∙ fit
        ];
        left = ap (drop 1) both;
      }

  -- where all that fit are kept
  module _ (place : ℕ) (front : List Short) (levels rest : List Full)
      (is : IsKept place front levels rest) (within : place ≤ most)
      (ends : place < most → place < length levels
      → form.fits (get_or levels place (blank form)) ≡ false) where
    -- it is so many
    count_is : place ≡ kept_count form most levels
    unfolding kept_count
    count_is =
        let some : length (take most levels) ≡ min most (length levels) =
        length-take most levels in
        sym (prefix_len_is form.fits (take most levels) place (blank form)
        (omega (arith, some, within, is.many))
        (λ i less. ap form.fits
        (get_or-take most levels i (blank form) (omega (arith, less, within))) ∙ is.fit i less)
        (λ less. ap form.fits
        (get_or-take most levels place (blank form) (omega (arith, some, less)))
        ∙ ends (omega (arith, some, less)) (omega (arith, some, less))))

    -- it is the front
    front_is : front ≡ kept_front form most levels
    unfolding kept_front
    front_is = sym (take-append-drop place front)
        ∙ ap (λ (kept : List Short). kept ++ drop place front) is.kept
        ∙ ap (λ (rest : List Short). map form.short (take place levels) ++ rest) is.empty
        ∙ ap (λ (count : ℕ). map form.short (take count levels)
        ++ replicate (most - count) form.none) count_is

    -- it is both
    all_kept : IsKeptFront form most place front levels
    all_kept = (count_is, front_is)

  -- where no levels are left
  pub none_left : (place : ℕ) (front : List Short) (levels rest : List Full)
      → IsKept place front levels rest → place ≤ most → (place < most → rest ≡ [])
      → IsKeptFront form most place front levels
  none_left place front levels rest is within none =
      all_kept place front levels rest is within (λ less there. absurd (omega (
        arith,
        there,
        length-drop place levels,
        ap length is.left,
        ap length (none less),
      )))

  -- where the next does not fit
  pub none_fits : (place : ℕ) (front : List Short) (levels : List Full) (level : Full)
      (rest : List Full) → IsKept place front levels (level ∷ rest) → place ≤ most
      → form.fits level ≡ false → IsKeptFront form most place front levels
  none_fits place front levels level rest is within not =
      all_kept place front levels (level ∷ rest) is within (λ less there.
      let here : get_or levels place (blank form) ≡ level =
      ap (λ (list : List Full). get_or list 0 (blank form))
      (sym (drop_more levels place (blank form) there) ∙ is.left) in
      ap form.fits here ∙ not)

  -- no more are kept than there are
  pub kept_count-few : (levels : List Full) → kept_count form most levels ≤ length levels
  unfolding kept_count
  kept_count-few levels =
      omega (arith, prefix_len-le-length form.fits (take most levels), length-take most levels)

  -- where levels that are kept are the same in full
  module _ (same : (level : Full) → form.whole (form.short level) ≡ level) where
    -- so are lists of them
    in_full-short : (levels : List Full) → in_full form (map form.short levels) ≡ levels
    in_full-short [] = refl
    in_full-short (level ∷ levels) =
        ap (λ (first : Full). first ∷ in_full form (map form.short levels)) (same level)
        ∙ ap (λ (rest : List Full). level ∷ rest) (in_full-short levels)

    -- of the first that are kept so many are those of all
    pub kept_front-take : (count : ℕ) (levels : List Full) → count ≤ kept_count form most levels
        → take count (in_full form (kept_front form most levels)) ≡ take count levels
    unfolding kept_front
    kept_front-take count levels few =
        let kept : ℕ = kept_count form most levels in
        let shorts : List Short = map form.short (take kept levels) in
        let many : length shorts ≡ kept = length-map (take kept levels) form.short
        ∙ length-take-le kept levels (kept_count-few levels) in
        take-map form.whole count (kept_front form most levels)
        ∙ ap (in_full form) (take-append-le count shorts (replicate (most - kept) form.none)
        (omega (arith, few, many)) ∙ take-map form.short count (take kept levels))
        ∙ in_full-short (take count (take kept levels)) ∙ take-take count kept levels few
