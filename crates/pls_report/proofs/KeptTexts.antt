-- The texts of looks that are kept.
use Rattle.std.proofs.Common.{◌≡◌, ◌∙◌, ℕ, ◌+◌, ◌<◌, ◌≤◌, inl, inr, List, [], ◌∷◌, ◌++◌, zero, suc, length, take, get_or, refl, sym, ap, arith, subst}
use Rattle.std.proofs.lemmas.Bool.{cases_lt}
use Rattle.std.proofs.lemmas.List.{length-append, take-append-le, take_all, take_more}
use Rattle.pls_report.specs.declared.kept_looks.KeptLook.{KeptLook}
use Rattle.pls_report.specs.inner.Kept.{counts_text}
use Rattle.pls_report.specs.inner.KeptTexts.{HasRoomForAll, last_lines, texts_from}
use Rattle.pls_report.specs.inner.Patches.{patch_text}

-- the lines of one look more
pub last_more : (text : List ℕ) (looks : List KeptLook) (look : KeptLook)
    → last_lines text (looks ++ look ∷ []) ≡ patch_text look.patches (last_lines text looks)
last_more text [] look = refl
last_more text (first ∷ looks) look = last_more (patch_text first.patches text) looks look

-- the lines of the look at a place are made of those before
pub last_step : (text : List ℕ) (looks : List KeptLook) (i : ℕ) (d : KeptLook) → i < length looks
    → last_lines text (take (i + 1) looks)
    ≡ patch_text (get_or looks i d).patches (last_lines text (take i looks))
last_step text looks i d within =
    ap (last_lines text) (take_more looks i d within)
    ∙ last_more text (take i looks) (get_or looks i d)

-- one look more
pub texts_more : (number : ℕ) (text : List ℕ) (looks : List KeptLook) (look : KeptLook)
    → texts_from number text (looks ++ look ∷ [])
    ≡ texts_from number text looks
    ++ (patch_text look.patches (last_lines text looks)
    ++ counts_text (length (texts_from number text looks) + number) look.counts) ∷ []
texts_more number text [] look =
    (λ k. (patch_text look.patches text ++ counts_text (first k) look.counts) ∷ [])
  where
    first : number ≡ 0 + number
    first = omega arith
texts_more number text (first ∷ looks) look =
    let lines : List ℕ = patch_text first.patches text in
    let others : List (List ℕ) = texts_from (number + 1) lines looks in
    let next : length others + (number + 1) ≡ suc (length others) + number = omega arith in
    ap (λ (texts : List (List ℕ)). (lines ++ counts_text number first.counts) ∷ texts)
    (texts_more (number + 1) lines looks look
    ∙ (λ k. others
    ++ (patch_text look.patches (last_lines lines looks) ++ counts_text (next k) look.counts) ∷ []))

-- as many as there are looks
pub texts_many : (number : ℕ) (text : List ℕ) (looks : List KeptLook)
    → length (texts_from number text looks) ≡ length looks
texts_many number text [] = refl
texts_many number text (first ∷ looks) =
    ap suc (texts_many (number + 1) (patch_text first.patches text) looks)

-- the text of the look at a place
pub text_at : (number : ℕ) (text : List ℕ) (looks : List KeptLook) (i : ℕ) (d : KeptLook) (e : List ℕ)
    → i < length looks
    → get_or (texts_from number text looks) i e
    ≡ last_lines text (take (i + 1) looks) ++ counts_text (i + number) (get_or looks i d).counts
text_at number text [] i d e within = absurd (omega (arith, within))
text_at number text (first ∷ looks) zero d e within =
    (λ k. patch_text first.patches text ++ counts_text (same k) first.counts)
  where
    same : number ≡ 0 + number
    same = omega arith
text_at number text (first ∷ looks) (suc i) d e within =
    text_at (number + 1) (patch_text first.patches text) looks i d e (omega (arith, within))
    ∙ (λ k. last_lines text (take (up k) (first ∷ looks))
    ++ counts_text (next k) (get_or looks i d).counts)
  where
    next : i + (number + 1) ≡ suc i + number
    next = omega arith

    up : suc (i + 1) ≡ suc i + 1
    up = omega arith

-- room for one look more
pub room_more : (room : ℕ) (looks : List KeptLook) (look : KeptLook) → HasRoomForAll room looks
    → length (patch_text look.patches (last_lines [] looks)) ≤ room
    → HasRoomForAll room (looks ++ look ∷ [])
room_more room looks look all fits i within = elim (cases_lt i (length looks)) [
  | inl earlier ↦ subst (λ (front : List KeptLook). length (last_lines [] front) ≤ room)
      (sym (take-append-le (i + 1) looks (look ∷ []) (omega (arith, earlier)))) (all i earlier)
  | inr late ↦ subst (λ (front : List KeptLook). length (last_lines [] front) ≤ room)
      (sym (take_all (i + 1) (looks ++ look ∷ []) (omega (arith, late, length-append looks (look ∷ [])))))
      (subst (λ (lines : List ℕ). length lines ≤ room) (sym (last_more [] looks look)) fits)
]

-- more room is room too
pub room_grows : (room more : ℕ) (looks : List KeptLook) → room ≤ more → HasRoomForAll room looks
    → HasRoomForAll more looks
room_grows room more looks grows all i within = omega (arith, grows, all i within)

-- the texts of looks while they are written: the lines of the next one, made of those before it
module _ (looks listed : List KeptLook) (same : listed ≡ looks) (i : ℕ) (look : KeptLook)
    (within : i < length listed) (is : look ≡ get_or listed i look) (before lines : List ℕ)
    (so_far : before ≡ last_lines [] (take i listed)) (made : lines ≡ patch_text look.patches before) where
  pub next_lines : lines ≡ last_lines [] (take (i + 1) listed)
  next_lines =
      made
      ∙ (λ k. patch_text (is k).patches (so_far k))
      ∙ sym (last_step [] listed i look within)

  -- are its text with its closing line
  pub next_text : (texts : List (List ℕ)) → texts_from 1 [] looks ≡ texts → (e : List ℕ)
      → (i < length texts) × (lines ++ counts_text (i + 1) look.counts ≡ get_or texts i e)
  next_text texts are e =
      let those : texts_from 1 [] listed ≡ texts = (λ k. texts_from 1 [] (same k)) ∙ are in (
        omega (arith, within, texts_many 1 [] listed, ap (length {A = List ℕ}) those),
        (λ k. next_lines k ++ counts_text (i + 1) (is k).counts)
            ∙ sym (text_at 1 [] listed i look e within)
            ∙ (λ k. get_or (those k) i e),
      )

-- there is room for them
pub next_fits : (room : ℕ) (listed : List KeptLook) → HasRoomForAll room listed → (i : ℕ)
    (look : KeptLook) → i < length listed → look ≡ get_or listed i look → (before : List ℕ)
    → before ≡ last_lines [] (take i listed)
    → length (patch_text look.patches before) ≤ room
next_fits room listed all i look within is before so_far =
    subst (λ (lines : List ℕ). length lines ≤ room)
    (last_step [] listed i look within ∙ sym (λ k. patch_text (is k).patches (so_far k)))
    (all i within)
