-- Patches of a text.
use Rattle.std.proofs.Common.{◌≡◌, ◌∙◌, ℕ, ◌+◌, ◌<◌, ◌≤◌, List, [], ◌∷◌, ◌++◌, take, drop, length, get_or, refl, sym, ap, arith, append-nil, append_assoc}
use Rattle.std.proofs.lemmas.List.{drop-append-le, drop_more, length-append, length-drop, take-append-le, take_all}
use Rattle.std.proofs.lemmas.List.Sums.{sum_by-cons}
use Rattle.std.proofs.Math.Seq.{drop-append_seam, take-append_seam}
use Rattle.pls_report.specs.declared.patches.PatchPlace.{PatchPlace}
use Rattle.pls_report.specs.inner.Patches.{Patch, length_placed, patch_text, patches_at}

abbrev pub a_patch : ℕ → ℕ → List ℕ → Patch
a_patch stays goes comes = record { stays = stays; goes = goes; comes = comes }

-- a patch behind others, of which the new bytes stand behind theirs
pub patch_added : (line : List ℕ) (place : PatchPlace) → place.length ≡ length line
    → (places : List PatchPlace) (lines : List ℕ) → length_placed places ≡ length lines
    → patches_at (places ++ place ∷ []) (lines ++ line)
    ≡ patches_at places lines ++ a_patch place.stays place.goes line ∷ []
patch_added line place long [] [] all =
    (λ k. a_patch place.stays place.goes (take_all place.length line (omega (arith, long)) k) ∷ [])
patch_added line place long [] (byte ∷ lines) all = absurd (omega (arith, all))
patch_added line place long (first ∷ places) lines all =
    let more : length_placed (first ∷ places) ≡ first.length + length_placed places =
    sum_by-cons (λ (place : PatchPlace). place.length) first places in
    let within : first.length ≤ length lines = omega (arith, all, more) in
    (λ k. a_patch first.stays first.goes (take-append-le first.length lines line within k)
    ∷ patches_at (places ++ place ∷ []) (drop-append-le first.length lines line within k))
    ∙ ap (λ (patches : List Patch). a_patch first.stays first.goes (take first.length lines) ∷ patches)
    (patch_added line place long places (drop first.length lines)
    (omega (arith, all, more, length-drop first.length lines)))

-- these patches make `after` of `front`, and those behind them go on behind it
abbrev pub Makes : List Patch → List ℕ → List ℕ → Type 0
Makes patches front after = (more : List Patch) (rest : List ℕ)
    → patch_text (patches ++ more) (front ++ rest) ≡ after ++ patch_text more rest

pub makes_nothing : Makes [] [] []
makes_nothing more rest = refl

module _ (patches : List Patch) (front after mid : List ℕ) (makes : Makes patches front after) where
  -- one patch more, behind bytes that stay
  pub makes_more : (old line : List ℕ)
      → Makes (patches ++ a_patch (length mid) (length old) line ∷ []) (front ++ (mid ++ old))
      (after ++ (mid ++ line))
  makes_more old line more rest =
      let patch : Patch = a_patch (length mid) (length old) line in
      (λ k. patch_text (append_assoc patches (patch ∷ []) more k)
      (append_assoc front (mid ++ old) rest k))
      ∙ makes (patch ∷ more) ((mid ++ old) ++ rest)
      ∙ (λ k. after ++ patch_text (patch ∷ more) (append_assoc mid old rest k))
      ∙ (λ k. after ++ (take-append_seam mid (old ++ rest) k
      ++ (line ++ patch_text more (drop (length old) (drop-append_seam mid (old ++ rest) k)))))
      ∙ (λ k. after ++ (mid ++ (line ++ patch_text more (drop-append_seam old rest k))))
      ∙ ap (λ (text : List ℕ). after ++ text) (sym (append_assoc mid line (patch_text more rest)))
      ∙ sym (append_assoc after (mid ++ line) (patch_text more rest))

  -- all that is behind the last of them stays
  pub makes_all : patch_text patches (front ++ mid) ≡ after ++ mid
  makes_all =
      (λ k. patch_text (sym (append-nil patches) k) (front ++ mid))
      ∙ makes [] mid

-- while patches are applied: what is made, and what the others make of the text that is left, are
-- the whole
module _ (places : List PatchPlace) (i : ℕ) (d : PatchPlace) (within : i < length places)
    (made left lines whole : List ℕ)
    (so_far : made ++ patch_text (patches_at (drop i places) lines) left ≡ whole) where
  abbrev place_there : PatchPlace
  place_there = get_or places i d

  abbrev line_there : List ℕ
  line_there = take place_there.length lines

  abbrev rest_there : List ℕ
  rest_there =
      patch_text (patches_at (drop (i + 1) places) (drop place_there.length lines))
      (drop place_there.goes (drop place_there.stays left))

  pub patch_applied : ((made ++ take place_there.stays left) ++ line_there) ++ rest_there ≡ whole
  patch_applied =
      append_assoc (made ++ take place_there.stays left) line_there rest_there
      ∙ append_assoc made (take place_there.stays left) (line_there ++ rest_there)
      ∙ (λ k. made ++ patch_text (patches_at (sym (drop_more places i d within) k) lines) left)
      ∙ so_far

  pub line_fits : length (made ++ take place_there.stays left) + length line_there ≤ length whole
  line_fits = omega (
    arith,
    ap (length {A = ℕ}) patch_applied,
    length-append ((made ++ take place_there.stays left) ++ line_there) rest_there,
    length-append (made ++ take place_there.stays left) line_there,
  )

  pub front_fits : length made + length (take place_there.stays left) ≤ length whole
  front_fits = omega (arith, line_fits, length-append made (take place_there.stays left))
