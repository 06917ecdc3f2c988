-- Labels of numbers that are within others.
use Rattle.std.proofs.Common.{◌≡◌, ℕ, ◌*◌, ◌≤◌, Bool, true, List, [], ◌∷◌, length, nat_le, refl, sym, ap, subst, arith, length-append}
use Rattle.std.proofs.lemmas.Bool.{le-leb}
use Rattle.pls_bits.specs.declared.num_code.TheConstants.{MAX_CODED, MAX_CODE_BITS}
use Rattle.pls_bits.specs.NumberCode.{Grows, IsShort}
use Rattle.pls_numbers.specs.declared.kind.FieldKind.{FieldKind}
use Rattle.pls_numbers.specs.Numbers.{AreCoded, codes_of}
use Rattle.pls_numbers.specs.Shape.{Shape}
use Rattle.pls_scheme.specs.Length.{code_length, codes_length}
use Rattle.pls_scheme.specs.Marked.{Fits}
use Rattle.pls_streams.specs.Steps.{capped}

-- numbers are within others, which have codes, place by place
abbrev pub AreWithin : List ℕ → List ℕ → Type 0
AreWithin [] [] = Unit {0}
AreWithin [] (limit ∷ limits) = ⊥
AreWithin (number ∷ numbers) [] = ⊥
AreWithin (number ∷ numbers) (limit ∷ limits) =
    (number ≤ limit) × (limit ≤ MAX_CODED) × AreWithin numbers limits

module _ (code : ℕ → List Bool) (grows : Grows code) (short : IsShort code) where
  -- such numbers have codes, no longer than those of the others, nor than codes are
  pub record AreShort (numbers limits : List ℕ) : Type 0 where
    pub coded : AreCoded [] numbers
    pub within : length (codes_of code [] numbers) ≤ codes_length code [] limits
    pub few : length (codes_of code [] numbers) ≤ MAX_CODE_BITS * length numbers

  within_short : (numbers limits : List ℕ) → AreWithin numbers limits → AreShort numbers limits
  within_short [] [] within =
      record { coded = tt; within = omega arith; few = omega arith }
  within_short [] (limit ∷ limits) within = absurd within
  within_short (number ∷ numbers) [] within = absurd within
  within_short (number ∷ numbers) (limit ∷ limits) within =
      let others : AreShort numbers limits = within_short numbers limits within.2 in
      let test : nat_le limit MAX_CODED ≡ true = le-leb limit MAX_CODED within.1 in
      let long : code_length code limit ≡ length (code limit) = rw test refl in
      let small : number ≤ MAX_CODED = omega (arith, within.0, within.1) in
      let first : length (code number) ≤ length (code limit) =
      grows number limit within.0 within.1 in
      let one : length (code number) ≤ MAX_CODE_BITS = short number small in
      let both = length-append (code number) (codes_of code [] numbers) in
      record {
        coded = (small, others.coded);
        within = omega (arith, both, first, long, others.within);
        few = omega (arith, both, one, others.few);
      }

  -- a label of a few such numbers, all in code, fits
  pub within_fits : {L : Type 0} (shape : Shape L) (label : L) (limits : List ℕ)
      → shape.kinds ≡ [] → shape.Proper label → length (shape.numbers label) ≤ 255
      → AreWithin (shape.numbers label) limits
      → Fits shape code (capped (codes_length code [] limits)) label
  within_fits shape label limits plain proper few within =
      let all : AreShort (shape.numbers label) limits =
      within_short (shape.numbers label) limits within in
      let coded : AreCoded shape.kinds (shape.numbers label) =
      subst (λ (kinds : List FieldKind). AreCoded kinds (shape.numbers label)) (sym plain)
      all.coded in
      let long = ap (λ (kinds : List FieldKind). length (codes_of code kinds (shape.numbers label)))
      plain in
      record {
        writable = record { coded = coded; proper = proper };
        short = omega (arith, all.within, all.few, few, long);
      }
