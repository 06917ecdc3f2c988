-- Where a byte stands first in a text.
use Rattle.std.proofs.Common.{◌≡◌, ◌≢◌, ◌∙◌, ℕ, ◌==◌, true, false, nat_lt, List, [], ◌∷◌, ◌++◌, length, length-append, Option, Some, None, IfSome, IfNone, Bor, refl, sym, ap, arith}
use Rattle.std.specs.List.{position, position_or_len}
use Rattle.std.proofs.lemmas.Bool.{eq-eqb, lt-ltb, ne_eqb}
use Rattle.std.proofs.lemmas.Option.{same_Some}
use Rattle.pls_lines.specs.Plain.{LacksItem}

module _ (end : ℕ) where
  place_or_len : (front rest : List ℕ) → LacksItem end front
      → position_or_len (λ byte. byte == end) (front ++ end ∷ rest) ≡ length front
  place_or_len [] rest none = let same : (end == end) ≡ true = eq-eqb end end refl in rw same refl
  place_or_len (byte ∷ front) rest none =
      let other : (byte == end) ≡ false = ne_eqb byte end none.0 in
      rw other (omega (arith, place_or_len front rest none.1))

  place_at : (front rest : List ℕ) → LacksItem end front
      → position (λ byte. byte == end) (front ++ end ∷ rest) ≡ Some (length front)
  place_at front rest none =
      let at = place_or_len front rest none in
      let within : nat_lt (length front) (length (front ++ end ∷ rest)) ≡ true =
      lt-ltb (length front) (length (front ++ end ∷ rest))
      (omega (arith, length-append front (end ∷ rest))) in
      rw (at, within) refl

  -- it is where the byte is found
  found_at : (text front rest : List ℕ) (found : Option ℕ)
      → found ≡ position (λ byte. byte == end) text → LacksItem end front
      → text ≡ front ++ end ∷ rest → found ≡ Some (length front)
  found_at text front rest found is none same =
      is ∙ ap (position (λ byte. byte == end)) same ∙ place_at front rest none

  pub not_found : (text front rest : List ℕ) → None ≡ position (λ byte. byte == end) text
      → LacksItem end front → text ≡ front ++ end ∷ rest → ⊥
  not_found text front rest is none same =
      let no_one : None ≡ Some (length front) = found_at text front rest None is none same in cc

  -- two fronts of one length of one list are one
  same_fronts : (a b x y : List ℕ) → length a ≡ length b → a ++ end ∷ x ≡ b ++ end ∷ y
      → (a ≡ b) × (x ≡ y)
  same_fronts [] [] x y long same = (refl, cc)
  same_fronts [] (d ∷ b) x y long same = absurd (omega (arith, long))
  same_fronts (c ∷ a) [] x y long same = absurd (omega (arith, long))
  same_fronts (c ∷ a) (d ∷ b) x y long same =
      let head : c ≡ d = cc in
      let rest = same_fronts a b x y (omega (arith, long)) (cc) in
      (rw head (ap (λ (front : List ℕ). d ∷ front) rest.0), rest.1)

  -- a text that is cut at the byte
  pub cut_first : (text : List ℕ) (at : ℕ) (result : Option (Bor (List ℕ) × Bor (List ℕ)))
      → Some at ≡ position (λ byte. byte == end) text
      → IfSome result (λ parts. text ≡ parts.0.now ++ end ∷ parts.1.now)
      → IfSome result (λ parts. length parts.0.now ≡ at)
      → IfSome result (λ parts. (word rest : List ℕ) → LacksItem end word
      → text ≡ word ++ end ∷ rest → (parts.0.now ≡ word) × (parts.1.now ≡ rest))
  cut_first text at None is stands long = tt
  cut_first text at (Some parts) is stands long = λ word rest none same.
      let here = same_Some at (length word) (found_at text word rest (Some at) is none same) in
      same_fronts parts.0.now word parts.1.now rest (long ∙ here) (sym stands ∙ same)

  pub cut_none : (text : List ℕ) (at : ℕ) (result : Option (Bor (List ℕ) × Bor (List ℕ)))
      → Some at ≡ position (λ byte. byte == end) text
      → IfNone result ((word rest : List ℕ) → length word ≡ at → text ≢ word ++ end ∷ rest)
      → IfNone result ((word rest : List ℕ) → LacksItem end word → text ≡ word ++ end ∷ rest → ⊥)
  cut_none text at (Some parts) is none = tt
  cut_none text at None is none = λ word rest lacks same.
      let here = same_Some at (length word) (found_at text word rest (Some at) is lacks same) in
      none word rest (sym here) same
