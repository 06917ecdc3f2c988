-- Lines that are told by their words are a kind of line.
use Rattle.std.proofs.Common.{◌≡◌, ◌≢◌, ℕ, ◌<◌, ◌^◌, nat_lt, true, List, [], ◌∷◌, Option, Some, None, codes, decimal, map, refl, sym, ◌∙◌, ap, arith}
use Rattle.std.specs.List.{AllByRecursion, list_all}
use Rattle.std.proofs.lemmas.Bool.{and_parts}
use Rattle.std.proofs.lemmas.Bool.Decides.{nat_tests}
use Rattle.pls_lines.specs.Plain.{LacksItem}
use Rattle.pls_lines.specs.Text.{line_of}
use Rattle.pls_lines.specs.LineKind.{IsLineKind}
use Rattle.pls_lines.specs.Worded.{IsNumbered, IsWord, IsWorded, numbered, worded}
use Rattle.pls_lines.specs.laws.Cuts.{same_first, lacks_here}
use Rattle.pls_lines.specs.laws.LineWords.{line_lacks}
use Rattle.pls_lines.specs.laws.NumberWords.{number_said, number_word}
use Rattle.std.specs.Str.Parse.{digits_value}

-- a line tells its words
pub record SameWords (v w : List ℕ) (vs ws : List (List ℕ)) : Type 0 where
  pub first : v ≡ w
  pub others : vs ≡ ws

pub same_words : (v w : List ℕ) (vs ws : List (List ℕ)) → LacksItem 32 v → LacksItem 32 w
    → AllByRecursion IsWord vs → AllByRecursion IsWord ws
    → line_of (v ∷ vs) ≡ line_of (w ∷ ws) → SameWords v w vs ws
same_words v w [] [] p q ps qs e = record { first = e; others = refl }
same_words v w [] (y ∷ ws) p q ps qs e = absurd (lacks_here 32 v w (line_of (y ∷ ws)) p e)
same_words v w (x ∷ vs) [] p q ps qs e =
    absurd (lacks_here 32 w v (line_of (x ∷ vs)) q (sym e))
same_words v w (x ∷ vs) (y ∷ ws) p q ps qs e =
    let cut = same_first 32 v w (line_of (x ∷ vs)) (line_of (y ∷ ws)) p q e in
    let rest = same_words x y vs ws ps.0.whole qs.0.whole ps.1 qs.1 cut.1 in
    let head = rest.first in
    let tail = rest.others in
    record { first = cut.0; others = cc }

-- bytes above the space are no line feed and no space
pub above_lacks : (byte : ℕ) (word : List ℕ) → byte < 33 → list_all (nat_lt 32) word ≡ true
    → LacksItem byte word
above_lacks byte [] low h = tt
above_lacks byte (b ∷ word) low h =
    let parts = and_parts (nat_lt 32 b) _ h in
    (above b parts.0, above_lacks byte word low parts.1)
  where
    above : (b : ℕ) → nat_lt 32 b ≡ true → b ≢ byte
    above b h same = grind (arith, nat_tests)

each_plain : (words : List (List ℕ)) → AllByRecursion IsWord words → AllByRecursion (LacksItem 10) words
each_plain [] p = tt
each_plain (word ∷ words) p = (p.0.plain, each_plain words p.1)

end_whole : LacksItem 32 (codes "end")
end_whole = (omega arith, (omega arith, (omega arith, tt)))

module _ {X : Type 0} (Fits : X → Type 0) (word : X → List ℕ) (args : X → List (List ℕ))
    (said : List ℕ → List (List ℕ) → Option X) (is : IsWorded Fits word args said) where
  first_whole : (value : X) → LacksItem 32 (word value)
  first_whole value = above_lacks 32 (word value) (omega arith) (is.above value)

  one_value : (a b : X) → Fits a → Fits b → worded word args a ≡ worded word args b → a ≡ b
  one_value a b p q e =
      let same = same_words (word a) (word b) (args a) (args b) (first_whole a) (first_whole b)
      (is.are_words a p) (is.are_words b q) e in
      some_injective a b (sym (is.back a p) ∙ ap (λ (w : List ℕ). said w (args a)) same.first
      ∙ ap (said (word b)) same.others ∙ is.back b q)
    where
      some_injective : (a b : X) → Some a ≡ Some b → a ≡ b
      some_injective a b e = cc

  not_end : (value : X) → Fits value → worded word args value ≢ codes "end"
  not_end value p e =
      let same = same_words (word value) (codes "end") (args value) [] (first_whole value) end_whole
      (is.are_words value p) tt e in
      some_no_none value (sym (is.back value p)
      ∙ ap (λ (w : List ℕ). said w (args value)) same.first
      ∙ ap (said (codes "end")) same.others ∙ is.no_end)
    where
      some_no_none : (value : X) → Some value ≡ None → ⊥
      some_no_none value e = cc

  pub worded_kind : IsLineKind Fits (worded word args)
  worded_kind = record {
    plain = λ value p. line_lacks 10 (word value ∷ args value) (omega arith) (
      above_lacks 10 (word value) (omega arith) (is.above value),
      each_plain (args value) (is.are_words value p),
    );
    no_end = not_end;
    one = one_value;
  }

-- lines of a word and numbers are a kind of line
module _ {X : Type 0} (Fits : X → Type 0) (word numbers : X → List ℕ)
    (said : List ℕ → List ℕ → Option X) (is : IsNumbered Fits word numbers said) where
  -- the words of numbers are words, and say the numbers
  are_words : (ns : List ℕ) → AllByRecursion (λ n. n < 2 ^ 64) ns
      → AllByRecursion IsWord (map decimal ns)
  are_words [] small = tt
  are_words (n ∷ ns) small = (number_word n small.0, are_words ns small.1)

  numbers_said : (ns : List ℕ) → AllByRecursion (λ n. n < 2 ^ 64) ns
      → map (digits_value 10) (map decimal ns) ≡ ns
  numbers_said [] small = refl
  numbers_said (n ∷ ns) small =
      let first = number_said n small.0 in
      let others = numbers_said ns small.1 in
      λ i. first i ∷ others i

  pub numbered_kind : IsLineKind Fits (numbered word numbers)
  numbered_kind =
      worded_kind Fits word (λ value. map decimal (numbers value))
      (λ first words. said first (map (digits_value 10) words)) (record {
        above = is.above;
        are_words = λ value fits. are_words (numbers value) (is.small value fits);
        back = λ value fits.
            ap (said (word value)) (numbers_said (numbers value) (is.small value fits))
            ∙ is.back value;
        no_end = is.no_end;
      })
