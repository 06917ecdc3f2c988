-- What calls find at the front of a text.
use Rattle.std.proofs.Common.{◌≡◌, ◌≢◌, ◌∙◌, ◌++◌, ℕ, List, MatchOption, Option, Some, None, option_map, Bor, refl, sym, ap}
use Rattle.pls_fronts.specs.Front.{after}
use Rattle.pls_fronts.specs.laws.FrontLaws.{after_is, after_word}

-- what strips a word off finds what follows it
pub after_found : (word text : List ℕ) (found : Option (Bor (List ℕ)))
    → MatchOption found ((rest : List ℕ) → text ≢ word ++ rest) (λ rest. text ≡ word ++ rest.now)
    → option_map (λ (rest : Bor (List ℕ)). rest.now) found ≡ after word text
after_found word text None none = by (after word text) refl
  where
    by : (rest : Option (List ℕ)) → after word text ≡ rest → None ≡ rest
    by None is = refl
    by (Some rest) is = absurd (none rest (after_is word text rest is))
after_found word text (Some rest) is =
    sym (after_word word rest.now) ∙ ap (after word) (sym is)
