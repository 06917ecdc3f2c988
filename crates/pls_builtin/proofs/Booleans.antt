-- Truth values, and lists of them.
use Rattle.std.proofs.Common.{◌≡◌, ◌∙◌, Bool, true, false, List, ◌∷◌, refl, ap}
use Rattle.std.specs.Prelude.{◌==◌}
use Rattle.std.specs.Bool.{beq}
use Rattle.pls_bits.specs.Bytes.{weigh}
use Rattle.pls_compile.specs.RuleMeaning.{agree}

-- 1 for what holds
pub weigh_is : (b : Bool) → (weigh b == 1) ≡ b
weigh_is true = refl
weigh_is false = refl

-- both or neither is to be the same
pub agree_is : (a b : Bool) → agree a b ≡ beq a b
agree_is true true = refl
agree_is true false = refl
agree_is false true = refl
agree_is false false = refl

-- lists of truth values that are the same one by one
pub same_first : {a b : Bool} {others more : List Bool} → a ≡ b → others ≡ more
    → a ∷ others ≡ b ∷ more
same_first {a} {b} {others} {more} one rest =
    ap (λ (v : Bool). v ∷ others) one ∙ ap (λ (list : List Bool). b ∷ list) rest
