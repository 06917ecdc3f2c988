-- Answers that are true exactly where a fact holds, and what they tell where they are put together.
use Rattle.std.proofs.Common.{◌≡◌, ◌↔◌, ◌≤◌, ◌⊎◌, inl, inr, ℕ, ◌==◌, Bool, true, not, ◌&&◌, ◌||◌, List, Contains}
use Rattle.std.specs.Prelude.{nat_le}
use Rattle.std.specs.List.{list_all, list_any}
use Rattle.std.proofs.lemmas.Bool.{and_from, and_parts, both_ways, eq-eqb, eqb-true, false_from_ne_true, le-leb, leb-true, not-true, not_from_false, or_cases, or_left, or_right}
use Rattle.pls_facts.proofs.Lists.{all_pass, any_passes, each_passes, passes_any}

-- the answer is true exactly where the fact holds
abbrev pub Tells : Bool → Type 0 → Type 0
Tells answer P = (answer ≡ true) ↔ P

-- where a test of items tells a fact, all items pass it where the fact holds of each, and some item
-- where it holds of some
module _ {X : Type 0} (test : X → Bool) (P : X → Type 0) (xs : List X)
    (tells : (x : X) → Contains xs x → Tells (test x) (P x)) where
  pub all_tells : Tells (list_all test xs) ((x : X) → Contains xs x → P x)
  all_tells = (
    λ passes x in'. (tells x in').0 (each_passes test xs passes x in'),
    λ holds. all_pass test xs (λ x in'. (tells x in').1 (holds x in')),
  )

  pub any_tells : Tells (list_any test xs) ((x : X) × Contains xs x × P x)
  any_tells = (
    λ passes. found (passes_any test xs passes),
    λ here. any_passes test xs here.0 here.1 ((tells here.0 here.1).1 here.2),
  )
    where
      found : (x : X) × Contains xs x × (test x ≡ true) → (x : X) × Contains xs x × P x
      found (x, in', passes) = (x, in', (tells x in').0 passes)

module _ {one other : Bool} {P Q : Type 0} (tells : Tells one P) (also : Tells other Q) where
  -- "both" tells that both facts hold
  pub both_tells : Tells (one && other) (P × Q)
  both_tells = (
    λ passes. let parts = and_parts one other passes in (tells.0 parts.0, also.0 parts.1),
    λ holds. and_from one other (tells.1 holds.0) (also.1 holds.1),
  )

  -- "either" tells that one of them holds
  pub either_tells : Tells (one || other) (P ⊎ Q)
  either_tells = (
    λ passes. elim (or_cases one other passes) [
      | inl here ↦ inl (tells.0 here)
      | inr there ↦ inr (also.0 there)
    ],
    λ holds. elim holds [
      | inl p ↦ or_left one other (tells.1 p)
      | inr q ↦ or_right one other (also.1 q)
    ],
  )

-- the other answer tells that the fact does not hold
pub not_tells : {answer : Bool} {P : Type 0} → Tells answer P → Tells (not answer) (P → ⊥)
not_tells {answer} {P} tells = (
  λ refuses holds. both_ways answer (not-true answer refuses) (tells.1 holds),
  λ none. not_from_false answer (false_from_ne_true answer (λ passes. none (tells.0 passes))),
)

-- comparisons tell that two numbers are the same, and that one is at most the other
module _ (m n : ℕ) where
  pub same_tells : Tells (m == n) (m ≡ n)
  same_tells = (eqb-true m n, eq-eqb m n)

  pub most_tells : Tells (nat_le m n) (m ≤ n)
  most_tells = (leb-true m n, le-leb m n)
