-- Tests that pass exactly where others do.
use Rattle.std.proofs.Common.{◌≡◌, ℕ, ◌==◌, Bool, true, false, refl}
use Rattle.std.specs.Bool.{beq}
use Rattle.std.proofs.lemmas.Bool.{eqb-true, eq-eqb}
use Rattle.pls_leader.specs.Rooted.{is_0_at_root_alone}

-- of two tests that give one answer, where one passes the other does
pub beq-there : (a b : Bool) → beq a b ≡ true → a ≡ true → b ≡ true
beq-there true true same passes = refl
beq-there true false same passes = absurd (cc)
beq-there false b same passes = absurd (cc)

pub beq-back : (a b : Bool) → beq a b ≡ true → b ≡ true → a ≡ true
beq-back true b same passes = refl
beq-back false true same passes = absurd (cc)
beq-back false false same passes = absurd (cc)

-- and the other way round
pub beq-from : (a b : Bool) → (a ≡ true → b ≡ true) → (b ≡ true → a ≡ true) → beq a b ≡ true
beq-from true true there back = refl
beq-from true false there back = let no = there refl in absurd (cc)
beq-from false true there back = let no = back refl in absurd (cc)
beq-from false false there back = refl

module _ (id root depth : ℕ) where
  -- where the depth is 0 exactly at the root
  pub root_where_0 : is_0_at_root_alone id root depth ≡ true → depth ≡ 0 → id ≡ root
  root_where_0 same none =
      eqb-true id root (beq-there (depth == 0) (id == root) same (eq-eqb depth 0 none))

  pub at_0_alone : (depth ≡ 0 → id ≡ root) → (id ≡ root → depth ≡ 0)
      → is_0_at_root_alone id root depth ≡ true
  at_0_alone there back =
      beq-from (depth == 0) (id == root)
      (λ none. eq-eqb id root (there (eqb-true depth 0 none)))
      (λ is. eq-eqb depth 0 (back (eqb-true id root is)))
