-- Where pointers lead to smaller identities, a depth falls by one along each.
use Rattle.std.proofs.Common.{◌≡◌, ◌∙◌, ℕ, zero, suc, ◌+◌, ◌<◌, ◌≤◌, Option, Some, None, refl, ap, arith}
use Rattle.std.specs.Option.{option_map_or}

-- how many pointers there are to the end, or this many if there are more
abbrev count_by_steps : (ℕ → Option ℕ) → ℕ → ℕ → ℕ
count_by_steps up zero u = 0
count_by_steps up (suc most) u = option_map_or (λ v. suc (count_by_steps up most v)) (up u) 0

module _ (up : ℕ → Option ℕ) (smaller : (u v : ℕ) → up u ≡ Some v → v < u) where
  -- how many pointers there are to the end
  abbrev pub depth : ℕ → ℕ
  depth u = count_by_steps up u u

  -- more steps than the identity says are of no use
  enough : (most more u : ℕ) → u ≤ most → u ≤ more
      → count_by_steps up most u ≡ count_by_steps up more u
  enough zero zero u within also = refl
  enough zero (suc more) u within also = at (up u) refl
    where
      at : (o : Option ℕ) → up u ≡ o
          → 0 ≡ option_map_or (λ v. suc (count_by_steps up more v)) o 0
      at None e = refl
      at (Some v) e = let less = smaller u v e in absurd (omega arith)
  enough (suc most) zero u within also = at (up u) refl
    where
      at : (o : Option ℕ) → up u ≡ o
          → option_map_or (λ v. suc (count_by_steps up most v)) o 0 ≡ 0
      at None e = refl
      at (Some v) e = let less = smaller u v e in absurd (omega arith)
  enough (suc most) (suc more) u within also = at (up u) refl (enough most more)
    where
      at : (o : Option ℕ) → up u ≡ o
          → ((v : ℕ) → v ≤ most → v ≤ more
          → count_by_steps up most v ≡ count_by_steps up more v)
          → option_map_or (λ v. suc (count_by_steps up most v)) o 0
          ≡ option_map_or (λ v. suc (count_by_steps up more v)) o 0
      at None e rest = refl
      at (Some v) e rest = let less = smaller u v e in ap suc (rest v (omega arith) (omega arith))

  pub depth-falls : (u v : ℕ) → up u ≡ Some v → depth u ≡ depth v + 1
  depth-falls zero v e = let less = smaller zero v e in absurd (omega arith)
  depth-falls (suc u) v e =
      let less = smaller (suc u) v e in
      let same = enough u v v (omega arith) (omega arith) in
      ap (λ (o : Option ℕ). option_map_or (λ v. suc (count_by_steps up u v)) o 0) e
      ∙ omega (arith, same)
