-- What a function says of each item of a list, after an item came or went.
use Rattle.std.proofs.Common.{◌≡◌, ℕ, zero, suc, List, [], ◌∷◌, insert, remove, map, refl, ap}

module _ {X Y : Type 0} (f : X → Y) where
  pub map_insert : (xs : List X) (i : ℕ) (x : X)
      → insert (map f xs) i (f x) ≡ map f (insert xs i x)
  map_insert xs zero x = refl
  map_insert [] (suc i) x = refl
  map_insert (y ∷ xs) (suc i) x = ap (λ (rest : List Y). f y ∷ rest) (map_insert xs i x)

  pub map_remove : (xs : List X) (i : ℕ) → remove (map f xs) i ≡ map f (remove xs i)
  map_remove [] zero = refl
  map_remove [] (suc i) = refl
  map_remove (y ∷ xs) zero = refl
  map_remove (y ∷ xs) (suc i) = ap (λ (rest : List Y). f y ∷ rest) (map_remove xs i)
