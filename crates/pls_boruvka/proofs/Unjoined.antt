-- How many entries are not true yet.
use Rattle.std.proofs.Common.{◌≡◌, ℕ, zero, suc, ◌<◌, ◌≤◌, Bool, true, false, List, [], ◌∷◌, length, get_or, refl, arith}

-- how many entries are false
abbrev pub unjoined : List Bool → ℕ
unjoined [] = 0
unjoined (true ∷ flags) = unjoined flags
unjoined (false ∷ flags) = suc (unjoined flags)

-- what is true stays true
abbrev pub StayTrue : List Bool → List Bool → Type 0
StayTrue old new = (place : ℕ) → get_or old place false ≡ true → get_or new place false ≡ true

-- then no more are false than before
unjoined-most : (old new : List Bool) → length new ≡ length old → StayTrue old new
    → unjoined new ≤ unjoined old
unjoined-most [] [] same stay = omega arith
unjoined-most [] (y ∷ new) same stay = absurd (omega (arith, same))
unjoined-most (x ∷ old) [] same stay = absurd (omega (arith, same))
unjoined-most (true ∷ old) (false ∷ new) same stay =
    let no : false ≡ true = stay 0 refl in absurd (cc)
unjoined-most (true ∷ old) (true ∷ new) same stay =
    unjoined-most old new (omega (arith, same)) (λ place. stay (suc place))
unjoined-most (false ∷ old) (true ∷ new) same stay =
    let rest = unjoined-most old new (omega (arith, same)) (λ place. stay (suc place)) in
    omega (arith, rest)
unjoined-most (false ∷ old) (false ∷ new) same stay =
    let rest = unjoined-most old new (omega (arith, same)) (λ place. stay (suc place)) in
    omega (arith, rest)

-- and where one has become true, one fewer at least
pub unjoined-fewer : (old new : List Bool) (place : ℕ) → length new ≡ length old
    → StayTrue old new → place < length old → (get_or old place false ≡ true → ⊥)
    → get_or new place false ≡ true → unjoined new < unjoined old
unjoined-fewer [] new place same stay within was is = absurd (omega (arith, within))
unjoined-fewer (x ∷ old) [] place same stay within was is = absurd (omega (arith, same))
unjoined-fewer (true ∷ old) (y ∷ new) zero same stay within was is =
    absurd (was refl)
unjoined-fewer (false ∷ old) (false ∷ new) zero same stay within was is = absurd (cc)
unjoined-fewer (false ∷ old) (true ∷ new) zero same stay within was is =
    let rest = unjoined-most old new (omega (arith, same)) (λ place. stay (suc place)) in
    omega (arith, rest)
unjoined-fewer (true ∷ old) (false ∷ new) (suc place) same stay within was is =
    let no : false ≡ true = stay 0 refl in absurd (cc)
unjoined-fewer (true ∷ old) (true ∷ new) (suc place) same stay within was is =
    unjoined-fewer old new place (omega (arith, same)) (λ place. stay (suc place))
    (omega (arith, within)) was is
unjoined-fewer (false ∷ old) (true ∷ new) (suc place) same stay within was is =
    let rest = unjoined-fewer old new place (omega (arith, same)) (λ place. stay (suc place))
    (omega (arith, within)) was is in
    omega (arith, rest)
unjoined-fewer (false ∷ old) (false ∷ new) (suc place) same stay within was is =
    let rest = unjoined-fewer old new place (omega (arith, same)) (λ place. stay (suc place))
    (omega (arith, within)) was is in
    omega (arith, rest)
