-- Centroids and levels at worked examples.
use Rattle.std.proofs.Common.{◌≡◌, ℕ, List, [], ◌∷◌, Some, true, false, refl}
use Rattle.pls_configuration.specs.Walk.{Edge}
use Rattle.pls_centroid.specs.Centroid.{centroid_of, is_central, next_edges}

abbrev edge : ℕ → ℕ → Edge
edge a b = record { a = a; b = b; weight = 1 }

-- the path 1 - 2 - 3
path : List Edge
path = edge 1 2 ∷ edge 2 3 ∷ []

abbrev three : List ℕ
three = 1 ∷ 2 ∷ 3 ∷ []

first_centroid : centroid_of path three 1 ≡ Some 2
unfolding path
first_centroid = refl

no_edges_left : next_edges three path ≡ []
unfolding path
no_edges_left = refl

alone : centroid_of [] three 3 ≡ Some 3
alone = refl

-- of two nodes the first is the centroid
pair : centroid_of (edge 4 7 ∷ []) (4 ∷ 7 ∷ []) 7 ≡ Some 4
pair = refl

-- the path 1 - 2 - 3 - 4: of two nodes in the middle the first; then 3 - 4 is left
four_path : List Edge
four_path = edge 1 2 ∷ edge 2 3 ∷ edge 3 4 ∷ []

abbrev four : List ℕ
four = 1 ∷ 2 ∷ 3 ∷ 4 ∷ []

in_the_middle : centroid_of four_path four 4 ≡ Some 2
unfolding four_path
in_the_middle = refl

also_central : is_central four_path four 3 ≡ true
unfolding four_path
also_central = refl

not_central : is_central four_path four 4 ≡ false
unfolding four_path
not_central = refl

then_left : next_edges four four_path ≡ edge 3 4 ∷ []
unfolding four_path
then_left = refl

-- a star with its middle at 9
star : List Edge
star = edge 1 9 ∷ edge 2 9 ∷ edge 3 9 ∷ []

middle : centroid_of star (1 ∷ 2 ∷ 3 ∷ 9 ∷ []) 2 ≡ Some 9
unfolding star
middle = refl
