-- The parts of an expression at the front of a text, behind the word that opens it.
use Rattle.std.specs.Prelude.{ℕ, List, codes, Option, option_map, option_and_then}
use Rattle.pls_fronts.specs.Front.{Front, after, followed}

-- the item, made into another
abbrev pub front_map : {A B : Type 0} → (A → B) → Front A → Front B
front_map of front = followed (of front.item) front.rest

-- what `)` closes
abbrev pub close_front : {A : Type 0} → Front A → Option (Front A)
close_front front = option_map (followed front.item) (after (codes ")") front.rest)

-- one part
abbrev pub one_front : {A C : Type 0} → (A → C) → (List ℕ → Option (Front A)) → List ℕ
    → Option (Front C)
one_front of part text = option_and_then (λ inner. close_front (front_map of inner)) (part text)

-- the second of two parts, behind the first and a comma
abbrev pub second_front : {A B C : Type 0} → (A → B → C) → (List ℕ → Option (Front B)) → Front A
    → Option (Front C)
second_front of part first =
    option_and_then (one_front (of first.item) part) (after (codes ",") first.rest)

-- two parts
abbrev pub two_front : {A B C : Type 0} → (A → B → C) → (List ℕ → Option (Front A))
    → (List ℕ → Option (Front B)) → List ℕ → Option (Front C)
two_front of one other text = option_and_then (second_front of other) (one text)
