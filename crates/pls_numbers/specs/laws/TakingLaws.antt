-- Items are taken off numbers exactly where their numbers stand in front.
use Rattle.std.proofs.Common.{◌≡◌, ◌∙◌, ℕ, zero, suc, ◌≤◌, ◌++◌, ◌&&◌, Bool, true, false, is_some, List, [], ◌∷◌, length, take, All, Option, Some, None, IfSome, option_map, refl, sym, ap, append_assoc, arith}
use Rattle.std.specs.List.{flat_map}
use Rattle.std.specs.Option.{option_and_then}
use Rattle.std.proofs.lemmas.List.{append-nil}
use Rattle.std.proofs.lemmas.List.Concat.{flat_map-cons}
use Rattle.std.proofs.lemmas.List.Elements.{All-cons, All-head, All-nil, All-tail}
use Rattle.pls_numbers.specs.Numbers.{NumbersLeft, is_end, is_none}
use Rattle.pls_numbers.specs.Taking.{IsExact, IsTaken, are_items, items_in, items_off, many_off, if_whole, with_item}
use Rattle.pls_numbers.specs.laws.LeftLaws.{same_parts}

module _ {X : Type 0} (off : List ℕ → Option (X × List ℕ)) where
  -- one item more, and so many behind it
  pub items_in-next : (count : ℕ) (list : List ℕ) (x : X) (rest : List ℕ)
      → off list ≡ Some (x, rest)
      → items_in off (suc count) list ≡ option_map (λ items. x ∷ items) (items_in off count rest)
  items_in-next count list x rest is = rw is (by (many_off off count rest))
    where
      by : (found : Option (List X × List ℕ))
          → option_and_then if_whole (option_map (with_item x) found)
          ≡ option_map (λ items. x ∷ items) (option_and_then if_whole found)
      by None = refl
      by (Some (items, [])) = refl
      by (Some (items, number ∷ numbers)) = refl

  pub items_in-none : (count : ℕ) (list : List ℕ) → off list ≡ None
      → items_in off (suc count) list ≡ None
  items_in-none count list is = rw is refl

  module _ (numbers : X → List ℕ) (Proper : X → Type 0) (exact : IsExact off numbers Proper) where
    -- so it is with many items
    pub many_read : (xs : List X) (rest : List ℕ) → All Proper xs
        → many_off off (length xs) (flat_map numbers xs ++ rest) ≡ Some (xs, rest)
    many_read [] rest proper = refl
    many_read (x ∷ xs) rest proper =
        let behind : List ℕ = flat_map numbers xs ++ rest in
        let all : flat_map numbers (x ∷ xs) ++ rest ≡ numbers x ++ behind =
        ap (λ (list : List ℕ). list ++ rest) (flat_map-cons numbers x xs)
        ∙ append_assoc (numbers x) (flat_map numbers xs) rest in
        let first = exact.read x behind (All-head Proper x xs proper) in
        let others = many_read xs rest (All-tail Proper x xs proper) in
        rw (all, first, others) refl

    pub many_only : (count : ℕ) (list : List ℕ) (xs : List X) (rest : List ℕ)
        → many_off off count list ≡ Some (xs, rest)
        → (length xs ≡ count) × (list ≡ flat_map numbers xs ++ rest) × All Proper xs
    many_only zero list xs rest is =
        let (none, all) : ([] ≡ xs) × (list ≡ rest) = same_parts ([], list) (xs, rest) is in
        rw (sym none, all) (refl, refl, All-nil Proper)
    many_only (suc count) list xs rest is = by (off list) refl is (many_only count)
      where
        onward : (x : X) (behind : List ℕ) → off list ≡ Some (x, behind)
            → (more : Option (List X × List ℕ)) → many_off off count behind ≡ more
            → option_map (with_item x) more ≡ Some (xs, rest)
            → ((list : List ℕ) (xs : List X) (rest : List ℕ)
            → many_off off count list ≡ Some (xs, rest)
            → (length xs ≡ count) × (list ≡ flat_map numbers xs ++ rest) × All Proper xs)
            → (length xs ≡ suc count) × (list ≡ flat_map numbers xs ++ rest) × All Proper xs
        onward x behind first None read is shorter = absurd (cc)
        onward x behind first (Some more) read is shorter =
            let (all, left) : (x ∷ more.0 ≡ xs) × (more.1 ≡ rest) =
            same_parts (with_item x more) (xs, rest) is in
            let here = exact.only list x behind first in
            let others = shorter behind more.0 more.1 read in
            rw (sym all, sym left) (
              ap suc others.0,
              here.0 ∙ ap (λ (tail : List ℕ). numbers x ++ tail) others.1
                  ∙ sym (append_assoc (numbers x) (flat_map numbers more.0) more.1)
                  ∙ ap (λ (list : List ℕ). list ++ more.1) (sym (flat_map-cons numbers x more.0)),
              All-cons Proper x more.0 here.1 others.2,
            )

        by : (first : Option (X × List ℕ)) → off list ≡ first
            → option_and_then (λ (first : X × List ℕ).
            option_map (with_item first.0) (many_off off count first.1)) first ≡ Some (xs, rest)
            → ((list : List ℕ) (xs : List X) (rest : List ℕ)
            → many_off off count list ≡ Some (xs, rest)
            → (length xs ≡ count) × (list ≡ flat_map numbers xs ++ rest) × All Proper xs)
            → (length xs ≡ suc count) × (list ≡ flat_map numbers xs ++ rest) × All Proper xs
        by None first is shorter = absurd (cc)
        by (Some found) first is shorter =
            onward found.0 found.1 first (many_off off count found.1) refl is shorter

    -- and with many and nothing more
    pub items_read : (xs : List X) → All Proper xs
        → items_in off (length xs) (flat_map numbers xs) ≡ Some xs
    items_read xs proper =
        ap (λ (list : List ℕ). items_in off (length xs) list)
        (sym (append-nil (flat_map numbers xs)))
        ∙ ap (option_and_then if_whole) (many_read xs [] proper)

    pub items_only : (count : ℕ) (list : List ℕ) (xs : List X)
        → items_in off count list ≡ Some xs
        → (length xs ≡ count) × (list ≡ flat_map numbers xs) × All Proper xs
    items_only count list xs is = by (many_off off count list) refl is
      where
        by : (found : Option (List X × List ℕ)) → many_off off count list ≡ found
            → option_and_then if_whole found ≡ Some xs
            → (length xs ≡ count) × (list ≡ flat_map numbers xs) × All Proper xs
        by None read is = absurd (cc)
        by (Some (items, number ∷ numbers)) read is = absurd (cc)
        by (Some (items, [])) read is =
            let same : items ≡ xs = cc in
            let all = many_only count list items [] read in
            rw (sym same) (all.0, all.1 ∙ append-nil (flat_map numbers items), all.2)

-- what both say, one of which says no
and_false : (b : Bool) → (b && false) ≡ false
and_false true = refl
and_false false = refl

module _ {X : Type 0} (off : List ℕ → Option (X × List ℕ)) where
  -- whether many items are left is whether those behind the first are
  pub are_items-next : (count : ℕ) (x : X) (old new : NumbersLeft) → IsTaken off x old new
      → are_items off (suc count) old ≡ are_items off count new
  are_items-next count x old new taken =
      ap (λ (clean : Bool). clean && is_some (items_in off (suc count) old.numbers)) taken.same
      ∙ ap (λ (there : Bool). new.clean && there)
      (ap is_some (items_in-next off count old.numbers x new.numbers taken.front)
      ∙ by (items_in off count new.numbers))
    where
      by : (found : Option (List X))
          → is_some (option_map (λ items. x ∷ items) found) ≡ is_some found
      by None = refl
      by (Some items) = refl

  -- where none comes next, they are not
  pub are_items-none : (count : ℕ) (left : NumbersLeft) → off left.numbers ≡ None
      → are_items off (suc count) left ≡ false
  are_items-none count left none =
      ap (λ (found : Option (List X)). left.clean && is_some found)
      (items_in-none off count left.numbers none) ∙ and_false left.clean

  -- no items are left where nothing is
  pub are_items-end : (left : NumbersLeft) → is_end left ≡ are_items off 0 left
  are_items-end left = by left.numbers left.clean
    where
      by : (numbers : List ℕ) (clean : Bool)
          → (is_none numbers && clean) ≡ (clean && is_some (items_in off 0 numbers))
      by [] true = refl
      by [] false = refl
      by (number ∷ numbers) true = refl
      by (number ∷ numbers) false = refl

  -- where many items are read, so are the first and the others
  pub split_items : (count : ℕ) (list : List ℕ) (items : List X)
      → items_in off (suc count) list ≡ Some items
      → (x : X) × (rest : List ℕ) × (more : List X) × (off list ≡ Some (x, rest))
      × (items_in off count rest ≡ Some more) × (x ∷ more ≡ items)
  split_items count list items is = by (off list) refl
    where
      onward : (x : X) (rest : List ℕ) → off list ≡ Some (x, rest)
          → (more : Option (List X)) → items_in off count rest ≡ more
          → option_map (λ items. x ∷ items) more ≡ Some items
          → (x : X) × (rest : List ℕ) × (more : List X) × (off list ≡ Some (x, rest))
          × (items_in off count rest ≡ Some more) × (x ∷ more ≡ items)
      onward x rest first None read is = absurd (cc)
      onward x rest first (Some more) read is = (x, rest, more, first, read, cc)

      by : (first : Option (X × List ℕ)) → off list ≡ first
          → (x : X) × (rest : List ℕ) × (more : List X) × (off list ≡ Some (x, rest))
          × (items_in off count rest ≡ Some more) × (x ∷ more ≡ items)
      by None first = let no = sym (items_in-none off count list first) ∙ is in absurd (cc)
      by (Some found) first = onward found.0 found.1 first (items_in off count found.1) refl
          (sym (items_in-next off count list found.0 found.1 first) ∙ is)

  -- of what is taken off, an item more
  pub items_off-next : (count : ℕ) (x : X) (old new : NumbersLeft) → IsTaken off x old new
      → items_off off (suc count) old.numbers ≡ x ∷ items_off off count new.numbers
  items_off-next count x old new taken = rw (taken.front) refl

  pub items_off-none : (count : ℕ) (list : List ℕ) → off list ≡ None
      → items_off off (suc count) list ≡ []
  items_off-none count list none = rw none refl

  -- of items that are read so many are taken off
  pub items_off-take : (count most : ℕ) (list : List ℕ) (items : List X)
      → items_in off most list ≡ Some items → count ≤ most
      → items_off off count list ≡ take count items
  items_off-take zero most list items is few = refl
  items_off-take (suc count) zero list items is few = absurd (omega (arith, few))
  items_off-take (suc count) (suc most) list items is few =
      let parts = split_items most list items is in
      let first : items_off off (suc count) list ≡ parts.0 ∷ items_off off count parts.1 =
      rw (parts.3) refl in
      first
      ∙ ap (λ (more : List X). parts.0 ∷ more)
      (items_off-take count most parts.1 parts.2 parts.4 (omega (arith, few)))
      ∙ ap (take (suc count)) parts.5

-- nothing is asked of items
pub all_any : {X : Type 0} (items : List X) → All (λ _. Unit {0}) items
all_any items = λ k none within. tt

-- a call that reads the item that comes next leaves those behind it
pub left_by_item : {X : Type 0} (off : List ℕ → Option (X × List ℕ)) (count : ℕ) (old new : NumbersLeft)
    (result : Option X) → IfSome result (λ x. IsTaken off x old new) → is_some result ≡ true
    → are_items off (suc count) old ≡ are_items off count new
left_by_item off count old new None found there = absurd (cc)
left_by_item off count old new (Some x) found there = are_items-next off count x old new found

-- what was taken off, and what is still to come
abbrev pub behind_items : {X : Type 0} → List X → Option (List X × List ℕ)
    → Option (List X × List ℕ)
behind_items {X} front rest =
    option_map (λ (taken : List X × List ℕ). (front ++ taken.0, taken.1)) rest

module _ {X : Type 0} (off : List ℕ → Option (X × List ℕ)) where
  -- an item goes from those to come to those that were taken off
  pub behind_items-next : (front : List X) (x : X) (list rest : List ℕ) (count : ℕ)
      → off list ≡ Some (x, rest)
      → behind_items front (many_off off (suc count) list)
      ≡ behind_items (front ++ x ∷ []) (many_off off count rest)
  behind_items-next front x list rest count is = rw is (by (many_off off count rest))
    where
      by : (more : Option (List X × List ℕ))
          → behind_items front (option_map (with_item x) more) ≡ behind_items (front ++ x ∷ []) more
      by None = refl
      by (Some more) = ap (λ (items : List X). Some (items, more.1))
          (sym (append_assoc front (x ∷ []) more.0))

  -- where none comes next, they are too few
  pub behind_items-none : (front : List X) (list : List ℕ) (count : ℕ) → off list ≡ None
      → behind_items front (many_off off (suc count) list) ≡ None
  behind_items-none front list count is = rw is refl
