-- How labels are converted, one after another.
use Rattle.std.proofs.Common.{◌≡◌, ◌∙◌, ℕ, zero, suc, ◌+◌, ◌<◌, Bool, true, false, List, [], ◌∷◌, ◌++◌, length, take, drop, Option, Some, None, is_some, if◌then◌else◌, option_map, slice_get, slice_set, append_assoc, length-take, refl, sym, ap, arith}
use Rattle.std.specs.Option.{unwrap_or}
use Rattle.std.proofs.lemmas.List.{get_or-take, map-append, take-append-drop, take_all, take_more, take_more_set}
use Rattle.std.proofs.lemmas.Option.{get_or_from_slice_get, same_Some, slice_get-get_or, slice_get-map, slice_get_read, slice_get_within}
use Rattle.pls_combine.specs.Converted.{all_converted, first_unreadable}

-- a front with one item more
next_front : {X : Type 0} (xs : List X) (i : ℕ) (x : X) → i < length xs → slice_get xs i ≡ Some x
    → take (i + 1) xs ≡ take i xs ++ x ∷ []
next_front {X} xs i x within at =
    take_more xs i x within
    ∙ ap (λ (y : X). take i xs ++ y ∷ []) (same_Some _ x (sym (slice_get-get_or xs i x within) ∙ at))

-- a place raised by none, and raised by one more
raised_by_none : (place : Option ℕ) → place ≡ option_map (λ p. p + 0) place
raised_by_none None = refl
raised_by_none (Some p) = ap (λ (n : ℕ). Some n) (omega arith)

raised_once_more : (place : Option ℕ) (n m : ℕ) → m ≡ n + 1
    → option_map (λ p. p + 1) (option_map (λ p. p + n) place) ≡ option_map (λ p. p + m) place
raised_once_more None n m same = refl
raised_once_more (Some p) n m same = ap (λ (k : ℕ). Some k) (omega arith)

module _ (to : List Bool → Option (List Bool)) where
  -- behind labels that can be read, the others decide
  unread_behind : (front back : List (List Bool)) → first_unreadable to front ≡ None
      → first_unreadable to (front ++ back)
      ≡ option_map (λ place. place + length front) (first_unreadable to back)
  unread_behind [] back none = raised_by_none (first_unreadable to back)
  unread_behind (bits ∷ front) back none =
      by (is_some (to bits)) (first_unreadable to front) (λ later. unread_behind front back later) none
    where
      by : (some : Bool) (found : Option ℕ)
          → (found ≡ None → first_unreadable to (front ++ back)
          ≡ option_map (λ place. place + length front) (first_unreadable to back))
          → (if some then option_map (λ place. place + 1) found else Some 0) ≡ None
          → (if some then option_map (λ place. place + 1) (first_unreadable to (front ++ back))
          else Some 0)
          ≡ option_map (λ place. place + length (bits ∷ front)) (first_unreadable to back)
      by true None later none =
          ap (option_map (λ place. place + 1)) (later refl)
          ∙ raised_once_more (first_unreadable to back) (length front) (length (bits ∷ front))
          (omega arith)
      by true (Some place) later none = absurd (cc)
      by false found later none = absurd (cc)

  module _ (labels : List (List Bool)) (place : ℕ) (bits : List Bool)
      (within : place < length labels) (at : slice_get labels place ≡ Some bits)
      (front : first_unreadable to (take place labels) ≡ None) where
    -- a label that cannot be read, behind others that can
    pub unread_here : to bits ≡ None → Some place ≡ first_unreadable to labels
    unread_here none =
        let rest : List (List Bool) = drop (place + 1) labels in
        let cut : labels ≡ take place labels ++ bits ∷ rest =
        sym (take-append-drop (place + 1) labels)
        ∙ ap (λ (front : List (List Bool)). front ++ rest) (next_front labels place bits within at)
        ∙ append_assoc (take place labels) (bits ∷ []) rest in
        let many : 0 + length (take place labels) ≡ place =
        omega (arith, length-take place labels, within) in
        let here : first_unreadable to (bits ∷ rest) ≡ Some 0 = rw none refl in
        sym (ap (first_unreadable to) cut
        ∙ unread_behind (take place labels) (bits ∷ rest) front
        ∙ ap (option_map (λ p. p + length (take place labels))) here
        ∙ ap (λ (n : ℕ). Some n) many)

    module _ (new : List Bool) (is : to bits ≡ Some new) where
      -- one label more that can be read
      pub one_read_more : first_unreadable to (take (place + 1) labels) ≡ None
      one_read_more =
          let here : first_unreadable to (bits ∷ []) ≡ None = rw is refl in
          ap (first_unreadable to) (next_front labels place bits within at)
          ∙ unread_behind (take place labels) (bits ∷ []) front
          ∙ ap (option_map (λ p. p + length (take place labels))) here

      -- and that was put where it belongs
      pub one_made_more : (store : List (List Bool)) → length store ≡ length labels
          → take place store ≡ all_converted to (take place labels)
          → take (place + 1) (slice_set store place new)
          ≡ all_converted to (take (place + 1) labels)
      one_made_more store long made =
          let last : all_converted to (bits ∷ []) ≡ new ∷ [] = rw is refl in
          take_more_set store place new (omega (arith, long, within))
          ∙ ap (λ (front : List (List Bool)). front ++ new ∷ []) made
          ∙ ap (λ (back : List (List Bool)). all_converted to (take place labels) ++ back) (sym last)
          ∙ sym (map-append (λ (bits : List Bool). unwrap_or (to bits) []) (take place labels)
          (bits ∷ []))
          ∙ ap (all_converted to) (sym (next_front labels place bits within at))

  -- where all can be read, all were put
  pub none_unread : (labels : List (List Bool)) (count : ℕ) → length labels ≡ count
      → first_unreadable to (take count labels) ≡ None → None ≡ first_unreadable to labels
  none_unread labels count all none =
      sym (ap (first_unreadable to) (sym (take_all count labels (omega (arith, all)))) ∙ none)

  pub all_made : (labels store : List (List Bool)) (count : ℕ) → length labels ≡ count
      → length store ≡ count → take count store ≡ all_converted to (take count labels)
      → store ≡ all_converted to labels
  all_made labels store count all long made =
      sym (take_all count store (omega (arith, long))) ∙ made
      ∙ ap (all_converted to) (take_all count labels (omega (arith, all)))

-- an item of a front
item_of_front : {X : Type 0} (xs : List X) (count i : ℕ) (x : X) → i < count
    → slice_get xs i ≡ Some x → slice_get (take count xs) i ≡ Some x
item_of_front {X} xs count i x below at =
    let inside = slice_get_within xs i x at in
    let front : List X = take count xs in
    slice_get_read front (length front) i x refl
    (omega (arith, length-take count xs, inside, below))
    (sym (get_or-take count xs i x below ∙ get_or_from_slice_get xs i x x at))

module _ (to : List Bool → Option (List Bool)) where
  -- where all labels can be read, each can
  each_read : (labels : List (List Bool)) (place : ℕ) (bits : List Bool)
      → first_unreadable to labels ≡ None → slice_get labels place ≡ Some bits
      → is_some (to bits) ≡ true
  each_read [] place bits none at = absurd (cc)
  each_read (label ∷ labels) place bits none at =
      by (is_some (to label)) (first_unreadable to labels) refl
      (λ later place at. each_read labels place bits later at) place none at
    where
      by : (some : Bool) (found : Option ℕ) → is_some (to label) ≡ some
          → (found ≡ None → (place : ℕ) → slice_get labels place ≡ Some bits
          → is_some (to bits) ≡ true) → (place : ℕ)
          → (if some then option_map (λ place. place + 1) found else Some 0) ≡ None
          → slice_get (label ∷ labels) place ≡ Some bits → is_some (to bits) ≡ true
      by true None some later zero none at =
          ap (λ (bits : List Bool). is_some (to bits)) (sym (same_Some label bits at)) ∙ some
      by true None some later (suc place) none at = later refl place at
      by true (Some found) some later place none at = absurd (cc)
      by false found some later place none at = absurd (cc)

  -- what a label became that stands before a place up to which all were converted
  pub made_before : (labels store : List (List Bool)) (place before : ℕ) (old new : List Bool)
      → before < place → first_unreadable to (take place labels) ≡ None
      → take place store ≡ all_converted to (take place labels)
      → slice_get labels before ≡ Some old → slice_get store before ≡ Some new
      → to old ≡ Some new
  made_before labels store place before old new below none made old_at new_at =
      by (to old) refl
      (each_read (take place labels) before old none
      (item_of_front labels place before old below old_at))
    where
      there : Some new ≡ Some (unwrap_or (to old) [])
      there = sym (item_of_front store place before new below new_at)
          ∙ ap (λ (store : List (List Bool)). slice_get store before) made
          ∙ slice_get-map (λ (bits : List Bool). unwrap_or (to bits) []) (take place labels) before
          ∙ ap (option_map (λ (bits : List Bool). unwrap_or (to bits) []))
          (item_of_front labels place before old below old_at)

      by : (found : Option (List Bool)) → to old ≡ found → is_some found ≡ true → to old ≡ Some new
      by None is some = absurd (cc)
      by (Some bits) is some =
          is ∙ sym (there ∙ ap (λ (found : Option (List Bool)). Some (unwrap_or found [])) is)
