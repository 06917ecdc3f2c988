-- Sums over lists of places of which each place stands in exactly one.
use Rattle.std.proofs.Common.{◌≡◌, ◌∙◌, ℕ, zero, suc, ◌+◌, ◌<◌, ◌≤◌, inl, inr, List, [], ◌∷◌, length, take, get_or, slice_get, Contains, Option, Some, None, refl, sym, ap, subst, arith, add-one, length-take}
use Rattle.std.specs.List.{AllPairs, cons_option, sum_by}
use Rattle.std.proofs.lemmas.Bool.{cases_order}
use Rattle.std.proofs.lemmas.List.{take_all}
use Rattle.std.proofs.lemmas.List.Elements.{Contains-get_or}
use Rattle.std.proofs.lemmas.List.Sums.{sum_by-cons, sum_by_more}
use Rattle.std.proofs.lemmas.Option.{get_or_from_slice_get, slice_get_past}
use Rattle.pls_configuration.specs.declared.row.NodeRow.{NodeRow}
use Rattle.pls_configuration.specs.Configuration.{IsNetwork}
use Rattle.pls_configuration.specs.Rising.{IsRising}
use Rattle.pls_graph.proofs.Finds.{item_at}
use Rattle.pls_graph.proofs.Members.{Contains-cons_cases, Contains-first, Contains-later}
use Rattle.pls_components.specs.Components.{AreComponents, IsComponent, items_at, least_id}
use Rattle.pls_components.proofs.Apart.{same_component}
use Rattle.pls_components.proofs.Items.{rising-head, rising-tail}
use Rattle.pls_components.proofs.Putting.{items-agree}

-- what stands in a front of a list, and what does not
front-below : {X : Type 0} (n : ℕ) (xs : List X) (p : ℕ) → p < n
    → slice_get (take n xs) p ≡ slice_get xs p
front-below zero xs p less = absurd (omega arith)
front-below (suc n) [] p less = refl
front-below (suc n) (x ∷ xs) zero less = refl
front-below (suc n) (x ∷ xs) (suc p) less = front-below n xs p (omega arith)

front-past : {X : Type 0} (n : ℕ) (xs : List X) (p : ℕ) → n ≤ p → slice_get (take n xs) p ≡ None
front-past n xs p past =
    slice_get_past (take n xs) p (let long = length-take n xs in omega arith)

module _ {X : Type 0} (f : X → ℕ) (xs : List X) (i : ℕ) (x : X) (at : slice_get xs i ≡ Some x) where
  abbrev now : List ℕ → ℕ
  now places = sum_by f (items_at (take i xs) places)

  abbrev next : List ℕ → ℕ
  next places = sum_by f (items_at (take (i + 1) xs) places)

  -- one item more at none of the places changes no sum
  part-same : (places : List ℕ) → (Contains places i → ⊥) → next places ≡ now places
  part-same places apart =
      ap (sum_by f) (items-agree (take (i + 1) xs) (take i xs) places (λ p in'.
      elim (cases_order p i) [
        | inl same ↦ absurd (apart (subst (Contains places) same in'))
        | inr order ↦ elim order [
          | inl below ↦ front-below (i + 1) xs p (omega arith) ∙ sym (front-below i xs p below)
          | inr past ↦ front-past (i + 1) xs p (omega arith) ∙ sym (front-past i xs p (omega arith))
        ]
      ]))

  -- one item more at one of the places is added once
  part-more : (places : List ℕ) → IsRising places → Contains places i
      → next places ≡ now places + f x
  part-more [] rising in' = absurd (let inside = in'.1 in omega arith)
  part-more (first ∷ places) rising in' = elim (Contains-cons_cases first places i in') [
    | inl same ↦
        let rest : next places ≡ now places = part-same places (λ later.
        let up = rising-head first places rising later.0 i later.1 in
        let is = later.2 in absurd (omega arith)) in
        let here : slice_get (take (i + 1) xs) first ≡ Some x =
        ap (slice_get (take (i + 1) xs)) same ∙ front-below (i + 1) xs i (omega arith) ∙ at in
        let none : slice_get (take i xs) first ≡ None = front-past i xs first (omega arith) in
        let sum : sum_by f (x ∷ items_at (take (i + 1) xs) places) ≡ now places + f x =
        sum_by-cons f x (items_at (take (i + 1) xs) places) ∙ (omega arith) in
        rw (here, none) sum
    | inr later ↦
        let up = rising-head first places rising later.0 i later.1 in
        let is = later.2 in
        let below : first < i = omega arith in
        let same : slice_get (take (i + 1) xs) first ≡ slice_get (take i xs) first =
        front-below (i + 1) xs first (omega arith) ∙ sym (front-below i xs first below) in
        rw same (by (slice_get (take i xs) first)
        (part-more places (rising-tail first places rising) later))
  ]
    where
      by : (o : Option X) → next places ≡ now places + f x
          → sum_by f (cons_option o (items_at (take (i + 1) xs) places))
          ≡ sum_by f (cons_option o (items_at (take i xs) places)) + f x
      by None rest = rest
      by (Some y) rest =
          let one = sum_by-cons f y (items_at (take (i + 1) xs) places) in
          let other = sum_by-cons f y (items_at (take i xs) places) in
          omega arith

  -- the same of lists of places of which none, or one, has the place
  parts-same : (parts : List (List ℕ))
      → ((places : List ℕ) → Contains parts places → Contains places i → ⊥)
      → sum_by next parts ≡ sum_by now parts
  parts-same [] apart = refl
  parts-same (places ∷ parts) apart =
      let here = part-same places (apart places (Contains-first places parts)) in
      let rest = parts-same parts
      (λ others in'. apart others (Contains-later places parts others in')) in
      let one = sum_by-cons next places parts in
      let other = sum_by-cons now places parts in
      omega arith

  parts-more : (parts : List (List ℕ))
      → ((places : List ℕ) → Contains parts places → IsRising places)
      → AllPairs (λ places others. (p : ℕ) → Contains places p → Contains others p → ⊥) parts
      → (places : List ℕ) → Contains parts places → Contains places i
      → sum_by next parts ≡ sum_by now parts + f x
  parts-more [] rising apart places in' has = absurd (let inside = in'.1 in omega arith)
  parts-more (first ∷ parts) rising apart places in' has =
      let one = sum_by-cons next first parts in
      let other = sum_by-cons now first parts in
      elim (Contains-cons_cases first parts places in') [
        | inl same ↦
            let mine : Contains first i = subst (λ (places : List ℕ). Contains places i) (sym same) has in
            let here = part-more first (rising first (Contains-first first parts)) mine in
            let rest = parts-same parts (λ others there too. behind others there i mine too) in
            omega arith
        | inr later ↦
            let here = part-same first (λ mine. behind places later i mine has) in
            let rest = parts-more parts
            (λ others there. rising others (Contains-later first parts others there))
            (λ k j d less inside. apart (suc k) (suc j) d (omega arith) (omega arith)) places later
            has in
            omega arith
      ]
    where
      behind : (others : List ℕ) → Contains parts others → (p : ℕ) → Contains first p
          → Contains others p → ⊥
      behind others there p mine too =
          apart 0 (suc there.0) others (omega arith) (let inside = there.1 in omega arith) p mine
          (subst (λ (others : List ℕ). Contains others p) (sym there.2) too)

-- a network's components have each place once, so sums over them are sums over all
module _ (rows : List NodeRow) (net : IsNetwork rows) (parts : List (List ℕ))
    (are : AreComponents rows parts) where
  once : AllPairs (λ places others. (p : ℕ) → Contains places p → Contains others p → ⊥) parts
  once i j d less inside p one other =
      let a : IsComponent rows (get_or parts i d) =
      are.each (get_or parts i d) (Contains-get_or parts i d (omega arith)) in
      let b : IsComponent rows (get_or parts j d) =
      are.each (get_or parts j d) (Contains-get_or parts j d inside) in
      let same : get_or parts i d ≡ get_or parts j d =
      same_component rows net (get_or parts i d) (get_or parts j d) a b p one other in
      let order = are.order i j d less inside in
      let least : least_id rows (get_or parts i d) ≡ least_id rows (get_or parts j d) =
      ap (least_id rows) same in
      absurd (omega arith)

  module _ {X : Type 0} (f : X → ℕ) (xs : List X) (each : length xs ≡ length rows) where
    sums : (i : ℕ) → i ≤ length xs
        → sum_by (λ places. sum_by f (items_at (take i xs) places)) parts ≡ sum_by f (take i xs)
    sums zero within = none parts
      where
        nothing : (places : List ℕ) → sum_by f (items_at [] places) ≡ 0
        nothing [] = refl
        nothing (place ∷ places) = nothing places

        none : (parts : List (List ℕ)) → sum_by (λ places. sum_by f (items_at [] places)) parts ≡ 0
        none [] = refl
        none (places ∷ parts) =
            let one = sum_by-cons (λ (places : List ℕ). sum_by f (items_at [] places)) places parts in
            let here = nothing places in let rest = none parts in omega arith
    sums (suc i) within =
        let (x, at) : (x : X) × (slice_get xs i ≡ Some x) = item_at xs i (omega arith) in
        let (places, listed, in') : (places : List ℕ) × Contains parts places × Contains places i =
        are.all i (omega arith) in
        let more : sum_by (λ places. sum_by f (items_at (take (i + 1) xs) places)) parts
        ≡ sum_by (λ places. sum_by f (items_at (take i xs) places)) parts + f x =
        parts-more f xs i x at parts (λ places in'. (are.each places in').rising) once places listed in'
        in
        let rest = sums i (omega arith) in
        let all : sum_by f (take (i + 1) xs) ≡ sum_by f (take i xs) + f (get_or xs i x) =
        sum_by_more f xs i x (omega arith) in
        let same : f (get_or xs i x) ≡ f x = ap f (get_or_from_slice_get xs i x x at) in
        let goal : sum_by (λ places. sum_by f (items_at (take (i + 1) xs) places)) parts
        ≡ sum_by f (take (i + 1) xs) = omega arith in
        rw add-one at goal

    pub sum_of_parts : sum_by (λ places. sum_by f (items_at xs places)) parts ≡ sum_by f xs
    sum_of_parts =
        let all : take (length xs) xs ≡ xs = take_all (length xs) xs (omega arith) in
        subst (λ (ys : List X). sum_by (λ places. sum_by f (items_at ys places)) parts ≡ sum_by f ys)
        all (sums (length xs) (omega arith))
