-- The lists of so many items out of some contain exactly those whose items are all among these.
use Rattle.std.proofs.Common.{◌≡◌, ◌≤◌, ℕ, zero, suc, inl, inr, List, [], ◌∷◌, map, length, refl, ap, subst, arith, Contains}
use Rattle.std.proofs.lemmas.Bool.{cases_lt}
use Rattle.std.proofs.lemmas.List.Elements.{Contains-append_left, Contains-append_right}
use Rattle.pls_graph.proofs.Members.{Contains-cons_cases, Contains-first, Contains-flat_map, Contains-from_flat_map, Contains-from_map, Contains-later, Contains-map}
use Rattle.pls_truth_values.specs.SearchTests.{all_lists, lists_up_to}

module _ {X : Type 0} (items : List X) where
  -- each item of the list is one of the items
  abbrev pub AreAmong : List X → Type 0
  AreAmong list = (x : X) → Contains list x → Contains items x

  -- the lists of one more item that begin with this one
  abbrev beginning : ℕ → X → List (List X)
  beginning count first = map (λ others. first ∷ others) (all_lists items count)

  -- a list of items is one of the lists of its length
  pub Contains-all_lists : (list : List X) → AreAmong list
      → Contains (all_lists items (length list)) list
  Contains-all_lists [] among = Contains-first [] []
  Contains-all_lists (first ∷ others) among =
      Contains-flat_map (beginning (length others)) items first (first ∷ others)
      (among first (Contains-first first others))
      (Contains-map (λ (others : List X). first ∷ others) (all_lists items (length others)) others
      (Contains-all_lists others (λ x in'. among x (Contains-later first others x in'))))

  -- these are all that there are
  pub Contains-from_all_lists : (count : ℕ) (list : List X)
      → Contains (all_lists items count) list → (length list ≡ count) × AreAmong list
  Contains-from_all_lists zero list in' = elim (Contains-cons_cases [] [] list in') [
    | inl same ↦ subst (λ (list : List X). (length list ≡ 0) × AreAmong list) same
        (refl, λ x none. absurd (omega (arith, none.1)))
    | inr none ↦ absurd (omega (arith, none.1))
  ]
  Contains-from_all_lists (suc count) list in' =
      let (first, first_in, begins) : (first : X) × Contains items first
      × Contains (beginning count first) list =
      Contains-from_flat_map (beginning count) items list in' in
      let (others, others_in, same) : (others : List X) × Contains (all_lists items count) others
      × (first ∷ others ≡ list) =
      Contains-from_map (λ (others : List X). first ∷ others) (all_lists items count) list begins in
      let rest : (length others ≡ count) × AreAmong others =
      Contains-from_all_lists count others others_in in
      subst (λ (list : List X). (length list ≡ suc count) × AreAmong list) same (
        ap suc rest.0,
        λ x in'. elim (Contains-cons_cases first others x in') [
          | inl is ↦ subst (Contains items) is first_in
          | inr later ↦ rest.1 x later
        ],
      )

  -- a list of items that is not too long is one of the lists up to that length
  pub Contains-lists_up_to : (most : ℕ) (list : List X) → AreAmong list → length list ≤ most
      → Contains (lists_up_to items most) list
  Contains-lists_up_to zero list among short =
      let none : length list ≡ 0 = omega (arith, short) in
      subst (λ (count : ℕ). Contains (all_lists items count) list) none
      (Contains-all_lists list among)
  Contains-lists_up_to (suc most) list among short = elim (cases_lt (length list) (suc most)) [
    | inl less ↦ Contains-append_left (lists_up_to items most) (all_lists items (suc most)) list
        (Contains-lists_up_to most list among (omega (arith, less)))
    | inr full ↦
        let whole : length list ≡ suc most = omega (arith, short, full) in
        Contains-append_right (lists_up_to items most) (all_lists items (suc most)) list
        (subst (λ (count : ℕ). Contains (all_lists items count) list) whole
        (Contains-all_lists list among))
  ]
