-- What is said of each fragment, among what is said of each node.
use Rattle.std.proofs.Common.{◌≡◌, ◌∙◌, ℕ, ◌<◌, inl, inr, Bool, List, length, get_or, option_map, Some, sym, ap, subst, slice_get}
use Rattle.std.proofs.lemmas.Option.{get_or_from_slice_get, slice_get-get_or, slice_get-map, slice_get_within}
use Rattle.pls_graph.proofs.Finds.{from_option_map}
use Rattle.pls_graph.proofs.Members.{place_from_Contains}
use Rattle.pls_boruvka.specs.declared.joining.ChosenEnd.{ChosenEnd}
use Rattle.pls_boruvka.specs.inner.Chosen.{AreChildrenWithin, IsChild, JoinChildren, no_chosen}
use Rattle.pls_boruvka.specs.inner.Round.{AreFragmentNumbers, said_by_number}

module _ (numbers : List ℕ) (chosen : List ChosenEnd)
    (are : AreFragmentNumbers numbers (length chosen)) where
  -- what stands under a number
  abbrev under : ℕ → ChosenEnd
  under number = get_or chosen number no_chosen

  -- what is said of a fragment is said of some node
  said_somewhere : (number : ℕ) (one : ChosenEnd) → slice_get chosen number ≡ Some one
      → (place : ℕ) × (slice_get (said_by_number numbers chosen) place ≡ Some one)
  said_somewhere number one at =
      let (place, stands) : (place : ℕ) × (slice_get numbers place ≡ Some number) =
      place_from_Contains numbers number
      (are.used number (slice_get_within chosen number one at)) in (
        place,
        slice_get-map under numbers place ∙ ap (option_map under) stands
            ∙ ap Some (get_or_from_slice_get chosen number one no_chosen at),
      )

  -- what is said of a node is said of some fragment
  said_under : (place : ℕ) (one : ChosenEnd)
      → slice_get (said_by_number numbers chosen) place ≡ Some one
      → (number : ℕ) × (slice_get chosen number ≡ Some one)
  said_under place one at =
      let (number, stands, is) : (number : ℕ) × (slice_get numbers place ≡ Some number)
      × (under number ≡ one) =
      from_option_map under (slice_get numbers place) one
      (sym (slice_get-map under numbers place) ∙ at) in
      let within : number < length chosen = subst (λ (number : ℕ). number < length chosen)
      (get_or_from_slice_get numbers place number 0 stands)
      (are.within place 0 (slice_get_within numbers place number stands)) in
      (number, slice_get-get_or chosen number no_chosen within ∙ ap Some is)

  -- the children of the edges of all fragments are places where those of all nodes are
  pub AreChildrenWithin-once : (size : ℕ)
      → AreChildrenWithin size (said_by_number numbers chosen) → AreChildrenWithin size chosen
  AreChildrenWithin-once size within number one at =
      let (place, said) : (place : ℕ)
      × (slice_get (said_by_number numbers chosen) place ≡ Some one) =
      said_somewhere number one at in
      within place one said

  -- the edges of all fragments join what those of all nodes join
  pub JoinChildren-once : (old new : List Bool) → JoinChildren chosen (length chosen) old new
      → JoinChildren (said_by_number numbers chosen) (length (said_by_number numbers chosen)) old
      new
  JoinChildren-once old new joins = record {
    each = joins.each;
    joined = λ place. (
      λ on. elim ((joins.joined place).0 on) [
        | inl before ↦ inl before
        | inr child ↦ inr (to_node place child)
      ],
      λ why. (joins.joined place).1 (elim why [
        | inl before ↦ inl before
        | inr child ↦ inr (to_fragment place child)
      ]),
    );
  }
    where
      to_node : (child : ℕ) → IsChild chosen (length chosen) child
          → IsChild (said_by_number numbers chosen) (length (said_by_number numbers chosen)) child
      to_node child (number, one, before, at, is) =
          let (place, said) : (place : ℕ)
          × (slice_get (said_by_number numbers chosen) place ≡ Some one) =
          said_somewhere number one at in
          (place, one, slice_get_within (said_by_number numbers chosen) place one said, said, is)

      to_fragment : (child : ℕ)
          → IsChild (said_by_number numbers chosen) (length (said_by_number numbers chosen)) child
          → IsChild chosen (length chosen) child
      to_fragment child (place, one, before, said, is) =
          let (number, at) : (number : ℕ) × (slice_get chosen number ≡ Some one) =
          said_under place one said in
          (number, one, slice_get_within chosen number one at, at, is)
