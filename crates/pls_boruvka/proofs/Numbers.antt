-- The numbers of fragments, as tops are met one by one.
use Rattle.std.proofs.Common.{◌≡◌, ◌∙◌, ℕ, ◌+◌, ◌<◌, ◌≤◌, inl, inr, List, [], ◌∷◌, ◌++◌, length, get_or, set, replicate, Contains, Option, Some, None, refl, sym, ap, subst, arith, length-append, get_or-set_same, get_or-set_other, slice_get}
use Rattle.std.proofs.Math.Seq.{get_or-append_seam}
use Rattle.std.proofs.lemmas.Bool.{cases_eq, cases_lt}
use Rattle.std.proofs.lemmas.List.{get_or_append_left, length-map, length-replicate, length-set}
use Rattle.std.proofs.lemmas.List.Elements.{Contains-append_left}
use Rattle.std.proofs.lemmas.Option.{get_or_from_slice_get, same_Some, slice_get-get_or, slice_get-map, slice_get_within}
use Rattle.pls_configuration.specs.declared.row.NodeRow.{NodeRow}
use Rattle.pls_graph.proofs.Finds.{None-replicate, from_option_map}
use Rattle.pls_boruvka.specs.declared.choice.Choice.{Choice}
use Rattle.pls_boruvka.specs.declared.joining.ChosenEnd.{ChosenEnd}
use Rattle.pls_boruvka.specs.inner.Choices.{top_at}
use Rattle.pls_boruvka.specs.inner.Chosen.{AreChosen, IsChosen, choice_of_place, no_chosen}
use Rattle.pls_boruvka.specs.inner.Round.{AreFragmentNumbers, AreNotedNumbers, IsFragmentNumber, IsOldOrNext, said_by_number}
use Rattle.pls_boruvka.specs.inner.Tops.{Each}
use Rattle.pls_boruvka.proofs.Listed.{Each-at, Each-none, Each-push}

-- what stands behind is the last
Contains-last : (xs : List ℕ) (x : ℕ) → Contains (xs ++ x ∷ []) x
Contains-last xs x =
    (length xs, omega (arith, length-append xs (x ∷ [])), get_or-append_seam xs x [] x)

module _ (rows : List NodeRow) (choices : List (Option Choice)) where
  -- a number stays right where more is put behind
  IsFragmentNumber-more : (chosen : List ChosenEnd) (one : ChosenEnd) (top number : ℕ)
      → IsFragmentNumber rows choices chosen top number
      → IsFragmentNumber rows choices (chosen ++ one ∷ []) top number
  IsFragmentNumber-more chosen one top number is = record {
    within = omega (arith, is.within, length-append chosen (one ∷ []));
    right = subst (IsChosen rows top (get_or choices top None))
        (sym (get_or_append_left chosen (one ∷ []) no_chosen number is.within)) is.right;
  }

  -- the next number is that of what is put behind
  IsFragmentNumber-next : (chosen : List ChosenEnd) (one : ChosenEnd) (top : ℕ)
      → IsChosen rows top (get_or choices top None) one
      → IsFragmentNumber rows choices (chosen ++ one ∷ []) top (length chosen)
  IsFragmentNumber-next chosen one top is = record {
    within = omega (arith, length-append chosen (one ∷ []));
    right = subst (IsChosen rows top (get_or choices top None))
        (sym (get_or-append_seam chosen one [] no_chosen)) is;
  }

  -- a number stays right where another is given
  IsFragmentNumber-kept : (old new : List ChosenEnd) (given top number : ℕ)
      → IsOldOrNext old new given → IsFragmentNumber rows choices old top number
      → IsFragmentNumber rows choices new top number
  IsFragmentNumber-kept old new given top number (inl same) is =
      subst (λ (all : List ChosenEnd). IsFragmentNumber rows choices all top number) (sym same) is
  IsFragmentNumber-kept old new given top number (inr (one, more, next)) is =
      subst (λ (all : List ChosenEnd). IsFragmentNumber rows choices all top number) (sym more)
      (IsFragmentNumber-more old one top number is)

  AreNotedNumbers-none : AreNotedNumbers rows choices [] (replicate (length rows) None)
  AreNotedNumbers-none = record {
    each = length-replicate {A = Option ℕ} (length rows) None;
    number = λ top number at. absurd (None-replicate (length rows) top number
        (get_or_from_slice_get (replicate (length rows) None) top (Some number) None at));
  }

  -- the next number is noted at a top
  pub AreNotedNumbers-more : (chosen : List ChosenEnd) (one : ChosenEnd) (noted : List (Option ℕ))
      (top : ℕ) → AreNotedNumbers rows choices chosen noted
      → IsChosen rows top (get_or choices top None) one
      → AreNotedNumbers rows choices (chosen ++ one ∷ []) (set noted top (Some (length chosen)))
  AreNotedNumbers-more chosen one noted top old is = record {
    each = length-set noted top (Some (length chosen)) ∙ old.each;
    number = λ other found at.
        let newer : List (Option ℕ) = set noted top (Some (length chosen)) in
        let inside : other < length noted = omega (
          arith,
          slice_get_within newer other (Some found) at,
          length-set noted top (Some (length chosen)),
        ) in
        let here : get_or newer other None ≡ Some found =
        get_or_from_slice_get newer other (Some found) None at in
        elim (cases_eq other top) [
          | inl same ↦
              let stands : get_or newer other None ≡ Some (length chosen) =
              subst (λ (p : ℕ). get_or newer p None ≡ Some (length chosen)) (sym same)
              (get_or-set_same noted top (Some (length chosen)) None
              (omega (arith, inside, same))) in
              let number : length chosen ≡ found =
              same_Some (length chosen) found (sym stands ∙ here) in
              subst (λ (p : ℕ). IsFragmentNumber rows choices (chosen ++ one ∷ []) p found) (sym same)
              (subst (IsFragmentNumber rows choices (chosen ++ one ∷ []) top) number
              (IsFragmentNumber-next chosen one top is))
          | inr apart ↦ IsFragmentNumber-more chosen one other found (old.number other found
              (slice_get-get_or noted other None inside
              ∙ ap Some (sym (get_or-set_other noted top other (Some (length chosen)) None apart)
              ∙ here)))
        ];
  }

  module _ (tops : List ℕ) where
    -- the numbers of the first places, and what is said of their fragments
    pub record AreNumbered (chosen : List ChosenEnd) (noted : List (Option ℕ)) (numbers : List ℕ)
        (count : ℕ) : Type 0 where
      pub many : length numbers ≡ count
      pub few : length chosen ≤ count
      pub notes : AreNotedNumbers rows choices chosen noted
      pub right : Each (λ place. IsFragmentNumber rows choices chosen (top_at tops place)) numbers
      pub used : (number : ℕ) → number < length chosen → Contains numbers number

    pub AreNumbered-none : AreNumbered [] (replicate (length rows) None) [] 0
    AreNumbered-none = record {
      many = refl;
      few = omega arith;
      notes = AreNotedNumbers-none;
      right = Each-none (λ place. IsFragmentNumber rows choices [] (top_at tops place));
      used = λ number none. absurd (omega (arith, none));
    }

    -- each number is still of some place
    used_more : (old new : List ChosenEnd) (numbers : List ℕ) (number : ℕ)
        → IsOldOrNext old new number
        → ((other : ℕ) → other < length old → Contains numbers other) → (other : ℕ)
        → other < length new → Contains (numbers ++ number ∷ []) other
    used_more old new numbers number (inl same) used other within =
        Contains-append_left numbers (number ∷ []) other
        (used other (omega (arith, within, ap length same)))
    used_more old new numbers number (inr (one, more, next)) used other within =
        elim (cases_lt other (length old)) [
          | inl before ↦ Contains-append_left numbers (number ∷ []) other (used other before)
          | inr past ↦
              let last : number ≡ other = omega (
                arith,
                within,
                past,
                next,
                ap length more,
                length-append old (one ∷ []),
              ) in
              subst (Contains (numbers ++ number ∷ [])) last (Contains-last numbers number)
        ]

    few_more : (old new : List ChosenEnd) (number count : ℕ) → IsOldOrNext old new number
        → length old ≤ count → length new ≤ count + 1
    few_more old new number count (inl same) few = omega (arith, few, ap length same)
    few_more old new number count (inr (one, more, next)) few =
        omega (arith, few, ap length more, length-append old (one ∷ []))

    pub AreNumbered-more : (old new : List ChosenEnd) (before after : List (Option ℕ))
        (numbers : List ℕ) (number count : ℕ) → AreNumbered old before numbers count
        → IsOldOrNext old new number → AreNotedNumbers rows choices new after
        → IsFragmentNumber rows choices new (top_at tops count) number
        → AreNumbered new after (numbers ++ number ∷ []) (count + 1)
    AreNumbered-more old new before after numbers number count given next notes is = record {
      many = omega (arith, given.many, length-append numbers (number ∷ []));
      few = few_more old new number count next given.few;
      notes = notes;
      right = Each-push (λ place. IsFragmentNumber rows choices new (top_at tops place)) numbers count
          number given.many
          (λ place other at. IsFragmentNumber-kept old new number (top_at tops place) other next
          (given.right place other at)) is;
      used = used_more old new numbers number next given.used;
    }

    module _ (chosen : List ChosenEnd) (noted : List (Option ℕ)) (numbers : List ℕ) (count : ℕ)
        (given : AreNumbered chosen noted numbers count) where
      pub AreFragmentNumbers-numbered : AreFragmentNumbers numbers (length chosen)
      AreFragmentNumbers-numbered = record {
        within = λ place d within. (Each-at
            (λ place. IsFragmentNumber rows choices chosen (top_at tops place)) numbers place d
            given.right within).within;
        used = given.used;
      }

      pub AreChosen-numbered : count ≡ length rows
          → AreChosen rows tops choices (said_by_number numbers chosen)
      AreChosen-numbered all = record {
        each = length-map numbers (λ number. get_or chosen number no_chosen) ∙ given.many ∙ all;
        chosen = λ place one at.
            let (number, stands, is) : (number : ℕ) × (slice_get numbers place ≡ Some number)
            × (get_or chosen number no_chosen ≡ one) =
            from_option_map (λ (number : ℕ). get_or chosen number no_chosen)
            (slice_get numbers place) one
            (sym (slice_get-map (λ (number : ℕ). get_or chosen number no_chosen) numbers place)
            ∙ at) in
            subst (IsChosen rows (top_at tops place) (choice_of_place tops choices place)) is
            (given.right place number stands).right;
      }
