-- Numbers that are given to a list of places, one place or list after another.
use Rattle.std.proofs.Common.{◌≡◌, ◌∙◌, ◌≢◌, ℕ, ◌+◌, ◌<◌, inl, inr, cond, true, false, is_some, Option, Some, None, List, [], ◌∷◌, ◌++◌, length, get_or, set, count_by, Contains, refl, sym, subst, arith, get_or-set_same, get_or-set_other, length-append}
use Rattle.std.specs.Option.{is_none}
use Rattle.std.proofs.lemmas.Bool.{cases_eq}
use Rattle.std.proofs.lemmas.Option.{same_Some, slice_get-get_or, get_or_from_slice_get}
use Rattle.std.proofs.lemmas.List.{length-set}
use Rattle.std.proofs.lemmas.List.Sums.{sum_by-set}
use Rattle.std.proofs.lemmas.List.Elements.{Contains-append_left, Contains-append_right, Contains-append_cases, Contains-push, Contains-push_cases}
use Rattle.pls_graph.proofs.Finds.{None-is_some, Some-is_some}
use Rattle.pls_components.specs.inner.Numbers.{Enters, HasNumber, number_of_place}

-- a list of no place
pub Enters-none : (numbers : List (Option ℕ)) (waiting : List ℕ) (number : ℕ)
    → Enters numbers numbers waiting waiting number []
Enters-none numbers waiting number = record {
  size = refl;
  keeps = λ place known has. has;
  all = λ place in'. absurd (omega (arith, in'.1));
  fresh = λ place known has. inl has;
  gives = λ place in'. inl in';
  stays = λ place in'. in';
  total = refl;
}

-- one list of places and then another
pub Enters-append : (old mid new : List (Option ℕ)) (before next last : List ℕ) (number : ℕ)
    (places others : List ℕ)
    → Enters old mid before next number places → Enters mid new next last number others
    → Enters old new before last number (places ++ others)
Enters-append old mid new before next last number places others s t = record {
  size = t.size ∙ s.size;
  keeps = λ place known has. t.keeps place known (s.keeps place known has);
  all = λ place in'. elim (Contains-append_cases places others place in') [
    | inl one ↦
        let has : (known : ℕ) × HasNumber mid place known =
        s.all place one in (has.0, t.keeps place has.0 has.1)
    | inr other ↦ t.all place other
  ];
  fresh = λ place known has. elim (t.fresh place known has) [
    | inl mid ↦ elim (s.fresh place known mid) [
      | inl old ↦ inl old
      | inr new ↦ inr (new.0, Contains-append_left places others place new.1, t.stays place new.2)
    ]
    | inr new ↦ inr (new.0, Contains-append_right places others place new.1, new.2)
  ];
  gives = λ place in'. elim (t.gives place in') [
    | inl mid ↦ elim (s.gives place mid) [
      | inl old ↦ inl old
      | inr new ↦ inr (Contains-append_left places others place new.0, t.keeps place number new.1)
    ]
    | inr new ↦ inr (Contains-append_right places others place new.0, new.1)
  ];
  stays = λ place in'. t.stays place (s.stays place in');
  total = t.total ∙ s.total;
}

module _ (numbers : List (Option ℕ)) (place : ℕ) (within : place < length numbers)
    (entry : Option ℕ) (at : entry ≡ get_or numbers place entry) where
  entry_at : number_of_place numbers place ≡ entry
  entry_at =
      get_or_from_slice_get numbers place (get_or numbers place entry) None
      (slice_get-get_or numbers place entry within) ∙ sym at

  -- a test of an entry tells that there is no number
  pub no_number : is_some entry ≡ false → number_of_place numbers place ≡ None
  no_number none = entry_at ∙ None-is_some entry none

  -- a test of an entry tells that there is one
  pub some_number : is_some entry ≡ true → (known : ℕ) × HasNumber numbers place known
  some_number some =
      let known : (known : ℕ) × (entry ≡ Some known) = Some-is_some entry some in
      (known.0, entry_at ∙ known.1)

module _ (numbers : List (Option ℕ)) (waiting : List ℕ) (number place : ℕ) where
  only : (other : ℕ) → Contains (place ∷ []) other → place ≡ other
  only other in' =
      elim (Contains-push_cases [] place other in')
      [ inl before ↦ absurd (omega (arith, before.1)) | inr same ↦ same ]

  -- a place that has a number already
  pub Enters-known : (known : ℕ) → HasNumber numbers place known
      → Enters numbers numbers waiting waiting number (place ∷ [])
  Enters-known known has = record {
    size = refl;
    keeps = λ other known has. has;
    all = λ other in'. (
      known,
      subst (λ (place : ℕ). HasNumber numbers place known) (only other in') has,
    );
    fresh = λ other known has. inl has;
    gives = λ other in'. inl in';
    stays = λ other in'. in';
    total = refl;
  }

  module _ (within : place < length numbers) (blank : number_of_place numbers place ≡ None) where
    abbrev entry : Option ℕ
    entry = Some number

    abbrev nothing : Option ℕ
    nothing = None

    abbrev later : List (Option ℕ)
    later = set numbers place entry

    here : HasNumber later place number
    here = get_or-set_same numbers place entry nothing within

    elsewhere : (other : ℕ) → (place ≡ other → ⊥) → number_of_place later other ≡ number_of_place numbers other
    elsewhere other apart =
        let differs : other ≢ place =
        λ e. apart (sym e) in get_or-set_other numbers place other entry nothing differs

    -- a place that has no number
    pub Enters-new :
        Enters numbers (set numbers place entry) waiting (waiting ++ place ∷ []) number (place ∷ [])
    Enters-new = record {
      size = length-set numbers place entry;
      keeps = λ other known has. elim (cases_eq place other) [
        | inl same ↦
            absurd (clash known (subst (λ (other : ℕ). HasNumber numbers other known) (sym same) has))
        | inr apart ↦ elsewhere other apart ∙ has
      ];
      all = λ other in'.
          (number, subst (λ (other : ℕ). HasNumber later other number) (only other in') here);
      fresh = λ other known has. elim (cases_eq place other) [
        | inl same ↦
            inr (
              number_here known (subst (λ (other : ℕ). HasNumber later other known) (sym same) has),
              subst (Contains (place ∷ [])) same (Contains-push [] place),
              subst (Contains (waiting ++ place ∷ [])) same (Contains-push waiting place),
            )
        | inr apart ↦ inl (sym (elsewhere other apart) ∙ has)
      ];
      gives = λ other in'. elim (Contains-push_cases waiting place other in') [
        | inl old ↦ inl old
        | inr same ↦ inr (
          subst (Contains (place ∷ [])) same (Contains-push [] place),
          subst (λ (other : ℕ). HasNumber later other number) same here,
        )
      ];
      stays = λ other in'. Contains-append_left waiting (place ∷ []) other in';
      total =
          let sum : count_by is_none later + cond (is_none (number_of_place numbers place)) 1 0
          ≡ count_by is_none numbers + 0 =
          sum_by-set (λ entry. cond (is_none entry) 1 0) numbers place entry nothing within in
          let one : count_by is_none later + 1 ≡ count_by is_none numbers + 0 = rw blank at sum in
          omega (arith, length-append waiting (place ∷ []));
    }
      where
        clash : (known : ℕ) → HasNumber numbers place known → ⊥
        clash known has = let no : nothing ≡ Some known = sym blank ∙ has in absurd (cc)

        number_here : (known : ℕ) → HasNumber later place known → known ≡ number
        number_here known has = same_Some known number (sym has ∙ here)
