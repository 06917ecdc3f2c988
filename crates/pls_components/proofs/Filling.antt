-- A number that is given to one place and to all that walks join to it.
use Rattle.std.proofs.Common.{◌≡◌, ◌∙◌, ℕ, ◌<◌, ◌⊎◌, inl, inr, List, [], ◌∷◌, ◌++◌, length, Contains, Option, Some, None, sym, subst, arith}
use Rattle.std.proofs.lemmas.List.Elements.{Contains-append_left, Contains-push, Contains-push_cases}
use Rattle.std.proofs.lemmas.Option.{same_Some}
use Rattle.pls_configuration.specs.declared.row.NodeRow.{NodeRow}
use Rattle.pls_configuration.specs.Configuration.{IsNetwork}
use Rattle.pls_graph.specs.Places.{beside}
use Rattle.pls_components.specs.Components.{AreJoinedAt}
use Rattle.pls_components.specs.inner.Numbers.{AreClosed, Enters, Fills, HasNumber, number_of_place}
use Rattle.pls_components.proofs.Apart.{beside_turned, joined_beside, joined_itself, joined_through, joined_within}

-- each place that got the number is joined to the root; those that wait have it, and of each other
-- place with a number the neighbours have the same
pub record Filling (rows : List NodeRow) (old found : List (Option ℕ)) (waiting : List ℕ)
    (root number : ℕ) : Type 0 where
  pub size : length found ≡ length old
  pub keeps : (place known : ℕ) → HasNumber old place known → HasNumber found place known
  pub fresh : (place known : ℕ) → HasNumber found place known
      → HasNumber old place known ⊎ ((known ≡ number) × AreJoinedAt rows root place)
  pub start : HasNumber found root number
  pub waits : (place : ℕ) → Contains waiting place
      → HasNumber found place number × AreJoinedAt rows root place
  pub closed : (place known : ℕ) → HasNumber found place known → Contains waiting place
      ⊎ ((other : ℕ) → Contains (beside rows place) other → HasNumber found other known)

no_item : {A : Type 0} (place : ℕ) → Contains [] place → A
no_item place in' = absurd (omega (arith, in'.1))

module _ (rows : List NodeRow) (net : IsNetwork rows) (old : List (Option ℕ)) (root number : ℕ) where
  -- at first the root alone has the number, and waits
  pub Filling-first : (found : List (Option ℕ)) (waiting : List ℕ) → root < length rows
      → AreClosed rows old → number_of_place old root ≡ None
      → Enters old found [] waiting number (root ∷ []) → Filling rows old found waiting root number
  Filling-first found waiting within shut blank enters = record {
    size = enters.size;
    keeps = enters.keeps;
    fresh = λ place known has. elim (enters.fresh place known has) [
      | inl was ↦ inl was
      | inr new ↦ inr (new.0, joined place new.1)
    ];
    start =
        let has : (known : ℕ) × HasNumber found root known = enters.all root (Contains-push [] root) in
        elim (enters.fresh root has.0 has.1) [
          | inl was ↦ absurd (clash has.0 was)
          | inr new ↦ subst (HasNumber found root) new.0 has.1
        ];
    waits = λ place in'. elim (enters.gives place in') [
      | inl none ↦ no_item place none
      | inr new ↦ (new.1, joined place new.0)
    ];
    closed = λ place known has. elim (enters.fresh place known has) [
      | inl was ↦ inr (λ other in'. enters.keeps other known (shut place known other was in'))
      | inr new ↦ inl new.2
    ];
  }
    where
      joined : (place : ℕ) → Contains (root ∷ []) place → AreJoinedAt rows root place
      joined place in' = elim (Contains-push_cases [] root place in') [
        | inl none ↦ no_item place none
        | inr same ↦ subst (AreJoinedAt rows root) same (joined_itself rows root within)
      ]

      clash : (known : ℕ) → HasNumber old root known → ⊥
      clash known has = let no : None ≡ Some known = sym blank ∙ has in absurd (cc)

  -- one place less waits, and its neighbours have the number
  pub Filling-more : (found later : List (Option ℕ)) (waiting rest after : List ℕ) (place : ℕ)
      → waiting ≡ rest ++ place ∷ [] → Filling rows old found waiting root number
      → Enters found later rest after number (beside rows place)
      → Filling rows old later after root number
  Filling-more found later waiting rest after place popped so_far enters = record {
    size = enters.size ∙ so_far.size;
    keeps = λ other known has. enters.keeps other known (so_far.keeps other known has);
    fresh = λ other known has. elim (enters.fresh other known has) [
      | inl was ↦ so_far.fresh other known was
      | inr new ↦ inr (new.0, beyond other new.1)
    ];
    start = enters.keeps root number so_far.start;
    waits = λ other in'. elim (enters.gives other in') [
      | inl was ↦
          let here = so_far.waits other (waited other was) in
          (enters.keeps other number here.0, here.1)
      | inr new ↦ (new.1, beyond other new.0)
    ];
    closed = λ other known has. elim (enters.fresh other known has) [
      | inl was ↦ elim (so_far.closed other known was) [
        | inl waits ↦ still other known was waits
        | inr all ↦ inr (λ next in'. enters.keeps next known (all next in'))
      ]
      | inr new ↦ inl new.2
    ];
  }
    where
      waited : (other : ℕ) → Contains rest other → Contains waiting other
      waited other in' = subst (λ (waiting : List ℕ). Contains waiting other) (sym popped)
          (Contains-append_left rest (place ∷ []) other in')

      here : HasNumber found place number × AreJoinedAt rows root place
      here = so_far.waits place
          (subst (λ (waiting : List ℕ). Contains waiting place) (sym popped)
          (Contains-push rest place))

      within : place < length rows
      within = joined_within rows root place here.1

      beyond : (other : ℕ) → Contains (beside rows place) other → AreJoinedAt rows root other
      beyond other in' =
          joined_through rows root place other here.1 (joined_beside rows net place other within in')

      -- a neighbour of the place has no other number
      same_number : (other known : ℕ) → Contains (beside rows place) other → HasNumber later other known
          → known ≡ number
      same_number other known in' has = elim (enters.fresh other known has) [
        | inr new ↦ new.0
        | inl was ↦ elim (so_far.closed other known was) [
          | inl waits ↦ same_Some known number (sym was ∙ (so_far.waits other waits).0)
          | inr all ↦ same_Some known number
              (sym (all place (beside_turned rows net place other within in')) ∙ here.0)
        ]
      ]

      passed : (next : ℕ) → Contains (beside rows place) next → HasNumber later next number
      passed next in' =
          let has : (known : ℕ) × HasNumber later next known = enters.all next in' in
          subst (HasNumber later next) (same_number next has.0 in' has.1) has.1

      still : (other known : ℕ) → HasNumber found other known → Contains waiting other
          → Contains after other
          ⊎ ((next : ℕ) → Contains (beside rows other) next → HasNumber later next known)
      still other known was waits =
          elim (Contains-push_cases rest place other
          (subst (λ (waiting : List ℕ). Contains waiting other) popped waits)) [
            | inl left ↦ inl (enters.stays other left)
            | inr same ↦
                let known_is : known ≡ number =
                same_Some known number (sym was ∙ (so_far.waits other waits).0) in
                inr (λ next in'. subst (HasNumber later next) (sym known_is)
                (passed next (subst (λ (place : ℕ). Contains (beside rows place) next) (sym same) in')))
          ]

  -- with no place left that waits, all have the number
  pub Fills-end : (found : List (Option ℕ)) → Filling rows old found [] root number
      → Fills rows old found root number
  Fills-end found so_far = record {
    size = so_far.size;
    keeps = so_far.keeps;
    fresh = so_far.fresh;
    start = so_far.start;
    closed = λ place known other has in'. elim (so_far.closed place known has)
        [ inl waits ↦ no_item place waits | inr all ↦ all other in' ];
  }
