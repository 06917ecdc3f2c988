-- Chains of joined parents, the places where they end, and that following them comes to an end.
use Rattle.std.proofs.Common.{◌≡◌, ◌∙◌, ℕ, zero, suc, ◌+◌, ◌<◌, ◌≤◌, inl, inr, Bool, true, false, List, [], ◌∷◌, ◌++◌, length, get_or, set, replicate, Option, Some, None, refl, sym, ap, subst, arith, get_or-set_same, get_or-set_other}
use Rattle.std.specs.Option.{option_map_or}
use Rattle.std.proofs.lemmas.Bool.{cases_eq, cond-false, cond-true}
use Rattle.std.proofs.lemmas.List.{length-set, length-replicate}
use Rattle.std.proofs.lemmas.Option.{get_or_from_slice_get, same_Some, slice_get-get_or, slice_get_within}
use Rattle.pls_graph.proofs.Finds.{None-replicate}
use Rattle.pls_configuration.proofs.Walks.{WalkBy-append}
use Rattle.pls_configuration.specs.WalkBy.{WalkBy}
use Rattle.pls_boruvka.specs.inner.Tops.{AreNotedTops, HasDepths, IsTop, parent_at, joined_parent}

-- how many parents can be followed from a place, but no more than so many
abbrev steps_by : List (Option ℕ) → ℕ → ℕ → ℕ
steps_by parents zero place = 0
steps_by parents (suc most) place =
    option_map_or (λ to. steps_by parents most to + 1) (parent_at parents place) 0

-- how many can be followed
abbrev pub steps : List (Option ℕ) → ℕ → ℕ
steps parents place = steps_by parents (length parents) place

module _ (parents : List (Option ℕ)) (deep : HasDepths parents) where
  -- no more can be followed than the place is deep
  steps_by-more : (most place : ℕ) → place < length parents → deep.depth place ≤ most
      → steps_by parents most place ≡ steps_by parents (suc most) place
  steps_by-more zero place within few = by (parent_at parents place) refl
    where
      by : (o : Option ℕ) → parent_at parents place ≡ o
          → 0 ≡ option_map_or (λ to. 0 + 1) o 0
      by None e = refl
      by (Some to) e = let falls = deep.falls place to within e in absurd (omega (
        arith,
        few,
        falls.1,
      ))
  steps_by-more (suc most) place within few = by (parent_at parents place) refl (steps_by-more most)
    where
      by : (o : Option ℕ) → parent_at parents place ≡ o
          → ((place : ℕ) → place < length parents → deep.depth place ≤ most
          → steps_by parents most place ≡ steps_by parents (suc most) place)
          → option_map_or (λ to. steps_by parents most to + 1) o 0
          ≡ option_map_or (λ to. steps_by parents (suc most) to + 1) o 0
      by None e rest = refl
      by (Some to) e rest =
          let falls = deep.falls place to within e in
          ap (λ (count : ℕ). count + 1) (rest to falls.0 (omega (arith, few, falls.1)))

  -- from the parent of a place one fewer can be followed
  pub steps-fall : (place to : ℕ) → place < length parents → parent_at parents place ≡ Some to
      → steps parents to < steps parents place
  steps-fall place to within points = by (length parents) refl
    where
      by : (size : ℕ) → length parents ≡ size
          → steps_by parents size to < steps_by parents size place
      by zero e = absurd (omega (arith, within, e))
      by (suc most) e =
          let falls = deep.falls place to within points in
          let few : deep.depth to ≤ most = omega (arith, deep.few place within, falls.1, e) in
          let more = steps_by-more most to falls.0 few in
          let one : steps_by parents (suc most) place ≡ steps_by parents most to + 1 =
          ap (λ (o : Option ℕ). option_map_or (λ to. steps_by parents most to + 1) o 0) points in
          omega (arith, more, one)

module _ (parents : List (Option ℕ)) (joined : List Bool) where
  abbrev up : ℕ → Option ℕ
  up = joined_parent parents joined

  abbrev Follows : ℕ → ℕ → Type 0
  Follows one other = joined_parent parents joined one ≡ Some other

  -- joined parents lead from one place to another
  abbrev pub Leads : ℕ → ℕ → Type 0
  Leads start place = (nodes : List ℕ) × WalkBy Follows start nodes place

  pub Leads-none : (start : ℕ) → Leads start start
  Leads-none start = ([], refl)

  -- a joined parent is a parent
  pub up-parent : (place to : ℕ) → up place ≡ Some to → parent_at parents place ≡ Some to
  up-parent place to points = by (get_or joined place false) refl
    where
      by : (b : Bool) → get_or joined place false ≡ b → parent_at parents place ≡ Some to
      by true e = sym (cond-true (get_or joined place false) (parent_at parents place) None e)
          ∙ points
      by false e =
          let no : None ≡ Some to =
          sym (cond-false (get_or joined place false) (parent_at parents place) None e) ∙ points in
          absurd (cc)

  pub Leads-more : (start place to : ℕ) → Leads start place → up place ≡ Some to → Leads start to
  Leads-more start place to (nodes, chain) points =
      (nodes ++ to ∷ [], WalkBy-append Follows start place to nodes (to ∷ []) chain (points, refl))

  -- where no joined parent leads on, a place is its own top
  pub IsTop-here : (place : ℕ) → place < length parents → up place ≡ None
      → IsTop parents joined place place
  IsTop-here place within none =
      record { nodes = []; chain = refl; ends = none; inside = within }

  -- the top of the place that they lead to is that of the first
  pub IsTop-before : (start place top : ℕ) → Leads start place → IsTop parents joined place top
      → IsTop parents joined start top
  IsTop-before start place top (nodes, chain) is = record {
    nodes = nodes ++ is.nodes;
    chain = WalkBy-append Follows start place top nodes is.nodes chain is.chain;
    ends = is.ends;
    inside = is.inside;
  }

  -- and that of a place is that of its joined parent
  pub IsTop-after : (place to top : ℕ) → up place ≡ Some to → IsTop parents joined place top
      → IsTop parents joined to top
  IsTop-after place to top points is = by is.nodes is.chain
    where
      by : (nodes : List ℕ) → WalkBy Follows place nodes top → IsTop parents joined to top
      by [] same =
          let no : None ≡ Some to = sym is.ends ∙ ap up (sym same) ∙ points in absurd (cc)
      by (x ∷ nodes) chain = record {
        nodes = nodes;
        chain = subst (λ (u : ℕ). WalkBy Follows u nodes top)
            (same_Some x to (sym chain.0 ∙ points)) chain.1;
        ends = is.ends;
        inside = is.inside;
      }

  pub AreNotedTops-none : AreNotedTops parents joined (replicate (length parents) None)
  AreNotedTops-none = record {
    each = length-replicate {A = Option ℕ} (length parents) None;
    top = λ place top at. absurd (None-replicate (length parents) place top
        (get_or_from_slice_get (replicate (length parents) None) place (Some top) None at));
  }

  -- one more top is noted
  pub AreNotedTops-more : (noted : List (Option ℕ)) (place top : ℕ)
      → AreNotedTops parents joined noted → IsTop parents joined place top
      → AreNotedTops parents joined (set noted place (Some top))
  AreNotedTops-more noted place top old is = record {
    each = length-set noted place (Some top) ∙ old.each;
    top = λ other found at.
        let newer : List (Option ℕ) = set noted place (Some top) in
        let within : other < length newer = slice_get_within newer other (Some found) at in
        let inside : other < length noted = omega (
          arith,
          within,
          length-set noted place (Some
              top),
        ) in
        let here : get_or newer other None ≡ Some found =
        get_or_from_slice_get newer other (Some found) None at in
        elim (cases_eq other place) [
          | inl same ↦
              let stands : get_or newer other None ≡ Some top =
              subst (λ (p : ℕ). get_or newer p None ≡ Some top) (sym same)
              (get_or-set_same noted place (Some top) None (omega (arith, inside, same))) in
              let one : top ≡ found = same_Some top found (sym stands ∙ here) in
              subst (λ (p : ℕ). IsTop parents joined p found) (sym same)
              (subst (IsTop parents joined place) one is)
          | inr apart ↦ old.top other found
              (slice_get-get_or noted other None inside
              ∙ ap Some (sym (get_or-set_other noted place other (Some top) None apart) ∙ here))
        ];
  }
