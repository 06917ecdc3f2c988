-- The parents that are left on a level are those along its edges; the tops of the pieces; and the
-- first place of a piece that passes a test.
use Rattle.std.proofs.Common.{◌≡◌, ◌∙◌, ℕ, zero, suc, ◌<◌, inl, inr, Bool, true, false, ◌||◌, cond, List, [], ◌∷◌, length, find, get_or, slice_get, Contains, Option, Some, None, refl, sym, ap, subst, arith}
use Rattle.std.specs.List.{filter}
use Rattle.std.specs.Option.{option_and_then}
use Rattle.std.proofs.lemmas.Option.{get_or_from_slice_get, same_Some, slice_get-get_or, slice_get_within}
use Rattle.pls_configuration.specs.declared.row.NodeRow.{NodeRow}
use Rattle.pls_configuration.specs.Configuration.{IsNetwork, ids_of}
use Rattle.pls_configuration.specs.Walk.{Edge, Adjacent, AreJoined}
use Rattle.pls_graph.proofs.Finds.{item_at}
use Rattle.pls_graph.proofs.Joined.{AreJoined-through, AreJoined-turned}
use Rattle.pls_graph.proofs.Members.{Contains-from_place}
use Rattle.pls_configuration.specs.WalkBy.{WalkBy}
use Rattle.pls_facts.specs.Parents.{ChainMeets}
use Rattle.pls_facts.specs.Pointer.{Falls}
use Rattle.pls_facts.specs.SpanningTree.{IsTree, pointed_edges}
use Rattle.pls_facts.proofs.Paths.{AreJoined-among}
use Rattle.pls_facts.proofs.Pointed.{id_of_row}
use Rattle.pls_facts.proofs.PointedEdges.{Adjacent-points, points_either_way}
use Rattle.pls_search.specs.SubtreeSizes.{HasParentAt}
use Rattle.pls_centroid.specs.Centroid.{edges_without}
use Rattle.pls_centroid.specs.inner.Cut.{IsCut, id_at}
use Rattle.pls_centroid.specs.inner.Rooted.{AreLeft, ArePointed, IsTopOf, left_of}
use Rattle.pls_centroid.specs.inner.Rounds.{AreTaken, edges_in, is_taken}
use Rattle.pls_centroid.proofs.Below.{chain_joins, id_at-row, joined_chain, one_parent}
use Rattle.pls_centroid.proofs.Counted.{none_taken}
use Rattle.pls_centroid.proofs.Pieces.{left-joined, left-stays}
use Rattle.pls_centroid.proofs.Rounds.{adjacent_level, level_adjacent}

-- what stands at a place of a list, where it is known to be there
at_place : {X : Type 0} (xs : List X) (place : ℕ) (x d : X) → slice_get xs place ≡ Some x
    → get_or xs place d ≡ x
at_place xs place x d at = get_or_from_slice_get xs place x d at

-- the first item that passes both tests is the first that is found
pub find_in_filter : (p q : ℕ → Bool) (xs : List ℕ) (i x : ℕ) → slice_get xs i ≡ Some x
    → q x ≡ true → p x ≡ true
    → ((j y : ℕ) → j < i → slice_get xs j ≡ Some y → q y ≡ true → p y ≡ true → ⊥)
    → find p (filter q xs) ≡ Some x
find_in_filter p q [] i x at is passes first = absurd (cc)
find_in_filter p q (y ∷ xs) zero x at is passes first =
    let same : y ≡ x = same_Some y x at in
    rw (ap q same ∙ is, ap p same ∙ passes) (ap Some same)
find_in_filter p q (y ∷ xs) (suc i) x at is passes first = by (q y) (p y) refl refl
    (find_in_filter p q xs i x at is passes
    (λ j z before there. first (suc j) z (omega (arith, before)) there))
  where
    by : (a b : Bool) → q y ≡ a → p y ≡ b → find p (filter q xs) ≡ Some x
        → find p (cond a (y ∷ filter q xs) (filter q xs)) ≡ Some x
    by false b no_q e rest = rest
    by true false is_q no_p rest = rw no_p rest
    by true true is_q is_p rest = absurd (first 0 y (omega arith) refl is_q is_p)

-- an identity at a place within is that of a node
pub id_known : (rows : List NodeRow) (place : ℕ) → place < length rows
    → Contains (ids_of rows) (id_at rows place)
id_known rows place within =
    let (row, at) : (row : NodeRow) × (slice_get rows place ≡ Some row) = item_at rows place within
    in
    subst (Contains (ids_of rows)) (sym (id_at-row rows place row at))
    (id_of_row rows row (Contains-from_place rows place row at))

module _ (rows : List NodeRow) (net : IsNetwork rows) (is_tree : IsTree rows) (depth : ℕ → ℕ)
    (falls : Falls rows depth) (parents : List (Option ℕ)) (pointed : ArePointed rows parents)
    (number : ℕ) (taken : List Bool) (flags : AreTaken rows number taken)
    (left : List (Option ℕ)) (are : AreLeft parents taken left) where
  -- a flag is what it says
  flag_is : (place : ℕ) → place < length rows
      → get_or taken place false ≡ is_taken rows number (id_at rows place)
  flag_is place within = let each = flags.each in
      flags.flag place (get_or taken place false)
      (slice_get-get_or taken place false (omega (arith, within, each)))

  -- a parent that is left is a parent, and neither place is taken away
  left_up : (place parent : ℕ) → HasParentAt left place parent
      → HasParentAt parents place parent × (get_or taken place false ≡ false)
      × (get_or taken parent false ≡ false)
  left_up place parent up =
      by (get_or parents place None) refl (are.entry place (Some parent) up)
    where
      within : place < length parents
      within = let each = are.each in
          omega (arith, slice_get_within left place (Some parent) up, each)

      parts : (a b : Bool) (one : ℕ) → Some parent ≡ cond (a || b) None (Some one)
          → (one ≡ parent) × (a ≡ false) × (b ≡ false)
      parts true b one is = absurd (cc)
      parts false true one is = absurd (cc)
      parts false false one is = (same_Some one parent (sym is), refl, refl)

      by : (o : Option ℕ) → get_or parents place None ≡ o → Some parent ≡ option_and_then (λ parent.
          cond (get_or taken place false || get_or taken parent false) None (Some parent)) o
          → HasParentAt parents place parent × (get_or taken place false ≡ false)
          × (get_or taken parent false ≡ false)
      by None e is = absurd (cc)
      by (Some one) e is =
          let (same, here, there) : (one ≡ parent) × (get_or taken place false ≡ false)
          × (get_or taken one false ≡ false) =
          parts (get_or taken place false) (get_or taken one false) one is in (
            slice_get-get_or parents place None within ∙ ap Some (e ∙ ap Some same),
            here,
            ap (λ (p : ℕ). get_or taken p false) (sym same) ∙ there,
          )

  -- and the other way round
  up_left : (place parent : ℕ) → HasParentAt parents place parent
      → get_or taken place false ≡ false → get_or taken parent false ≡ false
      → HasParentAt left place parent
  up_left place parent up here there =
      let each = are.each in
      let within : place < length left =
      omega (arith, slice_get_within parents place (Some parent) up, each) in
      let at : slice_get left place ≡ Some (get_or left place None) =
      slice_get-get_or left place None within in
      let is : get_or left place None ≡ left_of parents taken place =
      are.entry place (get_or left place None) at in
      let found : get_or parents place None ≡ Some parent =
      at_place parents place (Some parent) None up in
      at ∙ ap Some (is ∙ rw (found, here, there) refl)

  -- so they are the parents along the edges of the level
  pub IsCut-level : IsCut rows (edges_in rows number) left
  IsCut-level = record {
    depth = λ place. depth (id_at rows place);
    each = let each = are.each in let many = pointed.each in omega (arith, each, many);
    to = λ place parent up.
        let (whole, here, there) : HasParentAt parents place parent
        × (get_or taken place false ≡ false) × (get_or taken parent false ≡ false) =
        left_up place parent up in
        let step = pointed.to place parent whole in
        let within = inside place parent whole in (
          step.0,
          adjacent_level rows net is_tree number (id_at rows place) (id_at rows parent)
              (id_known rows place within) (id_known rows parent step.0)
              (Adjacent-points rows net (id_at rows place) (id_at rows parent) step.1)
              (sym (flag_is place within) ∙ here) (sym (flag_is parent step.0) ∙ there),
          falls (id_at rows place) (id_at rows parent) step.1,
        );
    from = λ place other within other_in adjacent.
        let (whole, here, there) : Adjacent (pointed_edges rows) (id_at rows place)
        (id_at rows other) × (is_taken rows number (id_at rows place) ≡ false)
        × (is_taken rows number (id_at rows other) ≡ false) =
        level_adjacent rows net is_tree number (id_at rows place) (id_at rows other) adjacent in
        elim (points_either_way rows net (id_at rows place) (id_at rows other) whole) [
          | inl on ↦ inl (up_left place other (pointed.from place other within other_in on)
              (flag_is place within ∙ here) (flag_is other other_in ∙ there))
          | inr back ↦ inr (up_left other place (pointed.from other place other_in within back)
              (flag_is other other_in ∙ there) (flag_is place within ∙ here))
        ];
  }
    where
      inside : (place parent : ℕ) → HasParentAt parents place parent → place < length rows
      inside place parent up = let many = pointed.each in
          omega (arith, slice_get_within parents place (Some parent) up, many)

-- where the chain of a place ends, by where that of its parent does
pub IsTopOf-up : (left : List (Option ℕ)) (place parent top : ℕ) → HasParentAt left place parent
    → IsTopOf left parent top → IsTopOf left place top
IsTopOf-up left place parent top up is = record {
  inside = is.inside;
  meets = (parent ∷ is.meets.0, (up, is.meets.1));
  ends = is.ends;
}

-- a place without parent is its own top
pub IsTopOf-none : (left : List (Option ℕ)) (place : ℕ) → slice_get left place ≡ Some None
    → IsTopOf left place place
IsTopOf-none left place none = record {
  inside = slice_get_within left place None none;
  meets = ([], refl);
  ends = λ parent up.
      let same : None ≡ Some parent = same_Some None (Some parent) (sym none ∙ up) in absurd (cc);
}

module _ (rows : List NodeRow) (net : IsNetwork rows) (edges : List Edge)
    (known : (u v : ℕ) → Adjacent edges u v → Contains (ids_of rows) v)
    (left : List (Option ℕ)) (cut : IsCut rows edges left) where
  -- edges join a place to its top
  pub top_joined : (place top : ℕ) → place < length rows → IsTopOf left place top
      → AreJoined edges (id_at rows place) (id_at rows top)
  top_joined place top within is = left-joined none_taken edges (id_at rows place) (id_at rows top)
      (chain_joins rows net edges known left cut none_taken top (λ p deep in'. refl) place
      is.meets.0
      within is.meets.1)

  -- a place that edges join to a top has it as its top
  pub joined_top : (place top : ℕ) → place < length rows → top < length rows
      → ((parent : ℕ) → HasParentAt left top parent → ⊥)
      → AreJoined edges (id_at rows top) (id_at rows place)
      → ChainMeets (HasParentAt left) place top
  joined_top place top within inside ends joined =
      joined_chain rows net edges known left cut none_taken top (λ p deep in'. refl) inside
      (λ parent up. absurd (ends parent up)) place within
      (AreJoined-among edges (edges_without none_taken edges)
      (λ edge in'. left-stays none_taken edges edge in' refl refl) (id_at rows top)
      (id_at rows place) joined)

  -- a place has one top
  pub one_top : (place one other : ℕ) → IsTopOf left place one → IsTopOf left place other
      → one ≡ other
  one_top place one other first second =
      by place first.meets.0 second.meets.0 first.meets.1 second.meets.1
    where
      by : (place : ℕ) (nodes others : List ℕ) → WalkBy (HasParentAt left) place nodes one
          → WalkBy (HasParentAt left) place others other → one ≡ other
      by place [] [] here there = sym here ∙ there
      by place [] (x ∷ others) here there = absurd (first.ends x
          (subst (λ (p : ℕ). HasParentAt left p x) here there.0))
      by place (x ∷ nodes) [] here there = absurd (second.ends x
          (subst (λ (p : ℕ). HasParentAt left p x) there here.0))
      by place (x ∷ nodes) (y ∷ others) here there = by x nodes others here.1
          (subst (λ (x : ℕ). WalkBy (HasParentAt left) x others other)
          (sym (one_parent rows net edges known left cut place x y here.0 there.0)) there.1)

  -- so places of one piece are those of one top
  pub same_top : (place other one two : ℕ) → place < length rows → other < length rows
      → IsTopOf left place one → IsTopOf left other two
      → AreJoined edges (id_at rows place) (id_at rows other) → one ≡ two
  same_top place other one two within inside first second joined =
      let many = cut.each in
      let top_in : one < length rows = let here = first.inside in omega (arith, here, many) in
      let there : AreJoined edges (id_at rows one) (id_at rows other) =
      AreJoined-through edges (id_at rows one) (id_at rows place) (id_at rows other)
      (AreJoined-turned edges (id_at rows place) (id_at rows one)
      (top_joined place one within first)) joined in
      one_top other one two (record {
        inside = first.inside;
        meets = joined_top other one inside top_in first.ends there;
        ends = first.ends;
      }) second
