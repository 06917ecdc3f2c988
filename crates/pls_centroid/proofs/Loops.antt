-- Steps of the loops over the places of a level.
use Rattle.std.proofs.Common.{◌≡◌, ◌≢◌, ◌∙◌, ℕ, ◌+◌, ◌*◌, ◌<◌, ◌≤◌, ◌&&◌, nat_le, max, ◌⊎◌, inl, inr, Bool, true, false, List, length, get_or, set, slice_get, Contains, Option, Some, None, refl, sym, ap, subst, arith}
use Rattle.std.specs.Option.{option_map_or}
use Rattle.std.proofs.lemmas.Bool.{and_from, and_parts, cases_Bool, le-leb, leb-true, true≢false}
use Rattle.std.proofs.lemmas.List.{length-set}
use Rattle.std.proofs.lemmas.Option.{same_Some, slice_get-get_or, slice_get_within}
use Rattle.pls_configuration.specs.declared.row.NodeRow.{NodeRow}
use Rattle.pls_configuration.specs.Configuration.{ids_of}
use Rattle.pls_configuration.specs.Walk.{Edge, Adjacent}
use Rattle.pls_facts.proofs.Neighbours.{adjacent_known}
use Rattle.pls_facts.proofs.PointedEdges.{pointed_among}
use Rattle.pls_search.specs.SubtreeSizes.{AreSubtreeSizes, HasParentAt}
use Rattle.pls_centroid.specs.Centroid.{is_central}
use Rattle.pls_centroid.specs.inner.Cut.{id_at}
use Rattle.pls_centroid.specs.inner.Rooted.{AreBehindParents, AreCentroidsOf, AreFirstCentral, AreGreatestBelow, AreTopsOf, AreTopsSoFar, IsFirstCentral, IsGreatestBelow, IsStage, IsTopOf, first_of, top_by}
use Rattle.pls_centroid.proofs.Chosen.{centroids_found}
use Rattle.pls_centroid.proofs.Counted.{IsCounted, central_from, central_to, size_top}
use Rattle.pls_centroid.proofs.Cutting.{IsTopOf-none, IsTopOf-up, top_joined}
use Rattle.pls_centroid.proofs.Noting.{first_here, first_past, first_stays, greatest_more, greatest_past, set_cases}
use Rattle.pls_centroid.proofs.Pieces.{one_piece}

-- the top of a place is right where those of the places before it in the order are
pub top_right : (left : List (Option ℕ)) (order : List ℕ) (count : ℕ) (tops : List ℕ) (place : ℕ)
    → AreBehindParents left order → length tops ≡ length left
    → AreTopsSoFar left order count tops → slice_get order count ≡ Some place
    → ((parent : ℕ) → HasParentAt left place parent → parent < length left)
    → IsTopOf left place (top_by left tops place)
top_right left order count tops place behind many before at inside_left = by
    (get_or left place None) refl
  where
    here : slice_get left place ≡ Some (get_or left place None)
    here = slice_get-get_or left place None (behind.within count place at)

    by : (o : Option ℕ) → get_or left place None ≡ o
        → IsTopOf left place (option_map_or (λ parent. get_or tops parent 0) o place)
    by None e = IsTopOf-none left place (here ∙ ap Some e)
    by (Some parent) e =
        let up : HasParentAt left place parent = here ∙ ap Some e in
        let (early, stands) : (number : ℕ) × (slice_get order number ≡ Some parent) =
        behind.all parent (inside_left parent up) in
        let less = behind.behind count place early parent at up stands in
        let inside = behind.within early parent stands in
        IsTopOf-up left place parent (get_or tops parent 0) up
        (before early parent (get_or tops parent 0) less stands
        (slice_get-get_or tops parent 0 (omega (arith, inside, many))))

-- after all places in the order all are right
pub tops_all : (left : List (Option ℕ)) (order tops : List ℕ) → AreBehindParents left order
    → length tops ≡ length left → (count : ℕ) → length order ≤ count
    → AreTopsSoFar left order count tops → AreTopsOf left tops
tops_all left order tops behind many count enough before = record {
  each = many;
  top = λ place top at.
      let inside = slice_get_within tops place top at in
      let (number, stands) : (number : ℕ) × (slice_get order number ≡ Some place) =
      behind.all place (omega (arith, inside, many)) in
      let within = slice_get_within order number place stands in
      before number place top (omega (arith, within, enough)) stands at;
}

-- one place more, whose parent this is
pub greatest_set : (left : List (Option ℕ)) (sizes : List ℕ) (count : ℕ) (greatest : List ℕ)
    (parent size : ℕ) → HasParentAt left count parent → slice_get sizes count ≡ Some size
    → parent < length greatest → AreGreatestBelow left sizes count greatest
    → AreGreatestBelow left sizes (count + 1)
    (set greatest parent (max size (get_or greatest parent 0)))
greatest_set left sizes count greatest parent size up at within before = record {
  each = let each = before.each in
      omega (arith, each, length-set greatest parent (max size (get_or greatest parent 0)));
  most = λ place most stands. elim (set_cases greatest parent (max size (get_or greatest parent 0))
      place most within stands) [
        | inl same ↦ subst (IsGreatestBelow left sizes (count + 1) place) (sym same.1)
            (subst (λ (place : ℕ). IsGreatestBelow left sizes (count + 1) place
            (max size (get_or greatest parent 0))) (sym same.0)
            (greatest_more left sizes count parent (get_or greatest parent 0) size up at
            (before.most parent (get_or greatest parent 0)
            (slice_get-get_or greatest parent 0 within))))
        | inr apart ↦ greatest_past left sizes count place most
            (λ other. apart.0 (same_Some place parent
            (same_Some (Some place) (Some parent) (sym other ∙ up))))
            (before.most place most apart.1)
      ];
}

-- one place more, without parent
pub greatest_none : (left : List (Option ℕ)) (sizes : List ℕ) (count : ℕ) (greatest : List ℕ)
    → slice_get left count ≡ Some None → AreGreatestBelow left sizes count greatest
    → AreGreatestBelow left sizes (count + 1) greatest
greatest_none left sizes count greatest none before = record {
  each = before.each;
  most = λ place most stands. greatest_past left sizes count place most
      (λ up. let no : None ≡ Some place = same_Some None (Some place) (sym none ∙ up) in absurd
      (cc))
      (before.most place most stands);
}

-- where the first central places are found, so are the centroids
pub centroids_all : (rows : List NodeRow) (edges : List Edge) (left : List (Option ℕ))
    (tops : List ℕ) → IsStage rows edges left tops → (centroids : List (Option ℕ)) (count : ℕ)
    → count ≡ length left → AreFirstCentral rows edges tops count centroids
    → AreCentroidsOf rows edges tops centroids
centroids_all rows edges left tops stage centroids count all found =
    centroids_found rows stage.net stage.tree edges stage.among known left stage.cut tops stage.are
    centroids (subst (λ (count : ℕ). AreFirstCentral rows edges tops count centroids)
    (all ∙ stage.cut.each) found)
  where
    known : (u v : ℕ) → Adjacent edges u v → Contains (ids_of rows) v
    known u v (edge, in', joins) = adjacent_known rows stage.net u v
        (edge, pointed_among rows stage.net edge (stage.among edge in'), joins)

module _ (rows : List NodeRow) (edges : List Edge) (left : List (Option ℕ)) (tops : List ℕ)
    (stage : IsStage rows edges left tops) (sizes below : List ℕ)
    (are : AreSubtreeSizes left sizes) (greatest : AreGreatestBelow left sizes (length left) below)
  where
    known : (u v : ℕ) → Adjacent edges u v → Contains (ids_of rows) v
    known u v (edge, in', joins) = adjacent_known rows stage.net u v
        (edge, pointed_among rows stage.net edge (stage.among edge in'), joins)

    -- the test by sizes is that of the definition
    pub central_is : (place top all own most : ℕ) → slice_get tops place ≡ Some top
        → slice_get sizes top ≡ Some all → slice_get sizes place ≡ Some own
        → slice_get below place ≡ Some most
        → (nat_le all (2 * own) && nat_le (2 * most) all)
        ≡ is_central edges (ids_of rows) (id_at rows place)
    central_is place top all own most at top_size size greatest_is =
        by (cases_Bool (nat_le all (2 * own) && nat_le (2 * most) all))
        (cases_Bool (is_central edges (ids_of rows) (id_at rows place)))
      where
        is_top : IsTopOf left place top
        is_top = stage.are.top place top at

        many : length left ≡ length rows
        many = stage.cut.each

        within : place < length rows
        within =
            let one = slice_get_within tops place top at in
            let each = stage.are.each in omega (arith, one, each, many)

        counted : IsCounted rows stage.net edges known left stage.cut sizes are stage.tree
            stage.among place all own most
        counted = record {
          within = within;
          piece = size_top rows stage.net edges known left stage.cut sizes are top all
              (let inside = is_top.inside in omega (arith, inside, many)) top_size is_top.ends
              ∙ ap length (sym (one_piece edges (ids_of rows) (id_at rows place) (id_at rows top)
              (top_joined rows stage.net edges known left stage.cut place top within is_top)));
          size = size;
          most = λ child other up there. (greatest.most place most greatest_is).most child other
              (slice_get_within left child (Some place) up) up there;
          one = (greatest.most place most greatest_is).one;
        }

        by : ((nat_le all (2 * own) && nat_le (2 * most) all) ≡ true)
            ⊎ ((nat_le all (2 * own) && nat_le (2 * most) all) ≡ false)
            → (is_central edges (ids_of rows) (id_at rows place) ≡ true)
            ⊎ (is_central edges (ids_of rows) (id_at rows place) ≡ false)
            → (nat_le all (2 * own) && nat_le (2 * most) all)
            ≡ is_central edges (ids_of rows) (id_at rows place)
        by (inl passes) (inl central) = passes ∙ sym central
        by (inr fails) (inr not_it) = fails ∙ sym not_it
        by (inl passes) (inr not_it) =
            let parts = and_parts (nat_le all (2 * own)) (nat_le (2 * most) all) passes in
            let above = leb-true all (2 * own) parts.0 in
            let under = leb-true (2 * most) all parts.1 in
            absurd (true≢false (sym (central_from rows stage.net edges known left stage.cut sizes
            are
            stage.tree stage.among place all own most counted (omega (arith, above)) under)
            ∙ not_it))
        by (inr fails) (inl central) =
            let both = central_to rows stage.net edges known left stage.cut sizes are
            stage.tree stage.among place all own most counted central in
            let above = both.0 in
            absurd (true≢false (sym (and_from (nat_le all (2 * own)) (nat_le (2 * most) all)
            (le-leb all (2 * own) (omega (arith, above))) (le-leb (2 * most) all both.1)) ∙ fails))

    -- one place more
    pub first_more : (count top : ℕ) (centroids : List (Option ℕ)) (central : Bool)
        → slice_get tops count ≡ Some top
        → central ≡ is_central edges (ids_of rows) (id_at rows count)
        → top < length centroids
        → AreFirstCentral rows edges tops count centroids
        → AreFirstCentral rows edges tops (count + 1)
        (set centroids top (first_of (get_or centroids top None) central count))
    first_more count top centroids central at is within before = record {
      each = let each = before.each in
          omega (
            arith,
            each,
            length-set centroids top
                (first_of (get_or centroids top None) central count),
          );
      first = λ other found stands. elim (set_cases centroids top
          (first_of (get_or centroids top None) central count) other found within stands) [
            | inl same ↦ subst (IsFirstCentral rows edges tops (count + 1) other) (sym same.1)
                (subst (λ (other : ℕ). IsFirstCentral rows edges tops (count + 1) other
                (first_of (get_or centroids top None) central count)) (sym same.0)
                (here (get_or centroids top None) central is
                (before.first top (get_or centroids top None)
                (slice_get-get_or centroids top None within))))
            | inr apart ↦ elsewhere other apart.0 found (before.first other found apart.1)
          ];
    }
      where
        here : (found : Option ℕ) (central : Bool)
            → central ≡ is_central edges (ids_of rows) (id_at rows count)
            → IsFirstCentral rows edges tops count top found
            → IsFirstCentral rows edges tops (count + 1) top (first_of found central count)
        here (Some c) central is first = first_stays rows edges tops count top c first
        here None true is none = first_here rows edges tops count top none at (sym is)
        here None false is none = first_past rows edges tops count top none (λ stands. sym is)

        elsewhere : (other : ℕ) → other ≢ top → (found : Option ℕ)
            → IsFirstCentral rows edges tops count other found
            → IsFirstCentral rows edges tops (count + 1) other found
        elsewhere other apart (Some c) first = first_stays rows edges tops count other c first
        elsewhere other apart None none = first_past rows edges tops count other none
            (λ stands. absurd (apart (same_Some other top (sym stands ∙ at))))
