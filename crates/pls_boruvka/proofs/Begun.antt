-- What stands before each level, and what there is when one fragment holds all nodes.
use Rattle.std.proofs.Common.{◌≡◌, ◌∙◌, ℕ, ◌<◌, ◌≤◌, ◌^◌, inl, inr, Bool, true, false, List, [], ◌∷◌, ◌++◌, map, length, replicate, get_or, All, Contains, Option, Some, refl, sym, ap, subst, arith, slice_get}
use Rattle.std.proofs.lemmas.List.{append_assoc, append-nil, ext_get_or, get_or-map, get_or-replicate, length-map, length-replicate, map-append}
use Rattle.std.proofs.lemmas.List.Elements.{Contains-append_cases}
use Rattle.std.proofs.lemmas.Option.{slice_get-get_or, slice_get_within}
use Rattle.pls_configuration.specs.declared.row.NodeRow.{NodeRow}
use Rattle.pls_configuration.specs.Configuration.{IsNetwork, ids_of}
use Rattle.pls_configuration.specs.Walk.{Edge, JoinAll, edges_of}
use Rattle.pls_graph.specs.Places.{place_in}
use Rattle.pls_graph.proofs.Finds.{item_at}
use Rattle.pls_graph.proofs.Members.{Contains-cons_cases, Contains-from_place, place_from_Contains}
use Rattle.pls_facts.specs.EdgeOrder.{ComesBefore}
use Rattle.pls_facts.specs.Lightest.{IsLightest, weight_of}
use Rattle.pls_facts.specs.Pointer.{Falls}
use Rattle.pls_facts.specs.SpanningTree.{IsSpanningTree, IsTree, pointed_edges}
use Rattle.pls_facts.proofs.NamedPlaces.{place_named}
use Rattle.pls_facts.proofs.Pointed.{id_of_row}
use Rattle.pls_facts.proofs.PortEdges.{IsGraph-network}
use Rattle.pls_facts.proofs.Trees.{NoneReturns-IsTree}
use Rattle.pls_boruvka.specs.declared.choice.Choice.{Choice}
use Rattle.pls_boruvka.specs.declared.joining.ChosenEnd.{ChosenEnd}
use Rattle.pls_boruvka.specs.declared.level.Level.{Level}
use Rattle.pls_boruvka.specs.Boruvka.{AreChainLengths, AreLevelLists, AreBoruvkaLevels, AreBoruvkaLevelsFrom, chosen_edge, chosen_edges}
use Rattle.pls_boruvka.specs.Fragments.{JoinedChainEnds}
use Rattle.pls_boruvka.specs.inner.Choices.{AreChoices, top_at}
use Rattle.pls_boruvka.specs.inner.Chosen.{AreChildrenWithin, AreChosen, AreOne, JoinChildren, SomeApart, SomeUnpointed, no_chosen}
use Rattle.pls_boruvka.specs.inner.Tops.{AreParents, AreTops, IsTop}
use Rattle.pls_boruvka.proofs.ChainLengths.{AreChainLengths-chain_length, Falls-chains, chain_length}
use Rattle.pls_boruvka.proofs.Halving.{few_levels}
use Rattle.pls_boruvka.proofs.JoinedChains.{AreFlags, AreFragments-ends, JoinAll-one}
use Rattle.pls_boruvka.proofs.Leaving.{fragment_of, row_at}
use Rattle.pls_boruvka.proofs.LightestLevels.{IsLightest-levels}
use Rattle.pls_boruvka.proofs.Listed.{Each-at}
use Rattle.pls_boruvka.proofs.NextLevel.{AreFlags-more, IsLevelOf-chosen, child_of, children_within, chosen_in_tree, level_of, lighter_where, one_more}
use Rattle.pls_boruvka.proofs.Placing.{JoinedChainEnds-top, id_at, id_at-row}
use Rattle.pls_boruvka.proofs.Rounds.{AddLevel}
use Rattle.pls_boruvka.proofs.Unjoined.{unjoined, unjoined-fewer}

-- what levels say of a node
abbrev pub said_of : List (ℕ → Level) → NodeRow → List Level
said_of levels row = map (λ level. level row.id) levels

-- some levels lead to these joined edges, all of them chosen from the tree; the entries tell which
-- pointers lie on them, and the lists what the levels say
pub record IsBegun (rows : List NodeRow) (flags : List Bool) (lists : List (List Level))
    : Type 0 where
  pub depth : ℕ → ℕ
  pub deep : AreChainLengths rows depth
  pub joined : List Edge
  pub sized : length flags ≡ length rows
  pub marked : AreFlags rows flags joined
  pub levels : List (ℕ → Level)
  pub onward : (rest : List (ℕ → Level)) → AreBoruvkaLevelsFrom (edges_of rows)
      (ComesBefore (pointed_edges rows)) (ids_of rows) depth joined rest
      → AreBoruvkaLevels rows depth (levels ++ rest)
  pub in_tree : (level : ℕ → Level) (u : ℕ) → Contains levels level → Contains (ids_of rows) u
      → Contains (pointed_edges rows) (chosen_edge (level u))
  pub said : lists ≡ map (said_of levels) rows

module _ (rows : List NodeRow) (net : IsNetwork rows) where
  -- nothing is said of any node
  nothing_said : (rows : List NodeRow) → replicate (length rows) [] ≡ map (said_of []) rows
  nothing_said [] = refl
  nothing_said (row ∷ rows) = ap (λ (lists : List (List Level)). [] ∷ lists) (nothing_said rows)

  -- before the first level nothing is joined
  pub IsBegun-none : IsTree rows
      → IsBegun rows (replicate (length rows) false) (replicate (length rows) [])
  IsBegun-none is_tree = record {
    depth = chain_length rows net (NoneReturns-IsTree rows net is_tree);
    deep = AreChainLengths-chain_length rows net (NoneReturns-IsTree rows net is_tree);
    joined = [];
    sized = length-replicate (length rows) false;
    marked = record {
      below = λ edge none. absurd (omega (arith, none.1));
      to = λ row edge row_in points flag.
          let (place, at) : (place : ℕ) × (slice_get rows place ≡ Some row) =
          place_from_Contains rows row row_in in
          let no : false ≡ true =
          sym (get_or-replicate (length rows) place false false
          (slice_get_within rows place row at))
          ∙ subst (λ (place : ℕ). get_or (replicate (length rows) false) place false ≡ true)
          (place_named rows net place row at) flag in
          absurd (cc);
      from = λ row edge row_in points none. absurd (omega (arith, none.1));
    };
    levels = [];
    onward = λ rest are. are;
    in_tree = λ level u none. absurd (omega (arith, none.1));
    said = nothing_said rows;
  }

  module _ (parents : List (Option ℕ)) (flags : List Bool) (tops : List ℕ)
      (linked : AreParents rows parents) (topped : AreTops parents flags tops) where
    pub tops_each : length tops ≡ length rows
    tops_each = topped.each ∙ linked.each

    pub tops_within : All (λ top. top < length rows) tops
    tops_within place d before =
        let is : IsTop parents flags place (get_or tops place d) =
        Each-at (IsTop parents flags) tops place d topped.top before in
        omega (arith, is.inside, linked.each)

    -- the chain of each node ends at its fragment's name
    pub ends_at_name : (u : ℕ) → Contains (ids_of rows) u
        → JoinedChainEnds rows flags u (fragment_of rows net tops tops_each tops_within u)
    ends_at_name u in' =
        let (row, at, named) : (row : NodeRow) × (slice_get rows (place_in rows u) ≡ Some row)
        × (row.id ≡ u) = row_at rows net u in' in
        let before : place_in rows u < length tops =
        omega (arith, tops_each, slice_get_within rows (place_in rows u) row at) in
        let top : ℕ = top_at tops (place_in rows u) in
        let is : IsTop parents flags (place_in rows u) (top_at tops (place_in rows u)) =
        Each-at (IsTop parents flags) tops (place_in rows u) 0 topped.top before in
        let (last, there) : (last : NodeRow)
        × (slice_get rows (top_at tops (place_in rows u)) ≡ Some last) =
        item_at rows (top_at tops (place_in rows u)) (tops_within (place_in rows u) 0 before) in
        subst (λ (id : ℕ). JoinedChainEnds rows flags id
        (fragment_of rows net tops tops_each tops_within u)) named
        (subst (JoinedChainEnds rows flags row.id)
        (sym (id_at-row rows (top_at tops (place_in rows u)) last there))
        (JoinedChainEnds-top rows net parents linked flags (place_in rows u)
        (top_at tops (place_in rows u)) row last at there is))

    place_before : (u : ℕ) → Contains (ids_of rows) u → place_in rows u < length tops
    place_before u in' =
        let (row, at, named) : (row : NodeRow) × (slice_get rows (place_in rows u) ≡ Some row)
        × (row.id ≡ u) = row_at rows net u in' in
        omega (arith, tops_each, slice_get_within rows (place_in rows u) row at)

    -- one fragment holds all nodes
    module _ (is_tree : IsTree rows) (lists : List (List Level)) (begun : IsBegun rows flags lists)
        (one : AreOne tops) where
      all_joined : JoinAll begun.joined (ids_of rows)
      all_joined = JoinAll-one begun.joined (ids_of rows) begun.depth
          (fragment_of rows net tops tops_each tops_within)
          (AreFragments-ends rows net begun.depth (Falls-chains rows net begun.depth begun.deep)
          flags
          begun.joined begun.marked (fragment_of rows net tops tops_each tops_within) ends_at_name)
          (λ u v u_in v_in. ap (id_at rows) (one (place_in rows u) (place_before u u_in)
          ∙ sym (one (place_in rows v) (place_before v v_in))))

      all_levels : AreBoruvkaLevels rows begun.depth begun.levels
      all_levels = subst (AreBoruvkaLevels rows begun.depth) (append-nil begun.levels)
          (begun.onward [] all_joined)

      pub AreLevelLists-begun : AreLevelLists rows lists
      AreLevelLists-begun = record {
        depth = begun.depth;
        levels = begun.levels;
        deep = begun.deep;
        are = all_levels;
        said = begun.said;
      }

      pub IsLightest-begun : IsLightest (edges_of rows) (pointed_edges rows) (ids_of rows)
      IsLightest-begun = IsLightest-levels (edges_of rows) (pointed_edges rows) (ids_of rows)
          (IsGraph-network rows net) is_tree.spanning begun.depth begun.levels all_levels
          begun.in_tree

      pub few_begun : All (λ list. 2 ^ length list ≤ length rows) lists
      few_begun place d before =
          let (row, at) : (row : NodeRow) × (slice_get rows 0 ≡ Some row) =
          item_at rows 0 net.limits.some in
          let size = ap length begun.said in
          let within : place < length rows =
          omega (arith, before, size, length-map rows (said_of begun.levels)) in
          let is : get_or lists place d ≡ said_of begun.levels (get_or rows place row) =
          ap (λ (lists : List (List Level)). get_or lists place d) begun.said
          ∙ get_or-map (said_of begun.levels) rows place row d within in
          let many = ap length is ∙ length-map begun.levels (λ level. level (get_or rows place
          row).id) in
          let few = few_levels (edges_of rows) (ids_of rows) (IsGraph-network rows net)
          (ComesBefore (pointed_edges rows)) begun.depth [] begun.levels row.id
          (id_of_row rows row (Contains-from_place rows 0 row at)) all_levels in
          let nodes = length-map rows (λ (row : NodeRow). row.id) in
          let power : 2 ^ length (get_or lists place d) ≡ 2 ^ length begun.levels =
          ap (λ (count : ℕ). 2 ^ count) many in
          omega (arith, few, nodes, power)

  -- one level more
  module _ (is_tree : IsTree rows) (parents : List (Option ℕ)) (flags : List Bool) (tops : List ℕ)
      (linked : AreParents rows parents) (topped : AreTops parents flags tops)
      (some : SomeApart tops) (choices : List (Option Choice))
      (are : AreChoices rows tops (length rows) choices) (lists : List (List Level))
      (begun : IsBegun rows flags lists) where
    abbrev each : length tops ≡ length rows
    each = tops_each parents flags tops linked topped

    abbrev within : All (λ top. top < length rows) tops
    within = tops_within parents flags tops linked topped

    abbrev falls : Falls rows begun.depth
    falls = Falls-chains rows net begun.depth begun.deep

    pub lighter_begun : SomeUnpointed tops choices → (other : List Edge)
        × IsSpanningTree (edges_of rows) other (ids_of rows)
        × (weight_of other < weight_of (pointed_edges rows))
    lighter_begun = lighter_where rows net is_tree begun.depth falls tops each within choices are
        some

    module _ (all : List ChosenEnd) (chosen : AreChosen rows tops choices all) where
      pub children_begun : AreChildrenWithin (length flags) all
      children_begun = subst (λ (size : ℕ). AreChildrenWithin size all) (sym begun.sized)
          (children_within rows net is_tree begun.depth falls tops each within choices are some all
          chosen)

      abbrev level : ℕ → Level
      level = level_of rows net is_tree begun.depth falls tops each within choices are some all
          chosen

      -- each list has what the level says behind it
      said_more : (new : List (List Level)) → AddLevel all lists new
          → new ≡ map (said_of (begun.levels ++ level ∷ [])) rows
      said_more new added = ext_get_or [] new (map (said_of (begun.levels ++ level ∷ [])) rows)
          (omega (
            arith,
            added.each,
            ap length begun.said,
            length-map rows (said_of begun.levels),
            length-map rows (said_of (begun.levels ++ level ∷ [])),
          ))
          (λ i before.
          let (first, _) : (row : NodeRow) × (slice_get rows 0 ≡ Some row) =
          item_at rows 0 net.limits.some in
          let inside : i < length rows = omega (
            arith,
            before,
            added.each,
            ap length begun.said,
            length-map rows (said_of begun.levels),
          ) in
          let row : NodeRow = get_or rows i first in
          let at : slice_get rows i ≡ Some row = slice_get-get_or rows i first inside in
          let early : i < length all = omega (arith, inside, chosen.each) in
          let old : get_or lists i [] ≡ said_of begun.levels row =
          ap (λ (lists : List (List Level)). get_or lists i []) begun.said
          ∙ get_or-map (said_of begun.levels) rows i first [] inside in
          let one : (get_or all i no_chosen).level ≡ level row.id =
          sym (ap (λ (place : ℕ). (get_or all place no_chosen).level)
          (place_named rows net i row at)) in
          added.added i (get_or all i no_chosen) (slice_get-get_or all i no_chosen early)
          ∙ ap (λ (list : List Level). list ++ (get_or all i no_chosen).level ∷ []) old
          ∙ ap (λ (more : Level). said_of begun.levels row ++ more ∷ []) one
          ∙ sym (map-append (λ level. level row.id) begun.levels (level ∷ []))
          ∙ sym (get_or-map (said_of (begun.levels ++ level ∷ [])) rows i first [] inside))

      module _ (newer : List Bool) (joins : JoinChildren all (length all) flags newer) where
        pub IsBegun-more : (new : List (List Level)) → AddLevel all lists new
            → IsBegun rows newer new
        IsBegun-more new added = record {
          depth = begun.depth;
          deep = begun.deep;
          joined = begun.joined ++ chosen_edges level (ids_of rows);
          sized = joins.each ∙ begun.sized;
          marked = AreFlags-more rows net is_tree begun.depth falls tops each within choices are
              some
              all chosen flags begun.joined begun.marked
              (ends_at_name parents flags tops linked topped) newer joins;
          levels = begun.levels ++ level ∷ [];
          onward = λ rest follow. subst (AreBoruvkaLevels rows begun.depth)
              (sym (append_assoc begun.levels (level ∷ []) rest))
              (begun.onward (level ∷ rest) (
                IsLevelOf-chosen rows net is_tree begun.depth falls tops each within choices are
                    some
                    all chosen flags begun.joined begun.marked
                    (ends_at_name parents flags tops linked topped),
                follow,
              ));
          in_tree = λ one u in' u_in.
              elim (Contains-append_cases begun.levels (level ∷ []) one in') [
                | inl before ↦ begun.in_tree one u before u_in
                | inr now ↦ elim (Contains-cons_cases level [] one now) [
                  | inl same ↦ subst (λ (one : ℕ → Level).
                      Contains (pointed_edges rows) (chosen_edge (one u))) same
                      (chosen_in_tree rows net is_tree begun.depth falls tops each within choices
                      are
                      some all chosen u u_in)
                  | inr none ↦ absurd (omega (arith, none.1))
                ]
              ];
          said = said_more new added;
        }

        -- one pointer more is joined at least
        pub fewer_unjoined : unjoined newer < unjoined flags
        fewer_unjoined =
            let (row, at) : (row : NodeRow) × (slice_get rows 0 ≡ Some row) =
            item_at rows 0 net.limits.some in
            let (before, was, is) = one_more rows net is_tree begun.depth falls tops each within
            choices are some all chosen flags begun.joined begun.marked
            (ends_at_name parents flags tops linked topped) newer joins begun.sized row.id
            (id_of_row rows row (Contains-from_place rows 0 row at)) in
            unjoined-fewer flags newer
            (child_of rows net is_tree begun.depth falls tops each within choices are some all
            chosen
            row.id) joins.each (λ place true'. (joins.joined place).1 (inl true')) before was is
