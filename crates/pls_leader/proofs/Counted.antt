-- In the marker of the number of nodes places of parents are parents, and chains from place to
-- place are chains from node to node.
use Rattle.std.proofs.Common.{◌≡◌, ◌∙◌, ℕ, ◌+◌, ◌<◌, ◌≤◌, ◌==◌, inl, inr, true, false, List, [], ◌∷◌, length, map, get_or, position, unwrap_or, Contains, Option, Some, None, slice_get, refl, sym, ap, subst, arith}
use Rattle.std.specs.Option.{option_map}
use Rattle.std.proofs.lemmas.Bool.{cases_eq, cases_lt, eq-eqb, eqb-true}
use Rattle.std.proofs.lemmas.List.{length-map}
use Rattle.std.proofs.lemmas.List.Elements.{All-contains}
use Rattle.std.proofs.lemmas.Option.{get_or_from_slice_get, same_Some, slice_get-get_or, slice_get-map, slice_get_within}
use Rattle.pls_configuration.specs.declared.row.Port.{Port}
use Rattle.pls_configuration.specs.declared.row.NodeRow.{NodeRow}
use Rattle.pls_configuration.specs.Configuration.{IsNetwork, ids_of}
use Rattle.pls_configuration.specs.Walk.{edges_of}
use Rattle.pls_graph.specs.Levels.{IsLevel}
use Rattle.pls_graph.specs.Places.{beside}
use Rattle.pls_graph.proofs.Beside.{Adjacent-beside, beside-Adjacent, beside_within}
use Rattle.pls_graph.proofs.Members.{Contains-from_map, Contains-from_place, Contains-map, place_from_Contains}
use Rattle.pls_graph.proofs.Placed.{ids_rise, place_of_row}
use Rattle.pls_configuration.specs.WalkBy.{WalkBy}
use Rattle.pls_facts.specs.Parents.{AreSoMany, ChainMeets, NoParentsReturn}
use Rattle.pls_facts.specs.SpanningTree.{AreDistinct}
use Rattle.pls_facts.proofs.Levels.{one_level}
use Rattle.pls_graph.proofs.Finds.{item_at}
use Rattle.pls_facts.proofs.Neighbours.{port_adjacent}
use Rattle.pls_facts.proofs.Pointed.{id_of_row}
use Rattle.pls_facts.proofs.RootLevels.{alone_at_0, levels_fall}
use Rattle.pls_search.specs.SubtreeSizes.{AreParentsWithin, HasParentAt}
use Rattle.pls_leader.specs.Count.{IsOneNearer, IsParent}
use Rattle.pls_leader.specs.inner.LevelsFrom.{AreLevelsFrom}
use Rattle.pls_leader.specs.inner.Nearest.{AreNearest, IsLeast, is_level_nearer}

module _ (rows : List NodeRow) (net : IsNetwork rows) (levels : List ℕ)
    (from : AreLevelsFrom rows 0 levels) (parents : List (Option ℕ))
    (nearest : AreNearest rows levels parents) where
  abbrev pub level : ℕ → ℕ
  level place = get_or levels place 0

  abbrev pub IsRow : ℕ → NodeRow → Type 0
  IsRow place row = slice_get rows place ≡ Some row

  pub first : (first : NodeRow) × (slice_get rows 0 ≡ Some first)
  first = item_at rows 0 (let some = net.limits.some in omega (arith, some))

  abbrev pub root : ℕ
  root = first.0.id

  -- the level of the node at a place
  pub level_is : (place : ℕ) (row : NodeRow) → IsRow place row
      → IsLevel (edges_of rows) root row.id (level place)
  level_is place row at =
      let (number, has) : (number : ℕ) × (slice_get levels place ≡ Some number) =
      item_at levels place (let each = from.each in
      omega (arith, each, slice_get_within rows place row at)) in
      let is : level place ≡ number = get_or_from_slice_get levels place number 0 has in
      subst (IsLevel (edges_of rows) root row.id) (sym is)
      (from.level first.0 row place number first.1 at has)

  -- two places of one identity are one
  same_place : (i j : ℕ) (row other : NodeRow) → IsRow i row → IsRow j other → row.id ≡ other.id
      → i ≡ j
  same_place i j row other at there same = elim (cases_lt i j) [
    | inl less ↦
        absurd (let rise = ids_rise rows net i j row other less at there in omega (arith, rise, same))
    | inr more ↦ elim (cases_lt j i) [
      | inl less ↦
          absurd (let rise = ids_rise rows net j i other row less there at in omega (arith, rise, same))
      | inr also ↦ omega (arith, more, also)
    ]
  ]

  -- one place is nearer than another just where its node is
  nearer_is : (place other : ℕ) (row node : NodeRow) → IsRow place row → IsRow other node
      → is_level_nearer levels place other ≡ true → IsOneNearer rows root row.id node.id
  nearer_is place other row node at there above =
      let is : level place ≡ level other + 1 = eqb-true (level place) (level other + 1) above in (
        level other,
        subst (IsLevel (edges_of rows) root row.id) is (level_is place row at),
        level_is other node there,
      )

  is_nearer : (place other : ℕ) (row node : NodeRow) → IsRow place row → IsRow other node
      → IsOneNearer rows root row.id node.id → is_level_nearer levels place other ≡ true
  is_nearer place other row node at there nearer =
      let here = one_level (edges_of rows) root row.id (level place) (nearer.0 + 1)
      (level_is place row at) nearer.1 in
      let low = one_level (edges_of rows) root node.id (level other) nearer.0
      (level_is other node there) nearer.2 in
      eq-eqb (level place) (level other + 1) (omega (arith, here, low))

  -- the least place above that is beside a place is that of the parent
  parent_is : (place parent : ℕ) (row node : NodeRow) → IsRow place row → IsRow parent node
      → IsLeast (is_level_nearer levels place) (beside rows place) (Some parent)
      → IsParent rows root row.id node.id
  parent_is place parent row node at there least = record {
    beside = Adjacent-beside rows net place row at parent node there least.0;
    nearer = nearer_is place parent row node at there least.1;
    smallest = λ other step nearer.
        let (k, target, at_k, named, in') = beside-Adjacent rows net place row at other step in
        let above = is_nearer place k row target at at_k
        (subst (IsOneNearer rows root row.id) (sym named) nearer) in
        let low : parent ≤ k = least.2 k in' above in
        elim (cases_lt parent k) [
          | inl less ↦
              let rise = ids_rise rows net parent k node target less there at_k in
              omega (arith, rise, named)
          | inr more ↦
              let same : parent ≡ k = omega (arith, low, more) in
              let one : node ≡ target = same_Some node target
              (sym there ∙ ap (slice_get rows) same ∙ at_k) in
              let id = ap (λ (row : NodeRow). row.id) one in
              omega (arith, id, named)
        ];
  }

  -- what a place has as its parent, its node has as its parent
  pub up_there : (place parent : ℕ) (row : NodeRow) → IsRow place row → HasParentAt parents place parent
      → (node : NodeRow) × IsRow parent node × IsParent rows root row.id node.id
      × (level place ≡ level parent + 1)
  up_there place parent row at has =
      let least = nearest.nearest place (Some parent) has in
      let low : parent < length rows = beside_low parent least.0 in
      let (node, there) : (node : NodeRow) × IsRow parent node = item_at rows parent low in (
        node,
        there,
        parent_is place parent row node at there least,
        eqb-true (level place) (level parent + 1) least.1,
      )
    where
      beside_low : (parent : ℕ) → Contains (beside rows place) parent → parent < length rows
      beside_low parent in' =
          All-contains (λ (k : ℕ). k < length rows) (beside rows place) parent
          (beside_within rows net place (slice_get_within rows place row at)) in'

  -- and the other way round
  up_back : (place : ℕ) (row : NodeRow) (id : ℕ) → IsRow place row → IsParent rows root row.id id
      → (parent : ℕ) × (node : NodeRow) × IsRow parent node × (node.id ≡ id)
      × HasParentAt parents place parent
  up_back place row id at is =
      let (entry, has) : (entry : Option ℕ) × (slice_get parents place ≡ Some entry) =
      item_at parents place (let each = nearest.each in
      omega (arith, each, slice_get_within rows place row at)) in
      by entry has
    where
      by : (entry : Option ℕ) → slice_get parents place ≡ Some entry
          → (parent : ℕ) × (node : NodeRow) × IsRow parent node × (node.id ≡ id)
          × HasParentAt parents place parent
      by None has =
          let none = nearest.nearest place None has in
          let (k, target, at_k, named, in') = beside-Adjacent rows net place row at id is.beside in
          let above = is_nearer place k row target at at_k
          (subst (IsOneNearer rows root row.id) (sym named) is.nearer) in
          let no : true ≡ false = sym above ∙ none k in' in
          absurd (cc)
      by (Some parent) has =
          let (node, there, also, less) = up_there place parent row at has in
          let down = is.smallest node.id also.beside also.nearer in
          let up = also.smallest id is.beside is.nearer in
          (parent, node, there, omega (arith, down, up), has)

  -- the level of an identity
  abbrev by_id : ℕ → ℕ
  by_id id = level (unwrap_or (position (λ row. id == row.id) rows) 0)

  by_id_is : (place : ℕ) (row : NodeRow) → IsRow place row → by_id row.id ≡ level place
  by_id_is place row at =
      ap (λ (place : Option ℕ). level (unwrap_or place 0)) (place_of_row rows net place row at)

  by_id_level : (row : NodeRow) → Contains rows row
      → IsLevel (edges_of rows) root row.id (by_id row.id)
  by_id_level row in' =
      let (place, at) : (place : ℕ) × IsRow place row = place_from_Contains rows row in' in
      subst (IsLevel (edges_of rows) root row.id) (sym (by_id_is place row at))
      (level_is place row at)

  -- only the root has none above
  pub alone : (place : ℕ) (row : NodeRow) → IsRow place row → slice_get parents place ≡ Some None
      → row.id ≡ root
  alone place row at has = elim (cases_eq (by_id row.id) 0) [
    | inl none ↦ alone_at_0 rows net root by_id by_id_level row in' none
    | inr some ↦
        let (port, port_in, less) : (port : Port) × Contains row.ports port
        × (by_id row.id ≡ by_id port.nbr + 1) =
        levels_fall rows net root by_id by_id_level row in' (grind (arith)) in
        let step = (port_adjacent rows net row port in' port_in).0 in
        let (k, target, at_k, named, beside_in) = beside-Adjacent rows net place row at port.nbr step
        in
        let here = by_id_is place row at in
        let there = by_id_is k target at_k in
        let same = ap by_id named in
        let above : is_level_nearer levels place k ≡ true =
        eq-eqb (level place) (level k + 1) (omega (arith, less, here, there, same)) in
        let no : true ≡ false = sym above ∙ nearest.nearest place None has k beside_in in
        absurd (cc)
  ]
    where
      in' : Contains rows row
      in' = Contains-from_place rows place row at

  -- parents are places
  pub parents_within : AreParentsWithin parents
  parents_within place parent has =
      let (row, at) : (row : NodeRow) × IsRow place row =
      item_at rows place (let each = nearest.each in
      omega (arith, each, slice_get_within parents place (Some parent) has)) in
      let (node, there, is, less) = up_there place parent row at has in
      let within = slice_get_within rows parent node there in
      let each = nearest.each in
      omega (arith, within, each)

  -- a chain of parents goes down in levels
  chain_falls : (u v : ℕ) (nodes : List ℕ) → WalkBy (HasParentAt parents) u nodes v
      → level u ≡ level v + length nodes
  chain_falls u v [] same = let is = ap level same in omega (arith, is)
  chain_falls u v (x ∷ nodes) chain =
      let rest = chain_falls x v nodes chain.1 in
      let (row, at) : (row : NodeRow) × IsRow u row =
      item_at rows u (let each = nearest.each in
      omega (arith, each, slice_get_within parents u (Some x) chain.0)) in
      let up = up_there u x row at chain.0 in
      let less = up.3 in
      omega (arith, rest, less)

  -- so none returns
  pub none_returns : NoParentsReturn (HasParentAt parents)
  none_returns u x nodes chain = let falls = chain_falls u u (x ∷ nodes) chain in omega (arith, falls)

  -- chains from place to place are chains from node to node
  chain_there : (u v : ℕ) (row target : NodeRow) (nodes : List ℕ) → IsRow u row → IsRow v target
      → WalkBy (HasParentAt parents) u nodes v
      → ChainMeets (IsParent rows root) row.id target.id
  chain_there u v row target [] at there same =
      let one : row ≡ target = same_Some row target (sym at ∙ ap (slice_get rows) same ∙ there) in
      ([], ap (λ (row : NodeRow). row.id) one)
  chain_there u v row target (x ∷ nodes) at there chain =
      let (node, at_x, is, less) = up_there u x row at chain.0 in
      let (onward, rest) : ChainMeets (IsParent rows root) node.id target.id =
      chain_there x v node target nodes at_x there chain.1 in
      (node.id ∷ onward, (is, rest))

  chain_back : (u v : ℕ) (row target : NodeRow) (nodes : List ℕ) → IsRow u row → IsRow v target
      → WalkBy (IsParent rows root) row.id nodes target.id
      → ChainMeets (HasParentAt parents) u v
  chain_back u v row target [] at there same = ([], same_place u v row target at there same)
  chain_back u v row target (id ∷ nodes) at there chain =
      let (x, node, at_x, named, has) = up_back u row id at chain.0 in
      let (onward, rest) : ChainMeets (HasParentAt parents) x v =
      chain_back x v node target nodes at_x there
      (subst (λ (id : ℕ). WalkBy (IsParent rows root) id nodes target.id) (sym named) chain.1)
      in
      (x ∷ onward, (has, rest))

  -- the identity at a place
  abbrev id_at : ℕ → ℕ
  id_at place = (get_or rows place first.0).id

  id_of : (place : ℕ) (row : NodeRow) → IsRow place row → id_at place ≡ row.id
  id_of place row at = ap (λ (row : NodeRow). row.id) (get_or_from_slice_get rows place row first.0 at)

  -- as many nodes' chains meet a node as places' chains meet its place
  pub ids_many : (place : ℕ) (row : NodeRow) (size : ℕ) → IsRow place row
      → AreSoMany
      (λ other. (other < length parents) × ChainMeets (HasParentAt parents) other place) size
      → AreSoMany (λ id. Contains (ids_of rows) id × ChainMeets (IsParent rows root) id row.id) size
  ids_many place row size at so = record {
    all = map id_at so.all;
    distinct = distinct;
    many = length-map so.all id_at ∙ so.many;
    are = λ id. (there id, back id);
  }
    where
      row_at : (other : ℕ) → Contains so.all other → (node : NodeRow) × IsRow other node
      row_at other in' =
          item_at rows other (let within = ((so.are other).0 in').0 in
          let each = nearest.each in omega (arith, within, each))

      item : (i d : ℕ) → i < length so.all
          → (other : ℕ) × Contains so.all other × (get_or so.all i other ≡ other)
          × (get_or (map id_at so.all) i d ≡ id_at other)
      item i d within =
          let (other, has) : (other : ℕ) × (slice_get so.all i ≡ Some other) =
          item_at so.all i within in (
            other,
            Contains-from_place so.all i other has,
            get_or_from_slice_get so.all i other other has,
            get_or_from_slice_get (map id_at so.all) i (id_at other) d
                (slice_get-map id_at so.all i ∙ ap (option_map id_at) has),
          )

      distinct : AreDistinct (map id_at so.all)
      distinct i j d before within same =
          let long = length-map so.all id_at in
          let (one, one_in, one_is, one_id) = item i d (omega (arith, before, within, long)) in
          let (other, other_in, other_is, other_id) = item j d (omega (arith, within, long)) in
          let (node, node_at) : (node : NodeRow) × IsRow one node = row_at one one_in in
          let (target, target_at) : (node : NodeRow) × IsRow other node = row_at other other_in in
          let ids : node.id ≡ target.id =
          sym (id_of one node node_at) ∙ sym one_id ∙ same ∙ other_id
          ∙ id_of other target target_at in
          let places : one ≡ other = same_place one other node target node_at target_at ids in
          so.distinct i j one before (omega (arith, within, long))
          (one_is ∙ places ∙ sym (sym (get_or_any j one other (omega (arith, within, long))) ∙ other_is)
          ∙ refl)
        where
          get_or_any : (j one other : ℕ) → j < length so.all
              → get_or so.all j other ≡ get_or so.all j one
          get_or_any j one other within =
              get_or_from_slice_get so.all j (get_or so.all j one) other
              (slice_get-get_or so.all j one within)

      there : (id : ℕ) → Contains (map id_at so.all) id
          → Contains (ids_of rows) id × ChainMeets (IsParent rows root) id row.id
      there id in' =
          let (other, other_in, is) : (other : ℕ) × Contains so.all other × (id_at other ≡ id) =
          Contains-from_map id_at so.all id in' in
          let (node, node_at) : (node : NodeRow) × IsRow other node = row_at other other_in in
          let named : node.id ≡ id = sym (id_of other node node_at) ∙ is in
          let chain = ((so.are other).0 other_in).1 in
          subst (λ (id : ℕ). Contains (ids_of rows) id × ChainMeets (IsParent rows root) id row.id)
          named (
            id_of_row rows node (Contains-from_place rows other node node_at),
            chain_there other place node row chain.0 node_at at chain.1,
          )

      back : (id : ℕ) → Contains (ids_of rows) id × ChainMeets (IsParent rows root) id row.id
          → Contains (map id_at so.all) id
      back id such =
          let (node, node_in, named) : (node : NodeRow) × Contains rows node × (node.id ≡ id) =
          Contains-from_map (λ (row : NodeRow). row.id) rows id such.0 in
          let (other, node_at) : (other : ℕ) × IsRow other node =
          place_from_Contains rows node node_in in
          let within : other < length parents =
          (let each = nearest.each in
          omega (arith, each, slice_get_within rows other node node_at)) in
          let chain : ChainMeets (HasParentAt parents) other place =
          chain_back other place node row such.1.0 node_at at
          (subst (λ (id : ℕ). WalkBy (IsParent rows root) id such.1.0 row.id) (sym named)
          such.1.1) in
          subst (Contains (map id_at so.all)) (id_of other node node_at ∙ named)
          (Contains-map id_at so.all other ((so.are other).1 (within, chain)))
