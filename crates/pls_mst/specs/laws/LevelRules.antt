-- Where the pointers are a spanning tree of least weight, nodes that say Borůvka's levels keep the
-- rules of `mst`.
use Rattle.std.proofs.Common.{◌≡◌, ◌≢◌, ◌∙◌, ℕ, ◌<◌, ◌==◌, ◌⊎◌, inl, inr, Bool, List, [], length, get_or, Some, refl, sym, ap, subst, arith, slice_get, map, Contains}
use Rattle.std.proofs.lemmas.Bool.{eq-eqb, ne_eqb, true≢false}
use Rattle.std.proofs.lemmas.List.{get_or-map, length-map}
use Rattle.pls_configuration.specs.declared.row.Port.{Port}
use Rattle.pls_configuration.specs.declared.row.NodeRow.{NodeRow}
use Rattle.pls_configuration.specs.Configuration.{IsNetwork, ids_of}
use Rattle.pls_configuration.specs.Walk.{Edge, edges_of}
use Rattle.pls_graph.proofs.Members.{Contains-from_place, place_from_Contains}
use Rattle.pls_facts.specs.Pointer.{pointed_port, Falls}
use Rattle.pls_facts.specs.SpanningTree.{IsTree, edge_at, pointed_edges}
use Rattle.pls_facts.specs.Lightest.{IsLightest, Leaves}
use Rattle.pls_facts.specs.Precedes.{IsAtMost}
use Rattle.pls_facts.specs.EdgeOrder.{ComesBefore, edge_key}
use Rattle.pls_facts.proofs.Decided.{cases_Edge}
use Rattle.pls_facts.proofs.EdgeKeys.{key_by_before}
use Rattle.pls_facts.proofs.Neighbours.{neighbour_row}
use Rattle.pls_facts.proofs.Pointed.{id_of_row, row_from_id}
use Rattle.pls_facts.proofs.PointedEdges.{Joins-edge_at, edge_at_listed}
use Rattle.pls_facts.proofs.PortEdges.{IsAtPort}
use Rattle.pls_boruvka.specs.Boruvka.{AreBoruvkaLevels, chosen_edge}
use Rattle.pls_boruvka.specs.declared.level.Level.{Level}
use Rattle.pls_levels.specs.laws.InTree.{pointed_has, pointed_in}
use Rattle.pls_levels.specs.laws.Placed.{IsPlaced, named}
use Rattle.pls_mst.specs.Labels.{MstLabel}
use Rattle.pls_mst.specs.laws.ChosenLevels.{IsChosenOn, IsStage, blank, chosen_by_end, chosen_in, one_chosen, somewhere, stage}
use Rattle.pls_mst.specs.laws.Fragments.{KeepsRules, chosen_at, fragment_at, level_at, no_level, told_edge, told_outside}
use Rattle.pls_mst.specs.laws.JoinedPointers.{points_inside}
use Rattle.pls_mst.specs.laws.Sound.{Leaves-joins}
use Rattle.pls_mst.specs.laws.TreeEdges.{tells_in, tells_out}

module _ (rows : List NodeRow) (net : IsNetwork rows) (is_tree : IsTree rows)
    (lightest : IsLightest (edges_of rows) (pointed_edges rows) (ids_of rows)) (depth : ℕ → ℕ)
    (falls : Falls rows depth) (levels : List (ℕ → Level))
    (are : AreBoruvkaLevels rows depth levels) (say : ℕ → MstLabel)
    (placed : (row : NodeRow) → Contains rows row → IsPlaced say row)
    (one_root : (row : NodeRow) (port : Port) → Contains rows row → Contains row.ports port
    → (say port.nbr).root ≡ (say row.id).root)
    (levels_said : (row : NodeRow) → Contains rows row
    → (say row.id).levels ≡ map (λ level. level row.id) levels) where
  abbrev tree : List Edge
  tree = pointed_edges rows

  abbrev Known : ℕ → Type 0
  Known id = Contains (ids_of rows) id

  -- the level at a place
  abbrev at : ℕ → ℕ → Level
  at i = get_or levels i blank

  -- ---- what labels say of the levels and of the neighbours

  many : (row : NodeRow) → Contains rows row → length (say row.id).levels ≡ length levels
  many row in' = ap (λ (list : List Level). length list) (levels_said row in')
      ∙ length-map levels (λ (level : ℕ → Level). level row.id)

  says : (i u : ℕ) → Known u → i < length levels → level_at say i u ≡ at i u
  says i u in' within =
      let (row, row_in, named) : (row : NodeRow) × Contains rows row × (row.id ≡ u) =
      row_from_id rows u in' in
      subst (λ (u : ℕ). level_at say i u ≡ at i u) named
      (ap (λ (list : List Level). get_or list i no_level) (levels_said row row_in)
      ∙ get_or-map (λ (level : ℕ → Level). level row.id) levels i blank no_level within)

  names : (i u : ℕ) → Known u → i < length levels → fragment_at say i u ≡ (at i u).fragment
  names i u in' within = ap (λ (level : Level). level.fragment) (says i u in' within)

  chooses : (i u : ℕ) → Known u → i < length levels → chosen_at say i u ≡ chosen_edge (at i u)
  chooses i u in' within = ap chosen_edge (says i u in' within)

  -- what is so of each node is so of the neighbour at a port
  at_port : (P : ℕ → Type 0) → ((row : NodeRow) → Contains rows row → P row.id)
      → (row : NodeRow) (port : Port) → Contains rows row → Contains row.ports port → P port.nbr
  at_port P each row port in' has =
      let (other, other_in, named) : (other : NodeRow) × Contains rows other
      × (other.id ≡ port.nbr) = neighbour_row rows net row in' port has in
      subst P named (each other other_in)

  own_there : (row : NodeRow) (port : Port) → Contains rows row → Contains row.ports port
      → (say port.nbr).own ≡ port.nbr
  own_there = at_port (λ id. (say id).own ≡ id) (named rows net say placed)

  told_is : (row : NodeRow) (port : Port) → Contains rows row → Contains row.ports port
      → told_edge say row port ≡ edge_at row port
  told_is row port in' has = rw ((placed row in').own, own_there row port in' has) refl

  -- ---- a level at a node

  none_joined : (edge : Edge) → Contains [] edge → Contains tree edge
  none_joined edge in' = absurd (omega (arith, in'.1))

  module _ (row : NodeRow) (in' : Contains rows row) (i : ℕ)
      (inside : i < length (say row.id).levels) where
    within : i < length levels
    within = omega (arith, inside, many row in')

    here : Known row.id
    here = id_of_row rows row in'

    there : (port : Port) → Contains row.ports port → Known port.nbr
    there port has = at_port Known (id_of_row rows) row port in' has

    stage_of : IsStage rows net is_tree lightest depth (at i)
    stage_of = stage rows net is_tree lightest depth [] levels none_joined are i within

    -- whether the fragments are the same is what the level says
    same_fragment : (port : Port) → Contains row.ports port
        → fragment_at say i row.id ≡ fragment_at say i port.nbr
        → (at i row.id).fragment ≡ (at i port.nbr).fragment
    same_fragment port has same =
        sym (names i row.id here within) ∙ same ∙ names i port.nbr (there port has) within

    said_fragment : (port : Port) → Contains row.ports port
        → (at i row.id).fragment ≡ (at i port.nbr).fragment
        → fragment_at say i row.id ≡ fragment_at say i port.nbr
    said_fragment port has same =
        names i row.id here within ∙ same ∙ sym (names i port.nbr (there port has) within)

    keeps_named : (fragment_at say i row.id ≡ (say row.id).own) ⊎ ((port : Port)
        × (pointed_port row ≡ Some port) × (fragment_at say i row.id ≡ fragment_at say i port.nbr))
    keeps_named = elim (points_inside rows net depth falls stage_of.joined stage_of.below
        (λ u. (at i u).fragment) stage_of.is.fragments row in') [
          | inl own ↦ inl (names i row.id here within ∙ own ∙ sym (placed row in').own)
          | inr (port, pointed, same) ↦
              inr (port, pointed, said_fragment port (pointed_has row port pointed) same)
        ]

    keeps_agrees : (port : Port) → Contains row.ports port
        → fragment_at say i row.id ≡ fragment_at say i port.nbr
        → chosen_at say i row.id ≡ chosen_at say i port.nbr
    keeps_agrees port has same = chooses i row.id here within
        ∙ one_chosen rows net is_tree lightest depth stage_of.joined (at i) stage_of.is row.id
        port.nbr here (there port has) (same_fragment port has same)
        ∙ sym (chooses i port.nbr (there port has) within)

    -- the edge at a port that leads to another fragment is the chosen edge or comes behind it
    comes_behind : (port : Port) → Contains row.ports port
        → fragment_at say i row.id ≢ fragment_at say i port.nbr
        → (edge_at row port ≡ chosen_edge (at i row.id))
        ⊎ ComesBefore tree (chosen_edge (at i row.id)) (edge_at row port)
    comes_behind port has apart =
        elim (cases_Edge (edge_at row port) (chosen_edge (at i row.id))) [
          | inl same ↦ inl same
          | inr other ↦ inr ((stage_of.is.first row.id here).first (edge_at row port)
              (edge_at_listed rows net row port in' has) leaves other)
        ]
      where
        inside_of : ℕ → Bool
        inside_of v = (at i v).fragment == (at i row.id).fragment

        leaves : Leaves (edge_at row port) (λ v. (at i v).fragment == (at i row.id).fragment)
        leaves = Leaves-joins inside_of (edge_at row port) row.id port.nbr (Joins-edge_at row port)
            (λ same. true≢false (sym (eq-eqb (at i row.id).fragment (at i row.id).fragment refl)
            ∙ same ∙ ne_eqb (at i port.nbr).fragment (at i row.id).fragment
            (λ e. apart (said_fragment port has (sym e)))))

    keeps_least : (number : ℕ) (port : Port) → slice_get row.ports number ≡ Some port
        → fragment_at say i row.id ≢ fragment_at say i port.nbr
        → IsAtMost (edge_key (chosen_at say i row.id) 0)
        (edge_key (told_edge say row port) (told_outside say row number port))
    keeps_least number port at_number apart =
        let has : Contains row.ports port = Contains-from_place row.ports number port at_number in
        let (place, stands) : (place : ℕ) × (slice_get rows place ≡ Some row) =
        place_from_Contains rows row in' in
        let edge : Edge = edge_at row port in
        let outside : ℕ = told_outside say row number port in
        let way : IsAtPort rows edge row.id port.nbr = record {
          row = row;
          port = port;
          place = place;
          number = number;
          at = stands;
          has = at_number;
          owner = refl;
          names = refl;
          is = refl;
        } in
        let least : IsAtMost (edge_key (chosen_edge (at i row.id)) 0) (edge_key edge outside) =
        key_by_before tree (chosen_edge (at i row.id)) edge outside
        (chosen_in rows net is_tree lightest depth stage_of.joined (at i) stage_of.is row.id here)
        (tells_in rows net say placed edge row.id port.nbr way)
        (tells_out rows net say placed place number row port stands at_number)
        (comes_behind port has apart) in
        subst (λ (told : Edge). IsAtMost (edge_key (chosen_at say i row.id) 0)
        (edge_key told outside)) (sym (told_is row port in' has))
        (subst (λ (chosen : Edge). IsAtMost (edge_key chosen 0) (edge_key edge outside))
        (sym (chooses i row.id here within)) least)

  -- ---- the pointers

  keeps_chosen : (row : NodeRow) → Contains rows row → (port : Port)
      → pointed_port row ≡ Some port
      → (i : ℕ) × (i < length (say row.id).levels)
      × (fragment_at say i row.id ≢ fragment_at say i port.nbr)
      × ((chosen_at say i row.id ≡ told_edge say row port)
      ⊎ (chosen_at say i port.nbr ≡ told_edge say row port))
  keeps_chosen row in' port pointed =
      let has : Contains row.ports port = pointed_has row port pointed in
      by has (somewhere rows net is_tree lightest depth [] levels none_joined are
      (edge_at row port) (pointed_in rows row port in' pointed) (λ none. omega (arith, none.1)))
    where
      by : Contains row.ports port
          → IsChosenOn rows net is_tree lightest depth levels (edge_at row port)
          → (i : ℕ) × (i < length (say row.id).levels)
          × (fragment_at say i row.id ≢ fragment_at say i port.nbr)
          × ((chosen_at say i row.id ≡ told_edge say row port)
          ⊎ (chosen_at say i port.nbr ≡ told_edge say row port))
      by has on =
          let i : ℕ = on.place in
          let inside : i < length (say row.id).levels = let within = on.within in
          omega (arith, within, many row in') in
          let here : Known row.id = id_of_row rows row in' in
          let there : Known port.nbr = at_port Known (id_of_row rows) row port in' has in
          let is : IsStage rows net is_tree lightest depth (at i) = stage_of row in' i inside in
          let found : ((at i row.id).fragment ≢ (at i port.nbr).fragment)
          × ((chosen_edge (at i row.id) ≡ edge_at row port)
          ⊎ (chosen_edge (at i port.nbr) ≡ edge_at row port)) =
          chosen_by_end rows net is_tree lightest depth is.joined (at i) is.is (edge_at row port)
          on.node row.id port.nbr on.known here there on.chose (Joins-edge_at row port) in
          let told : edge_at row port ≡ told_edge say row port = sym (told_is row port in' has) in (
            i,
            inside,
            λ same. found.0 (same_fragment row in' i inside port has same),
            elim found.1 [
              | inl own ↦ inl (chooses i row.id here on.within ∙ own ∙ told)
              | inr theirs ↦ inr (chooses i port.nbr there on.within ∙ theirs ∙ told)
            ],
          )

  -- the rules are kept
  pub KeepsRules-levels : (row : NodeRow) → Contains rows row → KeepsRules say row
  KeepsRules-levels row in' = record {
    placed = placed row in';
    alike = λ port has. (
      one_root row port in' has,
      at_port (λ id. length (say id).levels ≡ length levels) many row port in' has
          ∙ sym (many row in'),
    );
    named = λ i inside. keeps_named row in' i inside;
    agrees = λ i port inside. keeps_agrees row in' i inside port;
    least = λ i number port inside. keeps_least row in' i inside number port;
    chosen = keeps_chosen row in';
  }
