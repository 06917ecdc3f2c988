-- The ends of chains of joined pointers are the names of the fragments that their edges join.
use Rattle.std.proofs.Common.{◌≡◌, ◌∙◌, ℕ, ◌+◌, ◌<◌, ◌⊎◌, inl, inr, Bool, true, false, List, [], ◌∷◌, length, get_or, Contains, Some, None, refl, sym, ap, subst, arith, option_map, option_and_then, slice_get}
use Rattle.std.proofs.lemmas.Bool.{cond-false, cond-true}
use Rattle.std.proofs.lemmas.Option.{same_Some}
use Rattle.pls_configuration.specs.declared.row.NodeRow.{NodeRow}
use Rattle.pls_configuration.specs.Configuration.{IsNetwork, ids_of}
use Rattle.pls_configuration.specs.Walk.{Edge, Adjacent, AreJoined, JoinAll, Joins}
use Rattle.pls_graph.specs.Places.{place_in}
use Rattle.pls_graph.proofs.Joined.{AreJoined-adjacent, AreJoined-through, AreJoined-turned, along}
use Rattle.pls_graph.proofs.Members.{Contains-from_place}
use Rattle.pls_configuration.specs.WalkBy.{WalkBy}
use Rattle.pls_facts.specs.Pointer.{Falls, pointed_node, pointed_port}
use Rattle.pls_facts.specs.SpanningTree.{edge_at, pointed_edge, pointed_edges}
use Rattle.pls_facts.proofs.Filtered.{Contains-from_filter_map}
use Rattle.pls_facts.proofs.Pointed.{IsPointer, IsPointer-pointed_node, points_from, points_to}
use Rattle.pls_facts.proofs.PointedEdges.{Joins-edge_at, PointsAlong, PointsAlong-row, ends_of_pair}
use Rattle.pls_boruvka.specs.Fragments.{AreFragments, JoinedChainEnds, next_joined}

-- the entry of a node is true just where its pointer lies on a joined edge; these are pointed edges
pub record AreFlags (rows : List NodeRow) (flags : List Bool) (joined : List Edge) : Type 0 where
  pub below : (edge : Edge) → Contains joined edge → Contains (pointed_edges rows) edge
  pub to : (row : NodeRow) (edge : Edge) → Contains rows row → pointed_edge row ≡ Some edge
      → get_or flags (place_in rows row.id) false ≡ true → Contains joined edge
  pub from : (row : NodeRow) (edge : Edge) → Contains rows row → pointed_edge row ≡ Some edge
      → Contains joined edge → get_or flags (place_in rows row.id) false ≡ true

module _ (rows : List NodeRow) (net : IsNetwork rows) (depth : ℕ → ℕ) (falls : Falls rows depth)
  where
    -- a row that points along an edge is the only one
    pub one_child : (row other : NodeRow) (edge : Edge) → Contains rows row → Contains rows other
        → pointed_edge row ≡ Some edge → pointed_edge other ≡ Some edge → row.id ≡ other.id
    one_child row other edge row_in other_in points also =
        let one : PointsAlong rows row edge = PointsAlong-row rows net row edge row_in points in
        let two : PointsAlong rows other edge = PointsAlong-row rows net other edge other_in also in
        let down = falls row.id one.port.nbr one.points in
        let lower = falls other.id two.port.nbr two.points in
        elim (ends_of_pair other.id two.port.nbr row.id one.port.nbr
        (subst (λ (edge : Edge). Joins edge row.id one.port.nbr) (one.is ∙ sym two.is)
        (Joins-edge_at row one.port))) [
          | inl same ↦ sym same.0
          | inr turned ↦
              let first = ap depth turned.0 in
              let second = ap depth turned.1 in absurd (omega (arith, down, lower, first, second))
        ]

module _ (rows : List NodeRow) (net : IsNetwork rows) (depth : ℕ → ℕ) (falls : Falls rows depth)
    (flags : List Bool) where
  abbrev Known : ℕ → Type 0
  Known id = Contains (ids_of rows) id

  abbrev Follows : ℕ → ℕ → Type 0
  Follows one other = next_joined rows flags one ≡ Some other

  flag_of : (u v : ℕ) → next_joined rows flags u ≡ Some v
      → (get_or flags (place_in rows u) false ≡ true) × (pointed_node rows u ≡ Some v)
  flag_of u v points = by (get_or flags (place_in rows u) false) refl
    where
      by : (flag : Bool) → get_or flags (place_in rows u) false ≡ flag
          → (get_or flags (place_in rows u) false ≡ true) × (pointed_node rows u ≡ Some v)
      by true e = (
        e,
        sym (cond-true (get_or flags (place_in rows u) false) (pointed_node rows u) None e) ∙ points,
      )
      by false e =
          let no : None ≡ Some v =
          sym (cond-false (get_or flags (place_in rows u) false) (pointed_node rows u) None e) ∙ points in
          absurd (cc)

  -- a chain that is followed one pointer on
  JoinedChainEnds-before : (u v last : ℕ) → next_joined rows flags u ≡ Some v
      → JoinedChainEnds rows flags v last → JoinedChainEnds rows flags u last
  JoinedChainEnds-before u v last points rest = record {
    nodes = v ∷ rest.nodes;
    chain = (points, rest.chain);
    ends = rest.ends;
  }

  -- a chain has one end
  one_end : (u last other : ℕ) → JoinedChainEnds rows flags u last
      → JoinedChainEnds rows flags u other → last ≡ other
  one_end u last other one two = by u one.nodes two.nodes one.chain two.chain
    where
      by : (u : ℕ) (nodes others : List ℕ) → WalkBy Follows u nodes last
          → WalkBy Follows u others other → last ≡ other
      by u [] [] same also = sym same ∙ also
      by u [] (y ∷ others) same on =
          let no : None ≡ Some y = sym one.ends ∙ ap (next_joined rows flags) (sym same) ∙ on.0 in
          absurd (cc)
      by u (x ∷ nodes) [] on same =
          let no : None ≡ Some x = sym two.ends ∙ ap (next_joined rows flags) (sym same) ∙ on.0 in
          absurd (cc)
      by u (x ∷ nodes) (y ∷ others) on also = by y nodes others
          (subst (λ (x : ℕ). WalkBy Follows x nodes last)
          (same_Some x y (sym on.0 ∙ also.0)) on.1) also.1

  -- a chain falls as it goes
  chain_falls : (u last : ℕ) (nodes : List ℕ) → WalkBy Follows u nodes last
      → depth u ≡ depth last + length nodes
  chain_falls u last [] same = let e = ap depth same in omega arith
  chain_falls u last (x ∷ nodes) chain =
      let rest = chain_falls x last nodes chain.1 in
      let down = falls u x (flag_of u x chain.0).1 in omega arith

  module _ (joined : List Edge) (are : AreFlags rows flags joined) where
    -- a joined pointer leads along a joined edge
    Adjacent-joined : (u v : ℕ) → next_joined rows flags u ≡ Some v → Adjacent joined u v
    Adjacent-joined u v points =
        let (flag, onward) : (get_or flags (place_in rows u) false ≡ true)
        × (pointed_node rows u ≡ Some v) = flag_of u v points in
        let step : IsPointer rows u v = IsPointer-pointed_node rows net u v onward in
        let pointed : pointed_port step.row ≡ Some step.port =
        ap (option_and_then (slice_get step.row.ports)) step.up
        ∙ step.has in
        let edge : Edge = edge_at step.row step.port in (
          edge,
          are.to step.row edge (Contains-from_place rows step.place step.row step.at)
              (ap (option_map (edge_at step.row)) pointed)
              (subst (λ (id : ℕ). get_or flags (place_in rows id) false ≡ true) step.owner flag),
          subst (λ (w : ℕ). Joins edge w v) (sym step.owner)
              (subst (Joins edge step.row.id) step.named (Joins-edge_at step.row step.port)),
        )

    -- of two nodes that a joined edge joins one leads to the other
    either_way : (u v : ℕ) → Adjacent joined u v
        → (next_joined rows flags u ≡ Some v) ⊎ (next_joined rows flags v ≡ Some u)
    either_way u v (edge, in', joins) =
        let (row, row_in, gives) : (row : NodeRow) × Contains rows row
        × (pointed_edge row ≡ Some edge) =
        Contains-from_filter_map pointed_edge rows edge (are.below edge in') in
        let way : PointsAlong rows row edge = PointsAlong-row rows net row edge row_in gives in
        let on : next_joined rows flags row.id ≡ Some way.port.nbr =
        cond-true (get_or flags (place_in rows row.id) false) (pointed_node rows row.id) None
        (are.from row edge row_in gives in') ∙ way.points in
        elim (ends_of_pair row.id way.port.nbr u v
        (subst (λ (edge : Edge). Joins edge u v) (sym way.is) joins)) [
          | inl ends ↦ inl (rw (sym ends.0, sym ends.1) on)
          | inr ends ↦ inr (rw (sym ends.0, sym ends.1) on)
        ]

    module _ (name : ℕ → ℕ)
        (named : (u : ℕ) → Known u → JoinedChainEnds rows flags u (name u)) where
      -- joined neighbours are nodes of one name
      beside : (w x : ℕ) → Adjacent joined w x → Known x × (name w ≡ name x)
      beside w x adjacent = elim (either_way w x adjacent) [
        | inl on ↦
            let there : Known x = points_to rows net w x (flag_of w x on).1 in
            let here : Known w = points_from rows net w x (flag_of w x on).1 in (
              there,
              one_end w (name w) (name x) (named w here)
                  (JoinedChainEnds-before w x (name x) on (named x there)),
            )
        | inr back ↦
            let there : Known x = points_from rows net x w (flag_of x w back).1 in
            let here : Known w = points_to rows net x w (flag_of x w back).1 in (
              there,
              one_end x (name w) (name x)
                  (JoinedChainEnds-before x w (name w) back (named w here)) (named x there),
            )
      ]

      reaches : (u last : ℕ) (nodes : List ℕ) → WalkBy Follows u nodes last
          → AreJoined joined u last
      reaches u last [] same = ([], same)
      reaches u last (x ∷ nodes) chain = AreJoined-through joined u x last
          (AreJoined-adjacent joined u x (Adjacent-joined u x chain.0))
          (reaches x last nodes chain.1)

      lower : (u last : ℕ) (nodes : List ℕ) → WalkBy Follows u nodes last
          → (last ≡ u) ⊎ (depth last < depth u)
      lower u last [] same = inl (sym same)
      lower u last (x ∷ nodes) chain =
          let down = chain_falls u last (x ∷ nodes) chain in inr (omega (arith, down))

      -- the ends of the chains name the fragments
      pub AreFragments-ends : AreFragments joined (ids_of rows) depth name
      AreFragments-ends = record {
        one = λ u v u_in v_in joins. along joined (λ (w : ℕ). name u ≡ name w)
            (λ w x same adjacent. same ∙ (beside w x adjacent).1) u v joins refl;
        known = λ u in'. along joined Known (λ w x here adjacent. (beside w x adjacent).0) u (name
            u)
            (reaches u (name u) (named u in').nodes (named u in').chain) in';
        holds = λ u in'. reaches u (name u) (named u in').nodes (named u in').chain;
        least = λ u in'. lower u (name u) (named u in').nodes (named u in').chain;
      }

-- where all nodes are of one fragment, its edges join all
pub JoinAll-one : (joined : List Edge) (nodes : List ℕ) (depth fragment : ℕ → ℕ)
    → AreFragments joined nodes depth fragment
    → ((u v : ℕ) → Contains nodes u → Contains nodes v → fragment u ≡ fragment v)
    → JoinAll joined nodes
JoinAll-one joined nodes depth fragment are one u v u_in v_in =
    AreJoined-through joined u (fragment u) v (are.holds u u_in)
    (subst (λ (w : ℕ). AreJoined joined w v) (one v u v_in u_in)
    (AreJoined-turned joined v (fragment v) (are.holds v v_in)))
