-- Where the pointers are a spanning tree of least weight, the edges that Borůvka's levels choose
-- are its edges, and each of its edges is chosen on some level.
use Rattle.std.proofs.Common.{◌≡◌, ◌≢◌, ◌∙◌, ℕ, zero, suc, ◌<◌, ◌==◌, ◌⊎◌, inl, inr, Bool, List, [], ◌∷◌, ◌++◌, length, get_or, sym, ap, subst, arith, Contains}
use Rattle.std.proofs.lemmas.Bool.{cases_eq, ne_eqb}
use Rattle.std.proofs.lemmas.List.Elements.{Contains-append_cases}
use Rattle.pls_configuration.specs.declared.row.NodeRow.{NodeRow}
use Rattle.pls_configuration.specs.Configuration.{IsNetwork, ids_of}
use Rattle.pls_configuration.specs.Walk.{Edge, Joins, edges_of}
use Rattle.pls_graph.proofs.Members.{Contains-from_map}
use Rattle.pls_facts.specs.SpanningTree.{IsTree, pointed_edges}
use Rattle.pls_facts.specs.Lightest.{IsFirstLeaving, IsLightest, Leaves}
use Rattle.pls_facts.specs.EdgeOrder.{ComesBefore}
use Rattle.pls_facts.proofs.Chosen.{Contains-first_leaving, Contains-joining}
use Rattle.pls_facts.proofs.Decided.{cases_Edge}
use Rattle.pls_facts.proofs.Distinct.{decide_Contains}
use Rattle.pls_facts.proofs.EdgeKeys.{ComesBefore-order, before_outside}
use Rattle.pls_facts.proofs.PortEdges.{IsGraph-network}
use Rattle.pls_boruvka.specs.Boruvka.{AreBoruvkaLevelsFrom, IsLevelOf, chosen_edge, chosen_edges}
use Rattle.pls_boruvka.specs.declared.level.Level.{Level}
use Rattle.pls_mst.specs.laws.Fragments.{no_level}

-- a level that says nothing
abbrev pub blank : ℕ → Level
blank id = no_level

-- the edge that a node's fragment chose on a level
abbrev chosen : (ℕ → Level) → ℕ → Edge
chosen level u = chosen_edge (level u)

-- the nodes of the fragment of w
abbrev fragment_of : (ℕ → Level) → ℕ → ℕ → Bool
fragment_of level w v = (level v).fragment == (level w).fragment

module _ (rows : List NodeRow) (net : IsNetwork rows) (is_tree : IsTree rows)
    (lightest : IsLightest (edges_of rows) (pointed_edges rows) (ids_of rows)) (depth : ℕ → ℕ)
  where
    abbrev tree : List Edge
    tree = pointed_edges rows

    abbrev Known : ℕ → Type 0
    Known id = Contains (ids_of rows) id

    -- a level of some joined edges
    abbrev IsLevel : List Edge → (ℕ → Level) → Type 0
    IsLevel joined level =
        IsLevelOf (edges_of rows) joined (ComesBefore tree) (ids_of rows) depth level

    -- levels from some joined edges on
    abbrev AreBoruvkaLevels : List Edge → List (ℕ → Level) → Type 0
    AreBoruvkaLevels joined levels =
        AreBoruvkaLevelsFrom (edges_of rows) (ComesBefore tree) (ids_of rows) depth joined levels

    module _ (joined : List Edge) (level : ℕ → Level) (is : IsLevel joined level) where
      -- its chosen edges are edges of the tree
      pub chosen_in : (u : ℕ) → Known u → Contains tree (chosen_edge (level u))
      chosen_in u in' = Contains-first_leaving (edges_of rows) tree (ids_of rows) is_tree.spanning
          (IsGraph-network rows net) (ComesBefore tree)
          (ComesBefore-order tree (edges_of rows)) (before_outside tree) lightest (fragment_of level u)
          (chosen level u) (is.among u in') (is.first u in')

      -- nodes of one fragment have one chosen edge
      pub one_chosen : (u v : ℕ) → Known u → Known v → (level u).fragment ≡ (level v).fragment
          → chosen_edge (level u) ≡ chosen_edge (level v)
      one_chosen u v u_in v_in same = elim (cases_Edge (chosen level u) (chosen level v)) [
        | inl equal ↦ equal
        | inr apart ↦
            let order = ComesBefore-order tree (edges_of rows) in
            let here : IsFirstLeaving (edges_of rows) (ComesBefore tree) (fragment_of level u)
            (chosen level u) = is.first u u_in in
            let there : IsFirstLeaving (edges_of rows) (ComesBefore tree) (fragment_of level u)
            (chosen level v) =
            subst (λ (name : ℕ). IsFirstLeaving (edges_of rows) (ComesBefore tree)
            (λ w. (level w).fragment == name) (chosen level v)) (sym same) (is.first v v_in) in
            let on : ComesBefore tree (chosen level u) (chosen level v) =
            here.first (chosen level v) (is.among v v_in) there.leaves (λ e. apart (sym e)) in
            let back : ComesBefore tree (chosen level v) (chosen level u) =
            there.first (chosen level u) (is.among u u_in) here.leaves apart in
            let mine = is.among u u_in in
            absurd (order.irreflexive (chosen level u) mine
            (order.transitive (chosen level u) (chosen level v) (chosen level u) mine
            (is.among v v_in) mine on back))
      ]

      -- an edge that a fragment chose leads to another, and the fragment of one of its ends chose
      -- it
      pub chosen_by_end : (edge : Edge) (w u v : ℕ) → Known w → Known u → Known v
          → chosen_edge (level w) ≡ edge → Joins edge u v
          → ((level u).fragment ≢ (level v).fragment)
          × ((chosen_edge (level u) ≡ edge) ⊎ (chosen_edge (level v) ≡ edge))
      chosen_by_end edge w u v w_in u_in v_in chose joins =
          by (cases_eq (level u).fragment (level w).fragment)
          (cases_eq (level v).fragment (level w).fragment)
        where
          leaves : Leaves edge (fragment_of level w)
          leaves = subst (λ (edge : Edge). Leaves edge (fragment_of level w)) chose
              (is.first w w_in).leaves

          on_two_sides : (u v : ℕ) → Joins edge u v
              → fragment_of level w u ≡ fragment_of level w v → ⊥
          on_two_sides u v (inl ends) same = leaves (ap (fragment_of level w) ends.0 ∙ same
              ∙ ap (fragment_of level w) (sym ends.1))
          on_two_sides u v (inr ends) same = leaves (ap (fragment_of level w) ends.0 ∙ sym same
              ∙ ap (fragment_of level w) (sym ends.1))

          by : ((level u).fragment ≡ (level w).fragment)
              ⊎ ((level u).fragment ≢ (level w).fragment)
              → ((level v).fragment ≡ (level w).fragment)
              ⊎ ((level v).fragment ≢ (level w).fragment)
              → ((level u).fragment ≢ (level v).fragment)
              × ((chosen_edge (level u) ≡ edge) ⊎ (chosen_edge (level v) ≡ edge))
          by (inl here) (inl there) = absurd (on_two_sides u v joins
              (ap (λ (name : ℕ). name == (level w).fragment) (here ∙ sym there)))
          by (inr here) (inr there) = absurd (on_two_sides u v joins
              (ne_eqb (level u).fragment (level w).fragment here
              ∙ sym (ne_eqb (level v).fragment (level w).fragment there)))
          by (inl here) (inr there) =
              (λ e. there (sym e ∙ here), inl (one_chosen u w u_in w_in here ∙ chose))
          by (inr here) (inl there) =
              (λ e. here (e ∙ there), inr (one_chosen v w v_in w_in there ∙ chose))

    -- joined edges that are all of the tree
    abbrev AreOfTree : List Edge → Type 0
    AreOfTree joined = (edge : Edge) → Contains joined edge → Contains tree edge

    -- so are they with those that a level chose
    next_of_tree : (joined : List Edge) (level : ℕ → Level) → IsLevel joined level
        → AreOfTree joined → AreOfTree (joined ++ chosen_edges level (ids_of rows))
    next_of_tree joined level is below edge in' =
        elim (Contains-append_cases joined (chosen_edges level (ids_of rows)) edge in') [
          | inl before ↦ below edge before
          | inr now ↦
              let (u, u_in, chose) : (u : ℕ) × Known u × (chosen level u ≡ edge) =
              Contains-from_map (chosen level) (ids_of rows) edge now in
              subst (Contains tree) chose (chosen_in joined level is u u_in)
        ]

    -- a level, with the edges of the tree that its fragments are joined by
    pub record IsStage (level : ℕ → Level) : Type 0 where
      pub joined : List Edge
      pub below : AreOfTree joined
      pub is : IsLevel joined level

    pub stage : (joined : List Edge) (levels : List (ℕ → Level)) → AreOfTree joined
        → AreBoruvkaLevels joined levels → (i : ℕ) → i < length levels → IsStage (get_or levels i blank)
    stage joined [] below are i within = absurd (omega (arith, within))
    stage joined (level ∷ levels) below are zero within =
        record { joined = joined; below = below; is = are.0 }
    stage joined (level ∷ levels) below are (suc i) within =
        stage (joined ++ chosen_edges level (ids_of rows)) levels
        (next_of_tree joined level are.0 below) are.1 i (omega (arith, within))

    -- on one of these levels the fragment of a node chose the edge
    pub record IsChosenOn (levels : List (ℕ → Level)) (edge : Edge) : Type 0 where
      pub place : ℕ
      pub node : ℕ
      pub within : place < length levels
      pub known : Known node
      pub chose : chosen_edge (get_or levels place blank node) ≡ edge

    -- so it is with each tree edge that is not joined at first
    pub somewhere : (joined : List Edge) (levels : List (ℕ → Level)) → AreOfTree joined
        → AreBoruvkaLevels joined levels → (edge : Edge) → Contains tree edge
        → (Contains joined edge → ⊥) → IsChosenOn levels edge
    somewhere joined [] below are edge in' out =
        absurd (out (Contains-joining (edges_of rows) tree (ids_of rows) is_tree.spanning
        (IsGraph-network rows net) joined below are edge in'))
    somewhere joined (level ∷ levels) below are edge in' out =
        by (decide_Contains cases_Edge (chosen_edges level (ids_of rows)) edge)
        (somewhere (joined ++ chosen_edges level (ids_of rows)) levels
        (next_of_tree joined level are.0 below) are.1 edge in')
      where
        by : Contains (chosen_edges level (ids_of rows)) edge
            ⊎ (Contains (chosen_edges level (ids_of rows)) edge → ⊥)
            → ((Contains (joined ++ chosen_edges level (ids_of rows)) edge → ⊥)
            → IsChosenOn levels edge) → IsChosenOn (level ∷ levels) edge
        by (inl now) later =
            let (w, w_in, chose) : (w : ℕ) × Known w × (chosen level w ≡ edge) =
            Contains-from_map (chosen level) (ids_of rows) edge now in
            record { place = 0; node = w; within = omega arith; known = w_in; chose = chose }
        by (inr not_now) later =
            let on : IsChosenOn levels edge = later (λ there.
            elim (Contains-append_cases joined (chosen_edges level (ids_of rows)) edge there) [
              | inl before ↦ out before
              | inr now ↦ not_now now
            ]) in
            record {
              place = suc on.place;
              node = on.node;
              within = let within = on.within in omega (arith, within);
              known = on.known;
              chose = on.chose;
            }
