-- The levels of Borůvka's method: on each, the fragments that earlier chosen edges join, and the
-- edge that each of them chooses (Borůvka 1926, as told by Nešetřil, Milková and Nešetřilová 2001).
use Rattle.std.specs.Prelude.{◌≡◌, ℕ, ◌==◌, List, [], ◌∷◌, ◌++◌, map, Contains}
use Rattle.pls_configuration.specs.declared.row.NodeRow.{NodeRow}
use Rattle.pls_configuration.specs.Configuration.{ids_of}
use Rattle.pls_configuration.specs.Walk.{Edge, JoinAll, edges_of}
use Rattle.pls_facts.specs.EdgeOrder.{ComesBefore}
use Rattle.pls_facts.specs.Lightest.{IsFirstLeaving}
use Rattle.pls_facts.specs.Pointer.{IsChainOf}
use Rattle.pls_facts.specs.SpanningTree.{pointed_edges}
use Rattle.pls_boruvka.specs.declared.level.Level.{Level}
use Rattle.pls_boruvka.specs.Fragments.{AreFragments}

-- the edge that a level names
abbrev pub chosen_edge : Level → Edge
chosen_edge level = record { a = level.a; b = level.b; weight = level.weight }

-- the edges that the nodes' fragments choose on a level
abbrev pub chosen_edges : (ℕ → Level) → List ℕ → List Edge
chosen_edges level nodes = map (λ u. chosen_edge (level u)) nodes

-- a level, as each node has it: the fragments of these edges, and of each fragment the first edge
-- that leaves it
pub record IsLevelOf (edges joined : List Edge) (Before : Edge → Edge → Type 0) (nodes : List ℕ)
    (depth : ℕ → ℕ) (level : ℕ → Level) : Type 0 where
  pub fragments : AreFragments joined nodes depth (λ u. (level u).fragment)
  pub among : (u : ℕ) → Contains nodes u → Contains edges (chosen_edge (level u))
  pub first : (u : ℕ) → Contains nodes u
      → IsFirstLeaving edges Before (λ v. (level v).fragment == (level u).fragment)
      (chosen_edge (level u))

-- levels from these edges on: after each, its chosen edges join too; after the last, all nodes are
-- joined
abbrev pub AreBoruvkaLevelsFrom : List Edge → (Edge → Edge → Type 0) → List ℕ → (ℕ → ℕ)
    → List Edge → List (ℕ → Level) → Type 0
AreBoruvkaLevelsFrom edges Before nodes depth joined [] = JoinAll joined nodes
AreBoruvkaLevelsFrom edges Before nodes depth joined (level ∷ levels) =
    IsLevelOf edges joined Before nodes depth level
    × AreBoruvkaLevelsFrom edges Before nodes depth (joined ++ chosen_edges level nodes) levels

-- the levels of a configuration whose pointers are a spanning tree: edges are ordered by weight, at
-- one weight those of the tree first, then by their ends; at first no edge joins
abbrev pub AreBoruvkaLevels : List NodeRow → (ℕ → ℕ) → List (ℕ → Level) → Type 0
AreBoruvkaLevels rows depth levels =
    AreBoruvkaLevelsFrom (edges_of rows) (ComesBefore (pointed_edges rows)) (ids_of rows) depth []
    levels

-- the depth of each node is the number of pointers of its chain
abbrev pub AreChainLengths : List NodeRow → (ℕ → ℕ) → Type 0
AreChainLengths rows depth = (row : NodeRow) → Contains rows row
    → (last : ℕ) × IsChainOf rows row.id last (depth row.id)

-- for each node in the order of the rows, what the levels say of it
pub record AreLevelLists (rows : List NodeRow) (lists : List (List Level)) : Type 0 where
  pub depth : ℕ → ℕ
  pub levels : List (ℕ → Level)
  pub deep : AreChainLengths rows depth
  pub are : AreBoruvkaLevels rows depth levels
  pub said : lists ≡ map (λ row. map (λ level. level row.id) levels) rows
