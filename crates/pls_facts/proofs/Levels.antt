-- Levels from any node: they are the depths of a search, below the number of nodes, and a node has
-- one.
use Rattle.std.proofs.Common.{◌≡◌, ◌∙◌, ℕ, zero, suc, ◌+◌, ◌<◌, ◌≤◌, inl, inr, true, nat_eq, List, [], ◌∷◌, ◌++◌, map, length, refl, sym, subst, arith, get_or, Contains, Option, Some, None, slice_get}
use Rattle.std.specs.List.{list_any}
use Rattle.std.proofs.lemmas.Bool.{cases_eq}
use Rattle.std.proofs.lemmas.Cmp.{nat_eq_equiv}
use Rattle.std.proofs.lemmas.List.{length-append, length-map}
use Rattle.std.proofs.lemmas.Map.Steps.{le-length_from_below}
use Rattle.std.proofs.lemmas.Map.Views.{list_any-from_Contains}
use Rattle.std.proofs.lemmas.Option.{slice_get-get_or, slice_get_within}
use Rattle.pls_configuration.specs.declared.row.NodeRow.{NodeRow}
use Rattle.pls_configuration.specs.Walk.{Edge, Adjacent, AreJoined, IsConnected, Walk, edges_of}
use Rattle.pls_graph.specs.Levels.{AreLevels, IsLevel}
use Rattle.pls_configuration.proofs.Walks.{WalkBy-append}
use Rattle.pls_graph.proofs.Joined.{Adjacent-turned}
use Rattle.pls_graph.proofs.Members.{Contains-from_place, Contains-map}
use Rattle.pls_facts.specs.Cycle.{AreSearched}

-- a walk that ends with a step
record EndsWithStep (edges : List Edge) (u v count : ℕ) : Type 0 where
  before : ℕ
  front : List ℕ
  walk : Walk edges u front before
  step : Adjacent edges before v
  many : length front + 1 ≡ count

module _ (edges : List Edge) where
  -- a walk of one edge or more ends with a step
  last_step : (u v first : ℕ) (nodes : List ℕ) → Walk edges u (first ∷ nodes) v
      → EndsWithStep edges u v (length (first ∷ nodes))
  last_step u v first [] walk = record {
    before = u;
    front = [];
    walk = refl;
    step = subst (Adjacent edges u) walk.1 walk.0;
    many = refl;
  }
  last_step u v first (second ∷ nodes) walk =
      let rest : EndsWithStep edges first v (length (second ∷ nodes)) =
      last_step first v second nodes walk.1 in
      record {
        before = rest.before;
        front = first ∷ rest.front;
        walk = (walk.0, rest.walk);
        step = rest.step;
        many = omega (arith, rest.many);
      }

  -- a walk of no edge stays
  stays : (u v : ℕ) (nodes : List ℕ) → Walk edges u nodes v → length nodes ≡ 0 → u ≡ v
  stays u v [] walk none = walk
  stays u v (first ∷ nodes) walk none = absurd (omega (arith, none))

  -- a walk of some edges ends with a step
  steps : (u v : ℕ) (nodes : List ℕ) → Walk edges u nodes v → 1 ≤ length nodes
      → EndsWithStep edges u v (length nodes)
  steps u v [] walk some = absurd (omega (arith, some))
  steps u v (first ∷ nodes) walk some = last_step u v first nodes walk

module _ (edges : List Edge) (nodes : List ℕ) (first : ℕ) (depth : ℕ → ℕ)
    (known : (u v : ℕ) → Adjacent edges u v → Contains nodes v)
    (is_level : (node : ℕ) → Contains nodes node → IsLevel edges first node (depth node)) where
  -- adjacent nodes are at most one level apart
  near : (u v : ℕ) → Adjacent edges u v → depth v ≤ depth u + 1
  near u v adjacent =
      let here : IsLevel edges first u (depth u) =
      is_level u (known v u (Adjacent-turned edges u v adjacent)) in
      let there : IsLevel edges first v (depth v) = is_level v (known u v adjacent) in
      let short =
      there.fewest (here.nodes ++ v ∷ [])
      (WalkBy-append (Adjacent edges) first u v here.nodes (v ∷ []) here.walk (adjacent, refl)) in
      omega (arith, short, here.many, length-append here.nodes (v ∷ []))

  -- each node but the first is adjacent to one of the level before
  above : (node : ℕ) → Contains nodes node → 1 ≤ depth node
      → (up : ℕ) × Adjacent edges node up × (depth node ≡ depth up + 1)
  above node in' some =
      let here : IsLevel edges first node (depth node) = is_level node in' in
      let last : EndsWithStep edges first node (length here.nodes) =
      steps edges first node here.nodes here.walk (omega (arith, here.many)) in
      let back : Adjacent edges node last.before =
      Adjacent-turned edges last.before node last.step in
      let up : IsLevel edges first last.before (depth last.before) =
      is_level last.before (known node last.before back) in
      let short = up.fewest last.front last.walk in
      let next = near last.before node last.step in
      (last.before, back, omega (arith, short, next, last.many, here.many))

  -- levels are depths as a search gives them
  pub levels_searched : AreSearched edges nodes depth
  levels_searched = record {
    first = first;
    alone = λ node in' none.
        let here : IsLevel edges first node (depth node) = is_level node in' in
        sym (stays edges first node here.nodes here.walk (here.many ∙ none));
    near = near;
    above = above;
  }

  -- on each level up to that of a node there is a node
  each_level : (top node : ℕ) → Contains nodes node → depth node ≡ top → (q : ℕ) → q ≤ top
      → (other : ℕ) × Contains nodes other × (depth other ≡ q)
  each_level zero node in' deep q within = (node, in', omega (arith, deep))
  each_level (suc top) node in' deep q within = elim (cases_eq q (suc top)) [
    | inl same ↦ (node, in', deep ∙ sym same)
    | inr lower ↦
        let (up, step, one) : (up : ℕ) × Adjacent edges node up × (depth node ≡ depth up + 1) =
        above node in' (omega (arith, deep)) in
        each_level top up (known node up step) (omega (arith, one, deep)) q (omega (arith, lower))
  ]

  -- a level is below the number of nodes
  pub level_below : (node : ℕ) → Contains nodes node → depth node < length nodes
  level_below node in' =
      let many : depth node + 1 ≤ length (map depth nodes) =
      le-length_from_below (map depth nodes) (depth node + 1) has in
      omega (arith, many, length-map nodes depth)
    where
      has : (q : ℕ) → q < depth node + 1 → list_any (nat_eq q) (map depth nodes) ≡ true
      has q within =
          let (other, in', deep) : (other : ℕ) × Contains nodes other × (depth other ≡ q) =
          each_level (depth node) node in' refl q (omega (arith, within)) in
          list_any-from_Contains nat_eq_equiv q (map depth nodes)
          (subst (Contains (map depth nodes)) deep (Contains-map depth nodes other in'))

-- in a connected network a level is found for each node
pub known_level : (rows : List NodeRow) (root : ℕ) (found : List (Option ℕ))
    → IsConnected rows
    → AreLevels rows root found
    → (first row : NodeRow) (place : ℕ) → slice_get rows root ≡ Some first
    → slice_get rows place ≡ Some row
    → (level : ℕ) × (slice_get found place ≡ Some (Some level))
    × IsLevel (edges_of rows) first.id row.id level
known_level rows root found connected levels first row place at_first at =
    by (get_or found place None) (slice_get-get_or found place None
    (omega (arith, levels.each, slice_get_within rows place row at)))
  where
    joined : AreJoined (edges_of rows) first.id row.id
    joined =
        connected first.id row.id
        (Contains-map (λ (row : NodeRow). row.id) rows first
        (Contains-from_place rows root first at_first))
        (Contains-map (λ (row : NodeRow). row.id) rows row (Contains-from_place rows place row at))

    by : (entry : Option ℕ) → slice_get found place ≡ Some entry
        → (level : ℕ) × (slice_get found place ≡ Some (Some level))
        × IsLevel (edges_of rows) first.id row.id level
    by None has = absurd (levels.level first row place None at_first at has joined)
    by (Some level) has = (level, has, levels.level first row place (Some level) at_first at has)

-- a node has one level
pub one_level : (edges : List Edge) (u v one other : ℕ) → IsLevel edges u v one
    → IsLevel edges u v other → one ≡ other
one_level edges u v one other first second =
    let up = first.fewest second.nodes second.walk in
    let down = second.fewest first.nodes first.walk in
    omega (arith, up, down, first.many, second.many)
