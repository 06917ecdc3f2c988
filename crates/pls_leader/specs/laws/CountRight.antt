-- Where labels of the scheme of the number of nodes are right everywhere, the sizes that they say
-- are summed along the tree, the rules hold, and each number is within the limits of the network.
use Rattle.std.proofs.Common.{◌≡◌, ◌≢◌, ◌∙◌, ℕ, ◌+◌, ◌<◌, ◌≤◌, ◌==◌, ◌&&◌, ◌||◌, inl, inr, nat_lt, not, Bool, true, false, List, [], map, length, Contains, Option, Some, None, slice_get, if◌then◌else◌, refl, sym, ap, subst, arith}
use Rattle.std.specs.List.{list_any}
use Rattle.std.specs.Option.{option_map_or}
use Rattle.std.proofs.lemmas.Bool.{and_from, cases_eq, eq-eqb, ne_eqb}
use Rattle.std.proofs.lemmas.List.{length-map}
use Rattle.std.proofs.lemmas.Option.{same_Some}
use Rattle.pls_configuration.specs.declared.row.Port.{Port}
use Rattle.pls_configuration.specs.declared.row.NodeRow.{NodeRow}
use Rattle.pls_configuration.specs.Configuration.{IsNetwork, ids_of}
use Rattle.pls_configuration.specs.Walk.{edges_of}
use Rattle.pls_graph.specs.Levels.{IsLevel}
use Rattle.pls_graph.specs.Size.{greatest}
use Rattle.pls_graph.proofs.Members.{Contains-from_map, Contains-from_place}
use Rattle.pls_scheme.specs.Judging.{AllHold}
use Rattle.pls_scheme.specs.Reading.{read_where, port_where}
use Rattle.pls_scheme.specs.Theorem.{AreRightEverywhere}
use Rattle.pls_scheme.proofs.SaidPorts.{all_ports_pass, some_port_passes}
use Rattle.pls_facts.specs.NodeCount.{AreCounted}
use Rattle.pls_facts.specs.Parents.{AreSoMany, ChainMeets}
use Rattle.pls_facts.specs.TreeSums.{AreSummed, HaveParents}
use Rattle.pls_facts.proofs.Levels.{one_level}
use Rattle.pls_graph.proofs.Finds.{item_at}
use Rattle.pls_facts.proofs.Neighbours.{adjacent_known, id_within, neighbour_row, port_leads}
use Rattle.pls_facts.proofs.OnlyNode.{ids_distinct}
use Rattle.pls_facts.proofs.ParentLines.{AreParents, AreSoMany-one, is_child, line_ends, line_from, met_by, met_by-few, met_by-many, so_many-children}
use Rattle.pls_facts.proofs.Pointed.{id_of_row}
use Rattle.pls_facts.proofs.RootLevels.{alone_at_0, below_nodes, level_of, root_at_0}
use Rattle.pls_facts.proofs.Sums.{sum-map, sum-same, when}
use Rattle.pls_facts.proofs.TreeSums.{adds, children_add, sums_count}
use Rattle.pls_leader.specs.declared.count.CountLabel.{CountLabel}
use Rattle.pls_leader.specs.Count.{IsCounted, IsOneNearer, IsParent, names_root_and_total, children_sizes, count_rules, count_says, is_parent_above}
use Rattle.pls_leader.specs.laws.CountShow.{children_said}
use Rattle.pls_leader.specs.laws.RootedLaws.{at_0_alone}

-- a test of which the second half is asked only where the first fails
or_else : (a b : Bool) → (a ≡ false → b ≡ true) → (a || b) ≡ true
or_else true b other = refl
or_else false b other = other refl

module _ (rows : List NodeRow) (net : IsNetwork rows) (say : ℕ → CountLabel)
    (right : AreRightEverywhere (count_says rows) rows say) where
  first : (first : NodeRow) × (slice_get rows 0 ≡ Some first)
  first = item_at rows 0 (let some = net.limits.some in omega (arith, some))

  abbrev root : ℕ
  root = first.0.id

  first_in : Contains rows first.0
  first_in = Contains-from_place rows 0 first.0 first.1

  abbrev depth : ℕ → ℕ
  depth id = (say id).depth

  -- what is said of each node is right
  is : (row : NodeRow) → Contains rows row → IsCounted rows root row (say row.id)
  is row in' = right row in' first.0 first.1

  level_at : (row : NodeRow) → Contains rows row
      → IsLevel (edges_of rows) root row.id (depth row.id)
  level_at row in' = (is row in').depth

  -- the root has none nearer
  not_root : (parent : ℕ) → IsOneNearer rows root root parent → ⊥
  not_root parent nearer =
      let few : nearer.0 + 1 ≤ length {A = ℕ} [] = nearer.1.fewest [] refl in
      omega (arith, few)

  apart_from_root : (u parent : ℕ) → IsParent rows root u parent → u ≢ root
  apart_from_root u parent is same =
      not_root parent (subst (λ (u : ℕ). IsOneNearer rows root u parent) same is.nearer)

  -- the parent that is said of a node that is not the root
  parent_of : (u : ℕ) → Contains (ids_of rows) u → u ≢ root
      → IsParent rows root u (say u).parent
  parent_of u in' apart =
      let (row, row_in, named) : (row : NodeRow) × Contains rows row × (row.id ≡ u) =
      Contains-from_map (λ (row : NodeRow). row.id) rows u in' in
      subst (λ (u : ℕ). IsParent rows root u (say u).parent) named
      ((is row row_in).parent (λ same. apart (sym named ∙ same)))

  -- it is one less deep
  parent_less : (u parent : ℕ) → Contains (ids_of rows) u → IsParent rows root u parent
      → Contains (ids_of rows) parent × (depth u ≡ depth parent + 1)
  parent_less u parent in' is =
      let there : Contains (ids_of rows) parent = adjacent_known rows net u parent is.beside in
      let here = one_level (edges_of rows) root u (depth u) (is.nearer.0 + 1)
      (level_of rows net root depth level_at u in') is.nearer.1 in
      let below = one_level (edges_of rows) root parent (depth parent) is.nearer.0
      (level_of rows net root depth level_at parent there) is.nearer.2 in
      (there, omega (arith, here, below))

  -- the parents that are said, as a function
  abbrev up : ℕ → Option ℕ
  up u = if u == root then None else Some (say u).parent

  up-root : (u : ℕ) → u ≡ root → up u ≡ None
  up-root u same = rw (eq-eqb u root same) refl

  up-other : (u : ℕ) → u ≢ root → up u ≡ Some (say u).parent
  up-other u apart = rw (ne_eqb u root apart) refl

  up-Some : (u x : ℕ) → up u ≡ Some x → (u ≢ root) × (x ≡ (say u).parent)
  up-Some u x points = elim (cases_eq u root) [
    | inl same ↦ let no : None ≡ Some x = sym (up-root u same) ∙ points in absurd (cc)
    | inr apart ↦ (apart, same_Some x (say u).parent (sym points ∙ up-other u apart))
  ]

  up_falls : (u x : ℕ) → Contains (ids_of rows) u → up u ≡ Some x
      → Contains (ids_of rows) x × (depth x < depth u)
  up_falls u x in' points =
      let (apart, named) : (u ≢ root) × (x ≡ (say u).parent) = up-Some u x points in
      let less = parent_less u (say u).parent in' (parent_of u in' apart) in (
        subst (Contains (ids_of rows)) (sym named) less.0,
        let same = ap depth named in omega (arith, less.1, same),
      )

  abbrev line : ℕ → List ℕ
  line u = line_from up (length rows) (up u)

  are_parents : AreParents (IsParent rows root) (ids_of rows) up line
  are_parents = record {
    apart = ids_distinct rows net;
    named = λ u x in' is.
        let apart = apart_from_root u x is in
        let said = parent_of u in' apart in
        let less = said.smallest x is.beside is.nearer in
        let more = is.smallest (say u).parent said.beside said.nearer in
        let same : (say u).parent ≡ x = omega (arith, less, more) in
        up-other u apart ∙ ap Some same;
    back = λ u x in' points.
        let (apart, named) : (u ≢ root) × (x ≡ (say u).parent) = up-Some u x points in
        subst (IsParent rows root u) (sym named) (parent_of u in' apart);
    within = λ u x in' points. (up_falls u x in' points).0;
    ends = λ u in'. line_ends up (ids_of rows) depth up_falls (length rows) u (up u) in' refl
        (low u in');
  }
    where
      low : (u : ℕ) → Contains (ids_of rows) u → depth u ≤ length rows
      low u in' =
          let (row, row_in, named) : (row : NodeRow) × Contains rows row × (row.id ≡ u) =
          Contains-from_map (λ (row : NodeRow). row.id) rows u in' in
          let below = below_nodes rows net root depth level_at row row_in in
          let same = ap depth named in
          omega (arith, below, same)

  -- how many chains meet a node, as it is said
  sizes : (u : ℕ) → Contains (ids_of rows) u
      → AreSoMany (λ id. Contains (ids_of rows) id × ChainMeets (IsParent rows root) id u)
      (say u).size
  sizes u in' =
      let (row, row_in, named) : (row : NodeRow) × Contains rows row × (row.id ≡ u) =
      Contains-from_map (λ (row : NodeRow). row.id) rows u in' in
      subst (λ (u : ℕ). AreSoMany
      (λ id. Contains (ids_of rows) id × ChainMeets (IsParent rows root) id u) (say u).size) named
      (is row row_in).size

  -- a size is at most the number of nodes
  size_few : (row : NodeRow) → Contains rows row → (say row.id).size ≤ length rows
  size_few row in' =
      let same = AreSoMany-one
      (λ id. Contains (ids_of rows) id × ChainMeets (IsParent rows root) id row.id)
      (say row.id).size
      (met_by (IsParent rows root) (ids_of rows) up line are_parents row.id) (is row in').size
      (met_by-many (IsParent rows root) (ids_of rows) up line are_parents row.id) in
      let few = met_by-few (IsParent rows root) (ids_of rows) up line are_parents row.id in
      omega (arith, same, few, length-map rows (λ (row : NodeRow). row.id))

  -- the parent of a node but the root is at one of its ports
  beside : (row : NodeRow) → Contains rows row → row.id ≢ root
      → (port : Port) × Contains row.ports port × (port.nbr ≡ (say row.id).parent)
  beside row in' apart =
      port_leads rows net row in' (say row.id).parent
      (parent_of row.id (id_of_row rows row in') apart).beside

  parents : HaveParents rows root (λ id. (say id).parent)
  parents = record { at_root = (is first.0 first_in).at_root refl; beside = beside }

  -- the sizes are summed along the tree
  summed : AreSummed rows (λ id. (say id).parent) (λ id. (say id).size)
  summed row in' =
      so_many-children (IsParent rows root) (ids_of rows) up line are_parents
      (λ id. (say id).size) sizes row.id (id_of_row rows row in')
      ∙ ap (λ (n : ℕ). 1 + n)
      (sum-map (λ row. row.id) (λ c. when (is_child up row.id c) (say c).size) rows
      ∙ sum-same (λ other. when (is_child up row.id other.id) (say other.id).size)
      (adds rows net first.0 first_in (λ id. (say id).parent) parents (λ id. (say id).size) row)
      rows (λ other other_in. child other)
      ∙ sym (children_add rows net first.0 first_in (λ id. (say id).parent) parents
      (λ id. (say id).size) row in'))
    where
      child : (other : NodeRow)
          → when (is_child up row.id other.id) (say other.id).size
          ≡ when (not (other.id == root)) (when (row.id == (say other.id).parent)
          (say other.id).size)
      child other = by (other.id == root)
        where
          by : (b : Bool)
              → when (option_map_or (λ parent. row.id == parent)
              (if b then None else Some (say other.id).parent) false) (say other.id).size
              ≡ when (not b) (when (row.id == (say other.id).parent) (say other.id).size)
          by true = refl
          by false = refl

  -- so the root's size is the number of nodes
  root_size : (say root).size ≡ length rows
  root_size = sums_count rows net first.0 first_in (λ id. (say id).parent) parents
      (λ id. (say id).size) summed

  -- where each node's number is the number of nodes, the rules hold
  pub rules_met : AreCounted rows → (row : NodeRow) (in' : Contains rows row)
      → AllHold (count_rules (read_where say row))
  rules_met counted row in' = (
    all_ports_pass (names_root_and_total (say row.id)) say row.ports agree,
    (
      and_from ((say row.id).own == row.id) ((say row.id).total == row.state.num)
          (eq-eqb (say row.id).own row.id (is row in').own)
          (eq-eqb (say row.id).total row.state.num ((is row in').total ∙ sym (counted row in'))),
      (
        at_0_alone row.id (say row.id).root (depth row.id)
            (λ none. alone_at_0 rows net root depth level_at row in' none
            ∙ sym (is row in').root_is)
            (λ at. root_at_0 rows net root depth level_at row in' (at ∙ (is row in').root_is)),
        (
          or_else (nat_lt 0 (depth row.id)) _ whole,
          (
            or_else (depth row.id == 0) _ falls,
            (
              eq-eqb (say row.id).size
                  (children_sizes row.id (map (port_where say) row.ports) + 1)
                  (let sum = summed row in' in
                  let shown = children_said say row in
                  omega (arith, sum, shown)),
              tt,
            ),
          ),
        ),
      ),
    ),
  )
    where
      agree : (port : Port) → Contains row.ports port
          → names_root_and_total (say row.id) (port_where say port) ≡ true
      agree port has =
          let (other, other_in, named) : (other : NodeRow) × Contains rows other
          × (other.id ≡ port.nbr) =
          neighbour_row rows net row in' port has in
          and_from ((say port.nbr).root == (say row.id).root)
          ((say port.nbr).total == (say row.id).total)
          (eq-eqb (say port.nbr).root (say row.id).root
          (ap (λ (id : ℕ). (say id).root) (sym named) ∙ (is other other_in).root_is
          ∙ sym (is row in').root_is))
          (eq-eqb (say port.nbr).total (say row.id).total
          (ap (λ (id : ℕ). (say id).total) (sym named) ∙ (is other other_in).total
          ∙ sym (is row in').total))

      none_above : (n : ℕ) → nat_lt 0 n ≡ false → n ≡ 0
      none_above n none = grind (arith)

      some_above : (n : ℕ) → (n == 0) ≡ false → 1 ≤ n
      some_above n some = grind (arith)

      whole : nat_lt 0 (depth row.id) ≡ false
          → ((say row.id).parent == row.id && (say row.id).size == (say row.id).total) ≡ true
      whole none =
          let at : row.id ≡ root =
          alone_at_0 rows net root depth level_at row in' (none_above (depth row.id) none) in
          and_from ((say row.id).parent == row.id) ((say row.id).size == (say row.id).total)
          (eq-eqb (say row.id).parent row.id ((is row in').at_root at))
          (eq-eqb (say row.id).size (say row.id).total
          (ap (λ (id : ℕ). (say id).size) at ∙ root_size ∙ sym (is row in').total))

      falls : (depth row.id == 0) ≡ false
          → list_any (is_parent_above (say row.id)) (map (port_where say) row.ports) ≡ true
      falls some =
          let apart : row.id ≢ root =
          λ at. let none = root_at_0 rows net root depth level_at row in' at in
          let above = some_above (depth row.id) some in
          omega (arith, none, above) in
          let (port, has, named) : (port : Port) × Contains row.ports port
          × (port.nbr ≡ (say row.id).parent) = beside row in' apart in
          let less = parent_less row.id (say row.id).parent (id_of_row rows row in')
          (parent_of row.id (id_of_row rows row in') apart) in
          let (other, other_in, is_other) : (other : NodeRow) × Contains rows other
          × (other.id ≡ port.nbr) =
          neighbour_row rows net row in' port has in
          some_port_passes (is_parent_above (say row.id)) say row.ports port has
          (and_from ((say port.nbr).own == (say row.id).parent)
          (depth row.id == depth port.nbr + 1)
          (eq-eqb (say port.nbr).own (say row.id).parent
          (ap (λ (id : ℕ). (say id).own) (sym is_other) ∙ (is other other_in).own ∙ is_other
          ∙ named))
          (eq-eqb (depth row.id) (depth port.nbr + 1)
          (less.1 ∙ ap (λ (id : ℕ). depth id + 1) (sym named))))

  -- what is right is within the limits of the network's size
  pub within_limits : (row : NodeRow) → Contains rows row
      → ((say row.id).root ≤ greatest (ids_of rows)) × ((say row.id).own ≤ greatest (ids_of rows))
      × ((say row.id).parent ≤ greatest (ids_of rows)) × ((say row.id).depth ≤ length rows)
      × ((say row.id).size ≤ length rows) × ((say row.id).total ≤ length rows)
  within_limits row in' = (
    (let at = (is row in').root_is in let low = id_within rows first.0 first_in in
        omega (arith, at, low)),
    (let own = (is row in').own in let low = id_within rows row in' in omega (arith, own, low)),
    elim (cases_eq row.id root) [
      | inl at ↦
          let same = (is row in').at_root at in
          let low = id_within rows row in' in
          omega (arith, same, low)
      | inr apart ↦
          let (port, has, named) : (port : Port) × Contains row.ports port
          × (port.nbr ≡ (say row.id).parent) = beside row in' apart in
          let (other, other_in, is_other) : (other : NodeRow) × Contains rows other
          × (other.id ≡ port.nbr) =
          neighbour_row rows net row in' port has in
          let low = id_within rows other other_in in
          omega (arith, low, named, is_other)
    ],
    (let low = below_nodes rows net root depth level_at row in' in omega (arith, low)),
    size_few row in',
    (let all = (is row in').total in omega (arith, all)),
  )
