-- The theorem of the scheme of one leader.
use Rattle.std.proofs.Common.{◌≡◌, ◌≤◌, ◌<◌, ◌∙◌, ◌+◌, ◌||◌, ◌⊎◌, inl, inr, ◌==◌, ℕ, Bool, true, false, List, length, Contains, sym, ap, arith, refl}
use Rattle.std.proofs.lemmas.Bool.{eq-eqb, eqb-true, or_cases}
use Rattle.std.proofs.lemmas.Option.{same_Some}
use Rattle.pls_bits.specs.NumberCode.{Grows, IsShort}
use Rattle.pls_configuration.specs.declared.row.Port.{Port}
use Rattle.pls_configuration.specs.declared.row.NodeRow.{NodeRow}
use Rattle.pls_configuration.specs.Configuration.{IsNetwork, ids_of, row_of}
use Rattle.pls_configuration.specs.Walk.{edges_of}
use Rattle.pls_graph.specs.Levels.{IsLevel}
use Rattle.pls_graph.specs.Size.{greatest, size_of}
use Rattle.pls_scheme.specs.Basic.{longest_by}
use Rattle.pls_scheme.specs.Reading.{has_number, read_where, port_where}
use Rattle.pls_scheme.specs.Theorem.{AreRightEverywhere, OneIsRight, RightFits, RulesAreMet, RulesShow}
use Rattle.pls_scheme.proofs.Fitting.{within_fits}
use Rattle.pls_scheme.proofs.SaidPorts.{all_ports_pass, passes_at_some, passes_port, some_port_passes}
use Rattle.pls_facts.specs.Descent.{AreRooted, IsTheRoot}
use Rattle.pls_facts.specs.Leader.{HasOneLeader, is_leader}
use Rattle.pls_facts.proofs.Descent.{the_root}
use Rattle.pls_facts.proofs.Levels.{one_level}
use Rattle.pls_facts.proofs.Neighbours.{id_within, neighbour_row}
use Rattle.pls_facts.proofs.OnlyNode.{only_from, only_of, the_only}
use Rattle.pls_facts.proofs.Pointed.{row_of_id}
use Rattle.pls_facts.proofs.RootLevels.{alone_at_0, below_nodes, levels_fall, root_at_0}
use Rattle.pls_leader.specs.declared.leader.LeaderLabel.{LeaderLabel}
use Rattle.pls_leader.specs.Leader.{falls_to_root, is_one_less_deep, leader_limits, leader_rules, leader_says, leader_shape}
use Rattle.pls_leader.specs.inner.Saying.{leader_at}
use Rattle.pls_leader.specs.laws.RootedLaws.{at_0_alone, beq-back, beq-from, beq-there, root_where_0}

-- a test that one of two passes
either : (a b : Bool) → (a ≡ true) ⊎ (b ≡ true) → (a || b) ≡ true
either true b holds = refl
either false true holds = refl
either false false holds = elim holds [ inl one ↦ one | inr other ↦ other ]

-- where rule 5 holds, a depth above 0 falls at some port
falls_at_port : (say : ℕ → LeaderLabel) (row : NodeRow) → falls_to_root (read_where say row) ≡ true
    → 1 ≤ (say row.id).depth
    → (port : Port) × Contains row.ports port
    × ((say row.id).depth ≡ (say port.nbr).depth + 1)
falls_at_port say row holds some =
    elim (or_cases ((say row.id).depth == 0) _ holds) [
      | inl none ↦ absurd (let is = eqb-true (say row.id).depth 0 none in omega (arith, some, is))
      | inr falls ↦
          let (port, has, less) : (port : Port) × Contains row.ports port
          × (is_one_less_deep (say row.id).depth (port_where say port) ≡ true) =
          passes_at_some (is_one_less_deep (say row.id).depth) say row.ports falls in
          (port, has, eqb-true (say row.id).depth ((say port.nbr).depth + 1) less)
    ]

-- and the other way round
port_falls : (say : ℕ → LeaderLabel) (row : NodeRow)
    → (1 ≤ (say row.id).depth → (port : Port) × Contains row.ports port
    × ((say row.id).depth ≡ (say port.nbr).depth + 1))
    → falls_to_root (read_where say row) ≡ true
port_falls say row falls =
    by ((say row.id).depth == 0) refl
  where
    here : ℕ
    here = (say row.id).depth

    by : (none : Bool) → (here == 0) ≡ none → falls_to_root (read_where say row) ≡ true
    by true is = either (here == 0) _ (inl is)
    by false is =
        let some : 1 ≤ here = above here is in
        let (port, has, less) : (port : Port) × Contains row.ports port
        × (here ≡ (say port.nbr).depth + 1) = falls some in
        either (here == 0) _
        (inr (some_port_passes (is_one_less_deep here) say row.ports port has
        (eq-eqb here ((say port.nbr).depth + 1) less)))
      where
        above : (n : ℕ) → (n == 0) ≡ false → 1 ≤ n
        above n differs = grind (arith)

-- where the rules hold everywhere in a connected network, one node is marked
pub leader_show : RulesShow leader_rules HasOneLeader
leader_show rows net joined say hold =
    only_from is_leader rows net root.0.id same root.0 root.1.in'
    (beq-back (is_leader root.0.state) ((say root.0.id).depth == 0)
    (hold root.0 root.1.in').1.1.1.0 (eq-eqb (say root.0.id).depth 0 root.1.at_0))
  where
    rooted : AreRooted rows (λ id. (say id).root) (λ id. (say id).depth)
    rooted = record {
      agree = λ row port in' has. eqb-true (say port.nbr).root (say row.id).root
          (passes_port (has_number (λ (label : LeaderLabel). label.root) (say row.id).root) say row.ports (hold row in').0 port has);
      falls = λ row in'. falls_at_port say row (hold row in').1.1.0;
      at_root = λ row in'. root_where_0 row.id (say row.id).root (say row.id).depth
          (hold row in').1.0;
    }

    root : (row : NodeRow) × IsTheRoot rows (λ id. (say id).root) (λ id. (say id).depth) row
    root = the_root rows net joined (λ id. (say id).root) (λ id. (say id).depth) rooted

    same : (row : NodeRow) → Contains rows row → is_leader row.state ≡ true → row.id ≡ root.0.id
    same row in' marked = root.1.alone row in'
        (eqb-true (say row.id).depth 0
        (beq-there (is_leader row.state) ((say row.id).depth == 0) (hold row in').1.1.1.0 marked))

module _ (rows : List NodeRow) (net : IsNetwork rows) (one : HasOneLeader rows)
    (say : ℕ → LeaderLabel) (right : AreRightEverywhere (leader_says rows) rows say) where
  leader : (row : NodeRow) × Contains rows row × (is_leader row.state ≡ true)
  leader = the_only is_leader rows one

  -- what is said of a node
  here : (row : NodeRow) → Contains rows row
      → ((say row.id).root ≡ leader.0.id)
      × IsLevel (edges_of rows) leader.0.id row.id (say row.id).depth
  here row in' = right row in' leader.0 leader.1 leader.2

  level : (row : NodeRow) → Contains rows row
      → IsLevel (edges_of rows) leader.0.id row.id (say row.id).depth
  level row in' = (here row in').1

  -- the node at depth 0 is the leader
  is_the_leader : (row : NodeRow) → Contains rows row → row.id ≡ leader.0.id → row ≡ leader.0
  is_the_leader row in' same = same_Some row leader.0
      (sym (row_of_id rows net row in') ∙ ap (row_of rows) same ∙ row_of_id rows net leader.0 leader.1)

-- where what is said is right, the rules hold
pub leader_met : RulesAreMet leader_rules HasOneLeader leader_says
leader_met rows net joined one say right row in' = (
  all_ports_pass (has_number (λ (label : LeaderLabel). label.root) (say row.id).root) say row.ports agree,
  (
    at_0_alone row.id (say row.id).root (say row.id).depth
        (λ none. alone_at_0 rows net the.0.id depth level_at row in' none ∙ sym (named row in'))
        (λ is. root_at_0 rows net the.0.id depth level_at row in' (is ∙ named row in')),
    (
      port_falls say row (levels_fall rows net the.0.id depth level_at row in'),
      (
        beq-from (is_leader row.state) (depth row.id == 0)
            (λ marked. eq-eqb (depth row.id) 0 (root_at_0 rows net the.0.id depth level_at row in'
            (ap (λ (row : NodeRow). row.id)
            (only_of is_leader rows one row the.0 in' the.1 marked the.2))))
            (λ none. ap (λ (row : NodeRow). is_leader row.state)
            (is_the_leader rows net one say right row in'
            (alone_at_0 rows net the.0.id depth level_at row in' (eqb-true (depth row.id) 0 none)))
            ∙ the.2),
        tt,
      ),
    ),
  ),
)
  where
    depth : ℕ → ℕ
    depth id = (say id).depth

    the : (row : NodeRow) × Contains rows row × (is_leader row.state ≡ true)
    the = leader rows net one say right

    level_at : (row : NodeRow) → Contains rows row
        → IsLevel (edges_of rows) the.0.id row.id (depth row.id)
    level_at = level rows net one say right

    named : (row : NodeRow) → Contains rows row → (say row.id).root ≡ the.0.id
    named row in' = (here rows net one say right row in').0

    agree : (port : Port) → Contains row.ports port
        → has_number (λ (label : LeaderLabel). label.root) (say row.id).root (port_where say port) ≡ true
    agree port has =
        let (other, other_in, is) : (row : NodeRow) × Contains rows row × (row.id ≡ port.nbr) =
        neighbour_row rows net row in' port has in
        eq-eqb (say port.nbr).root (say row.id).root
        (ap (λ (id : ℕ). (say id).root) (sym is) ∙ named other other_in ∙ sym (named row in'))

-- one label is right for a node
pub leader_one_right : OneIsRight HasOneLeader leader_says
leader_one_right rows net joined holds row one other in' mine theirs =
    let leader : (row : NodeRow) × Contains rows row × (is_leader row.state ≡ true) =
    the_only is_leader rows holds in
    let a = mine leader.0 leader.1 leader.2 in
    let b = theirs leader.0 leader.1 leader.2 in
    let roots : one.root ≡ other.root = a.0 ∙ sym b.0 in
    let depths : one.depth ≡ other.depth =
    one_level (edges_of rows) leader.0.id row.id one.depth other.depth a.1 b.1 in
    ap (λ (root : ℕ). leader_at root one.depth) roots ∙ ap (leader_at other.root) depths

-- what is right is short
pub leader_fits : (code : ℕ → List Bool) → Grows code → IsShort code
    → RightFits leader_shape code HasOneLeader leader_says
    (longest_by leader_shape leader_limits code)
leader_fits code grows short rows net joined one words say right row in' =
    let leader : (row : NodeRow) × Contains rows row × (is_leader row.state ≡ true) =
    leader rows net one say right in
    let below : (say row.id).depth < length rows =
    below_nodes rows net leader.0.id (λ id. (say id).depth) (level rows net one say right) row in' in
    let within : leader.0.id ≤ greatest (ids_of rows) = id_within rows leader.0 leader.1 in
    within_fits code grows short leader_shape (say row.id) (leader_limits (size_of rows)) refl
    tt (omega arith) (
      omega (arith, (here rows net one say right row in').0, within),
      omega (arith, words.max_id),
      (omega (arith, below), omega (arith, net.limits.few_nodes), tt),
    )
