-- What the single rules say.
use Rattle.std.proofs.Common.{◌≡◌, ℕ, ◌≤◌, ◌==◌, ◌&&◌, Bool, true, false, nat_le, List, [], ◌∷◌, length, Option, Some, None, is_none, refl, ap, arith, All, get_or}
use Rattle.std.specs.List.{list_all}
use Rattle.std.proofs.lemmas.Bool.{eqb-true, leb-true}
use Rattle.std.proofs.lemmas.List.{length-map}
use Rattle.std.proofs.lemmas.List.Elements.{All-map}
use Rattle.std.proofs.lemmas.List.Sums.{AllPass-from_list_all}
use Rattle.pls_configuration.specs.declared.row.State.{State}
use Rattle.pls_configuration.specs.declared.row.NodeRow.{NodeRow}
use Rattle.pls_configuration.specs.declared.refusal.BuildError.{BuildError}
use Rattle.pls_configuration.specs.declared.limits.TheConstants.{MAX_NODES, MAX_NUM, MAX_PORTS}
use Rattle.pls_configuration.specs.Configuration.{AreWithinLimits, IsNetwork, ids_of, ports_in, refusal_of}
use Rattle.pls_configuration.specs.Walk.{IsConnected, edges_of}
use Rattle.pls_facts.proofs.Classes.{joins_all-JoinAll}
use Rattle.pls_universal.specs.declared.map.MapRow.{MapRow}
use Rattle.pls_universal.specs.Rules.{is_joined, is_network, is_port_small, is_small, is_within_limits, matched, node_of, nodes_of, same_port, same_record, same_state, same_up}

-- where two tests pass, each does
pub both_pass : (a b : Bool) → (a && b) ≡ true → (a ≡ true) × (b ≡ true)
both_pass true b is = (refl, is)
both_pass false b is = absurd (cc)

-- lists that match are the same, where what passes is the same
pub matched-same : {X : Type 0} (test : X → X → Bool) → ((x y : X) → test x y ≡ true → x ≡ y)
    → (xs ys : List X) → matched test xs ys ≡ true → xs ≡ ys
matched-same test same [] [] all = refl
matched-same test same [] (y ∷ ys) all = absurd (cc)
matched-same test same (x ∷ xs) [] all = absurd (cc)
matched-same test same (x ∷ xs) (y ∷ ys) all =
    let (first, others) = both_pass (test x y) (matched test xs ys) all in
    rw (same x y first, matched-same test same xs ys others) refl

port-same : (one other : ℕ × ℕ) → same_port one other ≡ true → one ≡ other
port-same (a, b) (c, d) is =
    let (first, second) = both_pass (a == c) (b == d) is in
    rw (eqb-true a c first, eqb-true b d second) refl

record-same : (one other : MapRow) → same_record one other ≡ true → one ≡ other
record-same one other is =
    let (four, ports) = both_pass _ (matched same_port one.ports other.ports) is in
    let (three, num) = both_pass _ (one.num == other.num) four in
    let (two, mark) = both_pass _ (one.mark == other.mark) three in
    let (id, up) = both_pass (one.id == other.id) (one.up == other.up) two in
    parts one.id one.up one.mark one.num one.ports other.id other.up other.mark other.num
    other.ports (eqb-true one.id other.id id) (eqb-true one.up other.up up)
    (eqb-true one.mark other.mark mark) (eqb-true one.num other.num num)
    (matched-same same_port port-same one.ports other.ports ports)
  where
    make : ℕ → ℕ → ℕ → ℕ → List (ℕ × ℕ) → MapRow
    make id up mark num ports =
        record { id = id; up = up; mark = mark; num = num; ports = ports }

    parts : (a b c d : ℕ) (ps : List (ℕ × ℕ)) (e f g h : ℕ) (qs : List (ℕ × ℕ)) → a ≡ e → b ≡ f
        → c ≡ g → d ≡ h → ps ≡ qs → make a b c d ps ≡ make e f g h qs
    parts a b c d ps e f g h qs one two three four five = rw (one, two, three, four, five) refl

-- maps that match are the same
pub map-same : (one other : List MapRow) → matched same_record one other ≡ true → one ≡ other
map-same one other all = matched-same same_record record-same one other all

up-same : (one other : Option ℕ) → same_up one other ≡ true → one ≡ other
up-same None None is = refl
up-same None (Some other) is = absurd (cc)
up-same (Some port) None is = absurd (cc)
up-same (Some port) (Some other) is = ap Some (eqb-true port other is)

pub state-same : (one other : State) → same_state one other ≡ true → one ≡ other
state-same one other is =
    let (two, num) = both_pass _ (one.num == other.num) is in
    let (up, mark) = both_pass (same_up one.up other.up) (one.mark == other.mark) two in
    parts one.up one.mark one.num other.up other.mark other.num (up-same one.up other.up up)
    (eqb-true one.mark other.mark mark) (eqb-true one.num other.num num)
  where
    make : Option ℕ → ℕ → ℕ → State
    make up mark num = record { up = up; mark = mark; num = num }

    parts : (a : Option ℕ) (b c : ℕ) (d : Option ℕ) (e f : ℕ) → a ≡ d → b ≡ e → c ≡ f
        → make a b c ≡ make d e f
    parts a b c d e f one two three = rw (one, two, three) refl

-- where the test passes, all are joined
pub joined-connected : (rows : List NodeRow) → is_joined rows ≡ true → IsConnected rows
joined-connected rows = (joins_all-JoinAll (edges_of rows) (ids_of rows)).0

-- no refusal
none-is : (refusal : Option BuildError) → is_none refusal ≡ true → refusal ≡ None
none-is None is = refl
none-is (Some error) is = absurd (cc)

-- the numbers of small records are small
small-nodes : (rows : List MapRow) → list_all is_small rows ≡ true
    → All (λ (row : NodeRow). row.state.num ≤ MAX_NUM) (nodes_of rows)
small-nodes rows all = All-map
    (λ (row : NodeRow). row.state.num ≤ MAX_NUM) node_of rows
    (λ i d within.
    let row : MapRow = get_or rows i d in
    let small : is_small row ≡ true = AllPass-from_list_all is_small rows all i d within in
    leb-true row.num MAX_NUM
    (both_pass _ (nat_le row.num MAX_NUM) (both_pass _ (list_all is_port_small row.ports) small).0).1)

-- a map within the limits states rows within them
pub limits-are : (rows : List MapRow) → is_within_limits rows ≡ true
    → AreWithinLimits (nodes_of rows)
limits-are rows limits =
    let (counts, small) = both_pass _ (list_all is_small rows) limits in
    let (many, ports) = both_pass _ (nat_le (ports_in (nodes_of rows)) MAX_PORTS) counts in
    let (some, few) = both_pass (nat_le 1 (length rows)) (nat_le (length rows) MAX_NODES) many in
    let long : length (nodes_of rows) ≡ length rows =
    length-map rows node_of in
    let one = leb-true 1 (length rows) some in
    let most = leb-true (length rows) MAX_NODES few in
    record {
      some = omega (arith, long, one);
      few_nodes = omega (arith, long, most);
      few_ports = leb-true (ports_in (nodes_of rows)) MAX_PORTS ports;
      small = small-nodes rows small;
    }

-- what passes rule 5 is a network, and connected
pub network-is : (rows : List MapRow) → is_network rows ≡ true
    → IsNetwork (nodes_of rows) × IsConnected (nodes_of rows)
network-is rows is =
    let (two, joined) = both_pass _ (is_joined (nodes_of rows)) is in
    let (limits, valid) = both_pass (is_within_limits rows)
    (is_none (refusal_of (nodes_of rows))) two in (
      record {
        limits = limits-are rows limits;
        valid = none-is (refusal_of (nodes_of rows)) valid;
      },
      joined-connected (nodes_of rows) joined,
    )
