-- Rounds in which each label says what a function of the node's identity says.
use Rattle.std.proofs.Common.{◌≡◌, ◌∙◌, ℕ, ◌+◌, Bool, true, false, if◌then◌else◌, List, [], ◌∷◌, map, All, Contains, Option, Some, None, option_map, unwrap_or, slice_get, get_or, refl, sym, ap, subst}
use Rattle.std.specs.List.{AllByRecursion}
use Rattle.std.proofs.lemmas.List.Elements.{All-contains, All-head, All-map, All-tail}
use Rattle.std.proofs.lemmas.Option.{slice_get-get_or}
use Rattle.pls_configuration.specs.declared.row.Port.{Port}
use Rattle.pls_configuration.specs.declared.row.NodeRow.{NodeRow}
use Rattle.pls_configuration.specs.declared.verdict.Verdict.TheVariants.{Accept, Reject}
use Rattle.pls_configuration.specs.Configuration.{IsNetwork, row_of}
use Rattle.pls_graph.proofs.Members.{Contains-map, Contains-from_place}
use Rattle.pls_graph.proofs.Placed.{neighbour_found, row_place}
use Rattle.pls_labels.specs.Seen.{Seen, label_of, seen, seen_port}
use Rattle.pls_scheme.specs.Judging.{AllAccept, AllHold, judged_from}
use Rattle.pls_scheme.specs.Reading.{Read, ReadPort, judge_by, judged_read, read_port, read_ports, read_where, port_where}
use Rattle.pls_scheme.specs.laws.Readings.{judged_by_rules, split_read}

-- rules that accept hold, each of them
pub judged-each : (number : ℕ) (rules : List Bool) → judged_from number rules ≡ Accept
    → AllHold rules
judged-each number [] accepted = tt
judged-each number (holds ∷ others) accepted =
    by holds accepted (judged-each (number + 1) others)
  where
    by : (b : Bool) → (if b then judged_from (number + 1) others else Reject 1 number) ≡ Accept
        → (judged_from (number + 1) others ≡ Accept → AllByRecursion (λ holds. holds ≡ true) others)
        → AllByRecursion (λ holds. holds ≡ true) (b ∷ others)
    by true accepted later = (refl, later accepted)
    by false accepted later = absurd (cc)

-- and rules that hold accept
pub hold-judged : (number : ℕ) (tests : List Bool) → AllHold tests
    → judged_from number tests ≡ Accept
hold-judged number [] hold = refl
hold-judged number (test ∷ tests) hold = rw hold.0 (hold-judged (number + 1) tests hold.1)

-- what a port shows with this label
abbrev the_port : {L : Type 0} → Port → L → ReadPort L
the_port port label = record { weight = port.weight; label = label }

module _ {L : Type 0} (read : List Bool → Option L) (rules : Read L → List Bool) where
  -- what the labels say, as a function of the identity
  abbrev pub say_of : (ℕ → List Bool) → L → ℕ → L
  say_of label other id = unwrap_or (read (label id)) other

  -- a view that is accepted is read whole, and the rules hold of what was read
  pub record IsReadRight (view : Seen) : Type 0 where
    pub own : L
    pub ports : List (ReadPort L)
    pub own_read : read view.own ≡ Some own
    pub ports_read : read_ports read view.ports ≡ Some ports
    pub right : AllHold (rules (record
        { id = view.id; state = view.state; own = own; ports = ports }))

  accepted_view : (view : Seen) → judge_by read rules view ≡ Accept → IsReadRight view
  accepted_view view accepted = by (read view.own) refl (read_ports read view.ports) refl accepted
    where
      by : (own : Option L) → read view.own ≡ own → (ports : Option (List (ReadPort L)))
          → read_ports read view.ports ≡ ports
          → judged_read rules view own ports ≡ Accept → IsReadRight view
      by None one ports two accepted = absurd (cc)
      by (Some own) one None two accepted = absurd (cc)
      by (Some own) one (Some ports) two accepted =
          record {
            own = own;
            ports = ports;
            own_read = one;
            ports_read = two;
            right = judged-each 3
                (rules (record { id = view.id; state = view.state; own = own; ports = ports }))
                accepted;
          }

  -- a port that is read says what its label says
  said_first : (label : ℕ → List Bool) (other : L) (port : Port) (first : ReadPort L)
      → read_port read (seen_port label port) ≡ Some first
      → first ≡ port_where (say_of label other) port
  said_first label other port first is = by (read (label port.nbr)) is
    where
      by : (said : Option L) → option_map (λ label. the_port port label) said ≡ Some first
          → first ≡ the_port port (unwrap_or said other)
      by None is = absurd (cc)
      by (Some said) is = cc

  -- ports that are read say what their labels say
  said_ports : (label : ℕ → List Bool) (other : L) (ports : List Port) (found : List (ReadPort L))
      → read_ports read (map (seen_port label) ports) ≡ Some found
      → found ≡ map (port_where (say_of label other)) ports
  said_ports label other [] found is = cc
  said_ports label other (port ∷ ports) found is =
      let parts = split_read read (seen_port label port) (map (seen_port label) ports) found is in
      let first : parts.0 ≡ port_where (say_of label other) port =
      said_first label other port parts.0 parts.2 in
      let others : parts.1 ≡ map (port_where (say_of label other)) ports =
      said_ports label other ports parts.1 parts.3 in
      sym parts.4 ∙ rw (first, others) refl

  -- where all nodes accept, each label says what a function says, and the rules hold of it
  pub accepted_say : (rows : List NodeRow) (labels : List (List Bool)) (other : L)
      → AllAccept (judge_by read rules) rows labels
      → (row : NodeRow) → Contains rows row
      → (read (label_of rows labels row.id) ≡ Some (say_of (label_of rows labels) other row.id))
      × AllHold (rules (read_where (say_of (label_of rows labels) other) row))
  accepted_say rows labels other accepted row in' =
      (read_here, subst AllHold (rw (← own_is, ports_are) refl) found.right)
    where
      label : ℕ → List Bool
      label = label_of rows labels

      found : IsReadRight (seen label row)
      found = accepted_view (seen label row)
          (All-contains (λ (view : Seen). judge_by read rules view ≡ Accept) (map (seen label) rows)
          (seen label row) accepted (Contains-map (seen label) rows row in'))

      own_is : unwrap_or (read (label row.id)) other ≡ found.own
      own_is = ap (λ (said : Option L). unwrap_or said other) found.own_read

      ports_are : found.ports ≡ map (port_where (say_of label other)) row.ports
      ports_are = said_ports label other row.ports found.ports found.ports_read

      read_here : read (label row.id) ≡ Some (say_of label other row.id)
      read_here = found.own_read ∙ ap Some (sym own_is)

  -- where all nodes accept, the label of each can be read
  pub accepted_one : (rows : List NodeRow) (labels : List (List Bool))
      → AllAccept (judge_by read rules) rows labels
      → (row : NodeRow) → Contains rows row
      → (own : L) × (read (label_of rows labels row.id) ≡ Some own)
  accepted_one rows labels accepted row in' =
      let found : IsReadRight (seen (label_of rows labels) row) =
      accepted_view (seen (label_of rows labels) row)
      (All-contains (λ (view : Seen). judge_by read rules view ≡ Accept)
      (map (seen (label_of rows labels)) rows) (seen (label_of rows labels) row) accepted
      (Contains-map (seen (label_of rows labels)) rows row in')) in
      (found.own, found.own_read)

  -- ports whose labels say what a function says are read to that
  read_ports-said : (label : ℕ → List Bool) (say : ℕ → L) (ports : List Port)
      → All (λ port. read (label port.nbr) ≡ Some (say port.nbr)) ports
      → read_ports read (map (seen_port label) ports) ≡ Some (map (port_where say) ports)
  read_ports-said label say [] says = refl
  read_ports-said label say (port ∷ ports) says =
      let Says : Port → Type 0 = λ port. read (label port.nbr) ≡ Some (say port.nbr) in
      let first : read (label port.nbr) ≡ Some (say port.nbr) = All-head Says port ports says in
      rw (first, read_ports-said label say ports (All-tail Says port ports says)) refl

  -- labels that say what a function says, of which the rules hold, are accepted
  pub said_accepted : (rows : List NodeRow) → IsNetwork rows
      → (labels : List (List Bool)) (say : ℕ → L)
      → ((row : NodeRow) → Contains rows row
      → read (label_of rows labels row.id) ≡ Some (say row.id))
      → ((row : NodeRow) → Contains rows row → AllHold (rules (read_where say row)))
      → AllAccept (judge_by read rules) rows labels
  said_accepted rows net labels say says hold =
      All-map (λ (view : Seen). judge_by read rules view ≡ Accept) (seen label) rows
      (λ i d within. accepts i (get_or rows i d) (slice_get-get_or rows i d within))
    where
      label : ℕ → List Bool
      label = label_of rows labels

      accepts : (i : ℕ) (row : NodeRow) → slice_get rows i ≡ Some row
          → judge_by read rules (seen label row) ≡ Accept
      accepts i row at =
          let in' : Contains rows row = Contains-from_place rows i row at in
          let ports : read_ports read (map (seen_port label) row.ports)
          ≡ Some (map (port_where say) row.ports) =
          read_ports-said label say row.ports
          (λ p d within. neighbour i row at p (get_or row.ports p d)
          (slice_get-get_or row.ports p d within)) in
          judged_by_rules read rules (seen label row) (say row.id) (map (port_where say) row.ports)
          (says row in') ports
          ∙ hold-judged 3 (rules (read_where say row)) (hold row in')
        where
          neighbour : (i : ℕ) (row : NodeRow) → slice_get rows i ≡ Some row → (p : ℕ) (port : Port)
              → slice_get row.ports p ≡ Some port
              → read (label port.nbr) ≡ Some (say port.nbr)
          neighbour i row at p port has =
              let other : (other : NodeRow) × (row_of rows port.nbr ≡ Some other) =
              neighbour_found rows net i row at p port has in
              let there : (j : ℕ) × (slice_get rows j ≡ Some other.0) × (port.nbr ≡ other.0.id) =
              row_place rows net port.nbr other.0 other.1 in
              subst (λ (id : ℕ). read (label id) ≡ Some (say id)) (sym there.2)
              (says other.0 (Contains-from_place rows there.0 other.0 there.1))
