-- Passes over the ports of a node, in which each label is looked at once.
use Rattle.std.proofs.Common.{◌≡◌, ◌∙◌, ℕ, ◌<◌, ◌≤◌, zero, suc, ◌+◌, ◌++◌, Bool, true, false, if◌then◌else◌, List, [], ◌∷◌, length, take, slice_get, Option, Some, None, option_map, refl, sym, ap, arith, length-append, subst}
use Rattle.std.specs.Option.{is_some, option_and_then}
use Rattle.std.proofs.lemmas.List.{length-take-le, take_all, take_more}
use Rattle.std.proofs.lemmas.Option.{get_or_from_slice_get, same_Some, slice_get_within}
use Rattle.pls_configuration.specs.declared.verdict.Verdict.{Verdict}
use Rattle.pls_configuration.specs.declared.verdict.Verdict.TheVariants.{Reject}
use Rattle.pls_graph.proofs.Finds.{item_at}
use Rattle.pls_labels.specs.Seen.{Seen, SeenPort}
use Rattle.pls_scheme.specs.Judging.{judged_from}
use Rattle.pls_scheme.specs.Reading.{Read, ReadPort, is_pointer, judge_by, label_above, port_with, read_port, read_ports, reading}
use Rattle.pls_scheme.specs.inner.Looks.{seen_above, seen_in}
use Rattle.pls_scheme.proofs.MorePorts.{at_pointer_more}
use Rattle.pls_scheme.specs.laws.Readings.{judged_by_rules, rejected_by_2, split_read}

module _ {L : Type 0} (read : List Bool → Option L) where
  -- one more port is read
  read_ports-one : (ports : List SeenPort) (found : List (ReadPort L)) (port : SeenPort)
      (last : ReadPort L) → read_ports read ports ≡ Some found → read_port read port ≡ Some last
      → read_ports read (ports ++ port ∷ []) ≡ Some (found ++ last ∷ [])
  read_ports-one [] found port last is one =
      let none : [] ≡ found = cc in
      rw one (ap (λ (front : List (ReadPort L)). Some (front ++ last ∷ [])) none)
  read_ports-one (first ∷ ports) found port last is one =
      let parts = split_read read first ports found is in
      rw (parts.2, read_ports-one ports parts.1 port last parts.3 one)
      (ap (λ (front : List (ReadPort L)). Some (front ++ last ∷ [])) parts.4)

  -- the first ports and one more
  read_ports-more : (ports : List SeenPort) (i : ℕ) (port : SeenPort) (found : List (ReadPort L))
      (last : ReadPort L) → slice_get ports i ≡ Some port
      → read_ports read (take i ports) ≡ Some found → read_port read port ≡ Some last
      → read_ports read (take (i + 1) ports) ≡ Some (found ++ last ∷ [])
  read_ports-more ports i port found last at is one =
      rw (
        take_more ports i port (slice_get_within ports i port at),
        get_or_from_slice_get ports i port port at,
      ) (read_ports-one (take i ports) found port last is one)

  -- where a port cannot be read, all together cannot
  read_ports-unread : (ports : List SeenPort) (i : ℕ) (port : SeenPort)
      → slice_get ports i ≡ Some port → read_port read port ≡ None → read_ports read ports ≡ None
  read_ports-unread [] i port at none = absurd (cc)
  read_ports-unread (first ∷ ports) zero port at none =
      let same : first ≡ port = cc in
      rw (same, none) refl
  read_ports-unread (first ∷ ports) (suc i) port at none =
      rw (read_ports-unread ports i port at none) (by (read_port read first))
    where
      by : (one : Option (ReadPort L))
          → option_and_then (λ first. option_map (λ (others : List (ReadPort L)). first ∷ others)
          None) one ≡ None
      by None = refl
      by (Some one) = refl

module _ {L G : Type 0} (read : List Bool → Option L) (glance : L → G) where
  -- what was looked at is read
  pub looked_at : (bits : List Bool) (seen : G) → Some seen ≡ seen_in read glance bits
      → (label : L) × (read bits ≡ Some label) × (glance label ≡ seen)
  looked_at bits seen is = by (read bits) refl is
    where
      by : (found : Option L) → read bits ≡ found → Some seen ≡ option_map glance found
          → (label : L) × (read bits ≡ Some label) × (glance label ≡ seen)
      by None one is = absurd (cc)
      by (Some label) one is = (label, one, sym (same_Some seen (glance label) is))

  -- and this was seen of it
  pub glance_is : (bits : List Bool) (label : L) (seen : G) → read bits ≡ Some label
      → Some seen ≡ seen_in read glance bits → glance label ≡ seen
  glance_is bits label seen one is =
      sym (same_Some seen (glance label) (is ∙ ap (option_map glance) one))

  -- what shows nothing cannot be read
  pub unlooked : (bits : List Bool) → None ≡ seen_in read glance bits → read bits ≡ None
  unlooked bits is = by (read bits) refl is
    where
      by : (found : Option L) → read bits ≡ found → None ≡ option_map glance found
          → read bits ≡ None
      by None one is = one
      by (Some label) one is = absurd (cc)

  -- what is seen above is what the label above says
  pub above_read : (ports : List SeenPort) (found : List (ReadPort L))
      → read_ports read ports ≡ Some found → (up : Option ℕ)
      → seen_above read glance ports up ≡ option_map glance (label_above found up)
  above_read ports found is None = refl
  above_read ports found is (Some up) = at ports found is up
    where
      at : (ports : List SeenPort) (found : List (ReadPort L))
          → read_ports read ports ≡ Some found → (up : ℕ)
          → seen_above read glance ports (Some up) ≡ option_map glance (label_above found (Some up))
      at [] found is up =
          let none : [] ≡ found = cc in
          ap (λ (found : List (ReadPort L)). option_map glance (label_above found (Some up))) none
      at (port ∷ ports) found is zero =
          let parts = split_read read port ports found is in
          by parts.0 (read port.label) refl parts.2
          ∙ ap (λ (found : List (ReadPort L)). option_map glance (label_above found (Some zero)))
          parts.4
        where
          by : (first : ReadPort L) (one : Option L) → read port.label ≡ one
              → read_port read port ≡ Some first
              → seen_above read glance (port ∷ ports) (Some zero) ≡ Some (glance first.label)
          by first None one two = absurd (cc)
          by first (Some label) one two =
              let same : port_with port.weight label ≡ first =
              same_Some (port_with port.weight label) first
              (sym (ap (option_map (λ (label : L). port_with port.weight label)) one) ∙ two) in
              ap (option_map glance) one
              ∙ ap (λ (first : ReadPort L). Some (glance first.label)) same
      at (port ∷ ports) found is (suc up) =
          let parts = split_read read port ports found is in
          at ports parts.1 parts.3 up
          ∙ ap (λ (found : List (ReadPort L)). option_map glance (label_above found (Some (suc up))))
          parts.4

  -- at no port nothing is seen
  pub above_none : (up : Option ℕ) → None ≡ seen_above read glance [] up
  above_none None = refl
  above_none (Some up) = refl

  -- with one port more
  pub above_more : (ports : List SeenPort) (place : ℕ) (port : SeenPort) (up : Option ℕ) (seen : G)
      → slice_get ports place ≡ Some port → Some seen ≡ seen_in read glance port.label
      → seen_above read glance (take (place + 1) ports) up
      ≡ (if is_pointer up place then Some seen else seen_above read glance (take place ports) up)
  above_more ports place port up seen at is =
      let within = slice_get_within ports place port at in
      let many : length (take place ports) ≡ place =
      length-take-le place ports (omega (arith, within)) in
      let see : Option SeenPort → Option G =
      λ found. option_and_then (λ (port : SeenPort). seen_in read glance port.label) found in
      ap (λ (ports : List SeenPort). seen_above read glance ports up)
      (take_more ports place port within ∙ ap (λ (last : SeenPort). take place ports ++ last ∷ [])
      (get_or_from_slice_get ports place port port at))
      ∙ ap see (at_pointer_more (take place ports) port up)
      ∙ by (is_pointer up (length (take place ports))) (is_pointer up place) (ap (is_pointer up) many)
    where
      by : (one other : Bool) → one ≡ other
          → option_and_then (λ (port : SeenPort). seen_in read glance port.label)
          (if one then Some port else option_and_then (slice_get (take place ports)) up)
          ≡ (if other then Some seen else seen_above read glance (take place ports) up)
      by true true is_same = sym is
      by true false is_same = absurd (cc)
      by false true is_same = absurd (cc)
      by false false is_same = refl

module _ {L G T : Type 0} (read : List Bool → Option L) (glance : L → G) (gathered : Read L → T)
    (view : Seen) where
  -- the ports before a place are read, and this is gathered
  pub record IsPassed (place : ℕ) (tally : T) : Type 0 where
    pub own : L
    pub ports : List (ReadPort L)
    pub own_read : read view.own ≡ Some own
    pub ports_read : read_ports read (take place view.ports) ≡ Some ports
    pub many : length ports ≡ place
    pub is : tally ≡ gathered (reading view.id view.state own ports)

  -- before the first port
  pub pass_opened : (seen : G) (tally : T) → Some seen ≡ seen_in read glance view.own
      → ((label : L) → glance label ≡ seen
      → tally ≡ gathered (reading view.id view.state label [])) → IsPassed 0 tally
  pass_opened seen tally is opens =
      let (own, own_read, same) : (label : L) × (read view.own ≡ Some label)
      × (glance label ≡ seen) = looked_at read glance view.own seen is in
      record {
        own = own;
        ports = [];
        own_read = own_read;
        ports_read = refl;
        many = refl;
        is = opens own same;
      }

  -- what a step of the pass ensures, of a port where this is seen
  abbrev pub Passes : ℕ → T → SeenPort → G → G → T → Type 0
  Passes place tally port seen there more =
      (mine theirs : L) (ports : List (ReadPort L)) → length ports ≡ place
      → read view.own ≡ Some mine → glance mine ≡ seen → read port.label ≡ Some theirs
      → glance theirs ≡ there → tally ≡ gathered (reading view.id view.state mine ports)
      → more ≡ gathered
      (reading view.id view.state mine (ports ++ port_with port.weight theirs ∷ []))

  -- one port more
  pub pass_more : (place : ℕ) (tally more : T) (port : SeenPort) (seen there : G)
      → IsPassed place tally → slice_get view.ports place ≡ Some port
      → Some seen ≡ seen_in read glance view.own → Some there ≡ seen_in read glance port.label
      → Passes place tally port seen there more → IsPassed (place + 1) more
  pass_more place tally more port seen there so_far at own_seen port_seen passes =
      let (theirs, port_read, same) : (label : L) × (read port.label ≡ Some label)
      × (glance label ≡ there) = looked_at read glance port.label there port_seen in
      let last : ReadPort L = port_with port.weight theirs in
      let one : read_port read port ≡ Some last =
      ap (option_map (λ (label : L). port_with port.weight label)) port_read in
      record {
        own = so_far.own;
        ports = so_far.ports ++ last ∷ [];
        own_read = so_far.own_read;
        ports_read = read_ports-more read view.ports place port so_far.ports last at
            so_far.ports_read one;
        many = length-append so_far.ports (last ∷ []) ∙ ap (λ (n : ℕ). n + 1) so_far.many;
        is = passes so_far.own theirs so_far.ports so_far.many so_far.own_read
            (glance_is read glance view.own so_far.own seen so_far.own_read own_seen) port_read same
            so_far.is;
      }

  module _ (tests : Read L → List Bool) where
    -- where the own label cannot be read, rule 1 fails
    pub unopened : None ≡ seen_in read glance view.own → Reject 1 1 ≡ judge_by read tests view
    unopened is = rw (unlooked read glance view.own is) refl

    -- where a port cannot be read, rule 2 fails
    pub unpassed : (place : ℕ) (tally : T) (port : SeenPort) → IsPassed place tally
        → slice_get view.ports place ≡ Some port → None ≡ seen_in read glance port.label
        → Reject 1 2 ≡ judge_by read tests view
    unpassed place tally port so_far at is =
        sym (rejected_by_2 read tests view so_far.own so_far.own_read
        (read_ports-unread read view.ports place port at
        (ap (option_map (λ (label : L). port_with port.weight label))
        (unlooked read glance port.label is))))

    -- behind the last port the rules decide
    pub passed : (place : ℕ) (tally : T) (seen : G) (above : Option G) (verdict : Verdict)
        → length view.ports ≤ place → IsPassed place tally
        → Some seen ≡ seen_in read glance view.own
        → above ≡ seen_above read glance view.ports view.state.up
        → ((own : L) (ports : List (ReadPort L)) → read view.own ≡ Some own → glance own ≡ seen
        → above ≡ option_map glance (label_above ports view.state.up)
        → tally ≡ gathered (reading view.id view.state own ports)
        → verdict ≡ judged_from 3 (tests (reading view.id view.state own ports)))
        → verdict ≡ judge_by read tests view
    passed place tally seen above verdict ends all own_seen above_is closes =
        let whole : read_ports read view.ports ≡ Some all.ports =
        sym (ap (read_ports read) (take_all place view.ports ends)) ∙ all.ports_read in
        closes all.own all.ports all.own_read
        (glance_is read glance view.own all.own seen all.own_read own_seen)
        (above_is ∙ above_read read glance view.ports all.ports whole view.state.up) all.is
        ∙ sym (judged_by_rules read tests view all.own all.ports all.own_read whole)

-- where the own label and those of the ports before a place can be read, these are read
module _ {L G : Type 0} (read : List Bool → Option L) (glance : L → G) (view : Seen) (seen : G)
    (own : Some seen ≡ seen_in read glance view.own) where
  pub read_to : (place : ℕ) → place ≤ length view.ports
      → ((k : ℕ) (port : SeenPort) → k < place → slice_get view.ports k ≡ Some port
      → is_some (seen_in read glance port.label) ≡ true)
      → IsPassed {T = Unit {0}} read glance (λ _. tt) view place tt
  read_to zero within each =
      pass_opened {T = Unit {0}} read glance (λ _. tt) view seen tt own (λ label same. refl)
  read_to (suc place) within each =
      let (port, at) : (port : SeenPort) × (slice_get view.ports place ≡ Some port) =
      item_at view.ports place (omega (arith, within)) in
      let (there, is) : (there : G) × (Some there ≡ seen_in read glance port.label) =
      there_is (seen_in read glance port.label) (each place port (omega arith) at) in
      subst (λ (n : ℕ). IsPassed {T = Unit {0}} read glance (λ _. tt) view n tt) (omega arith)
      (pass_more {T = Unit {0}} read glance (λ _. tt) view place tt tt port seen there
      (read_to place (omega (arith, within)) (λ k port below. each k port (omega (arith, below))))
      at own is (λ mine theirs ports many one two three four five. refl))
    where
      there_is : (found : Option G) → is_some found ≡ true → (there : G) × (Some there ≡ found)
      there_is None some = absurd (cc)
      there_is (Some there) some = (there, refl)

  -- and where some port cannot be read, rule 2 fails
  pub unread : (tests : Read L → List Bool) (place : ℕ) (port : SeenPort)
      → slice_get view.ports place ≡ Some port → None ≡ seen_in read glance port.label
      → Reject 1 2 ≡ judge_by read tests view
  unread tests place port at is =
      let (mine, mine_read, same) : (label : L) × (read view.own ≡ Some label)
      × (glance label ≡ seen) = looked_at read glance view.own seen own in
      sym (rejected_by_2 read tests view mine mine_read (read_ports-unread read view.ports place port
      at (ap (option_map (λ (label : L). port_with port.weight label))
      (unlooked read glance port.label is))))
