-- Rule sets that judge as a scheme does: the fields of a label are the numbers of what it says.
use Rattle.std.proofs.Common.{◌≡◌, ◌∙◌, ℕ, suc, ◌<◌, Bool, List, [], ◌∷◌, length, map, Option, Some, None, option_map, refl, sym, ap, subst, arith}
use Rattle.std.specs.Prelude.{IfSome, option_and_then}
use Rattle.pls_labels.specs.Seen.{Seen, SeenPort}
use Rattle.pls_scheme.specs.Judging.{judged_from}
use Rattle.pls_scheme.specs.Reading.{Read, ReadPort, judge_by, judged_read, read_port, read_ports, reading}
use Rattle.pls_compile.specs.RuleMeaning.{Sight}

-- the pointer is a port of the node
abbrev pub PointsWithin : Option ℕ → ℕ → Type 0
PointsWithin up degree = IfSome up (λ port. port < degree)

module _ {L : Type 0} (numbers : L → List ℕ) where
  -- a port with the numbers of what its label says
  abbrev pub port_in_numbers : ReadPort L → ReadPort (List ℕ)
  port_in_numbers port = record { weight = port.weight; label = numbers port.label }

  -- what a node reads, as numbers
  abbrev pub in_numbers : Read L → Sight
  in_numbers view =
      record {
        id = view.id;
        state = view.state;
        own = numbers view.own;
        ports = map port_in_numbers view.ports;
      }

  module _ (read : List Bool → Option L) (fields : List Bool → Option (List ℕ))
      (same : (bits : List Bool) → fields bits ≡ option_map numbers (read bits)) where
    -- ports are read as numbers where they are read
    ports_in_numbers : (ports : List SeenPort)
        → read_ports fields ports ≡ option_map (map port_in_numbers) (read_ports read ports)
    ports_in_numbers [] = refl
    ports_in_numbers (port ∷ ports) =
        by (read port.label) (read_ports read ports) (same port.label) (ports_in_numbers ports)
      where
        by : (label : Option L) (others : Option (List (ReadPort L)))
            → fields port.label ≡ option_map numbers label
            → read_ports fields ports ≡ option_map (map port_in_numbers) others
            → option_and_then (λ first. option_map (λ others. first ∷ others)
            (read_ports fields ports)) (read_port fields port)
            ≡ option_map (map port_in_numbers)
            (option_and_then (λ first. option_map (λ others. first ∷ others) others)
            (option_map (λ label. record { weight = port.weight; label = label }) label))
        by None others label_is others_are = rw label_is refl
        by (Some label) None label_is others_are = rw (label_is, others_are) refl
        by (Some label) (Some others) label_is others_are = rw (label_is, others_are) refl

    read_long : (ports : List SeenPort) (found : List (ReadPort L))
        → read_ports read ports ≡ Some found → length found ≡ length ports
    read_long [] [] is = refl
    read_long [] (port ∷ found) is = absurd (cc)
    read_long (port ∷ ports) found is =
        by (read port.label) (read_ports read ports) refl is (read_long ports)
      where
        by : (label : Option L) (others : Option (List (ReadPort L)))
            → read_ports read ports ≡ others
            → option_and_then (λ first. option_map (λ others. first ∷ others) others)
            (option_map (λ label. record { weight = port.weight; label = label }) label)
            ≡ Some found
            → ((found : List (ReadPort L)) → read_ports read ports ≡ Some found
            → length found ≡ length ports)
            → length found ≡ suc (length ports)
        by None others others_are is shorter = absurd (cc)
        by (Some label) None others_are is shorter = absurd (cc)
        by (Some label) (Some others) others_are is shorter =
            let whole : record { weight = port.weight; label = label } ∷ others ≡ found = cc in
            let rest = shorter others others_are in
            omega (arith, ap length whole, rest)

    -- rules that say the same judge the same
    pub agrees : (rules : Read L → List Bool) (others : Sight → List Bool) (view : Seen)
        → PointsWithin view.state.up (length view.ports)
        → ((own : L) (ports : List (ReadPort L)) → PointsWithin view.state.up (length ports)
        → others (in_numbers (reading view.id view.state own ports))
        ≡ rules (reading view.id view.state own ports))
        → judge_by fields others view ≡ judge_by read rules view
    agrees rules others view within say =
        ap (λ (own : Option (List ℕ)). judged_read others view own (read_ports fields view.ports))
        (same view.own)
        ∙ ap (judged_read others view (option_map numbers (read view.own)))
        (ports_in_numbers view.ports)
        ∙ by (read view.own) (read_ports read view.ports) refl
      where
        by : (own : Option L) (ports : Option (List (ReadPort L)))
            → read_ports read view.ports ≡ ports
            → judged_read others view (option_map numbers own)
            (option_map (map port_in_numbers) ports) ≡ judged_read rules view own ports
        by None ports are = refl
        by (Some own) None are = refl
        by (Some own) (Some ports) are =
            let long : length ports ≡ length view.ports = read_long view.ports ports are in
            let here = subst (PointsWithin view.state.up) (sym long) within in
            ap (judged_from 3) (say own ports here)
