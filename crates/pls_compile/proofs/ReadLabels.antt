-- Views whose labels are read as fields.
use Rattle.std.proofs.Common.{◌≡◌, ◌∙◌, ℕ, ◌<◌, ◌≤◌, ◌^◌, Bool, true, false, List, [], ◌∷◌, length, map, Option, Some, None, refl, ap, arith}
use Rattle.std.specs.Prelude.{All, unwrap_or, ◌&&◌}
use Rattle.std.specs.Option.{is_some}
use Rattle.std.specs.List.{list_all}
use Rattle.std.proofs.lemmas.Bool.{and_parts}
use Rattle.std.proofs.lemmas.List.{length-map}
use Rattle.std.proofs.lemmas.List.Elements.{All-cons, All-head, All-nil, All-tail}
use Rattle.pls_configuration.specs.declared.limits.TheConstants.{MAX_DEGREE}
use Rattle.pls_configuration.specs.declared.verdict.Verdict.TheVariants.{Reject}
use Rattle.pls_labels.specs.Seen.{Seen, SeenPort}
use Rattle.pls_numbers.specs.declared.kind.FieldKind.{FieldKind}
use Rattle.pls_scheme.specs.Judging.{judged_from}
use Rattle.pls_scheme.specs.Reading.{judge_by, judged_read, read_ports}
use Rattle.pls_compile.specs.Readable.{IsPort, IsReadable}
use Rattle.pls_compile.specs.ReadLabels.{is_read, numbers_in, port_values, sight_of, values_of}
use Rattle.pls_compile.specs.RuleMeaning.{Sight}
use Rattle.pls_compile.proofs.FieldNumbers.{fields_fit}

-- what is there is what it is read as
there : (kinds : List FieldKind) (bits : List Bool) (found : Option (List ℕ))
    → numbers_in kinds bits ≡ found → is_some found ≡ true
    → numbers_in kinds bits ≡ Some (unwrap_or found [])
there kinds bits None is read = absurd (cc)
there kinds bits (Some values) is read = is

pub values_there : (kinds : List FieldKind) (bits : List Bool) → is_read kinds bits ≡ true
    → numbers_in kinds bits ≡ Some (values_of kinds bits)
values_there kinds bits read = there kinds bits (numbers_in kinds bits) refl read

missing : (found : Option (List ℕ)) → is_some found ≡ false → found ≡ None
missing None unread = refl
missing (Some values) unread = absurd (cc)

module _ (kinds : List FieldKind) where
  -- all ports are read
  pub ports_read : (ports : List SeenPort)
      → list_all (λ port. is_read kinds port.label) ports ≡ true
      → read_ports (numbers_in kinds) ports ≡ Some (map (port_values kinds) ports)
  ports_read [] all = refl
  ports_read (port ∷ ports) all =
      let parts = and_parts _ _ all in
      let first = values_there kinds port.label parts.0 in
      let others = ports_read ports parts.1 in
      rw (first, others) refl

  -- some port is not
  pub port_unread : (ports : List SeenPort)
      → list_all (λ port. is_read kinds port.label) ports ≡ false
      → read_ports (numbers_in kinds) ports ≡ None
  port_unread [] some = absurd (cc)
  port_unread (port ∷ ports) some =
      by (numbers_in kinds port.label) refl some (port_unread ports)
    where
      by : (found : Option (List ℕ)) → numbers_in kinds port.label ≡ found
          → (is_some found && list_all (λ port. is_read kinds port.label) ports) ≡ false
          → (list_all (λ port. is_read kinds port.label) ports ≡ false
          → read_ports (numbers_in kinds) ports ≡ None)
          → read_ports (numbers_in kinds) (port ∷ ports) ≡ None
      by None is some others = rw is refl
      by (Some values) is some others =
          let rest = others some in rw (is, rest) refl

  -- the own label is not read
  pub own_unread : (rules : Sight → List Bool) (view : Seen) → is_read kinds view.own ≡ false
      → judge_by (numbers_in kinds) rules view ≡ Reject 1 1
  own_unread rules view unread =
      ap (λ (own : Option (List ℕ)). judged_read rules view own
      (read_ports (numbers_in kinds) view.ports))
      (missing (numbers_in kinds view.own) unread)

  -- a neighbour's is not
  pub other_unread : (rules : Sight → List Bool) (view : Seen) → is_read kinds view.own ≡ true
      → list_all (λ port. is_read kinds port.label) view.ports ≡ false
      → judge_by (numbers_in kinds) rules view ≡ Reject 1 2
  other_unread rules view read unread =
      ap (λ (own : Option (List ℕ)). judged_read rules view own
      (read_ports (numbers_in kinds) view.ports)) (values_there kinds view.own read)
      ∙ ap (judged_read rules view (Some (values_of kinds view.own)))
      (port_unread view.ports unread)

  -- all are
  pub all_read : (rules : Sight → List Bool) (view : Seen) → is_read kinds view.own ≡ true
      → list_all (λ port. is_read kinds port.label) view.ports ≡ true
      → judge_by (numbers_in kinds) rules view
      ≡ judged_from 3 (rules (sight_of kinds view))
  all_read rules view read all =
      ap (λ (own : Option (List ℕ)). judged_read rules view own
      (read_ports (numbers_in kinds) view.ports)) (values_there kinds view.own read)
      ∙ ap (judged_read rules view (Some (values_of kinds view.own))) (ports_read view.ports all)

  ports_fit : (ports : List SeenPort) → list_all (λ port. is_read kinds port.label) ports ≡ true
      → All (λ (port : SeenPort). port.weight < 2 ^ 64) ports
      → All (IsPort (length kinds)) (map (port_values kinds) ports)
  ports_fit [] all small = All-nil (IsPort (length kinds))
  ports_fit (port ∷ ports) all small =
      let Small : SeenPort → Type 0 = λ port. port.weight < 2 ^ 64 in
      let parts = and_parts _ _ all in
      let first : IsPort (length kinds) (port_values kinds port) = record {
        weight = All-head Small port ports small;
        label = fields_fit kinds port.label (values_of kinds port.label)
            (values_there kinds port.label parts.0);
      } in
      All-cons (IsPort (length kinds)) (port_values kinds port) (map (port_values kinds) ports)
      first
      (ports_fit ports parts.1 (All-tail Small port ports small))

  -- what the node then reads
  pub sight_fits : (view : Seen) → is_read kinds view.own ≡ true
      → list_all (λ port. is_read kinds port.label) view.ports ≡ true
      → view.id < 2 ^ 64 → view.state.mark < 2 ^ 64 → view.state.num < 2 ^ 64
      → length view.ports ≤ MAX_DEGREE → All (λ (port : SeenPort). port.weight < 2 ^ 64) view.ports
      → IsReadable (length kinds) (sight_of kinds view)
  sight_fits view read all id mark num few weights = record {
    id = id;
    mark = mark;
    num = num;
    degree = omega (arith, few, length-map view.ports (port_values kinds));
    own = fields_fit kinds view.own (values_of kinds view.own) (values_there kinds view.own read);
    ports = ports_fit view.ports all weights;
  }
