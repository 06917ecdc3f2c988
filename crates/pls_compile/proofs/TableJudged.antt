-- The verdict on the view of a node, by the table of what all labels say.
use Rattle.std.proofs.Common.{◌≡◌, ◌∙◌, ℕ, ◌<◌, ◌^◌, Bool, true, false, List, length, map, Option, Some, None, option_map, slice_get, sym, ap, subst, arith}
use Rattle.std.specs.Prelude.{All}
use Rattle.std.specs.Option.{is_some}
use Rattle.std.specs.List.{list_all}
use Rattle.std.proofs.lemmas.List.{length-map}
use Rattle.std.proofs.lemmas.List.Elements.{All-map}
use Rattle.pls_configuration.specs.declared.row.State.{State}
use Rattle.pls_configuration.specs.declared.row.Port.{Port}
use Rattle.pls_configuration.specs.declared.row.NodeRow.{NodeRow}
use Rattle.pls_configuration.specs.declared.verdict.Verdict.{Verdict}
use Rattle.pls_configuration.specs.declared.verdict.Verdict.TheVariants.{Reject}
use Rattle.pls_configuration.specs.Configuration.{IsNetwork}
use Rattle.pls_graph.specs.Places.{beside}
use Rattle.pls_graph.proofs.Finds.{item_at}
use Rattle.pls_labels.specs.Seen.{Seen, SeenPort, label_of, seen_port, views}
use Rattle.pls_labels.proofs.Few.{proper_at}
use Rattle.pls_labels.proofs.Views.{placed}
use Rattle.pls_bits.specs.Gamma.{gamma_takes}
use Rattle.pls_numbers.specs.declared.kind.FieldKind.{FieldKind}
use Rattle.pls_rules.specs.RuleSet.{Rules, kinds_of}
use Rattle.pls_scheme.specs.Judging.{judged_from}
use Rattle.pls_scheme.proofs.LookedAt.{is_shown, shown_from}
use Rattle.pls_compile.specs.FieldTable.{said_at, sight_in}
use Rattle.pls_compile.specs.Readable.{IsReadable}
use Rattle.pls_compile.specs.ReadLabels.{is_read, numbers_in, sight_of}
use Rattle.pls_compile.specs.RuleMeaning.{Sight, meaning, rules_hold}
use Rattle.pls_compile.proofs.ReadLabels.{all_read, other_unread, own_unread, sight_fits}
use Rattle.pls_compile.proofs.TableRead.{all_said, said_there, same_sight}

module _ (set : Rules) (rows : List NodeRow) (net : IsNetwork rows) (labels : List (List Bool))
    (each : length labels ≡ length rows) (table : List (Option (List ℕ)))
    (table_is : table ≡ map (numbers_in (kinds_of set.fields)) labels) (i : ℕ)
    (within : i < length rows) (id : ℕ) (state : State) (ports : List Port) (places : List ℕ)
    (id_is : option_map (λ (row : NodeRow). row.id) (slice_get rows i) ≡ Some id)
    (state_is : option_map (λ (row : NodeRow). row.state) (slice_get rows i) ≡ Some state)
    (ports_is : option_map (λ (row : NodeRow). row.ports) (slice_get rows i) ≡ Some ports)
    (places_is : places ≡ beside rows i) where
  abbrev kinds : List FieldKind
  kinds = kinds_of set.fields

  own_label : (bits : List Bool) × (slice_get labels i ≡ Some bits)
  own_label = item_at labels i (omega (arith, within, each))

  -- the node's view
  abbrev shown : Seen
  shown = shown_from rows labels id state own_label.0 ports

  -- a verdict on it is one on any view at the place
  on_view : (verdict : Verdict) → verdict ≡ meaning gamma_takes set shown → (view : Seen)
      → slice_get (views rows labels) i ≡ Some view → verdict ≡ meaning gamma_takes set view
  on_view verdict is view at =
      subst (λ (view : Seen). verdict ≡ meaning gamma_takes set view)
      (is_shown rows labels i id state own_label.0 ports view id_is state_is ports_is
      (placed rows net i id id_is) own_label.1 at) is

  own_said : said_at table i ≡ numbers_in kinds own_label.0
  own_said = said_there kinds rows net labels each table table_is i own_label.0 own_label.1

  beside_said : list_all (λ (port : SeenPort). is_read kinds port.label) shown.ports
      ≡ list_all (λ place. is_some (said_at table place)) places
  beside_said = all_said kinds rows net labels each table table_is i ports ports_is places places_is

  -- nothing is said at its place
  pub rejects_own : None ≡ said_at table i → (view : Seen)
      → slice_get (views rows labels) i ≡ Some view → Reject 1 1 ≡ meaning gamma_takes set view
  rejects_own none =
      on_view (Reject 1 1) (sym (own_unread kinds (rules_hold set.rules) shown
      (sym (ap is_some (none ∙ own_said)))))

  module _ (own : List ℕ) (own_is : Some own ≡ said_at table i) where
    own_read : is_read kinds shown.own ≡ true
    own_read = sym (ap is_some (own_is ∙ own_said))

    same : sight_of kinds shown ≡ sight_in table id state own ports places
    same = same_sight kinds rows net labels each table table_is i ports ports_is places places_is id
        state own_label.0 own (sym (own_is ∙ own_said))

    -- nothing is said at the place of some neighbour
    pub rejects_beside : (all : Bool)
        → all ≡ list_all (λ place. is_some (said_at table place)) places → all ≡ false
        → (view : Seen)
        → slice_get (views rows labels) i ≡ Some view → Reject 1 2 ≡ meaning gamma_takes set view
    rejects_beside all all_is not_all =
        on_view (Reject 1 2) (sym (other_unread kinds (rules_hold set.rules) shown own_read
        (beside_said ∙ sym all_is ∙ not_all)))

    module _ (all : Bool) (all_is : all ≡ list_all (λ place. is_some (said_at table place)) places)
        (are : all ≡ true) where
      -- the rules decide
      pub judges : (verdict : Verdict)
          → verdict ≡ judged_from 3 (rules_hold set.rules (sight_in table id state own ports places))
          → (view : Seen)
          → slice_get (views rows labels) i ≡ Some view → verdict ≡ meaning gamma_takes set view
      judges verdict is =
          on_view verdict (is
          ∙ ap (λ (sight : Sight). judged_from 3 (rules_hold set.rules sight)) (sym same)
          ∙ sym (all_read kinds (rules_hold set.rules) shown own_read
          (beside_said ∙ sym all_is ∙ are)))

      -- on numbers of 64 bits
      pub readable : id < 2 ^ 64 → state.mark < 2 ^ 64 → state.num < 2 ^ 64
          → All (λ (port : Port). port.weight < 2 ^ 64) ports
          → IsReadable (length set.fields) (sight_in table id state own ports places)
      readable id_small mark_small num_small weights_small =
          let Small : SeenPort → Type 0 = λ port. port.weight < 2 ^ 64 in
          let few = (proper_at rows net i state ports state_is ports_is).few in
          let many = length-map ports (seen_port (label_of rows labels)) in
          subst (IsReadable (length set.fields)) same
          (subst (λ (count : ℕ). IsReadable count (sight_of kinds shown))
          (length-map set.fields (λ field. field.kind))
          (sight_fits kinds shown own_read (beside_said ∙ sym all_is ∙ are) id_small mark_small
          num_small (omega (arith, few, many))
          (All-map Small (seen_port (label_of rows labels)) ports weights_small)))
