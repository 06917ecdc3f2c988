-- The verdict on a view, by what is read of it.
use Rattle.std.proofs.Common.{◌≡◌, ◌∙◌, ℕ, ◌<◌, ◌≤◌, ◌^◌, Bool, List, length, map, Option, Some, None, option_map, refl, sym, ap, subst, true, false}
use Rattle.std.specs.Prelude.{All}
use Rattle.std.specs.Option.{is_some}
use Rattle.std.specs.List.{list_all}
use Rattle.std.proofs.lemmas.List.{length-map}
use Rattle.pls_configuration.specs.declared.limits.TheConstants.{MAX_DEGREE}
use Rattle.pls_configuration.specs.declared.verdict.Verdict.{Verdict}
use Rattle.pls_configuration.specs.declared.verdict.Verdict.TheVariants.{Reject}
use Rattle.pls_labels.specs.Seen.{Seen, SeenPort}
use Rattle.pls_labels.specs.declared.view.PortView.{PortView}
use Rattle.pls_bits.specs.Gamma.{gamma_takes}
use Rattle.pls_numbers.specs.declared.kind.FieldKind.{FieldKind}
use Rattle.pls_rules.specs.RuleSet.{Rules, kinds_of}
use Rattle.pls_scheme.specs.Judging.{judged_from}
use Rattle.pls_scheme.specs.Reading.{judge_by}
use Rattle.pls_compile.specs.Readable.{IsReadable}
use Rattle.pls_compile.specs.ReadLabels.{is_read, numbers_in, sight_of}
use Rattle.pls_compile.specs.RuleMeaning.{meaning, rules_hold}
use Rattle.pls_compile.proofs.ReadLabels.{all_read, other_unread, sight_fits}
use Rattle.pls_compile.proofs.ShownPorts.{all_shown, shows}

some_still : (f : List ℕ → List ℕ) (found : Option (List ℕ)) → is_some found ≡ true
    → is_some (option_map f found) ≡ true
some_still f None is = is
some_still f (Some values) is = refl

module _ (kinds : List FieldKind) (set : Rules) (same : kinds ≡ kinds_of set.fields)
    (view : Seen) (own : List Bool) (own_is : own ≡ view.own) (found : Option (List ℕ))
    (f : List ℕ → List ℕ) (read : option_map f found ≡ numbers_in kinds own)
    (is : is_some found ≡ true) (ports : List PortView) (ports_are : view.ports ≡ map shows ports)
    (all : Bool) (all_is : all ≡ list_all (λ (port : PortView). is_read kinds port.label) ports)
  where
    own_read : is_read kinds view.own ≡ true
    own_read =
        ap (λ (bits : List Bool). is_read kinds bits) (sym own_is) ∙ ap is_some (sym read)
        ∙ some_still f found is

    ports_read : list_all (λ (port : SeenPort). is_read kinds port.label) view.ports ≡ all
    ports_read = all_shown kinds ports view.ports all ports_are all_is

    meaning_is : judge_by (numbers_in kinds) (rules_hold set.rules) view
        ≡ meaning gamma_takes set view
    meaning_is =
        ap (λ (kinds : List FieldKind). judge_by (numbers_in kinds) (rules_hold set.rules)
        view) same

    pub rejects : all ≡ false → Reject 1 2 ≡ meaning gamma_takes set view
    rejects not_all =
        sym (other_unread kinds (rules_hold set.rules) view own_read (ports_read ∙ not_all))
        ∙ meaning_is

    pub judges : all ≡ true → (verdict : Verdict)
        → verdict ≡ judged_from 3 (rules_hold set.rules (sight_of kinds view))
        → verdict ≡ meaning gamma_takes set view
    judges are verdict verdict_is =
        verdict_is ∙ sym (all_read kinds (rules_hold set.rules) view own_read (ports_read ∙ are))
        ∙ meaning_is

    pub readable : all ≡ true → view.id < 2 ^ 64 → view.state.mark < 2 ^ 64
        → view.state.num < 2 ^ 64 → length view.ports ≤ MAX_DEGREE
        → All (λ (port : SeenPort). port.weight < 2 ^ 64) view.ports
        → IsReadable (length set.fields) (sight_of kinds view)
    readable are id mark num few weights =
        let many : length kinds ≡ length set.fields =
        ap length same ∙ length-map set.fields (λ field. field.kind) in
        subst (λ (count : ℕ). IsReadable count (sight_of kinds view)) many
        (sight_fits kinds view own_read (ports_read ∙ are) id mark num few weights)
