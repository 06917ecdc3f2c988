-- What a step on a view needs.
use Rattle.std.proofs.Common.{◌≡◌, ◌∙◌, ℕ, ◌<◌, ◌≤◌, ◌^◌, List, length, ap, subst, sym, true, arith}
use Rattle.std.specs.Prelude.{All}
use Rattle.std.specs.List.{list_all}
use Rattle.std.proofs.lemmas.List.{length-map}
use Rattle.pls_configuration.specs.declared.limits.TheConstants.{MAX_DEGREE}
use Rattle.pls_labels.specs.Seen.{Seen, SeenPort}
use Rattle.pls_numbers.specs.declared.kind.FieldKind.{FieldKind}
use Rattle.pls_rules.specs.RuleSet.{AreRules, IsRule, Rules, kinds_of}
use Rattle.pls_compile.specs.declared.instr.Instr.{Instr}
use Rattle.pls_compile.specs.Code.{code_of_rules}
use Rattle.pls_compile.specs.ReadLabels.{is_read, sight_of}
use Rattle.pls_compile.specs.RuleMachine.{IsAble, IsReached, MachineState, step}
use Rattle.pls_compile.proofs.ReadLabels.{sight_fits}
use Rattle.pls_compile.proofs.Stepping.{reached_able}

pub few_kinds : (kinds : List FieldKind) (set : Rules) → AreRules set
    → kinds ≡ kinds_of set.fields → length kinds ≤ 8
few_kinds kinds set are same =
    let many : length kinds ≡ length set.fields =
    ap length same ∙ length-map set.fields (λ field. field.kind) in
    omega (arith, many, are.fields)

pub steppable : (kinds : List FieldKind) (set : Rules) → AreRules set
    → kinds ≡ kinds_of set.fields → (code : List Instr) → code ≡ code_of_rules set.rules
    → (view : Seen) → is_read kinds view.own ≡ true
    → list_all (λ (port : SeenPort). is_read kinds port.label) view.ports ≡ true
    → view.id < 2 ^ 64 → view.state.mark < 2 ^ 64 → view.state.num < 2 ^ 64
    → length view.ports ≤ MAX_DEGREE → All (λ (port : SeenPort). port.weight < 2 ^ 64) view.ports
    → (state : MachineState) → IsReached code (sight_of kinds view) state
    → IsAble (step code (sight_of kinds view) state)
steppable kinds set are same code code_is view own ports id mark num few weights state reached =
    let many : length kinds ≡ length set.fields =
    ap length same ∙ length-map set.fields (λ field. field.kind) in
    let fits = sight_fits kinds view own ports id mark num few weights in
    reached_able set.rules (length kinds) (sight_of kinds view) fits
    (subst (λ (count : ℕ). All (IsRule count) set.rules) (sym many) are.each) code code_is state
    reached
