use Rattle.std.proofs.Common.{◌∙◌, List, subst, sym}
use Rattle.pls_compile.specs.declared.instr.Instr.{Instr}
use Rattle.pls_compile.specs.ReadLabels.{sight_of}
use Rattle.pls_compile.specs.RuleMachine.{IsReached}
use Rattle.pls_compile.proofs.Steppable.{steppable}
use Rattle.pls_compile.proofs.machine.Machine.step.Goals as goal

pub step_on-requires : goal.step_on-requires
step_on-requires c =
    let set = c.requires.compiled in
    let fits = c.view_fits.ensures in
    steppable c.args.fields.now set.0 set.1 set.2 c.instructions.result.now
    (c.instructions.ensures ∙ set.3) c.args.view.now c.requires.own c.requires.ports fits.id
    fits.mark
    fits.num fits.few fits.weights c.args.self.now
    (subst (λ (code : List Instr). IsReached code (sight_of c.args.fields.now c.args.view.now)
    c.args.self.now) (sym c.instructions.ensures) c.requires.reached)
