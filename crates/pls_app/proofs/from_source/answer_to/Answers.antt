use Rattle.std.proofs.Common.{◌≡◌, ◌∙◌, ap, subst, sym}
use Rattle.std.proofs.lemmas.Result.{IfOk-weaker}
use Rattle.pls_app.specs.declared.command.Command.{Command}
use Rattle.pls_app.specs.declared.command.Command.TheVariants.{With}
use Rattle.pls_app.specs.declared.command.Task.{Task}
use Rattle.pls_app.specs.Answer.{Answers}
use Rattle.pls_app.specs.Ruled.{rules_answer}
use Rattle.pls_app.specs.Trial.{IsTrialAnswer}
use Rattle.pls_app.specs.inner.Commands.{IsInWords}
use Rattle.pls_app.proofs.Answered.{print_answers, trial_answers}
use Rattle.pls_app.proofs.InWords.{printed_set, small_scheme, trial_size}
use Rattle.pls_app.proofs.from_source.answer_to.Goals as goal

pub answer_with-requires-clause-small : goal.answer_with-requires-clause-small
answer_with-requires-clause-small g c =
    small_scheme c.in-With.task c.in-With.scheme (subst IsInWords c.in-With.is c.requires.said)

pub trial-requires : goal.trial-requires
trial-requires g c =
    trial_size c.in-Trial.nodes c.in-Trial.seed (subst IsInWords c.in-Trial.is c.requires.said)

pub print_named-requires : goal.print_named-requires
print_named-requires g c = printed_set c.in-Print.name (subst IsInWords c.in-Print.is c.requires.said)

pub returns-in-Trial-clause-answer : goal.returns-in-Trial-clause-answer
returns-in-Trial-clause-answer g c =
    IfOk-weaker c.trial.result (λ answer. IsTrialAnswer c.in-Trial.nodes c.in-Trial.seed answer)
    (λ answer. Answers c.args.command c.args.bytes.items answer)
    (λ answer tried. subst (λ (command : Command). Answers command c.args.bytes.items answer)
    (sym c.in-Trial.is)
    (trial_answers c.args.bytes.items c.in-Trial.nodes c.in-Trial.seed answer tried))
    c.trial.ensures.trial

pub returns-in-Print-clause-answer : goal.returns-in-Print-clause-answer
returns-in-Print-clause-answer g c =
    IfOk-weaker c.print_named.result (λ answer. answer ≡ rules_answer c.in-Print.name)
    (λ answer. Answers c.args.command c.args.bytes.items answer)
    (λ answer same. subst (λ (command : Command). Answers command c.args.bytes.items answer)
    (sym c.in-Print.is) (print_answers c.args.bytes.items c.in-Print.name answer same))
    c.print_named.ensures

pub returns-in-With-clause-unasked : goal.returns-in-With-clause-unasked
returns-in-With-clause-unasked g c none =
    c.answer_with.ensures.unasked (λ is. none c.in-With.scheme
    (c.in-With.is ∙ ap (λ (task : Task). With task c.in-With.scheme) is))
