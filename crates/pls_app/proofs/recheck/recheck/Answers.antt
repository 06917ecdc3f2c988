use Rattle.std.proofs.Common.{Bool, List, Option, ap, ℕ}
use Rattle.std.proofs.lemmas.Result.{IfOk-weaker}
use Rattle.pls_combine.specs.Expression.{judge_of}
use Rattle.pls_app.proofs.recheck.recheck.Goals as goal

pub returns-clause-does : goal.returns-clause-does
returns-clause-does g c =
    IfOk-weaker c.with_checker.result _ _ (λ answer watched read takes is.
    watched.does c.args.scheme read
    (ap (λ (takes : List Bool → Option (ℕ × List Bool)). judge_of takes c.args.scheme) takes) is)
    c.with_checker.ensures

pub returns-clause-rechecked : goal.returns-clause-rechecked
returns-clause-rechecked g c =
    IfOk-weaker c.with_checker.result _ _ (λ answer watched read takes is.
    watched.rechecked c.args.scheme read
    (ap (λ (takes : List Bool → Option (ℕ × List Bool)). judge_of takes c.args.scheme) takes) is)
    c.with_checker.ensures
