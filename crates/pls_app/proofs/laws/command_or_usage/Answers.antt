use Rattle.pls_app.proofs.Decided.{command_or_not}
use Rattle.pls_app.proofs.laws.command_or_usage.Goals as goal

pub returns : goal.returns
returns c = command_or_not
