use Rattle.pls_app.proofs.Verified.{read_back}
use Rattle.pls_app.proofs.laws.marked_is_input.Goals as goal

pub returns : goal.returns
returns c = read_back
