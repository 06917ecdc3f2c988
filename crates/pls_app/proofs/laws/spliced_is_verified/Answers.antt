use Rattle.pls_app.proofs.Splits.{splits_verified}
use Rattle.pls_app.proofs.laws.spliced_is_verified.Goals as goal

pub returns : goal.returns
returns c = splits_verified
