use Rattle.pls_app.proofs.Verified.{verified}
use Rattle.pls_app.proofs.laws.marked_is_verified.Goals as goal

pub returns : goal.returns
returns c code scheme bytes text small certifies =
    verified code scheme bytes text certifies small
