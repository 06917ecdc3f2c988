use Rattle.pls_scheme.proofs.Rejecting.{is_scheme-marked}
use Rattle.pls_scheme.proofs.certify.is_scheme.Goals as goal

pub returns : goal.returns
returns g c =
    let scheme = c.args.scheme.now in
    let found = c.in_ok-mark.ensures in
    is_scheme-marked (g.S.Checker.judge scheme) (g.S.Property.holds scheme)
    (g.S.Scheme.longest scheme) (g.met.S.Scheme.sound_law scheme) c.args.net.now c.is_valid.ensures
    c.requires c.in_ok-mark.field-0 found.lacking found.holds found.each found.accepted found.short
