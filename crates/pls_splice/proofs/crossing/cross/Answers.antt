use Rattle.std.proofs.Common.{◌∙◌, sym, subst, ap, map}
use Rattle.pls_configuration.specs.Configuration.{AreWithinLimits}
use Rattle.pls_splice.specs.Crossing.{cross_row}
use Rattle.pls_splice.specs.declared.crossing.Ends.{Ends}
use Rattle.pls_splice.proofs.CrossedRows.{crossed_network}
use Rattle.pls_splice.proofs.crossing.cross.Goals as goal

pub build-requires : goal.build-requires
build-requires c =
    let rows = c.args.net.now in
    let same = c.in_ok-rows.ensures
    ∙ ap (λ (ends : Ends). map (cross_row ends) rows) c.ends_of-ends.ensures in
    record {
      within_limits = subst AreWithinLimits (sym same)
          (crossed_network rows c.is_valid.ensures c.args.labels.now c.args.ring.now c.requires.read
          c.args.pair.first c.args.pair.second c.requires.pair).limits;
    }
