use Rattle.std.proofs.Common.{◌∙◌, refl, ap}
use Rattle.pls_scheme.specs.Reading.{label_above}
use Rattle.pls_pathmax.specs.declared.gathering.PortTally.{PortTally}
use Rattle.pls_pathmax.specs.inner.Glance.{head_seen}
use Rattle.pls_pathmax.proofs.Glances.{head_kept}
use Rattle.pls_pathmax.proofs.pass.PathMaxPassJudgesInPlace.close.Goals as goal

pub returns : goal.returns
returns g c label ports said glance above tally =
    c.judged_from.ensures
    ∙ rw (
      c.is_placed-placed.ensures label ports (ap (head_seen g.row.N) glance)
          (head_kept g.row.N (label_above ports c.args.state.up) _ _ c.head_above.ensures above),
      ap (λ (tally : PortTally). tally.agrees) tally,
      c.has_ways-ways.ensures c.args.id c.args.state label ports said glance
          (ap (λ (tally : PortTally). tally.led_on) tally),
      ap (λ (tally : PortTally). tally.heavy) tally,
    ) refl
