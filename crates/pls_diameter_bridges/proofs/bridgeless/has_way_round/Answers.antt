use Rattle.std.proofs.lemmas.Bool.{OnFalse_at, OnTrue_at, false_from_ne_true, not-true, not_from_false}
use Rattle.pls_diameter_bridges.proofs.Crossed.{blocked, opened}
use Rattle.pls_diameter_bridges.proofs.bridgeless.has_way_round.Goals as goal

pub returns : goal.returns
returns c = (
  λ yes. opened c.args.net.now c.is_only_crossing.ensures.valid c.requires.joined c.args.place
      c.args.other c.args.near.now c.args.far.now c.requires.near c.requires.far c.requires.beside
      (OnFalse_at (not-true c.is_only_crossing.result yes) c.is_only_crossing.ensures.another),
  λ way. not_from_false c.is_only_crossing.result (false_from_ne_true c.is_only_crossing.result
      (λ only. blocked c.args.net.now c.is_only_crossing.ensures.valid c.requires.joined
      c.args.place c.args.other c.args.near.now c.args.far.now c.requires.near c.requires.far
      c.requires.beside c.requires.within
      (OnTrue_at only c.is_only_crossing.ensures.only) way)),
)
