use Rattle.std.proofs.Common.{refl}
use Rattle.std.proofs.lemmas.Bool.{OnTrue_at}
use Rattle.pls_diameter_bridges.proofs.Strong.{strong_bridgeless}
use Rattle.pls_diameter_bridges.proofs.bridgeless.is_bridgeless.Goals as goal

pub returns-then-is_strong : goal.returns-then-is_strong
returns-then-is_strong c = (
  λ yes. strong_bridgeless c.args.net.now c.is_valid.ensures c.deref-3.result.now
      c.deref-4.result.now c.deref-5.result.now
      (OnTrue_at c.if-is_strong.true c.is_strong.ensures) c.requires,
  λ holds. refl,
)
