use Rattle.std.proofs.Common.{◌∙◌, sym, subst}
use Rattle.pls_configuration.specs.Configuration.{AreWithinLimits}
use Rattle.pls_universal.specs.laws.RuleLaws.{limits-are}
use Rattle.pls_universal.proofs.Buildable.{pointers-none}
use Rattle.pls_universal.proofs.building.network_of.Goals as goal

pub returns-then-not-have_small_pointers : goal.returns-then-not-have_small_pointers
returns-then-not-have_small_pointers c =
    pointers-none c.args.rows.now
    (sym c.have_small_pointers.ensures ∙ c.if-not-have_small_pointers.true)

pub build-requires : goal.build-requires
build-requires c = record {
  within_limits = subst AreWithinLimits (sym c.in_ok-nodes_of.ensures)
      (limits-are c.args.rows.now
      (sym c.are_within_limits.ensures ∙ c.if-not-are_within_limits.false));
}
