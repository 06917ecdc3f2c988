use Rattle.std.proofs.Common.{◌∙◌, ap, sym}
use Rattle.pls.specs.inner.Limits.{is_within_limits}
use Rattle.pls.proofs.Limits.{beyond, within}
use Rattle.pls.proofs.networks.network_of.Goals as goal

pub returns-then-not-are_within_limits-clause-refused : goal.returns-then-not-are_within_limits-clause-refused
returns-then-not-are_within_limits-clause-refused c =
    beyond c.args.rows.items (ap is_within_limits (sym c.as_slice.ensures.value)
    ∙ sym c.are_within_limits.ensures ∙ c.if-not-are_within_limits.true)

pub build-requires : goal.build-requires
build-requires c = record {
  within_limits = within c.args.rows.items (ap is_within_limits (sym c.as_slice.ensures.value)
      ∙ sym c.are_within_limits.ensures ∙ c.if-not-are_within_limits.false);
}
