use Rattle.std.proofs.Common.{◌∙◌, ◌+◌, ◌||◌, ℕ, false, Option, drop, get_or, slice_get, ap, arith}
use Rattle.std.proofs.lemmas.Option.{slice_get_past}
use Rattle.pls_centroid.specs.declared.level.CentroidLevel.{CentroidLevel}
use Rattle.pls_pathmax.specs.inner.OnePass.{leads_from}
use Rattle.pls_pathmax.proofs.Compared.{leads_nothing, nothing_leads, or_nothing}
use Rattle.pls_pathmax.proofs.LevelsLeft.{slice_get-behind}
use Rattle.pls_pathmax.proofs.comparing.note_ways.Goals as goal

pub returns-then-not-pass_levels : goal.returns-then-not-pass_levels
returns-then-not-pass_levels g c here there mine theirs k within =
    let first : ℕ = c.args.first in
    or_nothing (get_or c.args.flags.now k false)
    (leads_from c.args.weight (slice_get here (first + k)) (slice_get there (first + k)))
    (nothing_leads c.args.weight (slice_get here (first + k)) (slice_get there (first + k))
    (slice_get_past here (first + k)
    (let few = c.pass_levels.ensures.missing c.if-not-pass_levels.true here mine in
    omega (arith, few))))

pub returns-then-not-pass_levels-2 : goal.returns-then-not-pass_levels-2
returns-then-not-pass_levels-2 g c here there mine theirs k within =
    let first : ℕ = c.args.first in
    or_nothing (get_or c.args.flags.now k false)
    (leads_from c.args.weight (slice_get here (first + k)) (slice_get there (first + k)))
    (leads_nothing c.args.weight (slice_get here (first + k)) (slice_get there (first + k))
    (slice_get_past there (first + k)
    (let few = c.pass_levels-2.ensures.missing c.if-not-pass_levels-2.true there theirs in
    omega (arith, few))))

pub returns : goal.returns
returns g c here there mine theirs k within =
    let first : ℕ = c.args.first in
    c.note_ways_on.ensures _ _
    (c.pass_levels.ensures.passed c.if-not-pass_levels.false here mine)
    (c.pass_levels-2.ensures.passed c.if-not-pass_levels-2.false there theirs) k within
    ∙ ap (λ (found : Option CentroidLevel). get_or c.args.flags.now k false
    || leads_from c.args.weight found (slice_get (drop first there) k))
    (slice_get-behind here first k)
    ∙ ap (λ (found : Option CentroidLevel). get_or c.args.flags.now k false
    || leads_from c.args.weight (slice_get here (first + k)) found) (slice_get-behind there first k)
