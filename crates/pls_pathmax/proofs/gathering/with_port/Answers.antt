use Rattle.std.proofs.Common.{◌≡◌, ◌∙◌, ◌&&◌, true, false, ℕ, length, sym, ap}
use Rattle.std.specs.List.{list_any, zip}
use Rattle.pls_scheme.specs.Reading.{port_with, reading}
use Rattle.pls_pathmax.specs.declared.gathering.PortTally.{PortTally}
use Rattle.pls_pathmax.specs.declared.glance.PathMaxGlance.{PathMaxGlance}
use Rattle.pls_levels.specs.Rules.{is_in_tree}
use Rattle.pls_pathmax.specs.Rules.{meet_lightly}
use Rattle.pls_pathmax.specs.inner.OnePass.{with_leads}
use Rattle.pls_pathmax.proofs.MorePorts.{gathered_inside, gathered_outside, led_on_many}
use Rattle.pls_pathmax.proofs.gathering.with_port.Goals as goal

pub returns-then-is_in_tree : goal.returns-then-is_in_tree
returns-then-is_in_tree g c id state mine theirs ports up many own_read own_is theirs_read theirs_is
    before =
    let first : ℕ = c.args.first in
    let led_on = c.args.before.led_on in
    let inside : is_in_tree state.up mine (length ports) (port_with c.args.weight theirs) ≡ true =
    rw (
      up,
      many,
      ap (λ (glance : PathMaxGlance g.row.N). glance.head.parent) theirs_is,
      ap (λ (glance : PathMaxGlance g.row.N). glance.head.own) own_is,
    ) (sym c.is_in_tree.ensures
    ∙ c.if-is_in_tree.true) in
    gathered_inside first id state mine ports c.args.weight theirs c.args.before before inside
    c.agrees_too-agrees.result c.led_on_with-led_on.result
    (rw (
      ap (λ (glance : PathMaxGlance g.row.N). glance.head.root) theirs_is,
      ap (λ (glance : PathMaxGlance g.row.N). glance.head.root) own_is,
    ) c.agrees_too-agrees.ensures)
    (c.led_on_with-led_on.ensures mine theirs own_read own_is theirs_read theirs_is
    (ap (λ (was : PortTally). length was.led_on) before
    ∙ led_on_many first (reading id state mine ports))
    ∙ ap (λ (weight : ℕ). with_leads first weight mine.levels theirs.levels led_on)
    c.from-weight.ensures)

pub returns-else-is_in_tree : goal.returns-else-is_in_tree
returns-else-is_in_tree g c id state mine theirs ports up many own_read own_is theirs_read theirs_is
    before =
    let first : ℕ = c.args.first in
    let outside : is_in_tree state.up mine (length ports) (port_with c.args.weight theirs) ≡ false =
    rw (
      up,
      many,
      ap (λ (glance : PathMaxGlance g.row.N). glance.head.parent) theirs_is,
      ap (λ (glance : PathMaxGlance g.row.N). glance.head.own) own_is,
    ) (sym c.is_in_tree.ensures ∙ c.if-is_in_tree.false)
    in
    gathered_outside first id state mine ports c.args.weight theirs c.args.before before outside
    c.agrees_too-agrees.result c.is_heavy_too-heavy.result
    (rw (
      ap (λ (glance : PathMaxGlance g.row.N). glance.head.root) theirs_is,
      ap (λ (glance : PathMaxGlance g.row.N). glance.head.root) own_is,
    ) c.agrees_too-agrees.ensures)
    (c.is_heavy_too-heavy.ensures mine theirs own_read own_is theirs_read theirs_is
    ∙ ap (λ (weight : ℕ). c.args.before.heavy
    && list_any (λ both. meet_lightly weight both.0 both.1) (zip mine.levels theirs.levels))
    c.from-weight.ensures)
