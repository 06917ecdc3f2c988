use Rattle.std.proofs.Common.{◌∙◌, refl, ap}
use Rattle.pls_mst.specs.declared.glance.MstGlance.{MstGlance}
use Rattle.pls_mst.proofs.MorePorts.{is_gathered}
use Rattle.pls_mst.proofs.gathering.with_port.Goals as goal

pub returns : goal.returns
returns g c id state mine theirs ports up many mine_read mine_is theirs_read theirs_is before =
    is_gathered id state mine ports c.args.weight theirs c.is_pointer-pointer.result
    c.args.own.now.glance.now.head c.args.label.now.glance.now.head c.port_edge-between.result
    c.compare_levels-both.result c.args.before c.with.result
    (c.is_pointer-pointer.ensures ∙ rw (up, many) refl)
    (ap (λ (glance : MstGlance). glance.head) mine_is)
    (ap (λ (glance : MstGlance). glance.head) theirs_is) before c.port_edge-between.ensures
    (c.compare_levels-both.ensures mine theirs mine_read mine_is theirs_read theirs_is)
    c.with.ensures
