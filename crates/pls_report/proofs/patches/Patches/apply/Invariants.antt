use Rattle.std.proofs.Common.{◌≡◌, ◌≤◌, ◌++◌, drop}
use Rattle.std.specs.Vec.{vec_capacity}
use Rattle.pls_report.specs.inner.Patches.{patch_text, patches_at}
use Rattle.pls_report.proofs.patches.Patches.apply.Given as goal

abbrev pub invariant-loop-place : goal.invariant-loop-place
invariant-loop-place l =
    (l.after.items ++ patch_text (patches_at (drop l.place-index l.place-items) l.lines) l.left
    ≡ patch_text l.fn.self l.fn.before)
    × (vec_capacity l.fn.after ≤ vec_capacity l.after)
