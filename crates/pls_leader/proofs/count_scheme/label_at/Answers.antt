use Rattle.std.proofs.Common.{◌≡◌, ◌∙◌, ℕ, get_or, slice_get, Option, Some, None, ap, sym, arith}
use Rattle.std.proofs.lemmas.Option.{same_Some, slice_get-get_or}
use Rattle.std.specs.Option.{option_map}
use Rattle.pls_configuration.specs.declared.row.NodeRow.{NodeRow}
use Rattle.pls_leader.proofs.Counted.{parents_within}
use Rattle.pls_leader.proofs.Written.{IsWritten, counted_right, written_own, written_parent}
use Rattle.pls_leader.proofs.count_scheme.label_at.Goals.{in-Some, in-None}
use Rattle.pls_leader.proofs.count_scheme.label_at.Goals as goal

pub node-requires : goal.node-requires
node-requires c =
    let each = c.requires.parents.each in
    let within = c.requires.within in
    let inside = parents_within c.args.net.now c.node-root.ensures.valid c.args.levels.now
    c.requires.levels c.args.parents.now c.requires.parents c.args.place c.in-Some.parent
    (slice_get-get_or c.args.parents.now c.args.place None (omega (arith, each, within))
    ∙ ap Some c.in-Some.is) in
    omega (arith, inside, each)

pub returns : goal.returns
returns c row at first first_at =
    let within = c.requires.within in
    let each = c.requires.parents.each in
    let sizes_each = c.requires.sizes.each in
    let id : NodeRow → ℕ = λ (row : NodeRow). row.id in
    let root_is : c.node-root.result.0 ≡ first.id =
    same_Some c.node-root.result.0 first.id
    (sym c.node-root.ensures.id ∙ ap (option_map id) first_at) in
    let own_is : c.node-own.result.0 ≡ row.id =
    same_Some c.node-own.result.0 row.id (sym c.node-own.ensures.id ∙ ap (option_map id) at) in
    let written : (entry : Option ℕ) → slice_get c.args.parents.now c.args.place ≡ Some entry
    → IsWritten c.args.net.now row entry c.match-parents-place.parent =
    elim c.match-parents-place.branch [
      | in-Some w ↦
          rw w.parent-is (written_parent c.args.net.now row c.args.parents.now c.args.place
          w.in-Some.parent w.node.result.0 w.in-Some.is w.node.ensures.id)
      | in-None w ↦
          rw w.parent-is (written_own c.args.net.now row c.args.parents.now c.args.place
          c.node-own.result.0 w.in-None.is own_is)
    ] in
    rw (
      c.from.ensures ∙ root_is,
      c.from-2.ensures ∙ own_is,
      c.from-3.ensures,
      c.from-4.ensures,
      c.from-5.ensures,
      c.len.ensures.len,
    )
    (counted_right c.args.net.now c.node-root.ensures.valid c.args.levels.now c.requires.levels
    c.args.parents.now c.requires.parents c.args.sizes.now c.requires.sizes c.args.place row at
    first first_at c.match-parents-place.parent (get_or c.args.sizes.now c.args.place 0)
    (slice_get-get_or c.args.sizes.now c.args.place 0 (omega (arith, within, each, sizes_each)))
    written first first_at)
