use Rattle.std.proofs.Common.{◌≡◌, ◌∙◌, ℕ, ◌+◌, List, Bool, length, set, Some, refl, sym, ap, subst, arith}
use Rattle.pls_sim.specs.declared.event_error.EventError.{EventError}
use Rattle.pls_labels.specs.Stored.{cost}
use Rattle.pls_watch_part.specs.declared.watch_event.WatchEvent.TheVariants as Watches
use Rattle.pls_watch.specs.declared.turn.Turn.TheVariants.{Relabel}
use Rattle.pls_watch.specs.Turning.{Turned, turn_refusal, turning}
use Rattle.pls_watch.specs.Watching.{Watched, lacks_room, turned_of, watch_refusal, watching}
use Rattle.pls_watch.specs.inner.Stock.{IsStocked, watched_by}
use Rattle.pls_watch.proofs.Room.{full_refusal, relabel_refusal, same_refusal}
use Rattle.pls_watch.proofs.Stocked.{has_room, knows_same, room_for, stocked_relabel, turned_same, watched_relabel}
use Rattle.pls_watch.proofs.watch.Watch.relabel.Goals as goal

pub returns-then-lacks_room-clause-refused : goal.returns-then-lacks_room-clause-refused
returns-then-lacks_room-clause-refused c =
    full_refusal c.args.self.now c.args.node c.args.label.now
    (sym (c.lacks_room.ensures c.args.node c.args.label.now (sym c.len-len.ensures))
    ∙ c.if-lacks_room.true)

pub returns-in_err-place-clause-refused : goal.returns-in_err-place-clause-refused
returns-in_err-place-clause-refused c =
    let old = c.self.inside in
    let label : List Bool = c.args.label.now in
    let node : ℕ = c.args.node in
    same_refusal (λ (error : EventError). watch_refusal c.args.self.now (Watches.Relabel node label)
    ≡ Some error) c.from_residual.result c.from_residual.ensures.1
    (relabel_refusal c.args.self.now node label
    (sym (c.lacks_room.ensures node label (sym c.len-len.ensures)) ∙ c.if-lacks_room.false)
    ∙ ap (λ (watched : Watched). turn_refusal (turned_of watched) (Relabel node)) (sym
    c.self.view_is)
    ∙ ap (λ (turned : Turned). turn_refusal turned (Relabel node))
    (turned_same old.versions old.labels old.most_relabels old.most_bits)
    ∙ c.in_err-place.ensures.refused)

pub returns-clause-applies : goal.returns-clause-applies
returns-clause-applies c =
    let old = c.self.inside in
    let label : List Bool = c.args.label.now in
    let node : ℕ = c.args.node in
    relabel_refusal c.args.self.now node label
    (sym (c.lacks_room.ensures node label (sym c.len-len.ensures)) ∙ c.if-lacks_room.false)
    ∙ ap (λ (watched : Watched). turn_refusal (turned_of watched) (Relabel node)) (sym
    c.self.view_is)
    ∙ ap (λ (turned : Turned). turn_refusal turned (Relabel node))
    (turned_same old.versions old.labels old.most_relabels old.most_bits)
    ∙ c.in_ok-place.ensures.applies

pub replace_spare-requires-clause-within : goal.replace_spare-requires-clause-within
replace_spare-requires-clause-within c =
    let old = c.self.inside in
    let label : List Bool = c.args.label.now in
    let room = has_room old.versions old.labels old.most_relabels old.most_bits old.net.now old.relabels
    old.relabel_bits
    c.self.invariant c.args.node label
    (ap (λ (watched : Watched). lacks_room watched (Watches.Relabel c.args.node label))
    c.self.view_is
    ∙ sym (c.lacks_room.ensures c.args.node label (sym c.len-len.ensures)) ∙ c.if-lacks_room.false)
    in
    omega (arith, room.0, c.len.ensures.len, c.self.invariant.long)

pub replace_spare-requires-clause-room : goal.replace_spare-requires-clause-room
replace_spare-requires-clause-room c =
    let old = c.self.inside in
    let label : List Bool = c.args.label.now in
    let room = has_room old.versions old.labels old.most_relabels old.most_bits old.net.now old.relabels
    old.relabel_bits
    c.self.invariant c.args.node label
    (ap (λ (watched : Watched). lacks_room watched (Watches.Relabel c.args.node label))
    c.self.view_is
    ∙ sym (c.lacks_room.ensures c.args.node label (sym c.len-len.ensures)) ∙ c.if-lacks_room.false)
    in
    rw c.bits.ensures
    (room_for old.versions old.labels old.most_relabels old.most_bits old.net.now old.relabels old.relabel_bits
    c.self.invariant (length label) room.0 room.1)

pub overflow_add-self-2 : goal.overflow_add-self-2
overflow_add-self-2 c =
    let old = c.self.inside in
    let label : List Bool = c.args.label.now in
    let room = has_room old.versions old.labels old.most_relabels old.most_bits old.net.now old.relabels
    old.relabel_bits
    c.self.invariant c.args.node label
    (ap (λ (watched : Watched). lacks_room watched (Watches.Relabel c.args.node label))
    c.self.view_is
    ∙ sym (c.lacks_room.ensures c.args.node label (sym c.len-len.ensures)) ∙ c.if-lacks_room.false)
    in
    omega (arith, room.1, c.len-len.ensures, c.self.invariant.few_bits, c.self.invariant.small_bits)

pub returns-clause-taken : goal.returns-clause-taken
returns-clause-taken c =
    let old = c.self.inside in
    let label : List Bool = c.args.label.now in
    let room = has_room old.versions old.labels old.most_relabels old.most_bits old.net.now old.relabels
    old.relabel_bits
    c.self.invariant c.args.node label
    (ap (λ (watched : Watched). lacks_room watched (Watches.Relabel c.args.node label))
    c.self.view_is
    ∙ sym (c.lacks_room.ensures c.args.node label (sym c.len-len.ensures)) ∙ c.if-lacks_room.false)
    in
    let placed : c.replace_spare.new.self.labels ≡ set old.labels.labels (length old.net.now +
    old.relabels) label =
    c.replace_spare.ensures.replaced
    ∙ ap (λ (number : ℕ). set old.labels.labels number c.bits.result) (omega (
      arith,
      c.len.ensures.len,
    ))
    ∙ ap (set old.labels.labels (length old.net.now + old.relabels)) c.bits.ensures in
    let spent : c.replace_spare.new.self.spare + cost (length label) ≡ old.labels.spare =
    ap (λ (bits : List Bool). c.replace_spare.new.self.spare + cost (length bits)) (sym
    c.bits.ensures)
    ∙ c.replace_spare.ensures.spare in
    ap (λ (turned : Turned). watched_by turned c.replace_spare.new.self old.most_relabels old.most_bits)
    c.in_ok-place.ensures.taken
    ∙ watched_relabel old.versions old.labels old.most_relabels old.most_bits old.net.now old.relabels
    old.relabel_bits
    c.self.invariant c.args.node label c.replace_spare.new.self placed spent room.0 room.1
    ∙ ap (watching (Watches.Relabel c.args.node label)) c.self.view_is

pub invariant_of-self-2 : goal.invariant_of-self-2
invariant_of-self-2 c =
    let old = c.self.inside in
    let label : List Bool = c.args.label.now in
    let room = has_room old.versions old.labels old.most_relabels old.most_bits old.net.now old.relabels
    old.relabel_bits
    c.self.invariant c.args.node label
    (ap (λ (watched : Watched). lacks_room watched (Watches.Relabel c.args.node label))
    c.self.view_is
    ∙ sym (c.lacks_room.ensures c.args.node label (sym c.len-len.ensures)) ∙ c.if-lacks_room.false)
    in
    let placed : c.replace_spare.new.self.labels ≡ set old.labels.labels (length old.net.now +
    old.relabels) label =
    c.replace_spare.ensures.replaced
    ∙ ap (λ (number : ℕ). set old.labels.labels number c.bits.result) (omega (
      arith,
      c.len.ensures.len,
    ))
    ∙ ap (set old.labels.labels (length old.net.now + old.relabels)) c.bits.ensures in
    let spent : c.replace_spare.new.self.spare + cost (length label) ≡ old.labels.spare =
    ap (λ (bits : List Bool). c.replace_spare.new.self.spare + cost (length bits)) (sym
    c.bits.ensures)
    ∙ c.replace_spare.ensures.spare in
    subst (λ (turned : Turned). IsStocked old.net.now turned c.replace_spare.new.self old.most_relabels
    old.most_bits
    (old.relabels + 1) (old.relabel_bits + c.len-len.result)) (sym c.in_ok-place.ensures.taken)
    (subst (λ (len : ℕ). IsStocked old.net.now (turning (Relabel c.args.node) old.versions)
    c.replace_spare.new.self old.most_relabels old.most_bits (old.relabels + 1) (old.relabel_bits + len))
    (sym c.len-len.ensures)
    (stocked_relabel old.versions old.labels old.most_relabels old.most_bits old.net.now old.relabels
    old.relabel_bits
    c.self.invariant c.args.node label c.replace_spare.new.self placed spent room.0 room.1))

pub returns-clause-others : goal.returns-clause-others
returns-clause-others c = λ i row stands differs.
    let old = c.self.inside in
    knows_same old.versions old.labels old.most_relabels old.most_bits c.args.self.now c.self.view_is
    (Watches.Relabel c.args.node c.args.label.now) (Relabel c.args.node) refl i row stands
    c.in_ok-place.place differs c.in_ok-place.ensures.holds c.in_ok-place.ensures.stays
