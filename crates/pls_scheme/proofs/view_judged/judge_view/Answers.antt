use Rattle.std.proofs.Common.{◌≡◌, ◌∙◌, ◌≤◌, ℕ, Bool, List, Option, Some, length, slice_get, take, sym, ap, arith, if◌then◌else◌}
use Rattle.std.proofs.lemmas.List.{length-map, take_all}
use Rattle.pls_labels.specs.Seen.{Seen, SeenPort}
use Rattle.pls_facts.proofs.Lists.{item_mapped}
use Rattle.pls_scheme.specs.Reading.{is_pointer}
use Rattle.pls_scheme.specs.inner.Looks.{seen_above, seen_in}
use Rattle.pls_scheme.proofs.Passing.{above_more, above_none, pass_more, pass_opened, passed, unpassed}
use Rattle.pls_scheme.proofs.view_judged.judge_view.Goals as goal
use Rattle.pls_numbers.specs.Shape.{said_by}
use Rattle.pls_scheme.proofs.view_judged.judge_view.Goals.{else-is_pointer, then-is_pointer}

pub loop-place-init : goal.loop-place-init
loop-place-init g c =
    let said = said_by (g.R.Format.Format.shape (g.R.Judgement.format c.args.rules.now)) g.R.Code.NumCode.takes in
    let glance = g.R.JudgesInPlace.glance c.args.rules.now in
    let view = c.args.view.now in record {
      passed = pass_opened said glance (g.R.JudgesInPlace.tally_of c.args.rules.now) view
          c.in-Some.glance c.open-tally.result
          (sym c.in-Some.is ∙ c.look.ensures
          ∙ ap (λ (view : Seen). seen_in said glance view.own) c.view.view_is)
          (λ label same. c.open-tally.ensures view.id view.state label same);
      above = above_none said glance view.state.up;
    }

pub returns-in_default-look : goal.returns-in_default-look
returns-in_default-look g c =
    let port : SeenPort = record { weight = c.port-item.result.weight; label = c.port-item.result.label } in
    let at : slice_get c.args.view.now.ports c.loop-place.place ≡ Some port =
    rw (← c.view.view_is, ← c.deref-port-items.ensures)
    (item_mapped _ c.deref-port-items.result.now c.loop-place.place c.port-item.result
    c.loop-place-test.true c.port-item.is) in
    unpassed (said_by (g.R.Format.Format.shape (g.R.Judgement.format c.args.rules.now)) g.R.Code.NumCode.takes) (g.R.JudgesInPlace.glance c.args.rules.now)
    (g.R.JudgesInPlace.tally_of c.args.rules.now) c.args.view.now
    (g.R.Judgement.rules c.args.rules.now) c.loop-place.place c.loop-place.tally port
    c.loop-place.invariant.passed at (sym c.in_default-look.is ∙ c.look-in-loop-place.ensures)

pub loop-place-preserved : goal.loop-place-preserved
loop-place-preserved g c =
    let said = said_by (g.R.Format.Format.shape (g.R.Judgement.format c.args.rules.now)) g.R.Code.NumCode.takes in
    let glance = g.R.JudgesInPlace.glance c.args.rules.now in
    let view = c.args.view.now in
    let port : SeenPort = record { weight = c.port-item.result.weight; label = c.port-item.result.label } in
    let at : slice_get c.args.view.now.ports c.loop-place.place ≡ Some port =
    rw (← c.view.view_is, ← c.deref-port-items.ensures)
    (item_mapped _ c.deref-port-items.result.now c.loop-place.place c.port-item.result
    c.loop-place-test.true c.port-item.is) in
    let port_seen : Some c.in-Some-look.seen ≡ seen_in said glance port.label =
    sym c.in-Some-look.is ∙ c.look-in-loop-place.ensures in
    let up_is = ap (λ (view : Seen). view.state.up) c.view.view_is in
    let before = seen_above said glance (take c.loop-place.place view.ports) view.state.up in
    let more = above_more said glance view.ports c.loop-place.place port view.state.up
    c.in-Some-look.seen at port_seen in
    let test = sym (c.is_pointer.ensures
    ∙ ap (λ (up : Option ℕ). is_pointer up c.loop-place.place) up_is) in record {
      passed = pass_more said glance (g.R.JudgesInPlace.tally_of c.args.rules.now) view
          c.loop-place.place c.loop-place.tally c.pass-tally.result port c.in-Some.glance
          c.in-Some-look.seen c.loop-place.invariant.passed at
          (sym c.in-Some.is ∙ c.look.ensures
          ∙ ap (λ (view : Seen). seen_in said glance view.own) c.view.view_is) port_seen
          (λ mine theirs ports many own_read own_same port_read port_same is.
          c.pass-tally.ensures view.id view.state mine theirs ports (sym up_is) many
          (ap (λ (view : Seen). said view.own) c.view.view_is ∙ own_read) own_same port_read
          port_same is);
      above = elim c.if-is_pointer.branch [
        | then-is_pointer w ↦ w.above-is
            ∙ sym (more ∙ ap (λ (here : Bool). if here then Some c.in-Some-look.seen
            else before) (test ∙ w.if-is_pointer.true))
        | else-is_pointer w ↦ w.above-is ∙ c.loop-place.invariant.above
            ∙ sym (more ∙ ap (λ (here : Bool). if here then Some c.in-Some-look.seen
            else before) (test ∙ w.if-is_pointer.false))
      ];
    }

pub returns : goal.returns
returns g c =
    let said = said_by (g.R.Format.Format.shape (g.R.Judgement.format c.args.rules.now)) g.R.Code.NumCode.takes in
    let glance = g.R.JudgesInPlace.glance c.args.rules.now in
    let view = c.args.view.now in
    let id_is = ap (λ (view : Seen). view.id) c.view.view_is in
    let state_is = ap (λ (view : Seen). view.state) c.view.view_is in
    let many : length view.ports ≡ length c.deref-port-items.result.now =
    ap (λ (view : Seen). length view.ports) (sym c.view.view_is) ∙ length-map _ _
    ∙ ap length (sym c.deref-port-items.ensures) in
    let over = c.loop-place-test.false in
    let ends : length view.ports ≤ c.loop-place.place = omega (arith, many, over) in
    passed said glance (g.R.JudgesInPlace.tally_of c.args.rules.now) view
    (g.R.Judgement.rules c.args.rules.now) c.loop-place.place c.loop-place.tally c.in-Some.glance
    c.loop-place.above c.close.result ends c.loop-place.invariant.passed
    (sym c.in-Some.is ∙ c.look.ensures
    ∙ ap (λ (view : Seen). seen_in said glance view.own) c.view.view_is)
    (c.loop-place.invariant.above ∙ ap (λ (ports : List SeenPort).
    seen_above said glance ports view.state.up) (take_all c.loop-place.place view.ports ends))
    (λ own ports own_read same above is.
    rw (← id_is, ← state_is) (c.close.ensures own ports
    (ap (λ (view : Seen). said view.own) c.view.view_is ∙ own_read) same
    (rw (← state_is) at (c.as_ref.ensures.value ∙ above)) (rw (← id_is, ← state_is) at is)))
