use Rattle.std.proofs.Common.{◌≡◌, ◌∙◌, arith, length, List, Some, get_or, slice_get, refl, sym, ap, subst}
use Rattle.std.specs.Option.{option_copied}
use Rattle.std.proofs.lemmas.List.{length-map}
use Rattle.std.proofs.lemmas.Option.{slice_get-get_or}
use Rattle.pls_configuration.specs.declared.row.Port.{Port}
use Rattle.pls_configuration.specs.declared.verdict.Verdict.TheVariants.{Reject}
use Rattle.pls_labels.specs.Seen.{Seen, SeenPort, label_of, seen_port}
use Rattle.pls_labels.proofs.Views.{placed}
use Rattle.pls_scheme.specs.Reading.{judge_by}
use Rattle.pls_scheme.specs.inner.Looks.{seen_above, seen_in}
use Rattle.pls_scheme.proofs.LookedAt.{above_kept, is_shown, kept_there, place_for_port, pointer_some, port_placed, port_shown, shown_from}
use Rattle.pls_scheme.proofs.Passing.{pass_more, pass_opened, passed, unopened, unpassed}
use Rattle.pls_numbers.specs.Shape.{said_by}
use Rattle.pls_scheme.proofs.round.verdict_by_all.Goals as goal

pub returns-in_default : goal.returns-in_default
returns-in_default g c view at =
    let rows = c.args.net.now in
    let labels = g.L.Labels.listed c.args.labels.now in
    let said = said_by (g.R.Format.Format.shape (g.R.Judgement.format c.args.rules.now)) g.R.Code.NumCode.takes in
    let glance = g.R.JudgesInPlace.glance c.args.rules.now in
    let rules = g.R.Judgement.rules c.args.rules.now in
    let node = c.node-id.result in
    let bits = c.bits-bits.result in
    subst (λ (view : Seen). Reject 1 1 ≡ judge_by said rules view)
    (is_shown rows labels c.args.i node.0 node.1 bits c.ports-ports.result.now view
    c.node-id.ensures.id c.node-id.ensures.state c.ports-ports.ensures
    (placed rows c.node-id.ensures.valid c.args.i node.0 c.node-id.ensures.id)
    c.bits-bits.ensures at)
    (unopened said glance (g.R.JudgesInPlace.tally_of c.args.rules.now)
    (shown_from rows labels node.0 node.1 bits c.ports-ports.result.now) rules
    (ap option_copied (sym c.in_default.is) ∙ c.glance.ensures ∙ kept_there said glance g.E.GlanceMemory.glance_in_memory labels c.args.looked.now c.requires.looked
    c.args.i bits c.index-looked-i.result c.bits-bits.ensures c.index-looked-i.is))

pub loop-p-init : goal.loop-p-init
loop-p-init g c =
    let said = said_by (g.R.Format.Format.shape (g.R.Judgement.format c.args.rules.now)) g.R.Code.NumCode.takes in
    let glance = g.R.JudgesInPlace.glance c.args.rules.now in
    let node = c.node-id.result in
    let bits = c.bits-bits.result in
    pass_opened said glance (g.R.JudgesInPlace.tally_of c.args.rules.now)
    (shown_from c.args.net.now (g.L.Labels.listed c.args.labels.now) node.0 node.1 bits c.ports-ports.result.now)
    c.in-Some.glance.now c.open-tally.result
    (ap option_copied (sym c.in-Some.is) ∙ c.glance.ensures ∙ kept_there said glance g.E.GlanceMemory.glance_in_memory (g.L.Labels.listed c.args.labels.now) c.args.looked.now
    c.requires.looked c.args.i bits c.index-looked-i.result c.bits-bits.ensures
    c.index-looked-i.is)
    (λ label same. c.open-tally.ensures node.0 node.1 label same)

pub bounds-places-p : goal.bounds-places-p
bounds-places-p g c =
    place_for_port c.args.net.now c.node-id.ensures.valid c.args.i c.ports-ports.result.now
    c.ports-ports.ensures c.places-places.result.now c.places-places.ensures.places c.loop-p.p
    c.loop-p-test.true

pub returns-in_default-glance : goal.returns-in_default-glance
returns-in_default-glance g c view at =
    let rows = c.args.net.now in
    let labels = g.L.Labels.listed c.args.labels.now in
    let said = said_by (g.R.Format.Format.shape (g.R.Judgement.format c.args.rules.now)) g.R.Code.NumCode.takes in
    let glance = g.R.JudgesInPlace.glance c.args.rules.now in
    let rules = g.R.Judgement.rules c.args.rules.now in
    let node = c.node-id.result in
    let bits = c.bits-bits.result in
    let ports : List Port = c.ports-ports.result.now in
    let p = c.loop-p.p in
    let place = get_or c.places-places.result.now p 0 in
    let port : Port = get_or ports p (record { nbr = 0; weight = 0 }) in
    let port_at : slice_get ports p ≡ Some port =
    slice_get-get_or ports p (record { nbr = 0; weight = 0 }) c.loop-p-test.true in
    let there = c.bits-bits-in-loop-p.result in
    let shows : SeenPort = record { weight = port.weight; label = there } in
    subst (λ (view : Seen). Reject 1 2 ≡ judge_by said rules view)
    (is_shown rows labels c.args.i node.0 node.1 bits ports view
    c.node-id.ensures.id c.node-id.ensures.state c.ports-ports.ensures
    (placed rows c.node-id.ensures.valid c.args.i node.0 c.node-id.ensures.id)
    c.bits-bits.ensures at)
    (unpassed said glance (g.R.JudgesInPlace.tally_of c.args.rules.now)
    (shown_from rows labels node.0 node.1 bits ports) rules p c.loop-p.tally shows
    c.loop-p.invariant
    (port_shown rows labels ports p port place there port_at
    (port_placed rows c.node-id.ensures.valid c.args.i ports c.ports-ports.ensures
    c.places-places.result.now c.places-places.ensures.places p port port_at)
    c.bits-bits-in-loop-p.ensures)
    (ap option_copied (sym c.in_default-glance.is) ∙ c.glance-in-loop-p.ensures ∙ kept_there said glance g.E.GlanceMemory.glance_in_memory labels c.args.looked.now
    c.requires.looked place there c.index-looked-place.result c.bits-bits-in-loop-p.ensures
    c.index-looked-place.is))

pub loop-p-preserved : goal.loop-p-preserved
loop-p-preserved g c =
    let rows = c.args.net.now in
    let labels = g.L.Labels.listed c.args.labels.now in
    let said = said_by (g.R.Format.Format.shape (g.R.Judgement.format c.args.rules.now)) g.R.Code.NumCode.takes in
    let glance = g.R.JudgesInPlace.glance c.args.rules.now in
    let node = c.node-id.result in
    let bits = c.bits-bits.result in
    let ports : List Port = c.ports-ports.result.now in
    let p = c.loop-p.p in
    let place = get_or c.places-places.result.now p 0 in
    let port : Port = get_or ports p (record { nbr = 0; weight = 0 }) in
    let port_at : slice_get ports p ≡ Some port =
    slice_get-get_or ports p (record { nbr = 0; weight = 0 }) c.loop-p-test.true in
    let there = c.bits-bits-in-loop-p.result in
    let shows : SeenPort = record { weight = port.weight; label = there } in
    pass_more said glance (g.R.JudgesInPlace.tally_of c.args.rules.now)
    (shown_from rows labels node.0 node.1 bits ports) p c.loop-p.tally c.pass-tally.result shows
    c.in-Some.glance.now c.in-Some-glance.glance.now c.loop-p.invariant
    (port_shown rows labels ports p port place there port_at
    (port_placed rows c.node-id.ensures.valid c.args.i ports c.ports-ports.ensures
    c.places-places.result.now c.places-places.ensures.places p port port_at)
    c.bits-bits-in-loop-p.ensures)
    (ap option_copied (sym c.in-Some.is) ∙ c.glance.ensures ∙ kept_there said glance g.E.GlanceMemory.glance_in_memory labels c.args.looked.now c.requires.looked
    c.args.i bits c.index-looked-i.result c.bits-bits.ensures c.index-looked-i.is)
    (ap option_copied (sym c.in-Some-glance.is) ∙ c.glance-in-loop-p.ensures ∙ kept_there said glance g.E.GlanceMemory.glance_in_memory labels c.args.looked.now
    c.requires.looked place there c.index-looked-place.result c.bits-bits-in-loop-p.ensures
    c.index-looked-place.is)
    (λ mine theirs so_far many own_read own_same port_read port_same is.
    c.pass-tally.ensures node.0 node.1 mine theirs so_far refl many own_read own_same port_read
    port_same is)

pub glance_above-above-requires-clause-pointer : goal.glance_above-above-requires-clause-pointer
glance_above-above-requires-clause-pointer g c =
    pointer_some c.args.net.now c.node-id.ensures.valid c.args.i c.ports-ports.result.now
    c.ports-ports.ensures c.places-places.result.now c.places-places.ensures.places
    c.node-id.result.1 c.node-id.ensures.state

pub glance_above-above-requires-clause-within : goal.glance_above-above-requires-clause-within
glance_above-above-requires-clause-within g c = λ p none within.
    let many : length c.args.looked.now ≡ length (g.L.Labels.listed c.args.labels.now) =
    sym (length-map c.args.looked.now g.E.GlanceMemory.glance_in_memory)
    ∙ ap length c.requires.looked
    ∙ length-map (g.L.Labels.listed c.args.labels.now) (seen_in (said_by (g.R.Format.Format.shape (g.R.Judgement.format c.args.rules.now)) g.R.Code.NumCode.takes)
    (g.R.JudgesInPlace.glance c.args.rules.now)) in
    let inside = c.places-places.ensures.within p none within in
    omega (arith, many, c.requires.each, inside)

pub returns : goal.returns
returns g c view at =
    let rows = c.args.net.now in
    let labels = g.L.Labels.listed c.args.labels.now in
    let said = said_by (g.R.Format.Format.shape (g.R.Judgement.format c.args.rules.now)) g.R.Code.NumCode.takes in
    let glance = g.R.JudgesInPlace.glance c.args.rules.now in
    let rules = g.R.Judgement.rules c.args.rules.now in
    let node = c.node-id.result in
    let bits = c.bits-bits.result in
    let ports : List Port = c.ports-ports.result.now in
    let places = c.places-places.result.now in
    let shown : Seen = shown_from rows labels node.0 node.1 bits ports in
    let above : option_copied c.glance_above-above.result ≡ seen_above said glance shown.ports node.1.up =
    c.glance_above-above.ensures
    ∙ above_kept rows c.node-id.ensures.valid c.args.i ports c.ports-ports.ensures places
    c.places-places.ensures.places said glance g.E.GlanceMemory.glance_in_memory labels c.args.looked.now
    c.requires.looked c.requires.each node.1 c.node-id.ensures.state in
    let over = c.loop-p-test.false in
    subst (λ (view : Seen). c.close.result ≡ judge_by said rules view)
    (is_shown rows labels c.args.i node.0 node.1 bits ports view
    c.node-id.ensures.id c.node-id.ensures.state c.ports-ports.ensures
    (placed rows c.node-id.ensures.valid c.args.i node.0 c.node-id.ensures.id)
    c.bits-bits.ensures at)
    (passed said glance (g.R.JudgesInPlace.tally_of c.args.rules.now) shown rules c.loop-p.p
    c.loop-p.tally c.in-Some.glance.now (option_copied c.glance_above-above.result) c.close.result
    (rw (length-map ports (seen_port (label_of rows labels))) over) c.loop-p.invariant
    (ap option_copied (sym c.in-Some.is) ∙ c.glance.ensures ∙ kept_there said glance g.E.GlanceMemory.glance_in_memory labels c.args.looked.now c.requires.looked
    c.args.i bits c.index-looked-i.result c.bits-bits.ensures c.index-looked-i.is) above
    (λ own read own_read same above is. c.close.ensures own read own_read same above is))
