use Rattle.std.proofs.Common.{◌≡◌, ◌∙◌, is_some, arith, length, List, Some, slice_get, sym, ap, subst}
use Rattle.std.specs.Option.{option_copied}
use Rattle.std.proofs.lemmas.List.{length-map}
use Rattle.pls_configuration.specs.declared.row.Port.{Port}
use Rattle.pls_configuration.specs.declared.verdict.Verdict.TheVariants.{Reject}
use Rattle.pls_graph.proofs.Finds.{item_at}
use Rattle.pls_labels.specs.Seen.{Seen, SeenPort, label_of, seen_port}
use Rattle.pls_labels.proofs.Views.{placed}
use Rattle.pls_scheme.specs.Reading.{judge_by}
use Rattle.pls_scheme.specs.inner.Looks.{seen_above, seen_in}
use Rattle.pls_scheme.proofs.LookedAt.{above_kept, is_shown, kept_there, place_for_port, places_for_ports, pointer_some, read_there, shown_from}
use Rattle.pls_scheme.proofs.Passing.{passed, read_to, unread}
use Rattle.pls_numbers.specs.Shape.{said_by}
use Rattle.pls_scheme.proofs.settling.early_verdict_at.Goals as goal

pub glance_above-above-requires-clause-pointer : goal.glance_above-above-requires-clause-pointer
glance_above-above-requires-clause-pointer g c =
    pointer_some c.args.net.now c.node-id.ensures.valid c.args.i c.ports-ports.result.now
    c.ports-ports.ensures c.places-places.result.now c.places-places.ensures.places
    c.node-id.result.1 c.node-id.ensures.state

pub glance_above-above-requires-clause-within : goal.glance_above-above-requires-clause-within
glance_above-above-requires-clause-within g c = λ p none within.
    let many : length c.args.looked.now ≡ length (g.L.Labels.listed c.args.labels.now) =
    sym (length-map c.args.looked.now g.E.GlanceMemory.glance_in_memory)
    ∙ ap length c.requires.looked
    ∙ length-map (g.L.Labels.listed c.args.labels.now) (seen_in (said_by (g.R.Format.Format.shape (g.R.Judgement.format c.args.rules.now)) g.R.Code.NumCode.takes)
    (g.R.JudgesInPlace.glance c.args.rules.now)) in
    let inside = c.places-places.ensures.within p none within in
    omega (arith, many, c.requires.each, inside)

pub are_read-requires : goal.are_read-requires
are_read-requires g c = λ p none within.
    let many : length c.args.looked.now ≡ length (g.L.Labels.listed c.args.labels.now) =
    sym (length-map c.args.looked.now g.E.GlanceMemory.glance_in_memory)
    ∙ ap length c.requires.looked
    ∙ length-map (g.L.Labels.listed c.args.labels.now) (seen_in (said_by (g.R.Format.Format.shape (g.R.Judgement.format c.args.rules.now)) g.R.Code.NumCode.takes)
    (g.R.JudgesInPlace.glance c.args.rules.now)) in
    let inside = c.places-places.ensures.within p none within in
    omega (arith, many, c.requires.each, inside)

pub returns-then-are_read : goal.returns-then-are_read
returns-then-are_read g c view at =
    let rows = c.args.net.now in
    let labels = g.L.Labels.listed c.args.labels.now in
    let said = said_by (g.R.Format.Format.shape (g.R.Judgement.format c.args.rules.now)) g.R.Code.NumCode.takes in
    let glance = g.R.JudgesInPlace.glance c.args.rules.now in
    let rules = g.R.Judgement.rules c.args.rules.now in
    let node = c.node-id.result in
    let bits = c.bits-bits.result in
    let ports : List Port = c.ports-ports.result.now in
    let places = c.places-places.result.now in
    let shown : Seen = shown_from rows labels node.0 node.1 bits ports in
    let own = c.in_ok-glance.ensures ∙ kept_there said glance g.E.GlanceMemory.glance_in_memory labels
    c.args.looked.now c.requires.looked c.args.i bits c.index-looked-i.result c.bits-bits.ensures
    c.index-looked-i.is in
    let above : option_copied c.glance_above-above.result
    ≡ seen_above said glance shown.ports node.1.up =
    c.glance_above-above.ensures
    ∙ above_kept rows c.node-id.ensures.valid c.args.i ports c.ports-ports.ensures places
    c.places-places.ensures.places said glance g.E.GlanceMemory.glance_in_memory labels c.args.looked.now
    c.requires.looked c.requires.each node.1 c.node-id.ensures.state in
    subst (λ (view : Seen). c.in_ok-verdict.verdict ≡ judge_by said rules view)
    (is_shown rows labels c.args.i node.0 node.1 bits ports view
    c.node-id.ensures.id c.node-id.ensures.state c.ports-ports.ensures
    (placed rows c.node-id.ensures.valid c.args.i node.0 c.node-id.ensures.id)
    c.bits-bits.ensures at)
    (passed {T = Unit {0}} said glance (λ _. tt) shown rules (length shown.ports) tt
    c.in_ok-glance.glance.now (option_copied c.glance_above-above.result) c.in_ok-verdict.verdict
    (omega arith)
    (read_to said glance shown c.in_ok-glance.glance.now own (length shown.ports) (omega arith)
    (λ k port below there.
    ap is_some (sym (read_there rows c.node-id.ensures.valid c.args.i ports c.ports-ports.ensures
    places c.places-places.ensures.places said glance g.E.GlanceMemory.glance_in_memory labels c.args.looked.now
    c.requires.looked c.requires.each k port there))
    ∙ c.are_read.ensures.read c.if-are_read.true k
    (place_for_port rows c.node-id.ensures.valid c.args.i ports c.ports-ports.ensures places
    c.places-places.ensures.places k
    (let many = length-map ports (seen_port (label_of rows labels)) in
    omega (arith, below, many)))))
    own above
    (λ mine read own_read same above is. c.in_ok-verdict.ensures mine read own_read same above))

pub returns-else-are_read : goal.returns-else-are_read
returns-else-are_read g c view at =
    let rows = c.args.net.now in
    let labels = g.L.Labels.listed c.args.labels.now in
    let said = said_by (g.R.Format.Format.shape (g.R.Judgement.format c.args.rules.now)) g.R.Code.NumCode.takes in
    let glance = g.R.JudgesInPlace.glance c.args.rules.now in
    let rules = g.R.Judgement.rules c.args.rules.now in
    let node = c.node-id.result in
    let bits = c.bits-bits.result in
    let ports : List Port = c.ports-ports.result.now in
    let places = c.places-places.result.now in
    let shown : Seen = shown_from rows labels node.0 node.1 bits ports in
    let own = c.in_ok-glance.ensures ∙ kept_there said glance g.E.GlanceMemory.glance_in_memory labels
    c.args.looked.now c.requires.looked c.args.i bits c.index-looked-i.result c.bits-bits.ensures
    c.index-looked-i.is in
    let (p, within, none) = c.are_read.ensures.unread c.if-are_read.false in
    let many = length-map ports (seen_port (label_of rows labels)) in
    let as_many = places_for_ports rows c.node-id.ensures.valid c.args.i ports
    c.ports-ports.ensures places c.places-places.ensures.places in
    let (port, there) : (port : SeenPort) × (slice_get shown.ports p ≡ Some port) =
    item_at shown.ports p (omega (arith, within, many, as_many)) in
    subst (λ (view : Seen). Reject 1 2 ≡ judge_by said rules view)
    (is_shown rows labels c.args.i node.0 node.1 bits ports view
    c.node-id.ensures.id c.node-id.ensures.state c.ports-ports.ensures
    (placed rows c.node-id.ensures.valid c.args.i node.0 c.node-id.ensures.id)
    c.bits-bits.ensures at)
    (unread said glance shown c.in_ok-glance.glance.now own rules p port there
    (sym none ∙ read_there rows c.node-id.ensures.valid c.args.i ports c.ports-ports.ensures
    places c.places-places.ensures.places said glance g.E.GlanceMemory.glance_in_memory labels c.args.looked.now
    c.requires.looked c.requires.each p port there))
