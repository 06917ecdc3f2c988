use Rattle.std.proofs.Common.{◌≡◌, ◌∙◌, ℕ, Bool, List, length, take, get_or, ap, arith, sym}
use Rattle.std.proofs.lemmas.List.{length-take}
use Rattle.pls_watch_part.specs.WatchText.{relabel_bits}
use Rattle.pls_watch_part.specs.declared.watch_event.WatchLine.{WatchLine}
use Rattle.pls_watch_part.specs.declared.watch_event.WatchLine.TheVariants.{Event}
use Rattle.pls_app.specs.WatchRefusal.{events_of}
use Rattle.pls_app.proofs.WatchLines.{few_events, few_labels, given_within}
use Rattle.pls_app.proofs.watch.relabels_in.Goals as goal

pub overflow_add-count : goal.overflow_add-count
overflow_add-count c =
    let lines : List WatchLine = c.args.lines.now in
    let i : ℕ = c.loop-line.line-index in
    omega (
      arith,
      c.loop-line.invariant.many,
      few_labels (events_of (take i lines)),
      few_events (take i lines),
      length-take i lines,
      c.loop-line-test.true,
      c.requires.few,
    )

pub overflow_add-total : goal.overflow_add-total
overflow_add-total c =
    let lines : List WatchLine = c.args.lines.now in
    let i : ℕ = c.loop-line.line-index in
    let same : relabel_bits (get_or lines i c.line-item.result) ≡ length c.in-Relabel.bits =
    ap relabel_bits (sym c.line-item.is ∙ c.in-Event.is)
    ∙ ap (λ event. relabel_bits (Event event)) c.in-Relabel.is in
    omega (
      arith,
      c.loop-line.invariant.sum,
      given_within lines i c.line-item.result c.loop-line-test.true,
      same,
      ap (length {A = Bool}) c.bits.ensures,
      c.requires.bits,
    )
