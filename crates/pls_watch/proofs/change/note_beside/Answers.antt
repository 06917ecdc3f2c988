use Rattle.std.proofs.Common.{◌≡◌, ◌∙◌, ◌<◌, ℕ, List, length, get_or, set, Some, ap, arith, sym}
use Rattle.std.proofs.lemmas.Option.{get_or_from_slice_get, slice_get-get_or, slice_get_within}
use Rattle.pls_configuration.specs.declared.row.NodeRow.{NodeRow}
use Rattle.pls_graph.specs.Places.{beside}
use Rattle.pls_sim.proofs.Ends.{beside_length}
use Rattle.pls_watch.specs.declared.change.Change.TheVariants.{Nothing}
use Rattle.pls_watch.specs.inner.Current.{with_beside}
use Rattle.pls_watch.proofs.Noted.{beside_labels, beside_more, first_held, first_other, more_noted}
use Rattle.pls_watch.proofs.change.note_beside.Goals.{then-neighbour_holds_previous, else-neighbour_holds_previous}
use Rattle.pls_watch.proofs.change.note_beside.Goals as goal

pub loop-port-preserved : goal.loop-port-preserved
loop-port-preserved c =
    let watched = c.args.watch.now in
    let i : ℕ = c.args.i in
    let port : ℕ = c.loop-port.port in
    let old = c.loop-port.changes.items in
    let before = c.loop-port.invariant in
    let places : List ℕ = c.places-beside-items.result.now in
    let there : ℕ = get_or (beside watched.network i) port 0 in
    let here : get_or places port 0 ≡ there =
    ap (λ (places : List ℕ). get_or places port 0)
    (c.places-beside-items.ensures.places
    ∙ ap (λ (rows : List NodeRow). beside rows i) c.network.ensures.network) in
    let within : there < length old =
    omega (
      arith,
      here,
      c.places-beside-items.ensures.within port 0 c.loop-port-test.true,
      ap (length {A = NodeRow}) c.network.ensures.network,
      before.more.as_many,
      c.requires.each,
    ) in
    elim c.if-neighbour_holds_previous.branch [
      | then-neighbour_holds_previous w ↦
          let read : get_or old (get_or places port 0) Nothing ≡ w.index.result.now =
          get_or_from_slice_get old (get_or places port 0) w.index.result.now Nothing
          (slice_get-get_or old (get_or places port 0) w.index.result.now
          (omega (arith, within, here)) ∙ ap Some (sym w.index.ensures)) in
          let value : w.with_beside.result ≡ with_beside (get_or old there Nothing) =
          w.with_beside.ensures
          ∙ ap with_beside (sym read ∙ ap (λ (place : ℕ). get_or old place Nothing) here) in
          let next : set old (get_or places port 0) w.with_beside.result
          ≡ set old there (with_beside (get_or old there Nothing)) =
          λ k. set old (here k) (value k) in
          rw (w.changes-is, next) (record {
            more = more_noted c.args.changes.now.items old _ before.more
                (beside_more old there within);
            labels = λ j label. before.labels j (beside_labels old there within j label);
            all = first_held watched old i port before.all within;
          })
      | else-neighbour_holds_previous w ↦ rw w.changes-is (record {
        more = before.more;
        labels = before.labels;
        all = first_other watched old i port before.all
            (λ row at stands has.
            sym (c.neighbour_holds_previous.ensures row at stands has) ∙ w.if-neighbour_holds_previous.false);
      })
    ]

pub returns-clause-all : goal.returns-clause-all
returns-clause-all c row p at stands has previous none =
    let net = c.args.watch.now.network in
    c.loop-port.invariant.all row p at
    (omega (
      arith,
      slice_get_within row.ports p at has,
      beside_length net c.network.ensures.valid c.args.i row stands,
      ap (length {A = ℕ}) (c.places-beside-items.ensures.places
          ∙ ap (λ (rows : List NodeRow). beside rows c.args.i) c.network.ensures.network),
      c.loop-port-test.false,
    )) stands has previous none
