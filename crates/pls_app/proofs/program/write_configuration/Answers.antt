use Rattle.std.proofs.Common.{[], append-nil, refl, sym}
use Rattle.pls_streams.proofs.Written.{alone, both, failed, front_first}
use Rattle.pls_inputs.specs.Parts.{net_labels_text}
use Rattle.pls_app.proofs.program.write_configuration.Goals as goal

pub returns : goal.returns
returns g c =
    let front = c.args.network_text.now in
    let labels = net_labels_text c.args.code c.args.net.now c.args.labels.now in
    both [] _ _ _ c.stream_labels.result front labels
    (record {
      taken = front;
      is = sym (append-nil front);
      all = c.in_ok-write_all.ensures.all;
      never_falls = c.in_ok-write_all.ensures.never_falls;
      sure = c.in_ok-write_all.ensures.sure;
    })
    (alone _ _ _ _ _ _ [] [] c.stream_labels.result labels refl refl c.stream_labels.ensures.all
    c.stream_labels.ensures.part c.stream_labels.ensures.fault c.stream_labels.ensures.never_falls
    c.stream_labels.ensures.sure)

pub returns-in_err-write_all : goal.returns-in_err-write_all
returns-in_err-write_all g c =
    let front = c.args.network_text.now in
    let labels = net_labels_text c.args.code c.args.net.now c.args.labels.now in
    failed [] _ c.from_residual.result _ c.from_residual.ensures.0
    (front_first front labels (record {
      part = c.in_err-write_all.ensures.part;
      rose = c.in_err-write_all.ensures.fault;
      never_falls = c.in_err-write_all.ensures.never_falls;
      never_sure = c.in_err-write_all.ensures.sure;
    }))
