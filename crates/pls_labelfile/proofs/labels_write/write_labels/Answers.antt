use Rattle.std.proofs.Common.{ℕ, Vec, Global, ap, ◌∙◌}
use Rattle.pls_configuration.specs.Configuration.{ids_of}
use Rattle.pls_labelfile.proofs.Named.{each_short, named_fit}
use Rattle.pls_labelfile.proofs.labels_write.write_labels.Goals as goal

pub returns-in-Ok-clause-text : goal.returns-in-Ok-clause-text
returns-in-Ok-clause-text c =
    let took = rw (c.new-sink.ensures.over, c.new.ensures.items) at c.in-Ok.ensures.all in
    ap (λ (text : Vec ℕ Global). text.items) c.into_writer.ensures ∙ took

pub returns-in-Ok-clause-fits : goal.returns-in-Ok-clause-fits
returns-in-Ok-clause-fits c = λ few.
    named_fit (ids_of c.args.net.now) c.args.labels.now c.of_32_bits.ensures
    (each_short c.args.labels.now _ few)
