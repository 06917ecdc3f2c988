use Rattle.std.proofs.Common.{◌≡◌, Bool, List, IfOk, sym, ◌∙◌, subst}
use Rattle.std.proofs.lemmas.List.{length-map}
use Rattle.pls_configuration.specs.Configuration.{ids_of}
use Rattle.pls_labelfile.specs.LabelsText.{Labelling, labelling_of, named}
use Rattle.pls_labelfile.specs.LabelsScan.{TellsLabels}
use Rattle.pls_labelfile.proofs.Named.{bare-named, net_labels_accepted}
use Rattle.pls_labelfile.proofs.ReadBack.{memory_alone}
use Rattle.pls_labelfile.proofs.round_trip.written_is_read.Goals as goal

-- the labels with the identities of their nodes, under their code
abbrev said : goal.After-drop-text → Labelling
said c = labelling_of c.args.code (named (ids_of c.args.net.now) c.args.labels.now)

-- the text that was written says them
told : (c : goal.After-drop-text) → TellsLabels c.as_slice.result.now (said c)
told c = record {
  fits = c.in_ok-text.ensures.fits c.requires.few;
  is = c.as_slice.ensures.value ∙ c.in_ok-text.ensures.text;
}

pub returns-clause-same : goal.returns-clause-same
returns-clause-same c =
    subst (λ (labels : List (List Bool)). IfOk c.read_labels.result (λ read. read.1 ≡ labels))
    (bare-named (ids_of c.args.net.now) c.args.labels.now
    (c.requires.lengths ∙ sym (length-map c.args.net.now (λ row. row.id))))
    (c.read_labels.ensures.only (said c) (told c))

pub returns-clause-memory : goal.returns-clause-memory
returns-clause-memory c =
    let labels = named (ids_of c.args.net.now) c.args.labels.now in
    memory_alone (ids_of c.args.net.now) labels
    (net_labels_accepted c.args.net.now c.args.labels.now 1 c.requires.lengths c.requires.few)
    c.read_labels.result (c.read_labels.ensures.refused (said c) (told c))
