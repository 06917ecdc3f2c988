use Rattle.std.proofs.Common.{true, ◌∙◌, Err, ap}
use Rattle.std.proofs.lemmas.List.{length-map}
use Rattle.std.proofs.lemmas.Result.{err_from_is_err_and}
use Rattle.pls_streams.specs.declared.text_error.TextError.{TextError}
use Rattle.pls_configuration.specs.Configuration.{ids_of}
use Rattle.pls_lines.proofs.FormTold.{form_alone}
use Rattle.pls_labelfile.specs.LabelsText.{IsLabelsPart}
use Rattle.pls_labelfile.proofs.LabelsRead.{no_labels_told, form_never, store_told, store_long}
use Rattle.pls_labelfile.proofs.labels_read.read_labels.Goals as goal

pub returns-in_err-part-clause-refused : goal.returns-in_err-part-clause-refused
returns-in_err-part-clause-refused c = λ said tells.
    absurd (no_labels_told c.args.text.now _ c.in_err-part.ensures.form.2 said tells)

pub returns-in_err-part-clause-form : goal.returns-in_err-part-clause-form
returns-in_err-part-clause-form c =
    let error = err_from_is_err_and c.from_residual.result c.from_residual.ensures.1 in
    form_alone (IsLabelsPart true) c.from_residual.result c.args.text.now c.in_err-part.field-0.0
    (error.1 ∙ ap (λ (e : TextError). Err e) error.2) c.in_err-part.ensures.form

pub returns-in_err-labels-clause-form : goal.returns-in_err-labels-clause-form
returns-in_err-labels-clause-form c =
    let error = err_from_is_err_and c.from_residual-in_err-labels.result
    c.from_residual-in_err-labels.ensures.1 in
    form_never c.args.text.now c.in_ok-part.part c.in_ok-part.ensures.ok
    c.from_residual-in_err-labels.result (ids_of c.args.net.now)
    (λ said tells. rw (error.1, error.2) (c.in_err-labels.ensures.refused said tells))

pub returns-clause-ok : goal.returns-clause-ok
returns-clause-ok c =
    rw c.code.ensures
    (store_told c.args.text.now c.in_ok-part.part c.in_ok-part.ensures.ok (ids_of c.args.net.now)
    c.in_ok-labels.labels c.in_ok-labels.ensures.ok c.in_ok-labels.ensures.named)

pub returns-clause-lengths : goal.returns-clause-lengths
returns-clause-lengths c =
    store_long c.args.text.now c.in_ok-part.part c.in_ok-part.ensures.ok (ids_of c.args.net.now)
    c.in_ok-labels.labels c.in_ok-labels.ensures.ok c.in_ok-labels.ensures.named
    ∙ length-map c.args.net.now (λ row. row.id)

pub returns-clause-form : goal.returns-clause-form
returns-clause-form c =
    form_never c.args.text.now c.in_ok-part.part c.in_ok-part.ensures.ok _ (ids_of c.args.net.now)
    (λ said tells. tt)
