use Rattle.std.proofs.Common.{◌≡◌, ◌+◌, ◌∙◌, ◌++◌, ◌∷◌, [], ℕ, length, map}
use Rattle.pls_report.specs.Look.{look_text}
use Rattle.pls_report.specs.inner.Kept.{kept_text, row_line}
use Rattle.pls_report.specs.inner.Lines.{counts_of}
use Rattle.pls_report.proofs.Flat.{kept_look}
use Rattle.pls_report.proofs.look_rows.LookRows.keep_look.Goals as goal

pub returns-clause-kept : goal.returns-clause-kept
returns-clause-kept c =
    let inside = c.self.inside in
    let rows = inside.rows.items in
    let texts : inside.kept.texts ≡ c.args.self.now.kept = λ k. (c.self.view_is k).kept in
    let number : ℕ = length c.args.self.now.kept + 1 in
    let text : kept_text number (map row_line rows) (counts_of rows) ≡ look_text number c.args.self.now.rows =
    kept_look number rows ∙ (λ k. look_text number (c.self.view_is k).rows) in
    c.in_ok-keep.ensures.texts
    ∙ (λ k. texts k ++ kept_text (length (texts k) + 1)
    (map row_line (c.as_slice-rows.ensures.value k)) (c.self.invariant.0 k) ∷ [])
    ∙ (λ k. c.args.self.now.kept ++ text k ∷ [])
