use Rattle.std.proofs.Common.{◌≡◌, ◌∙◌, ◌-◌, ◌++◌, ◌∷◌, [], List, ℕ, ap, arith, length}
use Rattle.std.proofs.lemmas.List.{length-append}
use Rattle.pls_report.specs.declared.patches.PatchPlace.{PatchPlace}
use Rattle.pls_report.specs.inner.Kept.{row_line}
use Rattle.pls_report.specs.inner.Patches.{patches_at}
use Rattle.pls_report.proofs.Patching.{a_patch, patch_added}
use Rattle.pls_report.proofs.patches.Patches.add.Goals as goal

pub returns-clause-added : goal.returns-clause-added
returns-clause-added c =
    let inside = c.self.inside in
    let lines : List ℕ = inside.lines.items in
    let line : List ℕ = row_line c.args.row.now in
    let place : PatchPlace = record {
      stays = c.args.stays;
      goes = c.args.goes;
      length = c.len.result - c.len-start.result;
    } in
    let more : c.add_line.new.text.items ≡ lines ++ line =
    c.in_ok-add_line.ensures.line
    ∙ (λ k. lines ++ row_line (c.id.ensures k, c.outcome.ensures k, c.stale.ensures k)) in
    let places : c.push_reserved.new.self.items ≡ inside.places.items ++ place ∷ [] =
    c.push_reserved.ensures.items ∙ (λ k. c.reserve.ensures.items k ++ place ∷ []) in
    (λ k. patches_at (places k) (more k))
    ∙ patch_added line place
    (omega (
      arith,
      c.len.ensures,
      c.len-start.ensures,
      c.add_line.new.text.ok.0,
      inside.lines.ok.0,
      ap (length {A = ℕ}) more,
      length-append lines line,
    ))
    inside.places.items lines c.self.invariant
    ∙ (λ k. c.self.view_is k ++ a_patch c.args.stays c.args.goes line ∷ [])
