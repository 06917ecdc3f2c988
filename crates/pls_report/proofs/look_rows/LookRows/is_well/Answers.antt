use Rattle.std.proofs.Common.{◌≡◌, ◌∙◌, ◌==◌, ◌&&◌, Bool, false, ap, sym}
use Rattle.std.proofs.lemmas.Bool.{eq-eqb, ne_eqb}
use Rattle.pls_report.specs.Look.{look_is_well}
use Rattle.pls_report.proofs.Well.{none_counted, well_counted}
use Rattle.pls_report.proofs.look_rows.LookRows.is_well.Goals.{then-self-eq0, else-self-eq0}
use Rattle.pls_report.proofs.look_rows.LookRows.is_well.Goals as goal

pub returns-then-self-eq0-2 : goal.returns-then-self-eq0-2
returns-then-self-eq0-2 c =
    let inside = c.self.inside in
    let counts = inside.counts in
    let both : c.if-self-eq0.value ≡ (counts.rejecting == 0 && counts.waiting == 0) =
    elim c.if-self-eq0.branch [
      | then-self-eq0 w ↦ w.value-is
          ∙ ap (λ (b : Bool). b && counts.waiting == 0) (sym (eq-eqb counts.rejecting 0 w.if-self-eq0.true))
      | else-self-eq0 w ↦
          let some : (counts.rejecting == 0) ≡ false =
          ne_eqb counts.rejecting 0 w.if-self-eq0.false in
          w.value-is ∙ some ∙ ap (λ (b : Bool). b && counts.waiting == 0) (sym some)
    ] in
    ap (λ (b : Bool). b && counts.stale == 0) (sym c.if-self-eq0-2.true ∙ both)
    ∙ ap none_counted c.self.invariant.0 ∙ well_counted inside.rows.items
    ∙ (λ k. look_is_well (c.self.view_is k).rows)

pub returns-else-self-eq0-2 : goal.returns-else-self-eq0-2
returns-else-self-eq0-2 c =
    let inside = c.self.inside in
    let counts = inside.counts in
    let both : c.if-self-eq0.value ≡ (counts.rejecting == 0 && counts.waiting == 0) =
    elim c.if-self-eq0.branch [
      | then-self-eq0 w ↦ w.value-is
          ∙ ap (λ (b : Bool). b && counts.waiting == 0) (sym (eq-eqb counts.rejecting 0 w.if-self-eq0.true))
      | else-self-eq0 w ↦
          let some : (counts.rejecting == 0) ≡ false =
          ne_eqb counts.rejecting 0 w.if-self-eq0.false in
          w.value-is ∙ some ∙ ap (λ (b : Bool). b && counts.waiting == 0) (sym some)
    ] in
    c.if-self-eq0-2.false
    ∙ ap (λ (b : Bool). b && counts.stale == 0) (sym c.if-self-eq0-2.false ∙ both)
    ∙ ap none_counted c.self.invariant.0 ∙ well_counted inside.rows.items
    ∙ (λ k. look_is_well (c.self.view_is k).rows)
