use Rattle.std.proofs.Common.{◌≡◌, ◌<◌, ◌∙◌, arith, length, sym}
use Rattle.pls_report.specs.inner.Lines.{with_line}
use Rattle.pls_report.proofs.Counts.{is_among, with_other}
use Rattle.pls_report.proofs.Renewing.{row_changed}
use Rattle.pls_report.proofs.look_rows.LookRows.replace.Goals as goal

pub take_away-requires : goal.take_away-requires
take_away-requires c =
    let inside = c.self.inside in
    let rows = inside.rows.items in
    let many : length rows ≡ length c.args.self.now.rows = λ k. length (c.self.view_is k).rows in
    let within : c.args.i < length rows = omega (arith, c.requires, many) in
    let (others, is) = is_among rows c.args.i within c.index.result.now c.index.ensures in (
      others,
      c.self.invariant.0 ∙ is ∙ (λ k. with_line (sym c.of.ensures k) others),
    )

pub invariant_of-self : goal.invariant_of-self
invariant_of-self c =
    let inside = c.self.inside in
    let rows = inside.rows.items in
    let row = c.args.row in
    let many : length rows ≡ length c.args.self.now.rows = λ k. length (c.self.view_is k).rows in
    let within : c.args.i < length rows = omega (arith, c.requires, many) in (
      c.add.ensures
          ∙ (λ k. with_line (c.of-2.ensures k) c.take_away.new.self)
          ∙ with_other rows c.args.i within c.index.result.now c.index.ensures row
          c.take_away.new.self
          (sym c.self.invariant.0 ∙ c.take_away.ensures
          ∙ (λ k. with_line (c.of.ensures k) c.take_away.new.self)),
      row_changed rows inside.changed.items inside.kept.lines c.self.invariant.1 c.args.i row,
    )
