use Rattle.std.proofs.Common.{◌≡◌, ◌<◌, ◌∙◌, ℕ, List, Some, ap, arith, length, set, slice_get, sym}
use Rattle.std.proofs.lemmas.Option.{same_Some, slice_get-get_or}
use Rattle.pls_sim.specs.declared.outcome.Outcome.{Outcome}
use Rattle.pls_report.specs.inner.Lines.{with_line}
use Rattle.pls_report.proofs.Counts.{is_among, with_other}
use Rattle.pls_report.proofs.Renewing.{row_changed}
use Rattle.pls_report.proofs.look_rows.LookRows.replace_stale.Goals as goal

pub take_away-requires : goal.take_away-requires
take_away-requires c =
    let inside = c.self.inside in
    let rows = inside.rows.items in
    let many : length rows ≡ length c.args.self.now.rows = λ k. length (c.self.view_is k).rows in
    let within : c.args.i < length rows = omega (arith, c.requires, many) in
    let (others, is) = is_among rows c.args.i within c.index_mut-row.result.now c.index_mut-row.ensures.value in (
      others,
      c.self.invariant.0 ∙ is ∙ (λ k. with_line (sym c.of.ensures k) others),
    )

pub invariant_of-self : goal.invariant_of-self
invariant_of-self c =
    let inside = c.self.inside in
    let rows = inside.rows.items in
    let row = c.set_stale.new.self in
    let many : length rows ≡ length c.args.self.now.rows = λ k. length (c.self.view_is k).rows in
    let within : c.args.i < length rows = omega (arith, c.requires, many) in (
      c.add.ensures
          ∙ (λ k. with_line (c.of-2.ensures k) c.take_away.new.self)
          ∙ with_other rows c.args.i within c.index_mut-row.result.now c.index_mut-row.ensures.value row
          c.take_away.new.self
          (sym c.self.invariant.0 ∙ c.take_away.ensures
          ∙ (λ k. with_line (c.of.ensures k) c.take_away.new.self)),
      row_changed rows inside.changed.items inside.kept.lines c.self.invariant.1 c.args.i row,
    )

pub returns-clause-rows : goal.returns-clause-rows
returns-clause-rows c id outcome before at =
    let inside = c.self.inside in
    let rows = inside.rows.items in
    let i = c.args.i in
    let read = c.index_mut-row.result.now in
    let many : rows ≡ c.args.self.now.rows = λ k. (c.self.view_is k).rows in
    let within : i < length rows =
    omega (arith, c.requires, ap (length {A = ℕ × Outcome × List ℕ}) many) in
    let was : read ≡ (id, outcome, before) =
    same_Some read (id, outcome, before)
    (ap Some c.index_mut-row.ensures.value ∙ sym (slice_get-get_or rows i read within)
    ∙ (λ k. slice_get (many k) i) ∙ at) in
    (λ k. set (many k) i ((c.set_stale.ensures
    ∙ (λ j. ((was j).0, (was j).1, c.args.stale))) k))
