use Rattle.std.proofs.Common.{◌≡◌, ◌∙◌, ℕ, inl, inr, List, Option, Bool, sym, ap, arith}
use Rattle.std.proofs.lemmas.Bool.{cases_lt}
use Rattle.std.proofs.lemmas.Option.{slice_get_within}
use Rattle.pls_numbers.specs.Shape.{said_by}
use Rattle.pls_scheme.specs.Basic.{verdict_by}
use Rattle.pls_scheme.specs.Reading.{reading}
use Rattle.pls_pathmax.specs.Labels.{PathMaxLabel, pathmax_shape}
use Rattle.pls_pathmax.specs.inner.OnePass.{is_by_rule_5, one_pass_rules}
use Rattle.pls_pathmax.proofs.Passes.{pass_fails, pass_holds}
use Rattle.pls_pathmax.proofs.Windows.{to_window}
use Rattle.pls_pathmax.proofs.pathmax.have_further_ways.Goals as goal

pub returns-then-is_by_rule_5 : goal.returns-then-is_by_rule_5
returns-then-is_by_rule_5 g c own ports through many =
    let read : List Bool → Option PathMaxLabel = said_by pathmax_shape g.C.NumCode.takes in
    let view = c.args.view.now in
    let first : ℕ = c.loop-first.first in
    let is : c.judge-verdict.result ≡ verdict_by pathmax_shape (one_pass_rules first)
    g.C.NumCode.takes view =
    c.judge-verdict.ensures
    ∙ ap (λ (first : ℕ). verdict_by pathmax_shape (one_pass_rules first) g.C.NumCode.takes view)
    c.pass_from.ensures in
    pass_fails read view own ports through first
    (ap is_by_rule_5 (sym is) ∙ sym c.is_by_rule_5.ensures ∙ c.if-is_by_rule_5.true)

pub loop-first-preserved : goal.loop-first-preserved
loop-first-preserved g c own ports through number level at past before =
    let read : List Bool → Option PathMaxLabel = said_by pathmax_shape g.C.NumCode.takes in
    let view = c.args.view.now in
    let first : ℕ = c.loop-first.first in
    let is : c.judge-verdict.result ≡ verdict_by pathmax_shape (one_pass_rules first)
    g.C.NumCode.takes view =
    c.judge-verdict.ensures
    ∙ ap (λ (first : ℕ). verdict_by pathmax_shape (one_pass_rules first) g.C.NumCode.takes view)
    c.pass_from.ensures in
    elim (cases_lt number first) [
      | inl earlier ↦ c.loop-first.invariant own ports through number level at past earlier
      | inr later ↦
          let next = c.saturating_add-first.ensures in
          to_window (reading view.id view.state own ports) first
          (pass_holds read view own ports through first
          (ap is_by_rule_5 (sym is) ∙ sym c.is_by_rule_5.ensures ∙ c.if-is_by_rule_5.false))
          number level at later (omega (arith, before, next))
    ]

pub returns : goal.returns
returns g c own ports through many number level at past =
    let within = slice_get_within own.levels number level at in
    let ends = c.loop-first-test.false in
    c.loop-first.invariant own ports through number level at past
    (omega (arith, within, ends, many))
