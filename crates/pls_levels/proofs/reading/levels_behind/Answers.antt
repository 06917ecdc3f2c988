use Rattle.std.proofs.Common.{◌≡◌, ◌∙◌, sym, ap, subst}
use Rattle.pls_numbers.specs.Numbers.{NumbersLeft}
use Rattle.pls_numbers.specs.Shape.{if_clean}
use Rattle.pls_levels.specs.declared.label.LevelHead.{LevelHead}
use Rattle.pls_levels.specs.Labels.{AreLevelsLeft, level_label_of}
use Rattle.pls_levels.proofs.Labels.{label_parts, with_head}
use Rattle.pls_levels.proofs.reading.levels_behind.Goals as goal

pub returns : goal.returns
returns g c label said head =
    let form = g.K.LevelKind.form in
    let (rest, parts, levels) = label_parts form g.met.K.LevelKind.form_law c.of-numbers.result
    label (ap (if_clean (level_label_of form)) c.of-numbers.ensures ∙ said) in
    let front : c.of-numbers.result ≡ with_head c.args.head.now rest =
    parts ∙ ap (λ (head : LevelHead). with_head head rest) head in
    let last = c.pass-5.ensures rest
    (c.pass-4.ensures _ (c.pass-3.ensures _ (c.pass-2.ensures _ (c.pass.ensures _ front)))) in
    subst (λ (left : NumbersLeft). AreLevelsLeft form left (form.items label.levels)) (sym last)
    levels
