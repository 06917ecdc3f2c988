use Rattle.std.proofs.Common.{◌≡◌, ◌∙◌, length, ap, sym}
use Rattle.std.specs.Prelude.{option_map}
use Rattle.pls_numbers.specs.Numbers.{NumbersLeft}
use Rattle.pls_numbers.specs.Shape.{if_clean}
use Rattle.pls_levels.specs.Labels.{level_label_of}
use Rattle.pls_levels.specs.declared.label.LevelHead.{LevelHead}
use Rattle.pls_levels.proofs.Labels.{a_label, no_head, no_label}
use Rattle.pls_pathmax.specs.Labels.{pathmax_levels}
use Rattle.pls_pathmax.specs.inner.Glance.{glance_said}
use Rattle.pls_pathmax.specs.laws.LabelLaws.{exact_levels}
use Rattle.pls_pathmax.proofs.Glances.{kept_of_label}
use Rattle.pls_pathmax.proofs.glance.glance_in.Goals as goal

pub returns : goal.returns
returns g c =
    let (label, said, front, levels) = a_label pathmax_levels exact_levels c.of-numbers.result
    c.read_head.new.numbers c.in_ok-head.head c.in_ok-head.ensures.found c.in_ok-kept.ensures.there
    in
    let many : length label.levels ≡ c.in_ok-head.head.count =
    ap (λ (head : LevelHead). head.count) front in
    rw c.is_own.ensures
    (kept_of_label g.row.N (if_clean (level_label_of pathmax_levels) c.of-numbers.result) label c.in_ok-head.head
    c.in_ok-kept.field-0.kept c.in_ok-kept.field-0.front c.in_ok-kept.field-0.last said front
    (c.in_ok-kept.ensures.front label.levels levels many)
    (c.in_ok-kept.ensures.last label.levels levels many))
    ∙ ap (λ (left : NumbersLeft). option_map (glance_said g.row.N) (if_clean (level_label_of pathmax_levels) left))
    c.of-numbers.ensures

pub returns-in_err-head : goal.returns-in_err-head
returns-in_err-head g c =
    c.from_residual.ensures
    ∙ ap (option_map (glance_said g.row.N)) (sym (no_head pathmax_levels exact_levels c.of-numbers.result
    c.in_err-head.ensures.none))
    ∙ ap (λ (left : NumbersLeft). option_map (glance_said g.row.N) (if_clean (level_label_of pathmax_levels) left))
    c.of-numbers.ensures

pub returns-in_err-kept : goal.returns-in_err-kept
returns-in_err-kept g c =
    c.from_residual-in_err-kept.ensures
    ∙ ap (option_map (glance_said g.row.N)) (sym (no_label pathmax_levels exact_levels c.of-numbers.result
    c.read_head.new.numbers c.in_ok-head.head c.in_ok-head.ensures.found
    c.in_err-kept.ensures.none))
    ∙ ap (λ (left : NumbersLeft). option_map (glance_said g.row.N) (if_clean (level_label_of pathmax_levels) left))
    c.of-numbers.ensures
