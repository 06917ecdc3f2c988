use Rattle.std.proofs.Common.{◌∙◌, Some, option_map, sym, ap}
use Rattle.pls_numbers.specs.Shape.{if_clean}
use Rattle.pls_numbers.specs.Numbers.{NumbersLeft}
use Rattle.pls_levels.specs.Labels.{head_of, level_label_of}
use Rattle.pls_levels.proofs.Labels.{a_label}
use Rattle.pls_levels.proofs.reading.head_in.Goals as goal

pub returns-then-are_levels : goal.returns-then-are_levels
returns-then-are_levels g c =
    let form = g.K.LevelKind.form in
    let (label, said, front, levels) = a_label form g.met.K.LevelKind.form_law c.of-numbers.result
    c.read_head.new.numbers c.in_ok-head.head c.in_ok-head.ensures.found
    (sym c.are_levels.ensures ∙ c.if-are_levels.true) in
    ap Some (sym front) ∙ sym (ap (option_map (head_of form)) said)
    ∙ ap (λ (left : NumbersLeft). option_map (head_of form) (if_clean (level_label_of form) left))
    c.of-numbers.ensures
