use Rattle.std.proofs.Common.{◌≡◌, ◌∙◌, true, sym, ap}
use Rattle.std.specs.Option.{option_map}
use Rattle.pls_numbers.specs.Shape.{if_clean}
use Rattle.pls_numbers.specs.Numbers.{NumbersLeft}
use Rattle.pls_numbers.specs.Taking.{are_items}
use Rattle.pls_levels.specs.Labels.{level_label_of}
use Rattle.pls_mst.specs.Labels.{level_off, mst_levels}
use Rattle.pls_mst.specs.inner.Glance.{glance_of}
use Rattle.pls_mst.proofs.Fronts.{glance_there}
use Rattle.pls_mst.proofs.glance.glance_at.Goals as goal

pub returns-then-are_levels : goal.returns-then-are_levels
returns-then-are_levels g c =
    let there : are_items level_off c.in_ok-head.head.count c.read_head.new.numbers ≡ true =
    c.in_ok-kept.ensures.left ∙ sym c.are_levels.ensures ∙ c.if-are_levels.true in
    glance_there c.of-numbers.result c.in_ok-head.head c.read_head.new.numbers
    c.in_ok-kept.field-0.kept c.in_ok-kept.field-0.levels c.in_ok-head.ensures.found there
    c.in_ok-kept.ensures.found
    ∙ ap (λ (left : NumbersLeft). option_map glance_of (if_clean (level_label_of mst_levels) left))
    c.of-numbers.ensures
