use Rattle.std.proofs.Common.{◌≡◌, ◌∙◌, ◌+◌, ◌&&◌, ◌||◌, ℕ, Bool, true, false, get_or, slice_get, sym, ap, arith}
use Rattle.std.proofs.lemmas.Option.{same_Some}
use Rattle.pls_scheme.specs.Reading.{port_with}
use Rattle.pls_levels.specs.declared.label.LevelHead.{LevelHead}
use Rattle.pls_levels.specs.Rules.{is_in_tree}
use Rattle.pls_pathmax.specs.inner.OnePass.{leads_from}
use Rattle.pls_pathmax.specs.inner.Reading.{head_said}
use Rattle.pls_pathmax.proofs.Compared.{or_nothing}
use Rattle.pls_pathmax.proofs.in_memory.note_port.Goals as goal

pub returns-in_default : goal.returns-in_default
returns-in_default g c mine theirs own_read theirs_read named k within =
    absurd (let wrong = sym c.in_default.is ∙ c.head_of.ensures theirs theirs_read in cc)

pub returns-then-not-is_in_tree : goal.returns-then-not-is_in_tree
returns-then-not-is_in_tree g c mine theirs own_read theirs_read named k within =
    let front = same_Some c.in-Some.head (head_said theirs)
    (sym c.in-Some.is ∙ c.head_of.ensures theirs theirs_read) in
    let outside : is_in_tree c.args.up mine c.args.place (port_with c.args.weight theirs) ≡ false =
    rw (sym (ap (λ (head : LevelHead). head.parent) front), named)
    (sym c.is_in_tree.ensures ∙ c.if-not-is_in_tree.true) in
    or_nothing (get_or c.args.flags.now k false)
    (is_in_tree c.args.up mine c.args.place (port_with c.args.weight theirs)
    && leads_from c.args.weight (slice_get mine.levels k) (slice_get theirs.levels k))
    (ap (λ (inside : Bool). inside
    && leads_from c.args.weight (slice_get mine.levels k) (slice_get theirs.levels k)) outside)

pub returns : goal.returns
returns g c mine theirs own_read theirs_read named k within =
    let front = same_Some c.in-Some.head (head_said theirs)
    (sym c.in-Some.is ∙ c.head_of.ensures theirs theirs_read) in
    let inside : is_in_tree c.args.up mine c.args.place (port_with c.args.weight theirs) ≡ true =
    rw (sym (ap (λ (head : LevelHead). head.parent) front), named)
    (sym c.is_in_tree.ensures ∙ c.if-not-is_in_tree.false) in
    let same : 0 + k ≡ k = omega arith in
    let flag : Bool = get_or c.args.flags.now k false in
    c.note_ways.ensures mine.levels theirs.levels (c.levels_of-mine.ensures mine own_read)
    (c.levels_of-theirs.ensures theirs theirs_read) k within
    ∙ ap (λ (weight : ℕ). flag
    || leads_from weight (slice_get mine.levels (0 + k)) (slice_get theirs.levels (0 + k)))
    c.from.ensures
    ∙ ap (λ (k : ℕ). flag
    || leads_from c.args.weight (slice_get mine.levels k) (slice_get theirs.levels k)) same
    ∙ ap (λ (inside : Bool). flag || (inside
    && leads_from c.args.weight (slice_get mine.levels k) (slice_get theirs.levels k))) (sym inside)
