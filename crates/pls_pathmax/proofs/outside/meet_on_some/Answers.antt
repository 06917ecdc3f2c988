use Rattle.std.proofs.Common.{◌∙◌, ◌+◌, ◌||◌, ℕ, Bool, true, inl, inr, length, sym, ap, arith}
use Rattle.std.proofs.lemmas.Bool.{cases_lt}
use Rattle.std.proofs.lemmas.List.{drop_all}
use Rattle.pls_pathmax.specs.Rules.{meet_lightly}
use Rattle.pls_pathmax.proofs.Compared.{meet_from, meet_next, none_meet_here, none_meet_there}
use Rattle.pls_pathmax.proofs.LevelsLeft.{drop_from}
use Rattle.pls_pathmax.proofs.outside.meet_on_some.Goals as goal

pub returns-then-meet_lightly : goal.returns-then-meet_lightly
returns-then-meet_lightly c =
    let i : ℕ = c.loop-i.i in
    sym (c.loop-i.invariant
    ∙ meet_next c.args.weight c.args.mine.now c.args.theirs.now i c.at.result
    c.at-in-loop-i.result
    (drop_from c.args.mine.now i c.at.result c.at.ensures)
    (drop_from c.args.theirs.now i c.at-in-loop-i.result c.at-in-loop-i.ensures)
    ∙ ap (λ (met : Bool). met || meet_from c.args.weight c.args.mine.now c.args.theirs.now (i + 1))
    (sym c.meet_lightly.ensures ∙ c.if-meet_lightly.true))

pub loop-i-preserved : goal.loop-i-preserved
loop-i-preserved c =
    let i : ℕ = c.loop-i.i in
    c.loop-i.invariant
    ∙ meet_next c.args.weight c.args.mine.now c.args.theirs.now i c.at.result
    c.at-in-loop-i.result
    (drop_from c.args.mine.now i c.at.result c.at.ensures)
    (drop_from c.args.theirs.now i c.at-in-loop-i.result c.at-in-loop-i.ensures)
    ∙ ap (λ (met : Bool). met || meet_from c.args.weight c.args.mine.now c.args.theirs.now (i + 1))
    (sym c.meet_lightly.ensures ∙ c.if-meet_lightly.false)

pub returns : goal.returns
returns c =
    let number : ℕ = c.loop-i.i in
    let ends = c.loop-i-test.false in
    let least = c.min-i-end.ensures in
    let mine_many = c.len.ensures in
    let theirs_many = c.len-2.ensures in
    sym (c.loop-i.invariant ∙ elim (cases_lt (length c.args.theirs.now) (length c.args.mine.now)) [
      | inl fewer ↦ none_meet_there c.args.weight c.args.mine.now c.args.theirs.now number
          (drop_all number c.args.theirs.now
          (omega (arith, ends, least, mine_many, theirs_many, fewer)))
      | inr more ↦ none_meet_here c.args.weight c.args.mine.now c.args.theirs.now number
          (drop_all number c.args.mine.now
          (omega (arith, ends, least, mine_many, theirs_many, more)))
    ])
