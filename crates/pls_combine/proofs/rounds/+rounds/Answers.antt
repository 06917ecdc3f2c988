use Rattle.std.proofs.Common.{◌≡◌, ◌∙◌, ℕ, inl, inr, Bool, List, Option, false, true, refl, sym, ap, subst}
use Rattle.pls_configuration.specs.declared.row.NodeRow.{NodeRow}
use Rattle.pls_labels.specs.Seen.{views}
use Rattle.pls_scheme.specs.Judging.{verdicts_by}
use Rattle.pls_combine.specs.Expression.{judge_map, judge_of}
use Rattle.pls_parts.specs.inner.Rounds.{HasTag}
use Rattle.pls_expressions.specs.declared.expression_tree.ExpressionTree.{ExpressionTree}
use Rattle.pls_expressions.specs.Held.{expression_of}
use Rattle.pls_combine.proofs.JudgedParts.{all_within, and_verdicts, or_verdicts}
use Rattle.pls_combine.proofs.rounds.+rounds.Goals.{round_tree-in-Of+in_ok-verdicts-in-Of, round_tree-in-Diameter+in_ok-verdicts-in-Diameter, round_tree-in-And+in_ok-parted-in-And+in_ok-firsts-in-And+in_ok-seconds-in-And+in_ok-verdicts-in-And, round_tree-in-Or+in_ok-tags-in-Or+in_ok-rests-in-Or+in_ok-firsts-in-Or+in_ok-seconds-in-Or+in_ok-verdicts-in-Or}
use Rattle.pls_combine.proofs.rounds.+rounds.Goals as goal

-- a property that has no scheme of its own is judged as its map is
judged_as_map : (takes : List Bool → Option (ℕ × List Bool)) (rows : List NodeRow)
    (labels : List (List Bool)) {tree other : ExpressionTree} → tree ≡ other
    → verdicts_by (judge_map takes (expression_of other)) rows labels
    ≡ verdicts_by (judge_of takes (expression_of other)) rows labels
    → verdicts_by (judge_map takes (expression_of tree)) rows labels
    ≡ verdicts_by (judge_of takes (expression_of tree)) rows labels
judged_as_map takes rows labels is same =
    subst (λ (tree : ExpressionTree). verdicts_by (judge_map takes (expression_of tree)) rows labels
    ≡ verdicts_by (judge_of takes (expression_of tree)) rows labels) (sym is) same

pub round_tree-returns-clause-verdicts : goal.round_tree-returns-clause-verdicts
round_tree-returns-clause-verdicts g t c =
    let takes = g.C.NumCode.takes in
    let rows = c.args.net.now in
    let labels = c.args.labels.now in
    elim c.match-tree.branch [
      | round_tree-in-Of+in_ok-verdicts-in-Of w ↦
          rw (w.verdicts-is, w.in-Of.is) (w.in_ok-verdicts-in-Of.ensures.verdicts
          ∙ rw w.new.ensures refl)
      | round_tree-in-Diameter+in_ok-verdicts-in-Diameter w ↦ rw w.verdicts-is
          (elim w.in-Diameter.is [
            | inl (most, is) ↦ w.in_ok-verdicts-in-Diameter.ensures
                ∙ judged_as_map takes rows labels is refl
            | inr (inl is) ↦ w.in_ok-verdicts-in-Diameter.ensures
                ∙ judged_as_map takes rows labels is refl
            | inr (inr (property, is)) ↦ w.in_ok-verdicts-in-Diameter.ensures
                ∙ judged_as_map takes rows labels is refl
          ])
      | round_tree-in-And+in_ok-parted-in-And+in_ok-firsts-in-And+in_ok-seconds-in-And+in_ok-verdicts-in-And w ↦
          let one = expression_of w.deref.result.now in
          let two = expression_of w.deref-in-And.result.now in
          and_verdicts takes rows labels (expression_of c.args.tree.now) one two
          w.leaves_of-leaves.result c.match-tree.verdicts.items
          (ap expression_of w.in-And.is ∙ rw (w.deref.ensures, w.deref-in-And.ensures) refl)
          (w.leaves_of-leaves.ensures.value ∙ rw (w.deref.ensures, w.deref-in-And-2.ensures) refl)
          (rw w.verdicts-is (w.in_ok-verdicts-in-And.ensures labels (judge_of takes one)
          (judge_of takes two) c.requires.each
          (w.deref-in-And-3.ensures.value ∙ w.in_ok-parted-in-And.ensures.whole)
          (w.deref-in-And-4.ensures.value ∙ w.in_ok-firsts-in-And.ensures.verdicts
          ∙ ap (verdicts_by (judge_of takes one) rows) w.in_ok-parted-in-And.ensures.fronts)
          (w.deref-in-And-5.ensures.value ∙ w.in_ok-seconds-in-And.ensures.verdicts
          ∙ ap (verdicts_by (judge_of takes two) rows) w.in_ok-parted-in-And.ensures.backs)))
      | round_tree-in-Or+in_ok-tags-in-Or+in_ok-rests-in-Or+in_ok-firsts-in-Or+in_ok-seconds-in-Or+in_ok-verdicts-in-Or w ↦
          let one = expression_of w.deref-in-Or.result.now in
          let two = expression_of w.deref-in-Or-3.result.now in
          or_verdicts takes rows labels (expression_of c.args.tree.now) one two
          w.leaves_of.result c.match-tree.verdicts.items
          (ap expression_of w.in-Or.is ∙ rw (w.deref-in-Or.ensures, w.deref-in-Or-3.ensures) refl)
          (w.leaves_of.ensures.value ∙ rw (w.deref-in-Or.ensures, w.deref-in-Or-6.ensures) refl)
          (rw w.verdicts-is (w.in_ok-verdicts-in-Or.ensures labels (judge_of takes one)
          (judge_of takes two) c.requires.each
          (w.deref-in-Or-5.ensures.value ∙ w.in_ok-tags-in-Or.ensures)
          (λ some. w.deref-in-Or-7.ensures.value
          ∙ w.in_ok-firsts-in-Or.ensures.verdicts
          (subst (HasTag false) (w.deref-in-Or-5.ensures.value ∙ sym w.deref-in-Or-2.ensures.value) some)
          ∙ ap (verdicts_by (judge_of takes one) rows) w.in_ok-rests-in-Or.ensures)
          (λ some. w.deref-in-Or-8.ensures.value
          ∙ w.in_ok-seconds-in-Or.ensures.verdicts
          (subst (HasTag true) (w.deref-in-Or-5.ensures.value ∙ sym w.deref-in-Or-4.ensures.value) some)
          ∙ ap (verdicts_by (judge_of takes two) rows) w.in_ok-rests-in-Or.ensures)))
    ]

pub round_tree-returns-clause-leaves : goal.round_tree-returns-clause-leaves
round_tree-returns-clause-leaves g t c =
    all_within g.C.NumCode.takes (expression_of c.args.tree.now)
    (views c.args.net.now c.args.labels.now) c.match-tree.verdicts.items
    (round_tree-returns-clause-verdicts g t c)
