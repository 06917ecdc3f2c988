use Rattle.std.proofs.Common.{ℕ, Bool, List, Option, inl, inr, refl, subst}
use Rattle.std.proofs.lemmas.Result.{IfOk-weaker}
use Rattle.pls_scheme.specs.Judging.{AllAccept}
use Rattle.pls_combine.specs.Expression.{IsMarked, judge_of, longest_of}
use Rattle.pls_components.specs.Components.{FitsInEach}
use Rattle.pls_components.specs.Parts.{AreWithinBound}
use Rattle.pls_app.proofs.mark.mark_within.Goals as goal

pub returns-in-Labels-clause-marks : goal.returns-in-Labels-clause-marks
returns-in-Labels-clause-marks g c =
    let scheme = c.args.scheme.now in
    let net = c.args.net in
    let labels = c.in-Labels.labels in
    let shown = rw c.in-Labels.is at c.in_ok-labels.ensures.labels in
    inl (
      labels,
      record {
        holds = shown.has;
        each = shown.each;
        marks = subst (λ (code : ℕ → List Bool). FitsInEach (IsMarked code scheme) net labels)
            c.requires.named.writes_so shown.right;
      },
      refl,
    )

pub returns-in-Labels-clause-shows : goal.returns-in-Labels-clause-shows
returns-in-Labels-clause-shows g c = λ done.
    let scheme = c.args.scheme.now in
    let net = c.args.net in
    let labels = c.in-Labels.labels in
    let shown = rw c.in-Labels.is at c.in_ok-labels.ensures.labels in
    record {
      labels = labels;
      shows = record {
        holds = shown.has;
        each = shown.each;
        accepted = subst (λ (takes : List Bool → Option (ℕ × List Bool)).
            AllAccept (judge_of takes scheme) net labels) c.requires.named.takes_so shown.accepted;
        short = subst (λ (code : ℕ → List Bool).
            FitsInEach (AreWithinBound (longest_of code scheme)) net labels)
            c.requires.named.writes_so shown.short;
      };
      is = refl;
    }

pub returns-in-Lacking-clause-marks : goal.returns-in-Lacking-clause-marks
returns-in-Lacking-clause-marks g c =
    let ids = c.in-Lacking.ids in
    let lacking = rw c.in-Lacking.is at c.in_ok-labels.ensures.lacking in
    IfOk-weaker c.no_answer.result _ _ (λ answer is. inr (ids, lacking, rw c.as_slice.ensures at is))
    c.no_answer.ensures.says
