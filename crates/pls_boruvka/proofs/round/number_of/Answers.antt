use Rattle.std.proofs.Common.{rules, ◌≡◌, ◌∙◌, ◌<◌, ◌∷◌, [], ◌++◌, ℕ, List, None, Some, length, set, sym, ap, subst, arith}
use Rattle.std.proofs.lemmas.Option.{slice_get-get_or}
use Rattle.pls_boruvka.specs.declared.joining.ChosenEnd.{ChosenEnd}
use Rattle.pls_boruvka.specs.inner.Round.{AreNotedNumbers}
use Rattle.pls_boruvka.proofs.Numbers.{AreNotedNumbers-more}
use Rattle.pls_boruvka.proofs.round.number_of.Goals as goal

pub returns-in-Some-clause-number : goal.returns-in-Some-clause-number
returns-in-Some-clause-number c =
    let top : ℕ = c.args.top in
    let noted = c.args.noted.now in
    let inside : top < length noted =
    omega (arith, c.requires.within, c.requires.noted.each) in
    c.requires.noted.number top c.in-Some.number
    (slice_get-get_or noted top None inside ∙ ap Some c.in-Some.is)

pub returns-clause-noted : goal.returns-clause-noted
returns-clause-noted c =
    let rows = c.args.net.now in
    let choices = c.args.choices.now in
    let before = c.args.chosen.now.items in
    let top : ℕ = c.args.top in
    let end = c.in-Some-chosen_at.end in
    let number : ℕ = c.len-number.result in
    let many : length before ≡ number = search rules in
    subst (λ (chosen : List ChosenEnd). AreNotedNumbers rows choices chosen
    (set c.args.noted.now top (Some number))) (sym c.in_ok-push.ensures.items)
    (subst (λ (count : ℕ). AreNotedNumbers rows choices (before ++ end ∷ [])
    (set c.args.noted.now top (Some count))) many
    (AreNotedNumbers-more rows choices before end c.args.noted.now top c.requires.noted
    c.in-Some-chosen_at.ensures.chosen))
