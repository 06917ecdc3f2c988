use Rattle.std.proofs.Common.{◌≡◌, ◌∙◌, ℕ, List, true, false, not, Some, is_some, sym, ap, subst, slice_set, [], ◌∷◌}
use Rattle.pls_components.specs.inner.Numbers.{Enters, HasNumber}
use Rattle.pls_components.proofs.Entering.{Enters-known, Enters-new, no_number, some_number}
use Rattle.pls_components.proofs.flood.Flood.enter.Goals as goal

pub returns-in_ok-push : goal.returns-in_ok-push
returns-in_ok-push c =
    let numbers = c.args.self.now.numbers.items in
    let waiting = c.args.self.now.waiting.items in
    let place = c.args.place in
    let none : is_some c.index.result.now ≡ false = c.is_none.ensures ∙ ap not c.if-is_none.true in
    let blank = no_number numbers place c.requires c.index.result.now c.index.ensures none in
    subst (λ (after : List ℕ). Enters numbers (slice_set numbers place (Some c.args.number))
    waiting after c.args.number (place ∷ [])) (sym c.in_ok-push.ensures.items)
    (Enters-new numbers waiting c.args.number place c.requires blank)

pub returns-else-is_none : goal.returns-else-is_none
returns-else-is_none c =
    let numbers = c.args.self.now.numbers.items in
    let some : is_some c.index.result.now ≡ true = c.is_none.ensures ∙ ap not c.if-is_none.false in
    let has : (known : ℕ) × HasNumber numbers c.args.place known =
    some_number numbers c.args.place c.requires c.index.result.now c.index.ensures some in
    Enters-known numbers c.args.self.now.waiting.items c.args.number c.args.place has.0 has.1
