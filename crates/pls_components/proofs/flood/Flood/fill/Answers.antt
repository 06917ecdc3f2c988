use Rattle.std.proofs.Common.{◌≡◌, ℕ, List, [], ◌∷◌, Contains, subst, sym, rules}
use Rattle.std.proofs.lemmas.List.Elements.{Contains-push}
use Rattle.pls_components.specs.inner.Numbers.{Enters}
use Rattle.pls_components.proofs.Apart.{joined_within}
use Rattle.pls_components.proofs.Filling.{Filling, Filling-first, Filling-more, Fills-end}
use Rattle.pls_components.proofs.flood.Flood.fill.Goals as goal

pub loop-place-init : goal.loop-place-init
loop-place-init c =
    Filling-first c.args.net.now c.is_valid.ensures c.args.self.now.numbers.items c.args.root
    c.args.number c.enter.new.self.numbers.items c.enter.new.self.waiting.items c.requires.within
    c.requires.closed c.requires.blank
    (subst (λ (before : List ℕ). Enters c.args.self.now.numbers.items c.enter.new.self.numbers.items
    before c.enter.new.self.waiting.items c.args.number (c.args.root ∷ [])) c.requires.none
    c.in_ok-enter.ensures)

pub places-requires : goal.places-requires
places-requires c =
    let place = c.in-Some.place in
    let waiting : Contains c.loop-place.self.waiting.items place =
    subst (λ (waiting : List ℕ). Contains waiting place) (sym c.in-Some.ensures.items)
    (Contains-push c.pop.new.self.items place) in
    joined_within c.args.net.now c.args.root place (c.loop-place.invariant.waits place waiting).1

pub loop-place-preserved : goal.loop-place-preserved
loop-place-preserved c =
    Filling-more c.args.net.now c.is_valid.ensures c.args.self.now.numbers.items c.args.root
    c.args.number c.loop-place.self.numbers.items c.enter_all.new.self.numbers.items
    c.loop-place.self.waiting.items c.pop.new.self.items c.enter_all.new.self.waiting.items
    c.in-Some.place c.in-Some.ensures.items c.loop-place.invariant
    (subst (λ (named : List ℕ). Enters c.loop-place.self.numbers.items
    c.enter_all.new.self.numbers.items c.pop.new.self.items c.enter_all.new.self.waiting.items
    c.args.number named) c.places.ensures.places c.in_ok-enter_all.ensures)

pub returns-clause-filled : goal.returns-clause-filled
returns-clause-filled c =
    let empty : c.loop-place.self.waiting.items ≡ [] = search rules in
    Fills-end c.args.net.now c.is_valid.ensures c.args.self.now.numbers.items c.args.root
    c.args.number c.loop-place.self.numbers.items
    (subst (λ (waiting : List ℕ). Filling c.args.net.now c.args.self.now.numbers.items
    c.loop-place.self.numbers.items waiting c.args.root c.args.number) empty c.loop-place.invariant)
