use Rattle.std.proofs.Common.{◌≡◌, ◌++◌, [], ◌∷◌, ◌+◌, sym, subst, get_or, take}
use Rattle.std.proofs.lemmas.List.{take_more}
use Rattle.pls_components.specs.inner.Numbers.{Enters}
use Rattle.pls_components.proofs.Entering.{Enters-append}
use Rattle.pls_components.proofs.flood.Flood.enter_all.Goals as goal

pub loop-place-preserved : goal.loop-place-preserved
loop-place-preserved c =
    let named = c.args.places.now in
    let i = c.loop-place.place-index in
    let more : take i named ++ get_or named i 0 ∷ [] ≡ take (i + 1) named =
    sym (take_more named i 0 c.loop-place-test.true) in
    subst (Enters c.args.self.now.numbers.items c.enter.new.self.numbers.items
    c.args.self.now.waiting.items c.enter.new.self.waiting.items c.args.number) more
    (Enters-append _ _ _ _ _ _ _ _ _ c.loop-place.invariant c.in_ok-enter.ensures)
