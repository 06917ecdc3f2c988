use Rattle.std.proofs.Common.{◌∙◌, ◌<◌, ℕ, true, List, arith, get_or, length, subst}
use Rattle.std.proofs.lemmas.List.{length-set, take_all}
use Rattle.pls_recheck.specs.inner.Flags.{SetsAt}
use Rattle.pls_recheck.proofs.Around.{set_more}
use Rattle.pls_recheck.proofs.labelling.set_all.Goals as goal

pub loop-place-preserved : goal.loop-place-preserved
loop-place-preserved c =
    let places = c.args.places.now in
    let i = c.loop-place.place-index in
    let flags = c.loop-place.flags.items in
    let more = c.loop-place-test.true in
    let place : ℕ = get_or places i 0 in
    let inside : place < length flags =
    omega (arith, c.requires i 0 more, c.loop-place.invariant.many) in
    record {
      set = set_more places i 0 c.args.flags.now.items flags more inside c.loop-place.invariant.set;
      many = length-set flags place true ∙ c.loop-place.invariant.many;
    }

pub returns : goal.returns
returns c =
    subst (λ (places : List ℕ). SetsAt places c.args.flags.now.items c.loop-place.flags.items)
    (take_all c.loop-place.place-index c.args.places.now c.loop-place-test.false) c.loop-place.invariant.set
