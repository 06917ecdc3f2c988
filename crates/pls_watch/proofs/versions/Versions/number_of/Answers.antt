use Rattle.std.proofs.Common.{◌≡◌, ◌∙◌, ℕ, ◌-◌, ◌<◌, List, length, map, get_or, sym, ap, subst, arith}
use Rattle.std.proofs.lemmas.List.{length-map}
use Rattle.pls_graph.proofs.Finds.{item_at}
use Rattle.pls_watch.specs.declared.giving.Giving.{Giving}
use Rattle.pls_watch.proofs.Woven.{earlier_at}
use Rattle.pls_watch.specs.Turning.{Turned}
use Rattle.pls_watch.specs.inner.Numbers.{IsGiven, IsLabel, relabelled}
use Rattle.pls_watch.proofs.Numbers.{later_label}
use Rattle.pls_watch.proofs.versions.Versions.number_of.Goals as goal

pub overflow_sub-number : goal.overflow_sub-number
overflow_sub-number c =
    let seen = c.args.self.now in
    let row = item_at seen.network c.args.i c.requires.place in
    let so_far = c.loop-at.invariant row.0 row.1 in
    let later = later_label seen.network seen.turns row.0.id c.loop-at.at c.loop-at.number so_far.0
    (omega (arith, c.loop-at-test.true)) in
    omega (
      arith,
      later.is,
      c.len.ensures,
      ap (λ (turned : Turned). length turned.network)
          c.self.view_is,
    )

pub index-requires : goal.index-requires
index-requires c =
    let old = c.self.inside in
    let seen = c.args.self.now in
    let row = item_at seen.network c.args.i c.requires.place in
    let so_far = c.loop-at.invariant row.0 row.1 in
    let later = later_label seen.network seen.turns row.0.id c.loop-at.at c.loop-at.number so_far.0
    (omega (arith, c.loop-at-test.true)) in
    omega (
      arith,
      later.is,
      later.within,
      c.len.ensures,
      ap (λ (turned : Turned). length turned.network) c.self.view_is,
      ap (λ (turned : Turned). length (relabelled turned.turns)) c.self.view_is,
      c.self.invariant.3.each_given,
      old.givings.ok.0,
      length-map old.givings.items (λ (giving : Giving). giving.earlier),
    )

pub loop-at-preserved : goal.loop-at-preserved
loop-at-preserved c = λ row stands.
    let old = c.self.inside in
    let seen = c.args.self.now in
    let so_far = c.loop-at.invariant row stands in
    let at : ℕ = c.loop-at.at in
    let later = later_label seen.network seen.turns row.id at c.loop-at.number so_far.0
    (omega (arith, c.loop-at-test.true)) in
    let place : c.loop-at.number - c.len.result ≡ later.place =
    omega (
      arith,
      later.is,
      c.len.ensures,
      ap (λ (turned : Turned). length turned.network) c.self.view_is,
    ) in
    let givings : List Giving = old.givings.items in
    let earlier : List ℕ = map (λ (giving : Giving). giving.earlier) givings in
    let within : c.loop-at.number - c.len.result < length givings =
    omega (
      arith,
      length-map givings (λ (giving : Giving). giving.earlier),
      place,
      later.within,
      ap (λ (turned : Turned). length (relabelled turned.turns)) c.self.view_is,
      c.self.invariant.3.each_given,
    ) in
    let value : get_or earlier later.place 0 ≡ c.index.result.now.earlier =
    ap (λ (k : ℕ). get_or earlier k 0) (sym place)
    ∙ earlier_at givings (c.loop-at.number - c.len.result) c.index.result.now within
    c.index.ensures in
    let given = subst (λ (turned : Turned). IsGiven turned.turns row.id (at - 1) later.place)
    (sym c.self.view_is) later.given in (
      subst (λ (l : ℕ). IsLabel seen.network seen.turns row.id (at - 1) l) value
          (subst (λ (turned : Turned). IsLabel turned.network turned.turns row.id (at - 1)
          (get_or earlier later.place 0)) c.self.view_is
          (c.self.invariant.3.are_earlier later.place row.id (at - 1) given)),
      omega (arith, c.loop-at-test.true),
    )

pub returns : goal.returns
returns c = λ row stands.
    let seen = c.args.self.now in
    let so_far = c.loop-at.invariant row stands in
    let same : c.loop-at.at ≡ c.args.version = omega (arith, so_far.1, c.loop-at-test.false) in
    subst (λ (v : ℕ). IsLabel seen.network seen.turns row.id v c.loop-at.number) same so_far.0
