use Rattle.std.proofs.Common.{◌≡◌, ◌∙◌, ◌+◌, ◌-◌, ◌<◌, ℕ, List, sym, ap, arith}
use Rattle.pls_boruvka.specs.declared.level.Level.{Level}
use Rattle.pls_numbers.specs.Taking.{are_items, items_off}
use Rattle.pls_numbers.specs.laws.BehindLaws.{behind_all, behind_more, behind_none, none_behind}
use Rattle.pls_levels.proofs.KeptFronts.{front-next, front-none, none_fits, none_left}
use Rattle.pls_mst.specs.declared.glance.TheConstants.{FRONT}
use Rattle.pls_mst.specs.Labels.{level_off}
use Rattle.pls_mst.specs.inner.Glance.{IsFront}
use Rattle.pls_mst.specs.inner.KeptLevel.{kept_form}
use Rattle.pls_mst.proofs.Fronts.{next_read}
use Rattle.pls_mst.proofs.glance.read_front.Goals as goal

pub loop-place-init : goal.loop-place-init
loop-place-init g c =
    let old = c.args.numbers.now in
    let all : c.args.count ≡ c.args.count - 0 = omega arith in
    record {
      within = omega arith;
      kept = front-none kept_form FRONT (items_off level_off c.args.count old.numbers)
          (items_off level_off (c.args.count - 0) old.numbers)
          (ap (λ (count : ℕ). items_off level_off count old.numbers) all);
      behind = behind_none level_off old;
    }

pub returns-in_err-level-clause-none : goal.returns-in_err-level-clause-none
returns-in_err-level-clause-none g c =
    rw c.from_residual.ensures
    (none_behind level_off c.loop-place.place c.args.count c.args.numbers.now c.loop-place.numbers
    c.loop-place.invariant.behind (omega (arith, c.loop-place-test.true, c.in_front-first.ensures))
    c.in_err-level.ensures.none)

pub returns-in_default-clause-found : goal.returns-in_default-clause-found
returns-in_default-clause-found g c =
    let place : ℕ = c.loop-place.place in
    let levels : List Level = items_off level_off c.args.count c.args.numbers.now.numbers in
    let new = c.read_level.new.numbers in
    none_fits kept_form FRONT place c.loop-place.levels levels c.in_ok-level.level
    (items_off level_off (c.args.count - (place + 1)) new.numbers)
    (next_read place c.args.count c.loop-place.levels levels c.loop-place.numbers
    c.in_ok-level.level new (omega (arith, c.loop-place-test.true, c.in_front-first.ensures))
    c.in_ok-level.ensures.found c.loop-place.invariant.kept)
    (omega (arith, c.loop-place-test.true, c.in_front-first.ensures)) c.in_default.ensures.none

pub returns-in_default-clause-left : goal.returns-in_default-clause-left
returns-in_default-clause-left g c =
    let place : ℕ = c.loop-place.place in
    let new = c.read_level.new.numbers in
    let less : place < c.args.count =
    omega (arith, c.loop-place-test.true, c.in_front-first.ensures) in
    let same : c.args.count - (place + 1) ≡ c.args.count - place - 1 = omega arith in
    behind_all level_off (place + 1) c.args.count c.args.numbers.now new
    (behind_more level_off place c.args.numbers.now c.loop-place.numbers new c.in_ok-level.level
    c.loop-place.invariant.behind c.in_ok-level.ensures.found) (omega (arith, less))
    ∙ ap (λ (count : ℕ). are_items level_off count new) same

pub loop-place-preserved : goal.loop-place-preserved
loop-place-preserved g c =
    let place : ℕ = c.loop-place.place in
    let levels : List Level = items_off level_off c.args.count c.args.numbers.now.numbers in
    let new = c.read_level.new.numbers in
    let less : place < c.args.count =
    omega (arith, c.loop-place-test.true, c.in_front-first.ensures) in
    record {
      within = omega (arith, c.loop-place-test.true);
      kept = front-next kept_form FRONT place c.loop-place.levels levels c.in_ok-level.level
          (items_off level_off (c.args.count - (place + 1)) new.numbers) c.in-Some.short
          (omega (arith, c.loop-place-test.true, c.in_front-first.ensures))
          (next_read place c.args.count c.loop-place.levels levels c.loop-place.numbers
          c.in_ok-level.level new less c.in_ok-level.ensures.found c.loop-place.invariant.kept)
          c.in-Some.ensures.fits c.in-Some.ensures.found;
      behind = behind_more level_off place c.args.numbers.now c.loop-place.numbers new
          c.in_ok-level.level c.loop-place.invariant.behind c.in_ok-level.ensures.found;
    }

pub returns-clause-found : goal.returns-clause-found
returns-clause-found g c =
    let place : ℕ = c.loop-place.place in
    let levels : List Level = items_off level_off c.args.count c.args.numbers.now.numbers in
    let left : List Level =
    items_off level_off (c.args.count - place) c.loop-place.numbers.numbers in
    let first : c.in_front-first.result ≡ place =
    omega (arith, c.loop-place.invariant.within, c.loop-place-test.false) in
    let front : IsFront place c.loop-place.levels levels =
    none_left kept_form FRONT place c.loop-place.levels levels left c.loop-place.invariant.kept
    (omega (arith, first, c.in_front-first.ensures))
    (λ less. let none : c.args.count - place ≡ 0 =
    omega (arith, less, first, c.in_front-first.ensures) in
    ap (λ (count : ℕ). items_off level_off count c.loop-place.numbers.numbers) none) in
    (first ∙ front.0, front.1)

pub returns-clause-left : goal.returns-clause-left
returns-clause-left g c =
    let first : c.in_front-first.result ≡ c.loop-place.place =
    omega (arith, c.loop-place.invariant.within, c.loop-place-test.false) in
    behind_all level_off c.loop-place.place c.args.count c.args.numbers.now c.loop-place.numbers
    c.loop-place.invariant.behind (omega (arith, first, c.in_front-first.ensures))
    ∙ ap (λ (count : ℕ). are_items level_off (c.args.count - count) c.loop-place.numbers)
    (sym first)
