use Rattle.std.proofs.Common.{◌∙◌, ◌<◌, ℕ, Bool, List, Some, length, slice_get, sym, take, ap, arith}
use Rattle.std.proofs.lemmas.List.{length-take}
use Rattle.std.proofs.lemmas.Option.{slice_get_past}
use Rattle.pls_centroid.specs.declared.level.CentroidLevel.{CentroidLevel}
use Rattle.pls_levels.proofs.KeptFronts.{kept_at}
use Rattle.pls_pathmax.specs.inner.Glance.{all_whole}
use Rattle.pls_pathmax.specs.inner.KeptLevel.{kept_form}
use Rattle.pls_pathmax.proofs.Compared.{noted_all, noted_more, noted_rest, nothing_leads}
use Rattle.pls_pathmax.proofs.comparing.note_front.Goals as goal

pub loop-place-preserved : goal.loop-place-preserved
loop-place-preserved g c =
    let place : ℕ = c.loop-place.place in
    let count : ℕ = c.args.count in
    let mine = c.args.mine.now in
    let theirs = c.args.theirs.now in
    let old : List Bool = c.args.flags.now in
    let flags : List Bool = c.loop-place.flags in
    let less : place < count = c.loop-place-test.true in
    let mine_has : place < length mine = omega (arith, c.told-mine, c.requires.kept, less) in
    let theirs_has : place < length theirs = omega (arith, c.told-theirs, c.requires.kept, less) in
    let flag_has : place < length flags =
    omega (arith, c.loop-place.auto.flags, c.requires.flags, less) in
    record {
      within = omega (arith, less);
      done = noted_more c.args.weight (take count (all_whole mine))
          (take count (all_whole theirs)) place old flags c.loop-place.invariant.done
          c.loop-place.invariant.rest flag_has c.whole-here.result c.whole-there.result
          (kept_at kept_form count mine place less mine_has ∙ ap Some (sym c.whole-here.ensures))
          (kept_at kept_form count theirs place less theirs_has
          ∙ ap Some (sym c.whole-there.ensures))
          c.is_led_on.result c.is_led_on.ensures;
      rest = λ k later. noted_rest place old flags c.loop-place.invariant.rest
          c.is_led_on.result k later;
    }

pub returns : goal.returns
returns g c k =
    let count : ℕ = c.args.count in
    let here : List CentroidLevel = take count (all_whole c.args.mine.now) in
    let there : List CentroidLevel = take count (all_whole c.args.theirs.now) in
    noted_all c.args.weight here there c.loop-place.place c.args.flags.now c.loop-place.flags
    c.loop-place.invariant.done c.loop-place.invariant.rest
    (λ k later. nothing_leads c.args.weight (slice_get here k) (slice_get there k)
    (slice_get_past here k
    (let ends = c.loop-place-test.false in
    omega (arith, later, ends, length-take count (all_whole c.args.mine.now))))) k
