use Rattle.std.proofs.Common.{◌≡◌, ◌∙◌, ◌+◌, ◌-◌, ◌||◌, ℕ, inl, inr, Bool, true, false, List, Option, get_or, length, slice_get, sym, ap, arith}
use Rattle.std.specs.Option.{option_map_or}
use Rattle.std.proofs.lemmas.Bool.{cases_Bool, cases_lt, or_left, or_right}
use Rattle.std.proofs.lemmas.Option.{slice_get_past, slice_get_within}
use Rattle.pls_scheme.specs.Reading.{reading}
use Rattle.pls_centroid.specs.declared.level.CentroidLevel.{CentroidLevel}
use Rattle.pls_pathmax.specs.declared.gathering.TheConstants.{WINDOW}
use Rattle.pls_pathmax.specs.declared.glance.PathMaxGlance.{PathMaxGlance}
use Rattle.pls_pathmax.specs.inner.Glance.{is_own_level}
use Rattle.pls_pathmax.proofs.LevelsLeft.{slice_get-behind}
use Rattle.pls_pathmax.proofs.MorePorts.{led_on_many}
use Rattle.pls_pathmax.proofs.Windows.{ways_fail, ways_hold}
use Rattle.pls_pathmax.proofs.gathering.has_ways.Goals as goal

pub returns-then-not-pass_levels : goal.returns-then-not-pass_levels
returns-then-not-pass_levels g c id state mine ports said front flags =
    let first : ℕ = c.args.first in
    let few = c.pass_levels.ensures.missing c.if-not-pass_levels.true mine.levels
    (c.levels_in-numbers.ensures mine said front) in
    sym (ways_hold (reading id state mine ports) first c.args.led_on.now flags
    (λ k level within at.
    let none = slice_get_past mine.levels (first + k) (omega (arith, few)) in
    absurd (let wrong = sym none ∙ at in cc)))

pub returns : goal.returns
returns g c id state mine ports said front flags =
    let first : ℕ = c.args.first in
    let own : mine.own ≡ c.args.own.now.glance.now.head.own =
    ap (λ (glance : PathMaxGlance g.row.N). glance.head.own) front in
    let left = c.pass_levels.ensures.passed c.if-not-pass_levels.false mine.levels
    (c.levels_in-numbers.ensures mine said front) in
    let many : length c.args.led_on.now ≡ WINDOW =
    ap length flags ∙ led_on_many first (reading id state mine ports) in
    let way_by : CentroidLevel → ℕ → ℕ → Bool =
    λ level k name. is_own_level name level || get_or c.args.led_on.now k false in
    elim (cases_Bool c.have_ways.result) [
      | inl holds ↦ holds ∙ sym (ways_hold (reading id state mine ports) first c.args.led_on.now
          flags (λ k level within at. ap (way_by level k) own
          ∙ c.have_ways.ensures.hold holds _ left k level (omega (arith, within, many))
          (slice_get-behind mine.levels first k ∙ at)))
      | inr fails ↦
          let (k, level, within, at, way) = c.have_ways.ensures.fail fails _ left in
          fails ∙ sym (ways_fail (reading id state mine ports) first c.args.led_on.now flags k level
          (omega (arith, within, many)) (sym (slice_get-behind mine.levels first k) ∙ at)
          (ap (way_by level k) own ∙ way))
    ]

pub returns-then-lead_on : goal.returns-then-lead_on
returns-then-lead_on g c id state mine ports said front flags =
    let first : ℕ = c.args.first in
    let levels : List CentroidLevel = mine.levels in
    let count : length levels ≡ c.args.own.now.glance.now.head.count =
    ap (λ (glance : PathMaxGlance g.row.N). glance.head.count) front in
    let at_own : CentroidLevel → Bool = is_own_level mine.own in
    let ends : option_map_or at_own (slice_get levels (length levels - 1)) false ≡ true =
    ap (λ (glance : PathMaxGlance g.row.N). glance.ends_at_own) front ∙ c.if-own.true in
    sym (ways_hold (reading id state mine ports) first c.args.led_on.now flags
    (λ k level within at. elim (cases_lt (k + 1) (length levels)) [
      | inl before ↦ or_right (at_own level) (get_or c.args.led_on.now k false)
          (c.lead_on.ensures c.if-lead_on.true k (omega (arith, within, c.told-led_on))
          (omega (arith, before, count)))
      | inr last ↦
          let there = slice_get_within levels (first + k) level at in
          let place : length levels - 1 ≡ first + k =
          omega (arith, there, last, c.if-first-eq0.true) in
          or_left (at_own level) (get_or c.args.led_on.now k false)
          (ap (λ (found : Option CentroidLevel). option_map_or at_own found false)
          (sym (ap (slice_get levels) place ∙ at)) ∙ ends)
    ]))
