use Rattle.std.proofs.Common.{◌≡◌, ◌∙◌, ◌||◌, ℕ, inl, inr, false, drop, get_or, slice_get, sym, ap, subst, arith}
use Rattle.std.proofs.lemmas.Bool.{cases_lt}
use Rattle.std.proofs.lemmas.List.{drop-drop}
use Rattle.std.proofs.lemmas.Option.{same_Some}
use Rattle.pls_centroid.specs.declared.level.CentroidLevel.{CentroidLevel}
use Rattle.pls_pathmax.specs.inner.Glance.{is_own_level}
use Rattle.pls_levels.proofs.LevelsLeft.{next_left, none_left}
use Rattle.pls_pathmax.specs.Labels.{pathmax_levels}
use Rattle.pls_pathmax.specs.inner.Reading.{AreLeft}
use Rattle.pls_pathmax.specs.laws.LabelLaws.{exact_levels}
use Rattle.pls_pathmax.proofs.LevelsLeft.{drop_at, nothing_behind}
use Rattle.pls_pathmax.proofs.gathering.have_ways.Goals as goal

pub returns-in_default-clause-hold : goal.returns-in_default-clause-hold
returns-in_default-clause-hold g c holds levels are k level within at =
    let number : ℕ = c.loop-number.number in
    elim (cases_lt k number) [
      | inl before ↦ c.loop-number.invariant.hold levels are k level before at
      | inr later ↦
          let none = nothing_behind levels number k
          (none_left pathmax_levels
          c.loop-number.numbers (drop number levels) c.in_default.ensures.none
          (c.loop-number.invariant.left levels are)) later in
          absurd (let no = sym none ∙ at in cc)
    ]

pub returns-then-not-has_way-clause-fail : goal.returns-then-not-has_way-clause-fail
returns-then-not-has_way-clause-fail g c fails levels are =
    let number : ℕ = c.loop-number.number in
    let one = next_left pathmax_levels exact_levels
    c.loop-number.numbers c.read_level.new.numbers c.in-Some.level
    (drop number levels) c.in-Some.ensures.found (c.loop-number.invariant.left levels are) in (
      number,
      c.in-Some.level,
      c.loop-number-test.true,
      drop_at levels number c.in-Some.level one.0,
      sym c.has_way.ensures ∙ c.if-not-has_way.true,
    )

pub loop-number-preserved : goal.loop-number-preserved
loop-number-preserved g c =
    let number : ℕ = c.loop-number.number in
    record {
      left = λ levels are. subst (AreLeft c.read_level.new.numbers) (drop-drop 1 number levels)
          (next_left pathmax_levels exact_levels
          c.loop-number.numbers c.read_level.new.numbers c.in-Some.level
          (drop number levels) c.in-Some.ensures.found
          (c.loop-number.invariant.left levels are)).1;
      hold = λ levels are k level below at. elim (cases_lt k number) [
        | inl before ↦ c.loop-number.invariant.hold levels are k level before at
        | inr later ↦
            let here : k ≡ number = omega (arith, below, later) in
            let one = next_left pathmax_levels exact_levels
            c.loop-number.numbers c.read_level.new.numbers c.in-Some.level
            (drop number levels) c.in-Some.ensures.found
            (c.loop-number.invariant.left levels are) in
            let same : level ≡ c.in-Some.level = same_Some level c.in-Some.level
            (sym at ∙ ap (slice_get levels) here
            ∙ drop_at levels number c.in-Some.level one.0) in
            ap (λ (level : CentroidLevel). is_own_level c.args.own level
            || get_or c.args.led_on.now k false) same
            ∙ ap (λ (k : ℕ). is_own_level c.args.own c.in-Some.level
            || get_or c.args.led_on.now k false) here ∙ sym c.has_way.ensures
            ∙ c.if-not-has_way.false
      ];
    }
