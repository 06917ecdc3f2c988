use Rattle.std.proofs.Common.{◌≡◌, ◌∙◌, ◌<◌, ◌≤◌, ◌||◌, ℕ, Bool, false, List, Option, get_or, length, sym, ap, arith}
use Rattle.std.proofs.lemmas.Option.{same_Some}
use Rattle.pls_labels.specs.Seen.{Seen}
use Rattle.pls_numbers.specs.Shape.{said_by}
use Rattle.pls_scheme.specs.Reading.{Read, reading}
use Rattle.pls_centroid.specs.declared.level.CentroidLevel.{CentroidLevel}
use Rattle.pls_levels.specs.declared.label.LevelHead.{LevelHead}
use Rattle.pls_pathmax.specs.Labels.{PathMaxLabel, pathmax_shape}
use Rattle.pls_pathmax.specs.inner.OnePass.{is_led_on, is_settled}
use Rattle.pls_pathmax.specs.inner.Glance.{is_own_level}
use Rattle.pls_pathmax.specs.inner.Reading.{head_said}
use Rattle.pls_pathmax.proofs.AllFlags.{all_hold, some_fails}
use Rattle.pls_pathmax.proofs.Passes.{IsOpen, further_fail, further_hold, unsettled_open}
use Rattle.pls_pathmax.proofs.in_memory.further_verdict.Goals as goal

pub unreachable-requires : goal.unreachable-requires
unreachable-requires g c =
    let read : List Bool → Option PathMaxLabel = said_by pathmax_shape g.C.NumCode.takes in
    let rest : IsOpen read c.args.view.now = unsettled_open read c.args.view.now
    (ap is_settled (sym c.requires.first) ∙ c.requires.open) in
    let front = c.head_of.ensures rest.own
    (ap (λ (view : Seen). read view.own) c.view.view_is ∙ rest.through.own_read) in
    (let wrong = sym c.in_default.is ∙ front in cc)

pub returns-then-have_ways : goal.returns-then-have_ways
returns-then-have_ways g c =
    let read : List Bool → Option PathMaxLabel = said_by pathmax_shape g.C.NumCode.takes in
    let view = c.args.view.now in
    let rest : IsOpen read view = unsettled_open read view
    (ap is_settled (sym c.requires.first) ∙ c.requires.open) in
    let own_read = ap (λ (view : Seen). read view.own) c.view.view_is ∙ rest.through.own_read in
    let front = same_Some c.in-Some.own (head_said rest.own)
    (sym c.in-Some.is ∙ c.head_of.ensures rest.own own_read) in
    let count : c.in-Some.own.count ≡ length rest.own.levels =
    ap (λ (head : LevelHead). head.count) front in
    let named : rest.own.own ≡ c.in-Some.own.own =
    sym (ap (λ (head : LevelHead). head.own) front) in
    let flags : List Bool = c.note_ports.new.flags in
    let size = c.in_ok-flags.ensures.len in
    let first = c.as_mut_slice-flags.ensures.len in
    let each = c.note_ports.auto.flags in
    let seen : Read PathMaxLabel = reading view.id view.state rest.own rest.ports in
    let many : length rest.own.levels ≤ length flags = omega (arith, size, first, each, count) in
    let are : (k : ℕ) → k < length flags → get_or flags k false ≡ is_led_on seen k =
    λ k within. c.note_ports.ensures rest.own rest.ports rest.through.own_read
    rest.through.ports_read named k (omega (arith, within, each)) in
    let way_by : CentroidLevel → ℕ → ℕ → Bool =
    λ level k name. is_own_level name level || get_or flags k false in
    c.requires.first ∙ further_hold read view rest.own rest.ports rest.through rest.ways
    (λ number level at later. all_hold seen flags many are
    (λ k level within at. ap (way_by level k) named
    ∙ c.have_ways.ensures.hold c.if-have_ways.true rest.own.levels
    (c.levels_of-numbers.ensures rest.own own_read) k level within at) number level at)

pub returns : goal.returns
returns g c =
    let read : List Bool → Option PathMaxLabel = said_by pathmax_shape g.C.NumCode.takes in
    let view = c.args.view.now in
    let rest : IsOpen read view = unsettled_open read view
    (ap is_settled (sym c.requires.first) ∙ c.requires.open) in
    let own_read = ap (λ (view : Seen). read view.own) c.view.view_is ∙ rest.through.own_read in
    let front = same_Some c.in-Some.own (head_said rest.own)
    (sym c.in-Some.is ∙ c.head_of.ensures rest.own own_read) in
    let count : c.in-Some.own.count ≡ length rest.own.levels =
    ap (λ (head : LevelHead). head.count) front in
    let named : rest.own.own ≡ c.in-Some.own.own =
    sym (ap (λ (head : LevelHead). head.own) front) in
    let flags : List Bool = c.note_ports.new.flags in
    let size = c.in_ok-flags.ensures.len in
    let first = c.as_mut_slice-flags.ensures.len in
    let each = c.note_ports.auto.flags in
    let seen : Read PathMaxLabel = reading view.id view.state rest.own rest.ports in
    let many : length rest.own.levels ≤ length flags = omega (arith, size, first, each, count) in
    let are : (k : ℕ) → k < length flags → get_or flags k false ≡ is_led_on seen k =
    λ k within. c.note_ports.ensures rest.own rest.ports rest.through.own_read
    rest.through.ports_read named k (omega (arith, within, each)) in
    let way_by : CentroidLevel → ℕ → ℕ → Bool =
    λ level k name. is_own_level name level || get_or flags k false in
    let (k, level, within, at, fails) = c.have_ways.ensures.fail c.if-have_ways.false
    rest.own.levels (c.levels_of-numbers.ensures rest.own own_read) in
    further_fail read view rest.own rest.ports rest.through
    (some_fails seen flags many are k level at (ap (way_by level k) named ∙ fails))
