use Rattle.std.proofs.Common.{◌≡◌, ◌∙◌, List, Option, length, drop, sym, ap, subst, arith}
use Rattle.pls_centroid.specs.declared.reaching.Way.{Way}
use Rattle.pls_centroid.specs.inner.Reaching.{AreWaysOf, IsNotedUp}
use Rattle.pls_centroid.proofs.Reached.{ways_right}
use Rattle.pls_centroid.proofs.Sorted.{taken_front}
use Rattle.pls_centroid.proofs.reaching.ways_of.Goals as goal

pub returns-clause-ways : goal.returns-clause-ways
returns-clause-ways c rows edges stage are weigh =
    let left = c.args.left.now in
    let order = c.args.order.now in
    let weights = c.args.weights.now in
    let started : List (Option Way) = c.in_ok-ways.ways.items in
    let up : List (Option Way) = c.note_up.new.ways in
    let down : List (Option Way) = c.note_down.new.ways in
    let first : IsNotedUp left order weights (length order) started up =
    subst (λ (ways : List (Option Way)). IsNotedUp left order weights (length order) ways up)
    c.as_mut_slice-noted.ensures.value c.note_up.ensures in
    let right : AreWaysOf rows c.args.tops.now c.args.centroids.now down =
    ways_right rows edges left c.args.tops.now stage c.args.centroids.now are weights weigh order
    c.requires.order started up down c.in_ok-ways.ensures c.requires.each first
    c.note_down.ensures in
    let h = c.note_down.auto.ways in
    let k = c.as_mut_slice-noted.ensures.len in
    let m = c.note_up.auto.ways in
    subst (AreWaysOf rows c.args.tops.now c.args.centroids.now)
    (sym (taken_front down (drop (length down) started) c.in_ok-ways.ways.len
    (omega (arith, h, k, m))))
    right

pub returns-clause-each : goal.returns-clause-each
returns-clause-each c =
    let started : List (Option Way) = c.in_ok-ways.ways.items in
    let down : List (Option Way) = c.note_down.new.ways in
    let h = c.note_down.auto.ways in
    let k = c.as_mut_slice-noted.ensures.len in
    let m = c.note_up.auto.ways in
    let same : length started ≡ length c.args.tops.now = c.in_ok-ways.ensures.each in
    let each = c.requires.each in
    let value = ap length c.as_mut_slice-noted.ensures.value in
    ap length (taken_front down (drop (length down) started) c.in_ok-ways.ways.len
    (omega (arith, h, k, m))) ∙ omega (arith, h, k, m, same, each, value)
