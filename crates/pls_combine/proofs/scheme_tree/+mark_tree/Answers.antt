use Rattle.std.proofs.Common.{true, false, arith}
use Rattle.pls_graph.specs.Size.{size_of}
use Rattle.pls_combine.specs.Expression.{judge_of, leaves_of, longest_of}
use Rattle.pls_expressions.specs.Held.{expression_of}
use Rattle.pls_parts.proofs.Marking.{both_accepted, both_short, tagged_accepted, tagged_short}
use Rattle.pls_combine.proofs.scheme_tree.+mark_tree.Goals as goal

pub returns-in_ok-labels-in-And-clause-accepted : goal.returns-in_ok-labels-in-And-clause-accepted
returns-in_ok-labels-in-And-clause-accepted g t c =
    let first = expression_of c.in-And.first.value in
    let second = expression_of c.in-And.second.value in
    rw c.in-And.is
    (both_accepted g.C.NumCode.code g.C.NumCode.takes g.met.C.NumCode.takes_codes
    g.met.C.NumCode.takes_only (judge_of g.C.NumCode.takes first) (leaves_of first)
    (judge_of g.C.NumCode.takes second) c.args.net.now c.is_valid.ensures c.in-Some.fronts
    c.in-Some-2.backs c.in_ok-labels-in-And.labels
    (rw c.in-Some.is at (c.in_ok-fronts-in-And.ensures.each))
    (rw c.in-Some-2.is at (c.in_ok-backs-in-And.ensures.each))
    c.in_ok-labels-in-And.ensures.coded c.in_ok-labels-in-And.ensures.joined
    (rw (c.in-Some.is, c.deref.ensures) at (c.in_ok-fronts-in-And.ensures.accepted))
    (rw (c.in-Some-2.is, c.deref-in-And.ensures) at (c.in_ok-backs-in-And.ensures.accepted)))

pub returns-in_ok-labels-in-And-clause-short : goal.returns-in_ok-labels-in-And-clause-short
returns-in_ok-labels-in-And-clause-short g t c =
    let first = expression_of c.in-And.first.value in
    let second = expression_of c.in-And.second.value in
    rw c.in-And.is
    (both_short g.C.NumCode.code g.C.NumCode.takes g.met.C.NumCode.takes_codes
    g.met.C.NumCode.takes_only (judge_of g.C.NumCode.takes first) (leaves_of first)
    (judge_of g.C.NumCode.takes second) c.args.net.now c.is_valid.ensures c.in-Some.fronts
    c.in-Some-2.backs c.in_ok-labels-in-And.labels
    (rw c.in-Some.is at (c.in_ok-fronts-in-And.ensures.each))
    (rw c.in-Some-2.is at (c.in_ok-backs-in-And.ensures.each))
    c.in_ok-labels-in-And.ensures.coded c.in_ok-labels-in-And.ensures.joined
    g.met.C.NumCode.grows_law g.met.C.NumCode.short_law
    c.in_ok-labels-in-And.ensures.fit
    (longest_of g.C.NumCode.code first (size_of c.args.net.now))
    (longest_of g.C.NumCode.code second (size_of c.args.net.now))
    (rw (c.in-Some.is, c.deref.ensures) at (c.in_ok-fronts-in-And.ensures.short))
    (rw (c.in-Some-2.is, c.deref-in-And.ensures) at (c.in_ok-backs-in-And.ensures.short)))

pub returns-in-Some-3-clause-accepted : goal.returns-in-Some-3-clause-accepted
returns-in-Some-3-clause-accepted g t c =
    let first = expression_of c.in-Or.first.value in
    let second = expression_of c.in-Or.second.value in
    rw c.in-Or.is
    (tagged_accepted (judge_of g.C.NumCode.takes first) (leaves_of first)
    (judge_of g.C.NumCode.takes second) c.args.net.now c.is_valid-in-Or.ensures false
    c.in-Some-3.rests c.in_ok-labels-in-Or.labels
    (rw c.in-Some-3.is at (c.in_ok-rests-in-Or.ensures.each))
    c.in_ok-labels-in-Or.ensures.tagged
    (rw (c.in-Some-3.is, c.deref-in-Or.ensures) at (c.in_ok-rests-in-Or.ensures.accepted)))

pub returns-in_ok-labels-in-Or-2-clause-accepted : goal.returns-in_ok-labels-in-Or-2-clause-accepted
returns-in_ok-labels-in-Or-2-clause-accepted g t c =
    let first = expression_of c.in-Or.first.value in
    let second = expression_of c.in-Or.second.value in
    rw c.in-Or.is
    (tagged_accepted (judge_of g.C.NumCode.takes first) (leaves_of first)
    (judge_of g.C.NumCode.takes second) c.args.net.now c.is_valid-in-Or.ensures true
    c.in-Some-4.rests c.in_ok-labels-in-Or-2.labels
    (rw c.in-Some-4.is at (c.in_ok-rests-in-Or-2.ensures.each))
    c.in_ok-labels-in-Or-2.ensures.tagged
    (rw (c.in-Some-4.is, c.deref-in-Or-2.ensures) at (c.in_ok-rests-in-Or-2.ensures.accepted)))

pub returns-in-Of-clause-accepted : goal.returns-in-Of-clause-accepted
returns-in-Of-clause-accepted g t c =
    rw (c.in-Of.is, ← c.new.ensures) c.mark.ensures.accepted

pub returns-in-Some-3-clause-short : goal.returns-in-Some-3-clause-short
returns-in-Some-3-clause-short g t c =
    let first = expression_of c.in-Or.first.value in
    let second = expression_of c.in-Or.second.value in
    rw c.in-Or.is
    (tagged_short (judge_of g.C.NumCode.takes first) (leaves_of first)
    (judge_of g.C.NumCode.takes second) c.args.net.now c.is_valid-in-Or.ensures false
    c.in-Some-3.rests c.in_ok-labels-in-Or.labels
    (rw c.in-Some-3.is at (c.in_ok-rests-in-Or.ensures.each))
    c.in_ok-labels-in-Or.ensures.tagged c.in_ok-labels-in-Or.ensures.fit
    (longest_of g.C.NumCode.code first (size_of c.args.net.now)) _ (omega arith)
    (rw (c.in-Some-3.is, c.deref-in-Or.ensures) at (c.in_ok-rests-in-Or.ensures.short)))

pub returns-in_ok-labels-in-Or-2-clause-short : goal.returns-in_ok-labels-in-Or-2-clause-short
returns-in_ok-labels-in-Or-2-clause-short g t c =
    let first = expression_of c.in-Or.first.value in
    let second = expression_of c.in-Or.second.value in
    rw c.in-Or.is
    (tagged_short (judge_of g.C.NumCode.takes first) (leaves_of first)
    (judge_of g.C.NumCode.takes second) c.args.net.now c.is_valid-in-Or.ensures true
    c.in-Some-4.rests c.in_ok-labels-in-Or-2.labels
    (rw c.in-Some-4.is at (c.in_ok-rests-in-Or-2.ensures.each))
    c.in_ok-labels-in-Or-2.ensures.tagged c.in_ok-labels-in-Or-2.ensures.fit
    (longest_of g.C.NumCode.code second (size_of c.args.net.now)) _ (omega arith)
    (rw (c.in-Some-4.is, c.deref-in-Or-2.ensures) at (c.in_ok-rests-in-Or-2.ensures.short)))

pub returns-in-Diameter-clause-accepted : goal.returns-in-Diameter-clause-accepted
returns-in-Diameter-clause-accepted g t c =
    rw c.in-Diameter.is (rw (c.map_of.ensures, c.in-Diameter.is) at c.mark-in-Diameter.ensures.accepted)

pub returns-in-Bridgeless-clause-accepted : goal.returns-in-Bridgeless-clause-accepted
returns-in-Bridgeless-clause-accepted g t c =
    rw c.in-Bridgeless.is (rw (c.map_of-in-Bridgeless.ensures, c.in-Bridgeless.is) at c.mark-in-Bridgeless.ensures.accepted)

pub returns-in-Map-clause-accepted : goal.returns-in-Map-clause-accepted
returns-in-Map-clause-accepted g t c =
    rw c.in-Map.is (rw (c.map_of-in-Map.ensures, c.in-Map.is) at c.mark-in-Map.ensures.accepted)
