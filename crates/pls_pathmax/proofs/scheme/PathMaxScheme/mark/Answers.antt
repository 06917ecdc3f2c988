use Rattle.std.proofs.Common.{◌≤◌, List, Bool, ap, length, arith}
use Rattle.pls_graph.specs.declared.size.Size.{Size}
use Rattle.pls_graph.specs.Size.{size_of}
use Rattle.pls_streams.specs.Steps.{capped}
use Rattle.pls_numbers.specs.Shape.{IsSpelled, IsWritable, said_by}
use Rattle.pls_numbers.specs.laws.FormatLaws.{said_spells}
use Rattle.pls_scheme.specs.Theorem.{AreWords}
use Rattle.pls_scheme.proofs.Markings.{all_said, all_spelled, marked_accepted, right_marked, said_by_id}
use Rattle.pls_pathmax.specs.Labels.{pathmax_shape}
use Rattle.pls_pathmax.specs.PathMax.{PathMaxSays, longest_pathmax}
use Rattle.pls_pathmax.specs.Rules.{pathmax_rules}
use Rattle.pls_pathmax.specs.laws.LabelLaws.{pathmax_numbers}
use Rattle.pls_pathmax.specs.laws.PathMaxLaws.{pathmax_fits, pathmax_met}
use Rattle.pls_pathmax.proofs.scheme.PathMaxScheme.mark.Goals as goal

pub labels_of-requires : goal.labels_of-requires
labels_of-requires g c =
    let rows = c.args.net.now in
    let found = c.in-Some.said.items in
    let right = rw c.in-Some.is at (c.in_ok-said.ensures.right) in
    let holds = rw c.in-Some.is at (c.in_ok-said.ensures.holds) in
    let words : AreWords (size_of rows) = record {
      max_id = omega (arith, ap (λ (size : Size). size.max_id) c.size.ensures.size);
      max_weight = omega (arith, ap (λ (size : Size). size.max_weight) c.size.ensures.size);
      max_mark = omega (arith, ap (λ (size : Size). size.max_mark) c.size.ensures.size);
    } in
    let said = said_by_id (PathMaxSays rows) rows c.size.ensures.valid found right in
    rw c.deref.ensures.value
    (all_said (PathMaxSays rows) rows found right.each said (IsWritable pathmax_shape)
    (λ row in'. (pathmax_fits g.C.NumCode.code g.met.C.NumCode.grows_law g.met.C.NumCode.short_law
    rows c.size.ensures.valid c.requires holds words said.say said.right row in').writable))

pub returns-clause-marked : goal.returns-clause-marked
returns-clause-marked g c =
    let right = rw c.in-Some.is at (c.in_ok-said.ensures.right) in
    let spelled = rw c.deref.ensures.value at (c.in_ok-labels.ensures) in
    right_marked (IsSpelled pathmax_shape g.C.NumCode.code) (PathMaxSays c.args.net.now)
    c.args.net.now c.in-Some.said.items c.in_ok-labels.labels right spelled

pub returns-clause-accepted : goal.returns-clause-accepted
returns-clause-accepted g c =
    let rows = c.args.net.now in
    let right = rw c.in-Some.is at (c.in_ok-said.ensures.right) in
    let holds = rw c.in-Some.is at (c.in_ok-said.ensures.holds) in
    let spelled = rw c.deref.ensures.value at (c.in_ok-labels.ensures) in
    let marked = right_marked (IsSpelled pathmax_shape g.C.NumCode.code) (PathMaxSays rows) rows
    c.in-Some.said.items c.in_ok-labels.labels right spelled in
    marked_accepted (IsSpelled pathmax_shape g.C.NumCode.code) (PathMaxSays rows) rows
    c.in_ok-labels.labels marked c.size.ensures.valid (said_by pathmax_shape g.C.NumCode.takes)
    (λ bits label is. (said_spells pathmax_shape pathmax_numbers g.C.NumCode.code g.C.NumCode.takes
    g.met.C.NumCode.takes_codes g.met.C.NumCode.takes_only bits label).1 is) pathmax_rules
    (pathmax_met rows c.size.ensures.valid c.requires holds)

pub returns-clause-short : goal.returns-clause-short
returns-clause-short g c =
    let rows = c.args.net.now in
    let found = c.in-Some.said.items in
    let right = rw c.in-Some.is at (c.in_ok-said.ensures.right) in
    let holds = rw c.in-Some.is at (c.in_ok-said.ensures.holds) in
    let spelled = rw c.deref.ensures.value at (c.in_ok-labels.ensures) in
    let words : AreWords (size_of rows) = record {
      max_id = omega (arith, ap (λ (size : Size). size.max_id) c.size.ensures.size);
      max_weight = omega (arith, ap (λ (size : Size). size.max_weight) c.size.ensures.size);
      max_mark = omega (arith, ap (λ (size : Size). size.max_mark) c.size.ensures.size);
    } in
    let said = said_by_id (PathMaxSays rows) rows c.size.ensures.valid found right in
    all_spelled (PathMaxSays rows) rows found right.each said
    (IsSpelled pathmax_shape g.C.NumCode.code) c.in_ok-labels.labels spelled
    (λ (bits : List Bool). length bits ≤ capped (longest_pathmax g.C.NumCode.code (size_of rows)))
    (λ row bits in' is.
    let short = (pathmax_fits g.C.NumCode.code g.met.C.NumCode.grows_law g.met.C.NumCode.short_law
    rows c.size.ensures.valid c.requires holds words said.say said.right row in').short in
    let long = ap (λ (bits : List Bool). length bits) is.codes.written in
    omega (arith, short, long))
