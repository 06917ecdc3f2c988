use Rattle.std.proofs.Common.{◌≤◌, List, Bool, ap, length, arith}
use Rattle.pls_graph.specs.declared.size.Size.{Size}
use Rattle.pls_graph.specs.Size.{size_of}
use Rattle.pls_streams.specs.Steps.{capped}
use Rattle.pls_numbers.specs.Shape.{IsSpelled, IsWritable, said_by}
use Rattle.pls_numbers.specs.laws.FormatLaws.{said_spells}
use Rattle.pls_scheme.specs.Theorem.{AreWords}
use Rattle.pls_scheme.proofs.Markings.{all_said, all_spelled, marked_accepted, right_marked, said_by_id}
use Rattle.pls_scheme.proofs.basic.BasicScheme.mark.Goals as goal

pub labels_of-requires : goal.labels_of-requires
labels_of-requires g c =
    let rules = c.args.self.now.rules in
    let rows = c.args.net.now in
    let found = c.in-Some.said.items in
    let says = g.R.Marker.says rules rows in
    let right = rw c.in-Some.is at (c.in_ok-said.ensures.right) in
    let holds = rw c.in-Some.is at (c.in_ok-said.ensures.holds) in
    let words : AreWords (size_of rows) = record {
      max_id = omega (arith, ap (λ (size : Size). size.max_id) c.size.ensures.size);
      max_weight = omega (arith, ap (λ (size : Size). size.max_weight) c.size.ensures.size);
      max_mark = omega (arith, ap (λ (size : Size). size.max_mark) c.size.ensures.size);
    } in
    let said = said_by_id says rows c.size.ensures.valid found right in
    rw (c.deref.ensures.value, c.format.ensures)
    (all_said says rows found right.each said (IsWritable (g.R.Format.Format.shape (g.R.Judgement.format rules)))
    (λ row in'. (g.met.R.Marker.fits_law rules rows c.size.ensures.valid c.requires holds words
    said.say said.right row in').writable))

pub returns-clause-marked : goal.returns-clause-marked
returns-clause-marked g c =
    let right = rw c.in-Some.is at (c.in_ok-said.ensures.right) in
    let spelled = rw (c.deref.ensures.value, c.format.ensures) at (c.in_ok-labels.ensures) in
    right_marked (IsSpelled (g.R.Format.Format.shape (g.R.Judgement.format c.args.self.now.rules)) g.R.Code.NumCode.code) (g.R.Marker.says c.args.self.now.rules c.args.net.now)
    c.args.net.now c.in-Some.said.items c.in_ok-labels.labels right spelled

pub returns-clause-accepted : goal.returns-clause-accepted
returns-clause-accepted g c =
    let rules = c.args.self.now.rules in
    let rows = c.args.net.now in
    let right = rw c.in-Some.is at (c.in_ok-said.ensures.right) in
    let holds = rw c.in-Some.is at (c.in_ok-said.ensures.holds) in
    let spelled = rw (c.deref.ensures.value, c.format.ensures) at (c.in_ok-labels.ensures) in
    let marked = right_marked (IsSpelled (g.R.Format.Format.shape (g.R.Judgement.format c.args.self.now.rules)) g.R.Code.NumCode.code) (g.R.Marker.says rules rows) rows
    c.in-Some.said.items c.in_ok-labels.labels right spelled in
    marked_accepted (IsSpelled (g.R.Format.Format.shape (g.R.Judgement.format c.args.self.now.rules)) g.R.Code.NumCode.code) (g.R.Marker.says rules rows) rows
    c.in_ok-labels.labels marked c.size.ensures.valid (said_by (g.R.Format.Format.shape (g.R.Judgement.format rules)) g.R.Code.NumCode.takes)
    (λ bits label is. (said_spells (g.R.Format.Format.shape (g.R.Judgement.format rules))
    (g.met.R.Format.Format.numbers_law (g.R.Judgement.format rules)) g.R.Code.NumCode.code g.R.Code.NumCode.takes
    g.met.R.Code.NumCode.takes_codes g.met.R.Code.NumCode.takes_only bits label).1 is) (g.R.Judgement.rules rules)
    (g.met.R.Marker.met_law rules rows c.size.ensures.valid c.requires holds)

pub returns-clause-short : goal.returns-clause-short
returns-clause-short g c =
    let rules = c.args.self.now.rules in
    let rows = c.args.net.now in
    let found = c.in-Some.said.items in
    let says = g.R.Marker.says rules rows in
    let right = rw c.in-Some.is at (c.in_ok-said.ensures.right) in
    let holds = rw c.in-Some.is at (c.in_ok-said.ensures.holds) in
    let spelled = rw (c.deref.ensures.value, c.format.ensures) at (c.in_ok-labels.ensures) in
    let words : AreWords (size_of rows) = record {
      max_id = omega (arith, ap (λ (size : Size). size.max_id) c.size.ensures.size);
      max_weight = omega (arith, ap (λ (size : Size). size.max_weight) c.size.ensures.size);
      max_mark = omega (arith, ap (λ (size : Size). size.max_mark) c.size.ensures.size);
    } in
    let said = said_by_id says rows c.size.ensures.valid found right in
    all_spelled says rows found right.each said (IsSpelled (g.R.Format.Format.shape (g.R.Judgement.format c.args.self.now.rules)) g.R.Code.NumCode.code) c.in_ok-labels.labels
    spelled (λ (bits : List Bool). length bits ≤ capped (g.R.Marker.longest rules (size_of rows)))
    (λ row bits in' is.
    let short = (g.met.R.Marker.fits_law rules rows c.size.ensures.valid c.requires holds words
    said.say said.right row in').short in
    let long = ap (λ (bits : List Bool). length bits) is.codes.written in
    omega (arith, short, long))
