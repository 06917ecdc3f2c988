use Rattle.std.proofs.Common.{◌≤◌, List, Bool, ap, subst, sym, length, arith}
use Rattle.pls_graph.specs.declared.size.Size.{Size}
use Rattle.pls_graph.specs.Size.{size_of}
use Rattle.pls_scheme.specs.Theorem.{AreWords}
use Rattle.pls_universal.specs.Bound.{longest_map}
use Rattle.pls_universal.specs.laws.ShortMaps.{map_coded, map_short}
use Rattle.pls_universal.proofs.bound.maps_are_short.Goals as goal

pub returns-clause-short : goal.returns-clause-short
returns-clause-short g c row bits in' is =
    let code = g.C.NumCode.code in
    let rows = c.args.net.now in
    let words : AreWords (size_of rows) = record {
      max_id = omega (arith, ap (λ (size : Size). size.max_id) c.size.ensures.size);
      max_weight = omega (arith, ap (λ (size : Size). size.max_weight) c.size.ensures.size);
      max_mark = omega (arith, ap (λ (size : Size). size.max_mark) c.size.ensures.size);
    } in
    subst (λ (bits : List Bool). length bits ≤ longest_map code (size_of rows))
    (sym is.codes.written)
    (map_short code g.met.C.NumCode.grows_law g.met.C.NumCode.short_law rows c.size.ensures.valid
    words row in')

pub returns-clause-coded : goal.returns-clause-coded
returns-clause-coded g c =
    let words : AreWords (size_of c.args.net.now) = record {
      max_id = omega (arith, ap (λ (size : Size). size.max_id) c.size.ensures.size);
      max_weight = omega (arith, ap (λ (size : Size). size.max_weight) c.size.ensures.size);
      max_mark = omega (arith, ap (λ (size : Size). size.max_mark) c.size.ensures.size);
    } in
    map_coded g.C.NumCode.code g.met.C.NumCode.grows_law g.met.C.NumCode.short_law c.args.net.now
    c.size.ensures.valid words
