use Rattle.std.proofs.Common.{◌≡◌, Bool, List, Some, ap, length, get_or, slice_get, refl, subst, arith}
use Rattle.std.proofs.lemmas.List.Sums.{get_or-le-sum_by}
use Rattle.std.proofs.lemmas.Option.{slice_get-get_or}
use Rattle.pls_configuration.specs.declared.row.NodeRow.{NodeRow}
use Rattle.pls_graph.proofs.Members.{Contains-from_place}
use Rattle.pls_graph.proofs.Finds.{item_at}
use Rattle.pls_graph.specs.declared.size.Size.{Size}
use Rattle.pls_graph.specs.Size.{size_of}
use Rattle.pls_numbers.specs.Shape.{IsSpelled, said_by}
use Rattle.pls_numbers.specs.laws.FormatLaws.{said_spells}
use Rattle.pls_scheme.specs.Theorem.{AreWords}
use Rattle.pls_scheme.proofs.Markings.{marked_accepted}
use Rattle.pls_universal.specs.Map.{map_of}
use Rattle.pls_universal.specs.Reading.{map_label_with, map_shape}
use Rattle.pls_universal.specs.Rules.{map_rules, map_says}
use Rattle.pls_universal.specs.laws.MapLaws.{map_numbers}
use Rattle.pls_universal.specs.laws.MapMet.{map_met, map_one_right}
use Rattle.pls_universal.proofs.map_of.MapOfScheme.mark.Goals as goal

pub returns-clause-accepted : goal.returns-clause-accepted
returns-clause-accepted g c =
    let code = g.C.NumCode.code in
    let takes = g.C.NumCode.takes in
    let rows = c.args.net.now in
    let property = c.args.self.now.property in
    let words : AreWords (size_of rows) = record {
      max_id = omega (arith, ap (λ (size : Size). size.max_id) c.size.ensures.size);
      max_weight = omega (arith, ap (λ (size : Size). size.max_weight) c.size.ensures.size);
      max_mark = omega (arith, ap (λ (size : Size). size.max_mark) c.size.ensures.size);
    } in
    marked_accepted (λ bits label. IsSpelled map_shape code bits label) (map_says rows) rows
    c.in_ok-labels.labels c.in_ok-labels.ensures c.size.ensures.valid (said_by map_shape takes)
    (λ bits label is. (said_spells map_shape map_numbers code takes g.met.C.NumCode.takes_codes
    g.met.C.NumCode.takes_only bits label).1 is) (map_rules (g.P.PropertyTest.test property))
    (map_met (g.P.PropertyTest.test property) (g.P.Property.holds property)
    (g.met.P.PropertyTest.test_law property) rows c.size.ensures.valid c.requires
    (c.in_ok-decide.ensures.0 c.if-not-branch.false) words)

pub returns-clause-short : goal.returns-clause-short
returns-clause-short g c k d within =
    let rows = c.args.net.now in
    let labels = c.in_ok-labels.labels in
    let marked = c.in_ok-labels.ensures in
    let (row, at) : (row : NodeRow) × (slice_get rows k ≡ Some row) =
    item_at rows k (omega (arith, within, marked.each)) in
    let (label, is, says) = marked.label k row (get_or labels k d) at
    (slice_get-get_or labels k d within) in
    let right : label ≡ map_label_with row.id (map_of rows) =
    map_one_right rows row label (map_label_with row.id (map_of rows)) says (refl, refl) in
    let short = c.maps_are_short.ensures.short row (get_or labels k d)
    (Contains-from_place rows k row at)
    (subst (IsSpelled map_shape g.C.NumCode.code (get_or labels k d)) right is) in
    let one = get_or-le-sum_by (λ (label : List Bool). length label) labels k d within in
    omega (arith, short, one, c.total.ensures)
