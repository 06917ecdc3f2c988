use Rattle.std.proofs.Common.{◌≡◌, ℕ, List, [], ◌∷◌, Some, slice_get, subst, sym}
use Rattle.pls_configuration.specs.declared.row.NodeRow.{NodeRow}
use Rattle.pls_graph.proofs.Finds.{from_option_map}
use Rattle.pls_components.specs.Parts.{AreLacking}
use Rattle.pls_components.proofs.PartPlaces.{only_one}
use Rattle.pls_components.proofs.Whole.{whole_connected, whole_lacking, whole_shown}
use Rattle.pls_components.proofs.part_marks.mark_whole.Goals as goal

pub mark-requires : goal.mark-requires
mark-requires g c =
    let alone = only_one c.args.parts.now c.requires.one in
    whole_connected c.args.net.now c.is_valid.ensures c.args.parts.now c.requires.made alone.0 alone.1

pub returns-in-Some-clause-labels : goal.returns-in-Some-clause-labels
returns-in-Some-clause-labels g c =
    let alone = only_one c.args.parts.now c.requires.one in
    let scheme = c.args.scheme.now in
    whole_shown c.args.net.now c.is_valid.ensures c.args.parts.now c.requires.made alone.0 alone.1
    (g.S.Property.holds scheme) (g.S.Scheme.marked scheme) (g.S.Checker.judge scheme)
    (g.S.Scheme.longest scheme) c.in-Some.labels
    (rw c.in-Some.is at c.in_ok-labels.ensures.holds)
    (rw c.in-Some.is at c.in_ok-labels.ensures.marked)
    (rw c.in-Some.is at c.in_ok-labels.ensures.each)
    (rw c.in-Some.is at c.in_ok-labels.ensures.accepted)
    (rw c.in-Some.is at c.in_ok-labels.ensures.short)

pub returns-in_ok-one_id-in-None-clause-lacking : goal.returns-in_ok-one_id-in-None-clause-lacking
returns-in_ok-one_id-in-None-clause-lacking g c =
    let alone = only_one c.args.parts.now c.requires.one in
    let net = c.args.net.now in
    let holds : List NodeRow → Type 0 = g.S.Property.holds c.args.scheme.now in
    let lacks : holds net → ⊥ = rw c.in-None.is at c.in_ok-labels.ensures.lacking in
    let (row, at, is) : (row : NodeRow) × (slice_get net 0 ≡ Some row) × (row.id ≡ c.node.result.0) =
    from_option_map (λ (row : NodeRow). row.id) (slice_get net 0) c.node.result.0 c.node.ensures.id in
    subst (AreLacking holds net) (sym c.in_ok-one_id-in-None.ensures)
    (subst (λ (id : ℕ). AreLacking holds net (id ∷ [])) is
    (whole_lacking net c.is_valid.ensures c.args.parts.now c.requires.made alone.0 alone.1 holds row
    at lacks))
