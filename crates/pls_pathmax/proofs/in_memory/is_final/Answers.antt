use Rattle.std.proofs.Common.{◌∙◌, ap, sym, arith, List, Option, Bool}
use Rattle.std.proofs.lemmas.Bool.{leb-true}
use Rattle.pls_numbers.specs.Shape.{said_by}
use Rattle.std.proofs.lemmas.Option.{slice_get_within}
use Rattle.pls_pathmax.specs.Labels.{PathMaxLabel, pathmax_shape}
use Rattle.pls_pathmax.specs.inner.OnePass.{is_settled}
use Rattle.pls_pathmax.proofs.Passes.{IsOpen, further_hold, settled_same, unsettled_open}
use Rattle.pls_pathmax.proofs.in_memory.is_final.Goals as goal

pub returns-then-is_settled-clause-same : goal.returns-then-is_settled-clause-same
returns-then-is_settled-clause-same g c holds view own is =
    is ∙ settled_same (said_by pathmax_shape g.C.NumCode.takes) view
    (ap is_settled (sym is) ∙ sym c.is_settled.ensures ∙ c.if-is_settled.true)

pub returns-else-is_settled-clause-same : goal.returns-else-is_settled-clause-same
returns-else-is_settled-clause-same g c holds view own is =
    let read : List Bool → Option PathMaxLabel = said_by pathmax_shape g.C.NumCode.takes in
    let rest : IsOpen read view = unsettled_open read view
    (ap is_settled (sym is) ∙ sym c.is_settled.ensures ∙ c.if-is_settled.false) in
    let count = c.count_of.ensures rest.own (ap read (sym own) ∙ rest.through.own_read) in
    let few = leb-true c.count_of.result 64 holds in
    is ∙ further_hold read view rest.own rest.ports rest.through rest.ways
    (λ number level at later.
    let within = slice_get_within rest.own.levels number level at in
    absurd (omega (arith, within, few, count, later)))
