use Rattle.std.proofs.Common.{◌≡◌, ◌∙◌, Bool, List, Option, sym, ap, subst}
use Rattle.pls_labels.specs.Seen.{Seen}
use Rattle.pls_numbers.specs.Shape.{said_by}
use Rattle.pls_scheme.specs.Reading.{reading}
use Rattle.pls_pathmax.specs.Labels.{PathMaxLabel, pathmax_shape}
use Rattle.pls_pathmax.specs.inner.OnePass.{HaveFurtherWays, is_settled}
use Rattle.pls_pathmax.proofs.Passes.{IsOpen, further_fail, further_hold, pass, settled_same, unsettled_open}
use Rattle.pls_pathmax.proofs.pathmax.judge_view.Goals as goal

pub returns-then-is_settled : goal.returns-then-is_settled
returns-then-is_settled g c =
    let read : List Bool → Option PathMaxLabel = said_by pathmax_shape g.C.NumCode.takes in
    let view = c.args.view.now in
    let is : c.judge-verdict.result ≡ pass read view 0 =
    c.judge-verdict.ensures ∙ ap (pass read view) c.pass_from.ensures in
    is ∙ settled_same read view
    (ap is_settled (sym is) ∙ sym c.is_settled.ensures ∙ c.if-is_settled.true)

pub returns-then-have_further_ways : goal.returns-then-have_further_ways
returns-then-have_further_ways g c =
    let read : List Bool → Option PathMaxLabel = said_by pathmax_shape g.C.NumCode.takes in
    let view = c.args.view.now in
    let is : c.judge-verdict.result ≡ pass read view 0 =
    c.judge-verdict.ensures ∙ ap (pass read view) c.pass_from.ensures in
    let rest : IsOpen read view = unsettled_open read view
    (ap is_settled (sym is) ∙ sym c.is_settled.ensures ∙ c.if-is_settled.false) in
    let count = c.count_of-count.ensures rest.own
    (ap (λ (view : Seen). read view.own) c.view.view_is ∙ rest.through.own_read) in
    is ∙ further_hold read view rest.own rest.ports rest.through rest.ways
    (subst (HaveFurtherWays (reading view.id view.state rest.own rest.ports))
    c.if-have_further_ways.true
    (c.have_further_ways.ensures rest.own rest.ports rest.through (sym count)))

pub returns : goal.returns
returns g c =
    let read : List Bool → Option PathMaxLabel = said_by pathmax_shape g.C.NumCode.takes in
    let view = c.args.view.now in
    let is : c.judge-verdict.result ≡ pass read view 0 =
    c.judge-verdict.ensures ∙ ap (pass read view) c.pass_from.ensures in
    let rest : IsOpen read view = unsettled_open read view
    (ap is_settled (sym is) ∙ sym c.is_settled.ensures ∙ c.if-is_settled.false) in
    let count = c.count_of-count.ensures rest.own
    (ap (λ (view : Seen). read view.own) c.view.view_is ∙ rest.through.own_read) in
    further_fail read view rest.own rest.ports rest.through
    (subst (HaveFurtherWays (reading view.id view.state rest.own rest.ports))
    c.if-have_further_ways.false
    (c.have_further_ways.ensures rest.own rest.ports rest.through (sym count)))
