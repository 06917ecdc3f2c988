use Rattle.std.proofs.Common.{List, map, ap}
use Rattle.pls_labels.specs.Seen.{Seen}
use Rattle.pls_splice.proofs.SameViews.{same_views}
use Rattle.pls_splice.proofs.laws.views_stay.Goals as goal

pub returns-clause-views : goal.returns-clause-views
returns-clause-views c =
    same_views c.args.net.now c.is_valid.ensures c.args.labels.now c.requires.each c.args.ring.now
    c.requires.read c.args.pair.first c.args.pair.second c.requires.pair

pub returns-clause-verdicts : goal.returns-clause-verdicts
returns-clause-verdicts c = λ judge. ap (λ (views : List Seen). map judge views)
    (same_views c.args.net.now c.is_valid.ensures c.args.labels.now c.requires.each c.args.ring.now
    c.requires.read c.args.pair.first c.args.pair.second c.requires.pair)
