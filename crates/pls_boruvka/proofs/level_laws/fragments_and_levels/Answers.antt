use Rattle.pls_boruvka.proofs.NamedFragments.{AreFragments-names}
use Rattle.pls_boruvka.proofs.OneAnswer.{one_answer}
use Rattle.pls_boruvka.proofs.level_laws.fragments_and_levels.Goals as goal

pub returns-clause-names : goal.returns-clause-names
returns-clause-names c joined names depth deep are =
    AreFragments-names c.args.net.now c.is_valid.ensures joined depth deep names are

pub returns-clause-one : goal.returns-clause-one
returns-clause-one c one other first second =
    one_answer c.args.net.now c.is_valid.ensures one other first second
