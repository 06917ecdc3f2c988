use Rattle.pls_mst.proofs.Looked.{passed_front}
use Rattle.pls_mst.proofs.glance.behind_front.Goals as goal

pub returns : goal.returns
returns g c label said many =
    passed_front c.args.first label.levels c.levels_of-numbers.result c.pass_levels.new.numbers
    c.pass_levels.result c.pass_levels.ensures.passed c.pass_levels.ensures.missing
    (c.levels_of-numbers.ensures label said) many
