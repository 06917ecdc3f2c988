use Rattle.pls_fronts.proofs.Found.{after_found}
use Rattle.pls_fronts.proofs.words.after.Goals as goal

pub returns : goal.returns
returns c =
    after_found c.args.word.now c.args.text.now c.after_word.result c.after_word.ensures
