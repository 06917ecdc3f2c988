use Rattle.pls_fronts.specs.laws.LetterFrontLaws.{letters_ahead-le}
use Rattle.pls_fronts.proofs.letters.letters_front.Goals as goal

pub split_at-requires : goal.split_at-requires
split_at-requires c = rw c.letters_ahead.ensures (letters_ahead-le c.args.text.now)
