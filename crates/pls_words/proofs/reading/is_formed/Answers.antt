use Rattle.std.proofs.Common.{◌≤◌, length, arith}
use Rattle.std.proofs.lemmas.Bool.{leb-true}
use Rattle.std.proofs.lemmas.List.{length-map}
use Rattle.pls_words.specs.Words.{words_in}
use Rattle.pls_words.proofs.Said.{formed_short, says_something}
use Rattle.pls_words.proofs.reading.is_formed.Goals as goal

pub returns-then-words-le-MOST : goal.returns-then-words-le-MOST
returns-then-words-le-MOST c =
    let says = says_something (words_in c.args.words.now) in
    let told = rw c.count_beside.ensures.count at c.is_one_or_two.ensures in
    (λ yes. says.0 (told.0 yes), λ formed. told.1 (says.1 formed))

pub returns-else-words-le-MOST : goal.returns-else-words-le-MOST
returns-else-words-le-MOST c =
    let many = c.if-words-le-MOST.false in (
      λ yes. let few = leb-true (length c.args.words.now) 4 yes in absurd (omega (arith, few, many)),
      λ formed.
          let few = formed_short (words_in c.args.words.now) formed in
          let long = length-map c.args.words.now (λ word. word.now) in
          absurd (omega (arith, few, long, many)),
    )
