use Rattle.std.proofs.Common.{◌≡◌, ◌∙◌, None, Some, ap, sym, option_map}
use Rattle.std.proofs.lemmas.Option.{same_Some}
use Rattle.pls_words.proofs.Said.{same_said}
use Rattle.pls_words.proofs.reading.given_in.Goals as goal

pub unreachable-requires : goal.unreachable-requires
unreachable-requires c =
    let has = c.in-Ok.ensures.found c.requires.said c.requires.is in
    let found = rw c.in_default.is at c.get_str.ensures in
    let none : None ≡ Some c.requires.said.command = found ∙ has.command in
    cc

pub returns : goal.returns
returns c = λ said is.
    let has = c.in-Ok.ensures.found said is in
    let found = rw c.in-Some.is at c.get_str.ensures in
    same_said _ _ _ said (same_Some _ _ (found ∙ has.command))
    (c.get_str-2.ensures ∙ has.argument) (c.flag_in.ensures said has)
