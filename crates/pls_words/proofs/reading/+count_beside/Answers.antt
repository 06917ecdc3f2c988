use Rattle.std.proofs.Common.{rules, ◌≡◌, ◌∙◌, ◌∷◌, ap, sym}
use Rattle.pls_words.specs.Words.{words_in}
use Rattle.pls_words.specs.inner.Formed.{count_beside}
use Rattle.pls_words.proofs.Said.{behind_plain, counted_behind, one_more}
use Rattle.pls_words.proofs.reading.+count_beside.Goals as goal

pub returns-in_err-count-clause-count : goal.returns-in_err-count-clause-count
returns-in_err-count-clause-count n c =
    let whole : c.args.words.now ≡ c.in-Some.word.now ∷ c.in-Some.others.now = search rules in
    let more = one_more c.in-Some.word.now.now (words_in c.in-Some.others.now)
    (sym c.is_json.ensures ∙ c.if-is_json.false) (sym c.is_code.ensures ∙ c.if-is_code.false) in
    c.from_residual-in_err-count.ensures
    ∙ ap (counted_behind c.in-Some.word.now.now) c.in_err-count.ensures.count
    ∙ sym (ap (λ words. count_beside (words_in words)) whole ∙ more)

pub returns-clause-count : goal.returns-clause-count
returns-clause-count n c =
    let whole : c.args.words.now ≡ c.in-Some.word.now ∷ c.in-Some.others.now = search rules in
    let more = one_more c.in-Some.word.now.now (words_in c.in-Some.others.now)
    (sym c.is_json.ensures ∙ c.if-is_json.false) (sym c.is_code.ensures ∙ c.if-is_code.false) in
    let plain = sym c.is_dashed.ensures ∙ c.if-is_dashed.false in
    behind_plain c.in-Some.word.now.now c.in_ok-count.count plain
    ∙ ap (counted_behind c.in-Some.word.now.now) c.in_ok-count.ensures.count
    ∙ sym (ap (λ words. count_beside (words_in words)) whole ∙ more)
