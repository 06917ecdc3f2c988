use Rattle.std.proofs.Common.{ap, codes, ◌∙◌}
use Rattle.std.proofs.lemmas.Result.{IfErr-weaker, IfOk-weaker}
use Rattle.clap.specs.Words.{found_of, is_simple, takes, first_of, one_of, matches_of}
use Rattle.clap.proofs.WalkLemmas.{first_value-rows, one_text-rows}
use Rattle.pls_words.specs.Words.{words_in}
use Rattle.pls_words.proofs.Forms.{reads}
use Rattle.pls_words.proofs.reading.matches_of.Goals as goal

pub returns-clause-found : goal.returns-clause-found
returns-clause-found c =
    let words = words_in c.args.words.now in
    let parser_is = c.in_ok-parser.ensures in
    IfOk-weaker c.try_get_matches_from.result _ _ (λ m h said is.
    let finds = reads words said is in
    let rows = (h (ap is_simple parser_is)).0 ∙ ap (λ a. matches_of a words) parser_is in
    record {
      command = first_value-rows (found_of m) (codes "command")
          ∙ ap (first_of (codes "command")) rows ∙ finds.command;
      argument = first_value-rows (found_of m) (codes "argument")
          ∙ ap (first_of (codes "argument")) rows ∙ finds.argument;
      json = one_text-rows (found_of m) (codes "json") ∙ ap (one_of (codes "json")) rows
          ∙ finds.json;
      code = first_value-rows (found_of m) (codes "code") ∙ ap (first_of (codes "code")) rows
          ∙ finds.code;
    }) c.try_get_matches_from.ensures.matches

pub returns-clause-memory : goal.returns-clause-memory
returns-clause-memory c =
    let words = words_in c.args.words.now in
    IfErr-weaker c.try_get_matches_from.result _ _ (λ e h.
    h (ap (λ a. takes a words) c.in_ok-parser.ensures
    ∙ (reads words c.requires.said c.requires.is).taken))
    c.try_get_matches_from.ensures.passes
