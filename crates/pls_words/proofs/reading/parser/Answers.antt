use Rattle.std.proofs.Common.{rules, true, ap, ap₂, ◌≡◌, ◌∙◌}
use Rattle.std.proofs.lemmas.Result.{IfOk-weaker}
use Rattle.clap.specs.Words.{App, app_of, rule_of, with_rule}
use Rattle.clap.specs.Simple.{app_of_fields}
use Rattle.pls_words.specs.inner.Parser.{argument_rule, bare_parser, code_rule, command_rule, json_rule}
use Rattle.pls_words.proofs.reading.parser.Goals as goal

abbrev unnamed : App → App
unnamed a = record a { top = record a.top { no_binary_name = true } }

abbrev helpless : App → App
helpless a = record a { top = record a.top { disable_help_flag = true } }

pub returns : goal.returns
returns c =
    let command_is : rule_of c.required-name.result ≡ command_rule = search rules in
    let argument_is : rule_of c.new-argument.result ≡ argument_rule = search rules in
    let json_is : rule_of c.action-json.result ≡ json_rule = search rules in
    let code_is : rule_of c.long-code.result ≡ code_rule = search rules in
    let bare_is : app_of c.disable_help_flag.result ≡ bare_parser =
    ap app_of_fields c.disable_help_flag.ensures
    ∙ ap helpless (ap app_of_fields c.no_binary_name.ensures ∙ ap unnamed c.new-4.ensures.app) in
    let first = c.in_ok-arg.ensures.shape (search rules) ∙ ap₂ with_rule bare_is command_is in
    let second = c.in_ok-arg-2.ensures.shape (search rules) ∙ ap₂ with_rule first argument_is in
    let third = c.in_ok-arg-3.ensures.shape (search rules) ∙ ap₂ with_rule second json_is in
    IfOk-weaker c.arg-4.result _ _
    (λ m h. h.shape (search rules) ∙ ap₂ with_rule third code_is) c.arg-4.ensures
