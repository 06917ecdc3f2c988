-- The command as `clap` sees it, and what its matches say of the words.
use Rattle.std.specs.Prelude.{◌≡◌, true, List, codes, Option, Some, None}
use Rattle.clap.specs.Words.{App, Rule, Text, new_app, new_rule, with_rule, first_value, found_of, one_text}
use Rattle.clap.specs.declared.builder.ArgAction.TheVariants.{SetTrue}
use Rattle.clap.specs.declared.parser.matches.ArgMatches.{ArgMatches}
use Rattle.pls_bits.specs.declared.code_name.CodeName.{CodeName}
use Rattle.pls_bits.specs.declared.code_name.CodeName.TheVariants.{Gamma, Delta}
use Rattle.pls_words.specs.declared.command_words.Flag.{Flag}
use Rattle.pls_words.specs.declared.command_words.Flag.TheVariants.{Bare, Json, Coded}
use Rattle.pls_words.specs.Words.{Said}

-- the command, which has to stand
abbrev pub command_rule : Rule
command_rule = record (new_rule (codes "command")) { required = true }

-- the word behind it
abbrev pub argument_rule : Rule
argument_rule = new_rule (codes "argument")

-- the flag `--json`
abbrev pub json_rule : Rule
json_rule = record (new_rule (codes "json")) { long = Some (codes "json"); action = Some SetTrue }

-- `--code`, with a word behind it
abbrev pub code_rule : Rule
code_rule = record (new_rule (codes "code")) { long = Some (codes "code") }

-- the program, before its rules
abbrev pub bare_parser : App
bare_parser = record (new_app (codes "pls")) {
  top = record ((new_app (codes "pls")).top) { no_binary_name = true; disable_help_flag = true };
}

-- the program
abbrev pub parser : App
parser =
    with_rule (with_rule (with_rule (with_rule bare_parser command_rule) argument_rule) json_rule)
    code_rule

-- the text that `--json` is kept as, and the word behind `--code`
abbrev pub switch_of : Flag → Text
switch_of Bare = codes "false"
switch_of Json = codes "true"
switch_of (Coded code) = codes "false"

abbrev pub name_of_code : CodeName → Text
name_of_code Gamma = codes "gamma"
name_of_code Delta = codes "delta"

abbrev pub code_word : Flag → Option Text
code_word Bare = None
code_word Json = None
code_word (Coded code) = Some (name_of_code code)

-- the matches say what the words say
pub record HasWords (said : Said) (matches : ArgMatches) : Type 0 where
  pub command : first_value (found_of matches) (codes "command") ≡ Some said.command
  pub argument : first_value (found_of matches) (codes "argument") ≡ said.argument
  pub json : one_text (found_of matches) (codes "json") ≡ Some (switch_of said.flag)
  pub code : first_value (found_of matches) (codes "code") ≡ code_word said.flag
