-- Words of which `clap` is asked.
use Rattle.std.specs.Prelude.{◌≡◌, ℕ, List, length, Option, Some, None, if◌then◌else◌, option_and_then}
use Rattle.std.specs.List.{list_any}
use Rattle.pls_words.specs.declared.command_words.Flag.{Flag}
use Rattle.pls_words.specs.Words.{Said, flag_cut, is_dashed, said_by_words}

-- the words say something
pub record IsFormed (words : List (List ℕ)) : Type 0 where
  pub said : Said
  pub is : said_by_words words ≡ Some said

-- how many words there are, where none begins with `-`
abbrev pub plain_count : List (List ℕ) → Option ℕ
plain_count words = if list_any is_dashed words then None else Some (length words)

-- how many of them stand beside the flag
abbrev pub count_beside : List (List ℕ) → Option ℕ
count_beside words = option_and_then (λ cut. plain_count cut.1) (flag_cut words)
