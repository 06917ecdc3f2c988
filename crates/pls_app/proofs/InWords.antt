-- What a command is that some words are.
use Rattle.std.proofs.Common.{◌≡◌, Bool, true, false, List, ℕ, codes, bytes_eq, Option, Some, None, option_and_then, if◌then◌else◌, refl, subst}
use Rattle.std.proofs.lemmas.Option.{same_Some}
use Rattle.std.specs.Option.{IsSome}
use Rattle.pls_expressions.specs.Expression.{Expression, IsSmall}
use Rattle.pls_names.specs.declared.scheme_name.SchemeName.{SchemeName}
use Rattle.pls_names.specs.declared.scheme_name.SchemeName.TheVariants.{Acyclic, Bipartite, Count, Forest, Leader, ShortestPathTree, Tree}
use Rattle.pls_builtin.specs.Builtin.{name_with_set, set_of_name}
use Rattle.pls_words.specs.Words.{Said}
use Rattle.pls_app.specs.declared.command.Command.TheVariants.{Print, Trial, With}
use Rattle.pls_app.specs.declared.command.Task.{Task}
use Rattle.pls_app.specs.Command.{without_flag}
use Rattle.pls_app.specs.TrialWords.{IsTrialSize}
use Rattle.pls_app.specs.inner.Commands.{IsInWords}

pub small_scheme : (task : Task) (scheme : Expression) → IsInWords (With task scheme) → IsSmall scheme
small_scheme task scheme said = said.1.is.2

pub trial_size : (nodes seed : ℕ) → IsInWords (Trial nodes seed) → IsTrialSize nodes seed
trial_size nodes seed said = said.1.is.size

-- a set that stands under one name stands under another that is the same
same_set : (one other : SchemeName) → Some one ≡ Some other → IsSome (set_of_name one)
    → IsSome (set_of_name other)
same_set one other same has =
    subst (λ (name : SchemeName). IsSome (set_of_name name)) (same_Some one other same) has

-- a name that a word names has a set
has_set : (a b c d e f g : Bool) (name : SchemeName)
    → (if a then Some Leader else (if b then Some Tree else (if c then Some Forest
    else (if d then Some ShortestPathTree else (if e then Some Bipartite
    else (if f then Some Acyclic else (if g then Some Count else None)))))))
    ≡ Some name → IsSome (set_of_name name)
has_set true b c d e f g name is = same_set Leader name is refl
has_set false true c d e f g name is = same_set Tree name is refl
has_set false false true d e f g name is = same_set Forest name is refl
has_set false false false true e f g name is = same_set ShortestPathTree name is refl
has_set false false false false true f g name is = same_set Bipartite name is refl
has_set false false false false false true g name is = same_set Acyclic name is refl
has_set false false false false false false true name is = same_set Count name is refl
has_set false false false false false false false name is = absurd (cc)

named_set : (word : Option (List ℕ)) (name : SchemeName)
    → option_and_then name_with_set word ≡ Some name → IsSome (set_of_name name)
named_set None name is = absurd (cc)
named_set (Some word) name is =
    has_set (bytes_eq word (codes "leader")) (bytes_eq word (codes "tree"))
    (bytes_eq word (codes "forest")) (bytes_eq word (codes "spt"))
    (bytes_eq word (codes "bipartite")) (bytes_eq word (codes "acyclic"))
    (bytes_eq word (codes "count")) name is

pub printed_set : (name : SchemeName) → IsInWords (Print name) → IsSome (set_of_name name)
printed_set name said = by said.1.said (bytes_eq said.1.said.command (codes "rules")) said.1.is
  where
    by : (said : Said) (rules : Bool)
        → (if rules then option_and_then name_with_set
        (option_and_then (without_flag said.flag) said.argument) else None) ≡ Some name
        → IsSome (set_of_name name)
    by said false is = absurd (cc)
    by said true is = named_set (option_and_then (without_flag said.flag) said.argument) name is
