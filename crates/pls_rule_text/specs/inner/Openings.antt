-- What opens an expression of others: its word, and the expression that it makes of its parts.
use Rattle.std.specs.Prelude.{ℕ, List, codes, Option}
use Rattle.std.specs.Option.{option_or}
use Rattle.pls_fronts.specs.Front.{Front, word_front}
use Rattle.pls_rules.specs.Formula.{Formula, Term, Eq, Lt, Le, Same, Both, Either, Not, All, Any}
use Rattle.pls_rule_text.specs.declared.openings.Comparison.{Comparison}
use Rattle.pls_rule_text.specs.declared.openings.Comparison.TheVariants.{Equal, Less, AtMost}
use Rattle.pls_rule_text.specs.declared.openings.Junction.{Junction}
use Rattle.pls_rule_text.specs.declared.openings.Junction.TheVariants.{Same as BySame, Both as ByBoth, Either as ByEither}
use Rattle.pls_rule_text.specs.declared.openings.Modifier.{Modifier}
use Rattle.pls_rule_text.specs.declared.openings.Modifier.TheVariants.{Not as ByNot, All as ByAll, Any as ByAny}

-- the words, up to the parenthesis
abbrev pub comparison_word : Comparison → List ℕ
comparison_word Equal = codes "eq("
comparison_word Less = codes "lt("
comparison_word AtMost = codes "le("

abbrev pub junction_word : Junction → List ℕ
junction_word BySame = codes "same("
junction_word ByBoth = codes "both("
junction_word ByEither = codes "either("

abbrev pub modifier_word : Modifier → List ℕ
modifier_word ByNot = codes "not("
modifier_word ByAll = codes "all("
modifier_word ByAny = codes "any("

-- the expressions
abbrev pub comparison_of : {F : Type 0} → Comparison → Term F → Term F → Formula F
comparison_of Equal a b = Eq a b
comparison_of Less a b = Lt a b
comparison_of AtMost a b = Le a b

abbrev pub junction_of : {F : Type 0} → Junction → Formula F → Formula F → Formula F
junction_of BySame a b = Same a b
junction_of ByBoth a b = Both a b
junction_of ByEither a b = Either a b

abbrev pub modifier_of : {F : Type 0} → Modifier → Formula F → Formula F
modifier_of ByNot a = Not a
modifier_of ByAll a = All a
modifier_of ByAny a = Any a

-- the one that stands at the front of a text
abbrev pub comparison_front : List ℕ → Option (Front Comparison)
comparison_front text =
    option_or (word_front Equal (codes "eq(") text)
    (option_or (word_front Less (codes "lt(") text) (word_front AtMost (codes "le(") text))

abbrev pub junction_front : List ℕ → Option (Front Junction)
junction_front text =
    option_or (word_front BySame (codes "same(") text)
    (option_or (word_front ByBoth (codes "both(") text)
    (word_front ByEither (codes "either(") text))

abbrev pub modifier_front : List ℕ → Option (Front Modifier)
modifier_front text =
    option_or (word_front ByNot (codes "not(") text)
    (option_or (word_front ByAll (codes "all(") text) (word_front ByAny (codes "any(") text))
