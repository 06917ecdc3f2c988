-- What stands at the front of a text: an expression with so many levels of parentheses, whose
-- fields stand by their names.
use Rattle.std.specs.Prelude.{ℕ, zero, suc, List, codes, Option, None, option_and_then}
use Rattle.std.specs.Option.{option_map_or, option_or}
use Rattle.pls_fronts.specs.Front.{Front, after, whole_item}
use Rattle.pls_rules.specs.Formula.{Formula, Term, Add, Sum}
use Rattle.pls_rule_text.specs.declared.openings.Comparison.{Comparison}
use Rattle.pls_rule_text.specs.declared.openings.Junction.{Junction}
use Rattle.pls_rule_text.specs.declared.openings.Modifier.{Modifier}
use Rattle.pls_rule_text.specs.inner.Atoms.{atom_front}
use Rattle.pls_rule_text.specs.inner.Openings.{comparison_of, comparison_front, junction_of, junction_front, modifier_of, modifier_front}
use Rattle.pls_rule_text.specs.inner.Parts.{one_front, two_front}

-- what stands behind an opening, whose parts are read so
abbrev pub behind_comparison : (List ℕ → Option (Front (Term (List ℕ)))) → Front Comparison
    → Option (Front (Formula (List ℕ)))
behind_comparison term opened = two_front (comparison_of opened.item) term term opened.rest

abbrev pub behind_junction : (List ℕ → Option (Front (Formula (List ℕ)))) → Front Junction
    → Option (Front (Formula (List ℕ)))
behind_junction formula opened = two_front (junction_of opened.item) formula formula opened.rest

abbrev pub behind_modifier : (List ℕ → Option (Front (Formula (List ℕ)))) → Front Modifier
    → Option (Front (Formula (List ℕ)))
behind_modifier formula opened = one_front (modifier_of opened.item) formula opened.rest

-- a formula and a term with so many levels
unfoldable mutual
  pub formula_front : ℕ → List ℕ → Option (Front (Formula (List ℕ)))
  formula_front zero text = None
  formula_front (suc below) text =
      option_map_or (behind_comparison (term_front below)) (comparison_front text)
      (option_map_or (behind_junction (formula_front below)) (junction_front text)
      (option_and_then (behind_modifier (formula_front below)) (modifier_front text)))

  pub term_front : ℕ → List ℕ → Option (Front (Term (List ℕ)))
  term_front zero text = atom_front text
  term_front (suc below) text =
      option_or (atom_front text)
      (option_map_or (two_front Add (term_front below) (term_front below))
      (after (codes "add(") text)
      (option_and_then (two_front Sum (formula_front below) (term_front below))
      (after (codes "sum(") text)))

-- the formula that is the whole of a text, with at most 31 levels
abbrev pub formula_in : List ℕ → Option (Formula (List ℕ))
formula_in text = option_and_then whole_item (formula_front 31 text)
