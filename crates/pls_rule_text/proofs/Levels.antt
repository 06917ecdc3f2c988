-- What stands in front with at least one level, by how it opens.
use Rattle.std.proofs.Common.{◌≡◌, ℕ, zero, suc, ◌-◌, ◌<◌, List, codes, Option, Some, None, option_map, refl, arith}
use Rattle.pls_fronts.specs.Front.{Front, after}
use Rattle.pls_rules.specs.Formula.{Add, Sum}
use Rattle.pls_rule_text.specs.declared.openings.Comparison.{Comparison}
use Rattle.pls_rule_text.specs.declared.openings.Junction.{Junction}
use Rattle.pls_rule_text.specs.declared.openings.Modifier.{Modifier}
use Rattle.pls_rule_text.specs.inner.Atoms.{atom_front}
use Rattle.pls_rule_text.specs.inner.Fronts.{behind_comparison, behind_junction, behind_modifier, formula_front, term_front}
use Rattle.pls_rule_text.specs.inner.Openings.{comparison_front, junction_front, modifier_front}
use Rattle.pls_rule_text.specs.inner.Parts.{two_front}

-- where nothing is made, there was nothing
pub nothing_made : {A B : Type 0} (of : A → B) (found : Option A) → None ≡ option_map of found
    → None ≡ found
nothing_made of None is = refl
nothing_made of (Some item) is = absurd (cc)

back : (below : ℕ) → suc below - 1 ≡ below
back below = omega arith

pub at_comparison : (below : ℕ) (text : List ℕ) (opened : Front Comparison) → 0 < below
    → Some opened ≡ comparison_front text
    → formula_front below text ≡ behind_comparison (term_front (below - 1)) opened
unfolding formula_front
at_comparison zero text opened some is = absurd (omega (arith, some))
at_comparison (suc below) text opened some is = rw (← is, back below) refl

pub at_junction : (below : ℕ) (text : List ℕ) (opened : Front Junction) → 0 < below
    → None ≡ comparison_front text → Some opened ≡ junction_front text
    → formula_front below text ≡ behind_junction (formula_front (below - 1)) opened
unfolding formula_front
at_junction zero text opened some none is = absurd (omega (arith, some))
at_junction (suc below) text opened some none is = rw (← none, ← is, back below) refl

pub at_modifier : (below : ℕ) (text : List ℕ) (opened : Front Modifier) → 0 < below
    → None ≡ comparison_front text → None ≡ junction_front text → Some opened ≡ modifier_front text
    → formula_front below text ≡ behind_modifier (formula_front (below - 1)) opened
unfolding formula_front
at_modifier zero text opened some none other is = absurd (omega (arith, some))
at_modifier (suc below) text opened some none other is = rw (← none, ← other, ← is, back below) refl

pub at_sum : (below : ℕ) (text rest : List ℕ) → 0 < below → None ≡ atom_front text
    → Some rest ≡ after (codes "add(") text
    → term_front below text ≡ two_front Add (term_front (below - 1)) (term_front (below - 1)) rest
unfolding formula_front
at_sum zero text rest some none is = absurd (omega (arith, some))
at_sum (suc below) text rest some none is = rw (← none, ← is, back below) refl

pub at_port_sum : (below : ℕ) (text rest : List ℕ) → 0 < below → None ≡ atom_front text
    → None ≡ after (codes "add(") text → Some rest ≡ after (codes "sum(") text
    → term_front below text ≡ two_front Sum (formula_front (below - 1)) (term_front (below - 1)) rest
unfolding formula_front
at_port_sum zero text rest some none other is = absurd (omega (arith, some))
at_port_sum (suc below) text rest some none other is = rw (← none, ← other, ← is, back below) refl
