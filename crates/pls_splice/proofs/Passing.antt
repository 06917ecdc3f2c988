-- One edge more is looked at, from the last back to the first.
use Rattle.std.proofs.Common.{◌≡◌, ◌∙◌, ℕ, suc, ◌+◌, ◌-◌, ◌<◌, cond, Bool, List, length, Option, Some, sym, ap, subst, arith}
use Rattle.std.specs.HashMap.{HashMap, get}
use Rattle.pls_configuration.specs.declared.row.NodeRow.{NodeRow}
use Rattle.pls_splice.specs.declared.finding.Pair.{Pair}
use Rattle.pls_splice.specs.inner.Finding.{HasFirst, IsFoundFrom, first_from, same_words, with_edge}
use Rattle.pls_splice.specs.inner.Keys.{edge_key}
use Rattle.pls_splice.proofs.FirstPair.{first_more, found_more}

module _ (tails passed count i : ℕ) (less : passed < tails) (tails_is : tails ≡ count - 3)
    (i_is : i ≡ tails - 1 - passed) where
  here : tails - (passed + 1) ≡ i
  here = omega arith

  before : tails - passed ≡ suc i
  before = omega arith

  short : i + 3 < count
  short = omega arith

  pub table_more : {K S : Type 0} (words : K → List ℕ) (old new : HashMap K ℕ S) (key : ℕ → List ℕ)
      (far : K) → words far ≡ key (i + 3)
      → ((q : K) → get (λ x y. same_words (words x) (words y)) new q
      ≡ cond (same_words (words far) (words q)) (Some (i + 3))
      (get (λ x y. same_words (words x) (words y)) old q))
      → HasFirst words old key (tails - passed + 3) (count - (tails - passed + 3))
      → HasFirst words new key (i + 3) (count - (i + 3))
  table_more {K} {S} words old new key far far_is puts has q =
      let passes : ℕ → Bool = λ j. same_words (key j) (words q) in
      let from : tails - passed + 3 ≡ suc (i + 3) = let b = before in omega arith in
      let many : count - (i + 3) ≡ suc (count - (tails - passed + 3)) =
      let b = before in let s = short in omega arith in
      first_more passes (i + 3) (count - (tails - passed + 3))
      (get (λ x y. same_words (words x) (words y)) old q)
      (get (λ x y. same_words (words x) (words y)) new q)
      (puts q ∙ ap (λ (far : List ℕ). cond (same_words far (words q)) (Some (i + 3))
      (get (λ x y. same_words (words x) (words y)) old q)) far_is)
      (has q ∙ ap (λ (from : ℕ). first_from passes from (count - (tails - passed + 3))) from)
      ∙ ap (first_from passes (i + 3)) (sym many)

  pub table_now : {K S : Type 0} (words : K → List ℕ) (new : HashMap K ℕ S) (key : ℕ → List ℕ)
      → HasFirst words new key (i + 3) (count - (i + 3))
      → HasFirst words new key (tails - (passed + 1) + 3) (count - (tails - (passed + 1) + 3))
  table_now words new key has q = has q
      ∙ ap (λ (i : ℕ). first_from (λ j. same_words (key j) (words q)) (i + 3) (count - (i + 3)))
      (sym here)

  pub found_now : {K S : Type 0} (words : K → List ℕ) (new : HashMap K ℕ S) (rows : List NodeRow)
      (labels : List (List Bool)) (order : List ℕ) (found made : Option Pair) (q : K)
      (j : Option ℕ) → count ≡ length order
      → HasFirst words new (edge_key rows labels order) (i + 3) (count - (i + 3))
      → words q ≡ edge_key rows labels order i
      → j ≡ get (λ x y. same_words (words x) (words y)) new q
      → made ≡ with_edge found i j count
      → IsFoundFrom rows labels order (tails - passed) found
      → IsFoundFrom rows labels order (tails - (passed + 1)) made
  found_now words new rows labels order found made q j count_is has q_is j_is made_is seen =
      let key : ℕ → List ℕ = edge_key rows labels order in
      let first : j ≡ first_from (λ j. same_words (key j) (key i)) (i + 3) (length order - (i + 3)) =
      j_is ∙ has q
      ∙ ap (λ (words : List ℕ). first_from (λ j. same_words (key j) words) (i + 3)
      (count - (i + 3))) q_is
      ∙ ap (λ (count : ℕ). first_from (λ j. same_words (key j) (key i)) (i + 3) (count - (i + 3)))
      count_is in
      let within : i + 3 < length order = let s = short in omega arith in
      let more : IsFoundFrom rows labels order i (with_edge found i j (length order)) =
      found_more rows labels order i found
      (subst (λ (from : ℕ). IsFoundFrom rows labels order from found) before seen) within j first in
      let made_so : with_edge found i j (length order) ≡ made =
      ap (with_edge found i j) (sym count_is) ∙ sym made_is in
      subst (λ (from : ℕ). IsFoundFrom rows labels order from made) (sym here)
      (subst (IsFoundFrom rows labels order i) made_so more)
