-- How the first pair is found, one edge after another from the last one back.
use Rattle.std.proofs.Common.{◌≡◌, ◌↔◌, ◌∙◌, ℕ, zero, suc, ◌+◌, ◌-◌, ◌<◌, ◌≤◌, inl, inr, true, false, cond, Bool, nat_le, List, [], ◌∷◌, ◌++◌, length, IfNone, IfSome, Option, Some, None, refl, sym, ap, subst, arith}
use Rattle.std.proofs.lemmas.Bool.{cases_order, leb-true, leb-false}
use Rattle.std.proofs.lemmas.Bool.Decides.{Decides-eqb}
use Rattle.std.proofs.lemmas.Option.{same_Some}
use Rattle.std.proofs.lemmas.Slice.Eq.{slice_eq-Decides}
use Rattle.pls_configuration.specs.declared.row.NodeRow.{NodeRow}
use Rattle.pls_splice.specs.Crossing.{AreAlike, HasNoPair, IsFirstPair, IsPair, label_at, ring_edge_weight}
use Rattle.pls_splice.specs.Ring.{head_of, tail_of}
use Rattle.pls_splice.specs.declared.finding.Pair.{Pair}
use Rattle.pls_splice.specs.inner.Finding.{IsFoundFrom, first_from, same_words, with_edge}
use Rattle.pls_splice.specs.inner.Keys.{edge_key, words_from}
use Rattle.pls_splice.proofs.KeyWords.{same_bits}

-- two lists of words are the same exactly where a table takes them to be
same_exactly : (one other : List ℕ) → (same_words one other ≡ true) ↔ (one ≡ other)
same_exactly one other = slice_eq-Decides Decides-eqb one other (same_words one other) refl

-- two lists of one length in front of others
same_parts : (a b c d : List Bool) → length a ≡ length c → a ++ b ≡ c ++ d → (a ≡ c) × (b ≡ d)
same_parts [] b [] d long e = (refl, e)
same_parts [] b (y ∷ c) d long e = absurd (cc)
same_parts (x ∷ a) b [] d long e = absurd (cc)
same_parts (x ∷ a) b (y ∷ c) d long e =
    let first : x ≡ y = cc in
    let rest : a ++ b ≡ c ++ d = cc in
    let many : length a ≡ length c = omega (arith, long) in
    let parts : (a ≡ c) × (b ≡ d) = same_parts a b c d many rest in
    (ap (λ (x : Bool). x ∷ a) first ∙ ap (λ (a : List Bool). y ∷ a) parts.0, parts.1)

module _ (rows : List NodeRow) (labels : List (List Bool)) (order : List ℕ) where
  abbrev key : ℕ → List ℕ
  key = edge_key rows labels order

  -- edges with one key are alike
  pub alike_by_key : (i j : ℕ) → key i ≡ key j → AreAlike rows labels order i j
  alike_by_key i j e =
      let weights : ring_edge_weight rows order i ≡ ring_edge_weight rows order j = cc in
      let long : length (label_at labels (tail_of order i)) ≡ length (label_at labels (tail_of order j))
      = cc in
      let words : words_from 1 (label_at labels (tail_of order i) ++ label_at labels (head_of order i))
      ≡ words_from 1 (label_at labels (tail_of order j) ++ label_at labels (head_of order j)) = cc in
      let parts = same_parts (label_at labels (tail_of order i)) (label_at labels (head_of order i))
      (label_at labels (tail_of order j)) (label_at labels (head_of order j)) long
      (same_bits (label_at labels (tail_of order i) ++ label_at labels (head_of order i))
      (label_at labels (tail_of order j) ++ label_at labels (head_of order j)) words) in
      record { weights = weights; tails = parts.0; heads = parts.1 }

  -- and alike edges have one key
  pub key_by_alike : (i j : ℕ) → AreAlike rows labels order i j → key i ≡ key j
  key_by_alike i j alike = rw (alike.weights, alike.tails, alike.heads) refl

  pub same_by_alike : (i j : ℕ) → AreAlike rows labels order i j → same_words (key j) (key i) ≡ true
  same_by_alike i j alike = (same_exactly (key j) (key i)).1 (sym (key_by_alike i j alike))

  pub alike_by_same : (i j : ℕ) → same_words (key j) (key i) ≡ true → AreAlike rows labels order i j
  alike_by_same i j same = alike_by_key i j (sym ((same_exactly (key j) (key i)).0 same))

-- what is said of the first number that passes
pub record IsFirst (passes : ℕ → Bool) (from count j : ℕ) : Type 0 where
  pub low : from ≤ j
  pub high : j < from + count
  pub passed : passes j ≡ true
  pub before : (l : ℕ) → from ≤ l → l < j → passes l ≡ false

pub first_is : (passes : ℕ → Bool) (from count j : ℕ) → first_from passes from count ≡ Some j
    → IsFirst passes from count j
first_is passes from zero j is = absurd (cc)
first_is passes from (suc count) j is =
    by (passes from) refl is (λ later. first_is passes (suc from) count j later)
  where
    by : (b : Bool) → passes from ≡ b
        → cond b (Some from) (first_from passes (suc from) count) ≡ Some j
        → (first_from passes (suc from) count ≡ Some j → IsFirst passes (suc from) count j)
        → IsFirst passes from (suc count) j
    by true e is rest =
        let here : from ≡ j = same_Some from j is in record {
          low = omega arith;
          high = omega arith;
          passed = ap passes (sym here) ∙ e;
          before = λ l low less. absurd (omega arith);
        }
    by false e is rest =
        let later : IsFirst passes (suc from) count j = rest is in record {
          low = let low = later.low in omega arith;
          high = let high = later.high in omega arith;
          passed = later.passed;
          before = λ l low less. elim (cases_order l from) [
            | inl same ↦ ap passes same ∙ e
            | inr order ↦ elim order [
              | inl below ↦ absurd (omega arith)
              | inr above ↦ later.before l (omega arith) less
            ]
          ];
        }

pub none_is : (passes : ℕ → Bool) (from count : ℕ) → first_from passes from count ≡ None
    → (l : ℕ) → from ≤ l → l < from + count → passes l ≡ false
none_is passes from zero is l low high = absurd (omega arith)
none_is passes from (suc count) is l low high =
    by (passes from) refl is (λ later. none_is passes (suc from) count later l)
  where
    by : (b : Bool) → passes from ≡ b
        → cond b (Some from) (first_from passes (suc from) count) ≡ None
        → (first_from passes (suc from) count ≡ None → suc from ≤ l → l < suc from + count
        → passes l ≡ false)
        → passes l ≡ false
    by true e is rest = absurd (cc)
    by false e is rest = elim (cases_order l from) [
      | inl same ↦ ap passes same ∙ e
      | inr order ↦ elim order [
        | inl below ↦ absurd (omega arith)
        | inr above ↦ rest is (omega arith) (omega arith)
      ]
    ]

-- one number more in front
pub first_more : (passes : ℕ → Bool) (from count : ℕ) (old new : Option ℕ)
    → new ≡ cond (passes from) (Some from) old → old ≡ first_from passes (suc from) count
    → new ≡ first_from passes from (suc count)
first_more passes from count old new is was =
    is ∙ ap (λ (old : Option ℕ). cond (passes from) (Some from) old) was

module _ (rows : List NodeRow) (labels : List (List Bool)) (order : List ℕ) (i : ℕ)
    (found : Option Pair) (seen : IsFoundFrom rows labels order (suc i) found)
    (within : i + 3 < length order) where
  abbrev n : ℕ
  n = length order

  abbrev passes : ℕ → Bool
  passes j = same_words (edge_key rows labels order j) (edge_key rows labels order i)

  -- no later edge goes with this one
  pub passed_by : ((l : ℕ) → ¬ IsPair rows labels order i l)
      → IsFoundFrom rows labels order i found
  passed_by none = by found seen
    where
      by : (found : Option Pair) → IsFoundFrom rows labels order (suc i) found
          → IsFoundFrom rows labels order i found
      by None seen = record {
        none = λ k l low pair. elim (cases_order k i) [
          | inl same ↦ none l (subst (λ (k : ℕ). IsPair rows labels order k l) same pair)
          | inr order' ↦ elim order' [
            | inl below ↦ absurd (omega arith)
            | inr above ↦ seen.none k l (omega arith) pair
          ]
        ];
        some = tt;
      }
      by (Some best) seen = record {
        none = tt;
        some = record {
          fits = seen.some.fits;
          first = λ k l low pair. elim (cases_order k i) [
            | inl same ↦ absurd (none l (subst (λ (k : ℕ). IsPair rows labels order k l) same pair))
            | inr order' ↦ elim order' [
              | inl below ↦ absurd (omega arith)
              | inr above ↦ seen.some.first k l (omega arith) pair
            ]
          ];
        };
      }

  pub found_more : (j : Option ℕ) → j ≡ first_from passes (i + 3) (n - (i + 3))
      → IsFoundFrom rows labels order i (with_edge found i j n)
  found_more None is = passed_by (λ l pair.
      let apart = pair.apart in
      let inside = pair.within in
      let fails = none_is passes (i + 3) (n - (i + 3)) (sym is) l apart (omega arith) in
      let same = same_by_alike rows labels order i l pair.alike in
      let no : true ≡ false = sym same ∙ fails in absurd (cc))
  found_more (Some j) is = by (nat_le (j + 3) (n + i)) refl
    where
      first : IsFirst passes (i + 3) (n - (i + 3)) j
      first = first_is passes (i + 3) (n - (i + 3)) j (sym is)

      -- an edge that goes with this one is not before the first that is alike
      behind : (l : ℕ) → IsPair rows labels order i l → j ≤ l
      behind l pair = elim (cases_order l j) [
        | inl same ↦ omega arith
        | inr order' ↦ elim order' [
          | inl below ↦
              let fails = first.before l pair.apart below in
              let same = same_by_alike rows labels order i l pair.alike in
              let no : true ≡ false = sym same ∙ fails in absurd (cc)
          | inr above ↦ omega arith
        ]
      ]

      by : (b : Bool) → nat_le (j + 3) (n + i) ≡ b
          → IsFoundFrom rows labels order i
          (cond b (Some (record { first = i; second = j })) found)
      by false far = passed_by (λ l pair.
          let after = behind l pair in
          let around = pair.around in
          let not_near = leb-false (j + 3) (n + i) far in
          omega arith)
      by true near = record {
        none = tt;
        some = record {
          fits = record {
            within = let high = first.high in omega arith;
            apart = first.low;
            around = leb-true (j + 3) (n + i) near;
            alike = alike_by_same rows labels order i j first.passed;
          };
          first = λ k l low pair. elim (cases_order k i) [
            | inl same ↦ inr (
              sym same,
              behind l (subst (λ (k : ℕ). IsPair rows labels order k l) same pair),
            )
            | inr order' ↦ elim order' [
              | inl below ↦ absurd (omega arith)
              | inr above ↦ inl above
            ]
          ];
        };
      }

-- before any edge was looked at
pub found_none : (rows : List NodeRow) (labels : List (List Bool)) (order : List ℕ) (from : ℕ)
    → length order ≤ from + 3 → IsFoundFrom rows labels order from None
found_none rows labels order from short = record {
  none = λ k l low pair.
      let apart = pair.apart in let inside = pair.within in omega arith;
  some = tt;
}

-- after all were
pub found_first : (rows : List NodeRow) (labels : List (List Bool)) (order : List ℕ)
    (found : Option Pair) → IsFoundFrom rows labels order 0 found
    → IfNone found (HasNoPair rows labels order)
    × IfSome found (λ pair. IsFirstPair rows labels order pair.first pair.second)
found_first rows labels order None seen = ((λ i j. seen.none i j (omega arith)), tt)
found_first rows labels order (Some pair) seen = (
  tt,
  record { pair = seen.some.fits; first = λ k l. seen.some.first k l (omega arith) },
)
