-- What the children of a place bring it, and how that changes with which of them wait.
use Rattle.std.proofs.Common.{◌≡◌, ◌≢◌, ◌∙◌, ℕ, ◌+◌, ◌<◌, ◌≤◌, ◌==◌, ◌⊎◌, inl, inr, nat_lt, Bool, true, false, List, length, Option, Some, None, refl, ap, arith}
use Rattle.std.specs.Option.{option_map_or}
use Rattle.std.proofs.lemmas.Bool.{cases_eq, eq-eqb, lt-ltb, ne_eqb}
use Rattle.pls_facts.proofs.ParentLines.{is_child}
use Rattle.pls_facts.proofs.Sums.{sum-add, sum-at, sum-same, sum-zero, when}
use Rattle.pls_search.specs.inner.Passing.{below, from_children, number_at, parent_of}
use Rattle.pls_search.proofs.Below.{below-lt, lt-below, below-apart, zero_term}

-- whether a place waits
abbrev pub waiting : List ℕ → ℕ → Bool
waiting waits c = nat_lt 0 (number_at waits c)

pub some_waits : (k : ℕ) → 1 ≤ k → nat_lt 0 k ≡ true
some_waits k some = lt-ltb 0 k some

module _ (parents : List (Option ℕ)) where
  -- whether a place is a child of the other
  abbrev pub child : ℕ → ℕ → Bool
  child v c = is_child (parent_of parents) v c

  -- what the children that pass have together, in full
  abbrev pub brought : (ℕ → Bool) → (ℕ → ℕ) → ℕ → ℕ
  brought test number v = from_children parents (below (length parents)) test number v

  -- tests that agree give the same
  pub brought_same : (test other : ℕ → Bool) (number : ℕ → ℕ) (v : ℕ)
      → ((c : ℕ) → c < length parents → test c ≡ other c)
      → brought test number v ≡ brought other number v
  brought_same test other number v same =
      sum-same (λ c. when (child v c) (when (test c) (number c)))
      (λ c. when (child v c) (when (other c) (number c))) (below (length parents))
      (λ c in'. ap (λ (b : Bool). when (child v c) (when b (number c)))
      (same c (below-lt (length parents) c in')))

  -- where one child stops passing, its number is missing
  pub brought_less : (test other : ℕ → Bool) (number : ℕ → ℕ) (v one : ℕ) → one < length parents
      → test one ≡ true → other one ≡ false
      → ((c : ℕ) → c < length parents → c ≢ one → test c ≡ other c)
      → brought test number v ≡ brought other number v + when (child v one) (number one)
  brought_less test other number v one within was is same =
      let split = sum-same (λ c. when (child v c) (when (test c) (number c)))
      (λ c. when (child v c) (when (other c) (number c))
      + when (c == one) (when (child v c) (number c))) (below (length parents))
      (λ c in'. each c (below-lt (length parents) c in')) in
      let both = sum-add (λ c. when (child v c) (when (other c) (number c)))
      (λ c. when (c == one) (when (child v c) (number c))) (below (length parents)) in
      let at = sum-at (λ c. c) (λ c. when (child v c) (number c)) (below (length parents))
      (below-apart (length parents)) one (lt-below (length parents) one within) in
      omega (arith, split, both, at)
    where
      term : (b t o e : Bool) (k : ℕ) → ((t ≡ true) × (o ≡ false) × (e ≡ true))
          ⊎ ((t ≡ o) × (e ≡ false))
          → when b (when t k) ≡ when b (when o k) + when e (when b k)
      term b true false true k (inl is) = by b
        where
          by : (b : Bool) → when b k ≡ when b 0 + when b k
          by true = omega arith
          by false = omega arith
      term b false o e k (inl is) = let no = is.0 in absurd (cc)
      term b true true e k (inl is) = let no = is.1 in absurd (cc)
      term b true false false k (inl is) = let no = is.2 in absurd (cc)
      term b t o true k (inr is) = let no = is.1 in absurd (cc)
      term b t o false k (inr is) = rw is.0 (omega arith)

      each : (c : ℕ) → c < length parents → when (child v c) (when (test c) (number c))
          ≡ when (child v c) (when (other c) (number c))
          + when (c == one) (when (child v c) (number c))
      each c c_in = term (child v c) (test c) (other c) (c == one) (number c)
          (elim (cases_eq c one) [
            | inl at ↦ inl (ap test at ∙ was, ap other at ∙ is, eq-eqb c one at)
            | inr apart ↦ inr (same c c_in apart, ne_eqb c one apart)
          ])

  -- where no child that passes is there, none brings anything
  pub brought_none : (test : ℕ → Bool) (number : ℕ → ℕ) (v : ℕ) → brought test (λ c. 1) v ≡ 0
      → brought test number v ≡ 0
  brought_none test number v none =
      sum-zero (λ c. when (child v c) (when (test c) (number c))) (below (length parents))
      (λ c in'. term (child v c) (test c) (number c)
      (zero_term (λ c. when (child v c) (when (test c) 1)) (below (length parents)) c none in'))
    where
      term : (a b : Bool) (k : ℕ) → when a (when b 1) ≡ 0 → when a (when b k) ≡ 0
      term true true k is = absurd (omega (arith, is))
      term true false k is = refl
      term false b k is = refl

  -- a place whose parent is this one has this one as its parent
  pub child-Some : (v c p : ℕ) → parent_of parents c ≡ Some p → child v c ≡ (v == p)
  child-Some v c p is = ap (λ (o : Option ℕ). option_map_or (λ parent. v == parent) o false) is

  pub child-None : (v c : ℕ) → parent_of parents c ≡ None → child v c ≡ false
  child-None v c is = ap (λ (o : Option ℕ). option_map_or (λ parent. v == parent) o false) is
