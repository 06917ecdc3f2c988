-- Where no chain of parents returns, each ends, after fewer steps than there are nodes.
use Rattle.std.proofs.Common.{◌≡◌, ℕ, zero, suc, ◌+◌, ◌≤◌, ◌==◌, ◌⊎◌, inl, inr, Bool, true, false, List, [], ◌∷◌, length, Contains, Option, Some, None, refl, sym, ap, subst, arith}
use Rattle.std.specs.List.{sum_by}
use Rattle.std.proofs.lemmas.Bool.{cases_eq, eqb-true}
use Rattle.std.proofs.lemmas.List.Sums.{sum_by-cons}
use Rattle.pls_graph.proofs.Members.{Contains-cons_cases, Contains-first, Contains-later}
use Rattle.pls_configuration.specs.WalkBy.{WalkBy}
use Rattle.pls_facts.specs.Parents.{NoParentsReturn}
use Rattle.pls_facts.proofs.ParentLines.{Ended, hits, line_from}
use Rattle.pls_facts.proofs.Sums.{AreApart, eqb_turned, sum-add, sum-at, sum-same, sum-zero, when, when-none}

module _ (HasParent : ℕ → ℕ → Type 0) (up : ℕ → Option ℕ) (nodes : List ℕ)
    (apart : AreApart (λ x. x) nodes)
    (back : (u x : ℕ) → Contains nodes u → up u ≡ Some x → HasParent u x)
    (within : (u x : ℕ) → Contains nodes u → up u ≡ Some x → Contains nodes x)
    (never : NoParentsReturn HasParent) where
  -- from u each has the one after it as its parent
  abbrev Steps : ℕ → List ℕ → Type 0
  Steps u [] = Unit {0}
  Steps u (x ∷ line) = (up u ≡ Some x) × Steps x line

  -- what stands behind a node is reached from it
  reaches : (u v : ℕ) (line : List ℕ) → Contains nodes u → Steps u line → 1 ≤ hits v line
      → (x : ℕ) × (onward : List ℕ) × WalkBy HasParent u (x ∷ onward) v
  reaches u v [] in' steps some = absurd (omega (arith, some))
  reaches u v (x ∷ line) in' steps some = elim (cases_eq x v) [
    | inl same ↦ (x, [], (back u x in' steps.0, same))
    | inr differs ↦
        let none : when (x == v) 1 ≡ 0 =
        when-none (x == v) 1 (λ is. absurd (differs (eqb-true x v is))) in
        let (y, onward, chain) : (y : ℕ) × (onward : List ℕ)
        × WalkBy HasParent x (y ∷ onward) v =
        reaches x v line (within u x in' steps.0) steps.1 (omega (arith, some, none)) in
        (x, y ∷ onward, (back u x in' steps.0, chain))
  ]

  -- so nothing stands there twice
  once : (u v : ℕ) (line : List ℕ) → Contains nodes u → Steps u line → hits v (u ∷ line) ≤ 1
  once u v [] in' steps = by (u == v)
    where
      by : (b : Bool) → when b 1 + 0 ≤ 1
      by true = omega arith
      by false = omega arith
  once u v (x ∷ line) in' steps =
      by (u == v) refl (once x v line (within u x in' steps.0) steps.1)
    where
      by : (b : Bool) → (u == v) ≡ b → hits v (x ∷ line) ≤ 1 → when b 1 + hits v (x ∷ line) ≤ 1
      by false is few = omega (arith, few)
      by true is few = elim (cases_eq (hits v (x ∷ line)) 0) [
        | inl none ↦ omega (arith, none)
        | inr some ↦
            let round : (y : ℕ) × (onward : List ℕ) × WalkBy HasParent u (y ∷ onward) v =
            reaches u v (x ∷ line) in' steps (grind (arith)) in
            absurd (never u round.0 round.1
            (subst (WalkBy HasParent u (round.0 ∷ round.1)) (sym (eqb-true u v is)) round.2))
      ]

  -- all hits together are the length
  hits_all : (line : List ℕ) → ((x : ℕ) → Contains line x → Contains nodes x)
      → sum_by (λ c. hits c line) nodes ≡ length line
  hits_all [] in' = sum-zero (λ c. 0) nodes (λ c c_in. refl)
  hits_all (x ∷ line) in' =
      let rest = hits_all line (λ y y_in. in' y (Contains-later x line y y_in)) in
      let both = sum-add (λ c. when (x == c) 1) (λ c. hits c line) nodes in
      let turned = sum-same (λ c. when (x == c) 1) (λ c. when (c == x) 1) nodes
      (λ c c_in. ap (λ (b : Bool). when b 1) (eqb_turned x c)) in
      let one = sum-at (λ c. c) (λ c. 1) nodes apart x (in' x (Contains-first x line)) in
      omega (arith, rest, both, turned, one)

  -- so such a list is no longer than there are nodes
  few : (line : List ℕ) → ((c : ℕ) → hits c line ≤ 1) → (xs : List ℕ)
      → sum_by (λ c. hits c line) xs ≤ length xs
  few line low [] = omega arith
  few line low (x ∷ xs) =
      omega (arith, low x, few line low xs, sum_by-cons (λ (c : ℕ). hits c line) x xs)

  -- a chain that has not ended is as long as the steps that were taken, over nodes
  record IsLong (fuel u : ℕ) (line : List ℕ) : Type 0 where
    steps : Steps u line
    many : length line ≡ fuel
    known : (x : ℕ) → Contains line x → Contains nodes x

  ends_or_long : (fuel u : ℕ) (o : Option ℕ) → Contains nodes u → up u ≡ o
      → Ended up u (line_from up fuel o) ⊎ IsLong fuel u (line_from up fuel o)
  ends_or_long fuel u None in' is = inl is
  ends_or_long zero u (Some x) in' is =
      inr record { steps = tt; many = refl; known = λ y none. absurd (omega (arith, none.1)) }
  ends_or_long (suc fuel) u (Some x) in' is =
      elim (ends_or_long fuel x (up x) (within u x in' is) refl) [
        | inl ended ↦ inl (is, ended)
        | inr long ↦ inr record {
          steps = (is, long.steps);
          many = omega (arith, long.many);
          known = λ y y_in. elim (Contains-cons_cases x (line_from up fuel (up x)) y y_in) [
            | inl same ↦ subst (Contains nodes) same (within u x in' is)
            | inr later ↦ long.known y later
          ];
        }
      ]

  -- each chain ends
  pub never_ends : (u : ℕ) → Contains nodes u → Ended up u (line_from up (length nodes) (up u))
  never_ends u in' = elim (ends_or_long (length nodes) u (up u) in' refl) [
    | inl ended ↦ ended
    | inr long ↦
        let line : List ℕ = line_from up (length nodes) (up u) in
        let all : sum_by (λ c. hits c (u ∷ line)) nodes ≡ length (u ∷ line) =
        hits_all (u ∷ line) (λ y y_in. elim (Contains-cons_cases u line y y_in) [
          | inl same ↦ subst (Contains nodes) same in'
          | inr later ↦ long.known y later
        ]) in
        let low = few (u ∷ line) (λ c. once u c line in' long.steps) nodes in
        let many = long.many in
        absurd (omega (arith, all, low, many))
  ]
