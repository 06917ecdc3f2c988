-- Whole chains of parents, from a node to one without parent, and how often they meet a node.
use Rattle.std.proofs.Common.{◌≡◌, ◌≢◌, ◌∙◌, ℕ, zero, suc, ◌+◌, ◌≤◌, ◌<◌, ◌==◌, inl, inr, Bool, true, false, List, [], ◌∷◌, length, Contains, Option, Some, None, refl, sym, ap, subst, arith, nat_lt}
use Rattle.std.specs.List.{filter, sum_by}
use Rattle.std.specs.Option.{option_map_or}
use Rattle.std.proofs.lemmas.Bool.{cases_eq, eq-eqb, eqb-true, lt-ltb, ltb-true}
use Rattle.std.proofs.lemmas.List.Kept.{AllPairs-filter}
use Rattle.std.proofs.lemmas.List.Sums.{sum_by-cons}
use Rattle.std.proofs.lemmas.Option.{same_Some}
use Rattle.pls_graph.proofs.Members.{Contains-filter, Contains-first, Contains-from_filter, Contains-later}
use Rattle.pls_configuration.specs.WalkBy.{WalkBy}
use Rattle.pls_facts.specs.Parents.{AreSoMany, ChainMeets}
use Rattle.pls_facts.specs.SpanningTree.{AreDistinct}
use Rattle.pls_facts.proofs.Sums.{AreApart, AreApart-from_pairs, eqb_turned, same_many, sum-add, sum-at, sum-filter, sum-one, sum-same, sum-swap, sum-when, sum-zero, when, when-add, when-none, when-swap}

-- how often a node stands in a list
abbrev pub hits : ℕ → List ℕ → ℕ
hits v [] = 0
hits v (x ∷ nodes) = when (x == v) 1 + hits v nodes

-- there is one number of what there is
pub AreSoMany-one : (Such : ℕ → Type 0) (one other : ℕ) → AreSoMany Such one → AreSoMany Such other
    → one ≡ other
AreSoMany-one Such one other a b =
    sym a.many
    ∙ same_many a.all b.all (AreApart-from_pairs (λ x. x) a.all a.distinct)
    (AreApart-from_pairs (λ x. x) b.all b.distinct)
    (λ x in'. (b.are x).1 ((a.are x).0 in'))
    (λ x in'. (a.are x).1 ((b.are x).0 in'))
    ∙ b.many

module _ (up : ℕ → Option ℕ) where
  -- the whole chain of u goes along these, up to one without parent
  abbrev pub Ended : ℕ → List ℕ → Type 0
  Ended u [] = up u ≡ None
  Ended u (x ∷ nodes) = (up u ≡ Some x) × Ended x nodes

  -- the chain behind a node, from its parent on, as far as so many steps go
  abbrev pub line_from : ℕ → Option ℕ → List ℕ
  line_from fuel None = []
  line_from zero (Some x) = []
  line_from (suc fuel) (Some x) = x ∷ line_from fuel (up x)

  -- where a depth falls along parents, as many steps as the depth go to the end
  pub line_ends : (nodes : List ℕ) (depth : ℕ → ℕ)
      → ((u x : ℕ) → Contains nodes u → up u ≡ Some x → Contains nodes x × (depth x < depth u))
      → (fuel u : ℕ) (o : Option ℕ) → Contains nodes u → up u ≡ o → depth u ≤ fuel
      → Ended u (line_from fuel o)
  line_ends nodes depth falls fuel u None in' is low = is
  line_ends nodes depth falls zero u (Some x) in' is low =
      absurd (omega (arith, (falls u x in' is).1, low))
  line_ends nodes depth falls (suc fuel) u (Some x) in' is low =
      let next = falls u x in' is in
      (is, line_ends nodes depth falls fuel x (up x) next.0 refl (omega (arith, next.1, low)))

  -- the node has this one as its parent
  abbrev pub is_child : ℕ → ℕ → Bool
  is_child v c = option_map_or (λ parent. v == parent) (up c) false

  pub is_child-up : (v c : ℕ) → is_child v c ≡ true → up c ≡ Some v
  is_child-up v c is = by (up c) refl is
    where
      by : (o : Option ℕ) → up c ≡ o → option_map_or (λ parent. v == parent) o false ≡ true
          → up c ≡ Some v
      by None e is = absurd (cc)
      by (Some parent) e is = e ∙ ap Some (sym (eqb-true v parent is))

  -- a whole chain is the only one of its node
  one_ended : (u : ℕ) (a b : List ℕ) → Ended u a → Ended u b → length a ≡ length b
  one_ended u [] [] one other = refl
  one_ended u [] (y ∷ b) one other = let no : None ≡ Some y = sym one ∙ other.0 in absurd (cc)
  one_ended u (x ∷ a) [] one other = let no : None ≡ Some x = sym other ∙ one.0 in absurd (cc)
  one_ended u (x ∷ a) (y ∷ b) one other =
      let same : x ≡ y = same_Some x y (sym one.0 ∙ other.0) in
      let rest : length a ≡ length b =
      one_ended y a b (subst (λ (x : ℕ). Ended x a) same one.1) other.1 in
      omega (arith, rest)

  -- what is left of a whole chain behind a node that it meets
  suffix : (u v : ℕ) (nodes : List ℕ) → Ended u nodes → 1 ≤ hits v nodes
      → (rest : List ℕ) × Ended v rest × (length rest < length nodes)
  suffix u v [] ended some = absurd (omega (arith, some))
  suffix u v (x ∷ nodes) ended some = elim (cases_eq x v) [
    | inl same ↦ (nodes, subst (λ (x : ℕ). Ended x nodes) same ended.1, omega arith)
    | inr apart ↦
        let none : when (x == v) 1 ≡ 0 =
        when-none (x == v) 1 (λ is. absurd (apart (eqb-true x v is))) in
        let (rest, ends, less) : (rest : List ℕ) × Ended v rest × (length rest < length nodes) =
        suffix x v nodes ended.1 (omega (arith, some, none)) in
        (rest, ends, omega (arith, less))
  ]

  -- a whole chain meets a node once at most
  pub hits_few : (u v : ℕ) (nodes : List ℕ) → Ended u nodes → hits v (u ∷ nodes) ≤ 1
  hits_few u v [] ended = by (u == v)
    where
      by : (b : Bool) → when b 1 + 0 ≤ 1
      by true = omega arith
      by false = omega arith
  hits_few u v (x ∷ nodes) ended = by (u == v) refl (hits_few x v nodes ended.1)
    where
      by : (b : Bool) → (u == v) ≡ b → hits v (x ∷ nodes) ≤ 1 → when b 1 + hits v (x ∷ nodes) ≤ 1
      by false is few = omega (arith, few)
      by true is few = elim (cases_eq (hits v (x ∷ nodes)) 0) [
        | inl none ↦ omega (arith, none)
        | inr some ↦
            let (rest, ends, less) : (rest : List ℕ) × Ended v rest
            × (length rest < length (x ∷ nodes)) =
            suffix u v (x ∷ nodes) ended (grind (arith)) in
            let same : length (x ∷ nodes) ≡ length rest =
            one_ended v (x ∷ nodes) rest
            (subst (λ (u : ℕ). Ended u (x ∷ nodes)) (eqb-true u v is) ended) ends in
            absurd (omega (arith, same, less))
      ]

-- a relation "has as its parent" on the nodes of a list, as a function
pub record AreParents (HasParent : ℕ → ℕ → Type 0) (nodes : List ℕ) (up : ℕ → Option ℕ)
    (rest : ℕ → List ℕ) : Type 0 where
  pub apart : AreDistinct nodes
  pub named : (u x : ℕ) → Contains nodes u → HasParent u x → up u ≡ Some x
  pub back : (u x : ℕ) → Contains nodes u → up u ≡ Some x → HasParent u x
  pub within : (u x : ℕ) → Contains nodes u → up u ≡ Some x → Contains nodes x
  pub ends : (u : ℕ) → Contains nodes u → Ended up u (rest u)

module _ (HasParent : ℕ → ℕ → Type 0) (nodes : List ℕ) (up : ℕ → Option ℕ) (rest : ℕ → List ℕ)
    (are : AreParents HasParent nodes up rest) where
  apart : AreApart (λ x. x) nodes
  apart = AreApart-from_pairs (λ x. x) nodes are.apart

  -- how many chains meet a node
  abbrev pub met_by : ℕ → ℕ
  met_by v = sum_by (λ x. hits v (x ∷ rest x)) nodes

  -- a whole chain meets a node once more than the nodes whose parent that is
  line_hits : (v u : ℕ) (line : List ℕ) → Contains nodes u → Ended up u line
      → hits v (u ∷ line)
      ≡ when (u == v) 1 + sum_by (λ c. when (is_child up v c) (hits c (u ∷ line))) nodes
  line_hits v u [] in' ended =
      let none : sum_by (λ c. when (is_child up v c) (hits c (u ∷ []))) nodes ≡ 0 =
      sum-zero (λ c. when (is_child up v c) (hits c (u ∷ []))) nodes
      (λ c c_in. when-none (is_child up v c) (hits c (u ∷ [])) (λ child.
      let here : when (u == c) 1 ≡ 0 = when-none (u == c) 1 (λ same.
      let no : None ≡ Some v = sym ended ∙ ap up (eqb-true u c same) ∙ is_child-up up v c child in
      absurd (cc)) in
      omega (arith, here))) in
      omega (arith, none)
  line_hits v u (x ∷ line) in' ended =
      let rest_is = line_hits v x line (are.within u x in' ended.0) ended.1 in
      let split = sum-same (λ c. when (is_child up v c) (hits c (u ∷ x ∷ line)))
      (λ c. when (is_child up v c) (when (u == c) 1)
      + when (is_child up v c) (hits c (x ∷ line))) nodes
      (λ c c_in. when-add (is_child up v c) (when (u == c) 1) (hits c (x ∷ line))) in
      let both = sum-add (λ c. when (is_child up v c) (when (u == c) 1))
      (λ c. when (is_child up v c) (hits c (x ∷ line))) nodes in
      let turned = sum-same (λ c. when (is_child up v c) (when (u == c) 1))
      (λ c. when (c == u) (when (is_child up v c) 1)) nodes
      (λ c c_in. when-swap (is_child up v c) (u == c) 1
      ∙ ap (λ (b : Bool). when b (when (is_child up v c) 1)) (eqb_turned u c)) in
      let one = sum-at (λ c. c) (λ c. when (is_child up v c) 1) nodes apart u in' in
      let child : when (is_child up v u) 1 ≡ when (x == v) 1 =
      ap (λ (o : Option ℕ). when (option_map_or (λ parent. v == parent) o false) 1) ended.0
      ∙ ap (λ (b : Bool). when b 1) (eqb_turned v x) in
      omega (arith, rest_is, split, both, turned, one, child)

  -- a node is met by its own chain, and by those that meet the nodes whose parent it is
  pub met_by-children : (v : ℕ) → Contains nodes v
      → met_by v ≡ 1 + sum_by (λ c. when (is_child up v c) (met_by c)) nodes
  met_by-children v in' =
      let each = sum-same (λ x. hits v (x ∷ rest x))
      (λ x. when (x == v) 1
      + sum_by (λ c. when (is_child up v c) (hits c (x ∷ rest x))) nodes) nodes
      (λ x x_in. line_hits v x (rest x) x_in (are.ends x x_in)) in
      let both = sum-add (λ x. when (x == v) 1)
      (λ x. sum_by (λ c. when (is_child up v c) (hits c (x ∷ rest x))) nodes) nodes in
      let own = sum-at (λ x. x) (λ x. 1) nodes apart v in' in
      let other = sum-swap (λ x c. when (is_child up v c) (hits c (x ∷ rest x))) nodes nodes in
      let drawn = sum-same (λ c. sum_by (λ x. when (is_child up v c) (hits c (x ∷ rest x))) nodes)
      (λ c. when (is_child up v c) (met_by c)) nodes
      (λ c c_in. sum-when (is_child up v c) (λ x. hits c (x ∷ rest x)) nodes) in
      omega (arith, each, both, own, other, drawn)

  -- what a whole chain meets it leads to
  meets_hits : (v u : ℕ) (line : List ℕ) → Contains nodes u → Ended up u line
      → 1 ≤ hits v (u ∷ line) → ChainMeets HasParent u v
  meets_hits v u [] in' ended some = elim (cases_eq u v) [
    | inl same ↦ ([], same)
    | inr apart ↦
        let none : when (u == v) 1 ≡ 0 =
        when-none (u == v) 1 (λ is. absurd (apart (eqb-true u v is))) in
        absurd (omega (arith, some, none))
  ]
  meets_hits v u (x ∷ line) in' ended some = elim (cases_eq u v) [
    | inl same ↦ ([], same)
    | inr apart ↦
        let none : when (u == v) 1 ≡ 0 =
        when-none (u == v) 1 (λ is. absurd (apart (eqb-true u v is))) in
        let (onward, chain) : ChainMeets HasParent x v =
        meets_hits v x line (are.within u x in' ended.0) ended.1 (omega (arith, some, none)) in
        (x ∷ onward, (are.back u x in' ended.0, chain))
  ]

  -- and what a chain leads to the whole chain meets
  hits_meets : (v u : ℕ) (line chain : List ℕ) → Contains nodes u → Ended up u line
      → WalkBy HasParent u chain v → 1 ≤ hits v (u ∷ line)
  hits_meets v u line [] in' ended same =
      let one : when (u == v) 1 ≡ 1 = ap (λ (b : Bool). when b 1) (eq-eqb u v same) in
      omega (arith, one)
  hits_meets v u [] (x ∷ chain) in' ended path =
      let no : None ≡ Some x = sym ended ∙ are.named u x in' path.0 in absurd (cc)
  hits_meets v u (y ∷ line) (x ∷ chain) in' ended path =
      let same : y ≡ x = same_Some y x (sym ended.0 ∙ are.named u x in' path.0) in
      let later = hits_meets v y line chain (are.within u y in' ended.0) ended.1
      (subst (λ (x : ℕ). WalkBy HasParent x chain v) (sym same) path.1) in
      omega (arith, later)

  -- so that is how many chains meet it
  pub met_by-many : (v : ℕ)
      → AreSoMany (λ x. Contains nodes x × ChainMeets HasParent x v) (met_by v)
  met_by-many v = record {
    all = filter meets nodes;
    distinct = AllPairs-filter (λ one other. one ≢ other) meets nodes are.apart;
    many = many;
    are = λ x. (
      λ in'.
          let found = Contains-from_filter meets nodes x in' in (
            found.0,
            meets_hits v x (rest x) found.0 (are.ends x found.0)
                (ltb-true 0 (hits v (x ∷ rest x)) found.1),
          ),
      λ such. Contains-filter meets nodes x such.0 (lt-ltb 0 (hits v (x ∷ rest x))
          (hits_meets v x (rest x) such.1.0 such.0 (are.ends x such.0) such.1.1)),
    );
  }
    where
      meets : ℕ → Bool
      meets x = nat_lt 0 (hits v (x ∷ rest x))

      term : (n : ℕ) → n ≤ 1 → when (nat_lt 0 n) 1 ≡ n
      term zero few = refl
      term (suc zero) few = refl
      term (suc (suc n)) few = absurd (omega (arith, few))

      many : length (filter meets nodes) ≡ met_by v
      many = sym (sum-one (filter meets nodes)) ∙ sum-filter meets (λ x. 1) nodes
          ∙ sum-same (λ x. when (meets x) 1) (λ x. hits v (x ∷ rest x)) nodes
          (λ x x_in. term (hits v (x ∷ rest x)) (hits_few up x v (rest x) (are.ends x x_in)))

  -- so the numbers of chains that meet are one more than those of the nodes whose parent it is
  pub so_many-children : (size : ℕ → ℕ)
      → ((v : ℕ) → Contains nodes v
      → AreSoMany (λ x. Contains nodes x × ChainMeets HasParent x v) (size v))
      → (v : ℕ) → Contains nodes v
      → size v ≡ 1 + sum_by (λ c. when (is_child up v c) (size c)) nodes
  so_many-children size many v in' =
      is v in' ∙ met_by-children v in'
      ∙ ap (λ (n : ℕ). 1 + n) (sum-same (λ c. when (is_child up v c) (met_by c))
      (λ c. when (is_child up v c) (size c)) nodes
      (λ c c_in. ap (when (is_child up v c)) (sym (is c c_in))))
    where
      is : (v : ℕ) → Contains nodes v → size v ≡ met_by v
      is v in' = AreSoMany-one (λ x. Contains nodes x × ChainMeets HasParent x v) (size v) (met_by v)
          (many v in') (met_by-many v)

  -- a node is met by as many chains as there are nodes, at most
  pub met_by-few : (v : ℕ) → met_by v ≤ length nodes
  met_by-few v = by nodes (λ x in'. hits_few up x v (rest x) (are.ends x in'))
    where
      by : (xs : List ℕ) → ((x : ℕ) → Contains xs x → hits v (x ∷ rest x) ≤ 1)
          → sum_by (λ x. hits v (x ∷ rest x)) xs ≤ length xs
      by [] few = omega arith
      by (x ∷ xs) few =
          let here = few x (Contains-first x xs) in
          let others = by xs (λ y in'. few y (Contains-later x xs y in')) in
          omega (arith, here, others, sum_by-cons (λ (x : ℕ). hits v (x ∷ rest x)) x xs)
