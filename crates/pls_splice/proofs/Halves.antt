-- The nodes between two edges that are crossed go round, and so do the others.
use Rattle.std.proofs.Common.{◌≡◌, ◌≢◌, ◌∙◌, ℕ, ◌+◌, ◌-◌, ◌<◌, ◌≤◌, ◌⊎◌, inl, inr, Bool, nat_le, if◌then◌else◌, List, length, Contains, sym, ap, subst, arith}
use Rattle.std.proofs.lemmas.Bool.{cases_eq, cases_order, le-leb, lt-leb}
use Rattle.pls_configuration.specs.declared.row.NodeRow.{NodeRow}
use Rattle.pls_configuration.specs.Configuration.{IsNetwork}
use Rattle.pls_graph.specs.Places.{beside}
use Rattle.pls_splice.specs.Crossing.{IsPair, crossed_rows}
use Rattle.pls_splice.specs.Ring.{IsRingOrder, head_of, next_number, tail_of}
use Rattle.pls_splice.proofs.GoingRound.{has_all}
use Rattle.pls_splice.proofs.TwoParts.{first_edge, goes_round, length-nodes, made_long, node_at, nodes_of, old_edge, second_edge}
use Rattle.pls_splice.proofs.Turning.{IsCycle, next_cases, number_of, places_differ}

module _ (rows : List NodeRow) (net : IsNetwork rows) (labels : List (List Bool)) (order : List ℕ)
    (of : IsRingOrder rows order) (i j : ℕ) (pair : IsPair rows labels order i j) where
  abbrev n : ℕ
  n = length order

  low : i + 3 ≤ j
  low = pair.apart

  high : j < n
  high = pair.within

  far : j + 3 ≤ n + i
  far = pair.around

  -- the node behind a node of the order
  head_last : (a : ℕ) → a + 1 ≡ n → head_of order a ≡ tail_of order 0
  head_last a last = elim (next_cases n a (omega arith)) [
    | inl end ↦ ap (tail_of order) end.1
    | inr on ↦ let b = on.0 in absurd (omega arith)
  ]

  head_next : (a : ℕ) → a + 1 < n → head_of order a ≡ tail_of order (a + 1)
  head_next a more = elim (next_cases n a (omega arith)) [
    | inl end ↦ let b = end.0 in absurd (omega arith)
    | inr on ↦ ap (tail_of order) on.1
  ]

  -- the nodes between the two edges
  abbrev pub inner_number : ℕ → ℕ
  inner_number k = i + 1 + k

  inner_edge : (k : ℕ) → k < j - i → Contains (beside (crossed_rows rows order i j)
      (tail_of order (inner_number k))) (tail_of order (inner_number (next_number (j - i) k)))
  inner_edge k less = elim (next_cases (j - i) k less) [
    | inl last ↦
        let e = last.0 in
        let here : j ≡ i + 1 + k = let l = low in omega arith in
        let first : i + 1 ≡ i + 1 + 0 = omega arith in
        let there : head_of order i ≡ tail_of order (inner_number (next_number (j - i) k)) =
        head_next i (let l = low in let h = high in omega arith)
        ∙ ap (tail_of order) first
        ∙ ap (λ (next : ℕ). tail_of order (i + 1 + next)) (sym last.1) in
        subst (λ (tail : ℕ). Contains (beside (crossed_rows rows order i j) tail)
        (tail_of order (inner_number (next_number (j - i) k)))) (ap (tail_of order) here)
        (subst (Contains (beside (crossed_rows rows order i j) (tail_of order j))) there
        (second_edge rows net labels order of i j pair))
    | inr on ↦
        let e = on.0 in
        let l = low in
        let h = high in
        let step : i + 1 + k + 1 ≡ i + 1 + (k + 1) = omega arith in
        let there : head_of order (inner_number k)
        ≡ tail_of order (inner_number (next_number (j - i) k)) =
        head_next (inner_number k) (omega arith) ∙ ap (tail_of order) step
        ∙ ap (λ (next : ℕ). tail_of order (i + 1 + next)) (sym on.1) in
        subst (Contains (beside (crossed_rows rows order i j) (tail_of order (inner_number k)))) there
        (old_edge rows net labels order of i j pair (inner_number k) (omega arith)
        (λ e. omega arith) (λ e. omega arith))
  ]

  abbrev pub inner : List ℕ
  inner = nodes_of rows net labels order of i j pair (j - i) inner_number

  pub inner_round : IsCycle (crossed_rows rows order i j) inner
  inner_round =
      let l = low in
      let h = high in
      goes_round rows net labels order of i j pair (j - i) inner_number (omega arith)
      (λ k less. omega arith) (λ k m less more same. omega arith) inner_edge

  -- the other nodes
  abbrev pub outer_number : ℕ → ℕ
  outer_number k = if nat_le k i then k else k + (j - i)

  outer_low : (k : ℕ) → k ≤ i → outer_number k ≡ k
  outer_low k less = ap (λ (b : Bool). if b then k else k + (j - i)) (le-leb k i less)

  outer_high : (k : ℕ) → i < k → outer_number k ≡ k + (j - i)
  outer_high k more = ap (λ (b : Bool). if b then k else k + (j - i)) (lt-leb k i more)

  order_cases : (k : ℕ) → (k ≤ i) ⊎ (i < k)
  order_cases k = elim (cases_order k i) [
    | inl e ↦ inl (omega arith)
    | inr apart ↦ elim apart [ inl less ↦ inl (omega arith) | inr more ↦ inr more ]
  ]

  outer_below : (k : ℕ) → k < n - (j - i) → outer_number k < n
  outer_below k less = elim (order_cases k) [
    | inl few ↦ let e = outer_low k few in let l = low in let h = high in omega arith
    | inr more ↦ let e = outer_high k more in let l = low in let h = high in omega arith
  ]

  outer_one : (k m : ℕ) → k < m → m < n - (j - i) → outer_number k ≢ outer_number m
  outer_one k m less within same = elim (order_cases k) [
    | inl few ↦ let e = outer_low k few in elim (order_cases m) [
      | inl less' ↦ let f = outer_low m less' in omega arith
      | inr more ↦ let f = outer_high m more in omega arith
    ]
    | inr more ↦ let e = outer_high k more in let f = outer_high m (omega arith) in omega arith
  ]

  abbrev Leads : ℕ → ℕ → Type 0
  Leads a b = Contains (beside (crossed_rows rows order i j) (tail_of order a)) (tail_of order b)

  moved : (a b c d : ℕ) → a ≡ c → b ≡ d → Leads a b → Leads c d
  moved a b c d e f leads =
      subst (λ (a : ℕ). Leads a d) e (subst (Leads a) f leads)

  old : (a : ℕ) → a < n → a ≢ i → a ≢ j → (b : ℕ) → head_of order a ≡ tail_of order b → Leads a b
  old a inside not_i not_j b same =
      subst (Contains (beside (crossed_rows rows order i j) (tail_of order a))) same
      (old_edge rows net labels order of i j pair a inside not_i not_j)

  new : (b : ℕ) → head_of order j ≡ tail_of order b → Leads i b
  new b same = subst (Contains (beside (crossed_rows rows order i j) (tail_of order i))) same
      (first_edge rows net labels order of i j pair)

  outer_edge : (k : ℕ) → k < n - (j - i) → Contains (beside (crossed_rows rows order i j)
      (tail_of order (outer_number k))) (tail_of order (outer_number (next_number (n - (j - i)) k)))
  outer_edge k less =
      by (order_cases k) (cases_eq k i) (next_cases (n - (j - i)) k less)
    where
      by : ((k ≤ i) ⊎ (i < k)) → ((k ≡ i) ⊎ (k ≢ i))
          → ((k + 1 ≡ n - (j - i)) × (next_number (n - (j - i)) k ≡ 0))
          ⊎ ((k + 1 < n - (j - i)) × (next_number (n - (j - i)) k ≡ k + 1))
          → Leads (outer_number k) (outer_number (next_number (n - (j - i)) k))
      by (inl few) (inl e) (inl last) =
          let l = low in let h = high in let f = far in
          let end = last.0 in
          moved i 0 (outer_number k) (outer_number (next_number (n - (j - i)) k))
          (sym e ∙ sym (outer_low k few))
          (sym (outer_low 0 (omega arith)) ∙ ap outer_number (sym last.1))
          (new 0 (head_last j (omega arith)))
      by (inl few) (inl e) (inr on) =
          let l = low in let h = high in
          let b = on.0 in
          let up = outer_high (k + 1) (omega arith) in
          let there : j + 1 ≡ outer_number (k + 1) = omega arith in
          moved i (j + 1) (outer_number k) (outer_number (next_number (n - (j - i)) k))
          (sym e ∙ sym (outer_low k few))
          (there ∙ ap outer_number (sym on.1))
          (new (j + 1) (head_next j (omega arith)))
      by (inl few) (inr apart) (inl last) =
          let l = low in let h = high in
          let end = last.0 in
          absurd (apart (omega arith))
      by (inl few) (inr apart) (inr on) =
          let l = low in let h = high in
          let b = on.0 in
          let less : k + 1 ≤ i = elim (cases_order k i) [
            | inl e ↦ absurd (apart e)
            | inr or ↦ elim or [ inl less ↦ omega arith | inr more ↦ absurd (omega arith) ]
          ] in
          moved k (k + 1) (outer_number k) (outer_number (next_number (n - (j - i)) k))
          (sym (outer_low k few))
          (sym (outer_low (k + 1) less) ∙ ap outer_number (sym on.1))
          (old k (omega arith) apart (λ e. omega arith) (k + 1) (head_next k (omega arith)))
      by (inr more) either (inl last) =
          let l = low in let h = high in
          let end = last.0 in
          moved (k + (j - i)) 0 (outer_number k) (outer_number (next_number (n - (j - i)) k))
          (sym (outer_high k more))
          (sym (outer_low 0 (omega arith)) ∙ ap outer_number (sym last.1))
          (old (k + (j - i)) (omega arith) (λ e. omega arith) (λ e. omega arith) 0
          (head_last (k + (j - i)) (omega arith)))
      by (inr more) either (inr on) =
          let l = low in let h = high in
          let b = on.0 in
          let step : k + (j - i) + 1 ≡ k + 1 + (j - i) = omega arith in
          moved (k + (j - i)) (k + 1 + (j - i)) (outer_number k)
          (outer_number (next_number (n - (j - i)) k))
          (sym (outer_high k more))
          (sym (outer_high (k + 1) (omega arith)) ∙ ap outer_number (sym on.1))
          (old (k + (j - i)) (omega arith) (λ e. omega arith) (λ e. omega arith) (k + 1 + (j - i))
          (head_next (k + (j - i)) (omega arith) ∙ ap (tail_of order) step))

  abbrev pub outer : List ℕ
  outer = nodes_of rows net labels order of i j pair (n - (j - i)) outer_number

  pub outer_round : IsCycle (crossed_rows rows order i j) outer
  outer_round =
      let l = low in
      let h = high in
      let f = far in
      goes_round rows net labels order of i j pair (n - (j - i)) outer_number (omega arith)
      outer_below outer_one outer_edge

  -- each node goes with the one or the other
  node_in : (m : ℕ) (number : ℕ → ℕ) (k : ℕ) → k < m
      → Contains (nodes_of rows net labels order of i j pair m number) (tail_of order (number k))
  node_in m number k less = (
    k,
    (let many = length-nodes rows net labels order of i j pair m number in omega arith),
    node_at rows net labels order of i j pair m number k (tail_of order (number k)) less,
  )

  pub either : (x : ℕ) → x < length (crossed_rows rows order i j) → Contains outer x ⊎ Contains inner x
  either x within =
      let l = low in
      let h = high in
      let same = made_long rows net labels order of i j pair in
      let all = of.round.all in
      let in' : Contains order x = has_all order of.round.distinct
      (λ k d inside. let w = of.round.within k d inside in omega arith) x (omega arith) in
      let (a, inside, at) : (a : ℕ) × (a < n) × (tail_of order a ≡ x) = number_of order x in' in
      elim (order_cases a) [
        | inl few ↦ inl (subst (Contains outer) (ap (tail_of order) (outer_low a few) ∙ at)
            (node_in (n - (j - i)) outer_number a (omega arith)))
        | inr more ↦ elim (cases_order j a) [
          | inl e ↦
              let number : i + 1 + (a - (i + 1)) ≡ a = omega arith in
              inr (subst (Contains inner) (ap (tail_of order) number ∙ at)
              (node_in (j - i) inner_number (a - (i + 1)) (omega arith)))
          | inr apart ↦ elim apart [
            | inl behind ↦
                let number : a - (j - i) + (j - i) ≡ a = omega arith in
                inl (subst (Contains outer)
                (ap (tail_of order) (outer_high (a - (j - i)) (omega arith) ∙ number) ∙ at)
                (node_in (n - (j - i)) outer_number (a - (j - i)) (omega arith)))
            | inr before ↦
                let number : i + 1 + (a - (i + 1)) ≡ a = omega arith in
                inr (subst (Contains inner) (ap (tail_of order) number ∙ at)
                (node_in (j - i) inner_number (a - (i + 1)) (omega arith)))
          ]
        ]
      ]

  pub not_both : (x : ℕ) → Contains outer x → Contains inner x → ⊥
  not_both x in_outer in_inner =
      let l = low in
      let h = high in
      let (k, k_in, k_at) : (k : ℕ) × (k < length outer) × (tail_of outer k ≡ x) =
      number_of outer x in_outer in
      let (m, m_in, m_at) : (m : ℕ) × (m < length inner) × (tail_of inner m ≡ x) =
      number_of inner x in_inner in
      let many = length-nodes rows net labels order of i j pair (n - (j - i)) outer_number in
      let few = length-nodes rows net labels order of i j pair (j - i) inner_number in
      let k_less : k < n - (j - i) = omega arith in
      let m_less : m < j - i = omega arith in
      places_differ order of.round.distinct (outer_number k) (inner_number m)
      (outer_below k k_less) (omega arith)
      (λ same. elim (order_cases k) [
        | inl low' ↦ let e = outer_low k low' in omega arith
        | inr high' ↦ let e = outer_high k high' in omega arith
      ])
      (sym (node_at rows net labels order of i j pair (n - (j - i)) outer_number k 0 k_less)
      ∙ k_at ∙ sym m_at
      ∙ node_at rows net labels order of i j pair (j - i) inner_number m 0 m_less)

  -- the first node of the order is not between the edges
  pub first_in_outer : Contains outer 0
  first_in_outer =
      let l = low in
      let h = high in
      let f = far in
      subst (Contains outer) (ap (tail_of order) (outer_low 0 (omega arith)) ∙ of.round.first)
      (node_in (n - (j - i)) outer_number 0 (omega arith))

  pub outer_many : length outer ≡ length rows - (j - i)
  outer_many = length-nodes rows net labels order of i j pair (n - (j - i)) outer_number
      ∙ ap (λ (count : ℕ). count - (j - i)) of.round.all

  pub inner_many : length inner ≡ j - i
  inner_many = length-nodes rows net labels order of i j pair (j - i) inner_number
