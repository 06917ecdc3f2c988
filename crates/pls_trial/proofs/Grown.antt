-- What stands in the rows after the links of a tree and others were put between nodes without
-- ports: each port is that of a link, and the first port of each node of the tree is that of its
-- link.
use Rattle.std.proofs.Common.{◌≡◌, ◌≢◌, ◌∙◌, ℕ, zero, suc, ◌+◌, ◌-◌, ◌<◌, inl, inr, Bool, true, false, cond, ◌==◌, is_some, List, [], ◌∷◌, ◌++◌, map, fold, Contains, Option, Some, None, option_and_then, refl, sym, ap, subst, arith, slice_get}
use Rattle.std.specs.List.{range_with_len}
use Rattle.std.proofs.lemmas.Bool.{eqb-false, eqb-true, ne_eqb}
use Rattle.std.proofs.lemmas.List.Elements.{Contains-append_cases}
use Rattle.std.proofs.lemmas.List.FromFn.{map-range_with_len_more}
use Rattle.std.proofs.lemmas.List.Sums.{fold-append, fold_push}
use Rattle.pls_configuration.specs.declared.row.Port.{Port}
use Rattle.pls_configuration.specs.declared.row.State.{State}
use Rattle.pls_configuration.specs.declared.row.NodeRow.{NodeRow}
use Rattle.pls_configuration.specs.Configuration.{port_to, row_of}
use Rattle.pls_graph_edits.specs.Edits.{are_linked, changed, linked, linking}
use Rattle.pls_graph.proofs.Finds.{found_place}
use Rattle.pls_graph.proofs.Members.{Contains-cons_cases, Contains-from_map, Contains-from_place}
use Rattle.pls_trial.specs.Generator.{Link, nodes_alone, with_link}
use Rattle.pls_trial.proofs.Alone.{Each-nodes_alone}
use Rattle.pls_trial.proofs.Linking.{Each, Each-fold, Each-map, Each-with_link, HasEnds, IsKept, changed-by}
use Rattle.pls_trial.proofs.Numbered.{range-within}

-- the port of a link at its first end
abbrev pub port_of : Link → Port
port_of link = record { nbr = link.b; weight = link.weight }

-- some link of the list has these ends and the port's weight
pub record IsLinked (links : List Link) (id : ℕ) (port : Port) : Type 0 where
  pub link : Link
  pub among : Contains links link
  pub ends : HasEnds link id port.nbr
  pub weight : link.weight ≡ port.weight

-- each port of the row is that of a link
abbrev pub OfLinks : List Link → NodeRow → Type 0
OfLinks links row = (port : Port) → Contains row.ports port → IsLinked links row.id port

-- the first port of the node
abbrev pub BeginsWith : ℕ → Port → NodeRow → Type 0
BeginsWith id port row = row.id ≡ id → slice_get row.ports 0 ≡ Some port

-- the node has no ports
abbrev pub IsBare : ℕ → NodeRow → Type 0
IsBare id row = row.id ≡ id → row.ports ≡ []

-- a list that is begun goes on
first_stays : {X : Type 0} (xs ys : List X) (x : X) → slice_get xs 0 ≡ Some x
    → slice_get (xs ++ ys) 0 ≡ Some x
first_stays [] ys x at = absurd (cc)
first_stays (z ∷ xs) ys x at = at

-- each port of each row is that of a link
pub ports_of_links : (nodes : ℕ) (links : List Link)
    → Each (OfLinks links) (fold with_link (nodes_alone nodes) links)
ports_of_links nodes links =
    Each-fold (OfLinks links) links kept (nodes_alone nodes)
    (Each-nodes_alone (OfLinks links) nodes (λ id port in'. absurd (omega (arith, in'.1))))
  where
    kept : (link : Link) → Contains links link → IsKept (OfLinks links) link
    kept link among row nbr ends old port in' =
        let new : Port = record { nbr = nbr; weight = link.weight } in
        elim (Contains-append_cases row.ports (new ∷ []) port in') [
          | inl before ↦ old port before
          | inr last ↦ elim (Contains-cons_cases new [] port last) [
            | inl same ↦ subst (IsLinked links row.id) same
                (record { link = link; among = among; ends = ends; weight = refl })
            | inr none ↦ absurd (omega (arith, none.1))
          ]
        ]

-- links leave the states of nodes
pub states_kept : (state : State) (links : List Link) (rows : List NodeRow)
    → Each (λ row. row.state ≡ state) rows
    → Each (λ row. row.state ≡ state) (fold with_link rows links)
states_kept state links rows each =
    Each-fold (λ row. row.state ≡ state) links (λ link in' row nbr ends old. old) rows each

-- a node keeps its first port
pub begun_kept : (id : ℕ) (port : Port) (link : Link) → IsKept (BeginsWith id port) link
begun_kept id port link row nbr ends old same =
    first_stays row.ports (record { nbr = nbr; weight = link.weight } ∷ []) port (old same)

-- a link elsewhere leaves a node without ports
bare_kept : (id : ℕ) (link : Link) → link.a ≢ id → link.b ≢ id → IsKept (IsBare id) link
bare_kept id link not_a not_b row nbr ends old same = elim ends [
  | inl e ↦ absurd (not_a (e.0 ∙ same))
  | inr e ↦ absurd (not_b (e.0 ∙ same))
]

-- a node without ports is linked to none
not_linked : (rows : List NodeRow) (id other : ℕ) → Each (IsBare id) rows
    → are_linked rows id other ≡ false
not_linked rows id other bare = by (row_of rows id) refl
  where
    by : (found : Option NodeRow) → row_of rows id ≡ found
        → is_some (option_and_then (λ row. port_to row other) found) ≡ false
    by None none = refl
    by (Some row) found =
        let (i, at, test) : (i : ℕ) × (slice_get rows i ≡ Some row) × ((id == row.id) ≡ true) =
        found_place (λ (row : NodeRow). id == row.id) rows row found in
        let ports : row.ports ≡ [] =
        bare row (Contains-from_place rows i row at) (sym (eqb-true id row.id test)) in
        rw ports refl

-- the first link of a node gives its first port
pub begins : (rows : List NodeRow) (link : Link) → link.a ≢ link.b → Each (IsBare link.a) rows
    → Each (BeginsWith link.a (port_of link)) (with_link rows link)
begins rows link apart bare =
    let differ : (link.a == link.b) ≡ false = ne_eqb link.a link.b apart in
    let free : are_linked rows link.a link.b ≡ false = not_linked rows link.a link.b bare in
    rw (differ, free) both
  where
    P : NodeRow → Type 0
    P = BeginsWith link.a (port_of link)

    first : NodeRow → NodeRow
    first = changed link.a (linking link.weight link.b)

    one : (row : NodeRow) → IsBare link.a row → P (first row)
    one row none = by (link.a == row.id) refl
      where
        by : (b : Bool) → (link.a == row.id) ≡ b → P (cond b (linking link.weight link.b row) row)
        by true same now = let ports : row.ports ≡ [] = none now in rw ports refl
        by false other now = absurd (eqb-false link.a row.id other (sym now))

    both : Each P (linked rows link.a link.b link.weight)
    both = Each-map P (changed link.b (linking link.weight link.a)) (map first rows)
        (λ row in'.
        let here : P row = Each-map P first rows (λ old old_in. one old (bare old old_in)) row in' in
        changed-by P link.b (linking link.weight link.a) row
        (λ same. begun_kept link.a (port_of link) link row link.a (inr (same, refl)) here) here)

module _ (tree : ℕ → Link) (others : List Link)
    (named : (i : ℕ) → (tree i).a ≡ i + 2)
    (earlier : (i : ℕ) → (tree i).b < i + 2) where
  -- the links of the first nodes of the tree
  abbrev tree_to : ℕ → List Link
  tree_to count = map tree (range_with_len 0 count)

  abbrev rows_at : ℕ → ℕ → List NodeRow
  rows_at nodes count = fold with_link (nodes_alone nodes) (tree_to count)

  -- before its link was put, a node of the tree has no port
  bare_before : (nodes i : ℕ) → Each (IsBare (i + 2)) (rows_at nodes i)
  bare_before nodes i = Each-fold (IsBare (i + 2)) (tree_to i) kept (nodes_alone nodes)
      (Each-nodes_alone (IsBare (i + 2)) nodes (λ id same. refl))
    where
      kept : (link : Link) → Contains (tree_to i) link → IsKept (IsBare (i + 2)) link
      kept link among =
          let (j, j_in, is) : (j : ℕ) × Contains (range_with_len 0 i) j × (tree j ≡ link) =
          Contains-from_map tree (range_with_len 0 i) link among in
          let below = (range-within 0 i j j_in).1 in
          let a = named j in
          let b = earlier j in
          bare_kept (i + 2) link
          (λ e. let same = ap (λ (link : Link). link.a) is in omega arith)
          (λ e. let same = ap (λ (link : Link). link.b) is in omega arith)

  -- the next link of the tree is put
  rows_next : (nodes i : ℕ) → rows_at nodes (i + 1) ≡ with_link (rows_at nodes i) (tree i)
  rows_next nodes i = ap (fold with_link (nodes_alone nodes))
      (map-range_with_len_more tree 0 i i (omega arith))
      ∙ fold_push with_link (nodes_alone nodes) (tree_to i) (tree i)

  -- after it a node of the tree has the port of its link first
  begun_after : (nodes i more : ℕ)
      → Each (BeginsWith (i + 2) (port_of (tree i))) (rows_at nodes (i + 1 + more))
  begun_after nodes i zero =
      let count : i + 1 ≡ i + 1 + 0 = omega arith in
      let apart : (tree i).a ≢ (tree i).b =
      λ e. let a = named i in let b = earlier i in omega arith in
      subst (λ (count : ℕ). Each (BeginsWith (i + 2) (port_of (tree i))) (rows_at nodes count)) count
      (subst (Each (BeginsWith (i + 2) (port_of (tree i)))) (sym (rows_next nodes i))
      (subst (λ (id : ℕ). Each (BeginsWith id (port_of (tree i))) (with_link (rows_at nodes i) (tree i)))
      (named i)
      (begins (rows_at nodes i) (tree i) apart
      (subst (λ (id : ℕ). Each (IsBare id) (rows_at nodes i)) (sym (named i)) (bare_before nodes i)))))
  begun_after nodes i (suc more) =
      let count : i + 1 + more + 1 ≡ i + 1 + suc more = omega arith in
      subst (λ (count : ℕ). Each (BeginsWith (i + 2) (port_of (tree i))) (rows_at nodes count)) count
      (subst (Each (BeginsWith (i + 2) (port_of (tree i)))) (sym (rows_next nodes (i + 1 + more)))
      (Each-with_link (BeginsWith (i + 2) (port_of (tree i))) (tree (i + 1 + more))
      (begun_kept (i + 2) (port_of (tree i)) (tree (i + 1 + more)))
      (rows_at nodes (i + 1 + more)) (begun_after nodes i more)))

  -- and also after the others
  pub begun : (nodes count i : ℕ) → i < count
      → Each (BeginsWith (i + 2) (port_of (tree i)))
      (fold with_link (nodes_alone nodes) (tree_to count ++ others))
  begun nodes count i within =
      let all : i + 1 + (count - (i + 1)) ≡ count = omega arith in
      subst (Each (BeginsWith (i + 2) (port_of (tree i))))
      (sym (fold-append with_link (nodes_alone nodes) (tree_to count) others))
      (Each-fold (BeginsWith (i + 2) (port_of (tree i))) others
      (λ link in'. begun_kept (i + 2) (port_of (tree i)) link) (rows_at nodes count)
      (subst (λ (count : ℕ). Each (BeginsWith (i + 2) (port_of (tree i))) (rows_at nodes count)) all
      (begun_after nodes i (count - (i + 1)))))
