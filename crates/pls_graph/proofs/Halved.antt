-- The place of an identity, as a binary search among nodes finds it.
use Rattle.std.proofs.Common.{◌≡◌, ◌∙◌, ℕ, ◌<◌, ◌≤◌, Bool, false, cond, true, ◌==◌, List, length, get_or, position, Some, None, Result, Ok, Err, refl, sym, ap, subst, arith, slice_get, inl, inr, nat_lt}
use Rattle.std.specs.List.{position_or_len}
use Rattle.std.specs.Result.{result_ok}
use Rattle.std.specs.declared.cmp.Ordering.TheVariants.{Less, Greater}
use Rattle.std.specs.Cmp.{ranks}
use Rattle.std.specs.Ordering.{ordering_index, MatchOrdering, nat_cmp}
use Rattle.std.specs.List.Sorted.{IsBinarySearchResult, IsSearchInRange}
use Rattle.std.proofs.lemmas.Bool.{ltb-true, cases_order, false≢true, ne_eqb}
use Rattle.std.proofs.lemmas.Option.{slice_get-get_or}
use Rattle.std.proofs.lemmas.List.Sums.{passes_at_first}
use borrow.Author.Tests.{tests}
use Rattle.pls_graph.specs.declared.table.Node.{Node}
use Rattle.pls_graph.specs.inner.Seeking.{AreRising}
use Rattle.pls_graph.proofs.Finds.{item_at}
use Rattle.pls_graph.proofs.Ordered.{placed_node}

pub higher : (a b x : ℕ) → a ≤ b → ordering_index (nat_cmp a x) ≤ ordering_index (nat_cmp b x)
higher a b x le = grind (arith, tests)

-- where no item passes, none is found
pub no_position : {X : Type 0} (p : X → Bool) (xs : List X)
    → ((i : ℕ) (d : X) → i < length xs → p (get_or xs i d) ≡ false) → position p xs ≡ None
no_position {X} p xs fails = by (nat_lt (position_or_len p xs) (length xs)) refl
  where
    by : (b : Bool) → nat_lt (position_or_len p xs) (length xs) ≡ b
        → cond b (Some (position_or_len p xs)) None ≡ None
    by true e =
        let within = ltb-true (position_or_len p xs) (length xs) e in
        let item : (x : X) × (slice_get xs (position_or_len p xs) ≡ Some x) =
        item_at xs (position_or_len p xs) within in
        absurd (false≢true (sym (fails (position_or_len p xs) item.0 within)
        ∙ passes_at_first p xs item.0 within))
    by false e = refl

module _ (nodes : List Node) (rising : AreRising nodes) (id : ℕ) where
  pub rise : (i j : ℕ) (d : Node) → i ≤ j → j < length nodes
      → (get_or nodes i d).id ≤ (get_or nodes j d).id
  rise i j d order within = elim (cases_order i j) [
    | inl same ↦ let e = ap (λ (i : ℕ). (get_or nodes i d).id) same in omega arith
    | inr apart ↦ elim apart [
      | inl before ↦ let up = rising i j (get_or nodes i d) (get_or nodes j d) before
          (slice_get-get_or nodes i d (omega arith)) (slice_get-get_or nodes j d within) in
          omega arith
      | inr after ↦ absurd (omega arith)
    ]
  ]

  pub halved : (r : Result ℕ ℕ) → IsSearchInRange r (length nodes)
      → IsBinarySearchResult (λ (node : Node). nat_cmp node.id id) nodes r
      → result_ok r ≡ position (λ node. id == node.id) nodes
  halved (Ok i) within found =
      let node : (node : Node) × (slice_get nodes i ≡ Some node) = item_at nodes i within in
      let d = node.0 in
      let same : (get_or nodes i d).id ≡ id =
      subst (λ o. MatchOrdering o ((get_or nodes i d).id < id) ((get_or nodes i d).id ≡ id)
      (id < (get_or nodes i d).id)) (found d) (ranks (get_or nodes i d).id id) in
      sym (placed_node nodes rising i id (get_or nodes i d) (slice_get-get_or nodes i d within) same)
  halved (Err i) within found =
      sym (no_position (λ (node : Node). id == node.id) nodes (λ k d inside.
      let parted = found (λ a b d le lt. higher (get_or nodes a d).id (get_or nodes b d).id id
      (rise a b d le lt)) in
      elim (cases_order k i) [
        | inl same ↦ greater k d (parted.1 k d (omega arith) inside)
        | inr apart ↦ elim apart [
          | inl before ↦ less k d (parted.0 k d (omega arith) before)
          | inr after ↦ greater k d (parted.1 k d (omega arith) inside)
        ]
      ]))
    where
      less : (k : ℕ) (d : Node) → nat_cmp (get_or nodes k d).id id ≡ Less
          → (id == (get_or nodes k d).id) ≡ false
      less k d is = let below : (get_or nodes k d).id < id =
          subst (λ o. MatchOrdering o ((get_or nodes k d).id < id) ((get_or nodes k d).id ≡ id)
          (id < (get_or nodes k d).id)) is (ranks (get_or nodes k d).id id) in
          ne_eqb _ _ (λ e. omega arith)

      greater : (k : ℕ) (d : Node) → nat_cmp (get_or nodes k d).id id ≡ Greater
          → (id == (get_or nodes k d).id) ≡ false
      greater k d is = let above : id < (get_or nodes k d).id =
          subst (λ o. MatchOrdering o ((get_or nodes k d).id < id) ((get_or nodes k d).id ≡ id)
          (id < (get_or nodes k d).id)) is (ranks (get_or nodes k d).id id) in
          ne_eqb _ _ (λ e. omega arith)
