-- Numbers that are given to one component after another.
use Rattle.std.proofs.Common.{◌≡◌, ◌∙◌, ℕ, ◌+◌, ◌<◌, ◌≤◌, ◌⊎◌, inl, inr, List, length, replicate, Option, None, sym, subst, arith}
use Rattle.std.proofs.lemmas.Bool.{cases_lt}
use Rattle.std.proofs.lemmas.List.{length-replicate}
use Rattle.std.proofs.lemmas.Option.{same_Some}
use Rattle.pls_configuration.specs.declared.row.NodeRow.{NodeRow}
use Rattle.pls_graph.proofs.Finds.{None-replicate}
use Rattle.pls_components.specs.Components.{AreJoinedAt}
use Rattle.pls_components.specs.inner.Numbers.{AreNumbered, Fills, HasNumber}
use Rattle.pls_components.proofs.Apart.{joined_through, joined_turned}

-- a number below one more is below, or the one
below_or : (k n : ℕ) → k < n + 1 → (k < n) ⊎ (k ≡ n)
below_or k n less = elim (cases_lt k n) [ inl below ↦ inl below | inr not_below ↦ inr (omega arith) ]

module _ (rows : List NodeRow) where
  -- no place has a number
  pub numbered-first : AreNumbered rows (replicate (length rows) None) 0 0
  numbered-first = record {
    size = length-replicate {A = Option ℕ} (length rows) None;
    few = omega arith;
    all = λ place none. absurd (omega arith);
    below = λ place known has. absurd (None-replicate (length rows) place known has);
    each = λ known none. absurd (omega arith);
    walks = λ i j known has other. absurd (None-replicate (length rows) i known has);
    closed = λ place known other has in'. absurd (None-replicate (length rows) place known has);
    earlier = λ place known smaller has less. absurd (None-replicate (length rows) place known has);
  }

  module _ (root count : ℕ) where
    -- the place has a number already
    pub numbered-past : (numbers : List (Option ℕ)) → (has : (known : ℕ) × HasNumber numbers root known)
        → AreNumbered rows numbers root count → AreNumbered rows numbers (root + 1) count
    numbered-past numbers has so_far = record {
      size = so_far.size;
      few = let few = so_far.few in omega arith;
      all = λ place less. elim (below_or place root less) [
        | inl before ↦ so_far.all place before
        | inr same ↦ (has.0, subst (λ (place : ℕ). HasNumber numbers place has.0) (sym same) has.1)
      ];
      below = so_far.below;
      each = λ known less. let holder = so_far.each known less in
          (holder.0, (let first = holder.1 in omega arith), holder.2);
      walks = so_far.walks;
      closed = so_far.closed;
      earlier = so_far.earlier;
    }

    -- its component was numbered
    pub numbered-more : (old new : List (Option ℕ)) → AreNumbered rows old root count
        → Fills rows old new root count → AreNumbered rows new (root + 1) (count + 1)
    numbered-more old new so_far fills = record {
      size = fills.size ∙ so_far.size;
      few = let few = so_far.few in omega arith;
      all = λ place less. elim (below_or place root less) [
        | inl before ↦ let has = so_far.all place before in
            (has.0, fills.keeps place has.0 has.1)
        | inr same ↦ (count, subst (λ (place : ℕ). HasNumber new place count) (sym same) fills.start)
      ];
      below = λ place known has. elim (fills.fresh place known has) [
        | inl was ↦ let below = so_far.below place known was in omega arith
        | inr new ↦ let same = new.0 in omega arith
      ];
      each = λ known less. elim (below_or known count less) [
        | inl before ↦ let holder = so_far.each known before in
            (holder.0, (let first = holder.1 in omega arith), fills.keeps holder.0 known holder.2)
        | inr same ↦ (
          root,
          omega arith,
          subst (HasNumber new root) (sym same) fills.start,
        )
      ];
      walks = λ i j known one other.
          joined i j known (fills.fresh i known one) (fills.fresh j known other);
      closed = fills.closed;
      earlier = λ place known smaller has less. elim (fills.fresh place known has) [
        | inl was ↦ let before = so_far.earlier place known smaller was less in
            (before.0, before.1, fills.keeps before.0 smaller before.2)
        | inr new ↦
            let is_new = new.0 in
            let holder = so_far.each smaller (omega arith) in
            let behind = behind_root place known has new.0 in
            (holder.0, (let first = holder.1 in omega arith), fills.keeps holder.0 smaller holder.2)
      ];
    }
      where
        joined : (i j known : ℕ)
            → HasNumber old i known ⊎ ((known ≡ count) × AreJoinedAt rows root i)
            → HasNumber old j known ⊎ ((known ≡ count) × AreJoinedAt rows root j) → AreJoinedAt rows i j
        joined i j known (inl one) (inl other) = so_far.walks i j known one other
        joined i j known (inl one) (inr other) =
            let below = so_far.below i known one in let same = other.0 in absurd (omega arith)
        joined i j known (inr one) (inl other) =
            let below = so_far.below j known other in let same = one.0 in absurd (omega arith)
        joined i j known (inr one) (inr other) =
            joined_through rows i root j (joined_turned rows root i one.1) other.1

        -- a place with the new number does not stand before the root
        behind_root : (place known : ℕ) → HasNumber new place known → known ≡ count → root ≤ place
        behind_root place known has is_new = elim (cases_lt place root) [
          | inr behind ↦ behind
          | inl before ↦
              let was : (other : ℕ) × HasNumber old place other = so_far.all place before in
              let below = so_far.below place was.0 was.1 in
              let same : was.0 ≡ known = same_Some was.0 known
              (sym (fills.keeps place was.0 was.1) ∙ has) in
              absurd (omega arith)
        ]
