-- A list of nodes that goes round is a component, and by itself a ring.
use Rattle.std.proofs.Common.{◌≡◌, ℕ, zero, suc, ◌+◌, ◌<◌, inl, inr, true, ◌==◌, List, filter, length, get_or, All, Contains, refl, sym, ap, subst, arith}
use Rattle.std.specs.List.{list_any, range_with_len}
use Rattle.std.proofs.lemmas.Bool.{eq-eqb, eqb-true}
use Rattle.std.proofs.lemmas.List.FromFn.{get_or-range_with_len, length-range_with_len}
use Rattle.std.proofs.lemmas.List.Kept.{AllPairs-filter}
use Rattle.pls_configuration.specs.declared.row.NodeRow.{NodeRow}
use Rattle.pls_configuration.specs.Configuration.{IsNetwork}
use Rattle.pls_configuration.specs.Rising.{IsRising}
use Rattle.pls_graph.specs.Places.{beside}
use Rattle.pls_graph.proofs.Members.{Contains-filter, Contains-from_filter}
use Rattle.pls_facts.specs.SpanningTree.{AreDistinct}
use Rattle.pls_facts.proofs.Fewer.{length-part}
use Rattle.pls_facts.proofs.Lists.{any_passes, passes_any}
use Rattle.pls_components.specs.Components.{AreJoinedAt, IsComponent, items_at}
use Rattle.pls_components.proofs.Apart.{joined_beside, joined_itself, joined_through}
use Rattle.pls_components.proofs.Items.{All-items}
use Rattle.pls_components.proofs.Part.{part_connected}
use Rattle.pls_splice.specs.Ring.{IsRing, head_of, next_number, tail_of}
use Rattle.pls_splice.proofs.Turning.{IsCycle, along_places, closed, next_cases, number_of, tail_in}

-- the numbers below one that a list has, rising
abbrev pub sorted : ℕ → List ℕ → List ℕ
sorted count numbers = filter (λ x. list_any (λ y. x == y) numbers) (range_with_len 0 count)

pub range_at : (count k d : ℕ) → k < count → get_or (range_with_len 0 count) k d ≡ k
range_at count k d less =
    let e : get_or (range_with_len 0 count) k d ≡ 0 + k = get_or-range_with_len 0 count k d less in
    omega arith

pub in_range : (count x : ℕ) → x < count → Contains (range_with_len 0 count) x
in_range count x less =
    (x, (let many = length-range_with_len 0 count in omega arith), range_at count x x less)

pub from_range : (count x : ℕ) → Contains (range_with_len 0 count) x → x < count
from_range count x in' =
    let many = length-range_with_len 0 count in
    let inside = in'.1 in
    let less : in'.0 < count = omega arith in
    let same = range_at count in'.0 x less in
    let is = in'.2 in
    omega arith

module _ (count : ℕ) (numbers : List ℕ) (within : All (λ (x : ℕ). x < count) numbers) where
  pub sorted_rise : IsRising (sorted count numbers)
  sorted_rise = AllPairs-filter (λ (one later : ℕ). one < later)
      (λ x. list_any (λ y. x == y) numbers) (range_with_len 0 count)
      (λ i j d less inside.
      let many = length-range_with_len 0 count in
      let one = range_at count i d (omega arith) in
      let other = range_at count j d (omega arith) in
      omega arith)

  pub in_sorted : (x : ℕ) → Contains numbers x → Contains (sorted count numbers) x
  in_sorted x in' = Contains-filter (λ x. list_any (λ y. x == y) numbers) (range_with_len 0 count) x
      (in_range count x
      (subst (λ (y : ℕ). y < count) in'.2 (within in'.0 x in'.1)))
      (any_passes (λ y. x == y) numbers x in' (eq-eqb x x refl))

  pub from_sorted : (x : ℕ) → Contains (sorted count numbers) x → Contains numbers x
  from_sorted x in' =
      let found : (y : ℕ) × Contains numbers y × ((x == y) ≡ true) =
      passes_any (λ y. x == y) numbers
      (Contains-from_filter (λ x. list_any (λ y. x == y) numbers) (range_with_len 0 count) x in').1 in
      subst (Contains numbers) (sym (eqb-true x found.0 found.2)) found.1

  pub length-sorted : AreDistinct numbers → length (sorted count numbers) ≡ length numbers
  length-sorted distinct =
      let few = length-part (sorted count numbers) numbers
      (λ i j d less inside same. let rise = sorted_rise i j d less inside in omega arith) from_sorted in
      let many = length-part numbers (sorted count numbers) distinct in_sorted in
      omega arith

module _ (rows : List NodeRow) (net : IsNetwork rows)
    (two : All (λ (row : NodeRow). length row.ports ≡ 2) rows) (cycle : List ℕ)
    (is : IsCycle rows cycle) where
  abbrev pub places : List ℕ
  places = sorted (length rows) cycle

  first : 0 < length cycle
  first = let long = is.long in omega arith

  start : tail_of cycle 0 < length rows
  start = is.within 0 0 first

  -- walks along the list join its nodes
  joined_along : (k : ℕ) → k < length cycle → AreJoinedAt rows (tail_of cycle 0) (tail_of cycle k)
  joined_along zero less = joined_itself rows (tail_of cycle 0) start
  joined_along (suc k) less =
      let next : head_of cycle k ≡ tail_of cycle (suc k) =
      elim (next_cases (length cycle) k (omega arith)) [
        | inl last ↦ let e = last.0 in absurd (omega arith)
        | inr on ↦
            let f = on.1 in
            let same : next_number (length cycle) k ≡ suc k = omega arith in ap (tail_of cycle) same
      ] in
      joined_through rows (tail_of cycle 0) (tail_of cycle k) (tail_of cycle (suc k))
      (joined_along k (omega arith))
      (joined_beside rows net (tail_of cycle k) (tail_of cycle (suc k)) (is.within k 0 (omega arith))
      (subst (Contains (beside rows (tail_of cycle k))) next (is.edges k (omega arith))))

  pub component : IsComponent rows places
  component = record {
    rising = sorted_rise (length rows) cycle is.within;
    node = tail_of cycle 0;
    own = in_sorted (length rows) cycle is.within (tail_of cycle 0) (tail_in cycle 0 first);
    members = λ place. (
      (λ in'.
          let (k, inside, at) : (k : ℕ) × (k < length cycle) × (tail_of cycle k ≡ place) =
          number_of cycle place (from_sorted (length rows) cycle is.within place in') in
          subst (AreJoinedAt rows (tail_of cycle 0)) at (joined_along k inside)),
      (λ joined. in_sorted (length rows) cycle is.within place
          (along_places rows net (Contains cycle)
          (λ i j inside in' step. closed rows net two cycle is i j in' step)
          (tail_of cycle 0) place joined (tail_in cycle 0 first))),
    );
  }

  pub ring_alone : IsRing (items_at rows places)
  ring_alone = record {
    connected = part_connected rows net places component;
    two = All-items rows (λ (row : NodeRow). length row.ports ≡ 2) two places;
  }

  pub size : length places ≡ length cycle
  size = length-sorted (length rows) cycle is.within is.distinct
