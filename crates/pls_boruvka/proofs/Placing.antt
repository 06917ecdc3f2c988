-- Joined parents by places are joined pointers by identities.
use Rattle.std.proofs.Common.{◌≡◌, ◌∙◌, ℕ, ◌+◌, ◌<◌, Bool, true, false, if◌then◌else◌, List, [], ◌∷◌, length, get_or, Contains, Option, Some, None, refl, sym, ap, subst, arith, slice_get}
use Rattle.std.specs.Option.{option_map_or}
use Rattle.std.proofs.lemmas.Bool.{cond-false, cond-true}
use Rattle.std.proofs.lemmas.Option.{same_Some, slice_get_within}
use Rattle.pls_configuration.specs.declared.row.NodeRow.{NodeRow}
use Rattle.pls_configuration.specs.Configuration.{IsNetwork}
use Rattle.pls_graph.proofs.Finds.{item_at}
use Rattle.pls_graph.proofs.Members.{Contains-from_place}
use Rattle.pls_configuration.specs.WalkBy.{WalkBy}
use Rattle.pls_facts.specs.Pointer.{Falls, pointed_node}
use Rattle.pls_facts.proofs.NamedPlaces.{place_named}
use Rattle.pls_search.specs.PointedPlace.{PointsTo}
use Rattle.pls_boruvka.specs.Fragments.{JoinedChainEnds, next_joined}
use Rattle.pls_boruvka.specs.inner.Tops.{AreParents, HasDepths, IsParentPlace, IsTop, parent_at, joined_parent}
use Rattle.pls_boruvka.proofs.Climbing.{up-parent}
use Rattle.pls_boruvka.proofs.Listed.{Each-at}

-- the identity at a place
abbrev pub id_at : List NodeRow → ℕ → ℕ
id_at rows place = option_map_or (λ row. row.id) (slice_get rows place) 0

pub id_at-row : (rows : List NodeRow) (place : ℕ) (row : NodeRow) → slice_get rows place ≡ Some row
    → id_at rows place ≡ row.id
id_at-row rows place row at =
    ap (λ (found : Option NodeRow). option_map_or (λ row. row.id) found 0) at

module _ (rows : List NodeRow) (net : IsNetwork rows) (parents : List (Option ℕ))
    (are : AreParents rows parents) where
  -- the parent of a place is what its node points at
  pub points_by : (place : ℕ) (row : NodeRow) → slice_get rows place ≡ Some row
      → PointsTo rows place (parent_at parents place)
  points_by place row at =
      (Each-at (IsParentPlace rows) parents place None are.parent
      (omega (arith, are.each, slice_get_within rows place row at))).points

  pub points_to_row : (place to : ℕ) (row : NodeRow) → slice_get rows place ≡ Some row
      → parent_at parents place ≡ Some to
      → (other : NodeRow) × (slice_get rows to ≡ Some other) × (pointed_node rows row.id ≡ Some other.id)
  points_to_row place to row at points =
      subst (PointsTo rows place) points (points_by place row at) row at

  pub points_nowhere : (place : ℕ) (row : NodeRow) → slice_get rows place ≡ Some row
      → parent_at parents place ≡ None → pointed_node rows row.id ≡ None
  points_nowhere place row at none = subst (PointsTo rows place) none (points_by place row at) row
      at

  -- depths of the nodes are depths of their places
  pub HasDepths-rows : (depth : ℕ → ℕ) → Falls rows depth
      → ((row : NodeRow) → Contains rows row → depth row.id < length rows) → HasDepths parents
  HasDepths-rows depth falls few = record {
    depth = λ place. depth (id_at rows place);
    falls = λ place to within points.
        let (row, at) : (row : NodeRow) × (slice_get rows place ≡ Some row) =
        item_at rows place (omega (arith, within, are.each)) in
        let (other, there, step) : (other : NodeRow) × (slice_get rows to ≡ Some other)
        × (pointed_node rows row.id ≡ Some other.id) = points_to_row place to row at points in (
          omega (arith, are.each, slice_get_within rows to other there),
          ap depth (id_at-row rows place row at) ∙ falls row.id other.id step
              ∙ sym (ap (λ (id : ℕ). depth id + 1) (id_at-row rows to other there)),
        );
    few = λ place within.
        let (row, at) : (row : NodeRow) × (slice_get rows place ≡ Some row) =
        item_at rows place (omega (arith, within, are.each)) in
        let same = ap depth (id_at-row rows place row at) in
        omega (arith, same, few row (Contains-from_place rows place row at), are.each);
  }

  module _ (joined : List Bool) where
    -- the joined pointer of a node, by the entry of its place
    joined_by : (place : ℕ) (row : NodeRow) → slice_get rows place ≡ Some row → (entry : Bool)
        → get_or joined place false ≡ entry
        → next_joined rows joined row.id ≡ (if entry then pointed_node rows row.id else None)
    joined_by place row at entry is =
        ap (λ (entry : Bool). if entry then pointed_node rows row.id else None)
        (ap (λ (place : ℕ). get_or joined place false) (place_named rows net place row at) ∙ is)

    pub up-none : (place : ℕ) (row : NodeRow) → slice_get rows place ≡ Some row
        → joined_parent parents joined place ≡ None → next_joined rows joined row.id ≡ None
    up-none place row at none = by (get_or joined place false) refl
      where
        by : (entry : Bool) → get_or joined place false ≡ entry
            → next_joined rows joined row.id ≡ None
        by false e = joined_by place row at false e
        by true e = joined_by place row at true e ∙ points_nowhere place row at
            (sym (cond-true (get_or joined place false) (parent_at parents place) None e) ∙ none)

    pub up-some : (place to : ℕ) (row : NodeRow) → slice_get rows place ≡ Some row
        → joined_parent parents joined place ≡ Some to
        → (other : NodeRow) × (slice_get rows to ≡ Some other)
        × (next_joined rows joined row.id ≡ Some other.id)
    up-some place to row at points = by (get_or joined place false) refl
      where
        by : (entry : Bool) → get_or joined place false ≡ entry
            → (other : NodeRow) × (slice_get rows to ≡ Some other)
            × (next_joined rows joined row.id ≡ Some other.id)
        by false e =
            let no : None ≡ Some to =
            sym (cond-false (get_or joined place false) (parent_at parents place) None e)
            ∙ points in absurd (cc)
        by true e =
            let (other, there, step) : (other : NodeRow) × (slice_get rows to ≡ Some other)
            × (pointed_node rows row.id ≡ Some other.id) =
            points_to_row place to row at (up-parent parents joined place to points) in
            (other, there, joined_by place row at true e ∙ step)

    -- the chain of a node ends at the identity of its place's top
    pub JoinedChainEnds-top : (place top : ℕ) (row last : NodeRow) → slice_get rows place ≡ Some row
        → slice_get rows top ≡ Some last → IsTop parents joined place top
        → JoinedChainEnds rows joined row.id last.id
    JoinedChainEnds-top place top row last at there is = record {
      nodes = (walk place row is.nodes at is.chain).0;
      chain = (walk place row is.nodes at is.chain).1;
      ends = up-none top last there is.ends;
    }
      where
        walk : (place : ℕ) (row : NodeRow) (nodes : List ℕ) → slice_get rows place ≡ Some row
            → WalkBy (λ one other. joined_parent parents joined one ≡ Some other) place nodes top
            → (ids : List ℕ)
            × WalkBy (λ one other. next_joined rows joined one ≡ Some other) row.id ids last.id
        walk place row [] at same = (
          [],
          ap (λ (row : NodeRow). row.id)
              (same_Some row last (sym at ∙ ap (slice_get rows) same ∙ there)),
        )
        walk place row (x ∷ nodes) at chain =
            let (other, stands, step) : (other : NodeRow) × (slice_get rows x ≡ Some other)
            × (next_joined rows joined row.id ≡ Some other.id) =
            up-some place x row at chain.0 in
            let (ids, rest) : (ids : List ℕ)
            × WalkBy (λ one other. next_joined rows joined one ≡ Some other) other.id ids
            last.id = walk x other nodes stands chain.1 in
            (other.id ∷ ids, (step, rest))
