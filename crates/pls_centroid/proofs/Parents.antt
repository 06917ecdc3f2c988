-- The parents by places are the pointers, and the weights those of their edges.
use Rattle.std.proofs.Common.{◌≡◌, ◌∙◌, ℕ, ◌<◌, ◌++◌, inl, inr, List, [], ◌∷◌, length, get_or, slice_get, IfSome, Contains, Option, Some, None, option_map, sym, ap, subst, arith, length-append}
use Rattle.std.specs.Option.{option_map_or}
use Rattle.std.proofs.lemmas.Bool.{cases_lt}
use Rattle.std.proofs.Math.Seq.{get_or-append_seam}
use Rattle.std.proofs.lemmas.List.{get_or_append_left}
use Rattle.std.proofs.lemmas.Option.{get_or_from_slice_get, option_and_then_some, same_Some, slice_get-get_or, slice_get_within}
use Rattle.pls_configuration.specs.declared.row.Port.{Port}
use Rattle.pls_configuration.specs.declared.row.NodeRow.{NodeRow}
use Rattle.pls_configuration.specs.Configuration.{IsNetwork}
use Rattle.pls_graph.proofs.Finds.{from_option_map, item_at}
use Rattle.pls_graph.proofs.Members.{Contains-from_place}
use Rattle.pls_facts.specs.Pointer.{pointed_node, pointed_port}
use Rattle.pls_facts.specs.Weight.{edge_weight}
use Rattle.pls_facts.proofs.Pointed.{pointed_node-row}
use Rattle.pls_facts.proofs.Weights.{port_weighs}
use Rattle.pls_search.specs.PointedPlace.{PointsTo}
use Rattle.pls_centroid.specs.inner.Cut.{id_at}
use Rattle.pls_centroid.specs.inner.Rooted.{ArePointed, AreWeightsUp, weight_up}
use Rattle.pls_centroid.proofs.Below.{id_at-row, one_place_of}

-- a port that is pointed at is one of the ports
pointed_has : (row : NodeRow) (port : Port) → pointed_port row ≡ Some port
    → Contains row.ports port
pointed_has row port pointed =
    option_and_then_some (slice_get row.ports) row.state.up port pointed
    (λ number up has. Contains-from_place row.ports number port has)

module _ (rows : List NodeRow) (net : IsNetwork rows) where
  -- what the node at a place points at, of all places
  pub pointed_all : (parents : List (Option ℕ)) → length parents ≡ length rows
      → ((place : ℕ) (found : Option ℕ) → slice_get parents place ≡ Some found
      → PointsTo rows place found × IfSome found (λ to. to < length rows))
      → ArePointed rows parents
  pointed_all parents each points = record {
    each = each;
    to = λ place parent up.
        let is : PointsTo rows place (Some parent) × (parent < length rows) =
        points place (Some parent) up in
        let (row, at) : (row : NodeRow) × (slice_get rows place ≡ Some row) =
        item_at rows place (omega (arith, slice_get_within parents place (Some parent) up, each)) in
        let (other, there, step) : (other : NodeRow) × (slice_get rows parent ≡ Some other)
        × (pointed_node rows row.id ≡ Some other.id) = is.0 row at in (
          is.1,
          ap (pointed_node rows) (id_at-row rows place row at) ∙ step
              ∙ ap Some (sym (id_at-row rows parent other there)),
        );
    from = λ place parent within inside points_there.
        let (found, stands) : (found : Option ℕ) × (slice_get parents place ≡ Some found) =
        item_at parents place (omega (arith, within, each)) in
        let (row, at) : (row : NodeRow) × (slice_get rows place ≡ Some row) =
        item_at rows place within in
        stands ∙ ap Some (by place parent inside row at
        (ap (pointed_node rows) (sym (id_at-row rows place row at)) ∙ points_there) found
        (points place found stands));
  }
    where
      by : (place parent : ℕ) → parent < length rows → (row : NodeRow)
          → slice_get rows place ≡ Some row → pointed_node rows row.id ≡ Some (id_at rows parent)
          → (found : Option ℕ) → PointsTo rows place found × IfSome found (λ to. to < length rows)
          → found ≡ Some parent
      by place parent inside row at goes None is =
          let no : None ≡ Some (id_at rows parent) = sym (is.0 row at) ∙ goes in absurd (cc)
      by place parent inside row at goes (Some to) is =
          let (other, there, step) : (other : NodeRow) × (slice_get rows to ≡ Some other)
          × (pointed_node rows row.id ≡ Some other.id) = is.0 row at in
          ap Some (one_place_of rows net to parent is.1 inside
          (id_at-row rows to other there
          ∙ same_Some other.id (id_at rows parent) (sym step ∙ goes)))

  -- the weights at the places are those of the edges to parents
  pub weights_all : (weights : List ℕ) → length weights ≡ length rows
      → ((place weight : ℕ) → slice_get weights place ≡ Some weight
      → (row : NodeRow) → slice_get rows place ≡ Some row → weight ≡ weight_up row)
      → (parents : List (Option ℕ)) → ArePointed rows parents → AreWeightsUp rows parents weights
  weights_all weights each are parents pointed = record {
    each = each;
    weight = λ place parent weight up stands.
        let step = pointed.to place parent up in
        let many = pointed.each in
        let (row, at) : (row : NodeRow) × (slice_get rows place ≡ Some row) =
        item_at rows place (omega (arith, slice_get_within parents place (Some parent) up, many)) in
        let in' : Contains rows row = Contains-from_place rows place row at in
        let goes : option_map (λ (port : Port). port.nbr) (pointed_port row)
        ≡ Some (id_at rows parent) =
        sym (pointed_node-row rows net row in') ∙ ap (pointed_node rows)
        (sym (id_at-row rows place row at)) ∙ step.1
        in
        let (port, points, named) : (port : Port) × (pointed_port row ≡ Some port)
        × (port.nbr ≡ id_at rows parent) =
        from_option_map (λ (port : Port). port.nbr) (pointed_port row) (id_at rows parent) goes in
        are place weight stands row at
        ∙ ap (λ (port : Option Port). option_map_or (λ (port : Port). port.weight) port 0) points
        ∙ sym (port_weighs rows net row port in' (pointed_has row port points))
        ∙ ap (λ (u : ℕ). edge_weight rows u port.nbr) (sym (id_at-row rows place row at))
        ∙ ap (edge_weight rows (id_at rows place)) named;
  }

-- what is right for each place of a list, with one item more
pub each_push : {X : Type 0} (Right : ℕ → X → Type 0) (xs : List X) (size : ℕ) (x : X)
    → length xs ≡ size
    → ((place : ℕ) (y : X) → slice_get xs place ≡ Some y → Right place y) → Right size x
    → (place : ℕ) (y : X) → slice_get (xs ++ x ∷ []) place ≡ Some y → Right place y
each_push {X} Right xs size x many each right place y at = elim (cases_lt place (length xs)) [
  | inl before ↦
      let here : get_or (xs ++ x ∷ []) place x ≡ y =
      get_or_from_slice_get (xs ++ x ∷ []) place y x at in
      subst (Right place) (sym (get_or_append_left xs (x ∷ []) x place before) ∙ here)
      (each place (get_or xs place x) (slice_get-get_or xs place x before))
  | inr past ↦
      let within : place < length (xs ++ x ∷ []) = slice_get_within (xs ++ x ∷ []) place y at in
      let last : length xs ≡ place = omega (arith, length-append xs (x ∷ []), past, within) in
      let here : get_or (xs ++ x ∷ []) place x ≡ y =
      get_or_from_slice_get (xs ++ x ∷ []) place y x at in
      let is : x ≡ y = sym (get_or-append_seam xs x [] x)
      ∙ subst (λ (place' : ℕ). get_or (xs ++ x ∷ []) place' x ≡ y) (sym last) here in
      subst (Right place) is (subst (λ (place' : ℕ). Right place' x) (sym many ∙ last) right)
]
