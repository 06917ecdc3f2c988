-- A row of a network has fewer ports than the network has nodes, and points at none but these.
use Rattle.std.proofs.Common.{◌≡◌, ◌∙◌, ℕ, ◌<◌, ◌≤◌, ◌||◌, Bool, true, false, eqb, ◌==◌, List, [], ◌∷◌, map, length, Option, Some, None, is_some, is_none, option_map, refl, sym, arith, slice_get}
use Rattle.std.specs.List.{AllByRecursion, IsDistinct, list_any}
use Rattle.std.specs.Cmp.{nat_eq_equiv}
use Rattle.std.proofs.lemmas.Bool.{eqb-true}
use Rattle.std.proofs.lemmas.List.{length-map}
use Rattle.std.proofs.lemmas.Map.Keys.{IsDistinct-cons}
use Rattle.std.proofs.lemmas.Map.Made.{length-le_from_is_member}
use Rattle.pls_configuration.specs.declared.row.State.{State}
use Rattle.pls_configuration.specs.declared.row.Port.{Port}
use Rattle.pls_configuration.specs.declared.row.NodeRow.{NodeRow}
use Rattle.pls_configuration.specs.Configuration.{IsNetwork, ids_of, row_of, has_repeat, links_itself, names_unknown}
use Rattle.pls_graph.proofs.Finds.{list_any-find, list_any-map, fails_where_none}
use Rattle.pls_graph.proofs.Placed.{ports_differ, pointer_within, row_of_place}
use Rattle.pls_graph.proofs.Valid.{NothingRefused, nothing_refused}
use Rattle.pls_labels.specs.Seen.{IsProper}

-- where no item passes, each fails
each_fails : (p : ℕ → Bool) (xs : List ℕ) → list_any p xs ≡ false
    → AllByRecursion (λ x. p x ≡ false) xs
each_fails p [] none = tt
each_fails p (x ∷ xs) none = by (p x) refl none (each_fails p xs)
  where
    by : (b : Bool) → p x ≡ b → (b || list_any p xs) ≡ false
        → (list_any p xs ≡ false → AllByRecursion (λ x. p x ≡ false) xs)
        → AllByRecursion (λ x. p x ≡ false) (x ∷ xs)
    by true is none rest = absurd (cc)
    by false is none rest = (is, rest none)

-- numbers of which none stands twice are distinct
distinct : (ids : List ℕ) → has_repeat ids ≡ false → IsDistinct eqb ids
unfolding IsDistinct
distinct [] apart = tt
distinct (first ∷ others) apart =
    by (list_any (λ other. first == other) others) refl apart (distinct others)
  where
    by : (b : Bool) → list_any (λ other. first == other) others ≡ b
        → (b || has_repeat others) ≡ false → (has_repeat others ≡ false → IsDistinct eqb others)
        → IsDistinct eqb (first ∷ others)
    by true is apart rest = absurd (cc)
    by false is apart rest =
        IsDistinct-cons eqb first others (each_fails (λ other. first == other) others is)
        (rest apart)

-- where each port names a row, a number that one names is a row's
named_known : (rows : List NodeRow) (ports : List Port) (id : ℕ)
    → list_any (λ port. is_none (row_of rows port.nbr)) ports ≡ false
    → list_any (eqb id) (map (λ port. port.nbr) ports) ≡ true → is_some (row_of rows id) ≡ true
named_known rows [] id all named = absurd (cc)
named_known rows (port ∷ ports) id all named =
    by (eqb id port.nbr) refl (row_of rows port.nbr) refl all named (named_known rows ports id)
  where
    unknown : Bool
    unknown = list_any (λ (port : Port). is_none (row_of rows port.nbr)) ports

    later : Bool
    later = list_any (eqb id) (map (λ (port : Port). port.nbr) ports)

    by : (b : Bool) → eqb id port.nbr ≡ b → (found : Option NodeRow) → row_of rows port.nbr ≡ found
        → (is_none found || unknown) ≡ false → (b || later) ≡ true
        → (unknown ≡ false → later ≡ true → is_some (row_of rows id) ≡ true)
        → is_some (row_of rows id) ≡ true
    by b same None is all named rest = absurd (cc)
    by true same (Some row) is all named rest = rw (eqb-true id port.nbr same, is) refl
    by false same (Some row) is all named rest = rest all named

module _ (rows : List NodeRow) (net : IsNetwork rows) (i : ℕ) (row : NodeRow)
    (at : slice_get rows i ≡ Some row) where
  -- the nodes that the ports name
  abbrev others : List ℕ
  others = map (λ (port : Port). port.nbr) row.ports

  valid : NothingRefused rows
  valid = nothing_refused rows net.valid

  -- the node is none of those that its ports name
  unlike : list_any (λ other. row.id == other) others ≡ false
  unlike = list_any-map (λ (port : Port). port.nbr) (λ other. row.id == other) row.ports
      ∙ sym (list_any-find (λ (port : Port). row.id == port.nbr) row.ports)
      ∙ fails_where_none links_itself rows i row valid.self_link at

  -- the node, and those that its ports name, are nodes
  known : (id : ℕ) → list_any (eqb id) (row.id ∷ others) ≡ true → is_some (row_of rows id) ≡ true
  known id named = by (eqb id row.id) refl named
    where
      by : (b : Bool) → eqb id row.id ≡ b → (b || list_any (eqb id) others) ≡ true
          → is_some (row_of rows id) ≡ true
      by true same named = rw (eqb-true id row.id same, row_of_place rows net i row at) refl
      by false same named =
          named_known rows row.ports id
          (fails_where_none (names_unknown rows) rows i row valid.unknown at) named

  -- there are fewer ports than nodes
  pub fewer_ports : length row.ports < length rows
  fewer_ports =
      let apart : has_repeat (row.id ∷ others) ≡ false =
      rw unlike (ports_differ rows net i row at) in
      let within : length (row.id ∷ others) ≤ length (ids_of rows) =
      length-le_from_is_member nat_eq_equiv (row.id ∷ others) (ids_of rows)
      (distinct (row.id ∷ others) apart)
      (λ id named. list_any-map (λ (row : NodeRow). row.id) (eqb id) rows ∙ known id named) in
      omega (arith, rw (length-map, length-map) at within)

  -- the pointer and the number of the ports are a node's
  proper : IsProper row.state.up (length row.ports)
  proper =
      record {
        pointer = pointer_within rows net i row at;
        few = omega (arith, fewer_ports, net.limits.few_nodes);
      }

-- what stands at a place of a network is a node's
pub proper_at : (rows : List NodeRow) → IsNetwork rows → (i : ℕ) (state : State) (ports : List Port)
    → option_map (λ row. row.state) (slice_get rows i) ≡ Some state
    → option_map (λ row. row.ports) (slice_get rows i) ≡ Some ports
    → IsProper state.up (length ports)
proper_at rows net i state ports state_is ports_is = by (slice_get rows i) refl state_is ports_is
  where
    by : (found : Option NodeRow) → slice_get rows i ≡ found
        → option_map (λ row. row.state) found ≡ Some state → option_map (λ row. row.ports) found
        ≡ Some ports → IsProper state.up (length ports)
    by None at a b = absurd (cc)
    by (Some row) at a b =
        let state_is : row.state ≡ state = cc in
        let ports_is : row.ports ≡ ports = cc in
        rw (← state_is, ← ports_is) (proper rows net i row at)
