-- A label changes what its node and its neighbours see, and nobody else.
use Rattle.std.proofs.Common.{◌≡◌, ◌≢◌, ◌∙◌, ℕ, zero, suc, ◌+◌, ◌<◌, ◌≤◌, Bool, true, false, cond, ◌==◌, ◌||◌, List, [], ◌∷◌, map, length, set, slice_get, position, nat_lt, min, Option, Some, None, is_some, option_map, refl, sym, ap, subst, arith, get_or}
use Rattle.std.specs.Option.{option_and_then, unwrap_or}
use Rattle.std.proofs.lemmas.Bool.{eq-eqb, eqb-true, ltb-false, ltb-true, lt-ltb}
use Rattle.std.proofs.lemmas.List.Sums.{sum_by-set}
use Rattle.std.proofs.lemmas.List.Quantifiers.{position-Some}
use Rattle.std.proofs.lemmas.Option.{same_Some, slice_get_within, get_or_from_slice_get}
use Rattle.pls_configuration.specs.declared.row.Port.{Port}
use Rattle.pls_configuration.specs.declared.row.NodeRow.{NodeRow}
use Rattle.pls_configuration.specs.Configuration.{IsNetwork, first_of, port_to, row_of, refused_if}
use Rattle.pls_graph_edits.specs.declared.edit_error.EditError.TheVariants.{Absent, Full}
use Rattle.pls_graph_edits.specs.Edits.{are_linked, leave_refusal}
use Rattle.pls_graph.specs.Places.{place_in}
use Rattle.pls_graph.proofs.Finds.{fails_where_no_position, found_place, from_option_map, item_at, list_any-find}
use Rattle.pls_graph.proofs.Placed.{WayBack, row_of_place, way_back}
use Rattle.pls_labels.specs.Labels.{bits_together}
use Rattle.pls_labels.specs.Seen.{label_of, seen_port}
use Rattle.pls_edits.specs.Edited.{label_refusal}
use Rattle.pls_configuration.specs.declared.limits.TheConstants.{MAX_BITS}
use Rattle.pls_recheck.specs.inner.Flags.{MarksMore, names}
use Rattle.pls_recheck.proofs.Steady.{SeeAlike, either_fails}

-- tests that agree mark the same
pub marks_same : (one other : ℕ → Bool) (rows : List NodeRow) (old new : List Bool)
    → ((node : ℕ) → one node ≡ other node) → MarksMore one rows old new
    → MarksMore other rows old new
marks_same one other rows old new same more = record {
  as_many = more.as_many;
  each = λ k row flag at has. more.each k row flag at has
      ∙ ap (λ (b : Bool). Some (flag || b)) (same row.id);
}

module _ (rows : List NodeRow) (net : IsNetwork rows) (id i : ℕ)
    (place : position (λ row. id == row.id) rows ≡ Some i) where
  -- the row at the place has the identity
  pub found_at : (row : NodeRow) → slice_get rows i ≡ Some row → row_of rows id ≡ Some row
  found_at row at =
      let test : (id == row.id) ≡ true =
      ap (λ (row : NodeRow). id == row.id) (sym (get_or_from_slice_get rows i row row at))
      ∙ (position-Some (λ (row : NodeRow). id == row.id) rows i row place).1 in
      subst (λ (id : ℕ). row_of rows id ≡ Some row) (sym (eqb-true id row.id test))
      (row_of_place rows net i row at)

  -- what the ports of the node name is linked with it
  pub named_linked : (ports : List Port)
      → option_map (λ row. row.ports) (slice_get rows i) ≡ Some ports
      → (node : ℕ) → names ports node ≡ are_linked rows id node
  named_linked ports has node =
      let row : (row : NodeRow) × (slice_get rows i ≡ Some row) × (row.ports ≡ ports) =
      from_option_map (λ (row : NodeRow). row.ports) (slice_get rows i) ports has in
      ap (λ (ports : List Port). names ports node) (sym row.2)
      ∙ list_any-find (λ (port : Port). node == port.nbr) row.0.ports
      ∙ sym (ap (λ (o : Option NodeRow). is_some (option_and_then (λ row. port_to row node) o))
      (found_at row.0 row.1))

  pub place_is : place_in rows id ≡ i
  place_is = by (nat_lt (place_in rows id) (length rows)) refl place
    where
      by : (b : Bool) → nat_lt (place_in rows id) (length rows) ≡ b
          → cond b (Some (place_in rows id)) None ≡ Some i → place_in rows id ≡ i
      by true e is = same_Some (place_in rows id) i is
      by false e is = absurd (cc)

pub set_elsewhere : {X : Type 0} (xs : List X) (i j : ℕ) (x : X) → j ≢ i
    → slice_get xs j ≡ slice_get (set xs i x) j
set_elsewhere [] zero j x other = refl
set_elsewhere [] (suc i) j x other = refl
set_elsewhere (y ∷ xs) zero zero x other = absurd (other refl)
set_elsewhere (y ∷ xs) zero (suc j) x other = refl
set_elsewhere (y ∷ xs) (suc i) zero x other = refl
set_elsewhere (y ∷ xs) (suc i) (suc j) x other = set_elsewhere xs i j x (λ e. other (ap suc e))

pub map_at : {X Y : Type 0} (f g : X → Y) (xs : List X)
    → ((p : ℕ) (x : X) → slice_get xs p ≡ Some x → f x ≡ g x) → map f xs ≡ map g xs
map_at f g [] same = refl
map_at f g (x ∷ xs) same = rw (same 0 x refl, map_at f g xs (λ p y at. same (suc p) y at)) refl

module _ (rows : List NodeRow) (net : IsNetwork rows) (labels : List (List Bool)) (id i : ℕ)
    (bits : List Bool) (place : position (λ row. id == row.id) rows ≡ Some i) where
  no_row : NodeRow
  no_row = record { id = 0; state = record { up = None; mark = 0; num = 0 }; ports = [] }

  -- another node's label stays
  label_elsewhere : (other : ℕ) → (id == other) ≡ false
      → label_of rows labels other ≡ label_of rows (set labels i bits) other
  label_elsewhere other differs = by (position (λ row. other == row.id) rows) refl
    where
      by : (o : Option ℕ) → position (λ row. other == row.id) rows ≡ o
          → unwrap_or (option_and_then (slice_get labels) o) []
          ≡ unwrap_or (option_and_then (slice_get (set labels i bits)) o) []
      by None is = refl
      by (Some j) is =
          let apart : j ≢ i = λ e.
          let one = eqb-true id (get_or rows i no_row).id
          (position-Some (λ (row : NodeRow). id == row.id) rows i no_row place).1 in
          let two = eqb-true other (get_or rows j no_row).id
          (position-Some (λ (row : NodeRow). other == row.id) rows j no_row is).1 in
          let same : id ≡ other = one ∙ ap (λ (k : ℕ). (get_or rows k no_row).id) (sym e) ∙ sym two in
          let yes : (id == id) ≡ true = eq-eqb id id refl in
          let no : true ≡ false = sym yes ∙ ap (λ (n : ℕ). id == n) same ∙ differs in
          absurd (cc no) in
          ap (λ (o : Option (List Bool)). unwrap_or o []) (set_elsewhere labels i j bits apart)

  -- a node that is neither the node nor linked with it sees what it saw
  pub label_alike : SeeAlike (λ node. (id == node) || are_linked rows id node) rows rows labels
      (set labels i bits)
  label_alike k row new at then fails =
      let same : new ≡ row = same_Some new row (sym then ∙ at) in
      let each = either_fails (id == new.id) (are_linked rows id new.id) fails in
      let differs : (id == row.id) ≡ false = ap (λ (row : NodeRow). id == row.id) (sym same) ∙ each.0 in
      let apart : are_linked rows id row.id ≡ false =
      ap (λ (row : NodeRow). are_linked rows id row.id) (sym same) ∙ each.1 in
      let ports = map_at (seen_port (label_of rows labels))
      (seen_port (label_of rows (set labels i bits))) row.ports
      (λ p port has. port_alike row at apart p port has (id == port.nbr) refl) in
      rw (same, label_elsewhere row.id differs, ports) refl
    where
      port_alike : (row : NodeRow) → slice_get rows k ≡ Some row → are_linked rows id row.id ≡ false
          → (p : ℕ) (port : Port) → slice_get row.ports p ≡ Some port
          → (b : Bool) → (id == port.nbr) ≡ b
          → seen_port (label_of rows labels) port
          ≡ seen_port (label_of rows (set labels i bits)) port
      port_alike row at apart p port has false e = rw (label_elsewhere port.nbr e) refl
      port_alike row at apart p port has true e =
          let way : WayBack rows row port = way_back rows net k row at p port has in
          let linked : are_linked rows port.nbr row.id ≡ true = rw (way.named, way.returns) refl in
          let is : are_linked rows id row.id ≡ true =
          subst (λ (n : ℕ). are_linked rows n row.id ≡ true) (sym (eqb-true id port.nbr e)) linked in
          let no : true ≡ false = sym is ∙ apart in absurd (cc no)

pub no_row_found : (rows : List NodeRow) (id : ℕ) → position (λ row. id == row.id) rows ≡ None
    → row_of rows id ≡ None
no_row_found rows id none = by (row_of rows id) refl
  where
    by : (o : Option NodeRow) → row_of rows id ≡ o → row_of rows id ≡ None
    by None is = is
    by (Some row) is =
        let there = found_place (λ (row : NodeRow). id == row.id) rows row is in
        let fails = fails_where_no_position (λ (row : NodeRow). id == row.id) rows there.0 row none
        (slice_get_within rows there.0 row there.1) in
        let not : (id == row.id) ≡ false =
        ap (λ (row : NodeRow). id == row.id)
        (sym (get_or_from_slice_get rows there.0 row row there.1)) ∙ fails in
        let no : true ≡ false = sym there.2 ∙ not in absurd (cc no)

pub label_absent : (rows : List NodeRow) (labels : List (List Bool)) (id : ℕ) (bits : List Bool)
    → position (λ row. id == row.id) rows ≡ None → label_refusal rows labels id bits ≡ Some Absent
label_absent rows labels id bits none = rw (no_row_found rows id none) refl

pub leave_absent : (rows : List NodeRow) (id : ℕ) → position (λ row. id == row.id) rows ≡ None
    → leave_refusal rows id ≡ Some Absent
leave_absent rows id none = rw (no_row_found rows id none) refl

-- the row that stands where its identity is found
pub record IsRowOf (rows : List NodeRow) (id i : ℕ) (row : NodeRow) : Type 0 where
  pub at : slice_get rows i ≡ Some row
  pub same : row.id ≡ id
  pub found : row_of rows id ≡ Some row

pub row_there : (rows : List NodeRow) → IsNetwork rows → (id i : ℕ)
    → position (λ row. id == row.id) rows ≡ Some i → (row : NodeRow) × IsRowOf rows id i row
row_there rows net id i place =
    let no : NodeRow = record { id = 0; state = record { up = None; mark = 0; num = 0 }; ports = [] } in
    let there = position-Some (λ (row : NodeRow). id == row.id) rows i no place in
    let row : (row : NodeRow) × (slice_get rows i ≡ Some row) = item_at rows i there.0 in
    let test : (id == row.0.id) ≡ true = ap (λ (row : NodeRow). id == row.id)
    (sym (get_or_from_slice_get rows i row.0 no row.1)) ∙ there.1 in (
      row.0,
      record {
        at = row.1;
        same = sym (eqb-true id row.0.id test);
        found = found_at rows net id i place row.0 row.1;
      },
    )

-- why a label is refused or not, where its node is found
pub label_by : (rows : List NodeRow) → IsNetwork rows → (labels : List (List Bool)) (id i : ℕ)
    (bits : List Bool) → position (λ row. id == row.id) rows ≡ Some i → (full : Bool)
    → full ≡ nat_lt MAX_BITS (bits_together (set labels i bits))
    → label_refusal rows labels id bits ≡ cond full (Some Full) None
label_by rows net labels id i bits place full is =
    let within = (position-Some (λ (row : NodeRow). id == row.id) rows i
    (record { id = 0; state = record { up = None; mark = 0; num = 0 }; ports = [] }) place).0 in
    let row : (row : NodeRow) × (slice_get rows i ≡ Some row) = item_at rows i within in
    rw (found_at rows net id i place row.0 row.1, place_is rows net id i place, ← is) (by full)
  where
    by : (b : Bool) → first_of (refused_if false Absent ∷ refused_if b Full ∷ []) ≡ cond b (Some Full) None
    by true = refl
    by false = refl

-- a label is no longer than all together
pub part_of_total : (labels : List (List Bool)) (i : ℕ) (own : List Bool)
    → slice_get labels i ≡ Some own → length own ≤ bits_together labels
part_of_total labels i own at =
    let sum = sum_by-set length labels i [] own (slice_get_within labels i own at) in
    let same = ap length (get_or_from_slice_get labels i own own at) in
    omega (arith, sum, same)

pub with_label : (labels : List (List Bool)) (i : ℕ) (own bits : List Bool)
    → slice_get labels i ≡ Some own
    → bits_together (set labels i bits) + length own ≡ bits_together labels + length bits
with_label labels i own bits at =
    let sum = sum_by-set length labels i bits own (slice_get_within labels i own at) in
    let same = ap length (get_or_from_slice_get labels i own own at) in
    omega (arith, sum, same)

pub lt_min : (a x m : ℕ) → a < m → nat_lt a (min x m) ≡ nat_lt a x
lt_min a x m low = by (nat_lt a x) refl
  where
    more : (b : Bool) → nat_lt a (min x m) ≡ b → x ≤ a → nat_lt a (min x m) ≡ false
    more true e few = let up = ltb-true a (min x m) e in absurd (omega (arith, up, few))
    more false e few = e

    by : (b : Bool) → nat_lt a x ≡ b → nat_lt a (min x m) ≡ b
    by true e = let up = ltb-true a x e in lt-ltb a (min x m) (omega (arith, up, low))
    by false e = more (nat_lt a (min x m)) refl (ltb-false a x e)
