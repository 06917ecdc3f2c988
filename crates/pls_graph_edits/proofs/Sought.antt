-- What a search for an identity says, and which refusals follow.
use Rattle.std.proofs.Common.{◌≡◌, ◌≢◌, ◌∙◌, ℕ, ◌+◌, ◌-◌, ◌≤◌, [], ◌∷◌, is_some, true, false, cond, Bool, ◌==◌, ◌||◌, List, length, position, Option, Some, None, refl, sym, ap, subst, arith, slice_get, nat_lt, get_or, option_map}
use Rattle.std.specs.List.{position_or_len, find}
use Rattle.std.specs.Option.{is_none}
use Rattle.std.proofs.lemmas.Bool.{eqb-true, eqb-false, ltb-true, ltb-false}
use Rattle.std.proofs.lemmas.Option.{same_Some, get_or_from_slice_get, slice_get-get_or, slice_get_past}
use Rattle.std.proofs.lemmas.List.Folds.{find_at}
use Rattle.std.proofs.lemmas.List.Quantifiers.{position-Some}
use Rattle.std.proofs.lemmas.Map.Keys.{any_passes_from_place}
use Rattle.pls_configuration.specs.declared.row.Port.{Port}
use Rattle.pls_configuration.specs.declared.row.State.{State}
use Rattle.pls_configuration.specs.declared.row.NodeRow.{NodeRow}
use Rattle.pls_configuration.specs.Configuration.{IsNetwork, first_of, port_to, ports_in, row_of, refused_if}
use Rattle.pls_configuration.specs.declared.limits.TheConstants.{MAX_PORTS}
use Rattle.pls_graph_edits.specs.Edits.{fits_state, leave_refusal, edge_refusal, state_refusal, link_refusal}
use Rattle.pls_graph_edits.specs.declared.edit_error.EditError.TheVariants.{Absent, Present, Pointer, SelfLink, HasPorts, Last, Full}
use Rattle.pls_graph.proofs.Placed.{WayBack, way_back, row_of_place}
use Rattle.pls_graph.proofs.Finds.{list_any-find, None-is_some, item_at, found_place}

pub record IsSought (rows : List NodeRow) (id i : ℕ) (row : NodeRow) : Type 0 where
  pub at : slice_get rows i ≡ Some row
  pub same : row.id ≡ id
  pub found : row_of rows id ≡ Some row

-- no place, no row
pub sought_none : (rows : List NodeRow) (id : ℕ) → position (λ row. id == row.id) rows ≡ None
    → row_of rows id ≡ None
sought_none rows id none =
    find_at (λ row. id == row.id) rows
    ∙ by (nat_lt (position_or_len (λ row. id == row.id) rows) (length rows)) refl none
  where
    at : ℕ
    at = position_or_len (λ row. id == row.id) rows

    by : (b : Bool) → nat_lt at (length rows) ≡ b → cond b (Some at) None ≡ None
        → slice_get rows at ≡ None
    by true e none = absurd (cc)
    by false e none = slice_get_past rows at (let past = ltb-false at (length rows) e in omega arith)

-- the row at the place
pub sought : (rows : List NodeRow) (id i : ℕ) → position (λ row. id == row.id) rows ≡ Some i
    → (row : NodeRow) × IsSought rows id i row
sought rows id i is = by (nat_lt at (length rows)) refl is
  where
    at : ℕ
    at = position_or_len (λ row. id == row.id) rows

    by : (b : Bool) → nat_lt at (length rows) ≡ b → cond b (Some at) None ≡ Some i
        → (row : NodeRow) × IsSought rows id i row
    by false e is = absurd (cc)
    by true e is =
        let within = ltb-true at (length rows) e in
        let row : (row : NodeRow) × (slice_get rows at ≡ Some row) = item_at rows at within in
        let found : row_of rows id ≡ Some row.0 = find_at (λ row. id == row.id) rows ∙ row.1 in
        let place : (k : ℕ) × (slice_get rows k ≡ Some row.0) × ((id == row.0.id) ≡ true) =
        found_place (λ row. id == row.id) rows row.0 found in (
          row.0,
          record {
            at = subst (λ (i : ℕ). slice_get rows i ≡ Some row.0) (same_Some at i is) row.1;
            same = sym (eqb-true id row.0.id place.2);
            found = found;
          },
        )

module _ (rows : List NodeRow) (id : ℕ) (state : State) where
  pub state_absent : row_of rows id ≡ None → state_refusal rows id state ≡ Some Absent
  state_absent none = rw none refl

  pub state_pointer : (row : NodeRow) → row_of rows id ≡ Some row → fits_state state row ≡ false
      → state_refusal rows id state ≡ Some Pointer
  state_pointer row found fails = rw (found, fails) refl

  pub state_allowed : (row : NodeRow) → row_of rows id ≡ Some row → fits_state state row ≡ true
      → state_refusal rows id state ≡ None
  state_allowed row found fits = rw (found, fits) refl

-- the row that is found is the one that is read
pub row_read : (rows : List NodeRow) (i : ℕ) (row is : NodeRow) → slice_get rows i ≡ Some row
    → is ≡ get_or rows i is → is ≡ row
row_read rows i row is at e = e ∙ get_or_from_slice_get rows i row is at

-- the ports at a place are those of the row there
pub ports_read : (rows : List NodeRow) (i : ℕ) (row : NodeRow) (ports : List Port)
    → slice_get rows i ≡ Some row
    → option_map (λ (row : NodeRow). row.ports) (slice_get rows i) ≡ Some ports
    → row.ports ≡ ports
ports_read rows i row ports at is = same_Some row.ports ports
    (sym (ap (option_map (λ (row : NodeRow). row.ports)) at) ∙ is)

module _ (rows : List NodeRow) (a b : ℕ) where
  pub link_absent_first : row_of rows a ≡ None → link_refusal rows a b ≡ Some Absent
  link_absent_first none = rw none refl

  module _ (row : NodeRow) (found : row_of rows a ≡ Some row) where
    pub link_absent_second : row_of rows b ≡ None → link_refusal rows a b ≡ Some Absent
    link_absent_second none = rw (found, none) refl

    module _ (other : NodeRow) (there : row_of rows b ≡ Some other) where
      pub link_self : (a == b) ≡ true → link_refusal rows a b ≡ Some SelfLink
      link_self same = rw (found, there, same) refl

      pub link_present : (a == b) ≡ false → is_some (port_to row b) ≡ true
          → link_refusal rows a b ≡ Some Present
      link_present apart names = rw (found, there, apart, names) refl

      pub link_full : (a == b) ≡ false → is_some (port_to row b) ≡ false
          → nat_lt (MAX_PORTS - 2) (ports_in rows) ≡ true → link_refusal rows a b ≡ Some Full
      link_full apart free full = rw (found, there, apart, free, full) refl

      pub link_allowed : (a == b) ≡ false → is_some (port_to row b) ≡ false
          → nat_lt (MAX_PORTS - 2) (ports_in rows) ≡ false → link_refusal rows a b ≡ None
      link_allowed apart free room = rw (found, there, apart, free, room) refl

      pub may_link : link_refusal rows a b ≡ None
          → (port_to row b ≡ None) × (a ≢ b) × (ports_in rows + 2 ≤ MAX_PORTS)
      may_link allowed =
          let parts = by (a == b) (is_some (port_to row b)) (nat_lt (MAX_PORTS - 2) (ports_in rows))
          (rw (found, there) at allowed) in (
            None-is_some (port_to row b) parts.1,
            eqb-false a b parts.0,
            (let room = ltb-false (MAX_PORTS - 2) (ports_in rows) parts.2 in omega arith),
          )
        where
          by : (s l u : Bool)
              → first_of (refused_if s SelfLink ∷ refused_if l Present ∷ refused_if u Full ∷ []) ≡ None
              → (s ≡ false) × (l ≡ false) × (u ≡ false)
          by true l u none = absurd (cc)
          by false true u none = absurd (cc)
          by false false true none = absurd (cc)
          by false false false none = (refl, refl, refl)

module _ (rows : List NodeRow) (id : ℕ) where
  pub leave_absent : row_of rows id ≡ None → leave_refusal rows id ≡ Some Absent
  leave_absent none = rw none refl

  module _ (row : NodeRow) (found : row_of rows id ≡ Some row) where
    pub leave_ports : nat_lt 0 (length row.ports) ≡ true → leave_refusal rows id ≡ Some HasPorts
    leave_ports many = rw (found, many) refl

    pub leave_last : nat_lt 0 (length row.ports) ≡ false → (length rows == 1) ≡ true
        → leave_refusal rows id ≡ Some Last
    leave_last none one = rw (found, none, one) refl

    pub leave_allowed : nat_lt 0 (length row.ports) ≡ false → (length rows == 1) ≡ false
        → leave_refusal rows id ≡ None
    leave_allowed none more = rw (found, none, more) refl

-- where there is no place, none is found
pub no_find : {X : Type 0} (p : X → Bool) (xs : List X) → position p xs ≡ None → find p xs ≡ None
no_find {X} p xs none =
    find_at p xs ∙ by (nat_lt (position_or_len p xs) (length xs)) refl none
  where
    by : (b : Bool) → nat_lt (position_or_len p xs) (length xs) ≡ b
        → cond b (Some (position_or_len p xs)) None ≡ None
        → slice_get xs (position_or_len p xs) ≡ None
    by true e none = absurd (cc)
    by false e none = slice_get_past xs (position_or_len p xs)
        (let past = ltb-false (position_or_len p xs) (length xs) e in omega arith)

-- where there is a place, one is found
pub some_find : {X : Type 0} (p : X → Bool) (xs : List X) (i : ℕ) (d : X) → position p xs ≡ Some i
    → is_some (find p xs) ≡ true
some_find p xs i d is =
    let facts = position-Some p xs i d is in
    sym (list_any-find p xs)
    ∙ any_passes_from_place p xs i (get_or xs i d) (slice_get-get_or xs i d facts.0) facts.1

module _ (rows : List NodeRow) (a b : ℕ) where
  pub unlink_absent_first : row_of rows a ≡ None → edge_refusal rows a b ≡ Some Absent
  unlink_absent_first none = rw none refl

  module _ (row : NodeRow) (found : row_of rows a ≡ Some row) where
    pub unlink_apart : is_some (port_to row b) ≡ false → edge_refusal rows a b ≡ Some Absent
    unlink_apart free = rw (found, free) (by (is_none (row_of rows b)))
      where
        by : (absent : Bool) → refused_if (absent || true) Absent ≡ Some Absent
        by true = refl
        by false = refl

    module _ (other : NodeRow) (there : row_of rows b ≡ Some other) where
      pub unlink_allowed : is_some (port_to row b) ≡ true → edge_refusal rows a b ≡ None
      unlink_allowed names = rw (found, there, names) refl

-- where one end does not name the other, nor does the other
pub free_both : (rows : List NodeRow) → IsNetwork rows → (i j : ℕ) (row other : NodeRow)
    → slice_get rows i ≡ Some row → slice_get rows j ≡ Some other → port_to row other.id ≡ None
    → port_to other row.id ≡ None
free_both rows net i j row other at there free = by (port_to other row.id) refl
  where
    by : (o : Option Port) → port_to other row.id ≡ o → o ≡ None
    by None found = refl
    by (Some back) found =
        let (p, has, test) : (p : ℕ) × (slice_get other.ports p ≡ Some back)
        × ((row.id == back.nbr) ≡ true) =
        found_place (λ (port : Port). row.id == port.nbr) other.ports back found in
        let way : WayBack rows other back = way_back rows net j other there p back has in
        let named : row_of rows row.id ≡ Some way.other =
        ap (row_of rows) (eqb-true row.id back.nbr test) ∙ way.named in
        let same : way.other ≡ row =
        same_Some way.other row (sym named ∙ row_of_place rows net i row at) in
        let linked : None ≡ Some way.back =
        sym free ∙ ap (λ (row : NodeRow). port_to row other.id) (sym same) ∙ way.returns in
        absurd (cc)

-- an item is found where one has a place
pub found_as : {X : Type 0} (p : X → Bool) (xs : List X)
    → is_some (find p xs) ≡ is_some (position p xs)
found_as {X} p xs = ap is_some (find_at p xs)
    ∙ by (nat_lt (position_or_len p xs) (length xs)) refl
  where
    by : (b : Bool) → nat_lt (position_or_len p xs) (length xs) ≡ b
        → is_some (slice_get xs (position_or_len p xs))
        ≡ is_some (cond b (Some (position_or_len p xs)) None)
    by true e =
        let item : (x : X) × (slice_get xs (position_or_len p xs) ≡ Some x) =
        item_at xs (position_or_len p xs) (ltb-true (position_or_len p xs) (length xs) e) in
        ap is_some item.1
    by false e = ap is_some (slice_get_past xs (position_or_len p xs)
        (let past = ltb-false (position_or_len p xs) (length xs) e in omega arith))
