-- The place of a node that joins, and a node that leaves.
use Rattle.std.proofs.Common.{◌≡◌, ◌≢◌, ◌∙◌, ℕ, zero, suc, ◌<◌, ◌≤◌, Bool, true, false, not, cond, ◌==◌, nat_le, nat_lt, List, [], ◌∷◌, insert, remove, filter, length, slice_get, position, Option, Some, None, refl, sym, ap, arith}
use Rattle.std.specs.Option.{is_none}
use Rattle.std.proofs.lemmas.Bool.{eq-eqb, eqb-false, le-ltb, lt-ltb, ltb-false, ltb-true, ne_eqb}
use Rattle.std.proofs.lemmas.List.Edits.{length-insert}
use Rattle.std.proofs.lemmas.Option.{same_Some}
use Rattle.pls_configuration.specs.declared.row.NodeRow.{NodeRow}
use Rattle.pls_configuration.specs.declared.limits.TheConstants.{MAX_NODES}
use Rattle.pls_configuration.specs.Configuration.{IsNetwork, first_of, row_of, refused_if}
use Rattle.pls_graph_edits.specs.declared.edit_error.EditError.TheVariants.{Full, HasPorts, Last, Present}
use Rattle.pls_graph_edits.specs.Edits.{lone_node, join_refusal, joined, leave_refusal, without_node, with_row}
use Rattle.pls_graph.proofs.Placed.{ids_rise, place_of_row, row_of_place}
use Rattle.pls_edits.specs.Edited.{place_for}
use Rattle.pls_recheck.proofs.Shifted.{insert_here, remove_inserted}

-- identities rise with places
abbrev Rise : List NodeRow → Type 0
Rise rows = (i j : ℕ) (row later : NodeRow) → i < j → slice_get rows i ≡ Some row
    → slice_get rows j ≡ Some later → row.id < later.id

-- all identities are above this one
abbrev AllAbove : ℕ → List NodeRow → Type 0
AllAbove id rows = (k : ℕ) (row : NodeRow) → slice_get rows k ≡ Some row → id < row.id

below_first : (row : NodeRow) (rows : List NodeRow) → Rise (row ∷ rows) → AllAbove row.id rows
below_first row rows rise k later at = rise 0 (suc k) row later (omega arith) refl at

rise_later : (row : NodeRow) (rows : List NodeRow) → Rise (row ∷ rows) → Rise rows
rise_later row rows rise i j one two before at then =
    rise (suc i) (suc j) one two (omega (arith, before)) at then

-- rows that are all above an identity
none_lower : (id : ℕ) (rows : List NodeRow) → AllAbove id rows
    → filter (λ other. nat_lt other.id id) rows ≡ []
none_lower id [] above = refl
none_lower id (row ∷ rows) above =
    let high = above 0 row refl in
    let past : nat_lt row.id id ≡ false = le-ltb row.id id (omega (arith, high)) in
    rw past (none_lower id rows (λ k other at. above (suc k) other at))

all_higher : (id : ℕ) (rows : List NodeRow) → AllAbove id rows
    → filter (λ other. nat_lt id other.id) rows ≡ rows
all_higher id [] above = refl
all_higher id (row ∷ rows) above =
    let past : nat_lt id row.id ≡ true = lt-ltb id row.id (above 0 row refl) in
    rw past (ap (λ (rest : List NodeRow). row ∷ rest)
    (all_higher id rows (λ k other at. above (suc k) other at)))

all_stay : (id : ℕ) (rows : List NodeRow) → AllAbove id rows → without_node rows id ≡ rows
all_stay id [] above = refl
all_stay id (row ∷ rows) above =
    let high = above 0 row refl in
    let other : (id == row.id) ≡ false = ne_eqb id row.id (λ e. omega (arith, high, e)) in
    rw other (ap (λ (rest : List NodeRow). row ∷ rest)
    (all_stay id rows (λ k other at. above (suc k) other at)))

not_here : (row : NodeRow) (rows : List NodeRow) (id : ℕ) → row_of (row ∷ rows) id ≡ None
    → (id ≢ row.id) × (row_of rows id ≡ None)
not_here row rows id none = by (id == row.id) refl none
  where
    by : (b : Bool) → (id == row.id) ≡ b → cond b (Some row) (row_of rows id) ≡ None
        → (id ≢ row.id) × (row_of rows id ≡ None)
    by true e none = absurd (cc)
    by false e none = (eqb-false id row.id e, none)

-- a new row comes between the smaller and the greater ones
row_put : (new : NodeRow) (rows : List NodeRow) → Rise rows → row_of rows new.id ≡ None
    → with_row new rows ≡ insert rows (place_for rows new.id) new
row_put new [] rise none = refl
row_put new (row ∷ rows) rise none =
    by (nat_lt row.id new.id) refl (not_here row rows new.id none)
    (row_put new rows (rise_later row rows rise)) (below_first row rows rise)
  where
    by : (b : Bool) → nat_lt row.id new.id ≡ b → (new.id ≢ row.id) × (row_of rows new.id ≡ None)
        → (row_of rows new.id ≡ None → with_row new rows ≡ insert rows (place_for rows new.id) new)
        → AllAbove row.id rows
        → with_row new (row ∷ rows) ≡ insert (row ∷ rows) (place_for (row ∷ rows) new.id) new
    by true e apart rest above =
        let low = ltb-true row.id new.id e in
        let past : nat_lt new.id row.id ≡ false = le-ltb new.id row.id (omega (arith, low)) in
        rw (e, past) (ap (λ (rest : List NodeRow). row ∷ rest) (rest apart.1))
    by false e apart rest above =
        let past = ltb-false row.id new.id e in
        let differ : new.id ≢ row.id = apart.0 in
        let high : new.id < row.id = omega (arith, past, differ) in
        let passes : nat_lt new.id row.id ≡ true = lt-ltb new.id row.id high in
        let later : AllAbove new.id rows = λ k other at.
        let far = above k other at in omega (arith, far, high) in
        rw (e, passes, none_lower new.id rows later, all_higher new.id rows later) refl

-- a row goes from its place
row_gone : (rows : List NodeRow) → Rise rows → (i : ℕ) (row : NodeRow) → slice_get rows i ≡ Some row
    → without_node rows row.id ≡ remove rows i
row_gone [] rise i row at = absurd (cc)
row_gone (first ∷ rows) rise zero row at =
    let same : first.id ≡ row.id = ap (λ (row : NodeRow). row.id) (same_Some first row at) in
    let here : (row.id == first.id) ≡ true = eq-eqb row.id first.id (sym same) in
    rw here (all_stay row.id rows (λ k other there.
    let high = below_first first rows rise k other there in omega (arith, high, same)))
row_gone (first ∷ rows) rise (suc i) row at =
    let high = below_first first rows rise i row at in
    let other : (row.id == first.id) ≡ false = ne_eqb _ _ (λ e. omega (arith, high, e)) in
    rw other (ap (λ (rest : List NodeRow). first ∷ rest)
    (row_gone rows (rise_later first rows rise) i row at))

-- a join that is not refused: the identity is new, and there is room
pub may_join : (rows : List NodeRow) (id : ℕ) → join_refusal rows id ≡ None → row_of rows id ≡ None
may_join rows id allowed = by (row_of rows id) (nat_le MAX_NODES (length rows)) refl allowed
  where
    by : (o : Option NodeRow) (full : Bool) → row_of rows id ≡ o
        → first_of (refused_if (not (is_none o)) Present ∷ refused_if full Full ∷ []) ≡ None
        → row_of rows id ≡ None
    by None full new none = new
    by (Some row) full new none = absurd (cc)

-- a leave that is not refused: the node has no ports
pub may_leave : (rows : List NodeRow) (id : ℕ) (row : NodeRow) → row_of rows id ≡ Some row
    → leave_refusal rows id ≡ None → length row.ports ≡ 0
may_leave rows id row found allowed =
    by (nat_lt 0 (length row.ports)) (length rows == 1) refl (rw found at allowed)
  where
    by : (b c : Bool) → nat_lt 0 (length row.ports) ≡ b
        → first_of (refused_if b HasPorts ∷ refused_if c Last ∷ []) ≡ None → length row.ports ≡ 0
    by true c some none = absurd (cc)
    by false c some none = let few = ltb-false 0 (length row.ports) some in omega (arith, few)

pub left_at : (rows : List NodeRow) → IsNetwork rows → (i : ℕ) (row : NodeRow)
    → slice_get rows i ≡ Some row → without_node rows row.id ≡ remove rows i
left_at rows net i row at = row_gone rows (ids_rise rows net) i row at

few_lower : (id : ℕ) (rows : List NodeRow) → place_for rows id ≤ length rows
few_lower id [] = omega arith
few_lower id (row ∷ rows) = by (nat_lt row.id id) (few_lower id rows)
  where
    by : (b : Bool) → place_for rows id ≤ length rows
        → length (cond b (row ∷ filter (λ other. nat_lt other.id id) rows)
        (filter (λ other. nat_lt other.id id) rows)) ≤ length (row ∷ rows)
    by true few = omega (arith, few)
    by false few = omega (arith, few)

module _ (rows : List NodeRow) (net : IsNetwork rows) (id mark num : ℕ)
    (allowed : join_refusal rows id ≡ None) where
  pub place_inside : place_for rows id ≤ length rows
  place_inside = few_lower id rows

  pub joined_at : joined rows id mark num ≡ insert rows (place_for rows id) (lone_node id mark num)
  joined_at = row_put (lone_node id mark num) rows (ids_rise rows net) (may_join rows id allowed)

  module _ (after : List NodeRow) (is : after ≡ joined rows id mark num)
      (valid : IsNetwork after) where
    stands : slice_get after (place_for rows id) ≡ Some (lone_node id mark num)
    stands = ap (λ (rows' : List NodeRow). slice_get rows' (place_for rows id)) (is ∙ joined_at)
        ∙ insert_here rows (place_for rows id) (lone_node id mark num) place_inside

    -- the new node is found at its place
    pub joined_place : position (λ row. id == row.id) after ≡ Some (place_for rows id)
    joined_place = place_of_row after valid (place_for rows id) (lone_node id mark num) stands

    -- it may leave
    pub may_go : leave_refusal after id ≡ None
    may_go =
        let found : row_of after id ≡ Some (lone_node id mark num) =
        row_of_place after valid (place_for rows id) (lone_node id mark num) stands in
        let some = net.limits.some in
        let more = length-insert rows (place_for rows id) (lone_node id mark num) place_inside in
        let long = ap (λ (rows : List NodeRow). length rows) (is ∙ joined_at) in
        let many : (length after == 1) ≡ false =
        ne_eqb (length after) 1 (λ e. omega (arith, some, more, long, e)) in
        rw (found, many) refl

    -- and then all is as before
    pub joined_and_left : without_node after id ≡ rows
    joined_and_left = left_at after valid (place_for rows id) (lone_node id mark num) stands
        ∙ ap (λ (rows' : List NodeRow). remove rows' (place_for rows id)) (is ∙ joined_at)
        ∙ remove_inserted rows (place_for rows id) (lone_node id mark num) place_inside
