-- The nodes that are noted, since they and their neighbours are all touched.
use Rattle.std.proofs.Common.{◌≡◌, ◌≢◌, ◌∙◌, inl, inr, ℕ, ◌<◌, Bool, true, false, cond, ◌==◌, ◌||◌, List, [], ◌∷◌, map, length, replicate, set, slice_get, position, Some, None, option_map, refl, sym, ap, arith, get_or}
use Rattle.std.proofs.lemmas.Bool.{cases_order, ne_eqb}
use Rattle.std.proofs.lemmas.List.{length-map, length-replicate, length-set, get_or-set_same, get_or-set_other}
use Rattle.std.proofs.lemmas.Option.{same_Some, slice_get-map, slice_get-get_or, slice_get_within, get_or_from_slice_get}
use Rattle.pls_configuration.specs.declared.row.Port.{Port}
use Rattle.pls_configuration.specs.declared.row.NodeRow.{NodeRow}
use Rattle.pls_configuration.specs.declared.verdict.Verdict.{Verdict}
use Rattle.pls_configuration.specs.declared.row.State.{State}
use Rattle.pls_configuration.specs.Configuration.{IsNetwork, ids_of}
use Rattle.pls_graph_edits.specs.Edits.{change_row, changed, in_state, weighed, weighing, with_state, with_weight}
use Rattle.pls_graph.proofs.Finds.{fails_where_no_position, item_at}
use Rattle.pls_graph.proofs.Placed.{place_of_row}
use Rattle.pls_recheck.specs.inner.Flags.{AreAround, MatchRows, ClearsSome, MarksMore, beside_itself, names}
use Rattle.pls_recheck.proofs.Marked.{none_is_set}
use Rattle.pls_recheck.proofs.Steady.{Stays}

pub nothing_noted : (rows : List NodeRow) (flags : List Bool) (n : ℕ) → n ≡ length rows
    → AreAround rows flags (replicate n false)
nothing_noted rows flags n many = record {
  as_many = length-replicate n false ∙ many;
  each = λ k j row other at noted there near. absurd (none_is_set n k noted);
}

module _ (rows : List NodeRow) (net : IsNetwork rows) (old : List Bool) (id : ℕ) where
  -- no node has the identity
  pub clear_none : position (λ row. id == row.id) rows ≡ None
      → ClearsSome (λ node. id == node) rows old old
  clear_none none = record {
    as_many = refl;
    each = λ k row at has. (
      has,
      (
          ap (λ (row : NodeRow). id == row.id) (sym (get_or_from_slice_get rows k row row at))
          ∙ fails_where_no_position (λ (row : NodeRow). id == row.id) rows k row none
          (slice_get_within rows k row at)),
    );
  }

  -- the node at the place has the identity
  pub clear_one : (i : ℕ) → position (λ row. id == row.id) rows ≡ Some i
      → ClearsSome (λ node. id == node) rows old (set old i false)
  clear_one i place = record {
    as_many = length-set old i false;
    each = λ k row at has. elim (cases_order k i) [
      | inl e ↦
          let inside = slice_get_within (set old i false) k true has in
          let no : true ≡ false = sym (get_or_from_slice_get (set old i false) k true true has)
          ∙ ap (λ (k : ℕ). get_or (set old i false) k true) e
          ∙ get_or-set_same old i false true (omega (arith, inside, e, length-set old i false)) in
          absurd (cc no)
      | inr apart ↦
          let other : k ≢ i = λ e. elim apart [
            | inl before ↦ absurd (omega (arith, before, e))
            | inr after ↦ absurd (omega (arith, after, e))
          ] in
          let inside = slice_get_within (set old i false) k true has in (
            slice_get-get_or old k true (omega (arith, inside, length-set old i false))
                ∙ ap (λ (b : Bool). Some b) (sym (get_or-set_other old i k false true other)
                ∙ get_or_from_slice_get (set old i false) k true true has),
            ne_eqb id row.id (λ e. other (same_Some k i (sym (place_of_row rows net k row at)
                ∙ ap (λ (id : ℕ). position (λ (row : NodeRow). id == row.id) rows) (sym e) ∙ place))),
          )
    ];
  }

pub clear_twice : (rows : List NodeRow) (old mid new : List Bool) (one two : ℕ → Bool)
    → ClearsSome one rows old mid → ClearsSome two rows mid new
    → ClearsSome (λ node. one node || two node) rows old new
clear_twice rows old mid new one two first second = record {
  as_many = second.as_many ∙ first.as_many;
  each = λ k row at has.
      let later = second.each k row at has in
      let early = first.each k row at later.0 in
      (early.0, ap (λ (b : Bool). b || two row.id) early.1 ∙ later.1);
}

-- an edit of rows, flags and notes keeps what is noted, where the rows that are noted still name
-- the same nodes
pub noted_after : (rows after : List NodeRow) → ids_of after ≡ ids_of rows
    → (old new around noted : List Bool) (passes : ℕ → Bool) → MarksMore passes after old new
    → length noted ≡ length around
    → ((k : ℕ) (row now : NodeRow) → slice_get rows k ≡ Some row → slice_get after k ≡ Some now
    → slice_get noted k ≡ Some true → (slice_get around k ≡ Some true)
    × ((node : ℕ) → beside_itself now node ≡ beside_itself row node))
    → AreAround rows old around → AreAround after new noted
noted_after rows after ids old new around noted passes more many alike were = record {
  as_many = many ∙ were.as_many ∙ sym rows_many;
  each = λ k j now other here is there near.
      let one : (row : NodeRow) × (slice_get rows k ≡ Some row) =
      item_at rows k (inside k (slice_get_within after k now here)) in
      let two : (row : NodeRow) × (slice_get rows j ≡ Some row) =
      item_at rows j (inside j (slice_get_within after j other there)) in
      let same : two.0.id ≡ other.id = same_Some two.0.id other.id
      (ap (option_map (λ (row : NodeRow). row.id)) (sym two.1)
      ∙ sym (slice_get-map (λ (row : NodeRow). row.id) rows j)
      ∙ ap (λ (ids : List ℕ). slice_get ids j) (sym ids)
      ∙ slice_get-map (λ (row : NodeRow). row.id) after j
      ∙ ap (option_map (λ (row : NodeRow). row.id)) there) in
      let before = alike k one.0 now one.1 here is in
      more.each j other true there
      (were.each k j one.0 two.0 one.1 before.0 two.1
      (sym (before.1 two.0.id) ∙ ap (beside_itself now) same ∙ near));
}
  where
    rows_many : length after ≡ length rows
    rows_many = sym (length-map after (λ (row : NodeRow). row.id)) ∙ ap length ids
        ∙ length-map rows (λ (row : NodeRow). row.id)

    inside : (k : ℕ) → k < length after → k < length rows
    inside k within = omega (arith, within, rows_many)

-- what is kept, after such an edit
pub kept_after : (rows after : List NodeRow) (labels : List (List Bool))
    (kept : List (ℕ × Verdict)) → (ids : ids_of after ≡ ids_of rows)
    → (old new around noted : List Bool) (passes : ℕ → Bool) → MarksMore passes after old new
    → AreAround after new noted → MatchRows rows labels old around kept
    → MatchRows after labels new noted kept
kept_after rows after labels kept ids old new around noted passes more now were = record {
  a_label = were.a_label ∙ rows_many;
  a_flag = more.as_many ∙ were.a_flag ∙ rows_many;
  a_verdict = were.a_verdict ∙ rows_many;
  noted = now;
}
  where
    rows_many : length rows ≡ length after
    rows_many = sym (length-map rows (λ (row : NodeRow). row.id)) ∙ sym (ap length ids)
        ∙ length-map after (λ (row : NodeRow). row.id)

-- rows with the same neighbours, place by place
abbrev pub AreAlike : List NodeRow → List NodeRow → Type 0
AreAlike rows after = (k : ℕ) (row now : NodeRow) → slice_get rows k ≡ Some row
    → slice_get after k ≡ Some now → (node : ℕ) → beside_itself now node ≡ beside_itself row node

-- the change of a row keeps the nodes that it names
abbrev KeepsNames : (NodeRow → NodeRow) → Type 0
KeepsNames change = (row : NodeRow) (node : ℕ)
    → beside_itself (change row) node ≡ beside_itself row node

changed_names : (id : ℕ) (change : NodeRow → NodeRow) → KeepsNames change
    → KeepsNames (changed id change)
changed_names id change keeps row node = by (id == row.id)
  where
    by : (b : Bool) → beside_itself (cond b (change row) row) node ≡ beside_itself row node
    by true = keeps row node
    by false = refl

alike_changed : (id : ℕ) (change : NodeRow → NodeRow) → KeepsNames change → (rows : List NodeRow)
    → AreAlike rows (change_row id change rows)
alike_changed id change keeps rows k row now at then node =
    let is : changed id change row ≡ now = same_Some (changed id change row) now
    (ap (option_map (changed id change)) (sym at) ∙ sym (slice_get-map (changed id change) rows k)
    ∙ then) in
    ap (λ (now : NodeRow). beside_itself now node) (sym is) ∙ changed_names id change keeps row node

pub alike_state : (rows : List NodeRow) (id : ℕ) (state : State)
    → AreAlike rows (with_state rows id state)
alike_state rows id state = alike_changed id (in_state state) (λ row node. refl) rows

weighed_names : (weight nbr node : ℕ) (ports : List Port)
    → names (map (weighed nbr weight) ports) node ≡ names ports node
weighed_names weight nbr node [] = refl
weighed_names weight nbr node (port ∷ ports) =
    rw (weighed_names weight nbr node ports, by (nbr == port.nbr)) refl
  where
    by : (b : Bool) → (node == (cond b (record port { weight = weight }) port).nbr)
        ≡ (node == port.nbr)
    by true = refl
    by false = refl

weighing_names : (weight nbr : ℕ) → KeepsNames (weighing weight nbr)
weighing_names weight nbr row node =
    ap (λ (b : Bool). (row.id == node) || b) (weighed_names weight nbr node row.ports)

pub alike_weight : (rows : List NodeRow) (a b weight : ℕ)
    → AreAlike rows (with_weight rows a b weight)
alike_weight rows a b weight k row now at then node =
    let first : NodeRow = changed a (weighing weight b) row in
    let first_at : slice_get (change_row a (weighing weight b) rows) k ≡ Some first =
    slice_get-map (changed a (weighing weight b)) rows k
    ∙ ap (option_map (changed a (weighing weight b))) at in
    alike_changed b (weighing weight a) (weighing_names weight a)
    (change_row a (weighing weight b) rows) k first now first_at then node
    ∙ changed_names a (weighing weight b) (weighing_names weight b) row node

-- a row that changed is noted no more
pub noted_stay : (rows after : List NodeRow) (around noted : List Bool) (passes : ℕ → Bool)
    → Stays passes rows after → ClearsSome passes after around noted
    → (k : ℕ) (row now : NodeRow) → slice_get rows k ≡ Some row → slice_get after k ≡ Some now
    → slice_get noted k ≡ Some true → (slice_get around k ≡ Some true)
    × ((node : ℕ) → beside_itself now node ≡ beside_itself row node)
noted_stay rows after around noted passes stays clears k row now at then is =
    let was = clears.each k now then is in (
      was.0,
      λ node. ap (λ (row : NodeRow). beside_itself row node)
          (sym (stays k row now at then was.1)),
    )
