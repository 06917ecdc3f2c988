-- Flags that are set at places.
use Rattle.std.proofs.Common.{◌≡◌, ◌≢◌, ◌∙◌, inl, inr, ℕ, Bool, true, false, ◌==◌, ◌||◌, List, length, set, filter, slice_get, position, Some, None, refl, sym, ap, arith, get_or}
use Rattle.std.proofs.lemmas.Bool.{cases_order, ne_eqb}
use Rattle.std.proofs.lemmas.List.{length-map, length-set, get_or-set_same, get_or-set_other}
use Rattle.std.proofs.lemmas.List.Quantifiers.{position-Some}
use Rattle.std.proofs.lemmas.Option.{same_Some, slice_get_within, slice_get-get_or, get_or_from_slice_get}
use Rattle.pls_configuration.specs.declared.row.NodeRow.{NodeRow}
use Rattle.pls_configuration.specs.declared.verdict.Verdict.{Verdict}
use Rattle.pls_configuration.specs.declared.verdict.Verdict.TheVariants.{Accept}
use Rattle.pls_configuration.specs.Configuration.{IsNetwork, ids_of}
use Rattle.pls_graph.proofs.Finds.{fails_where_no_position}
use Rattle.pls_graph.proofs.Placed.{place_of_row}
use Rattle.pls_labels.specs.Seen.{Seen}
use Rattle.pls_edits.specs.Edited.{carried_over, edited, relabelled, touches}
use Rattle.pls_recheck.specs.After.{snapshot_after, touched_after}
use Rattle.pls_edits.specs.declared.edit.Edit.{Edit}
use Rattle.pls_recheck.specs.Snapshot.{IsCurrent, Snapshot, is_number_among}
use Rattle.pls_recheck.specs.inner.Flags.{MarksMore, marked}
use Rattle.pls_recheck.proofs.Cleared.{current_by_flags, current_by_ids}
use Rattle.pls_recheck.proofs.Marked.{marked_more}
use Rattle.pls_recheck.proofs.Steady.{SeeAlike, current_after}

pub or_false : (b : Bool) → b ≡ (b || false)
or_false true = refl
or_false false = refl

pub or_true : (b : Bool) → true ≡ (b || true)
or_true true = refl
or_true false = refl

pub or_twice : (a b c : Bool) → ((a || b) || c) ≡ (a || (b || c))
or_twice true b c = refl
or_twice false b c = refl

module _ (rows : List NodeRow) (net : IsNetwork rows) (old : List Bool) (id : ℕ) where
  -- no node has the identity
  pub touch_none : position (λ row. id == row.id) rows ≡ None
      → MarksMore (λ node. id == node) rows old old
  touch_none none = record {
    as_many = refl;
    each = λ k row flag at has.
        let other : (id == row.id) ≡ false =
        ap (λ (row : NodeRow). id == row.id) (sym (get_or_from_slice_get rows k row row at))
        ∙ fails_where_no_position (λ (row : NodeRow). id == row.id) rows k row none
        (slice_get_within rows k row at) in
        has ∙ ap (λ (b : Bool). Some b) (or_false flag ∙ ap (λ (b : Bool). flag || b) (sym other));
  }

  -- the node at the place has the identity
  pub touch_one : (i : ℕ) → position (λ row. id == row.id) rows ≡ Some i → length old ≡ length rows
      → MarksMore (λ node. id == node) rows old (set old i true)
  touch_one i place many = record {
    as_many = length-set old i true;
    each = λ k row flag at has. elim (cases_order k i) [
      | inl e ↦
          let is : (id == row.id) ≡ true =
          ap (λ (row : NodeRow). id == row.id) (sym (get_or_from_slice_get rows i row row
          (ap (slice_get rows) (sym e) ∙ at)))
          ∙ (position-Some (λ (row : NodeRow). id == row.id) rows i row place).1 in
          let inside = slice_get_within old k flag has in
          slice_get-get_or (set old i true) k true (omega (arith, inside, length-set old i true))
          ∙ ap (λ (b : Bool). Some b) (ap (λ (k : ℕ). get_or (set old i true) k true) e
          ∙ get_or-set_same old i true true (omega (arith, inside, e))
          ∙ or_true flag ∙ ap (λ (b : Bool). flag || b) (sym is))
      | inr apart ↦
          let other : k ≢ i = λ e. elim apart [
            | inl before ↦ absurd (omega (arith, before, e))
            | inr after ↦ absurd (omega (arith, after, e))
          ] in
          let differs : (id == row.id) ≡ false = ne_eqb id row.id
          (λ e. other (same_Some k i (sym (place_of_row rows net k row at)
          ∙ ap (λ (id : ℕ). position (λ (row : NodeRow). id == row.id) rows) (sym e) ∙ place))) in
          let inside = slice_get_within old k flag has in
          slice_get-get_or (set old i true) k flag (omega (arith, inside, length-set old i true))
          ∙ ap (λ (b : Bool). Some b) (get_or-set_other old i k true flag other
          ∙ get_or_from_slice_get old k flag flag has
          ∙ or_false flag ∙ ap (λ (b : Bool). flag || b) (sym differs))
    ];
  }

-- touched, and touched once more
pub touch_twice : (rows : List NodeRow) (old mid new : List Bool) (one two : ℕ → Bool)
    → MarksMore one rows old mid → MarksMore two rows mid new
    → MarksMore (λ node. one node || two node) rows old new
touch_twice rows old mid new one two first second = record {
  as_many = second.as_many ∙ first.as_many;
  each = λ k row flag at has.
      second.each k row (flag || one row.id) at (first.each k row flag at has)
      ∙ ap (λ (b : Bool). Some b) (or_twice flag (one row.id) (two row.id));
}

module _ (rows after : List NodeRow) (was : IsNetwork rows) (valid : IsNetwork after)
    (labels then : List (List Bool)) (ids : ids_of after ≡ ids_of rows) (old new : List Bool)
    (many : length old ≡ length rows) (as_many : length old ≡ length after) (passes : ℕ → Bool)
    (more : MarksMore passes after old new) (kept : List (ℕ × Verdict)) where
  pub touched_now : marked (ids_of after) new
      ≡ filter (λ node. is_number_among (marked (ids_of rows) old) node || passes node) (ids_of after)
  touched_now = marked_more after valid old new as_many passes more
      ∙ ap (λ (all : List ℕ). filter (λ node. is_number_among (marked all old) node || passes node)
      (ids_of after)) ids

  pub current_now : SeeAlike passes rows after labels then → (judge : Seen → Verdict)
      → IsCurrent judge (record {
        network = rows;
        labels = labels;
        touched = marked (ids_of rows) old;
        kept = kept;
      })
      → IsCurrent judge (record {
        network = after;
        labels = then;
        touched = marked (ids_of after) new;
        kept = kept;
      })
  current_now alike judge current =
      current_by_ids judge after then new kept valid (more.as_many ∙ as_many)
      (current_after passes rows after labels then ids alike old new many more judge kept
      (current_by_flags judge rows labels old kept was many current))

-- the parts after the edit make the snapshot after it
pub parts_after : (edit : Edit) (before : Snapshot) (network : List NodeRow)
    (labels : List (List Bool)) (touched : List ℕ)
    → carried_over edit before.network (0, Accept) before.kept ≡ before.kept
    → network ≡ edited edit before.network
    → labels ≡ relabelled edit before.network before.labels
    → touched ≡ filter (λ node. is_number_among before.touched node || touches edit before.network node)
    (ids_of network)
    → record { network = network; labels = labels; touched = touched; kept = before.kept }
    ≡ snapshot_after edit before
parts_after edit before network labels touched kept_are rows_are labels_are touched_are =
    rw (touched_are, labels_are, rows_are) (ap (λ (kept : List (ℕ × Verdict)). record {
      network = edited edit before.network;
      labels = relabelled edit before.network before.labels;
      touched = touched_after edit before.network before.touched;
      kept = kept;
    }) (sym kept_are))

-- rows of the same identities are as many
pub same_many : (rows after : List NodeRow) → ids_of after ≡ ids_of rows → (old : List Bool)
    → length old ≡ length rows → length old ≡ length after
same_many rows after ids old many =
    many ∙ sym (length-map rows (λ (row : NodeRow). row.id)) ∙ sym (ap length ids)
    ∙ length-map after (λ (row : NodeRow). row.id)
