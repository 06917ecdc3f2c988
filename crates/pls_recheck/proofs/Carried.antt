-- Where nodes come and go: each node is a new one, or it stood at a place and all that is kept of
-- it came along.
use Rattle.std.proofs.Common.{◌≡◌, ◌≢◌, ◌∙◌, ◌⊎◌, inl, inr, ℕ, ◌≤◌, Bool, true, false, ◌==◌, ◌||◌, List, [], insert, remove, filter, length, slice_get, position, Some, None, option_map, refl, sym, ap, arith, get_or}
use Rattle.std.proofs.lemmas.Bool.{cases_order, eq-eqb, ne_eqb}
use Rattle.std.proofs.lemmas.List.{length-map, nil_from_length}
use Rattle.std.proofs.lemmas.Option.{same_Some, slice_get-map, slice_get-get_or, slice_get_within}
use Rattle.pls_configuration.specs.declared.row.Port.{Port}
use Rattle.pls_configuration.specs.declared.row.NodeRow.{NodeRow}
use Rattle.pls_configuration.specs.declared.verdict.Verdict.{Verdict}
use Rattle.pls_configuration.specs.Configuration.{IsNetwork, ids_of, port_to, row_of}
use Rattle.pls_graph_edits.specs.Edits.{lone_node}
use Rattle.pls_graph_edits.specs.inner.Gaps.{place_with, place_without}
use Rattle.pls_graph.proofs.Finds.{fails_where_none, from_option_map}
use Rattle.pls_graph.proofs.Placed.{WayBack, ids_differ, place_of_row, row_of_place, way_back}
use Rattle.pls_labels.specs.Seen.{Seen, label_of, seen, seen_port}
use Rattle.pls_recheck.specs.Snapshot.{is_number_among}
use Rattle.pls_recheck.specs.inner.Flags.{AreAround, AreCurrent, marked}
use Rattle.pls_recheck.proofs.Marked.{among_marked, flags_filter}
use Rattle.pls_recheck.proofs.Relabelled.{map_at}
use Rattle.pls_recheck.proofs.Shifted.{insert_here, insert_other, label_of-insert, label_of-remove, other_place, remove_at}
use Rattle.pls_recheck.proofs.Touching.{or_false, or_true}

-- a network with all that is kept of its nodes
pub record Kept : Type 0 where
  pub rows : List NodeRow
  pub labels : List (List Bool)
  pub flags : List Bool
  pub around : List Bool
  pub verdicts : List (ℕ × Verdict)

-- the node at a place is new and touched
pub record IsFresh (passes : ℕ → Bool) (after : Kept) (place : ℕ) (row : NodeRow) : Type 0 where
  pub touched : slice_get after.flags place ≡ Some true
  pub not_noted : slice_get after.around place ≡ Some false
  pub passed : passes row.id ≡ true

-- the node at a place stood somewhere and sees what it saw
pub record HasStood (passes : ℕ → Bool) (before after : Kept) (place : ℕ) (row : NodeRow)
    : Type 0 where
  pub was : ℕ
  pub at : slice_get before.rows was ≡ Some row
  pub flag : slice_get after.flags place ≡ slice_get before.flags was
  pub note : slice_get after.around place ≡ slice_get before.around was
  pub verdict : slice_get after.verdicts place ≡ slice_get before.verdicts was
  pub sees : seen (label_of before.rows before.labels) row
      ≡ seen (label_of after.rows after.labels) row
  pub failed : passes row.id ≡ false

abbrev pub Carries : (ℕ → Bool) → Kept → Kept → Type 0
Carries passes before after = (place : ℕ) (row : NodeRow) → slice_get after.rows place ≡ Some row
    → IsFresh passes after place row ⊎ HasStood passes before after place row

module _ (passes : ℕ → Bool) (before after : Kept) (carries : Carries passes before after) where
  module _ (net : IsNetwork before.rows) (many : length before.flags ≡ length before.rows)
      (as_many : length after.flags ≡ length after.rows) where
    -- the nodes that are touched then
    pub carried_touched : marked (ids_of after.rows) after.flags
        ≡ filter (λ node. is_number_among (marked (ids_of before.rows) before.flags) node || passes node)
        (ids_of after.rows)
    carried_touched = flags_filter
        (λ node. is_number_among (marked (ids_of before.rows) before.flags) node || passes node)
        (ids_of after.rows) after.flags
        (let ids = length-map after.rows (λ (row : NodeRow). row.id) in omega (arith, as_many, ids))
        flag_at
      where
        flag_at : (k id : ℕ) → slice_get (ids_of after.rows) k ≡ Some id
            → slice_get after.flags k
            ≡ Some (is_number_among (marked (ids_of before.rows) before.flags) id || passes id)
        flag_at k id at =
            let row : (row : NodeRow) × (slice_get after.rows k ≡ Some row) × (row.id ≡ id) =
            from_option_map (λ (row : NodeRow). row.id) (slice_get after.rows k) id
            (sym (slice_get-map (λ (row : NodeRow). row.id) after.rows k) ∙ at) in
            let among : Bool = is_number_among (marked (ids_of before.rows) before.flags) id in
            let test : passes id ≡ passes row.0.id = ap passes (sym row.2) in
            elim (carries k row.0 row.1) [
              | inl fresh ↦ fresh.touched ∙ ap (λ (b : Bool). Some b)
                  (or_true among ∙ ap (λ (b : Bool). among || b) (sym (test ∙ fresh.passed)))
              | inr stood ↦
                  let within = slice_get_within before.rows stood.was row.0 stood.at in
                  let flag : Bool = get_or before.flags stood.was false in
                  let has : slice_get before.flags stood.was ≡ Some flag =
                  slice_get-get_or before.flags stood.was false (omega (arith, within, many)) in
                  let ids : slice_get (ids_of before.rows) stood.was ≡ Some id =
                  slice_get-map (λ (row : NodeRow). row.id) before.rows stood.was
                  ∙ ap (option_map (λ (row : NodeRow). row.id)) stood.at
                  ∙ ap (λ (id : ℕ). Some id) row.2 in
                  let is : among ≡ flag = among_marked (ids_of before.rows) before.flags stood.was
                  id flag (ids_differ before.rows net) ids has in
                  stood.flag ∙ has ∙ ap (λ (b : Bool). Some b) (sym is ∙ or_false among
                  ∙ ap (λ (b : Bool). among || b) (sym (test ∙ stood.failed)))
            ]

  -- what was current is so
  pub carried_current : (judge : Seen → Verdict)
      → AreCurrent judge before.rows before.labels before.flags before.verdicts
      → AreCurrent judge after.rows after.labels after.flags after.verdicts
  carried_current judge current k view at unset =
      let shows : Seen → Type 0 = λ view. slice_get after.verdicts k ≡ Some (view.id, judge view) in
      let row : (row : NodeRow) × (slice_get after.rows k ≡ Some row)
      × (seen (label_of after.rows after.labels) row ≡ view) =
      from_option_map (seen (label_of after.rows after.labels)) (slice_get after.rows k) view
      (sym (slice_get-map (seen (label_of after.rows after.labels)) after.rows k) ∙ at) in
      elim (carries k row.0 row.1) [
        | inl fresh ↦
            let no : true ≡ false = same_Some true false (sym fresh.touched ∙ unset) in
            absurd (cc no)
        | inr stood ↦ stood.verdict ∙ current stood.was view
            (slice_get-map (seen (label_of before.rows before.labels)) before.rows stood.was
            ∙ ap (option_map (seen (label_of before.rows before.labels))) stood.at
            ∙ ap (λ (view : Seen). Some view) (stood.sees ∙ row.2)) (sym stood.flag ∙ unset)
      ]

  -- and so are the notes
  pub carried_around : length after.around ≡ length after.rows
      → AreAround before.rows before.flags before.around
      → AreAround after.rows after.flags after.around
  carried_around many were = record {
    as_many = many;
    each = λ k j row other at noted there near. elim (carries j other there) [
      | inl fresh ↦ fresh.touched
      | inr stood ↦ elim (carries k row at) [
        | inl fresh ↦
            let no : true ≡ false = same_Some true false (sym noted ∙ fresh.not_noted) in
            absurd (cc no)
        | inr from ↦ stood.flag ∙ were.each from.was stood.was row other from.at
            (sym from.note ∙ noted) stood.at near
      ]
    ];
  }

-- a row is seen alike where its own label and those that its ports show are alike
seen_alike : (label other : ℕ → List Bool) (row : NodeRow) → label row.id ≡ other row.id
    → ((p : ℕ) (port : Port) → slice_get row.ports p ≡ Some port
    → label port.nbr ≡ other port.nbr) → seen label row ≡ seen other row
seen_alike label other row own beyond =
    rw (
      own,
      map_at (seen_port label) (seen_port other) row.ports
          (λ p port has. rw (beyond p port has) refl),
    ) refl

module _ (rows : List NodeRow) (labels : List (List Bool)) (flags around : List Bool)
    (kept : List (ℕ × Verdict)) (net : IsNetwork rows) (a_label : length labels ≡ length rows)
    (a_flag : length flags ≡ length rows) (a_note : length around ≡ length rows)
    (a_verdict : length kept ≡ length rows) where
  abbrev were : Kept
  were = record { rows = rows; labels = labels; flags = flags; around = around; verdicts = kept }

  module _ (id mark num i : ℕ) (found : ℕ × Verdict) (inside : i ≤ length rows)
      (none : row_of rows id ≡ None) where
    abbrev pub after_join : Kept
    after_join = record {
      rows = insert rows i (lone_node id mark num);
      labels = insert labels i [];
      flags = insert flags i true;
      around = insert around i false;
      verdicts = insert kept i found;
    }

    pub join_carries : Carries (λ node. id == node) were after_join
    join_carries j row at = elim (cases_order j i) [
      | inl here ↦ inl (fresh j row at here)
      | inr apart ↦ inr (stood j row at (λ e. elim apart [
        | inl before ↦ absurd (omega (arith, before, e))
        | inr after ↦ absurd (omega (arith, after, e))
      ]))
    ]
      where
        fresh : (j : ℕ) (row : NodeRow) → slice_get (insert rows i (lone_node id mark num)) j ≡ Some row
            → j ≡ i → IsFresh (λ node. id == node) after_join j row
        fresh j row at here =
            let is : lone_node id mark num ≡ row = same_Some (lone_node id mark num) row
            (sym (insert_here rows i (lone_node id mark num) inside)
            ∙ ap (slice_get (insert rows i (lone_node id mark num))) (sym here) ∙ at) in
            record {
              touched = ap (slice_get (insert flags i true)) here
                  ∙ insert_here flags i true (omega (arith, inside, a_flag));
              not_noted = ap (slice_get (insert around i false)) here
                  ∙ insert_here around i false (omega (arith, inside, a_note));
              passed = eq-eqb id row.id (ap (λ (row : NodeRow). row.id) is);
            }

        stood : (j : ℕ) (row : NodeRow) → slice_get (insert rows i (lone_node id mark num)) j ≡ Some row
            → j ≢ i → HasStood (λ node. id == node) were after_join j row
        stood j row at other =
            let was = sym (insert_other rows i j (lone_node id mark num) inside other) ∙ at in
            let failed : (id == row.id) ≡ false =
            fails_where_none (λ (row : NodeRow). id == row.id) rows (place_without i j) row none was in
            record {
              was = place_without i j;
              at = was;
              flag = insert_other flags i j true (omega (arith, inside, a_flag)) other;
              note = insert_other around i j false (omega (arith, inside, a_note)) other;
              verdict = insert_other kept i j found (omega (arith, inside, a_verdict)) other;
              sees = seen_alike (label_of rows labels)
                  (label_of (insert rows i (lone_node id mark num)) (insert labels i [])) row
                  (sym (label_of-insert rows labels i (lone_node id mark num) [] row.id a_label inside
                  (ne_eqb row.id id (λ e. let no : true ≡ false = sym (eq-eqb id row.id (sym e)) ∙ failed in
                  absurd (cc no)))))
                  (λ p port has.
                  let way : WayBack rows row port = way_back rows net (place_without i j) row was p port has in
                  sym (label_of-insert rows labels i (lone_node id mark num) [] port.nbr a_label inside
                  (ne_eqb port.nbr id (λ e.
                  let no : None ≡ Some way.other = sym none ∙ ap (row_of rows) (sym e) ∙ way.named in
                  absurd (cc no)))));
              failed = failed;
            }

  module _ (i : ℕ) (row : NodeRow) (at : slice_get rows i ≡ Some row)
      (lone : length row.ports ≡ 0) where
    abbrev pub after_leave : Kept
    after_leave = record {
      rows = remove rows i;
      labels = remove labels i;
      flags = remove flags i;
      around = remove around i;
      verdicts = remove kept i;
    }

    pub leave_carries : Carries (λ node. false) were after_leave
    leave_carries j other there =
        let was = sym (remove_at rows i j) ∙ there in
        inr (record {
          was = place_with i j;
          at = was;
          flag = remove_at flags i j;
          note = remove_at around i j;
          verdict = remove_at kept i j;
          sees = seen_alike (label_of rows labels) (label_of (remove rows i) (remove labels i)) other
              (sym (label_of-remove rows labels i row other.id a_label at
              (ne_eqb other.id row.id (λ e. other_place i j
              (same_Some (place_with i j) i (sym (place_of_row rows net (place_with i j) other was)
              ∙ ap (λ (id : ℕ). position (λ (row : NodeRow). id == row.id) rows) e
              ∙ place_of_row rows net i row at))))))
              (λ p port has.
              sym (label_of-remove rows labels i row port.nbr a_label at
              (ne_eqb port.nbr row.id (λ e. no_port (place_with i j) other was p port has e))));
          failed = refl;
        })
      where
        no_port : (k : ℕ) (other : NodeRow) → slice_get rows k ≡ Some other → (p : ℕ) (port : Port)
            → slice_get other.ports p ≡ Some port → port.nbr ≡ row.id → ⊥
        no_port k other was p port has e =
            let way : WayBack rows other port = way_back rows net k other was p port has in
            let same : way.other ≡ row = same_Some way.other row
            (sym way.named ∙ ap (row_of rows) e ∙ row_of_place rows net i row at) in
            let none : row.ports ≡ [] = nil_from_length row.ports lone in
            let back : port_to row other.id ≡ Some way.back =
            ap (λ (row : NodeRow). port_to row other.id) (sym same) ∙ way.returns in
            let nothing : None ≡ Some way.back = sym (rw none refl) ∙ back in
            absurd (cc nothing)
