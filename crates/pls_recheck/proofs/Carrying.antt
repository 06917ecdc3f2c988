-- The snapshot after a node joined or left.
use Rattle.std.proofs.Common.{◌≡◌, ◌∙◌, ℕ, ◌≤◌, Bool, true, false, ◌==◌, ◌||◌, List, [], insert, remove, filter, length, slice_get, Some, None, refl, sym, ap, subst, arith}
use Rattle.std.proofs.lemmas.List.Edits.{length-insert, length-remove}
use Rattle.std.proofs.lemmas.Option.{slice_get_within}
use Rattle.pls_configuration.specs.declared.row.NodeRow.{NodeRow}
use Rattle.pls_configuration.specs.declared.verdict.Verdict.{Verdict}
use Rattle.pls_configuration.specs.declared.verdict.Verdict.TheVariants.{Accept}
use Rattle.pls_configuration.specs.Configuration.{IsNetwork, ids_of, row_of}
use Rattle.pls_graph_edits.specs.Edits.{lone_node, join_refusal, joined, leave_refusal, without_node}
use Rattle.pls_graph.specs.Places.{place_in}
use Rattle.pls_edits.specs.declared.edit.Edit.TheVariants.{Join, Leave}
use Rattle.pls_edits.specs.Edited.{place_for}
use Rattle.pls_labels.specs.Seen.{Seen}
use Rattle.pls_recheck.specs.After.{snapshot_after}
use Rattle.pls_recheck.specs.Snapshot.{IsCurrent, Snapshot, is_number_among}
use Rattle.pls_recheck.specs.inner.Flags.{MatchRows, marked}
use Rattle.pls_recheck.proofs.Carried.{Carries, Kept, after_join, after_leave, carried_around, carried_current, carried_touched, join_carries, leave_carries}
use Rattle.pls_recheck.proofs.Cleared.{current_by_flags, current_by_ids}
use Rattle.pls_recheck.proofs.Coming.{joined_at, left_at, may_join, may_leave, place_inside}

-- how it is seen from outside
abbrev pub shown : Kept → Snapshot
shown now =
    record {
      network = now.rows;
      labels = now.labels;
      touched = marked (ids_of now.rows) now.flags;
      kept = now.verdicts;
    }

abbrev pub IsKept : Kept → Type 0
IsKept now = MatchRows now.rows now.labels now.flags now.around now.verdicts

module _ (before : Kept) (net : IsNetwork before.rows) (kept : IsKept before) (now : Kept)
    (valid : IsNetwork now.rows) where
  module _ (passes : ℕ → Bool) (carries : Carries passes before now)
      (many : length now.flags ≡ length now.rows) where
    shown_current : (judge : Seen → Verdict) → IsCurrent judge (shown before)
        → IsCurrent judge (shown now)
    shown_current judge current =
        current_by_ids judge now.rows now.labels now.flags now.verdicts valid many
        (carried_current passes before now carries judge
        (current_by_flags judge before.rows before.labels before.flags before.verdicts net
        kept.a_flag current))

    touched_are : marked (ids_of now.rows) now.flags
        ≡ filter (λ node. is_number_among (marked (ids_of before.rows) before.flags) node || passes node)
        (ids_of now.rows)
    touched_are = carried_touched passes before now carries net kept.a_flag many

  module _ (id mark num i : ℕ) (allowed : join_refusal before.rows id ≡ None)
      (place : i ≡ place_for before.rows id) where
    pub inside : i ≤ length before.rows
    inside = subst (λ (i : ℕ). i ≤ length before.rows) (sym place)
        (place_inside before.rows net id mark num allowed)

    abbrev then : Kept
    then = after_join before.rows before.labels before.flags before.around before.verdicts net
        kept.a_label kept.a_flag kept.noted.as_many kept.a_verdict id mark num i (0, Accept) inside
        (may_join before.rows id allowed)

    module _ (is : now ≡ then) where
      join_is_carried : Carries (λ node. id == node) before now
      join_is_carried = subst (Carries (λ node. id == node) before) (sym is)
          (join_carries before.rows before.labels before.flags before.around before.verdicts net
          kept.a_label kept.a_flag kept.noted.as_many kept.a_verdict id mark num i (0, Accept) inside
          (may_join before.rows id allowed))

      one_more : {X : Type 0} (xs : List X) (x : X) → length xs ≡ length before.rows
          → length (insert xs i x) ≡ length (insert before.rows i (lone_node id mark num))
      one_more xs x many =
          let one = length-insert xs i x (omega (arith, inside, many)) in
          let two = length-insert before.rows i (lone_node id mark num) inside in
          omega (arith, one, two, many)

      pub join_keeps : IsKept now
      join_keeps = subst IsKept (sym is) (record {
        a_label = one_more before.labels [] kept.a_label;
        a_flag = one_more before.flags true kept.a_flag;
        a_verdict = one_more before.verdicts (0, Accept) kept.a_verdict;
        noted = carried_around (λ node. id == node) before then
            (join_carries before.rows before.labels before.flags before.around before.verdicts net
            kept.a_label kept.a_flag kept.noted.as_many kept.a_verdict id mark num i (0, Accept) inside
            (may_join before.rows id allowed))
            (one_more before.around false kept.noted.as_many) kept.noted;
      })

      pub join_makes : shown now ≡ snapshot_after (Join id mark num) (shown before)
      join_makes =
          let rows : now.rows ≡ joined before.rows id mark num =
          ap (λ (now : Kept). now.rows) is
          ∙ ap (λ (i : ℕ). insert before.rows i (lone_node id mark num)) place
          ∙ sym (joined_at before.rows net id mark num allowed) in
          let labels : now.labels ≡ insert before.labels (place_for before.rows id) [] =
          ap (λ (now : Kept). now.labels) is ∙ ap (λ (i : ℕ). insert before.labels i []) place in
          let verdicts : now.verdicts ≡ insert before.verdicts (place_for before.rows id) (0, Accept) =
          ap (λ (now : Kept). now.verdicts) is
          ∙ ap (λ (i : ℕ). insert before.verdicts i (0, Accept)) place in
          rw (
            touched_are (λ node. id == node) join_is_carried join_keeps.a_flag,
            rows,
            labels,
            verdicts,
          ) refl

      pub join_current : (judge : Seen → Verdict) → IsCurrent judge (shown before)
          → IsCurrent judge (shown now)
      join_current = shown_current (λ node. id == node) join_is_carried join_keeps.a_flag

  module _ (id i : ℕ) (row : NodeRow) (at : slice_get before.rows i ≡ Some row) (same : row.id ≡ id)
      (found : row_of before.rows id ≡ Some row) (allowed : leave_refusal before.rows id ≡ None)
      (place : place_in before.rows id ≡ i) where
    pub lone : length row.ports ≡ 0
    lone = may_leave before.rows id row found allowed

    abbrev without : Kept
    without = after_leave before.rows before.labels before.flags before.around before.verdicts net
        kept.a_label kept.a_flag kept.noted.as_many kept.a_verdict i row at lone

    module _ (is : now ≡ without) where
      all_carried : Carries (λ node. false) before without
      all_carried = leave_carries before.rows before.labels before.flags before.around
          before.verdicts net kept.a_label kept.a_flag kept.noted.as_many kept.a_verdict i row at lone

      leave_is_carried : Carries (λ node. false) before now
      leave_is_carried = subst (Carries (λ node. false) before) (sym is) all_carried

      one_less : {X : Type 0} (xs : List X) → length xs ≡ length before.rows
          → length (remove xs i) ≡ length (remove before.rows i)
      one_less xs many =
          let within = slice_get_within before.rows i row at in
          let one = length-remove xs i (omega (arith, within, many)) in
          let two = length-remove before.rows i within in
          omega (arith, one, two, many)

      pub leave_keeps : IsKept now
      leave_keeps = subst IsKept (sym is) (record {
        a_label = one_less before.labels kept.a_label;
        a_flag = one_less before.flags kept.a_flag;
        a_verdict = one_less before.verdicts kept.a_verdict;
        noted = carried_around (λ node. false) before without all_carried
            (one_less before.around kept.noted.as_many) kept.noted;
      })

      pub leave_makes : shown now ≡ snapshot_after (Leave id) (shown before)
      leave_makes =
          let rows : now.rows ≡ without_node before.rows id =
          ap (λ (now : Kept). now.rows) is ∙ sym (left_at before.rows net i row at)
          ∙ ap (λ (id : ℕ). without_node before.rows id) same in
          let labels : now.labels ≡ remove before.labels (place_in before.rows id) =
          ap (λ (now : Kept). now.labels) is ∙ ap (λ (i : ℕ). remove before.labels i) (sym place) in
          let verdicts : now.verdicts ≡ remove before.verdicts (place_in before.rows id) =
          ap (λ (now : Kept). now.verdicts) is
          ∙ ap (λ (i : ℕ). remove before.verdicts i) (sym place) in
          rw (
            touched_are (λ node. false) leave_is_carried leave_keeps.a_flag,
            rows,
            labels,
            verdicts,
          ) refl

      pub leave_current : (judge : Seen → Verdict) → IsCurrent judge (shown before)
          → IsCurrent judge (shown now)
      leave_current = shown_current (λ node. false) leave_is_carried leave_keeps.a_flag
