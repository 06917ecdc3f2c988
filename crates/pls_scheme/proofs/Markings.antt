-- Labels of which each says what is right for its node.
use Rattle.std.proofs.Common.{◌≡◌, ◌∙◌, ℕ, Bool, List, length, slice_get, get_or, map, option_map, All, Contains, Option, Some, None, ◌==◌, position, unwrap_or, refl, sym, ap, subst, arith}
use Rattle.std.specs.Option.{option_and_then}
use Rattle.std.proofs.lemmas.List.{length-map}
use Rattle.std.proofs.lemmas.Option.{same_Some, slice_get-get_or, slice_get-map, slice_get_within}
use Rattle.pls_configuration.specs.declared.row.NodeRow.{NodeRow}
use Rattle.pls_configuration.specs.Configuration.{IsNetwork}
use Rattle.pls_graph.proofs.Members.{Contains-from_place, place_from_Contains}
use Rattle.pls_graph.proofs.Placed.{place_of_row}
use Rattle.pls_labels.specs.Seen.{label_of}
use Rattle.pls_labels.proofs.Views.{label_at}
use Rattle.pls_scheme.specs.Judging.{AllAccept, AllHold}
use Rattle.pls_scheme.specs.Marked.{AreRight, IsMarkedBy}
use Rattle.pls_scheme.specs.Reading.{Read, judge_by, read_where}
use Rattle.pls_scheme.specs.Spelled.{AreSpelled}
use Rattle.pls_scheme.specs.laws.Saying.{said_accepted}
use Rattle.pls_graph.proofs.Finds.{item_at}

module _ {L : Type 0} (spells : List Bool → L → Type 0) (says : NodeRow → L → Type 0)
    (rows : List NodeRow) where
  -- what is right, spelled
  pub right_marked : (found : List L) (labels : List (List Bool)) → AreRight says rows found
      → AreSpelled spells found labels → IsMarkedBy spells says rows labels
  right_marked found labels right spelled =
      record { each = spelled.each ∙ right.each; label = label }
    where
      label : (place : ℕ) (row : NodeRow) (bits : List Bool) → slice_get rows place ≡ Some row
          → slice_get labels place ≡ Some bits → (label : L) × spells bits label × says row label
      label place row bits at has =
          let (label, is) : (label : L) × (slice_get found place ≡ Some label) =
          item_at found place (omega (arith, slice_get_within rows place row at, right.each)) in
          (label, spelled.spelled place label bits is has, right.label place row label at is)

  module _ (labels : List (List Bool)) (marked : IsMarkedBy spells says rows labels) where
    module _ (net : IsNetwork rows) where
      -- the label of a node says what is right for it
      pub label_right : (row : NodeRow) → Contains rows row
          → (label : L) × spells (label_of rows labels row.id) label × says row label
      label_right row in' =
          let (i, at) : (i : ℕ) × (slice_get rows i ≡ Some row) = place_from_Contains rows row in' in
          let (bits, has) : (bits : List Bool) × (slice_get labels i ≡ Some bits) =
          item_at labels i (omega (arith, slice_get_within rows i row at, marked.each)) in
          let is = marked.label i row bits at has in
          let same : label_of rows labels row.id ≡ bits =
          label_at rows labels row.id i bits (place_of_row rows net i row at) has in
          (is.0, subst (λ (bits : List Bool). spells bits is.0) (sym same) is.1, is.2)

      module _ (read : List Bool → Option L) (reads : (bits : List Bool) (label : L)
          → spells bits label → read bits ≡ Some label) where
        -- what the labels say, as a function of the identity
        pub right_say : (say : ℕ → L)
            × ((row : NodeRow) → Contains rows row
            → (read (label_of rows labels row.id) ≡ Some (say row.id)) × says row (say row.id))
        right_say = (say, right)
          where
            first : (row : NodeRow) × (slice_get rows 0 ≡ Some row)
            first = item_at rows 0 (let some = net.limits.some in omega (arith, some))

            other : L
            other = (label_right first.0 (Contains-from_place rows 0 first.0 first.1)).0

            say : ℕ → L
            say id = unwrap_or (read (label_of rows labels id)) other

            right : (row : NodeRow) → Contains rows row
                → (read (label_of rows labels row.id) ≡ Some (say row.id)) × says row (say row.id)
            right row in' =
                let is = label_right row in' in
                let found : read (label_of rows labels row.id) ≡ Some is.0 =
                reads (label_of rows labels row.id) is.0 is.1 in
                let same : say row.id ≡ is.0 = ap (λ (read : Option L). unwrap_or read other) found in
                (found ∙ ap Some (sym same), subst (says row) (sym same) is.2)

        -- where rules hold of what is right, marked labels are accepted
        pub marked_accepted : (tests : Read L → List Bool)
            → ((say : ℕ → L) → ((row : NodeRow) → Contains rows row → says row (say row.id))
            → (row : NodeRow) → Contains rows row → AllHold (tests (read_where say row)))
            → AllAccept (judge_by read tests) rows labels
        marked_accepted tests hold =
            let (say, right) : (say : ℕ → L)
            × ((row : NodeRow) → Contains rows row
            → (read (label_of rows labels row.id) ≡ Some (say row.id)) × says row (say row.id)) =
            right_say in
            said_accepted read tests rows net labels say (λ row in'. (right row in').0)
            (hold say (λ row in'. (right row in').1))

-- what is right where labels are made of a list, one of each item
pub right_map : {D L : Type 0} (says : NodeRow → L → Type 0) (rows : List NodeRow) (make : D → L)
    (items : List D) → length items ≡ length rows
    → ((place : ℕ) (row : NodeRow) (item : D) → slice_get rows place ≡ Some row
    → slice_get items place ≡ Some item → says row (make item))
    → AreRight says rows (map make items)
right_map {D} {L} says rows make items each right =
    record { each = length-map items make ∙ each; label = label }
  where
    label : (place : ℕ) (row : NodeRow) (one : L) → slice_get rows place ≡ Some row
        → slice_get (map make items) place ≡ Some one → says row one
    label place row one at has = by (slice_get items place) refl (sym (slice_get-map make items place) ∙ has)
      where
        by : (item : Option D) → slice_get items place ≡ item → option_map make item ≡ Some one
            → says row one
        by None is same = absurd (cc)
        by (Some item) is same =
            let made : make item ≡ one = cc in subst (says row) made (right place row item at is)

-- what is right where the label of each node is made of its row
pub right_rows : {L : Type 0} (says : NodeRow → L → Type 0) (rows : List NodeRow)
    (make : NodeRow → L) → ((row : NodeRow) → says row (make row))
    → AreRight says rows (map make rows)
right_rows says rows make right = right_map says rows make rows refl
    (λ place row item at has.
    subst (λ (item : NodeRow). says row (make item)) (same_Some row item (sym at ∙ has))
    (right row))

-- what is right for each node, as a function of the identity
pub record IsSaidBy {L : Type 0} (says : NodeRow → L → Type 0) (rows : List NodeRow)
    (found : List L) : Type 0 where
  pub say : ℕ → L
  pub right : (row : NodeRow) → Contains rows row → says row (say row.id)
  pub at : (place : ℕ) (row : NodeRow) (label : L) → slice_get rows place ≡ Some row
      → slice_get found place ≡ Some label → label ≡ say row.id

pub said_by_id : {L : Type 0} (says : NodeRow → L → Type 0) (rows : List NodeRow)
    → IsNetwork rows → (found : List L) → AreRight says rows found → IsSaidBy says rows found
said_by_id {L} says rows net found right = record { say = say; right = at_row; at = at_place }
  where
    first : (label : L) × (slice_get found 0 ≡ Some label)
    first = item_at found 0 (let some = net.limits.some in omega (arith, some, right.each))

    say : ℕ → L
    say id =
        unwrap_or (option_and_then (slice_get found) (position (λ row. id == row.id) rows)) first.0

    at_place : (place : ℕ) (row : NodeRow) (label : L) → slice_get rows place ≡ Some row
        → slice_get found place ≡ Some label → label ≡ say row.id
    at_place place row label at has =
        sym (ap (λ (place : Option ℕ). unwrap_or (option_and_then (slice_get found) place) first.0)
        (place_of_row rows net place row at)
        ∙ ap (λ (label : Option L). unwrap_or label first.0) has)

    at_row : (row : NodeRow) → Contains rows row → says row (say row.id)
    at_row row in' =
        let (i, at) : (i : ℕ) × (slice_get rows i ≡ Some row) = place_from_Contains rows row in' in
        let (label, has) : (label : L) × (slice_get found i ≡ Some label) =
        item_at found i (omega (arith, slice_get_within rows i row at, right.each)) in
        subst (says row) (at_place i row label at has) (right.label i row label at has)

module _ {L : Type 0} (says : NodeRow → L → Type 0) (rows : List NodeRow) (found : List L)
    (each : length found ≡ length rows) (said : IsSaidBy says rows found) where
  -- what holds of what is said of each node holds of each label
  pub all_said : (P : L → Type 0) → ((row : NodeRow) → Contains rows row → P (said.say row.id))
      → All P found
  all_said P holds i d within =
      let (row, at) : (row : NodeRow) × (slice_get rows i ≡ Some row) =
      item_at rows i (omega (arith, within, each)) in
      subst P (sym (said.at i row (get_or found i d) at (slice_get-get_or found i d within)))
      (holds row (Contains-from_place rows i row at))

  -- what holds of the spellings of what is said holds of each
  pub all_spelled : (spells : List Bool → L → Type 0) (labels : List (List Bool))
      → AreSpelled spells found labels → (P : List Bool → Type 0)
      → ((row : NodeRow) (bits : List Bool) → Contains rows row → spells bits (said.say row.id)
      → P bits)
      → All P labels
  all_spelled spells labels spelled P holds i d within =
      let (row, at) : (row : NodeRow) × (slice_get rows i ≡ Some row) =
      item_at rows i (omega (arith, within, each, spelled.each)) in
      let (label, has) : (label : L) × (slice_get found i ≡ Some label) =
      item_at found i (omega (arith, within, spelled.each)) in
      holds row (get_or labels i d) (Contains-from_place rows i row at)
      (subst (spells (get_or labels i d)) (said.at i row label at has)
      (spelled.spelled i label (get_or labels i d) has (slice_get-get_or labels i d within)))
