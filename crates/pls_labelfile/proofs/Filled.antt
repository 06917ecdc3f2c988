-- How a store is filled from a text, node by node.
use Rattle.std.proofs.Common.{◌≡◌, ◌≢◌, ℕ, ◌+◌, ◌*◌, ◌<◌, ◌≤◌, Bool, List, [], ◌∷◌, ◌++◌, map, length, Some, None, replicate, refl, sym, ◌∙◌, ap, append_assoc, append-nil, length-append, arith}
use Rattle.std.specs.List.{slice_get, slice_set}
use Rattle.std.specs.Option.{option_map}
use Rattle.std.proofs.Math.Seq.{set-append_seam}
use Rattle.std.proofs.lemmas.List.{map_push, length-map}
use Rattle.std.proofs.lemmas.List.Sums.{sum_by-cons}
use Rattle.std.proofs.lemmas.Option.{slice_get-map}
use Rattle.pls_configuration.specs.declared.row.NodeRow.{NodeRow}
use Rattle.pls_configuration.specs.Configuration.{ids_of}
use Rattle.pls_lines.specs.ListPart.{NextItem, Remains}
use Rattle.pls_labelfile.specs.LabelsText.{NamedLabel, FitsLabel, label_line}
use Rattle.pls_labels.specs.Stored.{cost}
use Rattle.pls_labelfile.specs.LabelsScan.{total_bits}
use Rattle.pls_labelfile.specs.Misfit.{misfit}
use Rattle.pls_labelfile.proofs.Misfits.{names_of, misfit-append, misfit-first}

-- the labels without the identities that they name
abbrev pub bare : List NamedLabel → List (List Bool)
bare labels = map (λ label. label.bits) labels

-- so many of the labels were read and name the first nodes; the text says the others, and the store
-- has the bits of those that were read and room for the others, each in words of its own
pub record Filled (ids : List ℕ) (labels : List NamedLabel) (rest : List ℕ)
    (store : List (List Bool)) (count spare : ℕ) : Type 0 where
  pub read : List NamedLabel
  pub more : List NamedLabel
  pub parts : labels ≡ read ++ more
  pub remains : Remains FitsLabel label_line rest more
  pub left : List ℕ
  pub names : ids ≡ names_of read ++ left
  pub many : count ≡ length read
  pub filled : store ≡ bare read ++ replicate (length left) []
  pub room : total_bits more + 64 * length left ≤ spare

-- nothing was read yet
pub nothing_read : (rows : List NodeRow) (text : List ℕ) (store : List (List Bool))
    → store ≡ replicate (length rows) [] → (spare : ℕ) → (labels : List NamedLabel)
    → total_bits labels + 64 * length rows ≤ spare
    → Remains FitsLabel label_line text labels → Filled (ids_of rows) labels text store 0 spare
nothing_read rows text store blank spare labels room remains = record {
  read = [];
  more = labels;
  parts = refl;
  remains = remains;
  left = ids_of rows;
  names = refl;
  many = refl;
  filled = blank ∙ ap (λ (n : ℕ). replicate n []) (sym (length-map rows (λ row. row.id)));
  room = omega (arith, room, length-map rows (λ row. row.id));
}

-- none is left
abbrev pub NoneLeft : List ℕ → Type 0
NoneLeft rest = (items : List NamedLabel) → Remains FitsLabel label_line rest items → items ≡ []

-- this is the next, and others stand behind it
abbrev pub IsNext : List ℕ → NamedLabel → List ℕ → Type 0
IsNext rest label after = (items : List NamedLabel) → Remains FitsLabel label_line rest items
    → NextItem FitsLabel label_line items label after

-- ---- the node at the place

-- the identity at the place is the first of those that are left
pub record FirstLeft (left : List ℕ) (id : ℕ) : Type 0 where
  pub others : List ℕ
  pub is : left ≡ id ∷ others

-- where a list ends and another begins
seam : (a left : List ℕ) (id : ℕ) → slice_get (a ++ left) (length a) ≡ Some id → FirstLeft left id
seam [] [] id e = absurd (cc)
seam [] (x ∷ left) id e =
    let same : x ≡ id = cc in record { others = left; is = ap (λ (y : ℕ). y ∷ left) same }
seam (y ∷ a) left id e = seam a left id e

-- the node at the place is the first of those that are left
pub first_left : (rows : List NodeRow) (labels : List NamedLabel) (rest : List ℕ)
    (store : List (List Bool)) (place spare id : ℕ)
    → (f : Filled (ids_of rows) labels rest store place spare)
    → option_map (λ row. row.id) (slice_get rows place) ≡ Some id
    → FirstLeft f.left id
first_left rows labels rest store place spare id f at =
    let ids_at : slice_get (ids_of rows) place ≡ Some id =
    slice_get-map (λ (row : NodeRow). row.id) rows place ∙ at in
    let count : place ≡ length (names_of f.read) =
    f.many ∙ sym (length-map f.read (λ label. label.id)) in
    seam (names_of f.read) f.left id
    (ap (slice_get (names_of f.read ++ f.left)) (sym count)
    ∙ ap (λ (ids : List ℕ). slice_get ids place) (sym f.names) ∙ ids_at)

-- how many nodes are left
left_count : (rows : List NodeRow) (labels : List NamedLabel) (rest : List ℕ)
    (store : List (List Bool)) (count spare : ℕ)
    → (f : Filled (ids_of rows) labels rest store count spare) → length rows ≡ count + length f.left
left_count rows labels rest store count spare f =
    omega (
      arith,
      f.many,
      length-map rows (λ row. row.id),
      ap length f.names,
      length-append (names_of f.read) f.left,
      length-map f.read (λ label. label.id),
    )

-- nodes are left, labels are left, neither is left
misfit-nodes_left : (left : List ℕ) → 0 < length left → misfit left [] ≡ Some 0
misfit-nodes_left [] some = absurd (omega arith)
misfit-nodes_left (id ∷ left) some = refl

misfit-labels_left : (left : List ℕ) (label : NamedLabel) (more : List NamedLabel) → length left ≡ 0
    → misfit left (label ∷ more) ≡ Some 0
misfit-labels_left [] label more none = refl
misfit-labels_left (id ∷ left) label more none = absurd (omega arith)

misfit-none_left : (left : List ℕ) → length left ≡ 0 → misfit left [] ≡ None
misfit-none_left [] none = refl
misfit-none_left (id ∷ left) none = absurd (omega arith)

-- ---- where the reading stops

module _ (rows : List NodeRow) (labels : List NamedLabel) (rest : List ℕ)
    (store : List (List Bool)) (count spare : ℕ)
    (f : Filled (ids_of rows) labels rest store count spare) where
  -- the labels of the text, by those left
  decided : misfit (ids_of rows) labels ≡ option_map (λ p. p + count) (misfit f.left f.more)
  decided = rw (f.parts, f.names, misfit-append f.read f.more f.left, f.many) refl

  -- the first of what is left does not fit
  stops : misfit f.left f.more ≡ Some 0 → Some count ≡ misfit (ids_of rows) labels
  stops first =
      let place : 0 + count ≡ count = omega arith in
      sym (decided ∙ ap (option_map (λ p. p + count)) first ∙ ap (λ (n : ℕ). Some n) place)

  -- `end` comes while nodes are left
  pub end_too_early : count < length rows → NoneLeft rest
      → Some count ≡ misfit (ids_of rows) labels
  end_too_early within end =
      stops (ap (misfit f.left) (end f.more f.remains) ∙ misfit-nodes_left f.left
      (omega (arith, left_count rows labels rest store count spare f)))

  -- the next label names another node
  pub other_node : (after : List ℕ) (id : ℕ) (label : NamedLabel)
      → option_map (λ row. row.id) (slice_get rows count) ≡ Some id
      → IsNext rest label after → label.id ≢ id → Some count ≡ misfit (ids_of rows) labels
  other_node after id label at is_next other =
      let first = first_left rows labels rest store count spare id f at in
      let next = is_next f.more f.remains in
      stops (ap (λ (ids : List ℕ). misfit ids f.more) first.is
      ∙ ap (misfit (id ∷ first.others)) next.are
      ∙ misfit-first id first.others label next.more (λ same. other (sym same)))

  -- a label stands where no node is left
  pub label_too_many : (after : List ℕ) (label : NamedLabel) → length rows ≤ count
      → IsNext rest label after → Some count ≡ misfit (ids_of rows) labels
  label_too_many after label all is_next =
      let next = is_next f.more f.remains in
      let none : length f.left ≡ 0 = omega (arith, left_count rows labels rest store count spare f) in
      stops (ap (misfit f.left) next.are ∙ misfit-labels_left f.left label next.more none)

  -- all labels were read, one for each node
  pub none_misfits : length rows ≤ count → NoneLeft rest → None ≡ misfit (ids_of rows) labels
  none_misfits all end =
      let none : length f.left ≡ 0 = omega (arith, left_count rows labels rest store count spare f) in
      sym (decided ∙ ap (option_map (λ p. p + count))
      (ap (misfit f.left) (end f.more f.remains) ∙ misfit-none_left f.left none))

  -- and then the store has the bits of all
  pub all_filled : length rows ≤ count → NoneLeft rest → store ≡ bare labels
  all_filled all end =
      let more = end f.more f.remains in
      let none : length f.left ≡ 0 = omega (arith, left_count rows labels rest store count spare f) in
      f.filled ∙ ap (λ (n : ℕ). bare f.read ++ replicate n []) none ∙ append-nil (bare f.read)
      ∙ ap bare (sym (f.parts ∙ ap (λ (ls : List NamedLabel). f.read ++ ls) more
      ∙ append-nil f.read))

  -- the next label names the node at the place, and its bits were put there
  pub one_filled_more : (after : List ℕ) (now : List (List Bool)) (left_spare id : ℕ)
      (label : NamedLabel)
      → option_map (λ row. row.id) (slice_get rows count) ≡ Some id
      → IsNext rest label after → label.id ≡ id → now ≡ slice_set store count label.bits
      → left_spare + cost (length label.bits) ≡ spare
      → Filled (ids_of rows) labels after now (count + 1) left_spare
  one_filled_more after now left_spare id label at is_next same set costs =
      let first = first_left rows labels rest store count spare id f at in
      let next = is_next f.more f.remains in
      let seam : count ≡ length (bare f.read) =
      f.many ∙ sym (length-map f.read (λ label. label.bits)) in
      record {
        read = f.read ++ label ∷ [];
        more = next.more;
        parts = f.parts ∙ ap (λ (ls : List NamedLabel). f.read ++ ls) next.are
            ∙ sym (append_assoc f.read (label ∷ []) next.more);
        remains = next.remains;
        left = first.others;
        names = f.names ∙ ap (λ (ids : List ℕ). names_of f.read ++ ids)
            (first.is ∙ ap (λ (n : ℕ). n ∷ first.others) (sym same))
            ∙ sym (append_assoc (names_of f.read) (label.id ∷ []) first.others)
            ∙ ap (λ (ids : List ℕ). ids ++ first.others)
            (sym (map_push (λ (label : NamedLabel). label.id) f.read label));
        many = omega (arith, f.many, length-append f.read (label ∷ []));
        filled = set
            ∙ ap (λ (s : List (List Bool)). slice_set s count label.bits)
            (f.filled ∙ ap (λ (ids : List ℕ). bare f.read ++ replicate (length ids) []) first.is)
            ∙ ap (λ (n : ℕ). slice_set (bare f.read ++ [] ∷ replicate (length first.others) []) n
            label.bits) seam
            ∙ set-append_seam (bare f.read) [] (replicate (length first.others) []) label.bits
            ∙ sym (append_assoc (bare f.read) (label.bits ∷ [])
            (replicate (length first.others) []))
            ∙ ap (λ (s : List (List Bool)). s ++ replicate (length first.others) [])
            (sym (map_push (λ (label : NamedLabel). label.bits) f.read label));
        room = omega (
          arith,
          f.room,
          costs,
          ap total_bits next.are,
          sum_by-cons (λ (label : NamedLabel). length label.bits) label next.more,
          ap length first.is,
        );
      }

  -- and there is room for them
  pub room_for : (after : List ℕ) (id : ℕ) (label : NamedLabel)
      → option_map (λ row. row.id) (slice_get rows count) ≡ Some id
      → IsNext rest label after → cost (length label.bits) ≤ spare
  room_for after id label at is_next =
      let first = first_left rows labels rest store count spare id f at in
      let next = is_next f.more f.remains in
      omega (
        arith,
        f.room,
        ap total_bits next.are,
        sum_by-cons (λ (label : NamedLabel). length label.bits) label next.more,
        ap length first.is,
      )
