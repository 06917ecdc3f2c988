-- Labels of nodes in order, each with the identity of its node.
use Rattle.std.proofs.Common.{◌≡◌, ℕ, ◌<◌, ◌≤◌, ◌^◌, zero, suc, nat_lt, Bool, false, List, [], ◌∷◌, ◌++◌, drop, min, take, length, Some, None, refl, sym, ◌∙◌, ap, slice_get, arith}
use Rattle.std.specs.List.{All, sum_by}
use Rattle.std.proofs.lemmas.List.{length-map}
use Rattle.std.proofs.lemmas.List.Sums.{sum_by-cons}
use Rattle.std.proofs.lemmas.List.Elements.{All-nil, All-cons, All-head, All-tail}
use Rattle.std.proofs.lemmas.Bool.{le-ltb}
use Rattle.pls_configuration.specs.declared.row.NodeRow.{NodeRow}
use Rattle.pls_configuration.specs.Configuration.{ids_of}
use Rattle.pls_netfile.specs.NetworkText.{AreRows, FitsRow}
use Rattle.pls_labelfile.specs.Refusal.{labels_refusal}
use Rattle.pls_labelfile.specs.LabelsText.{NamedLabel, FitsLabel, named}
use Rattle.pls_labelfile.specs.LabelsScan.{total_bits}
use Rattle.pls_labelfile.specs.Misfit.{misfit}
use Rattle.pls_labelfile.proofs.Misfits.{names_of, misfit-named}
use Rattle.pls_labelfile.proofs.Filled.{bare}

-- labels are those with their identities and their bits
pub named-parts : (labels : List NamedLabel) → named (names_of labels) (bare labels) ≡ labels
named-parts [] = refl
named-parts (label ∷ labels) =
    ap (λ (others : List NamedLabel). label ∷ others) (named-parts labels)

-- they name the nodes
pub names_of-named : (ids : List ℕ) (labels : List (List Bool)) → length labels ≡ length ids
    → names_of (named ids labels) ≡ ids
names_of-named [] labels long = refl
names_of-named (id ∷ ids) [] long = absurd (omega arith)
names_of-named (id ∷ ids) (bits ∷ labels) long =
    ap (λ (others : List ℕ). id ∷ others) (names_of-named ids labels (omega arith))

-- without the identities they are the labels
pub bare-named : (ids : List ℕ) (labels : List (List Bool)) → length labels ≡ length ids
    → bare (named ids labels) ≡ labels
bare-named [] [] long = refl
bare-named [] (bits ∷ labels) long = absurd (omega arith)
bare-named (id ∷ ids) [] long = absurd (omega arith)
bare-named (id ∷ ids) (bits ∷ labels) long =
    ap (λ (others : List (List Bool)). bits ∷ others) (bare-named ids labels (omega arith))

-- as many bits as the labels have
pub total_bits-named : (ids : List ℕ) (labels : List (List Bool)) → length labels ≡ length ids
    → total_bits (named ids labels) ≡ sum_by length labels
total_bits-named [] [] long = refl
total_bits-named [] (bits ∷ labels) long = absurd (omega arith)
total_bits-named (id ∷ ids) [] long = absurd (omega arith)
total_bits-named (id ∷ ids) (bits ∷ labels) long =
    omega (
      arith,
      total_bits-named ids labels (omega arith),
      sum_by-cons (length {A = Bool}) bits labels,
      sum_by-cons (λ (label : NamedLabel). length label.bits) (record { id = id; bits = bits })
          (named ids labels),
    )

-- each fits where the identities and the labels do
pub named_fit : (ids : List ℕ) (labels : List (List Bool)) → All (λ id. id < 2 ^ 32) ids
    → All (λ bits. length bits ≤ 2 ^ 28) labels → All FitsLabel (named ids labels)
named_fit [] labels p q = All-nil FitsLabel
named_fit (id ∷ ids) [] p q = All-nil FitsLabel
named_fit (id ∷ ids) (bits ∷ labels) p q =
    All-cons FitsLabel (record { id = id; bits = bits }) (named ids labels)
    (record {
      id = All-head (λ (id : ℕ). id < 2 ^ 32) id ids p;
      short = All-head (λ (bits : List Bool). length bits ≤ 2 ^ 28) bits labels q;
    })
    (named_fit ids labels (All-tail (λ (id : ℕ). id < 2 ^ 32) id ids p)
    (All-tail (λ (bits : List Bool). length bits ≤ 2 ^ 28) bits labels q))

-- and they fit the nodes
pub named_no_misfit : (ids : List ℕ) (labels : List (List Bool)) → length labels ≡ length ids
    → misfit ids (named ids labels) ≡ None
named_no_misfit ids labels long =
    ap (λ (names : List ℕ). misfit names (named ids labels)) (sym (names_of-named ids labels long))
    ∙ misfit-named (named ids labels)

-- one label more
pub named-take : (ids : List ℕ) (labels : List (List Bool)) (i : ℕ) (id : ℕ) (bits : List Bool)
    → slice_get ids i ≡ Some id
    → slice_get labels i ≡ Some bits
    → named (take (suc i) ids) (take (suc i) labels) ≡ named (take i ids) (take i labels)
    ++ record { id = id; bits = bits } ∷ []
named-take [] labels i id bits p q = absurd (cc)
named-take (x ∷ ids) [] i id bits p q = absurd (cc)
named-take (x ∷ ids) (y ∷ labels) zero id bits p q =
    let id_is : x ≡ id = cc in
    let bits_are : y ≡ bits = cc in
    λ i. record { id = id_is i; bits = bits_are i } ∷ []
named-take (x ∷ ids) (y ∷ labels) (suc i) id bits p q =
    ap (λ (others : List NamedLabel). record { id = x; bits = y } ∷ others)
    (named-take ids labels i id bits p q)

-- no labels are named as none
named-bare : (ids : List ℕ) → named ids [] ≡ []
named-bare [] = refl
named-bare (id ∷ ids) = refl

-- the first of the labels and the others
pub named-split : (ids : List ℕ) (labels : List (List Bool)) (i : ℕ)
    → named (take i ids) (take i labels) ++ named (drop i ids) (drop i labels) ≡ named ids labels
named-split ids labels zero = refl
named-split [] labels (suc i) = refl
named-split (id ∷ ids) [] (suc i) = named-bare (drop i ids)
named-split (id ∷ ids) (bits ∷ labels) (suc i) =
    ap (λ (others : List NamedLabel). record { id = id; bits = bits } ∷ others)
    (named-split ids labels i)

-- none is behind the last of the identities or of the labels
pub named-none : (ids : List ℕ) (labels : List (List Bool)) (i : ℕ)
    → min (length ids) (length labels) ≤ i → named (drop i ids) (drop i labels) ≡ []
named-none [] labels zero all = refl
named-none (id ∷ ids) [] zero all = refl
named-none (id ∷ ids) (bits ∷ labels) zero all = absurd (omega (arith, all))
named-none [] labels (suc i) all = refl
named-none (id ∷ ids) [] (suc i) all = named-bare (drop i ids)
named-none (id ∷ ids) (bits ∷ labels) (suc i) all = named-none ids labels i (omega (arith, all))

-- no label has more bits than all of them
pub each_short : (labels : List (List Bool)) (most : ℕ) → sum_by length labels ≤ most
    → All (λ bits. length bits ≤ most) labels
each_short [] most few = All-nil (λ bits. length bits ≤ most)
each_short (bits ∷ labels) most few =
    let sum = sum_by-cons (length {A = Bool}) bits labels in
    All-cons (λ bits. length bits ≤ most) bits labels (omega arith)
    (each_short labels most (omega arith))

-- the identities of rows that can stand in a text are below 2^32
ids_small : (rows : List NodeRow) → All FitsRow rows → All (λ id. id < 2 ^ 32) (ids_of rows)
ids_small [] fits = All-nil (λ id. id < 2 ^ 32)
ids_small (row ∷ rows) fits =
    All-cons (λ id. id < 2 ^ 32) row.id (ids_of rows) (All-head FitsRow row rows fits).id
    (ids_small rows (All-tail FitsRow row rows fits))

-- labels with few bits, named by the nodes of a network, can stand in a text
pub net_labels_fit : (rows : List NodeRow) (labels : List (List Bool)) → AreRows rows
    → sum_by length labels ≤ 2 ^ 28
    → All FitsLabel (named (ids_of rows) labels)
net_labels_fit rows labels rows_fit few =
    named_fit (ids_of rows) labels (ids_small rows rows_fit.each) (each_short labels (2 ^ 28) few)

-- and nothing refuses them
pub net_labels_accepted : (rows : List NodeRow) (labels : List (List Bool)) (heading : ℕ)
    → length labels ≡ length rows
    → sum_by length labels ≤ 2 ^ 28
    → labels_refusal (ids_of rows) heading (named (ids_of rows) labels) ≡ None
net_labels_accepted rows labels heading long few =
    let ids_long : length labels ≡ length (ids_of rows) =
    long ∙ sym (length-map rows (λ row. row.id)) in
    let test : nat_lt (2 ^ 28) (total_bits (named (ids_of rows) labels)) ≡ false =
    le-ltb (2 ^ 28) (total_bits (named (ids_of rows) labels))
    (omega (arith, total_bits-named (ids_of rows) labels ids_long)) in
    rw (test, named_no_misfit (ids_of rows) labels ids_long) refl
