-- The text of labels, written line by line.
use Rattle.std.proofs.Common.{◌≡◌, ℕ, ◌+◌, ◌<◌, ◌≤◌, ◌^◌, zero, suc, Bool, List, [], ◌∷◌, ◌++◌, ◌*◌, drop, map, min, take, length, Some, codes, decimal, refl, sym, ◌∙◌, ap, subst, slice_get, option_map, append_assoc, add-one, arith}
use Rattle.std.specs.List.{All}
use Rattle.std.proofs.lemmas.List.Elements.{All-push}
use Rattle.std.proofs.Math.Seq.{take-add}
use Rattle.std.proofs.lemmas.List.{length-map, map-append, map_push}
use Rattle.std.proofs.lemmas.Option.{slice_get-map}
use Rattle.pls_configuration.specs.declared.row.NodeRow.{NodeRow}
use Rattle.pls_configuration.specs.Configuration.{ids_of}
use Rattle.pls_lines.specs.Text.{text_of}
use Rattle.pls_lines.specs.laws.Fronts.{text_of-append}
use Rattle.pls_bits.specs.Hex.{hex_digits}
use Rattle.pls_bits.specs.declared.code_name.CodeName.{CodeName}
use Rattle.pls_labelfile.specs.LabelsText.{NamedLabel, hex_word, label_line, label_of_words, labelling_of, labels_heading_text, labels_text, named}
use Rattle.pls_labelfile.specs.laws.LabelLaws.{words_behind}
use Rattle.pls_labelfile.proofs.Named.{named-none, named-split, named-take}

-- the lines of a labels part up to the labels of the first nodes
abbrev pub lines_so_far : CodeName → List NodeRow → List (List Bool) → ℕ → List (List ℕ)
lines_so_far code rows labels count =
    labels_heading_text code ∷ map label_line (named (take count (ids_of rows)) (take count labels))

-- the lines of a labels part behind those
abbrev pub lines_behind : List NodeRow → List (List Bool) → ℕ → List (List ℕ)
lines_behind rows labels count =
    map label_line (named (drop count (ids_of rows)) (drop count labels)) ++ codes "end" ∷ []

-- the pieces of a label's line
pub line_written : (id len : ℕ) (word : List ℕ)
    → (codes "label " ++ decimal id)
    ++ ((codes " " ++ decimal len) ++ (codes " " ++ (word ++ codes "\n")))
    ≡ text_of (label_of_words id len word ∷ [])
line_written id len word = sym (words_behind id len word [])

-- the word for some bits
pub word_of_some : (bits : List Bool) → (bits ≡ [] → ⊥) → hex_word bits ≡ hex_digits bits
word_of_some [] some = absurd (some refl)
word_of_some (bit ∷ bits) some = refl

-- the digits of one word more
pub digits_more : (digits more : List ℕ) (k : ℕ) → more ≡ take 16 (drop (16 * k) digits)
    → take (16 * k) digits ++ more ≡ take (16 * (k + 1)) digits
digits_more digits more k is =
    let next : 16 * (k + 1) ≡ 16 * k + 16 = omega arith in
    ap (λ (more : List ℕ). take (16 * k) digits ++ more) is
    ∙ sym (take-add (16 * k) 16 digits) ∙ ap (λ (n : ℕ). take n digits) (sym next)

-- the line of one label more
pub one_line_more : (code : CodeName) (rows : List NodeRow) (labels : List (List Bool)) (place id : ℕ)
    (bits : List Bool) → option_map (λ row. row.id) (slice_get rows place) ≡ Some id
    → slice_get labels place ≡ Some bits
    → text_of (lines_so_far code rows labels place)
    ++ text_of (label_line (record { id = id; bits = bits }) ∷ [])
    ≡ text_of (lines_so_far code rows labels (place + 1))
one_line_more code rows labels place id bits id_at bits_at =
    let label : NamedLabel = record { id = id; bits = bits } in
    let ids_at : slice_get (ids_of rows) place ≡ Some id =
    slice_get-map (λ (row : NodeRow). row.id) rows place ∙ id_at in
    let front = named (take place (ids_of rows)) (take place labels) in
    let lines : lines_so_far code rows labels place ++ label_line label ∷ []
    ≡ lines_so_far code rows labels (place + 1) =
    ap (λ (lines : List (List ℕ)). labels_heading_text code ∷ lines)
    (sym (map_push label_line front label)
    ∙ ap (map label_line) (sym (named-take (ids_of rows) labels place id bits ids_at bits_at)
    ∙ ap (λ (n : ℕ). named (take n (ids_of rows)) (take n labels)) (sym (add-one place)))) in
    sym (text_of-append (lines_so_far code rows labels place) (label_line label ∷ [])) ∙ ap text_of lines

-- the lines up to some labels and those behind them
pub whole_text : (code : CodeName) (rows : List NodeRow) (labels : List (List Bool)) (count : ℕ)
    → text_of (lines_so_far code rows labels count) ++ text_of (lines_behind rows labels count)
    ≡ labels_text (labelling_of code (named (ids_of rows) labels))
whole_text code rows labels count =
    let ids = ids_of rows in
    let front = named (take count ids) (take count labels) in
    let back = named (drop count ids) (drop count labels) in
    sym (text_of-append (lines_so_far code rows labels count) (lines_behind rows labels count))
    ∙ ap (λ (lines : List (List ℕ)). text_of (labels_heading_text code ∷ lines))
    (sym (append_assoc (map label_line front) (map label_line back) (codes "end" ∷ []))
    ∙ ap (λ (lines : List (List ℕ)). lines ++ codes "end" ∷ [])
    (sym (map-append label_line front back)
    ∙ ap (map label_line) (named-split ids labels count)))

-- no line of a label is behind the last of the nodes or of the labels
pub none_behind : (rows : List NodeRow) (labels : List (List Bool)) (count : ℕ)
    → min (length rows) (length labels) ≤ count
    → lines_behind rows labels count ≡ codes "end" ∷ []
none_behind rows labels count all =
    ap (λ (labels : List NamedLabel). map label_line labels ++ codes "end" ∷ [])
    (named-none (ids_of rows) labels count
    (omega (arith, all, length-map rows (λ row. row.id))))

-- ---- the identities that were written are small

take_next : (ids : List ℕ) (place id : ℕ) → slice_get ids place ≡ Some id
    → take (suc place) ids ≡ take place ids ++ id ∷ []
take_next [] place id at = absurd (cc)
take_next (x ∷ ids) zero id at = let same : x ≡ id = cc in ap (λ (y : ℕ). y ∷ []) same
take_next (x ∷ ids) (suc place) id at =
    ap (λ (others : List ℕ). x ∷ others) (take_next ids place id at)

pub one_small_more : (rows : List NodeRow) (place id : ℕ)
    → option_map (λ row. row.id) (slice_get rows place) ≡ Some id
    → All (λ id. id < 2 ^ 32) (take place (ids_of rows)) → id < 2 ^ 32
    → All (λ id. id < 2 ^ 32) (take (place + 1) (ids_of rows))
one_small_more rows place id id_at so_far small =
    let ids_at : slice_get (ids_of rows) place ≡ Some id =
    slice_get-map (λ (row : NodeRow). row.id) rows place ∙ id_at in
    subst (All (λ id. id < 2 ^ 32))
    (sym (ap (λ (n : ℕ). take n (ids_of rows)) (add-one place)
    ∙ take_next (ids_of rows) place id ids_at))
    (All-push (λ id. id < 2 ^ 32) (take place (ids_of rows)) id so_far small)
