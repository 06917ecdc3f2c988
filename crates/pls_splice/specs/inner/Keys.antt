-- The words that edges are looked up by.
use Rattle.std.specs.Prelude.{ℕ, ◌+◌, ◌*◌, nat_lt, Bool, if◌then◌else◌, List, [], ◌∷◌, ◌++◌, length}
use Rattle.pls_bits.specs.Bytes.{weigh}
use Rattle.pls_configuration.specs.declared.row.NodeRow.{NodeRow}
use Rattle.pls_splice.specs.Crossing.{label_at, ring_edge_weight}
use Rattle.pls_splice.specs.Ring.{head_of, tail_of}

-- the words that get full while bits are put behind a word
abbrev pub full_words : ℕ → List Bool → List ℕ
full_words word [] = []
full_words word (bit ∷ bits) =
    if nat_lt word 4611686018427387904 then full_words (2 * word + weigh bit) bits
    else word ∷ full_words (2 + weigh bit) bits

-- the word that has the last of the bits
abbrev pub last_word : ℕ → List Bool → ℕ
last_word word [] = word
last_word word (bit ∷ bits) =
    if nat_lt word 4611686018427387904 then last_word (2 * word + weigh bit) bits
    else last_word (2 + weigh bit) bits

-- the words of the bits behind a word
abbrev pub words_from : ℕ → List Bool → List ℕ
words_from word bits = full_words word bits ++ last_word word bits ∷ []

-- the words of edge i
abbrev pub edge_key : List NodeRow → List (List Bool) → List ℕ → ℕ → List ℕ
edge_key rows labels order i =
    ring_edge_weight rows order i
    ∷ length (label_at labels (tail_of order i))
    ∷ words_from 1 (label_at labels (tail_of order i) ++ label_at labels (head_of order i))
