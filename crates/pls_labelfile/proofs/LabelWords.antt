-- The words of a label's line, and the label that they say.
use Rattle.std.proofs.Common.{◌≡◌, ℕ, ◌<◌, ◌≤◌, ◌^◌, List, [], ◌∷◌, ◌++◌, length, sym, ◌∙◌, ap, arith}
use Rattle.std.proofs.lemmas.List.Elements.{All-head}
use Rattle.pls_lines.specs.Text.{text_of}
use Rattle.pls_lines.specs.ListPart.{Remains, to_end}
use Rattle.pls_lines.specs.laws.LineWords.{same_head}
use Rattle.pls_labelfile.specs.LabelsText.{NamedLabel, FitsLabel, hex_word, label_line, label_of_words}
use Rattle.pls_labelfile.specs.inner.HexWord.{IsHexWord, SaysLabels, word_bits, word_length}
use Rattle.pls_labelfile.specs.laws.LabelLaws.{same_label_words, word_long}
use Rattle.pls_labelfile.proofs.HexWords.{word_is, bits_long}

module _ (text : List ℕ) (id len : ℕ) (hex rest : List ℕ) (small : id < 2 ^ 32)
    (short : len ≤ 2 ^ 28) (long : length hex ≡ word_length len)
    (stands : text ≡ label_of_words id len hex ++ 10 ∷ rest) where
  -- where the text begins with a label's line, the last word is that for its bits
  pub says_hex : (label : NamedLabel) (after : List ℕ) → FitsLabel label
      → text ≡ label_line label ++ 10 ∷ after → IsHexWord len hex
  says_hex label after fits is =
      let same = same_label_words text id label.id len (length label.bits) hex (hex_word label.bits)
      rest after small fits.id short fits.short long (word_long label.bits) stands is in
      record { bits = label.bits; long = sym same.len; is = sym same.hex }

  -- and so it is where the text says labels
  pub said_hex : SaysLabels text → IsHexWord len hex
  said_hex said = by said.0 said.1
    where
      by : (labels : List NamedLabel) → Remains FitsLabel label_line text labels
          → IsHexWord len hex
      by [] remains = absurd (omega (arith, same_head 108 101 _ _ (sym stands ∙ remains.is)))
      by (label ∷ more) remains =
          says_hex label (text_of (to_end label_line more))
          (All-head FitsLabel label more remains.fits) remains.is

  module _ (word : IsHexWord len hex) where
    -- the label of the words
    abbrev label : NamedLabel
    label = record { id = id; bits = word_bits len hex }

    pub words_fit : FitsLabel label
    words_fit = record { id = small; short = omega (arith, bits_long len hex word, short) }

    -- its line
    words_line : label_of_words id len hex ≡ label_line label
    words_line =
        let bits = sym (bits_long len hex word) in
        let is = sym (word_is len hex word) in
        λ i. label_of_words id (bits i) (is i)

    pub words_stand : text ≡ label_line label ++ 10 ∷ rest
    words_stand = stands ∙ ap (λ (line : List ℕ). line ++ 10 ∷ rest) words_line
