-- The lines of labels: plain, none of them `end`, and told by what they say.
use Rattle.std.proofs.Common.{◌≡◌, ◌≢◌, ℕ, ◌<◌, ◌≤◌, ◌^◌, Bool, true, List, [], ◌∷◌, ◌++◌, drop, length, codes, decimal, refl, sym, ◌∙◌, ap, arith}
use Rattle.std.specs.List.{All, list_all}
use Rattle.std.proofs.lemmas.Bool.{and_parts}
use Rattle.std.proofs.lemmas.Bool.Decides.{nat_tests}
use Rattle.std.proofs.lemmas.List.Elements.{All-nil}
use Rattle.pls_bits.specs.Hex.{hex_digits, is_lower_digit}
use Rattle.pls_bits.specs.declared.code_name.CodeName.{CodeName}
use Rattle.pls_bits.specs.declared.code_name.CodeName.TheVariants.{Delta, Gamma}
use Rattle.pls_bits.proofs.Text.{hex_digits-is_lower, hex_digits-injective, length-hex_digits}
use Rattle.pls_lines.specs.Plain.{LacksItem}
use Rattle.pls_lines.specs.LineKind.{IsLineKind}
use Rattle.pls_lines.specs.Part.{IsSomePart}
use Rattle.pls_lines.specs.ListPart.{IsListKind}
use Rattle.pls_lines.specs.laws.NumberWords.{decimal_lacks, same_number, behind_word}
use Rattle.pls_lines.specs.laws.LineWords.{first_word, line_lacks, same_head}
use Rattle.pls_lines.specs.laws.ListLaws.{list_is_some_part}
use Rattle.pls_labelfile.specs.LabelsText.{FitsLabel, IsLabelsPart, MayHead, NamedLabel, hex_word, label_line, label_of_words, labels_heading_text}
use Rattle.pls_labelfile.specs.inner.HexWord.{word_length}

-- a byte below the digits is none of lower-case hex digits
lower_lacks : (byte : ℕ) (digits : List ℕ) → byte < 48 → list_all is_lower_digit digits ≡ true
    → LacksItem byte digits
lower_lacks byte [] low h = tt
lower_lacks byte (digit ∷ digits) low h =
    let parts = and_parts (is_lower_digit digit) _ h in
    (above digit parts.0, lower_lacks byte digits low parts.1)
  where
    above : (digit : ℕ) → is_lower_digit digit ≡ true → digit ≢ byte
    above digit h same = grind (arith, nat_tests)

-- the last word of a line has no byte below its dash and its digits
pub hex_word_lacks : (byte : ℕ) (bits : List Bool) → byte < 45 → LacksItem byte (hex_word bits)
hex_word_lacks byte [] low = (omega arith, tt)
hex_word_lacks byte (bit ∷ bits) low =
    lower_lacks byte (hex_digits (bit ∷ bits)) (omega arith) (hex_digits-is_lower (bit ∷ bits))

-- no line of a label has a line feed
label_plain : (label : NamedLabel) → FitsLabel label → LacksItem 10 (label_line label)
label_plain label fits =
    line_lacks 10 (codes "label" ∷ decimal label.id ∷ decimal (length label.bits)
    ∷ hex_word label.bits ∷ []) (omega arith) (
      (omega arith, (omega arith, (omega arith, (omega arith, (omega arith, tt))))),
      (
        decimal_lacks 10 label.id (omega arith) (omega (arith, fits.id)),
        (
          decimal_lacks 10 (length label.bits) (omega arith) (omega (arith, fits.short)),
          (hex_word_lacks 10 label.bits (omega arith), tt),
        ),
      ),
    )

-- so many bits are told by their word
pub same_bits : (a b : List Bool) → length a ≡ length b → hex_word a ≡ hex_word b → a ≡ b
same_bits [] [] long e = refl
same_bits [] (bit ∷ b) long e = absurd (omega arith)
same_bits (bit ∷ a) [] long e = absurd (omega arith)
same_bits (c ∷ a) (d ∷ b) long e = hex_digits-injective (c ∷ a) (d ∷ b) long e

-- how long a word is
pub word_long : (bits : List Bool) → length (hex_word bits) ≡ word_length (length bits)
word_long [] = refl
word_long (bit ∷ bits) = length-hex_digits (bit ∷ bits)

-- the words are the same, and so is what follows their line
pub record SameLabelWords (a b m n : ℕ) (x y s t : List ℕ) : Type 0 where
  pub id : a ≡ b
  pub len : m ≡ n
  pub hex : x ≡ y
  pub rest : s ≡ t

-- a line with its line feed, word by word
pub words_behind : (id len : ℕ) (hex rest : List ℕ) → label_of_words id len hex ++ 10 ∷ rest
    ≡ codes "label" ++ 32 ∷ (decimal id ++ 32 ∷ (decimal len ++ 32 ∷ (hex ++ 10 ∷ rest)))
words_behind id len hex rest =
    first_word (codes "label") (decimal id) (decimal len ∷ hex ∷ []) rest
    ∙ ap (λ (words : List ℕ). codes "label" ++ 32 ∷ words)
    (first_word (decimal id) (decimal len) (hex ∷ []) rest
    ∙ ap (λ (words : List ℕ). decimal id ++ 32 ∷ words) (first_word (decimal len) hex [] rest))

-- a text tells the words of the line at its front, where the last has the length that is stated
pub same_label_words : (text : List ℕ) (a b m n : ℕ) (x y s t : List ℕ) → a < 2 ^ 32 → b < 2 ^ 32
    → m ≤ 2 ^ 28 → n ≤ 2 ^ 28 → length x ≡ word_length m → length y ≡ word_length n
    → text ≡ label_of_words a m x ++ 10 ∷ s → text ≡ label_of_words b n y ++ 10 ∷ t
    → SameLabelWords a b m n x y s t
same_label_words text a b m n x y s t small_a small_b short_m short_n long_x long_y p q =
    let words =
    behind_word (codes "label") text _ _ (p ∙ words_behind a m x s) (q ∙ words_behind b n y t) in
    let id = same_number a b _ _ (omega (arith, small_a)) (omega (arith, small_b)) words in
    let len = same_number m n _ _ (omega (arith, short_m)) (omega (arith, short_n)) id.1 in
    let long : length x ≡ length y = long_x ∙ ap word_length len.0 ∙ sym long_y in
    let hex = same_front x y (10 ∷ s) (10 ∷ t) long len.1 in
    record { id = id.0; len = len.0; hex = hex.0; rest = same_tail 10 s t hex.1 }
  where
    same_tail : (byte : ℕ) (s t : List ℕ) → byte ∷ s ≡ byte ∷ t → s ≡ t
    same_tail byte s t e = cc

    same_front : (x y s t : List ℕ) → length x ≡ length y → x ++ s ≡ y ++ t → (x ≡ y) × (s ≡ t)
    same_front [] [] s t long e = (refl, e)
    same_front [] (d ∷ y) s t long e = absurd (omega arith)
    same_front (c ∷ x) [] s t long e = absurd (omega arith)
    same_front (c ∷ x) (d ∷ y) s t long e =
        let head : c ≡ d = cc in
        let tail : x ++ s ≡ y ++ t = cc in
        let rest = same_front x y s t (omega arith) tail in
        let front = rest.0 in
        (cc, rest.1)

-- so a line tells its label
same_label : (a b : NamedLabel) → FitsLabel a → FitsLabel b → label_line a ≡ label_line b
    → a ≡ b
same_label a b fits_a fits_b e =
    let words = same_label_words (label_line a ++ 10 ∷ []) a.id b.id (length a.bits) (length b.bits)
    (hex_word a.bits) (hex_word b.bits) [] [] fits_a.id fits_b.id fits_a.short fits_b.short
    (word_long a.bits) (word_long b.bits) refl (ap (λ (line : List ℕ). line ++ 10 ∷ []) e) in
    let id = words.id in
    let bits = same_bits a.bits b.bits words.len words.hex in
    λ i. record { id = id i; bits = bits i }

-- the lines of labels are a kind of line
pub label_lines : IsLineKind FitsLabel label_line
label_lines = record {
  plain = label_plain;
  no_end = λ label fits e. omega (arith, same_head 108 101 _ _ e);
  one = same_label;
}

-- no heading has a line feed
pub heading_plain : (code : CodeName) → LacksItem 10 (labels_heading_text code)
heading_plain Gamma =
    (omega arith, (omega arith, (omega arith, (omega arith, (omega arith, (omega arith, tt))))))
heading_plain Delta = (
  omega arith,
  (
    omega arith,
    (
      omega arith,
      (
        omega arith,
        (
          omega arith,
          (
            omega arith,
            (
              omega arith,
              (
                omega arith,
                (
                  omega arith,
                  (
                    omega arith,
                    (
                      omega arith,
                      (
                        omega arith,
                        tt,
                      ),
                    ),
                  ),
                ),
              ),
            ),
          ),
        ),
      ),
    ),
  ),
)

-- none is `end`
heading_no_end : (code : CodeName) → labels_heading_text code ≢ codes "end"
heading_no_end Gamma e = omega (arith, same_head 108 101 _ _ e)
heading_no_end Delta e = omega (arith, same_head 108 101 _ _ e)

-- and a line that one of them begins tells which of them
pub same_heading : (a b : CodeName) (x y : List ℕ)
    → labels_heading_text a ++ 10 ∷ x ≡ labels_heading_text b ++ 10 ∷ y → a ≡ b
same_heading Gamma Gamma x y e = refl
same_heading Gamma Delta x y e = absurd (omega (arith, same_head 10 32 _ _ (ap (drop 6) e)))
same_heading Delta Gamma x y e = absurd (omega (arith, same_head 32 10 _ _ (ap (drop 6) e)))
same_heading Delta Delta x y e = refl

-- so the headings that may stand in a place are a kind of line
pub labels_headings : (delta : Bool) → IsLineKind (MayHead delta) labels_heading_text
labels_headings delta = record {
  plain = λ code may. heading_plain code;
  no_end = λ code may. heading_no_end code;
  one = λ a b may_a may_b e.
      same_heading a b [] [] (ap (λ (line : List ℕ). line ++ 10 ∷ []) e);
}

-- labels that fit are lists of a part
pub labels_list : (delta : Bool) → IsListKind (MayHead delta) FitsLabel (All FitsLabel)
labels_list delta = record {
  heading = Gamma;
  headed = tt;
  fits = λ items are. are;
  some = record { more = []; are = All-nil FitsLabel };
}

-- so there is a labels part, and it tells where it ends
pub labels_some_part : (delta : Bool) → IsSomePart (IsLabelsPart delta)
labels_some_part delta =
    list_is_some_part (MayHead delta) labels_heading_text FitsLabel label_line (All FitsLabel)
    (labels_headings delta) label_lines (labels_list delta)
