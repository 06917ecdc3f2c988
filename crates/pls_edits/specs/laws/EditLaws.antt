-- The lines of edits are a kind of line, and lists of them a part.
use Rattle.std.proofs.Common.{◌≡◌, ◌∙◌, ℕ, ◌-◌, ◌<◌, ◌^◌, nat_lt, Bool, true, false, List, [], ◌∷◌, length, Option, Some, None, IfSome, if◌then◌else◌, codes, decimal, refl, ap, arith}
use Rattle.std.specs.List.{AllByRecursion, list_all}
use Rattle.std.specs.Str.{bytes_eq}
use Rattle.std.specs.Str.Parse.{digits_value}
use Rattle.std.proofs.lemmas.Slice.Eq.{bytes_eq-Decides}
use Rattle.pls_configuration.specs.declared.limits.TheConstants.{MAX_NUM}
use Rattle.pls_lines.specs.Counted.{IsHeadingWord}
use Rattle.pls_lines.specs.LineKind.{Always, IsLineKind, alone}
use Rattle.pls_lines.specs.ListPart.{IsListKind}
use Rattle.pls_lines.specs.Part.{IsSomePart}
use Rattle.pls_lines.specs.Worded.{IsWord, IsWorded}
use Rattle.pls_lines.specs.declared.counted.BareHeading.{BareHeading}
use Rattle.pls_lines.specs.laws.CountedLaws.{heading_kind}
use Rattle.pls_lines.specs.laws.Cuts.{lacks_here}
use Rattle.pls_lines.specs.laws.ListLaws.{list_is_some_part}
use Rattle.pls_lines.specs.laws.LineWords.{same_head}
use Rattle.pls_lines.specs.laws.NumberWords.{decimal_lacks, number_said, number_word}
use Rattle.pls_lines.specs.laws.WordedLaws.{above_lacks, worded_kind}
use Rattle.pls_closing.specs.Closing.{HasClosing}
use Rattle.pls_closing.specs.laws.ClosedLists.{closed_list}
use Rattle.pls_netfile.specs.NetworkText.{up_word}
use Rattle.pls_netfile.specs.laws.NodeWords.{up_lacks}
use Rattle.pls_labelfile.specs.LabelsText.{hex_word}
use Rattle.pls_labelfile.specs.inner.HexWord.{word_bits}
use Rattle.pls_labelfile.specs.laws.LabelLaws.{hex_word_lacks}
use Rattle.pls_labelfile.proofs.HexWords.{bits_of_word}
use Rattle.pls_edits.specs.declared.edit.Edit.{Edit}
use Rattle.pls_edits.specs.declared.edit.Edit.TheVariants.{State, Weight, Link, Unlink, Join, Leave, Label}
use Rattle.pls_edits.specs.declared.edit_line.EditLine.{EditLine}
use Rattle.pls_edits.specs.declared.edit_line.EditLine.TheVariants.{Edit as Makes, Round}
use Rattle.pls_edits.specs.declared.edit_words.EditsWord.{EditsWord}
use Rattle.pls_edits.specs.EditsText.{AreEdits, FitsEdit, FitThree, IsEditsPart, edit_args, edit_line, edit_word, is_round}

-- what a word says as a number, and as a pointer
abbrev number : List ℕ → ℕ
number word = digits_value 10 word

abbrev up_said : List ℕ → Option ℕ
up_said word = if bytes_eq word (codes "-") then None else Some (number word)

-- what the words behind the first say
abbrev state_said : List (List ℕ) → Option EditLine
state_said (id ∷ up ∷ mark ∷ num ∷ []) = Some (Makes (State (number id)
    (record { up = up_said up; mark = number mark; num = number num })))
state_said others = None

abbrev three_said : (ℕ → ℕ → ℕ → Edit) → List (List ℕ) → Option EditLine
three_said edit (a ∷ b ∷ c ∷ []) = Some (Makes (edit (number a) (number b) (number c)))
three_said edit others = None

abbrev two_said : List (List ℕ) → Option EditLine
two_said (a ∷ b ∷ []) = Some (Makes (Unlink (number a) (number b)))
two_said others = None

abbrev one_said : List (List ℕ) → Option EditLine
one_said (id ∷ []) = Some (Makes (Leave (number id)))
one_said others = None

abbrev label_said : List (List ℕ) → Option EditLine
label_said (id ∷ len ∷ hex ∷ []) = Some (Makes (Label (number id) (word_bits (number len) hex)))
label_said others = None

-- what the words of a line say
abbrev edit_said : List ℕ → List (List ℕ) → Option EditLine
edit_said word args =
    if bytes_eq word (codes "state") then state_said args
    else if bytes_eq word (codes "weight") then three_said (λ a b w. Weight a b w) args
    else if bytes_eq word (codes "link") then three_said (λ a b w. Link a b w) args
    else if bytes_eq word (codes "unlink") then two_said args
    else if bytes_eq word (codes "join") then three_said (λ id mark num. Join id mark num) args
    else if bytes_eq word (codes "leave") then one_said args
    else if bytes_eq word (codes "label") then label_said args
    else if bytes_eq word (codes "round") then Some Round
    else None

-- three words that are numbers
numbers_three : (a b c most : ℕ) → most < 2 ^ 64 → FitThree a b c most
    → AllByRecursion IsWord (decimal a ∷ decimal b ∷ decimal c ∷ [])
numbers_three a b c most small fits = (
  number_word a (omega (arith, fits.first)),
  (
    number_word b (omega (arith, fits.second)),
    (number_word c (omega (arith, fits.third, small)), tt),
  ),
)

-- a pointer's word is a word, and says the pointer
up_is_word : (up : Option ℕ) → IfSome up (λ port. port < 2 ^ 32) → IsWord (up_word up)
up_is_word up small = record {
  plain = up_lacks 10 up (omega arith) small;
  whole = up_lacks 32 up (omega arith) small;
}

up_back : (up : Option ℕ) → IfSome up (λ port. port < 2 ^ 32) → up_said (up_word up) ≡ up
up_back None small = refl
up_back (Some port) small = by (bytes_eq (decimal port) (codes "-")) refl
  where
    by : (b : Bool) → bytes_eq (decimal port) (codes "-") ≡ b → up_said (decimal port) ≡ Some port
    by true e = absurd (lacks_here 45 (decimal port) [] []
        (decimal_lacks 45 port (omega arith) (omega arith))
        ((bytes_eq-Decides (decimal port) (codes "-")).0 e))
    by false e = rw (e, number_said port (omega arith)) refl

-- the word of a label's bits is a word
hex_is_word : (bits : List Bool) → IsWord (hex_word bits)
hex_is_word bits = record {
  plain = hex_word_lacks 10 bits (omega arith);
  whole = hex_word_lacks 32 bits (omega arith);
}

-- the words of a line are words, and say it
edit_words : IsWorded FitsEdit edit_word edit_args edit_said
edit_words = record { above = above; are_words = are_words; back = back; no_end = refl }
  where
    above : (line : EditLine) → list_all (nat_lt 32) (edit_word line) ≡ true
    above (Makes (State id state)) = refl
    above (Makes (Weight a b weight)) = refl
    above (Makes (Link a b weight)) = refl
    above (Makes (Unlink a b)) = refl
    above (Makes (Join id mark num)) = refl
    above (Makes (Leave id)) = refl
    above (Makes (Label id bits)) = refl
    above Round = refl

    are_words : (line : EditLine) → FitsEdit line → AllByRecursion IsWord (edit_args line)
    are_words (Makes (State id state)) fits = (
      number_word id (omega (arith, fits.small)),
      (
        up_is_word state.up fits.fits.up,
        (
          number_word state.mark (omega (arith, fits.fits.mark)),
          (number_word state.num (omega (arith, fits.fits.num)), tt),
        ),
      ),
    )
    are_words (Makes (Weight a b weight)) fits =
        numbers_three a b weight (2 ^ 32 - 1) (omega arith) fits
    are_words (Makes (Link a b weight)) fits =
        numbers_three a b weight (2 ^ 32 - 1) (omega arith) fits
    are_words (Makes (Unlink a b)) fits = (
      number_word a (omega (arith, fits.0)),
      (number_word b (omega (arith, fits.1)), tt),
    )
    are_words (Makes (Join id mark num)) fits =
        numbers_three id mark num MAX_NUM (omega arith) fits
    are_words (Makes (Leave id)) fits = (number_word id (omega (arith, fits)), tt)
    are_words (Makes (Label id bits)) fits = (
      number_word id (omega (arith, fits.id)),
      (number_word (length bits) (omega (arith, fits.short)), (hex_is_word bits, tt)),
    )
    are_words Round fits = tt

    back : (line : EditLine) → FitsEdit line → edit_said (edit_word line) (edit_args line) ≡ Some line
    back (Makes (State id state)) fits =
        let i = number_said id (omega (arith, fits.small)) in
        let u = up_back state.up fits.fits.up in
        let m = number_said state.mark (omega (arith, fits.fits.mark)) in
        let n = number_said state.num (omega (arith, fits.fits.num)) in
        λ k. Some (Makes (State (i k) (record { up = u k; mark = m k; num = n k })))
    back (Makes (Weight a b weight)) fits =
        let x = number_said a (omega (arith, fits.first)) in
        let y = number_said b (omega (arith, fits.second)) in
        let z = number_said weight (omega (arith, fits.third)) in
        λ k. Some (Makes (Weight (x k) (y k) (z k)))
    back (Makes (Link a b weight)) fits =
        let x = number_said a (omega (arith, fits.first)) in
        let y = number_said b (omega (arith, fits.second)) in
        let z = number_said weight (omega (arith, fits.third)) in
        λ k. Some (Makes (Link (x k) (y k) (z k)))
    back (Makes (Unlink a b)) fits =
        let x = number_said a (omega (arith, fits.0)) in
        let y = number_said b (omega (arith, fits.1)) in
        λ k. Some (Makes (Unlink (x k) (y k)))
    back (Makes (Join id mark num)) fits =
        let x = number_said id (omega (arith, fits.first)) in
        let y = number_said mark (omega (arith, fits.second)) in
        let z = number_said num (omega (arith, fits.third)) in
        λ k. Some (Makes (Join (x k) (y k) (z k)))
    back (Makes (Leave id)) fits =
        let x = number_said id (omega (arith, fits)) in
        λ k. Some (Makes (Leave (x k)))
    back (Makes (Label id bits)) fits =
        let x = number_said id (omega (arith, fits.id)) in
        let y = number_said (length bits) (omega (arith, fits.short)) in
        let z : word_bits (number (decimal (length bits))) (hex_word bits) ≡ bits =
        ap (λ (n : ℕ). word_bits n (hex_word bits)) y ∙ bits_of_word bits in
        λ k. Some (Makes (Label (x k) (z k)))
    back Round fits = refl

pub edit_lines : IsLineKind FitsEdit edit_line
edit_lines = worded_kind FitsEdit edit_word edit_args edit_said edit_words

-- the heading stands in a line of its own
pub edits_word : IsHeadingWord (codes "edits")
edits_word = record {
  plain = above_lacks 10 (codes "edits") (omega arith) refl;
  other = λ e. not_end (same_tail 101 _ _ e);
}
  where
    same_tail : (byte : ℕ) (s t : List ℕ) → byte ∷ s ≡ byte ∷ t → s ≡ t
    same_tail byte s t e = cc

    not_end : codes "dits" ≡ codes "nd" → ⊥
    not_end e = omega (arith, same_head 100 110 _ _ e)

-- the heading is a kind of line
pub edits_headings : IsLineKind {X = BareHeading EditsWord} Always (alone (codes "edits"))
edits_headings = heading_kind (codes "edits") edits_word (λ a b. refl)

-- a round closes
pub some_round : HasClosing FitsEdit is_round
some_round = record { item = Round; fits = tt; ends = refl }

-- lists of a part have lines that fit
pub edits_list : IsListKind {H = BareHeading EditsWord} Always FitsEdit AreEdits
edits_list = closed_list (record { of = record {} }) FitsEdit is_round true some_round

-- so there is an edits part, and it tells where it ends
pub edits_some_part : IsSomePart IsEditsPart
edits_some_part =
    list_is_some_part Always (alone (codes "edits")) FitsEdit edit_line AreEdits
    edits_headings edit_lines edits_list
