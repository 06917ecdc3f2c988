-- The lines of a watch are a kind of line, and lists of them a part.
use Rattle.std.proofs.Common.{◌≡◌, ◌∙◌, ℕ, nat_lt, true, false, Bool, List, [], ◌∷◌, length, Option, Some, None, if◌then◌else◌, codes, decimal, refl, ap, arith}
use Rattle.std.specs.List.{AllByRecursion, list_all}
use Rattle.std.specs.Str.{bytes_eq}
use Rattle.std.specs.Str.Parse.{digits_value}
use Rattle.pls_lines.specs.Counted.{IsHeadingWord}
use Rattle.pls_lines.specs.LineKind.{Always, IsLineKind, alone}
use Rattle.pls_lines.specs.ListPart.{IsListKind}
use Rattle.pls_lines.specs.Part.{IsSomePart}
use Rattle.pls_lines.specs.Worded.{IsWord, IsWorded}
use Rattle.pls_lines.specs.declared.counted.BareHeading.{BareHeading}
use Rattle.pls_lines.specs.laws.CountedLaws.{heading_kind}
use Rattle.pls_lines.specs.laws.ListLaws.{list_is_some_part}
use Rattle.pls_lines.specs.laws.LineWords.{same_head}
use Rattle.pls_lines.specs.laws.NumberWords.{number_said, number_word}
use Rattle.pls_lines.specs.laws.WordedLaws.{above_lacks, worded_kind}
use Rattle.pls_closing.specs.Closing.{HasClosing}
use Rattle.pls_closing.specs.laws.ClosedLists.{closed_list}
use Rattle.pls_labelfile.specs.LabelsText.{hex_word}
use Rattle.pls_labelfile.specs.inner.HexWord.{word_bits}
use Rattle.pls_labelfile.specs.laws.LabelLaws.{hex_word_lacks}
use Rattle.pls_labelfile.proofs.HexWords.{bits_of_word}
use Rattle.pls_watch_part.specs.declared.watch_event.WatchEvent.{WatchEvent}
use Rattle.pls_watch_part.specs.declared.watch_event.WatchEvent.TheVariants.{Emit, Arrive, Restart, Relabel}
use Rattle.pls_watch_part.specs.declared.watch_event.WatchLine.{WatchLine}
use Rattle.pls_watch_part.specs.declared.watch_event.WatchLine.TheVariants.{Event, Look}
use Rattle.pls_watch_part.specs.declared.watch_words.WatchWord.{WatchWord}
use Rattle.pls_watch_part.specs.WatchText.{AreWatch, FitsWatch, IsWatchPart, is_look, watch_args, watch_line, watch_word}

-- what a word says as a number
abbrev number : List ℕ → ℕ
number word = digits_value 10 word

-- what the words behind the first say
abbrev emit_said : List (List ℕ) → Option WatchLine
emit_said (node ∷ port ∷ []) = Some (Event (Emit (number node) (number port)))
emit_said others = None

abbrev one_said : (ℕ → WatchEvent) → List (List ℕ) → Option WatchLine
one_said event (word ∷ []) = Some (Event (event (number word)))
one_said event others = None

abbrev relabel_said : List (List ℕ) → Option WatchLine
relabel_said (node ∷ len ∷ hex ∷ []) =
    Some (Event (Relabel (number node) (word_bits (number len) hex)))
relabel_said others = None

-- what the words of a line say
abbrev watch_said : List ℕ → List (List ℕ) → Option WatchLine
watch_said word args =
    if bytes_eq word (codes "emit") then emit_said args
    else if bytes_eq word (codes "arrive") then one_said (λ number. Arrive number) args
    else if bytes_eq word (codes "restart") then one_said (λ node. Restart node) args
    else if bytes_eq word (codes "relabel") then relabel_said args
    else if bytes_eq word (codes "look") then Some Look
    else None

-- the word of a label's bits is a word
hex_is_word : (bits : List Bool) → IsWord (hex_word bits)
hex_is_word bits = record {
  plain = hex_word_lacks 10 bits (omega arith);
  whole = hex_word_lacks 32 bits (omega arith);
}

-- the words of a line are words, and say it
watch_words : IsWorded FitsWatch watch_word watch_args watch_said
watch_words = record { above = above; are_words = are_words; back = back; no_end = refl }
  where
    above : (line : WatchLine) → list_all (nat_lt 32) (watch_word line) ≡ true
    above (Event (Emit node port)) = refl
    above (Event (Arrive number)) = refl
    above (Event (Restart node)) = refl
    above (Event (Relabel node bits)) = refl
    above Look = refl

    are_words : (line : WatchLine) → FitsWatch line → AllByRecursion IsWord (watch_args line)
    are_words (Event (Emit node port)) fits = (
      number_word node (omega (arith, fits.0)),
      (number_word port (omega (arith, fits.1)), tt),
    )
    are_words (Event (Arrive k)) fits = (number_word k (omega (arith, fits)), tt)
    are_words (Event (Restart node)) fits = (number_word node (omega (arith, fits)), tt)
    are_words (Event (Relabel node bits)) fits = (
      number_word node (omega (arith, fits.id)),
      (number_word (length bits) (omega (arith, fits.short)), (hex_is_word bits, tt)),
    )
    are_words Look fits = tt

    back : (line : WatchLine) → FitsWatch line
        → watch_said (watch_word line) (watch_args line) ≡ Some line
    back (Event (Emit node port)) fits =
        let x = number_said node (omega (arith, fits.0)) in
        let y = number_said port (omega (arith, fits.1)) in
        λ i. Some (Event (Emit (x i) (y i)))
    back (Event (Arrive k)) fits =
        let x = number_said k (omega (arith, fits)) in
        λ i. Some (Event (Arrive (x i)))
    back (Event (Restart node)) fits =
        let x = number_said node (omega (arith, fits)) in
        λ i. Some (Event (Restart (x i)))
    back (Event (Relabel node bits)) fits =
        let x = number_said node (omega (arith, fits.id)) in
        let y = number_said (length bits) (omega (arith, fits.short)) in
        let z : word_bits (number (decimal (length bits))) (hex_word bits) ≡ bits =
        ap (λ (n : ℕ). word_bits n (hex_word bits)) y ∙ bits_of_word bits in
        λ i. Some (Event (Relabel (x i) (z i)))
    back Look fits = refl

pub watch_lines : IsLineKind FitsWatch watch_line
watch_lines = worded_kind FitsWatch watch_word watch_args watch_said watch_words

-- the heading stands in a line of its own
pub watch_heading : IsHeadingWord (codes "watch")
watch_heading = record {
  plain = above_lacks 10 (codes "watch") (omega arith) refl;
  other = λ e. omega (arith, same_head 119 101 _ _ e);
}

-- the heading is a kind of line
pub watch_headings : IsLineKind {X = BareHeading WatchWord} Always (alone (codes "watch"))
watch_headings = heading_kind (codes "watch") watch_heading (λ a b. refl)

-- a look closes
pub some_look : HasClosing FitsWatch is_look
some_look = record { item = Look; fits = tt; ends = refl }

-- lists of a part have lines that fit
pub watch_list : IsListKind {H = BareHeading WatchWord} Always FitsWatch AreWatch
watch_list = closed_list (record { of = record {} }) FitsWatch is_look false some_look

-- so there is a watch part, and it tells where it ends
pub watch_some_part : IsSomePart IsWatchPart
watch_some_part =
    list_is_some_part Always (alone (codes "watch")) FitsWatch watch_line AreWatch
    watch_headings watch_lines watch_list
