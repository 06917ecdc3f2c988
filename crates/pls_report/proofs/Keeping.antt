-- How the patches of a look are made, row by row.
use Rattle.std.proofs.Common.{◌≡◌, ◌∙◌, ℕ, ◌+◌, ◌<◌, ◌≤◌, List, [], ◌∷◌, ◌++◌, Bool, false, map, take, length, get_or, set, Some, refl, sym, ap, arith, subst, append-nil, append_assoc}
use Rattle.std.specs.List.{sum}
use Rattle.std.proofs.lemmas.Grind.{flat_map-append}
use Rattle.std.proofs.lemmas.List.{get_or-map, length-append, map-append, take_all, take_more, take_more_set}
use Rattle.std.proofs.lemmas.List.Sums.{sum_by-append, sum_by-take-le}
use Rattle.std.proofs.lemmas.Option.{get_or_from_slice_get, slice_get-get_or}
use Rattle.pls_sim.specs.declared.outcome.Outcome.{Outcome}
use Rattle.pls_report.specs.declared.kept_looks.KeptLook.{KeptLook}
use Rattle.pls_report.specs.inner.Kept.{counts_text, joined_text, kept_text, pieces_of, row_line}
use Rattle.pls_report.specs.inner.KeptTexts.{HasRoomForAll, last_lines, texts_from}
use Rattle.pls_report.specs.inner.Patches.{Patch, patch_text}
use Rattle.pls_report.specs.inner.Renewed.{AreRenewed}
use Rattle.pls_report.proofs.Flat.{flat_more}
use Rattle.pls_report.proofs.Kept.{pieces_joined, total_length}
use Rattle.pls_report.proofs.KeptTexts.{last_more, room_grows, room_more, texts_more}
use Rattle.pls_report.proofs.Patching.{Makes, a_patch, makes_all, makes_more, makes_nothing}

-- the total of one number more
pub sum_more : (numbers : List ℕ) (i d : ℕ) → i < length numbers
    → sum (take (i + 1) numbers) ≡ sum (take i numbers) + get_or numbers i d
sum_more numbers i d within =
    omega (
      arith,
      ap sum (take_more numbers i d within),
      sum_by-append (λ x. x) (take i numbers) (get_or numbers i d ∷ []),
    )

-- where one is written
pub sum_set : (numbers : List ℕ) (i new : ℕ) → i < length numbers
    → sum (take (i + 1) (set numbers i new)) ≡ sum (take i numbers) + new
sum_set numbers i new within =
    omega (
      arith,
      ap sum (take_more_set numbers i new within),
      sum_by-append (λ x. x) (take i numbers) (new ∷ []),
    )

-- a number within the total
pub number_within : (numbers : List ℕ) (i d : ℕ) → i < length numbers
    → sum (take i numbers) + get_or numbers i d ≤ sum numbers
number_within numbers i d within =
    omega (arith, sum_more numbers i d within, sum_by-take-le (λ x. x) numbers (i + 1))

abbrev pub row_lines : List (ℕ × Outcome × List ℕ) → List (List ℕ)
row_lines rows = map row_line rows

lines_more : (rows : List (ℕ × Outcome × List ℕ)) (i : ℕ) (row : ℕ × Outcome × List ℕ) → i < length rows
    → row ≡ get_or rows i row → row_lines (take (i + 1) rows) ≡ row_lines (take i rows) ++ row_line row ∷ []
lines_more rows i row within is =
    ap row_lines (take_more rows i row within)
    ∙ map-append row_line (take i rows) (get_or rows i row ∷ [])
    ∙ (λ k. row_lines (take i rows) ++ row_line (sym is k) ∷ [])

-- the lines of the first rows are made of those of the look before, of which so many last bytes
-- stay
pub record ArePassed (rows : List (ℕ × Outcome × List ℕ)) (lines : List (List ℕ)) (i : ℕ)
    (patches : List Patch) (stays : ℕ) (renewed : List ℕ) : Type 0 where
  pub front : List ℕ
  pub after : List ℕ
  pub mid : List ℕ
  pub makes : Makes patches front after
  pub was : joined_text (take i lines) ≡ front ++ mid
  pub is : joined_text (row_lines (take i rows)) ≡ after ++ mid
  pub long : length mid ≡ stays
  pub lengths : take i renewed ≡ map (length {A = ℕ}) (row_lines (take i rows))

pub none_passed : (rows : List (ℕ × Outcome × List ℕ)) (lines : List (List ℕ)) (renewed : List ℕ)
    → ArePassed rows lines 0 [] 0 renewed
none_passed rows lines renewed = record {
  front = [];
  after = [];
  mid = [];
  makes = makes_nothing;
  was = refl;
  is = refl;
  long = refl;
  lengths = refl;
}

module _ (rows : List (ℕ × Outcome × List ℕ)) (changed : List Bool) (lines : List (List ℕ))
    (are : AreRenewed rows changed lines) (lengths : List ℕ)
    (those : lengths ≡ map (length {A = ℕ}) lines) (i : ℕ) (row : ℕ × Outcome × List ℕ)
    (within : i < length rows) (is : row ≡ get_or rows i row) (patches : List Patch) (stays : ℕ)
    (renewed : List ℕ) (as_many : length renewed ≡ length rows)
    (before : ArePassed rows lines i patches stays renewed) where
  abbrev old_line : List ℕ
  old_line = get_or lines i []

  abbrev line : List ℕ
  line = row_line row

  in_lines : i < length lines
  in_lines = omega (arith, within, are.as_many)

  old_length : get_or lengths i 0 ≡ length old_line
  old_length = (λ k. get_or (those k) i 0) ∙ get_or-map (length {A = ℕ}) lines i [] 0 in_lines

  lengths_more : take (i + 1) (set renewed i (length line))
      ≡ map (length {A = ℕ}) (row_lines (take (i + 1) rows))
  lengths_more =
      take_more_set renewed i (length line) (omega (arith, within, as_many))
      ∙ (λ k. before.lengths k ++ length line ∷ [])
      ∙ sym (ap (map (length {A = ℕ})) (lines_more rows i row within is)
      ∙ map-append (length {A = ℕ}) (row_lines (take i rows)) (line ∷ []))

  joined_rows : joined_text (row_lines (take (i + 1) rows)) ≡ (before.after ++ before.mid) ++ line
  joined_rows =
      ap joined_text (lines_more rows i row within is)
      ∙ flat_map-append (λ line. line) (row_lines (take i rows)) (line ∷ [])
      ∙ (λ k. before.is k ++ append-nil line k)

  joined_lines : joined_text (take (i + 1) lines) ≡ (before.front ++ before.mid) ++ old_line
  joined_lines =
      sym (flat_more lines i [] in_lines) ∙ ap (λ (text : List ℕ). text ++ old_line) before.was

  -- a row that did not change is passed, and its length is as it was
  pub passed_as_it_is : get_or changed i false ≡ false → get_or renewed i 0 ≡ get_or lengths i 0
      → ArePassed rows lines (i + 1) patches (stays + get_or lengths i 0) renewed
  passed_as_it_is kept stands =
      let same : old_line ≡ line =
      get_or_from_slice_get lines i line [] (are.same i row
      (slice_get-get_or rows i row within ∙ ap Some (sym is))
      (slice_get-get_or changed i false (omega (arith, within, are.each)) ∙ ap Some kept)) in
      let long : get_or lengths i 0 ≡ length line = old_length ∙ ap (length {A = ℕ}) same in record {
        front = before.front;
        after = before.after;
        mid = before.mid ++ line;
        makes = before.makes;
        was = joined_lines
            ∙ (λ k. (before.front ++ before.mid) ++ same k)
            ∙ append_assoc before.front before.mid line;
        is = joined_rows ∙ append_assoc before.after before.mid line;
        long = omega (arith, long, before.long, length-append before.mid line);
        lengths =
            take_more renewed i 0 (omega (arith, within, as_many))
            ∙ (λ k. before.lengths k ++ (stands ∙ long) k ∷ [])
            ∙ sym (ap (map (length {A = ℕ})) (lines_more rows i row within is)
            ∙ map-append (length {A = ℕ}) (row_lines (take i rows)) (line ∷ []));
      }

  -- one that changed is put in the place of its line before
  pub passed_as_changed : ArePassed rows lines (i + 1)
      (patches ++ a_patch stays (get_or lengths i 0) line ∷ []) 0 (set renewed i (length line))
  passed_as_changed = record {
    front = before.front ++ (before.mid ++ old_line);
    after = before.after ++ (before.mid ++ line);
    mid = [];
    makes = subst (λ (patch : Patch). Makes (patches ++ patch ∷ [])
        (before.front ++ (before.mid ++ old_line)) (before.after ++ (before.mid ++ line)))
        (λ k. a_patch (before.long k) (sym old_length k) line)
        (makes_more patches before.front before.after before.mid before.makes old_line line);
    was = joined_lines
        ∙ append_assoc before.front before.mid old_line
        ∙ sym (append-nil (before.front ++ (before.mid ++ old_line)));
    is = joined_rows
        ∙ append_assoc before.after before.mid line
        ∙ sym (append-nil (before.after ++ (before.mid ++ line)));
    long = refl;
    lengths = lengths_more;
  }

-- where all rows are passed, the patches make their lines
module _ (rows : List (ℕ × Outcome × List ℕ)) (lines : List (List ℕ)) (i : ℕ) (patches : List Patch)
    (stays : ℕ) (renewed : List ℕ) (passed : ArePassed rows lines i patches stays renewed) where
  pub all_made : length rows ≤ i → length lines ≡ length rows
      → patch_text patches (joined_text lines) ≡ joined_text (row_lines rows)
  all_made past as_many =
      (λ k. patch_text patches ((sym (ap joined_text (take_all i lines (omega (arith, past, as_many))))
      ∙ passed.was) k))
      ∙ makes_all patches passed.front passed.after passed.mid passed.makes
      ∙ sym passed.is
      ∙ (λ k. joined_text (row_lines (take_all i rows past k)))

  pub all_lengths : length rows ≤ i → length renewed ≡ length rows
      → renewed ≡ map (length {A = ℕ}) (row_lines rows)
  all_lengths past as_many =
      sym (take_all i renewed (omega (arith, past, as_many)))
      ∙ passed.lengths
      ∙ (λ k. map (length {A = ℕ}) (row_lines (take_all i rows past k)))

-- a look behind others, whose patches make its lines
module _ (looks : List KeptLook) (look : KeptLook) (rows : List (ℕ × Outcome × List ℕ))
    (made : patch_text look.patches (last_lines [] looks) ≡ joined_text (row_lines rows)) where
  pub kept_lines_are : last_lines [] (looks ++ look ∷ []) ≡ joined_text (row_lines rows)
  kept_lines_are = last_more [] looks look ∙ made

  module _ (lengths : List ℕ) (those : lengths ≡ map (length {A = ℕ}) (row_lines rows)) where
    pub kept_total : sum lengths ≡ length (last_lines [] (looks ++ look ∷ []))
    kept_total =
        ap sum those
        ∙ total_length (row_lines rows)
        ∙ sym (ap (length {A = ℕ}) kept_lines_are)

    pub kept_pieces : pieces_of lengths (last_lines [] (looks ++ look ∷ [])) ≡ row_lines rows
    kept_pieces = (λ k. pieces_of (those k) (kept_lines_are k)) ∙ pieces_joined (row_lines rows)

    pub kept_room : (before after : ℕ) → HasRoomForAll before looks → before ≤ after
        → sum lengths ≤ after → HasRoomForAll after (looks ++ look ∷ [])
    kept_room before after all grows fits =
        room_more after looks look (room_grows before after looks grows all)
        (omega (
          arith,
          fits,
          kept_total,
          ap (length {A = ℕ}) (last_more [] looks look),
        ))

  pub kept_texts : (texts : List (List ℕ)) → texts_from 1 [] looks ≡ texts
      → texts_from 1 [] (looks ++ look ∷ [])
      ≡ texts ++ kept_text (length texts + 1) (row_lines rows) look.counts ∷ []
  kept_texts texts are =
      texts_more 1 [] looks look
      ∙ (λ k. are k ++ (made k ++ counts_text (length (are k) + 1) look.counts) ∷ [])
