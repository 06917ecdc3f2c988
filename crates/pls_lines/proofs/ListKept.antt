-- What is kept of the items that a reader of a list passes grows by one item more.
use Rattle.std.proofs.Common.{◌≡◌, ℕ, List, [], ◌∷◌, ◌++◌, map, codes, sym, ◌∙◌, ap}
use Rattle.std.proofs.lemmas.List.{map_push}
use Rattle.pls_lines.specs.Text.{text_of}
use Rattle.pls_lines.specs.Lines.{Left, Passes}
use Rattle.pls_lines.specs.ListPart.{AreKept, Begun, list_lines}
use Rattle.pls_lines.specs.inner.ListScan.{KeepsItems, PassesItems}
use Rattle.pls_lines.proofs.ListPassed.{lines_passed}
use Rattle.pls_lines.proofs.Passing.{passes_push}

module _ {X S L : Type 0} (Fits : X → Type 0) (written : X → List ℕ) (Are : List X → Type 0)
    (tally : List X → S) (line : X → L) where
  -- one item more
  pub one_item_kept : (old mid new : Left) (before now : S) (list : List L) (value : X) (kept : L)
      → KeepsItems written Are tally line old mid before list
      → Passes mid new (written value ∷ [])
      → ((front : List X) → Begun Are front → before ≡ tally front
      → Begun Are (front ++ value ∷ []))
      → ((front : List X) → Begun Are front → before ≡ tally front
      → now ≡ tally (front ++ value ∷ []))
      → kept ≡ line value → KeepsItems written Are tally line old new now (list ++ kept ∷ [])
  one_item_kept old mid new before now list value kept so_far passes begun counted is = record {
    items = so_far.items ++ value ∷ [];
    begun = begun so_far.items so_far.begun so_far.counted;
    passed = passes_push written old mid new so_far.items value so_far.passed passes;
    counted = counted so_far.items so_far.begun so_far.counted;
    are = ap (λ (front : List L). front ++ kept ∷ []) so_far.are
        ∙ ap (λ (last : L). map line so_far.items ++ last ∷ []) is
        ∙ sym (map_push line so_far.items value);
  }

  -- the items were passed
  abbrev pub passes_kept : (old new : Left) (kept : S) (list : List L)
      → KeepsItems written Are tally line old new kept list
      → PassesItems written Are tally old new kept
  passes_kept old new kept list keeps = record {
    items = keeps.items;
    begun = keeps.begun;
    passed = keeps.passed;
    counted = keeps.counted;
  }

  -- with heading and `end` the text says them
  pub list_kept : {H : Type 0} (Headed : H → Type 0) (title : H → List ℕ) (heading : H)
      (old behind before new : Left) (text : List ℕ) (kept : S) (list : List L) → Headed heading
      → Passes old behind (title heading ∷ [])
      → (keeps : KeepsItems written Are tally line behind before kept list)
      → Are keeps.items → Passes before new (codes "end" ∷ [])
      → ((lines : List (List ℕ)) → Passes old new lines → text ≡ text_of lines)
      → AreKept Headed title written Are line text heading list
  list_kept Headed title heading old behind before new text kept list headed first keeps are last rest =
      record {
        items = keeps.items;
        tells = record {
          headed = headed;
          are = are;
          is = rest (list_lines (title heading) written keeps.items)
              (lines_passed Fits written Are tally Headed title heading old behind before new kept
              first (passes_kept behind before kept list keeps) last);
        };
        are = keeps.are;
      }
