-- What a reader of a list has passed grows by one item more, and by the heading and the `end`.
use Rattle.std.proofs.Common.{◌≡◌, ℕ, List, [], ◌∷◌, ◌++◌, map, codes, sym, ◌∙◌, subst}
use Rattle.pls_lines.specs.Text.{text_of}
use Rattle.pls_lines.specs.Lines.{Left, Passes, Stands}
use Rattle.pls_lines.specs.LineKind.{IsLineKind, Says}
use Rattle.pls_lines.specs.Part.{PassesFormat}
use Rattle.pls_lines.specs.ListPart.{Begun, IsListKind, IsListPart, PassesList, list_lines}
use Rattle.pls_lines.specs.inner.ListScan.{MayFollow, PassesItem, PassesItems}
use Rattle.pls_lines.specs.laws.ListLaws.{is_list_part}
use Rattle.pls_lines.specs.laws.Cuts.{same_first}
use Rattle.pls_lines.specs.laws.Fronts.{first_line}
use Rattle.pls_lines.proofs.Passing.{framed_passed, passes_none, passes_push, passes_then}

module _ {X S : Type 0} (Fits : X → Type 0) (written : X → List ℕ) (Are : List X → Type 0)
    (tally : List X → S) where
  -- no item so far
  pub no_items : (old : Left) (kept : S) → Begun Are [] → kept ≡ tally []
      → PassesItems written Are tally old old kept
  no_items old kept begun counted =
      record { items = []; begun = begun; passed = passes_none old; counted = counted }

  -- one item more
  pub one_item_more : (old mid new : Left) (before now : S)
      → PassesItems written Are tally old mid before
      → PassesItem Fits written Are tally mid new before now
      → PassesItems written Are tally old new now
  one_item_more old mid new before now items item = record {
    items = items.items ++ item.value ∷ [];
    begun = item.begun items.items items.begun items.counted;
    passed = passes_push written old mid new items.items item.value items.passed item.passed;
    counted = item.counted items.items items.begun items.counted;
  }

  -- the line that stands next says an item that may not follow
  pub no_other : (old new : Left) (items : List X) (value : X) → IsLineKind Fits written → Fits value
      → Passes old new (written value ∷ []) → (Begun Are (items ++ value ∷ []) → ⊥)
      → Stands (MayFollow Fits written Are items) old.rest → ⊥
  no_other old new items value kind fits passes not next =
      let cut = same_first 10 next.line (written value) next.after new.rest next.plain
      (kind.plain value fits)
      (sym next.cut ∙ passes.stands ∙ first_line (written value) [] new.rest) in
      let same = kind.one next.is.value value next.is.fits fits (sym next.is.is ∙ cut.0) in
      not (subst (λ (v : X). Begun Are (items ++ v ∷ [])) same next.is.begun)

  module _ {H : Type 0} (Headed : H → Type 0) (title : H → List ℕ) (heading : H) where
    -- the place between the heading and what follows items
    pub place_behind : (old behind now : Left) (kept : S) → Passes old behind (title heading ∷ [])
        → (items : PassesItems written Are tally behind now kept)
        → Passes old now (title heading ∷ map written items.items)
    place_behind old behind now kept first items =
        passes_then old behind now (title heading ∷ []) (map written items.items) first
        items.passed

    -- heading, items and `end` are the lines of a part
    pub lines_passed : (old behind before new : Left) (kept : S)
        → Passes old behind (title heading ∷ [])
        → (items : PassesItems written Are tally behind before kept)
        → Passes before new (codes "end" ∷ [])
        → Passes old new (list_lines (title heading) written items.items)
    lines_passed old behind before new kept first items last =
        framed_passed (title heading) (map written items.items) old behind before new first
        items.passed last

    -- and with their text the part is kept
    pub list_passed : (old behind before new : Left) (at : Left) (kept : S) → Headed heading
        → Passes old behind (title heading ∷ [])
        → (items : PassesItems written Are tally behind before kept)
        → Are items.items → Passes before new (codes "end" ∷ []) → at.number ≡ old.number
        → ((lines : List (List ℕ)) → Passes old new lines → at.rest ≡ text_of lines)
        → PassesList Headed title written Are tally old new heading at kept
    list_passed old behind before new at kept headed first items are last number rest =
        let passed = lines_passed old behind before new kept first items last in
        record {
          items = items.items;
          tells = record {
            headed = headed;
            are = are;
            is = rest (list_lines (title heading) written items.items) passed;
          };
          passed = passed;
          number = number;
          counted = items.counted;
        }

    -- a part that was passed is of its form
    pub list_formed : (old new : Left) (at : Left) (kept : S) → IsLineKind Headed title
        → IsLineKind Fits written → IsListKind Headed Fits Are
        → PassesList Headed title written Are tally old new heading at kept
        → PassesFormat (IsListPart (Says Headed title) written Are) old new
    list_formed old new at kept titles kind list part = record {
      lines = list_lines (title heading) written part.items;
      is = is_list_part Headed title Fits written Are titles kind list heading part.items
          part.tells.headed part.tells.are;
      passed = part.passed;
    }
