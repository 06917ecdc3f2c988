-- The items of a text that was passed, read again.
use Rattle.std.proofs.Common.{◌≡◌, ℕ, List, [], ◌∷◌, ◌++◌, map, codes, refl, sym, ◌∙◌, ap, subst, Option, Some, None, IfSome, IfNone, append-nil}
use Rattle.std.proofs.lemmas.List.Elements.{All-head, All-tail}
use Rattle.pls_lines.specs.Text.{text_of}
use Rattle.pls_lines.specs.Lines.{Left, Passes, Stands}
use Rattle.pls_lines.specs.LineKind.{IsLineKind, Says}
use Rattle.pls_lines.specs.Frame.{part_lines}
use Rattle.std.proofs.lemmas.List.{append_cancel_right}
use Rattle.pls_lines.specs.laws.Parts.{whole_once}
use Rattle.pls_lines.specs.laws.ListLaws.{is_list_part, list_is_part}
use Rattle.pls_lines.proofs.ListItems.{same_items}
use Rattle.pls_lines.specs.ListPart.{IsListKind, IsListPart, IsWholeList, NextItem, PassesList, Remains, TellsItems, list_lines, list_text, to_end}
use Rattle.pls_lines.specs.laws.Frames.{end_plain}
use Rattle.pls_lines.specs.laws.Fronts.{same_line}

-- a part tells its heading and what follows it
same_parts : (g h : List ℕ) (a b : List (List ℕ)) → part_lines g a ≡ part_lines h b
    → (g ≡ h) × (a ++ codes "end" ∷ [] ≡ b ++ codes "end" ∷ [])
same_parts g h a b e = (cc, cc)

-- two parts at the front of one text are one
pub record OneList {H X : Type 0} (g h : H) (a b : List X) (x y : List ℕ) : Type 0 where
  pub heading : g ≡ h
  pub items : a ≡ b
  pub behind : x ≡ y

module _ {X : Type 0} (Fits : X → Type 0) (written : X → List ℕ)
    (kind : IsLineKind Fits written) where
  -- an item was read where the text says items
  pub one_less : (old new : Left) (value : X) (items : List X) → Fits value
      → Passes old new (written value ∷ []) → Remains Fits written old.rest items
      → NextItem Fits written items value new.rest
  one_less old new value [] fits passes remains =
      let cut = same_line (written value) (codes "end") [] [] new.rest []
      (kind.plain value fits) end_plain
      (sym passes.stands ∙ remains.is ∙ sym (append-nil (text_of (to_end written [])))) in
      absurd (kind.no_end value fits cut.0)
  one_less old new value (first ∷ more) fits passes remains =
      let fits_first = All-head Fits first more remains.fits in
      let cut = same_line (written value) (written first) [] (to_end written more) new.rest []
      (kind.plain value fits) (kind.plain first fits_first)
      (sym passes.stands ∙ remains.is
      ∙ sym (append-nil (text_of (to_end written (first ∷ more))))) in
      let same = kind.one value first fits fits_first cut.0 in
      record {
        more = more;
        are = ap (λ (v : X). v ∷ more) (sym same);
        remains = record {
          fits = All-tail Fits first more remains.fits;
          is = cut.1 ∙ append-nil (text_of (to_end written more));
        };
      }

  -- none was read
  pub none_left : (text : List ℕ) (items : List X) → (Stands (Says Fits written) text → ⊥)
      → Remains Fits written text items → items ≡ []
  none_left text [] absent remains = refl
  none_left text (first ∷ more) absent remains =
      let fits = All-head Fits first more remains.fits in
      absurd (absent (record {
        line = written first;
        after = text_of (to_end written more);
        is = record { value = first; fits = fits; is = refl };
        plain = kind.plain first fits;
        cut = remains.is;
      }))

  -- what one step of reading says of the items
  pub next_told : (old new : Left) (read : Option X) → IfSome read Fits
      → IfSome read (λ value. Passes old new (written value ∷ []))
      → IfSome read (λ value. (items : List X) → Remains Fits written old.rest items
      → NextItem Fits written items value new.rest)
  next_told old new None fits passes = tt
  next_told old new (Some value) fits passes =
      λ items remains. one_less old new value items fits passes remains

  pub none_told : (text : List ℕ) (read : Option X)
      → IfNone read (Stands (Says Fits written) text → ⊥)
      → IfNone read ((items : List X) → Remains Fits written text items → items ≡ [])
  none_told text None absent = λ items remains. none_left text items absent remains
  none_told text (Some value) absent = tt

module _ {H X : Type 0} (Headed : H → Type 0) (title : H → List ℕ) (Fits : X → Type 0)
    (written : X → List ℕ) (Are : List X → Type 0) (titles : IsLineKind Headed title)
    (kind : IsLineKind Fits written) (list : IsListKind Headed Fits Are) where
  -- the heading stands at the front of the text
  heading_stands : (text : List ℕ) (heading : H) (items : List X)
      → TellsItems Headed title written Are text heading items → Stands (Says Headed title) text
  heading_stands text heading items tells = record {
    line = title heading;
    after = text_of (to_end written items);
    is = record { value = heading; fits = tells.headed; is = refl };
    plain = titles.plain heading tells.headed;
    cut = tells.is;
  }

  -- behind the heading line that was read the text says its items, and then `end`
  behind_heading : (old new : Left) (heading read : H) (items : List X) → Headed read
      → TellsItems Headed title written Are old.rest heading items
      → Passes old new (title read ∷ []) → Remains Fits written new.rest items
  behind_heading old new heading read items headed tells passes =
      let cut = same_line (title read) (title heading) [] (to_end written items) new.rest []
      (titles.plain read headed) (titles.plain heading tells.headed)
      (sym passes.stands ∙ tells.is ∙ sym (append-nil (list_text (title heading) written items))) in
      record {
        fits = list.fits items tells.are;
        is = cut.1 ∙ append-nil (text_of (to_end written items));
      }

  -- so the heading is read, and then the text says the items
  pub heading_read : (at old new : Left) (heading : H) (read : Option H) → old ≡ at
      → IfSome read Headed → IfSome read (λ value. Passes old new (title value ∷ []))
      → IfNone read (Stands (Says Headed title) old.rest → ⊥)
      → (items : List X) → TellsItems Headed title written Are at.rest heading items
      → Remains Fits written new.rest items
  heading_read at old new heading (Some value) start headed passes none items tells =
      behind_heading old new heading value items headed
      (subst (λ (left : Left). TellsItems Headed title written Are left.rest heading items)
      (sym start) tells) passes
  heading_read at old new heading None start headed passes none items tells =
      absurd (none (heading_stands old.rest heading items
      (subst (λ (left : Left). TellsItems Headed title written Are left.rest heading items)
      (sym start) tells)))

  -- a text has one list of items under its heading at its front
  pub one_list : (g h : H) (a b : List X) (x y : List ℕ) → Headed g → Headed h → Are a → Are b
      → list_text (title g) written a ++ x ≡ list_text (title h) written b ++ y
      → OneList g h a b x y
  one_list g h a b x y p_g p_h p q e =
      let format = IsListPart (Says Headed title) written Are in
      let whole = whole_once format (list_lines (title g) written a)
      (list_lines (title h) written b) x y
      (list_is_part Headed title Fits written Are titles kind list)
      (is_list_part Headed title Fits written Are titles kind list g a p_g p)
      (is_list_part Headed title Fits written Are titles kind list h b p_h q) e in
      let parts = same_parts (title g) (title h) (map written a) (map written b) whole.0 in
      record {
        heading = titles.one g h p_g p_h parts.0;
        items = same_items Fits written kind a b (list.fits a p) (list.fits b q)
            (append_cancel_right (map written a) (map written b) (codes "end" ∷ []) parts.1);
        behind = whole.1;
      }

  -- the items that a text says are told by it
  pub one_told : (text : List ℕ) (g h : H) (a b : List X)
      → TellsItems Headed title written Are text g a
      → TellsItems Headed title written Are text h b → a ≡ b
  one_told text g h a b p q =
      (one_list g h a b [] [] p.headed q.headed p.are q.are
      (append-nil (list_text (title g) written a) ∙ sym p.is ∙ q.is
      ∙ sym (append-nil (list_text (title h) written b)))).items

  module _ {S : Type 0} (tally : List X → S) where
    -- a text that was passed whole
    pub whole_list : (text : List ℕ) (heading : H) (old now at : Left) (kept : S)
        → old.number ≡ 1 → old.rest ≡ text → now.rest ≡ []
        → PassesList Headed title written Are tally old now heading at kept
        → IsWholeList Headed title written Are tally text heading at kept
    whole_list text heading old now at kept first start none part =
        let lines = list_text (title heading) written part.items in
        let is : text ≡ lines =
        sym start ∙ part.passed.stands ∙ ap (λ (rest : List ℕ). lines ++ rest) none
        ∙ append-nil lines in
        let tells : TellsItems Headed title written Are text heading part.items =
        record { headed = part.tells.headed; are = part.tells.are; is = is } in
        record {
          items = part.items;
          tells = tells;
          number = part.number ∙ first;
          rest = part.tells.is ∙ sym is;
          counted = λ others other.
              part.counted ∙ ap tally (one_told text heading heading part.items others tells other);
        }
