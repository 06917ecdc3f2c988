-- A list of lines with its heading and `end` is a part.
use Rattle.std.proofs.Common.{◌≢◌, ℕ, List, [], ◌∷◌, map, codes, refl, sym, subst}
use Rattle.std.specs.List.{All, AllByRecursion}
use Rattle.std.proofs.lemmas.List.Elements.{All-head, All-tail}
use Rattle.pls_lines.specs.Plain.{LacksItem, ArePlain}
use Rattle.pls_lines.specs.LineKind.{IsLineKind, Says}
use Rattle.pls_lines.specs.Part.{IsPart, IsSomePart}
use Rattle.pls_lines.specs.ListPart.{AreItemLines, IsListKind, IsListPart, list_lines}
use Rattle.pls_lines.specs.laws.Frames.{IsBody, IsPlainHeading, framed_part}

-- what holds of the line of each item holds of the lines of items
pub each_line : {X : Type 0} (Fits : X → Type 0) (written : X → List ℕ) (P : List ℕ → Type 0)
    → ((value : X) → Fits value → P (written value))
    → (items : List X) → All Fits items → AllByRecursion P (map written items)
each_line Fits written P line [] fits = tt
each_line Fits written P line (value ∷ items) fits = (
  line value (All-head Fits value items fits),
  each_line Fits written P line items (All-tail Fits value items fits),
)

module _ {H X : Type 0} (Headed : H → Type 0) (title : H → List ℕ) (Fits : X → Type 0)
    (written : X → List ℕ) (Are : List X → Type 0) (titles : IsLineKind Headed title)
    (kind : IsLineKind Fits written) (list : IsListKind Headed Fits Are) where
  -- a heading is a plain line
  pub headings_plain : IsPlainHeading (Says Headed title)
  headings_plain = λ line says. subst (LacksItem 10) (sym says.is) (titles.plain says.value says.fits)

  -- the lines of items are plain, and none of them is `end`
  pub items_are_body : IsBody (AreItemLines written Are)
  items_are_body = record {
    plain = λ lines is. subst ArePlain (sym is.is)
        (each_line Fits written (LacksItem 10) kind.plain is.items (list.fits is.items is.are));
    open_ended = λ lines is. subst (LacksItem (codes "end")) (sym is.is)
        (each_line Fits written (λ line. line ≢ codes "end") kind.no_end is.items
        (list.fits is.items is.are));
  }

  -- a list of items with its heading and `end` has plain lines, and none begins another
  pub list_is_part : IsPart (IsListPart (Says Headed title) written Are)
  list_is_part =
      framed_part (Says Headed title) (AreItemLines written Are) headings_plain items_are_body

  -- items that can be a part's are a part under each heading
  pub is_list_part : (heading : H) (items : List X) → Headed heading → Are items
      → IsListPart (Says Headed title) written Are (list_lines (title heading) written items)
  is_list_part heading items headed are = record {
    heading = title heading;
    body = map written items;
    headed = record { value = heading; fits = headed; is = refl };
    fits = record { items = items; are = are; is = refl };
    is = refl;
  }

  -- and there is one
  pub list_is_some_part : IsSomePart (IsListPart (Says Headed title) written Are)
  list_is_some_part = record {
    part = list_is_part;
    lines = list_lines (title list.heading) written list.some.more;
    is = is_list_part list.heading list.some.more list.headed list.some.are;
  }
