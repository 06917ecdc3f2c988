-- Lists that close are the lists of a part.
use Rattle.std.proofs.Common.{◌≡◌, Bool, List, [], ◌∷◌, ◌++◌, refl, ◌∙◌}
use Rattle.std.specs.List.{All}
use Rattle.std.proofs.lemmas.List.Elements.{All-nil, All-push}
use Rattle.pls_lines.specs.LineKind.{Always}
use Rattle.pls_lines.specs.ListPart.{Begun, IsListKind}
use Rattle.pls_closing.specs.Closing.{AreClosed, HasClosing, is_closed}

module _ {X : Type 0} (Fits : X → Type 0) (closes : X → Bool) (may_lack : Bool) where
  -- one more item closes the list, or does not
  pub closed_push : (front : List X) (item : X)
      → is_closed closes may_lack (front ++ item ∷ []) ≡ closes item
  closed_push [] item = refl
  closed_push (first ∷ []) item = refl
  closed_push (first ∷ next ∷ front) item = closed_push (next ∷ front) item

  -- items that fit begin a list: one that closes makes it whole
  pub fits_begin : HasClosing Fits closes → (front : List X) → All Fits front
      → Begun (AreClosed Fits closes may_lack) front
  fits_begin some front fits = record {
    more = some.item ∷ [];
    are = record {
      each = All-push Fits front some.item fits some.fits;
      closed = closed_push front some.item ∙ some.ends;
    };
  }

-- such lists have items that fit, and there is one
pub closed_list : {H X : Type 0} (heading : H) (Fits : X → Type 0) (closes : X → Bool)
    (may_lack : Bool) → HasClosing Fits closes
    → IsListKind {H = H} Always Fits (AreClosed Fits closes may_lack)
closed_list heading Fits closes may_lack some = record {
  heading = heading;
  headed = tt;
  fits = λ items are. are.each;
  some = fits_begin Fits closes may_lack some [] (All-nil Fits);
}
