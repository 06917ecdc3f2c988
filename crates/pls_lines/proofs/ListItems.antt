-- Items, their lines, and what may follow them.
use Rattle.std.proofs.Common.{◌≡◌, ℕ, ◌⊎◌, List, [], ◌∷◌, ◌++◌, map, codes, refl, sym, ◌∙◌, subst, inl, inr, append_assoc}
use Rattle.std.specs.List.{All}
use Rattle.std.proofs.lemmas.List.{map-append}
use Rattle.std.proofs.lemmas.List.Elements.{All-nil, All-cons, All-head, All-tail}
use Rattle.pls_lines.specs.Lines.{Left, Passes, Stands, IsFault}
use Rattle.pls_lines.specs.LineKind.{IsLineKind, Says}
use Rattle.pls_lines.specs.ListPart.{AreItemLines, Begun, IsListKind, IsListPart}
use Rattle.pls_lines.specs.inner.ListScan.{MayFollow}
use Rattle.pls_lines.specs.laws.Frames.{Next, fault_in_heading, fault_in_body}
use Rattle.pls_lines.specs.laws.ListLaws.{headings_plain, items_are_body}
use Rattle.pls_lines.proofs.NextLine.{neither}

-- what holds of each item of a list holds of each at its front, and of one in it
pub All-front : {X : Type 0} (P : X → Type 0) (a b : List X) → All P (a ++ b) → All P a
All-front P [] b p = All-nil P
All-front P (x ∷ a) b p =
    All-cons P x a (All-head P x (a ++ b) p) (All-front P a b (All-tail P x (a ++ b) p))

pub All-here : {X : Type 0} (P : X → Type 0) (a : List X) (x : X) (b : List X)
    → All P (a ++ x ∷ b) → P x
All-here P [] x b p = All-head P x b p
All-here P (y ∷ a) x b p = All-here P a x b (All-tail P y (a ++ x ∷ b) p)

-- the items are the first ones, this one and others
pub record Longer {X : Type 0} (written : X → List ℕ) (a b : List X) (line : List ℕ) : Type 0 where
  pub value : X
  pub more : List X
  pub is : b ≡ a ++ value ∷ more
  pub line_is : line ≡ written value

module _ {X : Type 0} (Fits : X → Type 0) (written : X → List ℕ)
    (kind : IsLineKind Fits written) where
  -- lines tell their items
  pub same_items : (a b : List X) → All Fits a → All Fits b → map written a ≡ map written b → a ≡ b
  same_items [] [] p q e = refl
  same_items [] (d ∷ b) p q e = absurd (cc)
  same_items (c ∷ a) [] p q e = absurd (cc)
  same_items (c ∷ a) (d ∷ b) p q e =
      let line : written c ≡ written d = cc in
      let lines : map written a ≡ map written b = cc in
      let item = kind.one c d (All-head Fits c a p) (All-head Fits d b q) line in
      let items = same_items a b (All-tail Fits c a p) (All-tail Fits d b q) lines in
      cc

  -- and more lines tell more items
  pub more_items : (a b : List X) (line : List ℕ) (others : List (List ℕ)) → All Fits a → All Fits b
      → map written a ++ line ∷ others ≡ map written b → Longer written a b line
  more_items [] [] line others p q e = absurd (cc)
  more_items [] (d ∷ b) line others p q e =
      let head : line ≡ written d = cc in
      record { value = d; more = b; is = refl; line_is = head }
  more_items (c ∷ a) [] line others p q e = absurd (cc)
  more_items (c ∷ a) (d ∷ b) line others p q e =
      let head : written c ≡ written d = cc in
      let tail : map written a ++ line ∷ others ≡ map written b = cc in
      let same = kind.one c d (All-head Fits c a p) (All-head Fits d b q) head in
      let rest = more_items a b line others (All-tail Fits c a p) (All-tail Fits d b q) tail in
      let is = rest.is in
      record { value = rest.value; more = rest.more; is = cc; line_is = rest.line_is }

module _ {H X : Type 0} (Headed : H → Type 0) (title : H → List ℕ) (Fits : X → Type 0)
    (written : X → List ℕ) (Are : List X → Type 0) (titles : IsLineKind Headed title)
    (kind : IsLineKind Fits written) (list : IsListKind Headed Fits Are) where
  -- the parts of this kind
  abbrev pub Parts : List (List ℕ) → Type 0
  Parts lines = IsListPart (Says Headed title) written Are lines

  -- items that begin a list fit
  pub begun_fit : (items : List X) → Begun Are items → All Fits items
  begun_fit items begun = All-front Fits items begun.more (list.fits (items ++ begun.more) begun.are)

  -- the items are all, and the line is `end`
  abbrev pub IsLast : List X → List ℕ → Type 0
  IsLast items line = Are items × (line ≡ codes "end")

  -- the line is an item that may follow, or `end` where the items are all
  abbrev pub IsDue : List X → List ℕ → Type 0
  IsDue items line = IsLast items line ⊎ MayFollow Fits written Are items line

  -- and no other line can stand behind items
  pub next_due : (items : List X) (line : List ℕ) → Begun Are items
      → Next (AreItemLines written Are) (map written items) line → IsDue items line
  next_due items line begun (inl last) =
      let body = last.0 in
      let same = same_items Fits written kind body.items items (list.fits body.items body.are)
      (begun_fit items begun) (sym body.is) in
      inl (subst Are same body.are, last.1)
  next_due items line begun (inr more) =
      let body = more.1 in
      let fits = list.fits body.items body.are in
      let w = more_items Fits written kind items body.items line more.0 (begun_fit items begun) fits
      body.is in
      inr (record {
        value = w.value;
        fits = All-here Fits items w.value w.more (subst (All Fits) w.is fits);
        is = w.line_is;
        begun = record {
          more = w.more;
          are = subst Are (w.is ∙ sym (append_assoc items (w.value ∷ []) w.more)) body.are;
        };
      })

  -- a heading is due
  pub fault_at_heading : (old : Left) → (Stands (Says Headed title) old.rest → ⊥)
      → IsFault Parts old old.number
  fault_at_heading old absent =
      fault_in_heading (Says Headed title) (AreItemLines written Are) (title list.heading)
      (map written list.some.more) old
      (headings_plain Headed title Fits written Are titles kind list)
      (items_are_body Headed title Fits written Are titles kind list)
      (record { value = list.heading; fits = list.headed; is = refl })
      (record { items = list.some.more; are = list.some.are; is = refl }) absent

  -- behind items that begin a list another is due, or `end` where they are all
  fault_behind_items : (heading : H) (old now : Left) (items : List X) → Headed heading
      → Begun Are items → Passes old now (title heading ∷ map written items)
      → (Stands (IsDue items) now.rest → ⊥) → IsFault Parts old now.number
  fault_behind_items heading old now items headed begun passes absent =
      fault_in_body (Says Headed title) (AreItemLines written Are) (IsDue items) (title heading)
      (map written items) (map written begun.more) old now
      (headings_plain Headed title Fits written Are titles kind list)
      (items_are_body Headed title Fits written Are titles kind list)
      (record { value = heading; fits = headed; is = refl })
      passes
      (record {
        items = items ++ begun.more;
        are = begun.are;
        is = sym (map-append written items begun.more);
      })
      absent (λ line next. next_due items line begun next)

  -- they are not all
  pub fault_before_end : (heading : H) (old now : Left) (items : List X) → Headed heading
      → Begun Are items → Passes old now (title heading ∷ map written items)
      → (Stands (MayFollow Fits written Are items) now.rest → ⊥)
      → (Are items → ⊥) → IsFault Parts old now.number
  fault_before_end heading old now items headed begun passes no_item not_all =
      fault_behind_items heading old now items headed begun passes
      (neither (IsLast items) (MayFollow Fits written Are items) now.rest
      (λ next. not_all next.is.0) no_item)

  -- no `end` stands next
  pub fault_at_end : (heading : H) (old now : Left) (items : List X) → Headed heading
      → Begun Are items → Passes old now (title heading ∷ map written items)
      → (Stands (MayFollow Fits written Are items) now.rest → ⊥)
      → (Stands (λ line. line ≡ codes "end") now.rest → ⊥) → IsFault Parts old now.number
  fault_at_end heading old now items headed begun passes no_item no_end =
      fault_behind_items heading old now items headed begun passes
      (neither (IsLast items) (MayFollow Fits written Are items) now.rest
      (λ next. no_end (record {
        line = next.line;
        after = next.after;
        is = next.is.1;
        plain = next.plain;
        cut = next.cut;
      })) no_item)
