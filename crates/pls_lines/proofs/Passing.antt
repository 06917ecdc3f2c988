-- A reader that passes lines, and then more.
use Rattle.std.proofs.Common.{ℕ, ◌+◌, ◌≤◌, List, [], ◌∷◌, ◌++◌, map, codes, refl, sym, ◌∙◌, ap, subst, append_assoc, length-append, arith}
use Rattle.std.proofs.lemmas.List.{map_push, length-map}
use Rattle.std.proofs.lemmas.List.Elements.{All-nil, All-push}
use Rattle.pls_lines.specs.Text.{text_of}
use Rattle.pls_lines.specs.Frame.{part_lines}
use Rattle.pls_lines.specs.Lines.{Left, Passes}
use Rattle.pls_lines.specs.LineKind.{PassesAll}
use Rattle.pls_lines.specs.laws.Fronts.{text_of-append}

-- a reader has passed no line so far
pub passes_none : (old : Left) → Passes old old []
passes_none old = record { stands = refl; number = omega arith }

-- some lines, and then some more
pub passes_then : (old mid new : Left) (front back : List (List ℕ)) → Passes old mid front
    → Passes mid new back
    → Passes old new (front ++ back)
passes_then old mid new front back p q = record {
  stands = p.stands ∙ ap (λ rest. text_of front ++ rest) q.stands
      ∙ sym (append_assoc (text_of front) (text_of back) new.rest)
      ∙ ap (λ text. text ++ new.rest) (sym (text_of-append front back));
  number = omega (arith, p.number, q.number, length-append front back);
}

-- heading, body and `end` are a part
pub framed_passed : (heading : List ℕ) (body : List (List ℕ)) (old behind before new : Left)
    → Passes old behind (heading ∷ []) → Passes behind before body
    → Passes before new (codes "end" ∷ []) → Passes old new (part_lines heading body)
framed_passed heading body old behind before new first passed last =
    passes_then old behind new (heading ∷ []) (body ++ codes "end" ∷ []) first
    (passes_then behind before new body (codes "end" ∷ []) passed last)

-- the lines of some values, and then of one more
pub passes_push : {X : Type 0} (written : X
    → List ℕ) (old mid new : Left) (values : List X) (value : X)
    → Passes old mid (map written values) → Passes mid new (written value ∷ [])
    → Passes old new (map written (values ++ value ∷ []))
passes_push written old mid new values value so_far passed =
    subst (Passes old new) (sym (map_push written values value))
    (passes_then old mid new (map written values) (written value ∷ []) so_far passed)

-- no line of a kind, and one more
pub none_passed : {X : Type 0} (Fits : X → Type 0) (written : X → List ℕ) (old : Left)
    → PassesAll Fits written old old 0
none_passed Fits written old =
    record { values = []; fits = All-nil Fits; passed = passes_none old; many = refl }

pub one_more_passed : {X : Type 0} (Fits : X → Type 0) (written : X
    → List ℕ) (old mid new : Left) (count : ℕ) (value : X)
    → PassesAll Fits written old mid count → Fits value → Passes mid new (written value ∷ [])
    → PassesAll Fits written old new (count + 1)
one_more_passed Fits written old mid new count value so_far fits passed = record {
  values = so_far.values ++ value ∷ [];
  fits = All-push Fits so_far.values value so_far.fits fits;
  passed = passes_push written old mid new so_far.values value so_far.passed passed;
  many = omega (arith, so_far.many, length-append so_far.values (value ∷ []));
}

-- no more lines of a kind than the number of the line
pub count_within : {X : Type 0} (Fits : X → Type 0) (written : X
    → List ℕ) (old new : Left) (count : ℕ)
    → PassesAll Fits written old new count → old.number + count ≤ new.number
count_within Fits written old new count all =
    omega (arith, all.many, all.passed.number, length-map all.values written)
