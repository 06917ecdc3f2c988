-- The text of a list as it is written, line by line.
use Rattle.std.proofs.Common.{◌≡◌, ℕ, ◌+◌, ◌<◌, ◌≤◌, List, [], ◌∷◌, ◌++◌, map, take, length, get_or, codes, sym, ◌∙◌, ap, subst, take_all}
use Rattle.std.proofs.lemmas.List.{map_more}
use Rattle.pls_lines.specs.Text.{text_of}
use Rattle.pls_lines.specs.ListPart.{list_text}
use Rattle.pls_lines.specs.laws.Fronts.{text_of-append}

-- some lines are written, and then some more
pub written_then : (old new : List ℕ) (front back : List (List ℕ)) → old ≡ text_of front
    → new ≡ old ++ text_of back → new ≡ text_of (front ++ back)
written_then old new front back first then =
    then ∙ ap (λ text. text ++ text_of back) first ∙ sym (text_of-append front back)

-- the line of one more item
pub item_more : {X : Type 0} (heading : List ℕ) (written : X → List ℕ) (items : List X) (i : ℕ)
    (item : X) (old new : List ℕ) → i < length items → item ≡ get_or items i item
    → old ≡ text_of (heading ∷ map written (take i items))
    → new ≡ old ++ text_of (written item ∷ [])
    → new ≡ text_of (heading ∷ map written (take (i + 1) items))
item_more {X = X} heading written items i item old new l here first then =
    subst (λ lines. new ≡ text_of (heading ∷ lines))
    (ap (λ (x : X). map written (take i items) ++ written x ∷ []) here
    ∙ sym (map_more written items i item l))
    (written_then old new (heading ∷ map written (take i items)) (written item ∷ []) first then)

-- all lines, and `end`
pub end_more : {X : Type 0} (heading : List ℕ) (written : X → List ℕ) (items : List X) (i : ℕ)
    (old new : List ℕ) → length items ≤ i
    → old ≡ text_of (heading ∷ map written (take i items))
    → new ≡ old ++ text_of (codes "end" ∷ []) → new ≡ list_text heading written items
end_more heading written items i old new all first then =
    written_then old new (heading ∷ map written (take i items)) (codes "end" ∷ []) first then
    ∙ ap (list_text heading written) (take_all i items all)
