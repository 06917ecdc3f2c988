-- How deep parentheses stand from a place of a text on.
use Rattle.std.proofs.Common.{◌≡◌, ◌∙◌, ℕ, suc, ◌<◌, ◌≤◌, nat_lt, true, List, ◌∷◌, length, drop, get_or, ap, arith}
use Rattle.std.proofs.Math.Seq.{drop-cons}
use Rattle.std.proofs.lemmas.Bool.{lt-ltb, ltb-true, ltb_from_iff}
use Rattle.pls_fronts.specs.Depth.{deepest, depth_after}
use Rattle.pls_fronts.specs.laws.DepthLaws.{deepest-start}

-- behind a character, where they stood no more than so deep in front of it
deepest-step : (most depth character : ℕ) (text : List ℕ) → depth ≤ most
    → nat_lt most (deepest depth (character ∷ text))
    ≡ nat_lt most (deepest (depth_after depth character) text)
deepest-step most depth character text shallow =
    ltb_from_iff (
      λ deep. omega (arith, shallow, ltb-true most (deepest depth (character ∷ text)) deep),
      λ deep. lt-ltb most (deepest depth (character ∷ text)) (omega (arith, deep)),
    )

-- the same at a place of a text
pub deepest-at : (most depth place : ℕ) (text : List ℕ) (character : ℕ) → depth ≤ most
    → place < length text → character ≡ get_or text place 0
    → nat_lt most (deepest depth (drop place text))
    ≡ nat_lt most (deepest (depth_after depth character) (drop (suc place) text))
deepest-at most depth place text character shallow within is =
    ap (λ (t : List ℕ). nat_lt most (deepest depth t)) (drop-cons text place 0 within)
    ∙ rw is (deepest-step most depth (get_or text place 0) (drop (suc place) text) shallow)

-- where they stand deeper, they do
pub deepest-past : (most depth : ℕ) (text : List ℕ) → most < depth
    → nat_lt most (deepest depth text) ≡ true
deepest-past most depth text past =
    lt-ltb most (deepest depth text) (omega (arith, past, deepest-start depth text))
