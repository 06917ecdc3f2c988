-- The compact text of the value of a node is its text; and texts with commas between them.
use Rattle.std.proofs.Common.{◌≡◌, ℕ, true, false, List, [], ◌∷◌, ◌++◌, ◌==◌, length, refl, sym, ap, append-nil, append_assoc, map, codes, decimal, take, get_or, ◌∙◌, ◌+◌, ◌<◌, arith}
use Rattle.std.proofs.lemmas.Bool.{ne_eqb}
use Rattle.std.proofs.lemmas.List.{length-map, length-take, map-append, take_more}
use Rattle.serde_json.specs.Data.{Data}
use Rattle.serde_json.specs.View.{items_of}
use Rattle.serde_json.specs.Written.{compact_text, items_text, items_have_float, has_float}
use Rattle.serde_json.proofs.OnLiterals.{serde_json_on_literals}
use Rattle.pls_configuration.specs.declared.verdict.Verdict.TheVariants.{Accept, Reject}
use Rattle.pls_sim.specs.declared.outcome.Outcome.{Outcome}
use Rattle.pls_sim.specs.declared.outcome.Outcome.TheVariants.{Decided, Waiting}
use Rattle.pls_json.specs.Json.{behind_commas, with_commas, node_text}
use Rattle.pls_json.specs.inner.Values.{after_others, node_data, number_data}

module _ {X : Type 0} (value : X → Data) where
  -- where each item has its text, so have the items behind a first
  items_behind : (text : X → List ℕ) → ((x : X) → compact_text (value x) ≡ text x)
      → (xs : List X)
      → items_text true (items_of (map value xs)) ≡ behind_commas (map text xs) ++ 93 ∷ []
  items_behind text same [] = refl
  items_behind text same (x ∷ xs) =
      rw (
        same x,
        items_behind text same xs,
        ← append_assoc (text x) (behind_commas (map text xs)) (93 ∷ []),
      ) refl

  -- and all items of an array
  items-text : (text : X → List ℕ) → ((x : X) → compact_text (value x) ≡ text x) → (xs : List X)
      → items_text false (items_of (map value xs)) ≡ with_commas (map text xs) ++ 93 ∷ []
  items-text text same [] = refl
  items-text text same (x ∷ xs) =
      rw (
        same x,
        items_behind text same xs,
        ← append_assoc (text x) (behind_commas (map text xs)) (93 ∷ []),
      ) refl

  -- where no item has a fraction, the array has none
  no_fractions : ((x : X) → has_float (value x) ≡ false) → (xs : List X)
      → items_have_float (items_of (map value xs)) ≡ false
  no_fractions none [] = refl
  no_fractions none (x ∷ xs) = rw (none x) (no_fractions none xs)

pub node_fractions : (row : ℕ × Outcome) → has_float (node_data row) ≡ false
node_fractions (id, Decided Accept) = refl
node_fractions (id, Decided (Reject leaf rule)) = refl
node_fractions (id, Waiting ports) = rw (no_fractions number_data (λ n. refl) ports) refl

pub node-text : (row : ℕ × Outcome) → compact_text (node_data row) ≡ node_text row
unfolding serde_json_on_literals
node-text (id, Decided Accept) = refl
node-text (id, Decided (Reject leaf rule)) = refl
node-text (id, Waiting ports) =
    rw (
      items-text number_data decimal (λ n. refl) ports,
      append_assoc (with_commas (map decimal ports)) (93 ∷ []),
    ) refl

-- texts with one more behind them
behind_commas-more : (texts : List (List ℕ)) (text : List ℕ)
    → behind_commas (texts ++ text ∷ []) ≡ behind_commas texts ++ (44 ∷ text)
behind_commas-more [] text = ap (λ (t : List ℕ). 44 ∷ t) (append-nil text)
behind_commas-more (one ∷ texts) text =
    rw (behind_commas-more texts text)
    (ap (λ (t : List ℕ). 44 ∷ t) (sym (append_assoc one (behind_commas texts) (44 ∷ text))))

pub with_commas-more : (texts : List (List ℕ)) (text : List ℕ)
    → with_commas (texts ++ text ∷ []) ≡ with_commas texts ++ after_others (length texts == 0) text
with_commas-more [] text = append-nil text
with_commas-more (one ∷ texts) text =
    let some : (length (one ∷ texts) == 0) ≡ false =
    ne_eqb (length (one ∷ texts)) 0 (λ none. omega (arith, none)) in
    rw (some, behind_commas-more texts text)
    (sym (append_assoc one (behind_commas texts) (44 ∷ text)))

-- the texts of so many rows and of one more
pub one_more : {X : Type 0} (text : X → List ℕ) (rows : List X) (i : ℕ) (row d : X)
    (before old new : List ℕ) → i < length rows → row ≡ get_or rows i d
    → old ≡ before ++ with_commas (map text (take i rows))
    → new ≡ old ++ after_others (i == 0) (text row)
    → new ≡ before ++ with_commas (map text (take (i + 1) rows))
one_more {X} text rows i row d before old new below is was now =
    now ∙ ap (λ (t : List ℕ). t ++ after_others (i == 0) (text row)) was
    ∙ append_assoc before (with_commas (map text (take i rows))) (after_others (i == 0) (text row))
    ∙ ap (λ (t : List ℕ). before ++ t) (sym joined)
  where
    more : take (i + 1) rows ≡ take i rows ++ row ∷ []
    more = take_more rows i d below ∙ ap (λ (r : X). take i rows ++ r ∷ []) (sym is)

    long : length (map text (take i rows)) ≡ i
    long = length-map (take i rows) text ∙ length-take i rows ∙ omega (arith, below)

    joined : with_commas (map text (take (i + 1) rows))
        ≡ with_commas (map text (take i rows)) ++ after_others (i == 0) (text row)
    joined = ap (λ (l : List X). with_commas (map text l)) more
        ∙ ap with_commas (map-append text (take i rows) (row ∷ []))
        ∙ with_commas-more (map text (take i rows)) (text row)
        ∙ ap (λ (n : ℕ). with_commas (map text (take i rows))
        ++ after_others (n == 0) (text row)) long

-- the pieces of a report, one behind the other
pub in_order : {one two three four five : List ℕ} (parts nodes counts : List ℕ)
    → one ≡ codes "{" → two ≡ one ++ parts → three ≡ two ++ codes "\"nodes\":["
    → four ≡ three ++ nodes → five ≡ four ++ counts
    → five ≡ codes "{" ++ (parts ++ (codes "\"nodes\":[" ++ (nodes ++ counts)))
in_order {one} {two} {three} {four} {five} parts nodes counts a b c d e =
    e ∙ ap (λ (t : List ℕ). t ++ counts) (d ∙ ap (λ (t : List ℕ). t ++ nodes)
    (c ∙ ap (λ (t : List ℕ). t ++ codes "\"nodes\":[") (b ∙ ap (λ (t : List ℕ). t ++ parts) a)))
    ∙ append_assoc ((codes "{" ++ parts) ++ codes "\"nodes\":[") nodes counts
    ∙ append_assoc (codes "{" ++ parts) (codes "\"nodes\":[") (nodes ++ counts)
    ∙ append_assoc (codes "{") parts (codes "\"nodes\":[" ++ (nodes ++ counts))
