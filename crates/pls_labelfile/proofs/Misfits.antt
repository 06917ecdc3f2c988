-- Which labels fit the nodes.
use Rattle.std.proofs.Common.{◌≡◌, ◌≢◌, ℕ, ◌+◌, ◌==◌, Bool, true, false, if◌then◌else◌, List, [], ◌∷◌, ◌++◌, map, length, Option, Some, None, refl, ap, option_map, arith}
use Rattle.std.proofs.lemmas.Bool.{eq-eqb, eqb-true, ne_eqb}
use Rattle.std.specs.Option.{option_map}
use Rattle.pls_labelfile.specs.LabelsText.{NamedLabel}
use Rattle.pls_labelfile.specs.Misfit.{misfit}

-- the identities that labels name
abbrev pub names_of : List NamedLabel → List ℕ
names_of labels = map (λ label. label.id) labels

-- a place raised by none stays
raised_by_none : (place : Option ℕ) → place ≡ option_map (λ p. p + 0) place
raised_by_none None = refl
raised_by_none (Some p) = ap (λ (n : ℕ). Some n) (omega arith)

-- a place raised, and by one more
raised_once_more : (place : Option ℕ) (n m : ℕ) → m ≡ n + 1
    → option_map (λ p. p + 1) (option_map (λ p. p + n) place) ≡ option_map (λ p. p + m) place
raised_once_more None n m e = refl
raised_once_more (Some p) n m e = ap (λ (k : ℕ). Some k) (omega arith)

-- behind labels that name their nodes, the rest decides
pub misfit-append : (read more : List NamedLabel) (left : List ℕ)
    → misfit (names_of read ++ left) (read ++ more)
    ≡ option_map (λ p. p + length read) (misfit left more)
misfit-append [] more left = raised_by_none (misfit left more)
misfit-append (label ∷ read) more left =
    rw (eq-eqb label.id label.id refl, misfit-append read more left)
    (raised_once_more (misfit left more) (length read) (length (label ∷ read)) (omega arith))

-- the first label names another node
pub misfit-first : (id : ℕ) (ids : List ℕ) (label : NamedLabel) (labels : List NamedLabel)
    → id ≢ label.id
    → misfit (id ∷ ids) (label ∷ labels) ≡ Some 0
misfit-first id ids label labels other = rw (ne_eqb id label.id other) refl

-- labels fit where they name the nodes, one for each
pub misfit-named : (labels : List NamedLabel) → misfit (names_of labels) labels ≡ None
misfit-named [] = refl
misfit-named (label ∷ labels) =
    rw (eq-eqb label.id label.id refl, misfit-named labels) refl

-- no place was raised
raised_none : (place : Option ℕ) → option_map (λ p. p + 1) place ≡ None → place ≡ None
raised_none None e = refl
raised_none (Some p) e = cc

-- and only there
pub names_fit : (ids : List ℕ) (labels : List NamedLabel) → misfit ids labels ≡ None
    → names_of labels ≡ ids
names_fit [] [] e = refl
names_fit [] (label ∷ labels) e = cc
names_fit (id ∷ ids) [] e = cc
names_fit (id ∷ ids) (label ∷ labels) e =
    by (λ none. names_fit ids labels none) (id == label.id) refl e
  where
    by : (misfit ids labels ≡ None → names_of labels ≡ ids) → (same : Bool)
        → (id == label.id) ≡ same
        → (if same then option_map (λ p. p + 1) (misfit ids labels) else Some 0) ≡ None
        → names_of (label ∷ labels) ≡ id ∷ ids
    by others true same e =
        let first = eqb-true id label.id same in
        let rest = others (raised_none (misfit ids labels) e) in
        cc
    by others false same e = cc
