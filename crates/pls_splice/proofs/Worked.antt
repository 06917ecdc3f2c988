-- A ring of eight nodes, worked by hand.
use Rattle.std.proofs.Common.{◌≡◌, ℕ, true, false, Bool, List, [], ◌∷◌, None, refl}
use Rattle.pls_configuration.specs.declared.row.NodeRow.{NodeRow}
use Rattle.pls_splice.specs.Crossing.{AreAlike, crossed_rows}
use Rattle.pls_splice.specs.inner.Round.{places_round}
use Rattle.pls_splice.specs.inner.Keys.{edge_key}

abbrev row : (id mark first second : ℕ) → NodeRow
row id mark first second = record {
  id = id;
  state = record { up = None; mark = mark; num = 0 };
  ports = record { nbr = first; weight = 1 } ∷ record { nbr = second; weight = 1 } ∷ [];
}

abbrev eight : List NodeRow
eight = row 1 1 2 8 ∷ row 2 0 1 3 ∷ row 3 0 2 4 ∷ row 4 0 3 5 ∷ row 5 0 4 6 ∷ row 6 0 5 7
    ∷ row 7 0 6 8 ∷ row 8 0 7 1 ∷ []

abbrev order : List ℕ
order = 0 ∷ 1 ∷ 2 ∷ 3 ∷ 4 ∷ 5 ∷ 6 ∷ 7 ∷ []

abbrev labels : List (List Bool)
labels = (false ∷ []) ∷ (true ∷ []) ∷ (false ∷ []) ∷ (true ∷ []) ∷ (false ∷ []) ∷ (true ∷ [])
    ∷ (false ∷ []) ∷ (true ∷ []) ∷ []

round : places_round eight ≡ order
round = refl

alike : AreAlike eight labels order 0 4
alike = record { weights = refl; tails = refl; heads = refl }

apart : crossed_rows eight order 0 4 ≡ row 1 1 6 8 ∷ row 2 0 5 3 ∷ row 3 0 2 4 ∷ row 4 0 3 5
    ∷ row 5 0 4 2 ∷ row 6 0 1 7 ∷ row 7 0 6 8 ∷ row 8 0 7 1 ∷ []
apart = refl

-- a word of the weight, one of the number of bits, and one of a one and two bits
key : edge_key eight labels order 0 ≡ 1 ∷ 1 ∷ 5 ∷ []
key = refl
