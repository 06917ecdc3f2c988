-- Which label line, or `end` line, does not fit the nodes of a network.
use Rattle.std.specs.Prelude.{ℕ, ◌+◌, ◌==◌, if◌then◌else◌, List, [], ◌∷◌, Option, Some, None, option_map}
use Rattle.pls_labelfile.specs.LabelsText.{NamedLabel}

-- the place, from 0, of the first label that is out of step with the nodes: it names another than
-- the one whose turn it is, or comes when each node has its own; where labels end too early it is
-- the place behind the last
abbrev pub misfit : List ℕ → List NamedLabel → Option ℕ
misfit [] [] = None
misfit [] (label ∷ labels) = Some 0
misfit (id ∷ ids) [] = Some 0
misfit (id ∷ ids) (label ∷ labels) =
    if id == label.id then option_map (λ place. place + 1) (misfit ids labels) else Some 0
