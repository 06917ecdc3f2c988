-- How long labels with maps are.
use Rattle.std.specs.Prelude.{ℕ, ◌+◌, ◌*◌, Bool, List, [], ◌∷◌}
use Rattle.pls_graph.specs.declared.size.Size.{Size}
use Rattle.pls_scheme.specs.Length.{codes_length}

-- the codes of an identity and a count, those in front of the ports of each node, and those of each
-- port, all as long as they may be in a network of this size
abbrev pub longest_map : (ℕ → List Bool) → Size → ℕ
longest_map code size =
    codes_length code [] (size.max_id ∷ size.nodes ∷ [])
    + size.nodes * codes_length code [] (size.max_id ∷ size.max_degree ∷ size.max_mark
    ∷ size.max_num ∷ size.max_degree ∷ [])
    + size.ports * codes_length code [] (size.max_id ∷ size.max_weight ∷ [])
