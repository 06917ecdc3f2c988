-- What nodes judge, at worked examples: three nodes in a row, of which the second points at the
-- first, along an edge of weight 1, and the third at the second, along one of weight 2.
use Rattle.std.proofs.Common.{◌≡◌, ◌==◌, ℕ, map, Bool, List, [], ◌∷◌, Option, Some, None, refl}
use Rattle.std.specs.Prelude.{codes}
use Rattle.pls_configuration.specs.declared.verdict.Verdict.TheVariants.{Accept, Reject}
use Rattle.pls_labels.specs.Seen.{Seen, SeenPort}
use Rattle.pls_bits.specs.Gamma.{gamma_takes}
use Rattle.pls_numbers.specs.Numbers.{left_in}
use Rattle.pls_scheme.specs.Basic.{verdict_by}
use Rattle.pls_distance.specs.Spt.{spt_rules, spt_shape}

-- the bits that a text of `0` and `1` shows
abbrev bits : List ℕ → List Bool
bits text = map (λ c. c == 49) text

abbrev by : ℕ → List ℕ → SeenPort
by weight label = record { weight = weight; label = bits label }

abbrev node : ℕ → Option ℕ → List ℕ → List SeenPort → Seen
node id up own ports =
    record { id = id; state = record { up = up; mark = 0; num = 0 }; own = bits own; ports = ports }

-- the codes of 0, 1, 2, 3 and 5 are 1, 010, 011, 00100 and 00110; a label has the code of the root
-- in front, then that of the depth and that of the distance
abbrev first : List ℕ
first = codes "01011"

abbrev second : List ℕ
second = codes "010010010"

-- the first node is the root, at depth 0 and distance 0
root_accepts : verdict_by spt_shape spt_rules gamma_takes (node 1 None first (by 1 second ∷ [])) ≡ Accept
unfolding left_in gamma_takes
root_accepts = refl

-- the second is one deeper, and as far as the edge is heavy
middle_accepts : verdict_by spt_shape spt_rules gamma_takes
    (node 2 (Some 0) second (by 1 first ∷ by 2 (codes "01001100100") ∷ []))
    ≡ Accept
unfolding left_in gamma_takes
middle_accepts = refl

-- rule 1: a bit behind the own label
spare_bit : verdict_by spt_shape spt_rules gamma_takes (node 1 None (codes "010111") (by 1 second ∷ [])) ≡ Reject 1 1
unfolding left_in gamma_takes
spare_bit = refl

-- rule 2: a neighbour's label is cut off
cut_off : verdict_by spt_shape spt_rules gamma_takes (node 1 None first (by 1 (codes "01001001") ∷ [])) ≡ Reject 1 2
unfolding left_in gamma_takes
cut_off = refl

-- rule 3: a neighbour names another root
other_root : verdict_by spt_shape spt_rules gamma_takes (node 1 None first (by 1 (codes "011010010") ∷ []))
    ≡ Reject 1 3
unfolding left_in gamma_takes
other_root = refl

-- rule 4: a node without pointer is not at distance 0, or not the root
far_root : verdict_by spt_shape spt_rules gamma_takes (node 1 None (codes "0101010") (by 1 second ∷ [])) ≡ Reject 1 4
unfolding left_in gamma_takes
far_root = refl

no_root : verdict_by spt_shape spt_rules gamma_takes (node 2 None first (by 1 first ∷ [])) ≡ Reject 1 4
unfolding left_in gamma_takes
no_root = refl

-- rule 5: the weight of the edge is left out, or the depth, along an edge of weight 0
without_weight : verdict_by spt_shape spt_rules gamma_takes (node 2 (Some 0) (codes "0100101") (by 1 first ∷ []))
    ≡ Reject 1 5
unfolding left_in gamma_takes
without_weight = refl

as_deep : verdict_by spt_shape spt_rules gamma_takes (node 2 (Some 0) first (by 0 first ∷ [])) ≡ Reject 1 5
unfolding left_in gamma_takes
as_deep = refl

-- rule 6: by another port the node would be nearer
lighter_way : verdict_by spt_shape spt_rules gamma_takes
    (node 3 (Some 0) (codes "01001000110") (by 5 first ∷ by 1 second ∷ []))
    ≡ Reject 1 6
unfolding left_in gamma_takes
lighter_way = refl
