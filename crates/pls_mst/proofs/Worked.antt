-- What nodes judge, and how long marked labels are, at worked examples.
use Rattle.std.proofs.Common.{◌≡◌, ◌==◌, ℕ, map, Bool, List, [], ◌∷◌, Option, Some, None, refl}
use Rattle.std.specs.Prelude.{codes}
use Rattle.pls_configuration.specs.declared.verdict.Verdict.TheVariants.{Accept, Reject}
use Rattle.pls_labels.specs.Seen.{Seen, SeenPort}
use Rattle.pls_bits.specs.Gamma.{floor_log, gamma_code, gamma_takes, log_below}
use Rattle.pls_numbers.specs.Numbers.{left_in}
use Rattle.pls_graph.specs.declared.size.Size.{Size}
use Rattle.pls_scheme.specs.Basic.{verdict_by}
use Rattle.pls_mst.specs.Mst.{longest_mst}
use Rattle.pls_mst.specs.Labels.{mst_shape}
use Rattle.pls_mst.specs.Rules.{mst_rules}

-- the bits that a text of `0` and `1` shows
abbrev bits : List ℕ → List Bool
bits text = map (λ c. c == 49) text

abbrev by : ℕ → List ℕ → SeenPort
by weight label = record { weight = weight; label = bits label }

abbrev node : ℕ → Option ℕ → List ℕ → List SeenPort → Seen
node id up own ports =
    record { id = id; state = record { up = up; mark = 0; num = 0 }; own = bits own; ports = ports }

-- one node alone, the root of no level: the codes of 5, 5, 5, 0 and 0
alone_accepts : verdict_by mst_shape mst_rules gamma_takes (node 5 None (codes "00110001100011011") []) ≡ Accept
unfolding gamma_takes left_in
alone_accepts = refl

-- three nodes, each adjacent to the others along an edge of weight 7, with their marked labels
marked_1 : verdict_by mst_shape mst_rules gamma_takes (node 1 None (codes "01001001010100100001000010011")
    (by 7 (codes "0100110100100100110001000010011") ∷ by 7 (codes "0100010001101101000100000100001100100") ∷ [])) ≡ Accept
unfolding gamma_takes left_in
marked_1 = refl

marked_2 : verdict_by mst_shape mst_rules gamma_takes (node 2 (Some 0) (codes "0100110100100100110001000010011")
    (by 7 (codes "01001001010100100001000010011") ∷ by 7 (codes "0100010001101101000100000100001100100") ∷ [])) ≡ Accept
unfolding gamma_takes left_in
marked_2 = refl

marked_3 : verdict_by mst_shape mst_rules gamma_takes (node 3 (Some 1) (codes "0100010001101101000100000100001100100")
    (by 7 (codes "01001001010100100001000010011") ∷ by 7 (codes "0100110100100100110001000010011") ∷ [])) ≡ Accept
unfolding gamma_takes left_in
marked_3 = refl

-- the third has a copy of the label of the second
copied_1 : verdict_by mst_shape mst_rules gamma_takes (node 1 None (codes "01001001010100100001000010011")
    (by 7 (codes "0100110100100100110001000010011") ∷ by 7 (codes "0100110100100100110001000010011") ∷ [])) ≡ Accept
unfolding gamma_takes left_in
copied_1 = refl

copied_2 : verdict_by mst_shape mst_rules gamma_takes (node 2 (Some 0) (codes "0100110100100100110001000010011")
    (by 7 (codes "01001001010100100001000010011") ∷ by 7 (codes "0100110100100100110001000010011") ∷ [])) ≡ Accept
unfolding gamma_takes left_in
copied_2 = refl

copied_3 : verdict_by mst_shape mst_rules gamma_takes (node 3 (Some 1) (codes "0100110100100100110001000010011")
    (by 7 (codes "01001001010100100001000010011") ∷ by 7 (codes "0100110100100100110001000010011") ∷ [])) ≡ Reject 1 3
unfolding gamma_takes left_in
copied_3 = refl

-- the second node chooses a heavy edge on each of two levels, where a lighter one leaves it
heavy_1 : verdict_by mst_shape mst_rules gamma_takes (node 1 None (codes "01001001010110100100100010001001001000100")
    (by 2 (codes "01001101001001101101101001101101101100100") ∷ by 1 (codes "0100010001101101100100010010001000010001001000100") ∷ [])) ≡ Accept
unfolding gamma_takes left_in
heavy_1 = refl

heavy_2 : verdict_by mst_shape mst_rules gamma_takes (node 2 (Some 0) (codes "01001101001001101101101001101101101100100")
    (by 2 (codes "01001001010110100100100010001001001000100") ∷ by 2 (codes "0100010001101101100100010010001000010001001000100") ∷ [])) ≡ Reject 1 6
unfolding gamma_takes left_in
heavy_2 = refl

heavy_3 : verdict_by mst_shape mst_rules gamma_takes (node 3 (Some 1) (codes "0100010001101101100100010010001000010001001000100")
    (by 1 (codes "01001001010110100100100010001001001000100") ∷ by 2 (codes "01001101001001101101101001101101101100100") ∷ [])) ≡ Accept
unfolding gamma_takes left_in
heavy_3 = refl

-- a fragment lies in two pieces, neither of which has the node that it is named after
pieces_1 : verdict_by mst_shape mst_rules gamma_takes (node 1 None (codes "01001001010100001010010010011")
    (by 1 (codes "010011010010010011010010011") ∷ [])) ≡ Reject 1 5
unfolding gamma_takes left_in
pieces_1 = refl

pieces_2 : verdict_by mst_shape mst_rules gamma_takes (node 2 (Some 0) (codes "010011010010010011010010011")
    (by 1 (codes "01001001010100001010010010011") ∷ by 2 (codes "01000100011011010000101001101100100") ∷ [])) ≡ Accept
unfolding gamma_takes left_in
pieces_2 = refl

pieces_3 : verdict_by mst_shape mst_rules gamma_takes (node 3 (Some 0) (codes "01000100011011010000101001101100100")
    (by 2 (codes "010011010010010011010010011") ∷ [])) ≡ Reject 1 5
unfolding gamma_takes left_in
pieces_3 = refl

-- a label that states 2^60 levels and has one
many_levels : verdict_by mst_shape mst_rules gamma_takes (node 5 None (codes "00110001100011010000000000000000000000000000000000000000000000000000000000001000000000000000000000000000000000000000000000000000000000001") []) ≡ Reject 1 1
unfolding gamma_takes left_in
many_levels = refl

-- a ring of four nodes, with weights of 5 at most
ring : Size
ring = record {
  nodes = 4;
  ports = 8;
  max_id = 4;
  max_weight = 5;
  max_degree = 2;
  max_mark = 0;
  max_num = 0;
}

ring_longest : longest_mst gamma_code ring ≡ 63
unfolding gamma_code floor_log log_below ring
ring_longest = refl
