-- What nodes judge, and how long marked labels are, at worked examples.
use Rattle.std.proofs.Common.{◌≡◌, ◌==◌, ℕ, map, Bool, List, [], ◌∷◌, Option, Some, None, refl}
use Rattle.std.specs.Prelude.{codes}
use Rattle.pls_configuration.specs.declared.verdict.Verdict.TheVariants.{Accept, Reject}
use Rattle.pls_labels.specs.Seen.{Seen, SeenPort}
use Rattle.pls_bits.specs.Gamma.{floor_log, gamma_code, gamma_takes, log_below}
use Rattle.pls_numbers.specs.Numbers.{left_in}
use Rattle.pls_graph.specs.declared.size.Size.{Size}
use Rattle.pls_scheme.specs.Basic.{verdict_by}
use Rattle.pls_pathmax.specs.PathMax.{longest_pathmax}
use Rattle.pls_pathmax.specs.Labels.{pathmax_shape}
use Rattle.pls_pathmax.specs.Rules.{pathmax_rules}

-- the bits that a text of `0` and `1` shows
abbrev bits : List ℕ → List Bool
bits text = map (λ c. c == 49) text

abbrev by : ℕ → List ℕ → SeenPort
by weight label = record { weight = weight; label = bits label }

abbrev node : ℕ → Option ℕ → List ℕ → List SeenPort → Seen
node id up own ports =
    record { id = id; state = record { up = up; mark = 0; num = 0 }; own = bits own; ports = ports }

-- one node alone: the codes of 5, 5, 5, 0, and one level of 5, 0, 0
alone_accepts : verdict_by pathmax_shape pathmax_rules gamma_takes
    (node 5 None (codes "00110001100011010100011011") []) ≡ Accept
unfolding gamma_takes left_in
alone_accepts = refl

-- three nodes, each adjacent to the others along an edge of weight 7, with their marked labels
marked_1 : verdict_by pathmax_shape pathmax_rules gamma_takes
    (node 1 None (codes "0100100101011011010000100001011")
    (by 7 (codes "01001101001001001111") ∷ by 7 (codes "0100010001101101101101000010000010011") ∷
    [])) ≡ Accept
unfolding gamma_takes left_in
marked_1 = refl

marked_2 : verdict_by pathmax_shape pathmax_rules gamma_takes
    (node 2 (Some 0) (codes "01001101001001001111")
    (by 7 (codes "0100100101011011010000100001011") ∷ by 7 (codes
    "0100010001101101101101000010000010011") ∷ [])) ≡ Accept
unfolding gamma_takes left_in
marked_2 = refl

marked_3 : verdict_by pathmax_shape pathmax_rules gamma_takes
    (node 3 (Some 1) (codes "0100010001101101101101000010000010011")
    (by 7 (codes "0100100101011011010000100001011") ∷ by 7 (codes "01001101001001001111") ∷ []))
    ≡ Accept
unfolding gamma_takes left_in
marked_3 = refl

-- the edges of the tree weigh 2 each, and the third 1; each greatest weight says 1 or 0
light_1 : verdict_by pathmax_shape pathmax_rules gamma_takes
    (node 1 None (codes "010010010101101101001001011")
    (by 2 (codes "01001101001001001111") ∷ by 1 (codes "010001000110110110110100100010011") ∷ []))
    ≡ Reject 1 5
unfolding gamma_takes left_in
light_1 = refl

light_2 : verdict_by pathmax_shape pathmax_rules gamma_takes
    (node 2 (Some 0) (codes "01001101001001001111")
    (by 2 (codes "010010010101101101001001011") ∷ by 2 (codes "010001000110110110110100100010011")
    ∷ [])) ≡ Accept
unfolding gamma_takes left_in
light_2 = refl

light_3 : verdict_by pathmax_shape pathmax_rules gamma_takes
    (node 3 (Some 1) (codes "010001000110110110110100100010011")
    (by 1 (codes "010010010101101101001001011") ∷ by 2 (codes "01001101001001001111") ∷ []))
    ≡ Reject 1 5
unfolding gamma_takes left_in
light_3 = refl

-- the node alone
alone : Size
alone = record {
  nodes = 1;
  ports = 0;
  max_id = 5;
  max_weight = 0;
  max_degree = 0;
  max_mark = 0;
  max_num = 0;
}

alone_longest : longest_pathmax gamma_code alone ≡ 30
unfolding gamma_code floor_log log_below alone
alone_longest = refl
