-- What nodes judge, at worked examples.
use Rattle.std.proofs.Common.{◌≡◌, ◌==◌, ℕ, map, Bool, List, [], ◌∷◌, None, refl}
use Rattle.std.specs.Prelude.{codes}
use Rattle.pls_configuration.specs.declared.verdict.Verdict.TheVariants.{Accept, Reject}
use Rattle.pls_labels.specs.Seen.{Seen, SeenPort}
use Rattle.pls_bits.specs.Gamma.{gamma_takes}
use Rattle.pls_numbers.specs.Numbers.{left_in}
use Rattle.pls_scheme.specs.Basic.{verdict_by}
use Rattle.pls_colour.specs.Bipartite.{bipartite_rules, colour_shape}
use Rattle.pls_colour.specs.Acyclic.{acyclic_rules, acyclic_shape}

-- the bits that a text of `0` and `1` shows
abbrev bits : List ℕ → List Bool
bits text = map (λ c. c == 49) text

abbrev by : List ℕ → SeenPort
by label = record { weight = 1; label = bits label }

abbrev node : List ℕ → List SeenPort → Seen
node own ports =
    record {
      id = 1;
      state = record { up = None; mark = 0; num = 0 };
      own = bits own;
      ports = ports;
    }

-- two colours
differs : verdict_by colour_shape bipartite_rules gamma_takes (node (codes "0") (by (codes "1") ∷ by (codes "1") ∷ [])) ≡ Accept
unfolding left_in gamma_takes
differs = refl

same : verdict_by colour_shape bipartite_rules gamma_takes (node (codes "0") (by (codes "1") ∷ by (codes "0") ∷ [])) ≡ Reject 1 3
unfolding left_in gamma_takes
same = refl

two_bits : verdict_by colour_shape bipartite_rules gamma_takes (node (codes "00") (by (codes "1") ∷ [])) ≡ Reject 1 1
unfolding left_in gamma_takes
two_bits = refl

no_bit : verdict_by colour_shape bipartite_rules gamma_takes (node (codes "0") (by (codes "") ∷ [])) ≡ Reject 1 2
unfolding left_in gamma_takes
no_bit = refl

-- the codes of 0, 1 and 2 are 1, 010 and 011: a node at depth 1 between one at 0 and one at 2
between : verdict_by acyclic_shape acyclic_rules gamma_takes (node (codes "010") (by (codes "1") ∷ by (codes "011") ∷ []))
    ≡ Accept
unfolding left_in gamma_takes
between = refl

-- rule 3: a neighbour is as deep
as_deep : verdict_by acyclic_shape acyclic_rules gamma_takes (node (codes "010") (by (codes "1") ∷ by (codes "010") ∷ []))
    ≡ Reject 1 3
unfolding left_in gamma_takes
as_deep = refl

-- rule 4: two neighbours are less deep, as in a ring
two_above : verdict_by acyclic_shape acyclic_rules gamma_takes (node (codes "010") (by (codes "1") ∷ by (codes "1") ∷ []))
    ≡ Reject 1 4
unfolding left_in gamma_takes
two_above = refl
