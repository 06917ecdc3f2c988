-- The text of labels, and which labels fit their nodes, at worked examples.
use Rattle.std.proofs.Common.{◌≡◌, Some, None, true, false, [], ◌∷◌, ◌++◌, codes, refl}
use Rattle.std.specs.Fmt.{digits}
use Rattle.pls_bits.specs.Hex.{hex_digits}
use Rattle.pls_bits.specs.declared.code_name.CodeName.TheVariants.{Delta, Gamma}
use Rattle.pls_labelfile.specs.LabelsText.{labelling_of, labels_text, named}
use Rattle.pls_labelfile.specs.Misfit.{misfit}

-- labels of one bit, of none, and of nine
some : labels_text (labelling_of Gamma (record { id = 1; bits = true ∷ [] } ∷ record { id = 20; bits = [] }
    ∷ record {
      id = 21;
      bits = true ∷ false ∷ false ∷ false ∷ false ∷ false ∷ false ∷ true ∷ true
          ∷ [];
    } ∷ []))
    ≡ codes "labels\nlabel 1 1 "
    ++ (hex_digits (true ∷ [])
    ++ (codes "\nlabel 20 0 -\nlabel 21 9 "
    ++ (hex_digits (true ∷ false ∷ false ∷ false ∷ false ∷ false ∷ false ∷ true ∷ true ∷ [])
    ++ codes "\nend\n")))
unfolding digits
some = refl

-- no label, under the delta code
none : labels_text (labelling_of Delta []) ≡ codes "labels delta\nend\n"
none = refl

-- each node has its label
all_fit : misfit (1 ∷ 20 ∷ []) (named (1 ∷ 20 ∷ []) ([] ∷ [] ∷ [])) ≡ None
all_fit = refl

-- the second label names another node
other : misfit (1 ∷ 20 ∷ []) (named (1 ∷ 21 ∷ []) ([] ∷ [] ∷ [])) ≡ Some 1
other = refl

-- a label is missing, and there is one too many
missing : misfit (1 ∷ 20 ∷ []) (named (1 ∷ []) ([] ∷ [])) ≡ Some 1
missing = refl

too_many : misfit (1 ∷ []) (named (1 ∷ 20 ∷ []) ([] ∷ [] ∷ [])) ≡ Some 1
too_many = refl
