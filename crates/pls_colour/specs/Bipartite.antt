-- The scheme of two-colourings: what a label says, what a node judges, and the marker's labels. The
-- property is that the nodes can be given two colours so that the ends of each edge differ.
use Rattle.std.specs.Prelude.{ℕ, zero, suc, Bool, true, false, List, [], ◌∷◌, Option, Some, None}
use Rattle.std.specs.List.{list_all}
use Rattle.pls_configuration.specs.declared.row.NodeRow.{NodeRow}
use Rattle.pls_bits.specs.Bytes.{weigh}
use Rattle.pls_graph.specs.declared.size.Size.{Size}
use Rattle.pls_numbers.specs.Shape.{Shape}
use Rattle.pls_numbers.specs.declared.kind.FieldKind.TheVariants.{Bit}
use Rattle.pls_scheme.specs.Reading.{Read, ReadPort}
use Rattle.pls_facts.specs.Bipartite.{is_odd, differ}
use Rattle.pls_colour.specs.declared.colour_format.ColourLabel.{ColourLabel}
use Rattle.pls_colour.specs.Levelled.{saying_level}

-- the label with this colour
abbrev pub colour_says : Bool → ColourLabel
colour_says colour = record { colour = colour }

-- the number of a label: 1 for the one colour, 0 for the other
abbrev pub numbers_of_colour : ColourLabel → List ℕ
numbers_of_colour label = weigh label.colour ∷ []

-- the label of a number
abbrev pub colour_of_numbers : List ℕ → Option ColourLabel
colour_of_numbers (zero ∷ []) = Some (colour_says false)
colour_of_numbers (suc zero ∷ []) = Some (colour_says true)
colour_of_numbers list = None

-- a label is one number, written as one bit
abbrev pub colour_shape : Shape ColourLabel
colour_shape = record {
  kinds = Bit ∷ [];
  numbers = numbers_of_colour;
  Proper = λ label. Unit {0};
  of_numbers = colour_of_numbers;
}

-- the neighbour's colour differs from this one
abbrev pub differs_from : Bool → ReadPort ColourLabel → Bool
differs_from own port = differ own port.label.colour

-- rule 3: each neighbour's colour differs from the own colour
abbrev pub differs_from_neighbours : Read ColourLabel → Bool
differs_from_neighbours view = list_all (differs_from view.own.colour) view.ports

-- the rules from 3 on
abbrev pub bipartite_rules : Read ColourLabel → List Bool
bipartite_rules view = differs_from_neighbours view ∷ []

-- the label for a level: whether it is odd
abbrev pub parity_label : ℕ → ColourLabel
parity_label level = colour_says (is_odd level)

-- the label of a node is the parity of its level: of its distance in edges from the node whose
-- identity is smallest
abbrev pub bipartite_says : List NodeRow → NodeRow → ColourLabel → Type 0
bipartite_says rows row label = saying_level parity_label rows row label

-- no number of a marked label is greater
abbrev pub bipartite_limits : Size → List ℕ
bipartite_limits size = 1 ∷ []
