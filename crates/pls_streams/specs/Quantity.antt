-- The names of the quantities that are limited.
use Rattle.std.specs.Prelude.{ℕ, List, codes}
use Rattle.pls_streams.specs.declared.text_error.Quantity.{Quantity}
use Rattle.pls_streams.specs.declared.text_error.Quantity.TheVariants.{Input, Nodes, Ports, Bits, Events, Rounds, Labels}

-- the word for a quantity
abbrev pub quantity_text : Quantity → List ℕ
quantity_text Input = codes "input"
quantity_text Nodes = codes "nodes"
quantity_text Ports = codes "ports"
quantity_text Bits = codes "bits"
quantity_text Events = codes "events"
quantity_text Rounds = codes "rounds"
quantity_text Labels = codes "labels"
