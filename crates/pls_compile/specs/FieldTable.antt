-- What a node reads in a table of what all labels say.
use Rattle.std.specs.Prelude.{ℕ, List, [], map, get_or, take, Option, None, unwrap_or, option_map}
use Rattle.std.specs.List.{zip}
use Rattle.pls_configuration.specs.declared.row.State.{State}
use Rattle.pls_configuration.specs.declared.row.Port.{Port}
use Rattle.pls_scheme.specs.Reading.{ReadPort}
use Rattle.pls_compile.specs.RuleMeaning.{Sight}

-- what an entry says, where so many numbers at its front count
abbrev pub front_of : ℕ → Option (List ℕ) → Option (List ℕ)
front_of count entry = option_map (take count) entry

-- what the label at a place says, nothing where it could not be read
abbrev pub said_at : List (Option (List ℕ)) → ℕ → Option (List ℕ)
said_at table place = get_or table place None

-- what is read at a port, beside which stands the place of its neighbour
abbrev pub port_in : List (Option (List ℕ)) → Port × ℕ → ReadPort (List ℕ)
port_in table port =
    record { weight = port.0.weight; label = unwrap_or (said_at table port.1) [] }

-- what a node reads whose neighbours stand at these places
abbrev pub sight_in : List (Option (List ℕ)) → ℕ → State → List ℕ → List Port → List ℕ → Sight
sight_in table id state own ports places =
    record { id = id; state = state; own = own; ports = map (port_in table) (zip ports places) }
