-- Labels that are looked at once.
use Rattle.std.specs.Prelude.{◌≡◌, ℕ, Bool, List, map, slice_get, slice_index_or, Option, option_map}
use Rattle.std.specs.Option.{option_and_then}
use Rattle.pls_labels.specs.Seen.{SeenPort}

-- what bits say at a glance, by a way to read them and what is kept of what they say
abbrev pub seen_in : {L G : Type 0} → (List Bool → Option L) → (L → G) → List Bool → Option G
seen_in read glance bits = option_map glance (read bits)

-- of each label this is what it says at a glance
abbrev pub AreLooked : {L G : Type 0} → (List Bool → Option L) → (L → G) → List (List Bool)
    → List (Option G) → Type 0
AreLooked read glance labels looked = looked ≡ map (seen_in read glance) labels

-- what is seen at a glance at the port with this number, if there is one
abbrev pub seen_above : {L G : Type 0} → (List Bool → Option L) → (L → G) → List SeenPort
    → Option ℕ → Option G
seen_above read glance ports up =
    option_and_then (λ port. seen_in read glance port.label) (option_and_then (slice_get ports) up)

-- what is kept of the label of the neighbour at the port with this number, where the neighbours
-- stand at these places
abbrev pub kept_at_port : {G E : Type 0} → (E → Option G) → List E → List ℕ → ℕ → Option G
kept_at_port kept looked places p =
    option_and_then kept (slice_get looked (slice_index_or places p 0))
