-- The numbers of labels: the first label of each node has the place of its node, and then each that
-- is given has the next one.
use Rattle.std.specs.Prelude.{◌≡◌, ◌⊎◌, ℕ, zero, suc, ◌+◌, ◌<◌, ◌≤◌, ◌==◌, Bool, true, List, [], ◌∷◌, filter, flat_map, length, take, slice_get, slice_index_or, Some}
use Rattle.pls_configuration.specs.declared.row.NodeRow.{NodeRow}
use Rattle.pls_configuration.specs.Configuration.{ports_in}
use Rattle.pls_sim.specs.Schedule.{Sent, emits_of}
use Rattle.pls_sim.specs.Ways.{IsSlot}
use Rattle.pls_watch.specs.declared.turn.Turn.{Turn}
use Rattle.pls_watch.specs.declared.turn.Turn.TheVariants.{Plain, Relabel}
use Rattle.pls_watch.specs.Versions.{carried, held, newest, plain_of}

-- the node to which the turn gives a label
abbrev pub relabelled_by : Turn → List ℕ
relabelled_by (Plain event) = []
relabelled_by (Relabel node) = node ∷ []

-- the nodes to which labels are given, in their order
abbrev pub relabelled : List Turn → List ℕ
relabelled turns = flat_map relabelled_by turns

-- the label that is given at this place is one of the node, and so many were given to it before
pub record IsGiven (turns : List Turn) (node before place : ℕ) : Type 0 where
  pub at : slice_get (relabelled turns) place ≡ Some node
  pub count : length (filter (λ other. other == node) (take place (relabelled turns))) ≡ before

-- this version of the label of the node has this number
abbrev pub IsLabel : List NodeRow → List Turn → ℕ → ℕ → ℕ → Type 0
IsLabel rows turns node zero number =
    (row : NodeRow) × (slice_get rows number ≡ Some row) × (row.id ≡ node)
IsLabel rows turns node (suc before) number =
    (place : ℕ) × (number ≡ length rows + place) × IsGiven turns node before place

-- each number is its own place
abbrev pub ArePlaces : ℕ → List ℕ → Type 0
ArePlaces count places =
    (length places ≡ count)
    × ((place : ℕ) → place < count → slice_index_or places place 0 ≡ place)

-- a version with the number of its label is one that came, or an old one where something was heard
abbrev pub IsOneOf : Bool → ℕ → ℕ → ℕ → ℕ → ℕ → ℕ → Type 0
IsOneOf heard old old_label came came_label version label =
    ((heard ≡ true) × (version ≡ old) × (label ≡ old_label))
    ⊎ ((version ≡ came) × (label ≡ came_label))

-- the numbers of the labels that are newest, carried and held, and of those before each that was
-- given
pub record AreNumbered (rows : List NodeRow) (turns : List Turn)
    (newest_labels carried_labels held_labels earlier : List ℕ) : Type 0 where
  pub each_node : length newest_labels ≡ length rows
  pub are_newest : (place : ℕ) (row : NodeRow) → slice_get rows place ≡ Some row
      → IsLabel rows turns row.id (newest turns row.id) (slice_index_or newest_labels place 0)
  pub each_emit : length carried_labels ≡ length (carried turns)
  pub are_carried : (place : ℕ) (emit : Sent) → slice_get (emits_of (plain_of turns)) place ≡ Some
      emit
      → IsLabel rows turns emit.node (slice_index_or (carried turns) place 0)
      (slice_index_or carried_labels place 0)
  pub each_port : length held_labels ≡ ports_in rows
  pub are_held : (number node neighbour version : ℕ) → IsSlot rows number node neighbour
      → held rows turns node neighbour ≡ Some version
      → IsLabel rows turns neighbour version (slice_index_or held_labels number 0)
  pub each_given : length earlier ≡ length (relabelled turns)
  pub are_earlier : (place node before : ℕ) → IsGiven turns node before place
      → IsLabel rows turns node before (slice_index_or earlier place 0)

-- room for the numbers of all labels that are given, and each has 32 bits
pub record NumberRooms (most earlier_room : ℕ) : Type 0 where
  pub small : most ≤ 1048576
  pub for_earlier : most ≤ earlier_room
