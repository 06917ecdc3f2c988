-- What is kept of the turns taken.
use Rattle.std.specs.Prelude.{◌≡◌, ◌≢◌, ℕ, ◌≤◌, List, [], ◌∷◌, ◌++◌, Option, length, slice_get, slice_index_or, Some}
use Rattle.std.specs.List.{AllByRecursion}
use Rattle.pls_configuration.specs.declared.row.NodeRow.{NodeRow}
use Rattle.pls_configuration.specs.Configuration.{IsNetwork, ports_in}
use Rattle.pls_sim.specs.Schedule.{emits_of}
use Rattle.pls_sim.specs.Applying.{Played}
use Rattle.pls_sim.specs.inner.Kept.{NamesEmit}
use Rattle.pls_sim.specs.Ways.{IsSlot}
use Rattle.pls_watch.specs.declared.turn.Turn.{Turn}
use Rattle.pls_watch.specs.Turning.{Turned}
use Rattle.pls_watch.specs.Versions.{carried, held, newest, plain_of}

-- for each node its newest version
abbrev pub AreNewest : List NodeRow → List Turn → List ℕ → Type 0
AreNewest rows turns versions =
    (place : ℕ) (row : NodeRow) → slice_get rows place ≡ Some row
    → slice_index_or versions place 0 ≡ newest turns row.id

-- for each port the version that is held, where one is
abbrev pub AreHeld : List NodeRow → List Turn → List ℕ → Type 0
AreHeld rows turns versions =
    (number node neighbour version : ℕ) → IsSlot rows number node neighbour
    → held rows turns node neighbour ≡ Some version → slice_index_or versions number 0 ≡ version

-- after a turn all nodes hold what they held, but for the one at a place
abbrev pub HoldAsBefore : Turned → Turn → Option ℕ → Type 0
HoldAsBefore turned turn place =
    (i : ℕ) (row : NodeRow) (neighbour : ℕ) → slice_get turned.network i ≡ Some row
    → place ≢ Some i
    → held turned.network (turned.turns ++ turn ∷ []) row.id neighbour
    ≡ held turned.network turned.turns row.id neighbour

-- the round that is played has these events
pub record IsRound (rows : List NodeRow) (most : ℕ) (turns : List Turn) (played : Played) : Type 0
  where
    pub network : played.network ≡ rows
    pub most_is : played.most ≡ most
    pub events : played.events ≡ plain_of turns

-- what is kept of the turns
pub record AreKept (rows : List NodeRow) (turns : List Turn)
    (versions sent holds : List ℕ) : Type 0 where
  pub is_network : IsNetwork rows
  pub numbered : AllByRecursion (NamesEmit (length (emits_of (plain_of turns)))) (plain_of turns)
  pub each_node : length versions ≡ length rows
  pub are_newest : AreNewest rows turns versions
  pub are_carried : sent ≡ carried turns
  pub each_port : length holds ≡ ports_in rows
  pub are_held : AreHeld rows turns holds

-- room for all turns that are taken
pub record Rooms (most : ℕ) (turns : List Turn) (turn_room sent_room : ℕ) : Type 0 where
  pub few : length turns ≤ most
  pub for_turns : most ≤ turn_room
  pub for_sent : most ≤ sent_room
