-- The turns of a watch, by the events of its round and by the labels that are given between them.
use Rattle.std.specs.Prelude.{◌≡◌, ℕ, ◌+◌, ◌≤◌, ◌==◌, All, if◌then◌else◌, List, [], ◌∷◌, ◌++◌, flat_map, length}
use Rattle.pls_schedule.specs.declared.event.Event.{Event}
use Rattle.pls_watch.specs.declared.giving.Giving.{Giving}
use Rattle.pls_watch.specs.declared.turn.Turn.{Turn}
use Rattle.pls_watch.specs.declared.turn.Turn.TheVariants.{Plain, Relabel}

-- the turns by which labels are given behind so many events
abbrev pub given_behind : ℕ → List Giving → List Turn
given_behind count givings =
    flat_map (λ giving. if giving.behind == count then Relabel giving.node ∷ [] else []) givings

-- the turns behind so many events, where these are the events that follow
abbrev pub woven_from : ℕ → List Event → List Giving → List Turn
woven_from count [] givings = given_behind count givings
woven_from count (event ∷ events) givings =
    given_behind count givings ++ Plain event ∷ woven_from (count + 1) events givings

-- all turns
abbrev pub woven : List Event → List Giving → List Turn
woven events givings = woven_from 0 events givings

-- no label is given behind more events than there are, and each is a turn
pub record AreWoven (events : List Event) (givings : List Giving) : Type 0 where
  pub behind : All (λ giving. giving.behind ≤ length events) givings
  pub count : length (woven events givings) ≡ length events + length givings
