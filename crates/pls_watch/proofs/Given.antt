-- Each relabel gives one label.
use Rattle.std.proofs.Common.{◌≡◌, ℕ, ◌==◌, Bool, true, false, cond, List, [], ◌∷◌, ◌++◌, filter, length, arith, refl}
use Rattle.pls_watch.specs.declared.turn.Turn.TheVariants as Turns
use Rattle.pls_watch_part.specs.declared.watch_event.WatchEvent.{WatchEvent}
use Rattle.pls_watch_part.specs.declared.watch_event.WatchEvent.TheVariants.{Emit, Arrive, Restart, Relabel}
use Rattle.pls_watch.specs.Labelled.{label_in_version, later_labels, turns_of}
use Rattle.pls_watch.specs.Versions.{newest, relabels}

-- a node has as many later labels as its newest version says
pub many_labels : (events : List WatchEvent) (node : ℕ)
    → length (later_labels events node) ≡ newest (turns_of events) node
many_labels [] node = refl
many_labels (Emit other port ∷ events) node = many_labels events node
many_labels (Arrive number ∷ events) node = many_labels events node
many_labels (Restart other ∷ events) node = many_labels events node
many_labels (Relabel other bits ∷ events) node = by (other == node) (many_labels events node)
  where
    by : (b : Bool) → length (later_labels events node) ≡ newest (turns_of events) node
        → length (cond b (bits ∷ []) [] ++ later_labels events node)
        ≡ length (cond b (Turns.Relabel other ∷ filter (relabels node) (turns_of events))
        (filter (relabels node) (turns_of events)))
    by true same = omega (arith, same)
    by false same = same

-- the second version is the label of the first relabel
second : label_in_version (λ node. []) (Relabel 1 (true ∷ []) ∷ Relabel 2 (false ∷ []) ∷ []) 1 1 ≡ true ∷ []
second = refl
