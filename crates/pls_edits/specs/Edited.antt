-- What an edit makes, which nodes it touches, and why it is refused.
use Rattle.std.specs.Prelude.{◌≡◌, ℕ, ◌≤◌, ◌==◌, ◌||◌, nat_lt, Bool, false, List, [], ◌∷◌, filter, length, slice_set, insert, remove, Option, Some}
use Rattle.pls_configuration.specs.declared.limits.TheConstants.{MAX_NUM, MAX_BITS}
use Rattle.pls_configuration.specs.declared.row.NodeRow.{NodeRow}
use Rattle.pls_configuration.specs.Configuration.{first_of, refused_if}
use Rattle.pls_graph_edits.specs.declared.edit_error.EditError.{EditError}
use Rattle.pls_graph_edits.specs.declared.edit_error.EditError.TheVariants.{Absent, Full}
use Rattle.pls_graph_edits.specs.Edits.{SaysEdit, are_linked, is_absent, join_refusal, joined, leave_refusal, without_node, link_refusal, linked, state_refusal, edge_refusal, unlinked, with_state, with_weight}
use Rattle.pls_graph.specs.Places.{place_in}
use Rattle.pls_labels.specs.Labels.{bits_together}
use Rattle.pls_edits.specs.declared.edit.Edit.{Edit}
use Rattle.pls_edits.specs.declared.edit.Edit.TheVariants.{State, Weight, Link, Unlink, Join, Leave, Label}

-- the network after the edit
abbrev pub edited : Edit → List NodeRow → List NodeRow
edited (State id state) rows = with_state rows id state
edited (Weight a b weight) rows = with_weight rows a b weight
edited (Link a b weight) rows = linked rows a b weight
edited (Unlink a b) rows = unlinked rows a b
edited (Join id mark num) rows = joined rows id mark num
edited (Leave id) rows = without_node rows id
edited (Label id bits) rows = rows

-- the place that a new node of this identity takes: as many rows have a smaller one
abbrev pub place_for : List NodeRow → ℕ → ℕ
place_for rows id = length (filter (λ row. nat_lt row.id id) rows)

-- a list with one item for each node goes with the nodes: a node that joins gets this item, and a
-- node that leaves takes its own along
abbrev pub carried_over : {X : Type 0} → Edit → List NodeRow → X → List X → List X
carried_over (State id state) rows new items = items
carried_over (Weight a b weight) rows new items = items
carried_over (Link a b weight) rows new items = items
carried_over (Unlink a b) rows new items = items
carried_over (Join id mark num) rows new items = insert items (place_for rows id) new
carried_over (Leave id) rows new items = remove items (place_in rows id)
carried_over (Label id bits) rows new items = items

-- the labels after the edit: they go with the nodes, a new node has an empty one, and a node whose
-- label the edit gives has this one
abbrev pub relabelled : Edit → List NodeRow → List (List Bool) → List (List Bool)
relabelled (Label id bits) rows labels = slice_set labels (place_in rows id) bits
relabelled edit rows labels = carried_over edit rows [] labels

-- the nodes that the edit touches: the node, both ends of the edge, or the node and its
-- neighbours; a node that leaves touches nobody
abbrev pub touches : Edit → List NodeRow → ℕ → Bool
touches (State id state) rows node = id == node
touches (Weight a b weight) rows node = (a == node) || (b == node)
touches (Link a b weight) rows node = (a == node) || (b == node)
touches (Unlink a b) rows node = (a == node) || (b == node)
touches (Join id mark num) rows node = id == node
touches (Leave id) rows node = false
touches (Label id bits) rows node = (id == node) || are_linked rows id node

-- why a label is refused: there is no such node, or all labels together would be too long
abbrev pub label_refusal : List NodeRow → List (List Bool) → ℕ → List Bool → Option EditError
label_refusal rows labels id bits = first_of (
    refused_if (is_absent rows id) Absent
    ∷ refused_if (nat_lt MAX_BITS (bits_together (slice_set labels (place_in rows id) bits)))
    Full ∷ [])

-- why the edit is refused, in a network with these labels: the first cause that holds
abbrev pub edit_refusal : Edit → List NodeRow → List (List Bool) → Option EditError
edit_refusal (State id state) rows labels = state_refusal rows id state
edit_refusal (Weight a b weight) rows labels = edge_refusal rows a b
edit_refusal (Link a b weight) rows labels = link_refusal rows a b
edit_refusal (Unlink a b) rows labels = edge_refusal rows a b
edit_refusal (Join id mark num) rows labels = join_refusal rows id
edit_refusal (Leave id) rows labels = leave_refusal rows id
edit_refusal (Label id bits) rows labels = label_refusal rows labels id bits

-- with this error the edit is refused: for this cause, or, where it is a link, a join or a label,
-- also for want of memory
abbrev pub RefusesWith : Edit → Option EditError → EditError → Type 0
RefusesWith (State id state) refusal error = refusal ≡ Some error
RefusesWith (Weight a b weight) refusal error = refusal ≡ Some error
RefusesWith (Link a b weight) refusal error = SaysEdit refusal error
RefusesWith (Unlink a b) refusal error = refusal ≡ Some error
RefusesWith (Join id mark num) refusal error = SaysEdit refusal error
RefusesWith (Leave id) refusal error = refusal ≡ Some error
RefusesWith (Label id bits) refusal error = SaysEdit refusal error

-- the number that the edit gives a state is at most 2^62
abbrev pub FitsNum : Edit → Type 0
FitsNum (State id state) = state.num ≤ MAX_NUM
FitsNum (Weight a b weight) = Unit {0}
FitsNum (Link a b weight) = Unit {0}
FitsNum (Unlink a b) = Unit {0}
FitsNum (Join id mark num) = num ≤ MAX_NUM
FitsNum (Leave id) = Unit {0}
FitsNum (Label id bits) = Unit {0}
