-- Rings, and the order of their nodes as one goes round (any textbook on graphs).
use Rattle.std.specs.Prelude.{◌≡◌, ◌==◌, ℕ, ◌+◌, ◌<◌, Bool, not, if◌then◌else◌, List, All, Contains, find, length, slice_get, slice_index_or, Option, Some, None}
use Rattle.pls_configuration.specs.declared.row.NodeRow.{NodeRow}
use Rattle.pls_configuration.specs.Walk.{IsConnected}
use Rattle.pls_graph.specs.Connected.{IsFirstApart}
use Rattle.pls_graph.specs.Places.{beside}
use Rattle.pls_facts.specs.SpanningTree.{AreDistinct}
use Rattle.pls_splice.specs.declared.ring_error.RingError.{RingError}
use Rattle.pls_splice.specs.declared.ring_error.RingError.TheVariants.{NotRing, NoMemory}

-- a ring: a connected network in which each node has two ports
pub record IsRing (rows : List NodeRow) : Type 0 where
  pub connected : IsConnected rows
  pub two : All (λ row. length row.ports ≡ 2) rows

-- the number behind a number, of so many that go round: behind the last comes 0
abbrev pub next_number : ℕ → ℕ → ℕ
next_number count i = if i + 1 == count then 0 else i + 1

-- edge i leads from node i of the order, its tail; here is the place of that node
abbrev pub tail_of : List ℕ → ℕ → ℕ
tail_of order i = slice_index_or order i 0

-- edge i leads to the next node of the order, its head, and the last edge back to node 0; here is
-- the place of the head
abbrev pub head_of : List ℕ → ℕ → ℕ
head_of order i = tail_of order (next_number (length order) i)

-- these are the places of the nodes in the order of the ring: all of them, none twice, the node of
-- the smallest identity first and then the one behind its port 0, and each edge leads to a
-- neighbour
pub record IsOrder (rows : List NodeRow) (order : List ℕ) : Type 0 where
  pub all : length order ≡ length rows
  pub within : All (λ place. place < length rows) order
  pub distinct : AreDistinct order
  pub first : tail_of order 0 ≡ 0
  pub turn : slice_get (beside rows 0) 0 ≡ Some (head_of order 0)
  pub edges : (i : ℕ) → i < length order
      → Contains (beside rows (tail_of order i)) (head_of order i)

-- the network is a ring, and this is the order of its nodes
pub record IsRingOrder (rows : List NodeRow) (order : List ℕ) : Type 0 where
  pub ring : IsRing rows
  pub round : IsOrder rows order

-- the row's number of ports is not two
abbrev pub has_not_two : NodeRow → Bool
has_not_two row = not (length row.ports == 2)

-- the identity of the first node whose number of ports is not two, if there is one, and else the
-- smallest one that no walk joins to the smallest of all
abbrev pub NamesNoRing : Option NodeRow → List NodeRow → ℕ → Type 0
NamesNoRing (Some row) rows id = id ≡ row.id
NamesNoRing None rows id = IsFirstApart rows id

-- the error says that the network is no ring and why, or that there was no memory
abbrev pub SaysNoRing : List NodeRow → RingError → Type 0
SaysNoRing rows (NotRing id) = ¬ IsRing rows × NamesNoRing (find has_not_two rows) rows id
SaysNoRing rows NoMemory = Unit {0}
