-- An edit changes the view of no node that it does not touch.
use Rattle.std.proofs.Common.{◌≡◌, ◌∙◌, ℕ, Bool, true, false, cond, ◌==◌, ◌||◌, List, [], ◌∷◌, map, length, slice_get, position, Option, Some, option_map, refl, sym, ap, arith, get_or}
use Rattle.std.specs.Option.{option_and_then, unwrap_or}
use Rattle.std.proofs.lemmas.List.{length-map}
use Rattle.std.proofs.lemmas.Option.{same_Some, slice_get-map, slice_get-get_or, slice_get_within}
use Rattle.pls_configuration.specs.declared.row.NodeRow.{NodeRow}
use Rattle.pls_configuration.specs.declared.verdict.Verdict.{Verdict}
use Rattle.pls_configuration.specs.Configuration.{ids_of}
use Rattle.pls_graph_edits.specs.Edits.{changed, change_ends, change_row}
use Rattle.pls_graph.proofs.Finds.{from_option_map, position-map}
use Rattle.pls_labels.specs.Seen.{Seen, label_of, seen, seen_port}
use Rattle.pls_recheck.specs.inner.Flags.{AreCurrent, MarksMore}

-- the change of a row keeps its identity
abbrev pub Keeps : (NodeRow → NodeRow) → Type 0
Keeps change = (row : NodeRow) → (change row).id ≡ row.id

map_same : {X Y : Type 0} (f g : X → Y) (xs : List X) → ((x : X) → f x ≡ g x) → map f xs ≡ map g xs
map_same f g [] same = refl
map_same f g (x ∷ xs) same = rw (same x, map_same f g xs same) refl

-- the label of an identity rests on the identities and the labels
label_by_ids : (rows : List NodeRow) (labels : List (List Bool)) (id : ℕ)
    → unwrap_or (option_and_then (slice_get labels) (position (λ other. id == other) (ids_of rows))) []
    ≡ label_of rows labels id
label_by_ids rows labels id =
    ap (λ (place : Option ℕ). unwrap_or (option_and_then (slice_get labels) place) [])
    (position-map (λ (row : NodeRow). row.id) (λ (other : ℕ). id == other) rows)

pub label_same : (rows after : List NodeRow) (labels : List (List Bool)) → ids_of after ≡ ids_of rows
    → (id : ℕ) → label_of rows labels id ≡ label_of after labels id
label_same rows after labels ids id =
    sym (label_by_ids rows labels id)
    ∙ ap (λ (ids : List ℕ). unwrap_or (option_and_then (slice_get labels)
    (position (λ other. id == other) ids)) []) (sym ids)
    ∙ label_by_ids after labels id

-- a row is seen alike where its own label and those of its neighbours are alike
pub seen_same : (label other : ℕ → List Bool) (row : NodeRow) → ((id : ℕ) → label id ≡ other id)
    → seen label row ≡ seen other row
seen_same label other row same =
    rw (
      same row.id,
      map_same (seen_port label) (seen_port other) row.ports
          (λ port. rw (same port.nbr) refl),
    ) refl

pub ids_of_changed : (id : ℕ) (change : NodeRow → NodeRow) → Keeps change → (rows : List NodeRow)
    → ids_of (change_row id change rows) ≡ ids_of rows
ids_of_changed id change keeps [] = refl
ids_of_changed id change keeps (row ∷ rows) = rw (ids_of_changed id change keeps rows)
    (ap (λ (first : ℕ). first ∷ ids_of rows) (by (id == row.id)))
  where
    by : (b : Bool) → (cond b (change row) row).id ≡ row.id
    by true = keeps row
    by false = refl

-- the ends of an edge keep their identities
pub ids_of_ends : (change : ℕ → NodeRow → NodeRow) → ((id : ℕ) → Keeps (change id)) → (a b : ℕ)
    (rows : List NodeRow) → ids_of (change_ends change a b rows) ≡ ids_of rows
ids_of_ends change keeps a b rows =
    ids_of_changed b (change a) (keeps a) (change_row a (change b) rows)
    ∙ ids_of_changed a (change b) (keeps b) rows

-- the rows whose identities do not pass are as they were
abbrev pub Stays : (ℕ → Bool) → List NodeRow → List NodeRow → Type 0
Stays passes rows after =
    (k : ℕ) (row new : NodeRow) → slice_get rows k ≡ Some row → slice_get after k ≡ Some new
    → passes new.id ≡ false → row ≡ new

pub either_fails : (x y : Bool) → (x || y) ≡ false → (x ≡ false) × (y ≡ false)
either_fails true y fails = absurd (cc)
either_fails false y fails = (refl, fails)

row_stays : (id : ℕ) (change : NodeRow → NodeRow) → Keeps change → (row : NodeRow)
    → (id == (changed id change row).id) ≡ false → row ≡ changed id change row
row_stays id change keeps row = by (id == row.id) refl
  where
    by : (b : Bool) → (id == row.id) ≡ b → (id == (cond b (change row) row).id) ≡ false
        → row ≡ cond b (change row) row
    by true e fails = let is : (id == row.id) ≡ false =
        ap (λ (other : ℕ). id == other) (sym (keeps row)) ∙ fails in
        let no : true ≡ false = sym e ∙ is in absurd (cc no)
    by false e fails = refl

pub changed_stays : (id : ℕ) (change : NodeRow → NodeRow) → Keeps change → (rows : List NodeRow)
    → Stays (λ node. id == node) rows (change_row id change rows)
changed_stays id change keeps rows k row new at then fails =
    let is : changed id change row ≡ new =
    same_Some (changed id change row) new (ap (option_map (changed id change)) (sym at)
    ∙ sym (slice_get-map (changed id change) rows k) ∙ then) in
    row_stays id change keeps row (ap (λ (row : NodeRow). id == row.id) is ∙ fails) ∙ is

pub ends_stay : (change : ℕ → NodeRow → NodeRow) → ((id : ℕ) → Keeps (change id)) → (a b : ℕ)
    (rows : List NodeRow) → Stays (λ node. (a == node) || (b == node)) rows (change_ends change a b rows)
ends_stay change keeps a b rows k row new at then fails =
    let each = either_fails (a == new.id) (b == new.id) fails in
    let one : NodeRow = changed a (change b) row in
    let one_at : slice_get (change_row a (change b) rows) k ≡ Some one =
    slice_get-map (changed a (change b)) rows k ∙ ap (option_map (changed a (change b))) at in
    let second : one ≡ new =
    changed_stays b (change a) (keeps a) (change_row a (change b) rows) k one new one_at then each.1 in
    changed_stays a (change b) (keeps b) rows k row one at one_at
    (ap (λ (row : NodeRow). a == row.id) second ∙ each.0)
    ∙ second

-- the nodes that do not pass see what they saw
abbrev pub SeeAlike : (ℕ → Bool) → List NodeRow → List NodeRow → List (List Bool)
    → List (List Bool) → Type 0
SeeAlike passes rows after labels then =
    (k : ℕ) (row new : NodeRow) → slice_get rows k ≡ Some row → slice_get after k ≡ Some new
    → passes new.id ≡ false → seen (label_of rows labels) row ≡ seen (label_of after then) new

pub stays_alike : (passes : ℕ → Bool) (rows after : List NodeRow) (labels : List (List Bool))
    → ids_of after ≡ ids_of rows → Stays passes rows after → SeeAlike passes rows after labels labels
stays_alike passes rows after labels ids stays k row new at then fails =
    seen_same (label_of rows labels) (label_of after labels) row (label_same rows after labels ids)
    ∙ ap (seen (label_of after labels)) (stays k row new at then fails)

module _ (passes : ℕ → Bool) (rows after : List NodeRow) (labels then : List (List Bool))
    (ids : ids_of after ≡ ids_of rows) (alike : SeeAlike passes rows after labels then)
    (old new : List Bool) (many : length old ≡ length rows)
    (more : MarksMore passes after old new) where
  as_many : length after ≡ length rows
  as_many = sym (length-map after (λ (row : NodeRow). row.id)) ∙ ap length ids
      ∙ length-map rows (λ (row : NodeRow). row.id)

  -- so what is kept of the nodes that are not touched is current still
  pub current_after : (judge : Seen → Verdict) (kept : List (ℕ × Verdict))
      → AreCurrent judge rows labels old kept → AreCurrent judge after then new kept
  current_after judge kept current k view at unset =
      let row : (row : NodeRow) × (slice_get after k ≡ Some row) × (seen (label_of after then) row ≡ view) =
      from_option_map (seen (label_of after then)) (slice_get after k) view
      (sym (slice_get-map (seen (label_of after then)) after k) ∙ at) in
      let within = slice_get_within after k row.0 row.1 in
      let was : slice_get rows k ≡ Some (get_or rows k row.0) =
      slice_get-get_or rows k row.0 (omega (arith, within, as_many)) in
      let flag : slice_get old k ≡ Some (get_or old k true) =
      slice_get-get_or old k true (omega (arith, within, as_many, many)) in
      let says = more.each k row.0 (get_or old k true) row.1 flag in
      let each = either_fails (get_or old k true) (passes row.0.id)
      (same_Some (get_or old k true || passes row.0.id) false (sym says ∙ unset)) in
      let shows : seen (label_of rows labels) (get_or rows k row.0) ≡ view =
      alike k (get_or rows k row.0) row.0 was row.1 each.1 ∙ row.2 in
      current k view (slice_get-map (seen (label_of rows labels)) rows k
      ∙ ap (option_map (seen (label_of rows labels))) was ∙ ap Some shows) (flag ∙ ap Some each.0)
