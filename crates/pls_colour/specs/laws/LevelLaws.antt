-- Labels that say levels, and the levels that are found.
use Rattle.std.proofs.Common.{◌≡◌, ◌∙◌, ℕ, ◌<◌, List, length, Contains, Some, slice_get, sym, ap, subst, arith}
use Rattle.std.proofs.lemmas.List.{length-map}
use Rattle.pls_configuration.specs.declared.row.NodeRow.{NodeRow}
use Rattle.pls_configuration.specs.Configuration.{IsNetwork, ids_of}
use Rattle.pls_configuration.specs.Walk.{edges_of}
use Rattle.pls_graph.specs.Levels.{IsLevel}
use Rattle.pls_graph.proofs.Members.{Contains-from_map, Contains-map}
use Rattle.pls_facts.proofs.Levels.{level_below, one_level}
use Rattle.pls_graph.proofs.Finds.{item_at}
use Rattle.pls_facts.proofs.Neighbours.{adjacent_known}
use Rattle.pls_colour.specs.Levelled.{saying_level}

-- one label is right for a node
pub one_level_label : {L : Type 0} (level_label : ℕ → L) (rows : List NodeRow) → IsNetwork rows
    → (row : NodeRow) (one other : L) → saying_level level_label rows row one
    → saying_level level_label rows row other → one ≡ other
one_level_label level_label rows net row one other mine theirs =
    let (first, at) : (first : NodeRow) × (slice_get rows 0 ≡ Some first) =
    item_at rows 0 (let some = net.limits.some in omega (arith, some)) in
    let a = mine first at in
    let b = theirs first at in
    let same : a.0 ≡ b.0 = one_level (edges_of rows) first.id row.id a.0 b.0 a.1 b.1 in
    a.2 ∙ ap level_label same ∙ sym b.2

-- the levels that labels say, from the first node
pub record AreSaidLevels (rows : List NodeRow) (root : ℕ) (level : ℕ → ℕ) : Type 0 where
  pub is : (id : ℕ) → Contains (ids_of rows) id → IsLevel (edges_of rows) root id (level id)
  pub below : (row : NodeRow) → Contains rows row → level row.id < length rows

-- levels that are said of each row are said of each identity, and are below the number of nodes
pub said_levels : (rows : List NodeRow) → IsNetwork rows → (root : ℕ) (level : ℕ → ℕ)
    → ((row : NodeRow) → Contains rows row → IsLevel (edges_of rows) root row.id (level row.id))
    → AreSaidLevels rows root level
said_levels rows net root level each = record { is = is; below = below }
  where
    is : (id : ℕ) → Contains (ids_of rows) id → IsLevel (edges_of rows) root id (level id)
    is id in' =
        let (row, row_in, named) : (row : NodeRow) × Contains rows row × (row.id ≡ id) =
        Contains-from_map (λ (row : NodeRow). row.id) rows id in' in
        subst (λ (id : ℕ). IsLevel (edges_of rows) root id (level id)) named (each row row_in)

    below : (row : NodeRow) → Contains rows row → level row.id < length rows
    below row in' =
        let short : level row.id < length (ids_of rows) =
        level_below (edges_of rows) (ids_of rows) root level (adjacent_known rows net) is row.id
        (Contains-map (λ (row : NodeRow). row.id) rows row in') in
        omega (arith, short, length-map rows (λ (row : NodeRow). row.id))
