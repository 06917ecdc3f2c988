-- The theorem of the scheme `mst`.
use Rattle.std.proofs.Common.{◌≡◌, ◌∙◌, ℕ, ◌^◌, ◌≤◌, Bool, List, [], map, length, slice_get, option_map, Contains, Some, None, refl, sym, ap, subst, arith}
use Rattle.std.specs.List.{flat_map}
use Rattle.std.proofs.lemmas.List.{length-map}
use Rattle.std.proofs.lemmas.Option.{same_Some, slice_get-map}
use Rattle.pls_bits.specs.NumberCode.{Grows, IsShort}
use Rattle.pls_configuration.specs.declared.row.NodeRow.{NodeRow}
use Rattle.pls_configuration.specs.Configuration.{IsNetwork, ids_of}
use Rattle.pls_configuration.specs.Walk.{Edge, edges_of}
use Rattle.pls_graph.specs.Size.{size_of}
use Rattle.pls_graph.proofs.Members.{place_from_Contains}
use Rattle.pls_scheme.specs.Theorem.{OneIsRight, RightFits, RulesAreMet, RulesShow}
use Rattle.pls_scheme.proofs.Fitting.{AreWithin}
use Rattle.pls_facts.specs.EdgeOrder.{ComesBefore}
use Rattle.pls_facts.specs.MinimumSpanningTree.{IsMinimumSpanningTree}
use Rattle.pls_facts.specs.SpanningTree.{pointed_edges}
use Rattle.pls_facts.proofs.ChainDepths.{chains_fall}
use Rattle.pls_facts.proofs.Pointed.{id_of_row}
use Rattle.pls_facts.proofs.PortEdges.{IsGraph-network}
use Rattle.pls_boruvka.specs.Boruvka.{AreChainLengths, AreLevelLists, AreBoruvkaLevels}
use Rattle.pls_boruvka.specs.declared.level.Level.{Level}
use Rattle.pls_boruvka.proofs.Halving.{few_levels}
use Rattle.pls_boruvka.proofs.OneAnswer.{one_answer}
use Rattle.pls_levels.specs.Making.{IsRightHead}
use Rattle.pls_levels.specs.laws.RightHeads.{head_within, one_label, one_root, placed_right, root_of}
use Rattle.pls_mst.specs.Labels.{AreOrdered, mst_shape, numbers_of_level}
use Rattle.pls_mst.specs.Mst.{AreLevelsOf, MstSays, longest_mst}
use Rattle.pls_mst.specs.Rules.{mst_rules}
use Rattle.pls_mst.specs.laws.Fits.{label_fits, levels_within, limits_of}
use Rattle.pls_mst.specs.laws.Fragments.{KeepsRules}
use Rattle.pls_mst.specs.laws.Kept.{kept_rules}
use Rattle.pls_mst.specs.laws.LevelRules.{KeepsRules-levels}
use Rattle.pls_mst.specs.laws.Passed.{rules_pass}
use Rattle.pls_mst.specs.laws.Sound.{no_tree_is_lighter, pointers_make_a_tree}

-- where the rules hold everywhere in a connected network, the pointers make a spanning tree, and
-- none weighs less
pub mst_show : RulesShow mst_rules IsMinimumSpanningTree
mst_show rows net joined say hold = record {
  tree = pointers_make_a_tree rows net joined say keeps;
  lightest = no_tree_is_lighter rows net joined say keeps;
}
  where
    keeps : (row : NodeRow) → Contains rows row → KeepsRules say row
    keeps row in' = kept_rules say row rows net in' (hold row in')

module _ (rows : List NodeRow) (net : IsNetwork rows) where
  -- levels that are of a node are what any levels of the rows say of it
  same_levels : (row : NodeRow) → Contains rows row → (list : List Level)
      → AreLevelsOf rows row.id list → (depth : ℕ → ℕ) (levels : List (ℕ → Level))
      → AreChainLengths rows depth → AreBoruvkaLevels rows depth levels
      → list ≡ map (λ level. level row.id) levels
  same_levels row in' list of depth levels deep are =
      let (place, at) : (place : ℕ) × (slice_get rows place ≡ Some row) =
      place_from_Contains rows row in' in
      let there : slice_get (map (say of.levels) rows) place ≡ Some (say of.levels row) =
      slice_get-map (say of.levels) rows place ∙ ap (option_map (say of.levels)) at in
      let also : slice_get (map (say levels) rows) place ≡ Some (say levels row) =
      slice_get-map (say levels) rows place ∙ ap (option_map (say levels)) at in
      of.said ∙ same_Some (say of.levels row) (say levels row) (sym there
      ∙ ap (λ (lists : List (List Level)). slice_get lists place)
      (one_answer rows net (map (say of.levels) rows) (map (say levels) rows)
      (lists_of of.depth of.levels of.deep of.are) (lists_of depth levels deep are)) ∙ also)
    where
      -- what levels say of the node of a row
      say : List (ℕ → Level) → NodeRow → List Level
      say levels row = map (λ level. level row.id) levels

      lists_of : (depth : ℕ → ℕ) (levels : List (ℕ → Level)) → AreChainLengths rows depth
          → AreBoruvkaLevels rows depth levels → AreLevelLists rows (map (say levels) rows)
      lists_of depth levels deep are =
          record { depth = depth; levels = levels; deep = deep; are = are; said = refl }

-- where what is said is right, the rules hold
pub mst_met : RulesAreMet mst_rules IsMinimumSpanningTree MstSays
mst_met rows net joined holds say right row in' =
    rules_pass say row (KeepsRules-levels rows net holds.tree holds.lightest some.depth
    (chains_fall rows net some.depth some.deep) some.levels some.are say
    (placed_right rows net holds.tree say heads) (one_root rows net holds.tree say heads)
    (λ row in'. same_levels rows net row in' (say row.id).levels (right row in').levels some.depth
    some.levels some.deep some.are) row in')
  where
    heads : (row : NodeRow) → Contains rows row → IsRightHead rows row (say row.id)
    heads row in' = (right row in').head

    root : (row : NodeRow) × Contains rows row × (row.state.up ≡ None)
    root = root_of rows holds.tree

    some : AreLevelsOf rows root.0.id (say root.0.id).levels
    some = (right root.0 root.1).levels

-- one label is right for a node
pub mst_one_right : OneIsRight IsMinimumSpanningTree MstSays
mst_one_right rows net joined holds row one other in' mine theirs =
    one_label rows net holds.tree row in' one mine.head other theirs.head
    (same_levels rows net row in' one.levels mine.levels theirs.levels.depth theirs.levels.levels
    theirs.levels.deep theirs.levels.are ∙ sym theirs.levels.said)

-- what is right can be written, and is short
pub mst_fits : (code : ℕ → List Bool) → Grows code → IsShort code
    → RightFits mst_shape code IsMinimumSpanningTree MstSays (longest_mst code)
mst_fits code grows short rows net joined holds words say right row in' =
    let within : AreWithin (flat_map numbers_of_level (map (λ level. level row.id) levels))
    (limits_of (size_of rows) (length levels))
    × AreOrdered (map (λ level. level row.id) levels) =
    levels_within rows net words (ComesBefore tree) is.levels.depth row.id known [] levels
    is.levels.are in
    let head = head_within rows net holds.tree row in' (say row.id) is.head in
    label_fits rows net words code grows short (say row.id) (length levels)
    (ap length is.levels.said ∙ length-map levels (λ (level : ℕ → Level). level row.id))
    (omega (arith, few, length-map rows (λ (row : NodeRow). row.id)))
    head.0 head.1 head.2 head.3
    (subst (λ (list : List Level). AreWithin (flat_map numbers_of_level list)
    (limits_of (size_of rows) (length levels))) (sym is.levels.said) within.0)
    (subst AreOrdered (sym is.levels.said) within.1)
  where
    tree : List Edge
    tree = pointed_edges rows

    is : MstSays rows row (say row.id)
    is = right row in'

    levels : List (ℕ → Level)
    levels = is.levels.levels

    known : Contains (ids_of rows) row.id
    known = id_of_row rows row in'

    few : 2 ^ length levels ≤ length (ids_of rows)
    few = few_levels (edges_of rows) (ids_of rows) (IsGraph-network rows net) (ComesBefore tree)
        is.levels.depth [] levels row.id known is.levels.are
