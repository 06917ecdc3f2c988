-- The verdict of a node, by what was found out of its map and by its labels as they are lent.
use Rattle.std.proofs.Common.{◌≡◌, ◌∙◌, ℕ, ◌==◌, ◌&&◌, Bool, true, false, List, [], ◌∷◌, length, cond, position, slice_get, Option, Some, None, option_map, nat_lt, refl, sym, ap}
use Rattle.std.specs.List.{list_all, position_or_len}
use Rattle.std.specs.Option.{option_and_then, option_map_or}
use Rattle.std.proofs.lemmas.Bool.{ltb-false}
use Rattle.std.proofs.lemmas.List.Folds.{find_at}
use Rattle.std.proofs.lemmas.Option.{same_Some, slice_get_past}
use Rattle.pls_configuration.specs.declared.row.Port.{Port}
use Rattle.pls_configuration.specs.declared.row.State.{State}
use Rattle.pls_configuration.specs.declared.row.NodeRow.{NodeRow}
use Rattle.pls_configuration.specs.declared.verdict.Verdict.TheVariants.{Reject}
use Rattle.pls_configuration.specs.Configuration.{row_of}
use Rattle.pls_bits.specs.NumberCode.{TakesCodes, TakesOnly}
use Rattle.pls_numbers.specs.Shape.{said_by}
use Rattle.pls_labels.specs.Seen.{Seen, SeenPort}
use Rattle.pls_scheme.specs.Judging.{judged_from}
use Rattle.pls_scheme.specs.Reading.{ReadPort, judge_by, port_with, read_ports, reading}
use Rattle.pls_scheme.specs.laws.Readings.{judged_by_rules, rejected_by_2, split_read}
use Rattle.pls_universal.specs.declared.map.MapLabel.{MapLabel}
use Rattle.pls_universal.specs.declared.stating.StatedNetwork.{StatedNetwork}
use Rattle.pls_universal.specs.Reading.{map_shape}
use Rattle.pls_universal.specs.Rules.{has_map, is_in_map, is_network, is_node_right, is_port_right, map_rules, matched, nodes_of, same_state}
use Rattle.pls_universal.specs.laws.LabelLaws.{behind_number, label-none}
use Rattle.pls_universal.specs.inner.Stating.{IsStated}
use Rattle.pls_universal.specs.inner.Verifying.{agreement, has_node, is_called, is_port_seen, is_seen}

module _ (code : ℕ → List Bool) (takes : List Bool → Option (ℕ × List Bool))
    (taken : TakesCodes code takes) (only : TakesOnly code takes) where
  -- a label that is read begins with what it calls itself
  called-own : (id : ℕ) (bits : List Bool) (label : MapLabel)
      → said_by map_shape takes bits ≡ Some label
      → is_called takes id bits ≡ (id == label.own)
  called-own id bits label is = by (takes bits) refl
    where
      by : (first : Option (ℕ × List Bool)) → takes bits ≡ first
          → option_map_or (λ (own : ℕ × List Bool). id == own.0) first false ≡ (id == label.own)
      by None first =
          let no : None ≡ Some label = sym (label-none code takes taken only bits first) ∙ is in
          absurd (cc)
      by (Some own) first = ap (λ (own : ℕ). id == own)
          (behind_number code takes taken only bits own.0 own.1 label first is).0

  -- ports are right as they are lent exactly where they are right as they are read
  ports-seen : (stated : List Port) (seen : List SeenPort) (ports : List (ReadPort MapLabel))
      → read_ports (said_by map_shape takes) seen ≡ Some ports
      → matched (is_port_seen takes) stated seen ≡ matched is_port_right stated ports
  ports-seen [] [] ports read = let none : [] ≡ ports = cc in rw (sym none) refl
  ports-seen (port ∷ stated) [] ports read = let none : [] ≡ ports = cc in rw (sym none) refl
  ports-seen [] (first ∷ seen) ports read =
      let parts = split_read (said_by map_shape takes) first seen ports read in
      rw (sym parts.4) refl
  ports-seen (port ∷ stated) (first ∷ seen) ports read =
      let parts = split_read (said_by map_shape takes) first seen ports read in
      rw (sym parts.4, ports-seen stated seen parts.1 parts.3)
      (by (said_by map_shape takes first.label) refl parts.0
      (matched is_port_right stated parts.1) parts.2)
    where
      by : (found : Option MapLabel) → said_by map_shape takes first.label ≡ found
          → (one : ReadPort MapLabel) → (rest : Bool)
          → option_map (port_with first.weight) found ≡ Some one
          → (is_port_seen takes port first && rest) ≡ (is_port_right port one && rest)
      by None found one rest is = absurd (cc)
      by (Some label) found one rest is =
          let same : port_with first.weight label ≡ one = cc in
          rw (sym same, called-own port.nbr first.label label found) refl

  module _ (view : Seen) (own : MapLabel)
      (own_read : said_by map_shape takes view.own ≡ Some own) where
    -- so is the node
    node-seen : (ports : List (ReadPort MapLabel))
        → read_ports (said_by map_shape takes) view.ports ≡ Some ports
        → has_node takes (nodes_of own.rows) view ≡ is_in_map (reading view.id view.state own ports)
    node-seen ports read = by (row_of (nodes_of own.rows) view.id)
      where
        by : (found : Option NodeRow) → option_map_or (is_seen takes view) found false
            ≡ option_map_or (is_node_right (reading view.id view.state own ports)) found false
        by None = refl
        by (Some row) = ap (λ (ports : Bool). same_state row.state view.state && ports)
            (ports-seen row.ports view.ports ports read)

    -- where all labels are read, the rules are tried on them
    rules_tried : (test : List NodeRow → Bool) (agrees : Bool)
        → Some agrees ≡ agreement takes own.rows view.ports
        → judge_by (said_by map_shape takes) (map_rules test) view
        ≡ judged_from 3 ((own.own == view.id) ∷ agrees ∷ is_network own.rows
        ∷ has_node takes (nodes_of own.rows) view ∷ test (nodes_of own.rows) ∷ [])
    rules_tried test agrees is = by (read_ports (said_by map_shape takes) view.ports) refl is
      where
        by : (ports : Option (List (ReadPort MapLabel)))
            → read_ports (said_by map_shape takes) view.ports ≡ ports
            → Some agrees ≡ option_map (list_all (has_map own.rows)) ports
            → judge_by (said_by map_shape takes) (map_rules test) view
            ≡ judged_from 3 ((own.own == view.id) ∷ agrees ∷ is_network own.rows
            ∷ has_node takes (nodes_of own.rows) view ∷ test (nodes_of own.rows) ∷ [])
        by None read is = absurd (cc)
        by (Some ports) read is =
            let all : agrees ≡ list_all (has_map own.rows) ports = cc in
            judged_by_rules (said_by map_shape takes) (map_rules test) view own ports own_read read
            ∙ rw (all, node-seen ports read) refl

    -- where some label cannot be read, rule 2 fails
    pub verdict-unread : (test : List NodeRow → Bool) → None ≡ agreement takes own.rows view.ports
        → Reject 1 2 ≡ judge_by (said_by map_shape takes) (map_rules test) view
    verdict-unread test is = by (read_ports (said_by map_shape takes) view.ports) refl is
      where
        by : (ports : Option (List (ReadPort MapLabel)))
            → read_ports (said_by map_shape takes) view.ports ≡ ports
            → None ≡ option_map (list_all (has_map own.rows)) ports
            → Reject 1 2 ≡ judge_by (said_by map_shape takes) (map_rules test) view
        by None read is =
            sym (rejected_by_2 (said_by map_shape takes) (map_rules test) view own own_read read)
        by (Some ports) read is = absurd (cc)

    -- the verdict where the map states a network
    pub verdict-stated : (test : List NodeRow → Bool) (agrees : Bool) (stated : StatedNetwork)
        → Some agrees ≡ agreement takes own.rows view.ports → IsStated test own.rows (Some stated)
        → judged_from 3 ((own.own == view.id) ∷ agrees ∷ true ∷ has_node takes stated.net view
        ∷ stated.has_property ∷ [])
        ≡ judge_by (said_by map_shape takes) (map_rules test) view
    verdict-stated test agrees stated is found =
        rw (found.1, found.2) (sym (rules_tried test agrees is
        ∙ rw found.0 refl))

    -- and where it states none
    pub verdict-none : (test : List NodeRow → Bool) (agrees : Bool)
        → Some agrees ≡ agreement takes own.rows view.ports → is_network own.rows ≡ false
        → judged_from 3 ((own.own == view.id) ∷ agrees ∷ false ∷ [])
        ≡ judge_by (said_by map_shape takes) (map_rules test) view
    verdict-none test agrees is none =
        sym (rules_tried test agrees is ∙ rw none (by (own.own == view.id) agrees))
      where
        by : (a b : Bool) → judged_from 3 (a ∷ b ∷ false ∷ has_node takes (nodes_of own.rows) view
            ∷ test (nodes_of own.rows) ∷ []) ≡ judged_from 3 (a ∷ b ∷ false ∷ [])
        by true true = refl
        by true false = refl
        by false b = refl

module _ (takes : List Bool → Option (ℕ × List Bool)) where
  module _ (rows : List NodeRow) (view : Seen) where
    -- the row of an identity stands at its place
    row-at-place : option_and_then (slice_get rows) (position (λ row. view.id == row.id) rows)
        ≡ row_of rows view.id
    row-at-place = by (nat_lt (position_or_len (λ (row : NodeRow). view.id == row.id) rows)
        (length rows)) refl
      where
        place : ℕ
        place = position_or_len (λ (row : NodeRow). view.id == row.id) rows

        by : (b : Bool) → nat_lt place (length rows) ≡ b
            → option_and_then (slice_get rows) (cond b (Some place) None) ≡ row_of rows view.id
        by true less = sym (find_at (λ (row : NodeRow). view.id == row.id) rows)
        by false past =
            let beyond = ltb-false place (length rows) past in
            sym (find_at (λ (row : NodeRow). view.id == row.id) rows
            ∙ slice_get_past rows place beyond)

    -- where the identity has no place, the node is not there
    pub node-none : None ≡ position (λ row. view.id == row.id) rows
        → false ≡ has_node takes rows view
    node-none none = ap (λ (found : Option NodeRow). option_map_or (is_seen takes view) found false)
        (ap (option_and_then (slice_get rows)) none ∙ row-at-place)

    module _ (place : ℕ) (at : Some place ≡ position (λ row. view.id == row.id) rows)
        (state : State) (has : option_map (λ row. row.state) (slice_get rows place) ≡ Some state) where
      -- where it has one, the node there is asked
      node-there : (row : NodeRow) × (slice_get rows place ≡ Some row) × (row.state ≡ state)
          × (is_seen takes view row ≡ has_node takes rows view)
      node-there = by (slice_get rows place) refl has
        where
          by : (found : Option NodeRow) → slice_get rows place ≡ found
              → option_map (λ (row : NodeRow). row.state) found ≡ Some state
              → (row : NodeRow) × (slice_get rows place ≡ Some row) × (row.state ≡ state)
              × (is_seen takes view row ≡ has_node takes rows view)
          by None found is = absurd (cc)
          by (Some row) found is = (
            row,
            found,
            same_Some row.state state is,
            ap (λ (found : Option NodeRow). option_map_or (is_seen takes view) found false)
                (sym found ∙ ap (option_and_then (slice_get rows)) at ∙ row-at-place),
          )

      -- where its state is another, it is not the node of the view
      pub node-other : same_state state view.state ≡ false → false ≡ has_node takes rows view
      node-other other =
          let there = node-there in
          rw (there.2, other) at (there.3)

      -- and where it is this, its ports are asked
      pub node-same : same_state state view.state ≡ true → (ports : List Port)
          → option_map (λ row. row.ports) (slice_get rows place) ≡ Some ports
          → matched (is_port_seen takes) ports view.ports ≡ has_node takes rows view
      node-same same ports are =
          let there = node-there in
          let mine : there.0.ports ≡ ports = same_Some there.0.ports ports
          (sym (ap (option_map (λ (row : NodeRow). row.ports)) there.1) ∙ are) in
          rw (there.2, mine, same) at (there.3)
