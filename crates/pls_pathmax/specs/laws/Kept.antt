-- What the rules of `pathmax` say of labels that a function of the identity gives: the tests as
-- facts.
use Rattle.std.proofs.Common.{◌≡◌, ◌∙◌, ℕ, ◌+◌, ◌≤◌, ◌==◌, ◌⊎◌, inl, inr, nat_le, Bool, true, false, ◌&&◌, map, slice_get, Contains, Option, Some, None, refl, sym, ap}
use Rattle.std.specs.List.{enumerate_from, list_any, zip}
use Rattle.std.specs.Option.{option_map, option_map_or}
use Rattle.std.proofs.lemmas.Bool.{and_parts, eqb-true, leb-true, or_cases, true≢false}
use Rattle.std.proofs.lemmas.Option.{slice_get-map}
use Rattle.pls_configuration.specs.declared.row.Port.{Port}
use Rattle.pls_configuration.specs.declared.row.NodeRow.{NodeRow}
use Rattle.pls_graph.proofs.Finds.{from_option_map}
use Rattle.pls_scheme.specs.Judging.{AllHold}
use Rattle.pls_scheme.specs.Reading.{ReadPort, port_where, read_where}
use Rattle.pls_scheme.proofs.SaidPorts.{passes_port}
use Rattle.pls_centroid.specs.declared.level.CentroidLevel.{CentroidLevel}
use Rattle.pls_levels.specs.Rules.{is_in_tree}
use Rattle.pls_levels.specs.laws.Levelwise.{PassAt, passes_from_0, some_from_0, some_place}
use Rattle.pls_levels.specs.laws.Placed.{IsPlaced, placed_by_test}
use Rattle.pls_pathmax.specs.Labels.{PathMaxLabel}
use Rattle.pls_pathmax.specs.Rules.{has_way, is_heavy_outside, leads_on, leads_on_at, meet_lightly, other_edges_are_heavy, pathmax_rules}

-- whether the edge at a port is in the tree, as the two nodes tell
abbrev pub said_in : (ℕ → PathMaxLabel) → NodeRow → ℕ → Port → Bool
said_in say row number port = is_in_tree row.state.up (say row.id) number (port_where say port)

-- at this port the neighbour has the level of this number, and it leads on
pub record LeadsOn (say : ℕ → PathMaxLabel) (row : NodeRow) (number : ℕ) (mine : CentroidLevel)
    : Type 0 where
  pub place : ℕ
  pub port : Port
  pub theirs : CentroidLevel
  pub at : slice_get row.ports place ≡ Some port
  pub within : said_in say row place port ≡ true
  pub has : slice_get (say port.nbr).levels number ≡ Some theirs
  pub same : theirs.centroid ≡ mine.centroid
  pub nearer : mine.hops ≡ theirs.hops + 1
  pub light : theirs.greatest ≤ mine.greatest
  pub also : port.weight ≤ mine.greatest

-- on some level both nodes at a port have one centroid, and no greatest weight above that of the
-- port
pub record Meets (say : ℕ → PathMaxLabel) (row : NodeRow) (port : Port) : Type 0 where
  pub number : ℕ
  pub mine : CentroidLevel
  pub theirs : CentroidLevel
  pub at : slice_get (say row.id).levels number ≡ Some mine
  pub there : slice_get (say port.nbr).levels number ≡ Some theirs
  pub same : mine.centroid ≡ theirs.centroid
  pub light : mine.greatest ≤ port.weight
  pub also : theirs.greatest ≤ port.weight

-- what the rules of a node say
pub record KeepsRules (say : ℕ → PathMaxLabel) (row : NodeRow) : Type 0 where
  -- its label places it in the tree
  pub placed : IsPlaced say row
  -- its neighbours say the same root
  pub alike : (port : Port) → Contains row.ports port → (say port.nbr).root ≡ (say row.id).root
  -- on each level it is the centroid, or some port leads on
  pub onward : (number : ℕ) (mine : CentroidLevel) → slice_get (say row.id).levels number
      ≡ Some mine
      → ((mine.hops ≡ 0) × (mine.centroid ≡ (say row.id).own)) ⊎ LeadsOn say row number mine
  -- at each port that is not in the tree, both nodes meet lightly
  pub outside : (place : ℕ) (port : Port) → slice_get row.ports place ≡ Some port
      → said_in say row place port ≡ false → Meets say row port

module _ (say : ℕ → PathMaxLabel) (row : NodeRow) where
  abbrev mine : PathMaxLabel
  mine = say row.id

  -- a test of an item that is there
  there_passes : (test : CentroidLevel → Bool) (found : Option CentroidLevel)
      → option_map_or test found false ≡ true
      → (level : CentroidLevel) × (found ≡ Some level) × (test level ≡ true)
  there_passes test None passes = absurd (true≢false (sym passes))
  there_passes test (Some level) passes = (level, refl, passes)

  -- the port of a place, as it is read
  pub read_at : (place : ℕ) (port : Port) → slice_get row.ports place ≡ Some port
      → slice_get (map (port_where say) row.ports) place ≡ Some (port_where say port)
  read_at place port at = slice_get-map (port_where say) row.ports place
      ∙ ap (option_map (port_where say)) at

  pub at_read : (place : ℕ) (read : ReadPort PathMaxLabel)
      → slice_get (map (port_where say) row.ports) place ≡ Some read
      → (port : Port) × (slice_get row.ports place ≡ Some port) × (port_where say port ≡ read)
  at_read place read at = from_option_map (port_where say) (slice_get row.ports place) read
      (sym (slice_get-map (port_where say) row.ports place) ∙ at)

  -- the tests of rule 5, as facts
  leads_from : (number : ℕ) (level : CentroidLevel) (place : ℕ) (port : Port)
      → slice_get row.ports place ≡ Some port
      → leads_on_at (read_where say row) number level place (port_where say port) ≡ true
      → LeadsOn say row number level
  leads_from number level place port at passes =
      let parts = and_parts (said_in say row place port)
      (option_map_or (leads_on level port.weight) (slice_get (say port.nbr).levels number) false)
      passes in
      let (theirs, has, leads) : (theirs : CentroidLevel)
      × (slice_get (say port.nbr).levels number ≡ Some theirs)
      × (leads_on level port.weight theirs ≡ true) =
      there_passes (leads_on level port.weight) (slice_get (say port.nbr).levels number) parts.1 in
      let first = and_parts (theirs.centroid == level.centroid) (level.hops == theirs.hops + 1
      && (nat_le theirs.greatest level.greatest && nat_le port.weight level.greatest)) leads in
      let second = and_parts (level.hops == theirs.hops + 1)
      (nat_le theirs.greatest level.greatest && nat_le port.weight level.greatest) first.1 in
      let third = and_parts (nat_le theirs.greatest level.greatest)
      (nat_le port.weight level.greatest) second.1 in
      record {
        place = place;
        port = port;
        theirs = theirs;
        at = at;
        within = parts.0;
        has = has;
        same = eqb-true theirs.centroid level.centroid first.0;
        nearer = eqb-true level.hops (theirs.hops + 1) second.0;
        light = leb-true theirs.greatest level.greatest third.0;
        also = leb-true port.weight level.greatest third.1;
      }

  way_from : (number : ℕ) (level : CentroidLevel)
      → has_way (read_where say row) number level ≡ true
      → ((level.hops ≡ 0) × (level.centroid ≡ mine.own)) ⊎ LeadsOn say row number level
  way_from number level passes =
      elim (or_cases (level.hops == 0 && level.centroid == mine.own)
      (list_any (λ (numbered : ℕ × ReadPort PathMaxLabel).
      leads_on_at (read_where say row) number level numbered.0 numbered.1)
      (enumerate_from 0 (map (port_where say) row.ports))) passes) [
        | inl own ↦
            let parts = and_parts (level.hops == 0) (level.centroid == mine.own) own in
            inl (eqb-true level.hops 0 parts.0, eqb-true level.centroid mine.own parts.1)
        | inr some ↦
            let (place, read, at, leads) : (place : ℕ) × (read : ReadPort PathMaxLabel)
            × (slice_get (map (port_where say) row.ports) place ≡ Some read)
            × (leads_on_at (read_where say row) number level place read ≡ true) =
            some_from_0 (leads_on_at (read_where say row) number level)
            (map (port_where say) row.ports) some in
            let (port, has, is) : (port : Port) × (slice_get row.ports place ≡ Some port)
            × (port_where say port ≡ read) = at_read place read at in
            inr (leads_from number level place port has
            (ap (leads_on_at (read_where say row) number level place) is ∙ leads))
      ]

  -- those of rule 6
  pub meets_from : (place : ℕ) (port : Port) → slice_get row.ports place ≡ Some port
      → is_heavy_outside (read_where say row) place (port_where say port) ≡ true
      → said_in say row place port ≡ false → Meets say row port
  meets_from place port at passes out =
      elim (or_cases (said_in say row place port)
      (list_any (λ (both : CentroidLevel × CentroidLevel). meet_lightly port.weight both.0 both.1)
      (zip mine.levels (say port.nbr).levels)) passes) [
        | inl within ↦ absurd (true≢false (sym within ∙ out))
        | inr some ↦
            let found : PassAt (meet_lightly port.weight) mine.levels (say port.nbr).levels =
            some_place (meet_lightly port.weight) mine.levels (say port.nbr).levels some in
            let first = and_parts (found.one.centroid == found.other.centroid)
            (nat_le found.one.greatest port.weight && nat_le found.other.greatest port.weight)
            found.passes in
            let second = and_parts (nat_le found.one.greatest port.weight)
            (nat_le found.other.greatest port.weight) first.1 in
            record {
              number = found.place;
              mine = found.one;
              theirs = found.other;
              at = found.at;
              there = found.there;
              same = eqb-true found.one.centroid found.other.centroid first.0;
              light = leb-true found.one.greatest port.weight second.0;
              also = leb-true found.other.greatest port.weight second.1;
            }
      ]

  -- rule 6 at the ports
  pub heavy_meets : other_edges_are_heavy (read_where say row) ≡ true → (place : ℕ) (port : Port)
      → slice_get row.ports place ≡ Some port → said_in say row place port ≡ false
      → Meets say row port
  heavy_meets heavy place port at out = meets_from place port at
      (passes_from_0 (is_heavy_outside (read_where say row)) (map (port_where say) row.ports)
      heavy place (port_where say port) (read_at place port at)) out

  -- the tests give what the rules say
  pub kept_rules : AllHold (pathmax_rules (read_where say row)) → KeepsRules say row
  kept_rules hold = record {
    placed = placed_by_test say row hold.0;
    alike = λ port has. eqb-true (say port.nbr).root mine.root
        (passes_port (λ (port : ReadPort PathMaxLabel). port.label.root == mine.root) say row.ports
        hold.1.0 port has);
    onward = λ number level at. way_from number level
        (passes_from_0 (has_way (read_where say row)) mine.levels hold.1.1.0 number level at);
    outside = heavy_meets hold.1.1.1.0;
  }
