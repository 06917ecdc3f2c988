-- What the rules of `pathmax` say of a node gives the tests.
use Rattle.std.proofs.Common.{◌≡◌, ◌∙◌, ℕ, ◌+◌, ◌==◌, inl, inr, nat_le, true, false, ◌&&◌, map, slice_get, Option, Some, ap, subst}
use Rattle.std.specs.List.{enumerate_from, list_any, zip}
use Rattle.std.specs.Option.{option_map_or}
use Rattle.std.proofs.lemmas.Bool.{and_from, cases_Bool, eq-eqb, le-leb, or_left, or_right}
use Rattle.pls_configuration.specs.declared.row.Port.{Port}
use Rattle.pls_configuration.specs.declared.row.NodeRow.{NodeRow}
use Rattle.pls_scheme.specs.Judging.{AllHold}
use Rattle.pls_scheme.specs.Reading.{ReadPort, port_where, read_where}
use Rattle.pls_scheme.proofs.SaidPorts.{all_ports_pass}
use Rattle.pls_centroid.specs.declared.level.CentroidLevel.{CentroidLevel}
use Rattle.pls_levels.specs.laws.Levelwise.{all_from_0, any_from_0, some_pass}
use Rattle.pls_levels.specs.laws.Placed.{test_of_placed}
use Rattle.pls_pathmax.specs.Labels.{PathMaxLabel}
use Rattle.pls_pathmax.specs.Rules.{has_way, is_heavy_outside, leads_on, leads_on_at, meet_lightly, other_edges_are_heavy, pathmax_rules}
use Rattle.pls_pathmax.specs.laws.Kept.{KeepsRules, LeadsOn, Meets, at_read, read_at, said_in}

module _ (say : ℕ → PathMaxLabel) (row : NodeRow) where
  -- rule 6, from the ports
  pub meets_heavy : ((place : ℕ) (port : Port) → slice_get row.ports place ≡ Some port
      → said_in say row place port ≡ false → Meets say row port)
      → other_edges_are_heavy (read_where say row) ≡ true
  meets_heavy meeting = all_from_0 (is_heavy_outside (read_where say row))
      (map (port_where say) row.ports) (λ place read at.
      let (port, has, is) : (port : Port) × (slice_get row.ports place ≡ Some port)
      × (port_where say port ≡ read) = at_read say row place read at in
      subst (λ (read : ReadPort PathMaxLabel).
      is_heavy_outside (read_where say row) place read ≡ true) is
      (heavy_passes place port has))
    where
      heavy_passes : (place : ℕ) (port : Port) → slice_get row.ports place ≡ Some port
          → is_heavy_outside (read_where say row) place (port_where say port) ≡ true
      heavy_passes place port at = elim (cases_Bool (said_in say row place port)) [
        | inl within ↦ or_left (said_in say row place port)
            (list_any (λ (both : CentroidLevel × CentroidLevel).
            meet_lightly port.weight both.0 both.1)
            (zip (say row.id).levels (say port.nbr).levels)) within
        | inr out ↦ let meets : Meets say row port = meeting place port at out in
            or_right (said_in say row place port)
            (list_any (λ (both : CentroidLevel × CentroidLevel).
            meet_lightly port.weight both.0 both.1)
            (zip (say row.id).levels (say port.nbr).levels))
            (some_pass (meet_lightly port.weight) (say row.id).levels (say port.nbr).levels
            meets.number meets.mine meets.theirs meets.at meets.there
            (and_from (meets.mine.centroid == meets.theirs.centroid)
            (nat_le meets.mine.greatest port.weight && nat_le meets.theirs.greatest port.weight)
            (eq-eqb meets.mine.centroid meets.theirs.centroid meets.same)
            (and_from (nat_le meets.mine.greatest port.weight)
            (nat_le meets.theirs.greatest port.weight)
            (le-leb meets.mine.greatest port.weight meets.light)
            (le-leb meets.theirs.greatest port.weight meets.also))))
      ]

module _ (say : ℕ → PathMaxLabel) (row : NodeRow) (keeps : KeepsRules say row) where
  abbrev mine : PathMaxLabel
  mine = say row.id

  leads_pass : (number : ℕ) (level : CentroidLevel) (on : LeadsOn say row number level)
      → leads_on_at (read_where say row) number level on.place (port_where say on.port) ≡ true
  leads_pass number level on =
      and_from (said_in say row on.place on.port)
      (option_map_or (leads_on level on.port.weight)
      (slice_get (say on.port.nbr).levels number) false) on.within
      (ap (λ (found : Option CentroidLevel).
      option_map_or (leads_on level on.port.weight) found false) on.has
      ∙ and_from (on.theirs.centroid == level.centroid) (level.hops == on.theirs.hops + 1
      && (nat_le on.theirs.greatest level.greatest && nat_le on.port.weight level.greatest))
      (eq-eqb on.theirs.centroid level.centroid on.same)
      (and_from (level.hops == on.theirs.hops + 1)
      (nat_le on.theirs.greatest level.greatest && nat_le on.port.weight level.greatest)
      (eq-eqb level.hops (on.theirs.hops + 1) on.nearer)
      (and_from (nat_le on.theirs.greatest level.greatest) (nat_le on.port.weight level.greatest)
      (le-leb on.theirs.greatest level.greatest on.light)
      (le-leb on.port.weight level.greatest on.also))))

  way_passes : (number : ℕ) (level : CentroidLevel) → slice_get mine.levels number ≡ Some level
      → has_way (read_where say row) number level ≡ true
  way_passes number level at = elim (keeps.onward number level at) [
    | inl own ↦ or_left (level.hops == 0 && level.centroid == mine.own)
        (list_any (λ (numbered : ℕ × ReadPort PathMaxLabel).
        leads_on_at (read_where say row) number level numbered.0 numbered.1)
        (enumerate_from 0 (map (port_where say) row.ports)))
        (and_from (level.hops == 0) (level.centroid == mine.own) (eq-eqb level.hops 0 own.0)
        (eq-eqb level.centroid mine.own own.1))
    | inr on ↦ or_right (level.hops == 0 && level.centroid == mine.own)
        (list_any (λ (numbered : ℕ × ReadPort PathMaxLabel).
        leads_on_at (read_where say row) number level numbered.0 numbered.1)
        (enumerate_from 0 (map (port_where say) row.ports)))
        (any_from_0 (leads_on_at (read_where say row) number level)
        (map (port_where say) row.ports) on.place (port_where say on.port)
        (read_at say row on.place on.port on.at) (leads_pass number level on))
  ]

  pub rules_pass : AllHold (pathmax_rules (read_where say row))
  rules_pass = (
    test_of_placed say row keeps.placed,
    (
      all_ports_pass (λ (port : ReadPort PathMaxLabel). port.label.root == mine.root) say
          row.ports (λ port has. eq-eqb (say port.nbr).root mine.root (keeps.alike port has)),
      (
        all_from_0 (has_way (read_where say row)) mine.levels way_passes,
        (
          meets_heavy say row keeps.outside,
          tt,
        ),
      ),
    ),
  )
