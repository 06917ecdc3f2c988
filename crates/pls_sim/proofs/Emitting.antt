-- What an emit asks for, and where it goes.
use Rattle.std.proofs.Common.{◌≡◌, ◌∙◌, ℕ, ◌+◌, ◌<◌, ◌≤◌, List, length, Some, slice_get, option_map, option_and_then, ap, subst, arith}
use Rattle.std.proofs.lemmas.Option.{slice_get_within}
use Rattle.pls_configuration.specs.declared.row.Port.{Port}
use Rattle.pls_configuration.specs.declared.row.NodeRow.{NodeRow}
use Rattle.pls_configuration.specs.declared.limits.TheConstants.{MAX_PORTS}
use Rattle.pls_graph.proofs.Finds.{item_at}
use Rattle.pls_sim.specs.declared.target.Target.{Target}
use Rattle.pls_sim.specs.Schedule.{goes_to}
use Rattle.pls_sim.specs.Ways.{ArePortNumbers, IsPlaceOf, IsSlot, Numbers}
use Rattle.pls_sim.proofs.Numbering.{first_few, next_first, number_within, slot_at}
use Rattle.pls_sim.proofs.Refusing.{At, row_there}

-- the emit goes to a node, and arrives there at the target
pub record Emits (rows : List NodeRow) (node p : ℕ) (target : Target) : Type 0 where
  pub to : ℕ
  pub goes : goes_to rows (record { node = node; port = p }) ≡ Some to
  pub arrives : IsSlot rows target.port to node
  pub stands : IsPlaceOf rows to target.place

module _ (rows seen : List NodeRow) (numbers : Numbers) (ways : ArePortNumbers rows numbers)
    (same : rows ≡ seen) (node place : ℕ) (stands : IsPlaceOf seen node place) where
  pub emitter : At rows node place
  emitter = row_there rows seen ways.network same node place stands

  -- the next place has a first port too
  pub next_within : place + 1 < length numbers.firsts
  next_within =
      omega (
        arith,
        slice_get_within rows place emitter.row emitter.stands,
        ways.are_firsts.count,
      )

  module _ (first next : ℕ) (first_is : slice_get numbers.firsts place ≡ Some first)
      (next_is : slice_get numbers.firsts (place + 1) ≡ Some next) where
    -- the ports of the node are numbered from its first one to that of the next node
    pub next_is_behind : next ≡ first + length emitter.row.ports
    next_is_behind =
        next_first rows numbers ways place first emitter.row emitter.stands first_is next next_is

    pub next_few : next ≤ MAX_PORTS
    next_few =
        omega (
          arith,
          next_is_behind,
          first_few rows numbers ways place first emitter.row emitter.stands first_is,
        )

    module _ (p : ℕ) (within : first + p < next) where
      inside : p < length emitter.row.ports
      inside = omega (arith, within, next_is_behind)

      pub among : first + p < length numbers.back
      among =
          omega (
            arith,
            number_within rows numbers ways place first emitter.row emitter.stands first_is p
                inside,
            ways.long,
          )

      pub emits : (target : Target) → slice_get numbers.back (first + p) ≡ Some target.port
          → slice_get numbers.ends (first + p) ≡ Some target.place → Emits rows node p target
      emits target back end =
          let port = item_at emitter.row.ports p inside in
          let slot : IsSlot rows (first + p) node port.0.nbr =
          subst (λ (node : ℕ). IsSlot rows (first + p) node port.0.nbr) emitter.is
          (slot_at rows numbers ways place first emitter.row emitter.stands first_is p port.0
          port.1) in record {
            to = port.0.nbr;
            goes = ap (λ o. option_map (λ (port : Port). port.nbr)
                (option_and_then (λ (row : NodeRow). slice_get row.ports p) o)) emitter.found
                ∙ ap (λ o. option_map (λ (port : Port). port.nbr) o) port.1;
            arrives = ways.lead_back (first + p) node port.0.nbr target.port back slot;
            stands = ways.are_ends (first + p) node port.0.nbr target.place end slot;
          }
