-- No version is held that is newer than the newest.
use Rattle.std.proofs.Common.{◌≡◌, ℕ, zero, suc, ◌≤◌, ◌==◌, ◌&&◌, Bool, true, false, cond, max, List, [], ◌∷◌, ◌++◌, filter, flat_map, length, get_or, Option, Some, None, slice_get, refl, ap, subst, arith, length-append}
use Rattle.std.specs.Option.{option_map_or}
use Rattle.std.proofs.lemmas.Bool.{eqb-true}
use Rattle.std.proofs.lemmas.List.{append_assoc}
use Rattle.std.proofs.lemmas.List.Elements.{filter-append}
use Rattle.std.proofs.lemmas.Option.{same_Some}
use Rattle.pls_configuration.specs.declared.row.NodeRow.{NodeRow}
use Rattle.pls_schedule.specs.declared.event.Event.{Event}
use Rattle.pls_schedule.specs.declared.event.Event.TheVariants.{Emit, Arrive, Restart}
use Rattle.pls_sim.specs.Schedule.{Sent, brings, emits_of, goes, goes_to, since_restart}
use Rattle.pls_watch.specs.declared.turn.Turn.{Turn}
use Rattle.pls_watch.specs.declared.turn.Turn.TheVariants.{Plain, Relabel}
use Rattle.pls_watch.specs.Versions.{brought, carried, carried_from, greatest_in, held, newest, plain_of, relabels, version_of}

-- a version stays one where turns come behind
newest_grows : (before later : List Turn) (node : ℕ)
    → newest before node ≤ newest (before ++ later) node
newest_grows before later node =
    omega (
      arith,
      ap length (filter-append (relabels node) before later),
      length-append (filter (relabels node) before) (filter (relabels node) later),
    )

-- an emit carries a version that there is
carried_few : (before turns : List Turn) (place : ℕ) (emit : Sent)
    → slice_get (emits_of (plain_of turns)) place ≡ Some emit
    → get_or (carried_from before turns) place 0 ≤ newest (before ++ turns) emit.node
carried_few before [] place emit at = absurd (cc)
carried_few before (Relabel node ∷ turns) place emit at =
    subst (λ (all : List Turn). get_or (carried_from (before ++ Relabel node ∷ []) turns) place 0
    ≤ newest all emit.node) (append_assoc before (Relabel node ∷ []) turns)
    (carried_few (before ++ Relabel node ∷ []) turns place emit at)
carried_few before (Plain (Arrive number) ∷ turns) place emit at =
    subst (λ (all : List Turn). get_or (carried_from (before ++ Plain (Arrive number) ∷ []) turns)
    place 0 ≤ newest all emit.node) (append_assoc before (Plain (Arrive number) ∷ []) turns)
    (carried_few (before ++ Plain (Arrive number) ∷ []) turns place emit at)
carried_few before (Plain (Restart node) ∷ turns) place emit at =
    subst (λ (all : List Turn). get_or (carried_from (before ++ Plain (Restart node) ∷ []) turns)
    place 0 ≤ newest all emit.node) (append_assoc before (Plain (Restart node) ∷ []) turns)
    (carried_few (before ++ Plain (Restart node) ∷ []) turns place emit at)
carried_few before (Plain (Emit node port) ∷ turns) zero emit at =
    let sent : Sent = record { node = node; port = port } in
    subst (λ (one : Sent). newest before node
    ≤ newest (before ++ Plain (Emit node port) ∷ turns) one.node) (same_Some sent emit at)
    (newest_grows before (Plain (Emit node port) ∷ turns) node)
carried_few before (Plain (Emit node port) ∷ turns) (suc place) emit at =
    subst (λ (all : List Turn). get_or (carried_from (before ++ Plain (Emit node port) ∷ []) turns)
    place 0 ≤ newest all emit.node) (append_assoc before (Plain (Emit node port) ∷ []) turns)
    (carried_few (before ++ Plain (Emit node port) ∷ []) turns place emit at)

never : {P : Type 0} → false ≡ true → P
never e = absurd (cc)

module _ (rows : List NodeRow) (turns : List Turn) (node neighbour : ℕ) where
  abbrev emits : List Sent
  emits = emits_of (plain_of turns)

  -- so does what arrives from the neighbour
  event_few : (event : Event) → brings rows emits neighbour node event ≡ true
      → version_of (carried turns) event ≤ newest turns neighbour
  event_few (Emit other port) is = never is
  event_few (Restart other) is = never is
  event_few (Arrive zero) is = never is
  event_few (Arrive (suc place)) is = by (slice_get emits place) refl is
    where
      from_there : (emit : Sent) → goes rows neighbour node emit ≡ true → emit.node ≡ neighbour
      from_there emit goes_there = of (emit.node == neighbour) refl goes_there
        where
          of : (b : Bool) → (emit.node == neighbour) ≡ b
              → (b && option_map_or (λ end. end == node) (goes_to rows emit) false) ≡ true
              → emit.node ≡ neighbour
          of true same is = eqb-true emit.node neighbour same
          of false same is = never is

      by : (o : Option Sent) → slice_get emits place ≡ o
          → option_map_or (goes rows neighbour node) o false ≡ true
          → get_or (carried turns) place 0 ≤ newest turns neighbour
      by None at is = never is
      by (Some emit) at is =
          subst (λ (node : ℕ). get_or (carried turns) place 0 ≤ newest turns node)
          (from_there emit is) (carried_few [] turns place emit at)

  all_few : (events : List Event) (version : ℕ)
      → greatest_in (flat_map (brought rows emits (carried turns) neighbour node) events)
      ≡ Some version
      → version ≤ newest turns neighbour
  all_few [] version is = absurd (cc)
  all_few (event ∷ events) version is =
      by (brings rows emits neighbour node event) refl is (all_few events)
    where
      others : List ℕ
      others = flat_map (brought rows emits (carried turns) neighbour node) events

      most : (o : Option ℕ) → greatest_in others ≡ o
          → ((version : ℕ) → greatest_in others ≡ Some version → version ≤ newest turns neighbour)
          → version_of (carried turns) event ≤ newest turns neighbour
          → option_map_or (max (version_of (carried turns) event)) o
          (version_of (carried turns) event) ≤ newest turns neighbour
      most None at few here = here
      most (Some other) at few here = omega (arith, few other at, here)

      by : (b : Bool) → brings rows emits neighbour node event ≡ b
          → greatest_in (cond b (version_of (carried turns) event ∷ []) [] ++ others) ≡ Some version
          → ((version : ℕ) → greatest_in others ≡ Some version → version ≤ newest turns neighbour)
          → version ≤ newest turns neighbour
      by false brings_it is few = few version is
      by true brings_it is few =
          subst (λ (version : ℕ). version ≤ newest turns neighbour)
          (same_Some _ version is)
          (most (greatest_in others) refl few (event_few event brings_it))

  pub held_few : (version : ℕ) → held rows turns node neighbour ≡ Some version
      → version ≤ newest turns neighbour
  held_few version is = all_few (since_restart node (plain_of turns)) version is
