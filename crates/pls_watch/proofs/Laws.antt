-- What is held never goes back, and where all is fresh the outcome is that of the newest labels.
use Rattle.std.proofs.Common.{◌≡◌, ◌∙◌, ℕ, ◌+◌, ◌≤◌, ◌==◌, Bool, true, false, cond, max, List, [], ◌∷◌, ◌++◌, map, length, Option, Some, None, is_some, refl, sym, ap, arith, append-nil}
use Rattle.std.specs.List.{AllByRecursion}
use Rattle.std.specs.Option.{option_map_or}
use Rattle.std.proofs.lemmas.Bool.{eq-eqb, eqb-true}
use Rattle.pls_configuration.specs.declared.row.Port.{Port}
use Rattle.pls_configuration.specs.declared.row.NodeRow.{NodeRow}
use Rattle.pls_configuration.specs.declared.verdict.Verdict.{Verdict}
use Rattle.pls_labels.specs.Seen.{Seen, SeenPort, seen, seen_port}
use Rattle.pls_sim.specs.declared.outcome.Outcome.TheVariants.{Decided}
use Rattle.pls_sim.specs.Schedule.{brings, emits_of, has_heard, outcome_after, sent_by, unheard, failing_from}
use Rattle.pls_sim.specs.inner.Kept.{NamesEmit}
use Rattle.pls_watch.specs.declared.turn.Turn.{Turn}
use Rattle.pls_watch.specs.declared.turn.Turn.TheVariants.{Plain, Relabel}
use Rattle.pls_watch.specs.Versions.{arrived, brought, carried, carried_by, greatest_in, held, is_fresh, known, newest, plain_of, stale, version_of, watched_outcome}
use Rattle.pls_watch.specs.Turning.{IsNotBack, restarts_in}
use Rattle.pls_watch.proofs.More.{greatest_more, heard_held, held_more, held_relabel, with_one}

-- what was held is not undone by a turn that is no restart of the node
pub not_back : (rows : List NodeRow) (turns : List Turn) (turn : Turn) (node neighbour : ℕ)
    → AllByRecursion (NamesEmit (length (emits_of (plain_of turns)))) (plain_of turns)
    → restarts_in node turn ≡ false
    → IsNotBack (held rows turns node neighbour) (held rows (turns ++ turn ∷ []) node neighbour)
not_back rows turns (Relabel other) node neighbour numbered stays version is =
    (version, held_relabel rows turns other node neighbour ∙ is, omega arith)
not_back rows turns (Plain event) node neighbour numbered stays version is =
    let grown = by (brings rows (emits_of (plain_of turns) ++ sent_by event) neighbour node event)
    in (
      grown.0,
      held_more rows turns event node neighbour numbered
          ∙ ap (λ (b : Bool). cond b None (greatest_in (before ++ brought rows (emits_of (plain_of
          turns)
          ++ sent_by event) (carried turns ++ carried_by turns (Plain event)) neighbour node
          event))) stays
          ∙ grown.1,
      grown.2,
    )
  where
    before : List ℕ
    before = arrived rows turns node neighbour

    came : ℕ
    came = version_of (carried turns ++ carried_by turns (Plain event)) event

    by : (b : Bool) → (next : ℕ) × (greatest_in (before ++ cond b (came ∷ []) []) ≡ Some next)
        × (version ≤ next)
    by true = (
      max version came,
      greatest_more before came ∙ ap (λ (most : Option ℕ). Some (with_one most came)) is,
      omega arith,
    )
    by false = (version, ap greatest_in (append-nil before) ∙ is, omega arith)

module _ (rows : List NodeRow) (turns : List Turn) (label : ℕ → ℕ → List Bool) (node : ℕ) where
  abbrev believed : ℕ → List Bool
  believed other = label other (known rows turns node other)

  abbrev latest : ℕ → List Bool
  latest other = label other (newest turns other)

  -- what is known of the node itself is the newest, and of a neighbour too where it is heard and
  -- fresh
  own : believed node ≡ latest node
  own = ap (label node) (rw (eq-eqb node node refl) refl)

  fresh_one : (other : ℕ) → has_heard rows (plain_of turns) node other ≡ true
      → is_fresh rows turns node other ≡ true → believed other ≡ latest other
  fresh_one other heard fresh = by (other == node) refl
    where
      of_held : (o : Option ℕ) → is_some o ≡ true
          → option_map_or (λ version. version == newest turns other) o true ≡ true
          → option_map_or (λ version. version) o 0 ≡ newest turns other
      of_held None some is = absurd (cc)
      of_held (Some version) some is = eqb-true version (newest turns other) is

      by : (b : Bool) → (other == node) ≡ b
          → label other (cond b (newest turns node)
          (option_map_or (λ version. version) (held rows turns node other) 0)) ≡ latest other
      by true e = ap (λ (node : ℕ). label other (newest turns node)) (sym (eqb-true other node e))
      by false e =
          ap (label other) (of_held (held rows turns node other)
          (sym (heard_held rows turns node other) ∙ heard) fresh)

  fresh_ports : (number : ℕ) (ports : List Port)
      → failing_from (has_heard rows (plain_of turns) node) number ports ≡ []
      → failing_from (is_fresh rows turns node) number ports ≡ []
      → map (seen_port believed) ports ≡ map (seen_port latest) ports
  fresh_ports number [] heard fresh = refl
  fresh_ports number (port ∷ ports) heard fresh =
      by (has_heard rows (plain_of turns) node port.nbr) refl (is_fresh rows turns node port.nbr)
      refl
      (fresh_ports (number + 1) ports) heard fresh
    where
      by : (h : Bool) → has_heard rows (plain_of turns) node port.nbr ≡ h
          → (f : Bool) → is_fresh rows turns node port.nbr ≡ f
          → (failing_from (has_heard rows (plain_of turns) node) (number + 1) ports ≡ []
          → failing_from (is_fresh rows turns node) (number + 1) ports ≡ []
          → map (seen_port believed) ports ≡ map (seen_port latest) ports)
          → cond h (failing_from (has_heard rows (plain_of turns) node) (number + 1) ports)
          (number ∷ failing_from (has_heard rows (plain_of turns) node) (number + 1) ports) ≡ []
          → cond f (failing_from (is_fresh rows turns node) (number + 1) ports)
          (number ∷ failing_from (is_fresh rows turns node) (number + 1) ports) ≡ []
          → map (seen_port believed) (port ∷ ports) ≡ map (seen_port latest) (port ∷ ports)
      by false is_h f is_f later none_h none_f = absurd (cc)
      by true is_h false is_f later none_h none_f = absurd (cc)
      by true is_h true is_f later none_h none_f =
          rw (fresh_one port.nbr is_h is_f, later none_h none_f) refl

-- where all ports are heard and none is stale, the outcome is the judgement with the newest labels
pub fresh_round : (judge : Seen → Verdict) (rows : List NodeRow) (label : ℕ → ℕ → List Bool)
    (turns : List Turn) (row : NodeRow) → unheard rows (plain_of turns) row ≡ []
    → stale rows turns row ≡ []
    → watched_outcome judge rows label turns row
    ≡ Decided (judge (seen (λ other. label other (newest turns other)) row))
fresh_round judge rows label turns row heard fresh =
    ap (λ (numbers : List ℕ). outcome_after numbers (judge (seen (believed rows turns label row.id)
    row))) heard
    ∙ ap (λ (own : List Bool). Decided (judge (record {
      id = row.id;
      state = row.state;
      own = own;
      ports = map (seen_port (believed rows turns label row.id)) row.ports;
    }))) (own rows turns label row.id)
    ∙ ap (λ (ports : List SeenPort). Decided (judge (record {
      id = row.id;
      state = row.state;
      own = label row.id (newest turns row.id);
      ports = ports;
    }))) (fresh_ports rows turns label row.id 0 row.ports heard fresh)
