-- What a node sees with the labels that it knows.
use Rattle.std.proofs.Common.{◌≡◌, ◌≢◌, ◌∙◌, ℕ, zero, suc, ◌+◌, ◌<◌, ◌≤◌, ◌==◌, Bool, true, false, cond, List, [], ◌∷◌, length, map, position, get_or, Option, Some, None, is_some, option_map, slice_get, Result, Ok, Err, refl, sym, ap, subst, arith}
use Rattle.std.specs.Result.{IfOk}
use Rattle.std.proofs.lemmas.Bool.{eq-eqb, eqb-true}
use Rattle.std.proofs.lemmas.Option.{same_Some, slice_get-map, slice_get-get_or, slice_get_within}
use Rattle.pls_configuration.specs.declared.row.Port.{Port}
use Rattle.pls_configuration.specs.declared.row.NodeRow.{NodeRow}
use Rattle.pls_configuration.specs.declared.verdict.Verdict.{Verdict}
use Rattle.pls_configuration.specs.Configuration.{IsNetwork}
use Rattle.pls_configuration.specs.Rising.{IsRising}
use Rattle.pls_graph.specs.Places.{beside}
use Rattle.pls_graph.proofs.Beside.{beside_port}
use Rattle.pls_graph.proofs.Placed.{names_another, place_of_row}
use Rattle.pls_labels.specs.Seen.{Seen, label_of, seen, seen_port}
use Rattle.pls_labels.proofs.Views.{label_at as label_placed}
use Rattle.pls_sim.specs.declared.outcome.Outcome.TheVariants.{Decided, Waiting}
use Rattle.pls_sim.specs.Schedule.{has_heard, outcome_after, unheard, failing_from}
use Rattle.pls_scheme.specs.Judging.{RoseByAtMost}
use Rattle.pls_sim.proofs.Refusing.{place_within}
use Rattle.pls_sim.proofs.Unheard.{unheard_rising}
use Rattle.pls_watch.specs.declared.turn.Turn.{Turn}
use Rattle.pls_watch.specs.Labelled.{turns_of}
use Rattle.pls_watch.specs.Versions.{held, is_fresh, known, newest, plain_of, stale}
use Rattle.pls_watch.specs.Watching.{Watched, outcome_in, version_of_label}
use Rattle.pls_watch.specs.inner.Known.{IsKnown, IsTable, known_labels}
use Rattle.pls_watch.specs.inner.Numbers.{IsLabel}
use Rattle.pls_watch.proofs.More.{heard_held}

-- where no port is unheard, each is heard
all_heard : (heard : ℕ → Bool) (number : ℕ) (ports : List Port)
    → failing_from heard number ports ≡ [] → (p : ℕ) (at : Port) → slice_get ports p ≡ Some at
    → heard at.nbr ≡ true
all_heard heard number [] none p at has = absurd (cc)
all_heard heard number (port ∷ ports) none p at has =
    by (heard port.nbr) refl none p has (all_heard heard (number + 1) ports)
  where
    by : (b : Bool) → heard port.nbr ≡ b
        → cond b (failing_from heard (number + 1) ports)
        (number ∷ failing_from heard (number + 1) ports) ≡ []
        → (p : ℕ) → slice_get (port ∷ ports) p ≡ Some at
        → (failing_from heard (number + 1) ports ≡ [] → (p : ℕ) (at : Port)
        → slice_get ports p ≡ Some at → heard at.nbr ≡ true)
        → heard at.nbr ≡ true
    by false is none p has others = absurd (cc)
    by true is none zero has others =
        ap (λ (port : Port). heard port.nbr) (sym (same_Some port at has)) ∙ is
    by true is none (suc p) has others = others none p at has

-- ports show the same under labels that are the same at them
same_ports : (label other : ℕ → List Bool) (ports : List Port)
    → ((p : ℕ) (at : Port) → slice_get ports p ≡ Some at → label at.nbr ≡ other at.nbr)
    → map (seen_port label) ports ≡ map (seen_port other) ports
same_ports label other [] same = refl
same_ports label other (port ∷ ports) same =
    let first = same 0 port refl in
    let others = same_ports label other ports (λ p at has. same (suc p) at has) in
    λ i. record { weight = port.weight; label = first i } ∷ others i

same_seen : (label other : ℕ → List Bool) (row : NodeRow) → label row.id ≡ other row.id
    → ((p : ℕ) (at : Port) → slice_get row.ports p ≡ Some at → label at.nbr ≡ other at.nbr)
    → seen label row ≡ seen other row
same_seen label other row own ports =
    let shows = same_ports label other row.ports ports in
    λ i. record { id = row.id; state = row.state; own = own i; ports = shows i }

-- the label of a node by its number
numbered_label : (rows : List NodeRow) (labels : List (List Bool)) (numbers : List ℕ)
    → length numbers ≡ length rows → (id place : ℕ) → place < length rows
    → position (λ row. id == row.id) rows ≡ Some place
    → label_of rows (known_labels labels numbers) id ≡ get_or labels (get_or numbers place 0) []
numbered_label rows labels numbers long id place inside found =
    label_placed rows (known_labels labels numbers) id place (get_or labels (get_or numbers place
    0) [])
    found
    (slice_get-map (λ number. get_or labels number []) numbers place
    ∙ ap (option_map (λ number. get_or labels number []))
    (slice_get-get_or numbers place 0 (omega (arith, inside, long))))

module _ (watched : Watched) (valid : IsNetwork watched.network) (labels : List (List Bool))
    (in_store : (node version number : ℕ)
    → IsLabel watched.network (turns_of watched.events) node version number
    → get_or labels number [] ≡ version_of_label watched node version)
    (numbers : List ℕ) (table : IsTable watched numbers) (i : ℕ) (row : NodeRow)
    (stands : slice_get watched.network i ≡ Some row)
    (is_known : IsKnown watched i row numbers)
    (heard : unheard watched.network (plain_of (turns_of watched.events)) row ≡ []) where
  abbrev rows : List NodeRow
  rows = watched.network

  abbrev turns : List Turn
  turns = turns_of watched.events

  abbrev believed : ℕ → List Bool
  believed other = version_of_label watched other (known rows turns row.id other)

  own_same : label_of rows (known_labels labels numbers) row.id ≡ believed row.id
  own_same =
      numbered_label rows labels numbers table.long row.id i (slice_get_within rows i row stands)
      (place_of_row rows valid i row stands)
      ∙ in_store row.id (newest turns row.id) (get_or numbers i 0) is_known.own
      ∙ ap (version_of_label watched row.id) (sym (rw (eq-eqb row.id row.id refl) refl))

  port_same : (p : ℕ) (at : Port) → slice_get row.ports p ≡ Some at
      → label_of rows (known_labels labels numbers) at.nbr ≡ believed at.nbr
  port_same p at has =
      of_held (held rows turns row.id at.nbr) refl
      (sym (heard_held rows turns row.id at.nbr)
      ∙ all_heard (has_heard rows (plain_of turns) row.id) 0 row.ports heard p at has)
    where
      place : position (λ row. at.nbr == row.id) rows ≡ Some (get_or (beside rows i) p 0)
      place =
          beside_port rows valid i p row.ports at 0 (ap (option_map (λ (row : NodeRow). row.ports))
          stands)
          has

      another : (at.nbr == row.id) ≡ false
      another = by (at.nbr == row.id) refl
        where
          by : (b : Bool) → (at.nbr == row.id) ≡ b → b ≡ false
          by true same =
              absurd (names_another rows valid i row stands p at has (sym (eqb-true at.nbr row.id
              same)))
          by false same = refl

      of_held : (o : Option ℕ) → held rows turns row.id at.nbr ≡ o → is_some o ≡ true
          → label_of rows (known_labels labels numbers) at.nbr ≡ believed at.nbr
      of_held None is some = absurd (cc)
      of_held (Some version) is some =
          numbered_label rows labels numbers table.long at.nbr (get_or (beside rows i) p 0)
          (place_within rows at.nbr (get_or (beside rows i) p 0) place) place
          ∙ in_store at.nbr version (get_or numbers (get_or (beside rows i) p 0) 0)
          (is_known.others p at version (slice_get_within row.ports p at has) has is)
          ∙ ap (version_of_label watched at.nbr) (sym (rw (another, is) refl))

  -- what is seen with the labels of these numbers is what the node knows
  pub known_seen : seen (label_of rows (known_labels labels numbers)) row ≡ seen believed row
  known_seen =
      same_seen (label_of rows (known_labels labels numbers)) believed row own_same port_same

-- where some port is not heard, the node waits
pub waiting_in : (judge : Seen → Verdict) (watched : Watched) (row : NodeRow) (numbers : List ℕ)
    → numbers ≡ unheard watched.network (plain_of (turns_of watched.events)) row → numbers ≢ []
    → Waiting numbers ≡ outcome_in judge watched row
waiting_in judge watched row numbers are some =
    by numbers some ∙ ap (λ (numbers : List ℕ). outcome_after numbers verdict) are
  where
    verdict : Verdict
    verdict = judge (seen (λ other. version_of_label watched other
        (known watched.network (turns_of watched.events) row.id other)) row)

    by : (numbers : List ℕ) → numbers ≢ [] → Waiting numbers ≡ outcome_after numbers verdict
    by [] some = absurd (some refl)
    by (number ∷ numbers) some = refl

-- else it has decided
pub decided_in : (judge : Seen → Verdict) (watched : Watched) (row : NodeRow)
    → unheard watched.network (plain_of (turns_of watched.events)) row ≡ []
    → Decided (judge (seen (λ other. version_of_label watched other
    (known watched.network (turns_of watched.events) row.id other)) row))
    ≡ outcome_in judge watched row
decided_in judge watched row none =
    ap (λ (numbers : List ℕ). outcome_after numbers (judge (seen (λ other. version_of_label watched
    other
    (known watched.network (turns_of watched.events) row.id other)) row))) (sym none)

-- what holds of a result that is like another
pub if_ok : {T E : Type 0} (P Q : T → Type 0) (result : Result T E) → ((value : T) → P value → Q
    value)
    → IfOk result P → IfOk result Q
if_ok P Q (Ok value) more holds = more value holds
if_ok P Q (Err error) more holds = tt

-- the numbers of stale ports rise
pub stale_rise : (rows : List NodeRow) (turns : List Turn) (row : NodeRow) (numbers : List ℕ)
    → numbers ≡ stale rows turns row → IsRising numbers
stale_rise rows turns row numbers are =
    subst IsRising (sym are) (unheard_rising (is_fresh rows turns row.id) row.ports)

-- steps of one node more
pub rose_more : (most old middle new : ℕ) → RoseByAtMost most old middle → RoseByAtMost 1 middle new
    → RoseByAtMost (most + 1) old new
rose_more most old middle new first last = (
  first.0 + last.0,
  omega (arith, first.1, last.1),
  omega (arith, first.2, last.2),
)

pub rose_within : (few most old new : ℕ) → few ≤ most → RoseByAtMost few old new
    → RoseByAtMost most old new
rose_within few most old new within rose = (rose.0, omega (arith, within, rose.1), rose.2)
