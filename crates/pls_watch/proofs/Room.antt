-- Whether there is room for an event, and how it is refused.
use Rattle.std.proofs.Common.{◌≡◌, ◌∙◌, ℕ, ◌+◌, ◌-◌, ◌<◌, ◌≤◌, ◌||◌, nat_le, nat_lt, Bool, true, false, List, [], ◌∷◌, Option, Some, None, Result, Ok, Err, refl, sym, ap, subst, arith, inl, inr}
use Rattle.std.specs.Result.{IfErr, IsErrAnd}
use Rattle.std.proofs.lemmas.Bool.{cases_lt, le-leb, le-ltb, lt-leb, lt-ltb}
use Rattle.pls_configuration.specs.Configuration.{first_of, refused_if}
use Rattle.pls_schedule.specs.declared.event.Event.{Event}
use Rattle.pls_schedule.specs.declared.event.Event.TheVariants.{Emit, Arrive, Restart}
use Rattle.pls_sim.specs.declared.event_error.EventError.{EventError}
use Rattle.pls_sim.specs.declared.event_error.EventError.TheVariants.{Full}
use Rattle.pls_watch_part.specs.declared.watch_event.WatchEvent.TheVariants as Watches
use Rattle.pls_watch_part.specs.WatchText.{watch_event}
use Rattle.pls_watch.specs.declared.turn.Turn.TheVariants.{Plain, Relabel}
use Rattle.pls_watch.specs.Turning.{turn_refusal}
use Rattle.pls_watch.specs.Watching.{Watched, lacks_room, turned_of, watch_refusal}
use Rattle.pls_watch.proofs.Arrived.{never}

-- the first of two refusals, where the one before does not occur
first_one : (refusal : Option EventError) → first_of (None ∷ refusal ∷ []) ≡ refusal
first_one None = refl
first_one (Some error) = refl

-- an event that gives no label is refused as its turn is
pub play_refusal : (watched : Watched) (event : Event)
    → watch_refusal watched (watch_event event) ≡ turn_refusal (turned_of watched) (Plain event)
play_refusal watched (Emit node port) = first_one (turn_refusal (turned_of watched) (Plain (Emit
    node port)))
play_refusal watched (Arrive number) = first_one (turn_refusal (turned_of watched) (Plain (Arrive
    number)))
play_refusal watched (Restart node) = first_one (turn_refusal (turned_of watched) (Plain (Restart
    node)))

-- and so is a relabel for which there is room
pub relabel_refusal : (watched : Watched) (node : ℕ) (label : List Bool)
    → lacks_room watched (Watches.Relabel node label) ≡ false
    → watch_refusal watched (Watches.Relabel node label)
    ≡ turn_refusal (turned_of watched) (Relabel node)
relabel_refusal watched node label room =
    ap (λ (lacks : Bool). first_of (refused_if lacks Full
    ∷ turn_refusal (turned_of watched) (Relabel node) ∷ [])) room
    ∙ first_one (turn_refusal (turned_of watched) (Relabel node))

pub full_refusal : (watched : Watched) (node : ℕ) (label : List Bool)
    → lacks_room watched (Watches.Relabel node label) ≡ true
    → watch_refusal watched (Watches.Relabel node label) ≡ Some Full
full_refusal watched node label lacks =
    ap (λ (lacks : Bool). first_of (refused_if lacks Full
    ∷ turn_refusal (turned_of watched) (Relabel node) ∷ [])) lacks

-- what follows where a test of two fails, and where one of numbers does
pub neither : (a b : Bool) → (a || b) ≡ false → (a ≡ false) × (b ≡ false)
neither true b is = absurd (cc)
neither false b is = (refl, is)

pub above : (n m : ℕ) → nat_le n m ≡ false → m < n
above n m is = elim (cases_lt m n) [
  | inl under ↦ under
  | inr past ↦ never (m < n) (sym (le-leb n m past) ∙ is)
]

pub no_more : (n m : ℕ) → nat_lt n m ≡ false → m ≤ n
no_more n m is = elim (cases_lt n m) [
  | inl under ↦ never (m ≤ n) (sym (lt-ltb n m under) ∙ is)
  | inr past ↦ past
]

-- whether there is room, by numbers
pub lacks_relabels : (relabels given count : ℕ) (b : Bool) → count ≡ given → relabels ≤ given
    → true ≡ (nat_le relabels count || b)
lacks_relabels relabels given count b is past =
    ap (λ (a : Bool). a || b) (sym (le-leb relabels count (omega (arith, is, past))))

pub lacks_bits : (relabels given count bits sum total len : ℕ) → count ≡ given → given < relabels
    → total ≡ sum → sum ≤ bits
    → nat_lt (bits - sum) len ≡ (nat_le relabels count || nat_lt bits (total + len))
lacks_bits relabels given count bits sum total len is few same small =
    rw (lt-leb relabels count (omega (arith, is, few))) (elim (cases_lt (bits - sum) len) [
      | inl under ↦ lt-ltb (bits - sum) len under
          ∙ sym (lt-ltb bits (total + len) (omega (arith, under, same, small)))
      | inr past ↦ le-ltb (bits - sum) len past
          ∙ sym (le-ltb bits (total + len) (omega (arith, past, same, small)))
    ])

-- a refusal that is handed on
pub same_refusal : {T E : Type 0} (P : E → Type 0) (result : Result T E) {error : E}
    → IsErrAnd result (λ found. found ≡ error) → P error → IfErr result P
same_refusal P (Ok value) is holds = tt
same_refusal P (Err found) is holds = subst P (sym is) holds
