-- What stands where no line of a watch part does.
use Rattle.std.proofs.Common.{◌≡◌, ◌≢◌, ◌∙◌, ℕ, List, ◌∷◌, ◌++◌, Option, Some, None, codes, refl, sym, ap}
use Rattle.std.specs.Option.{IfNone}
use Rattle.pls_lines.specs.LineKind.{Says}
use Rattle.pls_lines.specs.Lines.{Stands}
use Rattle.pls_labelfile.specs.LabelsText.{FitsLabel, NamedLabel, label_line}
use Rattle.pls_labelfile.specs.laws.LabelLaws.{label_lines}
use Rattle.pls_schedule.specs.declared.event.Event.{Event as RoundEvent}
use Rattle.pls_schedule.specs.declared.event.Event.TheVariants as Plays
use Rattle.pls_schedule.specs.ScheduleText.{FitsEvent, event_line}
use Rattle.pls_schedule.specs.laws.EventLaws.{event_lines}
use Rattle.pls_watch_part.specs.declared.watch_event.WatchEvent.TheVariants.{Emit, Arrive, Restart, Relabel}
use Rattle.pls_watch_part.specs.declared.watch_event.WatchLine.{WatchLine}
use Rattle.pls_watch_part.specs.declared.watch_event.WatchLine.TheVariants.{Event, Look}
use Rattle.pls_watch_part.specs.WatchText.{FitsWatch, watch_line}

-- what follows where there is nothing follows from what holds there
pub none_more : {A : Type 0} (found : Option A) (P Q : Type 0) → (P → Q) → IfNone found P
    → IfNone found Q
none_more None P Q more holds = more holds
none_more (Some value) P Q more holds = tt

-- behind `re` no line of a label stands
pub no_relabel : (text word behind : List ℕ) → text ≡ 114 ∷ word → word ≡ 101 ∷ behind
    → (Stands (Says FitsLabel label_line) behind → ⊥)
    → (label : NamedLabel) (rest : List ℕ) → FitsLabel label
    → text ≢ 114 ∷ 101 ∷ label_line label ++ 10 ∷ rest
no_relabel text word behind first second none label rest fits is =
    none (record {
      line = label_line label;
      after = rest;
      is = record { value = label; fits = fits; is = refl };
      plain = label_lines.plain label fits;
      cut = cut;
    })
  where
    tail : (byte : ℕ) (s t : List ℕ) → byte ∷ s ≡ byte ∷ t → s ≡ t
    tail byte s t e = cc

    cut : behind ≡ label_line label ++ 10 ∷ rest
    cut =
        tail 101 behind (label_line label ++ 10 ∷ rest)
        (sym second ∙ tail 114 word (101 ∷ label_line label ++ 10 ∷ rest) (sym first ∙ is))

module _ (text : List ℕ) (no_event : Stands (Says FitsEvent event_line) text → ⊥)
    (no_look : (rest : List ℕ) → text ≢ codes "look" ++ 10 ∷ rest)
    (no_label : (label : NamedLabel) (rest : List ℕ) → FitsLabel label
    → text ≢ 114 ∷ 101 ∷ label_line label ++ 10 ∷ rest) where
  played : (event : RoundEvent) → FitsEvent event → (rest : List ℕ)
      → text ≡ event_line event ++ 10 ∷ rest → ⊥
  played event fits rest cut = no_event (record {
    line = event_line event;
    after = rest;
    is = record { value = event; fits = fits; is = refl };
    plain = event_lines.plain event fits;
    cut = cut;
  })

  none_of : (line : WatchLine) → FitsWatch line → (rest : List ℕ)
      → text ≡ watch_line line ++ 10 ∷ rest → ⊥
  none_of (Event (Emit node port)) fits rest cut = played (Plays.Emit node port) fits rest cut
  none_of (Event (Arrive number)) fits rest cut = played (Plays.Arrive number) fits rest cut
  none_of (Event (Restart node)) fits rest cut = played (Plays.Restart node) fits rest cut
  none_of (Event (Relabel node bits)) fits rest cut =
      no_label (record { id = node; bits = bits }) rest fits cut
  none_of Look fits rest cut = no_look rest cut

  -- no line of an event, of a look or of a label is no line
  pub no_line : Stands (Says FitsWatch watch_line) text → ⊥
  no_line stands =
      none_of stands.is.value stands.is.fits stands.after
      (stands.cut ∙ ap (λ (line : List ℕ). line ++ 10 ∷ stands.after) stands.is.is)
