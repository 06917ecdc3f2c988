-- Whether what a part says makes sense, or is refused, by what was built of it.
use Rattle.std.proofs.Common.{◌≡◌, ◌≢◌, ◌∙◌, ℕ, ◌≤◌, Bool, false, List, [], length, nat_lt, Option, Some, None, option_map, option_and_then, ap, subst, refl, sym, arith}
use Rattle.std.specs.Option.{option_map_or, unwrap_or}
use Rattle.std.proofs.lemmas.Bool.Decides.{nat_tests}
use Rattle.pls_streams.specs.declared.text_error.TextError.{TextError}
use Rattle.pls_streams.specs.declared.text_error.TextError.TheVariants.{Form, Limit, Sense, NoMemory}
use Rattle.pls_streams.specs.declared.text_error.Quantity.TheVariants.{Input as InputBytes, Nodes, Ports, Bits, Events, Rounds, Labels}
use Rattle.pls_configuration.specs.declared.row.NodeRow.{NodeRow}
use Rattle.pls_configuration.specs.declared.limits.TheConstants.{MAX_BITS, MAX_LINES, MAX_NODES, MAX_PORTS}
use Rattle.pls_configuration.specs.Configuration.{ids_of, ports_in, refusal_of}
use Rattle.pls_netfile.specs.NetworkBuild.{IsRefusedBuild, text_error_of}
use Rattle.pls_netfile.specs.NetworkScan.{TellsNetwork, WrittenNetwork}
use Rattle.pls_labelfile.specs.LabelsText.{Labelling, NamedLabel}
use Rattle.pls_labelfile.specs.LabelsScan.{WrittenLabels, total_bits}
use Rattle.pls_labelfile.specs.Misfit.{misfit}
use Rattle.pls_labelfile.specs.Refusal.{IsLabelsRefusal, labels_refusal, misfit_error}
use Rattle.pls_schedule.specs.declared.event.Event.{Event}
use Rattle.pls_schedule.specs.ScheduleText.{IsEventsRefusal, WrittenSchedule}
use Rattle.pls_edits.specs.declared.edit_line.EditLine.{EditLine}
use Rattle.pls_edits.specs.EditsText.{WrittenEdits, rounds_of}
use Rattle.pls_closing.specs.Closing.{AreFew}
use Rattle.pls_closing.proofs.Refused.{few_refused}
use Rattle.pls_watch_part.specs.declared.watch_event.WatchLine.{WatchLine}
use Rattle.pls_watch_part.specs.WatchText.{WrittenWatch, looks_of}
use Rattle.pls_rules.specs.declared.rule_set.RuleSet.{RuleSet}
use Rattle.pls_rules_part.specs.RulesScan.{WrittenRules}
use Rattle.pls_rules_part.specs.RulesText.{RulesSaid, rules_refusal, set_said}
use Rattle.pls_rules_part.specs.Refusal.{IsRulesRefusal}
use Rattle.pls_inputs.specs.inner.Scanned.{TellsIfAny, TellsEditsAt, TellsLabelsAt, TellsRulesAt, TellsScheduleAt, TellsWatchAt}
use Rattle.pls_inputs.specs.Read.{IsSensible, said}
use Rattle.pls_inputs.specs.inner.Built.{AreBuilt, AreRefused, AreUnlisted, AreUnmade, IsBuilt, IsNoSet, IsSetIfAny, IsUnbuilt, IsUnwatched}

-- a network that was built makes sense
pub rows_sense : (text : Option WrittenNetwork) (net found : Option (List NodeRow))
    → TellsIfAny TellsNetwork text found → IsBuilt text net → refusal_of (unwrap_or found []) ≡ None
rows_sense text net None tells built = refl
rows_sense None net (Some rows) tells built = absurd tells
rows_sense (Some text) None (Some rows) tells built = absurd built
rows_sense (Some text) (Some net) (Some rows) tells built =
    ap refusal_of (sym (built.rows rows tells)) ∙ built.valid.valid

-- of labels with few bits the refusal is the line that does not fit
misfit_of : (ids : List ℕ) (heading : ℕ) (labels : List NamedLabel) (found : Option TextError)
    → total_bits labels ≤ MAX_BITS → labels_refusal ids heading labels ≡ found
    → option_map (misfit_error heading) (misfit ids labels) ≡ found
misfit_of ids heading labels found few refused =
    let no_more : nat_lt MAX_BITS (total_bits labels) ≡ false = grind (arith, nat_tests) in
    rw no_more at refused

-- so do labels that were built for it
pub labels_sense : (line : ℕ) (text : Option WrittenLabels) (net network : Option (List NodeRow))
    (store : Option (List (List Bool))) (found : Option Labelling)
    → (net ≡ None → found ≡ None) → net ≡ network
    → total_bits (option_map_or (λ said. said.labels) found []) ≤ MAX_BITS
    → TellsIfAny (TellsLabelsAt line) text found
    → AreBuilt text net store
    → option_map (misfit_error line)
    (option_and_then (λ said. misfit (ids_of (unwrap_or network [])) said.labels) found) ≡ None
labels_sense line text net network store None behind same few tells built = refl
labels_sense line None net network store (Some labels) behind same few tells built =
    absurd tells
labels_sense line (Some text) None network store (Some labels) behind same few tells built =
    absurd (let none : Some labels ≡ None = behind refl in cc)
labels_sense line (Some text) (Some net) network None (Some labels) behind same few tells built =
    absurd built
labels_sense line (Some text) (Some net) network (Some store) (Some labels) behind same few tells
    built =
    let accepted : labels_refusal (ids_of net) text.number labels.labels ≡ None =
    built.accepted labels tells.tells in
    let here : labels_refusal (ids_of net) line labels.labels ≡ None =
    rw tells.number at accepted in
    subst (λ (network : Option (List NodeRow)). option_map (misfit_error line)
    (misfit (ids_of (unwrap_or network [])) labels.labels) ≡ None) same
    (misfit_of (ids_of net) line labels.labels None few here)

-- the set that was built makes sense, and so does its text
pub set_sense : (line : ℕ) (text : Option WrittenRules) (set : Option RuleSet)
    (found : Option RulesSaid) → TellsIfAny (TellsRulesAt line) text found → IsSetIfAny text set
    → IsSensible set
set_sense line text None found tells built = tt
set_sense line None (Some set) found tells built = absurd built
set_sense line (Some text) (Some set) None tells built = absurd tells
set_sense line (Some text) (Some set) (Some said) tells built = (
  built.sense,
  ap set_said (built.back said tells.tells) ∙ sym (built.same said tells.tells),
)

pub rules_sense : (line : ℕ) (text : Option WrittenRules) (set : Option RuleSet)
    (found : Option RulesSaid) → TellsIfAny (TellsRulesAt line) text found → IsSetIfAny text set
    → option_and_then (rules_refusal line) found ≡ None
rules_sense line text set None tells built = refl
rules_sense line None set (Some said) tells built = absurd tells
rules_sense line (Some text) None (Some said) tells built = absurd built
rules_sense line (Some text) (Some set) (Some said) tells built =
    rw (sym tells.number) (built.accepted said tells.tells)

-- the rows of a text are refused
pub rows_refused : (text : Option WrittenNetwork) (found : Option (List NodeRow))
    (error : TextError) → TellsIfAny TellsNetwork text found → length (unwrap_or found []) ≤ MAX_NODES
    → ports_in (unwrap_or found []) ≤ MAX_PORTS → error ≢ NoMemory → IsUnbuilt text error
    → option_map text_error_of (refusal_of (unwrap_or found [])) ≡ Some error
rows_refused None found error tells nodes ports some refused = absurd (some refused)
rows_refused (Some text) None error tells nodes ports some refused = absurd tells
rows_refused (Some text) (Some rows) error tells nodes ports some refused =
    by error some (refused rows tells)
  where
    by : (error : TextError) → error ≢ NoMemory → IsRefusedBuild rows error
        → option_map text_error_of (refusal_of rows) ≡ Some error
    by (Form line) some refused = absurd refused
    by (Limit Nodes) some refused = absurd (omega (arith, refused, nodes))
    by (Limit Ports) some refused = absurd (omega (arith, refused.1, ports))
    by (Limit InputBytes) some refused = absurd refused
    by (Limit Bits) some refused = absurd refused
    by (Limit Events) some refused = absurd refused
    by (Limit Rounds) some refused = absurd refused
    by (Limit Labels) some refused = absurd refused
    by (Sense number place) some refused = rw (refused.first, refused.told) refl
    by NoMemory some refused = absurd (some refl)

-- an error that is a refusal is the refusal
refusal_is : (ids : List ℕ) (heading : ℕ) (labels : List NamedLabel) (error : TextError)
    → error ≢ NoMemory → IsLabelsRefusal ids heading labels error
    → labels_refusal ids heading labels ≡ Some error
refusal_is ids heading labels (Form line) some refused = refused
refusal_is ids heading labels (Limit quantity) some refused = refused
refusal_is ids heading labels (Sense number place) some refused = refused
refusal_is ids heading labels NoMemory some refused = absurd (some refl)

-- the labels of a text are refused
pub labels_refused : (line : ℕ) (text : Option WrittenLabels) (net network : Option (List NodeRow))
    (found : Option Labelling) (error : TextError) → net ≡ network
    → total_bits (option_map_or (λ said. said.labels) found []) ≤ MAX_BITS
    → TellsIfAny (TellsLabelsAt line) text found
    → error ≢ NoMemory → AreRefused text net error
    → option_map (misfit_error line)
    (option_and_then (λ said. misfit (ids_of (unwrap_or network [])) said.labels) found)
    ≡ Some error
labels_refused line None net network found error same few tells some refused =
    absurd (some refused)
labels_refused line (Some text) None network found error same few tells some refused =
    absurd (some refused)
labels_refused line (Some text) (Some net) network None error same few tells some refused =
    absurd tells
labels_refused line (Some text) (Some net) network (Some labels) error same few tells some refused =
    let is : labels_refusal (ids_of net) text.number labels.labels ≡ Some error =
    refusal_is (ids_of net) text.number labels.labels error some (refused labels tells.tells) in
    let here : labels_refusal (ids_of net) line labels.labels ≡ Some error =
    rw tells.number at is in
    subst (λ (network : Option (List NodeRow)). option_map (misfit_error line)
    (misfit (ids_of (unwrap_or network [])) labels.labels) ≡ Some error) same
    (misfit_of (ids_of net) line labels.labels (Some error) few here)

-- the rules of a text are refused
pub rules_refused : (line : ℕ) (text : Option WrittenRules) (found : Option RulesSaid)
    (error : TextError) → TellsIfAny (TellsRulesAt line) text found → error ≢ NoMemory
    → IsNoSet text error → option_and_then (rules_refusal line) found ≡ Some error
rules_refused line None found error tells some refused = absurd (some refused)
rules_refused line (Some text) None error tells some refused = absurd tells
rules_refused line (Some text) (Some said) error tells some refused =
    rw (sym tells.number) (by error some (refused said tells.tells))
  where
    by : (error : TextError) → error ≢ NoMemory → IsRulesRefusal text.number said error
        → rules_refusal text.number said ≡ Some error
    by (Form line) some refused = refused
    by (Limit quantity) some refused = refused
    by (Sense number place) some refused = refused
    by NoMemory some refused = absurd (some refl)

-- few events are refused for want of memory alone
pub events_unlisted : (line : ℕ) (text : Option WrittenSchedule) (found : Option (List Event))
    (error : TextError) → length (unwrap_or found []) ≤ MAX_LINES
    → TellsIfAny (TellsScheduleAt line) text found → AreUnlisted text error → error ≡ NoMemory
events_unlisted line None found error few tells unlisted = unlisted
events_unlisted line (Some text) None error few tells unlisted = absurd tells
events_unlisted line (Some text) (Some events) error few tells unlisted =
    by error (unlisted events tells.tells)
  where
    by : (error : TextError) → IsEventsRefusal events error → error ≡ NoMemory
    by (Form line) refused = absurd (omega (arith, refused.1, few))
    by (Limit quantity) refused = absurd (omega (arith, refused.1, few))
    by (Sense number place) refused = absurd (omega (arith, refused.1, few))
    by NoMemory refused = refl

-- and so are few edits, and a watch with few lines and few looks
pub edits_unmade : (line : ℕ) (text : Option WrittenEdits) (found : Option (List EditLine))
    (error : TextError)
    → AreFew (length (unwrap_or found [])) (length (rounds_of (unwrap_or found [])))
    → TellsIfAny (TellsEditsAt line) text found → AreUnmade text error → error ≡ NoMemory
edits_unmade line None found error few tells unmade = unmade
edits_unmade line (Some text) None error few tells unmade = absurd tells
edits_unmade line (Some text) (Some edits) error few tells unmade =
    few_refused _ _ few error (unmade edits tells.tells)

pub watch_unlisted : (line : ℕ) (text : Option WrittenWatch) (found : Option (List WatchLine))
    (error : TextError)
    → AreFew (length (unwrap_or found [])) (length (looks_of (unwrap_or found [])))
    → TellsIfAny (TellsWatchAt line) text found → IsUnwatched text error → error ≡ NoMemory
watch_unlisted line None found error few tells unwatched = unwatched
watch_unlisted line (Some text) None error few tells unwatched = absurd tells
watch_unlisted line (Some text) (Some watch) error few tells unwatched =
    few_refused _ _ few error (unwatched watch tells.tells)
