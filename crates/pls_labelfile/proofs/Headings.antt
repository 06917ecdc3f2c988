-- The heading of a labels part, and parts where `labels delta` may not stand.
use Rattle.std.proofs.Common.{◌≡◌, ◌≢◌, ℕ, ◌+◌, Bool, true, false, List, [], ◌∷◌, ◌++◌, length, codes, refl, sym, ◌∙◌, subst, append_assoc}
use Rattle.std.specs.List.{All}
use Rattle.std.specs.Prelude.{Result, IfErr, IfOk}
use Rattle.std.proofs.lemmas.Result.{IfErr-weaker, IfOk-weaker}
use Rattle.std.proofs.lemmas.List.Elements.{All-nil}
use Rattle.pls_streams.specs.declared.text_error.TextError.{TextError}
use Rattle.pls_bits.specs.declared.code_name.CodeName.{CodeName}
use Rattle.pls_bits.specs.declared.code_name.CodeName.TheVariants.{Delta, Gamma}
use Rattle.pls_lines.specs.Plain.{LacksItem}
use Rattle.pls_lines.specs.Text.{text_of}
use Rattle.pls_lines.specs.Fault.{Awaits, Begins}
use Rattle.pls_lines.specs.Lines.{IsFault, IsFormFault, Left, Passes, Stands}
use Rattle.pls_lines.specs.ListPart.{AreItemLines}
use Rattle.pls_lines.specs.laws.Frames.{fault_in_heading}
use Rattle.pls_lines.specs.laws.LineWords.{same_head, stands_next}
use Rattle.pls_lines.specs.laws.ListLaws.{headings_plain, items_are_body}
use Rattle.pls_labelfile.specs.LabelsText.{FitsLabel, IsLabelsHeading, IsLabelsPart, MayHead, NamedLabel, label_line, labelling_of, labels_heading_text, labels_lines}
use Rattle.pls_labelfile.specs.LabelsScan.{PassesPart, WrittenLabels}
use Rattle.pls_labelfile.specs.laws.LabelLaws.{heading_plain, label_lines, labels_headings, labels_list, same_heading}
use Rattle.pls_labelfile.proofs.LabelsPart.{either_may, is_labels_part}

-- where neither heading stands next, no heading does
pub no_heading : (text : List ℕ) → ((rest : List ℕ) → text ≢ codes "labels" ++ 10 ∷ rest)
    → ((rest : List ℕ) → text ≢ codes "labels delta" ++ 10 ∷ rest)
    → Stands (IsLabelsHeading true) text → ⊥
no_heading text no_gamma no_delta next =
    let stands = stands_next (MayHead true) labels_heading_text text next in
    by stands.value stands.rest stands.is
  where
    by : (code : CodeName) (rest : List ℕ) → text ≡ labels_heading_text code ++ 10 ∷ rest → ⊥
    by Gamma rest is = no_gamma rest is
    by Delta rest is = no_delta rest is

-- the heading of the delta code stands next
abbrev pub DeltaStands : List ℕ → Type 0
DeltaStands text = Stands (λ next. next ≡ codes "labels delta") text

-- there it is the first line that is not of the form, where it may not stand
pub delta_fault : (delta : Bool) (old new : Left) → delta ≡ false
    → Passes old new (codes "labels delta" ∷ []) → IsFault (IsLabelsPart delta) old old.number
delta_fault true old new none passes = absurd (cc)
delta_fault false old new none passes =
    fault_in_heading (IsLabelsHeading false) (AreItemLines label_line (All FitsLabel))
    (codes "labels") [] old
    (headings_plain (MayHead false) labels_heading_text FitsLabel label_line (All FitsLabel)
    (labels_headings false) label_lines (labels_list false))
    (items_are_body (MayHead false) labels_heading_text FitsLabel label_line (All FitsLabel)
    (labels_headings false) label_lines (labels_list false))
    (record { value = Gamma; fits = tt; is = refl })
    (record { items = []; are = All-nil FitsLabel; is = refl }) other
  where
    other : Stands (IsLabelsHeading false) old.rest → ⊥
    other next =
        let stands = stands_next (MayHead false) labels_heading_text old.rest next in
        subst (MayHead false)
        (sym (same_heading Delta stands.value new.rest stands.rest
        (sym passes.stands ∙ stands.is))) stands.fits

-- ---- where it does not stand, a part is the same whether it may stand or not

-- the heading of a part that was passed
may_head : (code : CodeName) (labels : List NamedLabel) (text rest : List ℕ)
    → (DeltaStands text → ⊥)
    → text ≡ text_of (labels_lines (labelling_of code labels)) ++ rest → MayHead false code
may_head Gamma labels text rest absent stands = tt
may_head Delta labels text rest absent stands =
    absurd (absent (record {
      line = codes "labels delta";
      after = _;
      is = refl;
      plain = heading_plain Delta;
      cut = stands;
    }))

gamma_passed : (old new : Left) (written : WrittenLabels) → (DeltaStands old.rest → ⊥)
    → PassesPart true old new written → PassesPart false old new written
gamma_passed old new written absent part = record {
  labels = part.labels;
  may = may_head written.code part.labels old.rest new.rest absent part.passed.stands;
  tells = part.tells;
  passed = part.passed;
  heading = part.heading;
  sum = part.sum;
}

-- lines of a part under another heading
gamma_part : (lines : List (List ℕ)) (is : IsLabelsPart true lines)
    → is.heading ≢ codes "labels delta" → IsLabelsPart false lines
gamma_part lines is other = record {
  heading = is.heading;
  body = is.body;
  headed = by is.headed.value is.headed.is;
  fits = is.fits;
  is = is.is;
}
  where
    by : (code : CodeName) → is.heading ≡ labels_heading_text code → IsLabelsHeading false is.heading
    by Gamma e = record { value = Gamma; fits = tt; is = e }
    by Delta e = absurd (other e)

-- lines of a part under `labels`
either_part : (lines : List (List ℕ)) → IsLabelsPart false lines → IsLabelsPart true lines
either_part lines is = record {
  heading = is.heading;
  body = is.body;
  headed = record {
    value = is.headed.value;
    fits = either_may is.headed.value;
    is = is.headed.is;
  };
  fits = is.fits;
  is = is.is;
}

either_begins : (text : List ℕ) (count : ℕ) → Begins (IsLabelsPart false) text (count + 1)
    → Begins (IsLabelsPart true) text (count + 1)
either_begins text count begins = record {
  front = begins.front;
  more = begins.more;
  after = begins.after;
  is = either_part (begins.front ++ begins.more) begins.is;
  many = begins.many;
  stands = begins.stands;
}

gamma_awaits : (text : List ℕ) (count : ℕ) → (DeltaStands text → ⊥)
    → Awaits (IsLabelsPart true) text count → Awaits (IsLabelsPart false) text count
gamma_awaits text count absent due = by due.front due.is due.many due.stands
  where
    by : (front : List (List ℕ)) → IsLabelsPart true (front ++ due.next ∷ due.more)
        → length front ≡ count → text ≡ text_of front ++ due.after
        → Awaits (IsLabelsPart false) text count
    by [] is many stands = record {
      front = [];
      next = codes "labels";
      more = codes "end" ∷ [];
      after = due.after;
      is = is_labels_part false (labelling_of Gamma [])
          (record { fits = All-nil FitsLabel; code = tt });
      many = many;
      stands = stands;
    }
    by (heading ∷ front) is many stands =
        let same : heading ≡ is.heading = same_head heading is.heading _ _ is.is in
        record {
          front = heading ∷ front;
          next = due.next;
          more = due.more;
          after = due.after;
          is = gamma_part (heading ∷ front ++ due.next ∷ due.more) is (λ e.
              absent (record {
                line = heading;
                after = text_of front ++ due.after;
                is = same ∙ e;
                plain = subst (LacksItem 10) (sym (same ∙ e)) (heading_plain Delta);
                cut = stands ∙ append_assoc heading (10 ∷ text_of front) due.after;
              }));
          many = many;
          stands = stands;
        }

-- so its first faulty line is the same
gamma_fault : (old : Left) (error : TextError) → (DeltaStands old.rest → ⊥)
    → IsFormFault (IsLabelsPart true) old error → IsFormFault (IsLabelsPart false) old error
gamma_fault old error absent fault =
    let count : ℕ = fault.2.0 in (
      fault.0,
      fault.1,
      (
        count,
        fault.2.1,
        record {
          good = gamma_awaits old.rest count absent fault.2.2.good;
          bad = λ begins. fault.2.2.bad (either_begins old.rest count begins);
        },
      ),
    )

-- ---- the answers to a text with no such heading

pub fault_unless : {V : Type 0} (delta : Bool) (old : Left) (answer : Result V TextError)
    → (DeltaStands old.rest → ⊥) → IfErr answer (IsFormFault (IsLabelsPart true) old)
    → IfErr answer (IsFormFault (IsLabelsPart delta) old)
fault_unless true old answer absent form = form
fault_unless false old answer absent form =
    IfErr-weaker answer (IsFormFault (IsLabelsPart true) old) (IsFormFault (IsLabelsPart false) old)
    (λ error fault. gamma_fault old error absent fault) form

pub passed_unless : (delta : Bool) (old new : Left) (answer : Result WrittenLabels TextError)
    → (DeltaStands old.rest → ⊥) → IfOk answer (PassesPart true old new)
    → IfOk answer (PassesPart delta old new)
passed_unless true old new answer absent ok = ok
passed_unless false old new answer absent ok =
    IfOk-weaker answer (PassesPart true old new) (PassesPart false old new)
    (λ part passed. gamma_passed old new part absent passed) ok
