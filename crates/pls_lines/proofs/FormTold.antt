-- When an answer is the refusal of a form.
use Rattle.std.proofs.Common.{◌≡◌, ℕ, ◌↔◌, List, Err, ◌∙◌, ap, subst}
use Rattle.std.specs.Prelude.{Result}
use Rattle.std.specs.Result.{IsErrOf}
use Rattle.pls_streams.specs.declared.text_error.TextError.{TextError}
use Rattle.pls_streams.specs.declared.text_error.TextError.TheVariants.{Form}
use Rattle.pls_lines.specs.Fault.{IsFirstFault, NamesFirstFault}
use Rattle.pls_lines.specs.LineKind.{IsLineKind, Says}
use Rattle.pls_lines.specs.ListPart.{IsListKind, IsListPart, TellsItems, list_lines}
use Rattle.pls_lines.specs.laws.ListLaws.{is_list_part}
use Rattle.pls_lines.proofs.WholeTexts.{same_fault}

-- the answer to a text with a first faulty line is the form of that line
pub form_alone : {V : Type 0} (format : List (List ℕ) → Type 0) (answer : Result V TextError)
    (text : List ℕ) (error : TextError) → answer ≡ Err error → NamesFirstFault format text error
    → (line : ℕ) → IsErrOf answer (Form line) ↔ IsFirstFault format text line
form_alone {V = V} format answer text error is refusal line =
    let form : answer ≡ Err (Form refusal.0) = is ∙ ap (λ (e : TextError). Err e) refusal.1 in (
      λ e. let same : refusal.0 ≡ line =
          cc in subst (IsFirstFault format text) same refusal.2,
      λ other.
          is ∙ ap (λ (e : TextError). Err e) (same_fault format text error line refusal other),
    )

module _ {H X : Type 0} (Headed : H → Type 0) (title : H → List ℕ) (Fits : X → Type 0)
    (written : X → List ℕ) (Are : List X → Type 0) (titles : IsLineKind Headed title)
    (kind : IsLineKind Fits written) (list : IsListKind Headed Fits Are) where
  -- a text with a first faulty line says no items
  pub no_list_told : (text : List ℕ) (line : ℕ)
      → IsFirstFault (IsListPart (Says Headed title) written Are) text line
      → (heading : H) (items : List X) → TellsItems Headed title written Are text heading items → ⊥
  no_list_told text line fault heading items tells =
      fault.2.none (list_lines (title heading) written items)
      (is_list_part Headed title Fits written Are titles kind list heading items tells.headed
      tells.are) tells.is
