-- The text of labels that were written is read as them.
use Rattle.std.proofs.Common.{◌≡◌, ℕ, List, None, Ok, Err, refl, sym, ◌∙◌}
use Rattle.std.specs.Prelude.{Result, IfErr}
use Rattle.pls_streams.specs.declared.text_error.TextError.{TextError}
use Rattle.pls_streams.specs.declared.text_error.TextError.TheVariants.{Form, Limit, Sense, NoMemory}
use Rattle.pls_labelfile.specs.LabelsText.{NamedLabel}
use Rattle.pls_labelfile.specs.Refusal.{IsLabelsRefusal, labels_refusal}

module _ (ids : List ℕ) (labels : List NamedLabel) (none : labels_refusal ids 1 labels ≡ None) where
  -- labels that nothing refuses are refused for want of memory alone
  only_memory : (error : TextError) → IsLabelsRefusal ids 1 labels error → error ≡ NoMemory
  only_memory (Form line) refusal = let e = sym none ∙ refusal in absurd (cc)
  only_memory (Limit quantity) refusal = let e = sym none ∙ refusal in absurd (cc)
  only_memory (Sense number place) refusal = let e = sym none ∙ refusal in absurd (cc)
  only_memory NoMemory refusal = refl

  pub memory_alone : {V : Type 0} (answer : Result V TextError)
      → IfErr answer (λ error. IsLabelsRefusal ids 1 labels error)
      → IfErr answer (λ error. error ≡ NoMemory)
  memory_alone (Ok value) refused = tt
  memory_alone (Err error) refused = only_memory error refused
