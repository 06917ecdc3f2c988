-- What an input is refused for where its labels are converted.
use Rattle.std.proofs.Common.{◌≡◌, ◌∙◌, ℕ, Bool, List, [], ◌∷◌, Option, Some, None, option_map, slice_get, refl, sym, ap}
use Rattle.std.proofs.lemmas.Option.{slice_get-map}
use Rattle.pls_streams.specs.declared.refusal_number.TheConstants.{UNREADABLE}
use Rattle.pls_streams.specs.declared.text_error.TextError.{TextError}
use Rattle.pls_streams.specs.declared.text_error.TextError.TheVariants.{Sense}
use Rattle.pls_streams.specs.declared.text_error.Quantity.TheVariants.{Bits}
use Rattle.pls_configuration.specs.declared.limits.TheConstants.{MAX_BITS}
use Rattle.pls_configuration.specs.declared.row.NodeRow.{NodeRow}
use Rattle.pls_configuration.specs.Configuration.{first_of, ids_of}
use Rattle.pls_labels.specs.Labels.{bits_together}
use Rattle.pls_expressions.specs.Expression.{Expression}
use Rattle.pls_inputs.specs.Order.{over}
use Rattle.pls_inputs.specs.Parts.{Input, code_in, labels_in, rows_in}
use Rattle.pls_combine.specs.Converted.{all_converted, first_unreadable}
use Rattle.pls_app.specs.Convert.{converted_labels, convert_refusal}
use Rattle.pls_app.specs.Meant.{converted_in}

module _ (scheme : Expression) (input : Input) (to : List Bool → Option (List Bool))
    (same : to ≡ converted_in (code_in input) scheme) (labels : List (List Bool))
    (of_labels : labels_in input ≡ labels) where
  -- which of its labels is the first that cannot be read
  found_in : (place : Option ℕ) → place ≡ first_unreadable to labels
      → first_unreadable (converted_in (code_in input) scheme) (labels_in input) ≡ place
  found_in place found = (λ i. first_unreadable (sym same i) (of_labels i)) ∙ sym found

  -- its node is named
  pub unread_refused : (rows : List NodeRow) (place id : ℕ) → rows_in input ≡ rows
      → Some place ≡ first_unreadable to labels
      → option_map (λ row. row.id) (slice_get rows place) ≡ Some id
      → convert_refusal scheme input ≡ Some (Sense UNREADABLE id)
  unread_refused rows place id of_rows found at =
      let there : slice_get (ids_of (rows_in input)) place ≡ Some id =
      ap (λ (rows : List NodeRow). slice_get (ids_of rows) place) of_rows
      ∙ slice_get-map (λ (row : NodeRow). row.id) rows place ∙ at in
      rw (found_in (Some place) found, there) refl

  module _ (store : List (List Bool)) (none : None ≡ first_unreadable to labels)
      (made : store ≡ all_converted to labels) where
    -- these are the labels of the input
    pub converted_same : converted_labels scheme input ≡ store
    converted_same = (λ i. all_converted (sym same i) (of_labels i)) ∙ sym made

    -- where all can be read, the limit on bits decides
    pub bits_decide : (found : Option TextError) → over Bits MAX_BITS (bits_together store) ≡ found
        → convert_refusal scheme input ≡ found
    bits_decide found limit =
        rw (found_in None none, converted_same, limit) (only found)
      where
        only : (found : Option TextError) → first_of (found ∷ []) ≡ found
        only None = refl
        only (Some error) = refl
