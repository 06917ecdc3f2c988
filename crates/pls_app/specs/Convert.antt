-- The command `convert`: the labels of an input are written in the delta code.
use Rattle.std.specs.Prelude.{Bool, List, [], ◌∷◌, Option, slice_get, option_map, option_and_then}
use Rattle.pls_streams.specs.declared.refusal_number.TheConstants.{UNREADABLE}
use Rattle.pls_streams.specs.declared.text_error.TextError.{TextError}
use Rattle.pls_streams.specs.declared.text_error.TextError.TheVariants.{Sense}
use Rattle.pls_streams.specs.declared.text_error.Quantity.TheVariants.{Bits}
use Rattle.pls_configuration.specs.declared.limits.TheConstants.{MAX_BITS}
use Rattle.pls_configuration.specs.Configuration.{first_of, ids_of}
use Rattle.pls_labels.specs.Labels.{bits_together}
use Rattle.pls_expressions.specs.Expression.{Expression}
use Rattle.pls_combine.specs.Converted.{all_converted, first_unreadable}
use Rattle.pls_inputs.specs.Order.{over}
use Rattle.pls_inputs.specs.Parts.{Input, code_in, labels_in, rows_in}
use Rattle.pls_app.specs.Meant.{converted_in}

-- the labels of an input in the delta code
abbrev pub converted_labels : Expression → Input → List (List Bool)
converted_labels scheme input =
    all_converted (converted_in (code_in input) scheme) (labels_in input)

-- 60: the first node whose label cannot be read
abbrev pub unreadable_label : Expression → Input → Option TextError
unreadable_label scheme input = option_map (λ id. Sense UNREADABLE id)
    (option_and_then (slice_get (ids_of (rows_in input)))
    (first_unreadable (converted_in (code_in input) scheme) (labels_in input)))

-- why labels are not converted: one of them cannot be read, or else they have too many bits
-- together in the delta code
abbrev pub convert_refusal : Expression → Input → Option TextError
convert_refusal scheme input = first_of (unreadable_label scheme input
    ∷ over Bits MAX_BITS (bits_together (converted_labels scheme input)) ∷ [])
