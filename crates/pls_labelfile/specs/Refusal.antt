-- With which error the labels of a text are refused for the nodes of a network.
use Rattle.std.specs.Prelude.{◌≡◌, ℕ, ◌+◌, nat_lt, if◌then◌else◌, List, Option, Some, option_map}
use Rattle.pls_streams.specs.declared.text_error.TextError.{TextError}
use Rattle.pls_streams.specs.declared.text_error.TextError.TheVariants.{Limit, NoMemory, Sense}
use Rattle.pls_streams.specs.declared.text_error.Quantity.TheVariants.{Bits}
use Rattle.pls_labelfile.specs.LabelsText.{NamedLabel}
use Rattle.pls_labelfile.specs.LabelsScan.{total_bits}
use Rattle.pls_labelfile.specs.Misfit.{misfit}
use Rattle.pls_streams.specs.declared.refusal_number.TheConstants.{MISFIT}
use Rattle.pls_configuration.specs.declared.limits.TheConstants.{MAX_BITS}

-- labels that do not fit the nodes, by the line of the first that does not; the label at place 0
-- stands in the line behind the heading
abbrev pub misfit_error : ℕ → ℕ → TextError
misfit_error heading place = Sense MISFIT (heading + 1 + place)

-- why labels are refused for nodes of these identities, where their heading is the line of this
-- number: they have more than 2^28 bits together, or else do not fit the nodes
abbrev pub labels_refusal : List ℕ → ℕ → List NamedLabel → Option TextError
labels_refusal ids heading labels =
    if nat_lt MAX_BITS (total_bits labels) then Some (Limit Bits)
    else option_map (misfit_error heading) (misfit ids labels)

-- the error is the refusal of the labels, or there was no memory
abbrev pub IsLabelsRefusal : List ℕ → ℕ → List NamedLabel → TextError → Type 0
IsLabelsRefusal ids heading labels NoMemory = Unit {0}
IsLabelsRefusal ids heading labels error = labels_refusal ids heading labels ≡ Some error
