-- Bytes are an input, or are refused.
use Rattle.std.proofs.Common.{◌≡◌, ℕ, ◌<◌, ◌≤◌, nat_lt, Bool, true, false, List, length, Option, Some, None, Result, Ok, Err, IfErr, IfOk, inl, inr, arith, refl}
use Rattle.std.proofs.lemmas.Bool.Decides.{nat_tests}
use Rattle.pls_streams.specs.declared.text_error.TextError.{TextError}
use Rattle.pls_streams.specs.declared.text_error.TextError.TheVariants.{Limit}
use Rattle.pls_streams.specs.declared.text_error.Quantity.TheVariants.{Input as InputBytes}
use Rattle.pls_configuration.specs.declared.limits.TheConstants.{MAX_INPUT}
use Rattle.pls_configuration.specs.Configuration.{first_of}
use Rattle.pls_lines.specs.Fault.{NamesFirstFault}
use Rattle.pls_inputs.specs.declared.parts.Parts.{Parts}
use Rattle.pls_inputs.specs.declared.texts.Texts.{Texts}
use Rattle.pls_inputs.specs.Parts.{AreLines, Input, IsInputText}
use Rattle.pls_inputs.specs.Order.{IsInputOrNot, refusals}
use Rattle.pls_inputs.specs.inner.Scanned.{IsScanned}

-- bytes that say something are an input, or something refuses what they say
said_or_refused : (parts : Parts) (bytes : List ℕ) (input : Input) → length bytes ≤ MAX_INPUT
    → IsInputText parts bytes input → IsInputOrNot parts bytes
said_or_refused parts bytes input short says = by (first_of (refusals input)) refl
  where
    by : (first : Option TextError) → first_of (refusals input) ≡ first → IsInputOrNot parts bytes
    by None none = inl (input, record { short = short; says = says; accepted = none })
    by (Some error) first =
        inr (error, inr (short, inr (record { input = input; says = says; first = first })))

-- so it is with bytes whose parts were scanned
pub input_or_not : (parts : Parts) (bytes : List ℕ) (scanned : Result Texts TextError)
    → IfOk scanned (λ texts. IsScanned parts bytes texts)
    → IfErr scanned (λ error. NamesFirstFault (AreLines parts) bytes error)
    → IsInputOrNot parts bytes
input_or_not parts bytes scanned ok err = by (nat_lt MAX_INPUT (length bytes)) refl scanned ok err
  where
    by : (long : Bool) → nat_lt MAX_INPUT (length bytes) ≡ long → (scanned : Result Texts TextError)
        → IfOk scanned (λ texts. IsScanned parts bytes texts)
        → IfErr scanned (λ error. NamesFirstFault (AreLines parts) bytes error)
        → IsInputOrNot parts bytes
    by true long scanned ok err =
        let more : MAX_INPUT < length bytes = grind (arith, nat_tests) in
        inr (Limit InputBytes, inl (refl, more))
    by false long (Ok texts) ok err =
        let short : length bytes ≤ MAX_INPUT = grind (arith, nat_tests) in
        said_or_refused parts bytes ok.input short (record { has = ok.has; is = ok.is })
    by false long (Err error) ok err =
        let short : length bytes ≤ MAX_INPUT = grind (arith, nat_tests) in
        inr (error, inr (short, inl err))
