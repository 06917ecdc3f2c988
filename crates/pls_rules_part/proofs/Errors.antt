-- Errors that calls hand on.
use Rattle.std.proofs.Common.{◌≡◌, Option, Result, Ok, Err, sym, subst}
use Rattle.std.specs.Result.{IfErr, IsErrAnd}
use Rattle.pls_streams.specs.declared.text_error.TextError.{TextError}
use Rattle.pls_rules_part.specs.Refusal.{SaysTextRefusal}

pub if_refusal : {T : Type 0} (result : Result T TextError) (whole : Option TextError)
    (error : TextError) → IsErrAnd result (λ other. other ≡ error) → SaysTextRefusal whole error
    → IfErr result (SaysTextRefusal whole)
if_refusal (Ok value) whole error is refusal = tt
if_refusal (Err other) whole error is refusal = subst (SaysTextRefusal whole) (sym is) refusal
