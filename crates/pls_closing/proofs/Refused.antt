-- Why lines are refused, by how many there are.
use Rattle.std.proofs.Common.{◌≡◌, ℕ, Result, Ok, Err, sym, subst, refl, inl, inr, arith}
use Rattle.std.specs.Result.{IfErr, IsErrAnd}
use Rattle.pls_streams.specs.declared.text_error.TextError.{TextError}
use Rattle.pls_streams.specs.declared.text_error.TextError.TheVariants.{Form, Limit, NoMemory, Sense}
use Rattle.pls_closing.specs.Closing.{AreFew, IsBeyond, IsLinesRefusal}

module _ (lines closing : ℕ) where
  -- for want of memory the lines are within the limits
  pub no_memory : {T : Type 0} (result : Result T TextError)
      → IsErrAnd result (λ error. error ≡ NoMemory) → AreFew lines closing
      → IfErr result (λ error. IsLinesRefusal lines closing error)
  no_memory (Ok value) is few = tt
  no_memory (Err error) is few =
      subst (λ (error : TextError). IsLinesRefusal lines closing error) (sym is) few

  -- lines beyond a limit are refused so
  pub beyond_one : (error : TextError) → IsBeyond lines closing error
      → IsLinesRefusal lines closing error
  beyond_one (Form line) beyond = beyond
  beyond_one (Limit quantity) beyond = beyond
  beyond_one (Sense number place) beyond = beyond
  beyond_one NoMemory (inl many) = let no = many.0 in absurd (cc)
  beyond_one NoMemory (inr many) = let no = many.0 in absurd (cc)

  -- lines within the limits are refused for want of memory alone
  pub few_refused : AreFew lines closing → (error : TextError)
      → IsLinesRefusal lines closing error → error ≡ NoMemory
  few_refused few error refused = by error refused
    where
      within : (error : TextError) → IsBeyond lines closing error → error ≡ NoMemory
      within error beyond = elim beyond [
        | inl many ↦ absurd (omega (arith, many.1, few.few_lines))
        | inr many ↦ absurd (omega (arith, many.2, few.few_closing))
      ]

      by : (error : TextError) → IsLinesRefusal lines closing error → error ≡ NoMemory
      by (Form line) refused = within (Form line) refused
      by (Limit quantity) refused = within (Limit quantity) refused
      by (Sense number place) refused = within (Sense number place) refused
      by NoMemory refused = refl
