-- Why texts of expressions are refused.
use Rattle.std.proofs.Common.{◌≡◌, ◌∙◌, ◌↔◌, inl, inr, ℕ, ◌<◌, ◌≤◌, ◌==◌, min, nat_lt, Bool, true, false, List, length, Option, Some, None, option_map, Result, Ok, Err, if◌then◌else◌, refl, sym, ap, subst, arith}
use Rattle.std.specs.Option.{option_and_then}
use Rattle.std.specs.Result.{IsErrAnd}
use Rattle.std.proofs.lemmas.Bool.{cases_lt, ltb-false, ltb-true}
use Rattle.std.proofs.lemmas.Option.{same_Some}
use Rattle.pls_scheme_text.specs.declared.scheme_error.SchemeError.{SchemeError}
use Rattle.pls_scheme_text.specs.declared.scheme_error.SchemeError.TheVariants.{NoMemory, NotAScheme, TooDeep, TooMany}
use Rattle.pls_expressions.specs.Expression.{CanBeWritten, Expression, IsSmall, count_of_names, depth_of}
use Rattle.pls_scheme_text.specs.ExpressionText.{HasTooManyNames, IsNoExpression, IsNoScheme, IsTooDeep, expression_text}
use Rattle.pls_fronts.specs.Depth.{deepest}
use Rattle.pls_fronts.specs.Front.{Front, whole_item}
use Rattle.pls_scheme_text.specs.inner.Fronts.{count_front, expression_front, expression_in, names_in, scheme_refusal_of}
use Rattle.pls_scheme_text.specs.laws.DepthLaws.{deep_text}
use Rattle.pls_scheme_text.specs.laws.TextLaws.{expression_in-is, expression_in-text, one_expression}

-- nothing is something
nothing_found : (scheme : Expression) → None ≡ Some scheme → ⊥
nothing_found scheme is = absurd (cc)

nothing_wanted : (error : SchemeError) → None ≡ Some error → ⊥
nothing_wanted error is = absurd (cc)

-- a refusal as an answer
abbrev pub refused_as : {T : Type 0} → SchemeError → Result T SchemeError
refused_as error = Err error

same_error : {T : Type 0} (one other : SchemeError) → refused_as {T = T} one ≡ refused_as other
    → one ≡ other
same_error one other same = cc

-- how many names an expression has, counted up to 255
abbrev names_counted : Expression → ℕ
names_counted scheme = min (count_of_names scheme) 255

-- the names are those of the expression
names_in-is : (text : List ℕ) → names_in text ≡ option_map names_counted (expression_in text)
names_in-is text = by (expression_front false 7 text)
  where
    kept : (found : Front Expression) (b : Bool)
        → (if b then Some (names_counted found.item) else None)
        ≡ option_map names_counted (if b then Some found.item else None)
    kept found true = refl
    kept found false = refl

    by : (front : Option (Front Expression))
        → option_and_then whole_item (option_map count_front front)
        ≡ option_map names_counted (option_and_then whole_item front)
    by None = refl
    by (Some found) = kept found (length found.rest == 0)

-- the cases of a text: it is too deep, or that of no expression, of one of too many names, or of a
-- small one
data Case (text : List ℕ) : Type 0 where
  Deep : IsTooDeep text → scheme_refusal_of text ≡ Some TooDeep → Case text
  Other : IsNoExpression text → scheme_refusal_of text ≡ Some NotAScheme → Case text
  Many : HasTooManyNames text → scheme_refusal_of text ≡ Some TooMany → Case text
  Small : (scheme : Expression) → text ≡ expression_text scheme → IsSmall scheme
      → expression_in text ≡ Some scheme → scheme_refusal_of text ≡ None → Case text

-- where they do not stand so deep, no expression of the text is so deep
shallow_text : (text : List ℕ) (scheme : Expression) → CanBeWritten false scheme → (IsTooDeep text → ⊥)
    → text ≡ expression_text scheme → depth_of scheme ≤ 8
shallow_text text scheme writable shallow written =
    elim (cases_lt 8 (depth_of scheme)) [
      | inl deep ↦ absurd (shallow (subst IsTooDeep (sym written) ((deep_text scheme writable).1 deep)))
      | inr few ↦ few
    ]

module _ (text : List ℕ) (deep : nat_lt 7 (deepest 0 text) ≡ false) where
  shallow : IsTooDeep text → ⊥
  shallow past = absurd (omega (arith, past, ltb-false 7 (deepest 0 text) deep))

  case_few : (scheme : Expression) → expression_in text ≡ Some scheme → (b : Bool)
      → nat_lt 8 (names_counted scheme) ≡ b → Case text
  case_few scheme is true more =
      Many (record {
        shallow = shallow;
        scheme = scheme;
        writable = (expression_in-is text scheme is).writable;
        written = (expression_in-is text scheme is).written;
        many = omega (arith, ltb-true 8 (names_counted scheme) more);
      }) (rw (deep, names_in-is text, is, more) refl)
  case_few scheme is false few =
      Small scheme (expression_in-is text scheme is).written (record {
        few = omega (arith, ltb-false 8 (names_counted scheme) few);
        shallow = (expression_in-is text scheme is).shallow;
        writable = (expression_in-is text scheme is).writable;
      }) is (rw (deep, names_in-is text, is, few) refl)

  none_written : expression_in text ≡ None → (scheme : Expression) → CanBeWritten false scheme
      → text ≡ expression_text scheme → ⊥
  none_written none scheme writable written =
      let found : expression_in text ≡ Some scheme =
      ap expression_in written
      ∙ expression_in-text scheme (shallow_text text scheme writable shallow written) writable in
      nothing_found scheme (sym none ∙ found)

  case_shallow : (found : Option Expression) → expression_in text ≡ found → Case text
  case_shallow None is =
      Other (record { shallow = shallow; other = none_written is })
      (rw (deep, names_in-is text, is) refl)
  case_shallow (Some scheme) is = case_few scheme is (nat_lt 8 (names_counted scheme)) refl

case_of : (text : List ℕ) → Case text
case_of text = by (nat_lt 7 (deepest 0 text)) refl
  where
    by : (b : Bool) → nat_lt 7 (deepest 0 text) ≡ b → Case text
    by true deep = Deep (ltb-true 7 (deepest 0 text) deep) (rw deep refl)
    by false deep = case_shallow text deep (expression_in text) refl

-- a text with one refusal has no other
no_other : {P : Type 0} (refusal : Option SchemeError) (one other : Option SchemeError)
    → refusal ≡ one → refusal ≡ other → (one ≡ other → ⊥) → P
no_other refusal one other is also apart = absurd (apart (sym is ∙ also))

-- each refusal by its cause
pub deep_cause : (text : List ℕ) → (scheme_refusal_of text ≡ Some TooDeep) ↔ IsTooDeep text
deep_cause text = by (case_of text)
  where
    by : Case text → (scheme_refusal_of text ≡ Some TooDeep) ↔ IsTooDeep text
    by (Deep deep is) = (λ _. deep, λ _. is)
    by (Other other is) =
        (λ also. no_other _ _ _ is also (λ e. absurd (cc)), λ deep. absurd (other.shallow deep))
    by (Many many is) =
        (λ also. no_other _ _ _ is also (λ e. absurd (cc)), λ deep. absurd (many.shallow deep))
    by (Small scheme written small found is) = (
      λ also. no_other _ _ _ is also (λ e. absurd (cc)),
      λ deep.
          absurd (omega (arith, (deep_text scheme small.writable).0 (subst IsTooDeep written deep), small.shallow)),
    )

pub other_cause : (text : List ℕ) → (scheme_refusal_of text ≡ Some NotAScheme) ↔ IsNoExpression text
other_cause text = by (case_of text)
  where
    by : Case text → (scheme_refusal_of text ≡ Some NotAScheme) ↔ IsNoExpression text
    by (Deep deep is) =
        (λ also. no_other _ _ _ is also (λ e. absurd (cc)), λ none. absurd (none.shallow deep))
    by (Other other is) = (λ _. other, λ _. is)
    by (Many many is) = (
      λ also. no_other _ _ _ is also (λ e. absurd (cc)),
      λ none. absurd (none.other many.scheme many.writable many.written),
    )
    by (Small scheme written small found is) = (
      λ also. no_other _ _ _ is also (λ e. absurd (cc)),
      λ none. absurd (none.other scheme small.writable written),
    )

pub many_cause : (text : List ℕ) → (scheme_refusal_of text ≡ Some TooMany) ↔ HasTooManyNames text
many_cause text = by (case_of text)
  where
    by : Case text → (scheme_refusal_of text ≡ Some TooMany) ↔ HasTooManyNames text
    by (Deep deep is) =
        (λ also. no_other _ _ _ is also (λ e. absurd (cc)), λ many. absurd (many.shallow deep))
    by (Other other is) = (
      λ also. no_other _ _ _ is also (λ e. absurd (cc)),
      λ many. absurd (other.other many.scheme many.writable many.written),
    )
    by (Many many is) = (λ _. many, λ _. is)
    by (Small scheme written small found is) = (
      λ also. no_other _ _ _ is also (λ e. absurd (cc)),
      λ many.
          let same : scheme ≡ many.scheme =
          one_expression scheme many.scheme small.writable many.writable (sym written ∙ many.written) in
          let more : 8 < count_of_names scheme = rw same many.many in
          absurd (omega (arith, small.few, more)),
    )

-- a text that is refused is that of no small expression
pub refused_text : (text : List ℕ) (error : SchemeError) → scheme_refusal_of text ≡ Some error
    → IsNoScheme text
refused_text text error refused other small_other at = by (case_of text)
  where
    by : Case text → ⊥
    by (Deep deep is) =
        let past : IsTooDeep (expression_text other) = subst IsTooDeep at deep in
        omega (arith, (deep_text other small_other.writable).0 past, small_other.shallow)
    by (Other none is) = none.other other small_other.writable at
    by (Many many is) =
        let same : other ≡ many.scheme =
        one_expression other many.scheme small_other.writable many.writable (sym at ∙ many.written) in
        let more : 8 < count_of_names other = rw same many.many in
        omega (arith, small_other.few, more)
    by (Small scheme written small found is) = no_other _ _ _ is refused (λ e. absurd (cc))

-- a text that is not refused is that of a small expression
pub kept_text : (text : List ℕ) → None ≡ scheme_refusal_of text
    → (scheme : Expression) × (expression_in text ≡ Some scheme) × IsSmall scheme
    × (text ≡ expression_text scheme)
kept_text text kept = by (case_of text)
  where
    by : Case text → (scheme : Expression) × (expression_in text ≡ Some scheme) × IsSmall scheme
        × (text ≡ expression_text scheme)
    by (Deep deep is) = no_other _ _ _ is (sym kept) (λ e. absurd (cc))
    by (Other other is) = no_other _ _ _ is (sym kept) (λ e. absurd (cc))
    by (Many many is) = no_other _ _ _ is (sym kept) (λ e. absurd (cc))
    by (Small scheme written small found is) = (scheme, found, small, written)

module _ {T : Type 0} (text : List ℕ) (wanted : SchemeError) (Cause : Type 0)
    (cause : (scheme_refusal_of text ≡ Some wanted) ↔ Cause) where
  -- the refusal is answered exactly where its cause is there
  pub told_cause : (error : SchemeError) → Some error ≡ scheme_refusal_of text
      → (refused_as {T = T} error ≡ refused_as wanted) ↔ Cause
  told_cause error told = (
    λ same. cause.0 (sym told ∙ ap Some (same_error error wanted same)),
    λ there. ap refused_as (same_Some error wanted (told ∙ cause.1 there)),
  )

  -- and where the text is not refused, it is not
  pub kept_cause : (result : Result T SchemeError) → None ≡ scheme_refusal_of text
      → (result ≡ refused_as wanted → ⊥) → (result ≡ refused_as wanted) ↔ Cause
  kept_cause result kept other = (
    λ same. absurd (other same),
    λ there. absurd (nothing_wanted wanted (kept ∙ cause.1 there)),
  )

-- want of memory is no other refusal
memory_apart : {T : Type 0} (wanted : SchemeError) (result : Result T SchemeError)
    → (NoMemory ≡ wanted → ⊥) → IsErrAnd result (λ error. error ≡ NoMemory)
    → result ≡ refused_as wanted → ⊥
memory_apart wanted (Ok value) other is same = is
memory_apart wanted (Err error) other is same =
    other (sym is ∙ same_error error wanted same)

pub memory_not_other : {T : Type 0} (result : Result T SchemeError)
    → IsErrAnd result (λ error. error ≡ NoMemory) → result ≡ refused_as NotAScheme → ⊥
memory_not_other result = memory_apart NotAScheme result (λ e. absurd (cc))

pub memory_not_many : {T : Type 0} (result : Result T SchemeError)
    → IsErrAnd result (λ error. error ≡ NoMemory) → result ≡ refused_as TooMany → ⊥
memory_not_many result = memory_apart TooMany result (λ e. absurd (cc))
