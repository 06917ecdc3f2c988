use Rattle.std.proofs.Common.{◌≡◌, ◌∙◌, None, Some, inr, sym, ap, refl, subst}
use Rattle.pls_scheme_text.specs.declared.scheme_error.SchemeError.TheVariants.{NotAScheme, TooDeep, TooMany}
use Rattle.pls_scheme_text.specs.ExpressionText.{HasTooManyNames, IsNoExpression, IsTooDeep}
use Rattle.pls_expressions.specs.Expression.{IsSmall}
use Rattle.pls_scheme_text.specs.inner.Fronts.{scheme_refusal_of}
use Rattle.pls_expressions.specs.Held.{expression_of}
use Rattle.std.proofs.lemmas.Option.{same_Some}
use Rattle.pls_scheme_text.specs.laws.TextLaws.{expression_in-is}
use Rattle.pls_scheme_text.proofs.Refusals.{deep_cause, kept_cause, kept_text, many_cause, memory_not_many, memory_not_other, other_cause, refused_text, told_cause}
use Rattle.pls_scheme_text.proofs.scheme_text.read_expression.Goals as goal

pub returns-in-Some-clause-too_deep : goal.returns-in-Some-clause-too_deep
returns-in-Some-clause-too_deep c =
    let same = c.as_bytes-bytes.ensures.value in
    let told : Some c.in-Some.error ≡ scheme_refusal_of c.args.text.now =
    sym c.in-Some.is ∙ c.refusal_of.ensures ∙ ap scheme_refusal_of same in
    told_cause c.args.text.now TooDeep (IsTooDeep c.args.text.now) (deep_cause c.args.text.now)
    c.in-Some.error told

pub returns-in-Some-clause-not_a_scheme : goal.returns-in-Some-clause-not_a_scheme
returns-in-Some-clause-not_a_scheme c =
    let same = c.as_bytes-bytes.ensures.value in
    let told : Some c.in-Some.error ≡ scheme_refusal_of c.args.text.now =
    sym c.in-Some.is ∙ c.refusal_of.ensures ∙ ap scheme_refusal_of same in
    told_cause c.args.text.now NotAScheme (IsNoExpression c.args.text.now) (other_cause c.args.text.now)
    c.in-Some.error told

pub returns-in_err-tree_in-in-None-clause-not_a_scheme :
    goal.returns-in_err-tree_in-in-None-clause-not_a_scheme
returns-in_err-tree_in-in-None-clause-not_a_scheme c =
    let same = c.as_bytes-bytes.ensures.value in
    let kept : None ≡ scheme_refusal_of c.args.text.now =
    sym c.in-None.is ∙ c.refusal_of.ensures ∙ ap scheme_refusal_of same in
    kept_cause c.args.text.now NotAScheme (IsNoExpression c.args.text.now) (other_cause c.args.text.now)
    c.from_residual.result kept (memory_not_other c.from_residual.result c.from_residual.ensures.1)

pub returns-in_ok-tree_in-in-None-clause-not_a_scheme :
    goal.returns-in_ok-tree_in-in-None-clause-not_a_scheme
returns-in_ok-tree_in-in-None-clause-not_a_scheme c =
    let same = c.as_bytes-bytes.ensures.value in
    let kept : None ≡ scheme_refusal_of c.args.text.now =
    sym c.in-None.is ∙ c.refusal_of.ensures ∙ ap scheme_refusal_of same in
    kept_cause c.args.text.now NotAScheme (IsNoExpression c.args.text.now) (other_cause c.args.text.now) _ kept
    (λ is. absurd (cc))

pub returns-in-Some-clause-too_many : goal.returns-in-Some-clause-too_many
returns-in-Some-clause-too_many c =
    let same = c.as_bytes-bytes.ensures.value in
    let told : Some c.in-Some.error ≡ scheme_refusal_of c.args.text.now =
    sym c.in-Some.is ∙ c.refusal_of.ensures ∙ ap scheme_refusal_of same in
    told_cause c.args.text.now TooMany (HasTooManyNames c.args.text.now) (many_cause c.args.text.now)
    c.in-Some.error told

pub returns-in_err-tree_in-in-None-clause-too_many :
    goal.returns-in_err-tree_in-in-None-clause-too_many
returns-in_err-tree_in-in-None-clause-too_many c =
    let same = c.as_bytes-bytes.ensures.value in
    let kept : None ≡ scheme_refusal_of c.args.text.now =
    sym c.in-None.is ∙ c.refusal_of.ensures ∙ ap scheme_refusal_of same in
    kept_cause c.args.text.now TooMany (HasTooManyNames c.args.text.now) (many_cause c.args.text.now)
    c.from_residual.result kept (memory_not_many c.from_residual.result c.from_residual.ensures.1)

pub returns-in_ok-tree_in-in-None-clause-too_many :
    goal.returns-in_ok-tree_in-in-None-clause-too_many
returns-in_ok-tree_in-in-None-clause-too_many c =
    let same = c.as_bytes-bytes.ensures.value in
    let kept : None ≡ scheme_refusal_of c.args.text.now =
    sym c.in-None.is ∙ c.refusal_of.ensures ∙ ap scheme_refusal_of same in
    kept_cause c.args.text.now TooMany (HasTooManyNames c.args.text.now) (many_cause c.args.text.now) _ kept
    (λ is. absurd (cc))

pub returns-in-Some-clause-refused : goal.returns-in-Some-clause-refused
returns-in-Some-clause-refused c =
    let same = c.as_bytes-bytes.ensures.value in
    let told : Some c.in-Some.error ≡ scheme_refusal_of c.args.text.now =
    sym c.in-Some.is ∙ c.refusal_of.ensures ∙ ap scheme_refusal_of same in
    inr (refused_text c.args.text.now c.in-Some.error (sym told))

pub tree_in-requires : goal.tree_in-requires
tree_in-requires c =
    let kept : None ≡ scheme_refusal_of c.as_bytes-bytes.result.now =
    sym c.in-None.is ∙ c.refusal_of.ensures in
    rw ((kept_text c.as_bytes-bytes.result.now kept).1) refl

pub returns-in_ok-tree_in-in-None-clause-small : goal.returns-in_ok-tree_in-in-None-clause-small
returns-in_ok-tree_in-in-None-clause-small c =
    let kept : None ≡ scheme_refusal_of c.as_bytes-bytes.result.now =
    sym c.in-None.is ∙ c.refusal_of.ensures in
    let text = kept_text c.as_bytes-bytes.result.now kept in
    let same : text.0 ≡ expression_of c.in_ok-tree_in-in-None.field-0 =
    same_Some text.0 (expression_of c.in_ok-tree_in-in-None.field-0) (sym text.1 ∙ c.in_ok-tree_in-in-None.ensures) in
    subst IsSmall same text.2

pub returns-in_ok-tree_in-in-None-clause-written : goal.returns-in_ok-tree_in-in-None-clause-written
returns-in_ok-tree_in-in-None-clause-written c =
    let read = expression_in-is c.as_bytes-bytes.result.now
    (expression_of c.in_ok-tree_in-in-None.field-0) c.in_ok-tree_in-in-None.ensures in
    sym c.as_bytes-bytes.ensures.value ∙ read.written
