-- Texts of expressions are read again, and are one each.
use Rattle.std.proofs.Common.{◌≡◌, ◌∙◌, ℕ, ◌+◌, ◌≤◌, ◌++◌, false, List, [], Some, sym, refl, ap, subst, arith}
use Rattle.std.specs.Option.{option_and_then}
use Rattle.std.proofs.lemmas.List.{append-nil}
use Rattle.std.proofs.lemmas.Option.{option_and_then_some, same_Some}
use Rattle.pls_expressions.specs.Expression.{Expression, CanBeWritten, depth_of}
use Rattle.pls_scheme_text.specs.ExpressionText.{expression_text}
use Rattle.pls_fronts.specs.Front.{Front, followed, whole_item}
use Rattle.pls_fronts.specs.laws.FrontLaws.{whole_is}
use Rattle.pls_scheme_text.specs.inner.Fronts.{expression_front, expression_in}
use Rattle.pls_scheme_text.specs.laws.FrontLaws.{front_is, front_read}

-- the whole of a text is an expression of at most 8 levels exactly where it is the expression's
pub expression_in-text : (scheme : Expression) → depth_of scheme ≤ 8 → CanBeWritten false scheme
    → expression_in (expression_text scheme) ≡ Some scheme
expression_in-text scheme shallow writable =
    ap expression_in (sym (append-nil (expression_text scheme)))
    ∙ ap (option_and_then whole_item) (front_read false 7 scheme (omega (arith, shallow)) writable [] refl)

-- the expression is at most 8 deep and can be written, and the text is its own
pub record IsTextOf (text : List ℕ) (scheme : Expression) : Type 0 where
  pub written : text ≡ expression_text scheme
  pub shallow : depth_of scheme ≤ 8
  pub writable : CanBeWritten false scheme

pub expression_in-is : (text : List ℕ) (scheme : Expression) → expression_in text ≡ Some scheme
    → IsTextOf text scheme
expression_in-is text scheme is =
    option_and_then_some whole_item (expression_front false 7 text) scheme is at
  where
    at : (found : Front Expression) → expression_front false 7 text ≡ Some found
        → whole_item found ≡ Some scheme → IsTextOf text scheme
    at found stands whole =
        let front = front_is false 7 text found stands in
        let end = whole_is found scheme whole in
        record {
          written = front.stands ∙ ap (λ (rest : List ℕ). expression_text found.item ++ rest) end.1
              ∙ append-nil (expression_text found.item) ∙ ap expression_text end.0;
          shallow = rw (← end.0) (omega (arith, front.shallow));
          writable = subst (CanBeWritten false) end.0 front.written;
        }

-- expressions with one text are one
pub one_expression : (a b : Expression) → CanBeWritten false a → CanBeWritten false b
    → expression_text a ≡ expression_text b → a ≡ b
one_expression a b can_a can_b same =
    let below : ℕ = depth_of a + depth_of b in
    let mine = front_read false below a (omega arith) can_a [] refl in
    let theirs = front_read false below b (omega arith) can_b [] refl in
    ap (λ (found : Front Expression). found.item)
    (same_Some (followed a []) (followed b [])
    (sym mine ∙ ap (λ (text : List ℕ). expression_front false below (text ++ [])) same ∙ theirs))
