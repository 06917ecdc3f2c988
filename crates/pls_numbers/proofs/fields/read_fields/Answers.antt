use Rattle.std.proofs.Common.{◌≡◌, ◌∙◌, ◌+◌, [], ℕ, List, Bool, true, false, ap, sym, drop, length, arith}
use Rattle.std.proofs.lemmas.List.{drop_all}
use Rattle.pls_numbers.specs.declared.kind.FieldKind.{FieldKind}
use Rattle.pls_numbers.specs.declared.kind.FieldKind.TheVariants.{Num}
use Rattle.pls_numbers.specs.Fixed.{behind_numbers, so_many}
use Rattle.pls_numbers.specs.Shape.{if_clean}
use Rattle.pls_numbers.specs.Numbers.{is_end, left_in}
use Rattle.pls_numbers.specs.laws.FixedLaws.{end_is, field_none, field_read, read_all, read_short, read_spare}
use Rattle.pls_numbers.proofs.fields.read_fields.Goals as goal

pub returns-in_default : goal.returns-in_default
returns-in_default g c =
    let takes = g.C.NumCode.takes in
    let kinds : List FieldKind = c.args.kinds.now in
    let i : ℕ = c.loop-kind.kind-index in
    sym (ap (if_clean (so_many (length kinds))) c.loop-kind.invariant.all
    ∙ read_short (length kinds) c.loop-kind.values.items
    (left_in takes (drop i kinds) c.loop-kind.cursor)
    (omega (arith, c.loop-kind.invariant.many, c.loop-kind-test.true))
    (field_none g.C.NumCode.code takes g.met.C.NumCode.takes_codes g.met.C.NumCode.takes_only
    kinds i Num c.loop-kind-test.true c.loop-kind.cursor c.in_default.ensures.0))

pub loop-kind-preserved : goal.loop-kind-preserved
loop-kind-preserved g c =
    let kinds : List FieldKind = c.args.kinds.now in
    let i : ℕ = c.loop-kind.kind-index in
    record {
      many = omega (arith, c.loop-kind.invariant.many, c.in_ok-push.ensures.len);
      all = field_read g.C.NumCode.code g.C.NumCode.takes g.met.C.NumCode.takes_codes
          g.met.C.NumCode.takes_only kinds i Num c.loop-kind-test.true c.loop-kind.values.items
          c.args.bits.now c.loop-kind.cursor c.read_field.new.cursor c.in-Some.number
          c.loop-kind.invariant.all c.in-Some.ensures
          ∙ ap (λ (front : List ℕ). behind_numbers front (left_in g.C.NumCode.takes (drop (i + 1) kinds)
          c.read_field.new.cursor)) (sym c.in_ok-push.ensures.items);
    }

pub returns-then-is_empty : goal.returns-then-is_empty
returns-then-is_empty g c =
    let takes = g.C.NumCode.takes in
    let kinds : List FieldKind = c.args.kinds.now in
    let i : ℕ = c.loop-kind.kind-index in
    let bits : List Bool = c.loop-kind.cursor in
    let none : drop i kinds ≡ [] = drop_all i kinds (omega (arith, c.loop-kind-test.false)) in
    let ends : is_end (left_in takes [] bits) ≡ true =
    sym (end_is g.C.NumCode.code takes g.met.C.NumCode.takes_codes g.met.C.NumCode.takes_only bits
    c.is_empty.result (λ yes. sym c.rest.ensures ∙ c.is_empty.ensures.0 yes)
    (λ none. c.is_empty.ensures.1 (c.rest.ensures ∙ none))) ∙ c.if-is_empty.true in
    sym (ap (if_clean (so_many (length kinds))) (c.loop-kind.invariant.all
    ∙ ap (λ (kinds : List FieldKind). behind_numbers c.loop-kind.values.items (left_in takes kinds bits))
    none)
    ∙ read_all (length kinds) c.loop-kind.values.items (left_in takes [] bits)
    (omega (
      arith,
      c.loop-kind.invariant.many,
      c.loop-kind-test.false,
      c.loop-kind.auto.kind-index-end,
    )) ends)

pub returns-else-is_empty : goal.returns-else-is_empty
returns-else-is_empty g c =
    let takes = g.C.NumCode.takes in
    let kinds : List FieldKind = c.args.kinds.now in
    let i : ℕ = c.loop-kind.kind-index in
    let bits : List Bool = c.loop-kind.cursor in
    let none : drop i kinds ≡ [] = drop_all i kinds (omega (arith, c.loop-kind-test.false)) in
    let ends : is_end (left_in takes [] bits) ≡ false =
    sym (end_is g.C.NumCode.code takes g.met.C.NumCode.takes_codes g.met.C.NumCode.takes_only bits
    c.is_empty.result (λ yes. sym c.rest.ensures ∙ c.is_empty.ensures.0 yes)
    (λ none. c.is_empty.ensures.1 (c.rest.ensures ∙ none))) ∙ c.if-is_empty.false in
    sym (ap (if_clean (so_many (length kinds))) (c.loop-kind.invariant.all
    ∙ ap (λ (kinds : List FieldKind). behind_numbers c.loop-kind.values.items (left_in takes kinds bits))
    none)
    ∙ read_spare (length kinds) c.loop-kind.values.items (left_in takes [] bits)
    (omega (
      arith,
      c.loop-kind.invariant.many,
      c.loop-kind-test.false,
      c.loop-kind.auto.kind-index-end,
    )) ends)
