use Rattle.std.proofs.Common.{◌≡◌, ◌∙◌, ℕ, List, false, true, ap, arith, length, option_map, sym, take}
use Rattle.std.proofs.lemmas.List.{length-set}
use Rattle.pls_numbers.specs.declared.kind.FieldKind.{FieldKind}
use Rattle.pls_numbers.specs.declared.kind.FieldKind.TheVariants.{Num}
use Rattle.pls_compile.proofs.FieldNumbers.{fields_end, fields_more, fields_spare, fields_stop}
use Rattle.pls_compile.proofs.fields.read_fields.Goals as goal

pub returns-in_err-values : goal.returns-in_err-values
returns-in_err-values c =
    let kinds : List FieldKind = c.args.kinds.now in
    let before = c.loop-i.invariant in
    ap (option_map (take (length kinds))) c.from_residual.ensures
    ∙ sym (fields_stop c.args.bits.now c.loop-i.cursor kinds c.loop-i.i c.loop-i.values
    (omega (arith, before.long, c.requires)) before.all Num c.loop-i-test.true
    c.in_err-values.ensures.0)

pub loop-i-preserved : goal.loop-i-preserved
loop-i-preserved c =
    let kinds : List FieldKind = c.args.kinds.now in
    let i : ℕ = c.loop-i.i in
    let number : ℕ = c.in_ok-values.field-0 in
    let before = c.loop-i.invariant in
    record {
      long = length-set c.loop-i.values i number ∙ before.long;
      within = omega (arith, c.loop-i-test.true);
      all = fields_more c.args.bits.now c.loop-i.cursor kinds i c.loop-i.values
          (omega (arith, before.long, c.requires)) before.all c.read_field.new.cursor Num number
          c.loop-i-test.true c.in_ok-values.ensures;
    }

pub returns-then-is_empty : goal.returns-then-is_empty
returns-then-is_empty c =
    let kinds : List FieldKind = c.args.kinds.now in
    let before = c.loop-i.invariant in
    sym (fields_end c.args.bits.now c.loop-i.cursor kinds c.loop-i.i c.loop-i.values
    (omega (arith, before.long, c.requires)) before.all
    (omega (arith, before.within, c.loop-i-test.false))
    (sym c.rest.ensures ∙ c.is_empty.ensures.0 c.if-is_empty.true))

pub returns-else-is_empty : goal.returns-else-is_empty
returns-else-is_empty c =
    let kinds : List FieldKind = c.args.kinds.now in
    let before = c.loop-i.invariant in
    sym (fields_spare c.args.bits.now c.loop-i.cursor kinds c.loop-i.i c.loop-i.values
    (omega (arith, before.long, c.requires)) before.all
    (omega (arith, before.within, c.loop-i-test.false))
    (λ none. let no : false ≡ true =
    sym c.if-is_empty.false ∙ c.is_empty.ensures.1 (c.rest.ensures ∙ none) in absurd (cc)))
