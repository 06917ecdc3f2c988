use Rattle.std.proofs.Common.{◌∙◌, ℕ, List, [], ◌∷◌, Option, length, map, ap}
use Rattle.std.proofs.lemmas.List.{map-append}
use Rattle.pls_facts.proofs.Lists.{map-take_more}
use Rattle.pls_numbers.specs.declared.kind.FieldKind.{FieldKind}
use Rattle.pls_compile.specs.FieldTable.{front_of}
use Rattle.pls_compile.specs.ReadLabels.{numbers_in}
use Rattle.pls_compile.proofs.field_table.FieldTable.of.Goals as goal

pub loop-i-preserved : goal.loop-i-preserved
loop-i-preserved g c =
    let kinds : List FieldKind = c.args.kinds.now in
    let front : Option (List ℕ) → Option (List ℕ) = front_of (length kinds) in
    ap (map front) c.in_ok-push.ensures.items
    ∙ map-append front c.loop-i.entries.items (c.read_fields.result ∷ [])
    ∙ map-take_more (numbers_in kinds) (g.L.Labels.listed c.args.labels.now) c.loop-i.i
    c.bits.result (map front c.loop-i.entries.items) (front c.read_fields.result)
    c.loop-i.invariant c.bits.ensures c.read_fields.ensures
