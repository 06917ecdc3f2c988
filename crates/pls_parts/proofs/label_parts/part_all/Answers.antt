use Rattle.std.proofs.Common.{◌∙◌, refl}
use Rattle.pls_facts.proofs.Lists.{map-take_more}
use Rattle.pls_parts.specs.Parts.{first_part, has_parts, second_part}
use Rattle.pls_parts.proofs.label_parts.part_all.Goals as goal

pub loop-i-preserved : goal.loop-i-preserved
loop-i-preserved g c =
    let takes = g.C.NumCode.takes in record {
      fronts = c.in_ok-push-2.ensures.pushed
          ∙ map-take_more (first_part takes) c.args.labels.now c.loop-i.i c.bits-bits.result c.loop-i.fronts
          _ c.loop-i.invariant.fronts c.bits-bits.ensures
          (c.parts_or_none-front.ensures.front ∙ rw c.parts-parts.ensures refl);
      backs = c.in_ok-push-3.ensures.pushed
          ∙ map-take_more (second_part takes) c.args.labels.now c.loop-i.i c.bits-bits.result c.loop-i.backs
          _ c.loop-i.invariant.backs c.bits-bits.ensures
          (c.parts_or_none-front.ensures.back ∙ rw c.parts-parts.ensures refl);
      whole = c.in_ok-push.ensures.items
          ∙ map-take_more (has_parts takes) c.args.labels.now c.loop-i.i c.bits-bits.result
          c.loop-i.whole.items _ c.loop-i.invariant.whole c.bits-bits.ensures
          (c.is_some.ensures ∙ rw c.parts-parts.ensures refl);
    }
