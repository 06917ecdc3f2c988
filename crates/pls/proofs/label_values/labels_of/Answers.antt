use Rattle.std.proofs.Common.{subst, ◌≡◌, ◌∙◌, Some, length, sym, ap, arith}
use Rattle.std.specs.Prelude.{slice_get}
use Rattle.std.proofs.lemmas.List.{length-set}
use Rattle.std.proofs.lemmas.Option.{same_Some, slice_get-get_or, slice_get_within}
use Rattle.pls_scheme.proofs.Storing.{right_more}
use Rattle.pls.proofs.label_values.labels_of.Goals as goal

pub write_label-requires : goal.write_label-requires
write_label-requires g c =
    subst (g.S.Scheme.writable c.args.scheme.now) (sym c.index-values-i.is)
    (c.requires c.loop-i.i c.index-values-i.result c.loop-i-test.true)

pub loop-i-preserved : goal.loop-i-preserved
loop-i-preserved g c =
    let values = c.args.values.now in
    let i = c.loop-i.i in
    let own = c.index-values-i.result in
    let before = c.loop-i.invariant in
    let layout = g.S.Scheme.layout c.args.scheme.now in
    let there : slice_get values i ≡ Some own =
    slice_get-get_or values i own c.loop-i-test.true ∙ ap Some (sym c.index-values-i.is) in
    let replaced = c.in_ok-replace.ensures.replaced in record {
      each = ap length replaced ∙ length-set c.loop-i.labels i _ ∙ before.each;
      spelled = λ place value bits below at stored.
          right_more (λ value bits. layout bits value) values c.loop-i.labels i _
          before.each c.loop-i-test.true
          (λ value at. subst (layout _) (same_Some own value (sym there ∙ at)) c.in_ok-bits.ensures)
          before.spelled place value bits below at (rw replaced at stored);
    }

pub returns : goal.returns
returns g c = record {
  each = c.loop-i.invariant.each;
  spelled = λ place value bits at stored.
      c.loop-i.invariant.spelled place value bits
      (omega (arith, c.loop-i-test.false, slice_get_within c.args.values.now place value at)) at
      stored;
}
