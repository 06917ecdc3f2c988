use Rattle.std.proofs.Common.{subst, ◌≡◌, ◌∙◌, ◌++◌, List, Bool, Some, length, sym, ap, arith}
use Rattle.std.specs.Prelude.{slice_get}
use Rattle.std.proofs.lemmas.List.{length-set}
use Rattle.std.proofs.lemmas.Option.{same_Some, slice_get-get_or, slice_get_within}
use Rattle.pls_numbers.specs.Shape.{IsSpelled, IsWritable, spelling}
use Rattle.pls_scheme.proofs.Storing.{right_more}
use Rattle.pls_scheme.proofs.labels.labels_of.Goals as goal

pub loop-i-preserved : goal.loop-i-preserved
loop-i-preserved g c =
    let said = c.args.said.now in
    let i = c.loop-i.i in
    let own = c.index-said-i.result in
    let before = c.loop-i.invariant in
    let shape = g.F.Format.shape c.args.format.now in
    let code = g.C.NumCode.code in
    let can : IsWritable shape own = subst (IsWritable shape) (sym c.index-said-i.is)
    (c.requires i own c.loop-i-test.true) in
    let there : slice_get said i ≡ Some own =
    slice_get-get_or said i own c.loop-i-test.true ∙ ap Some (sym c.index-said-i.is) in
    let replaced = c.in_ok-replace.ensures.replaced in record {
      each = ap length replaced ∙ length-set c.loop-i.labels i _ ∙ before.each;
      spelled = λ place label bits below lab stored.
          right_more (λ label bits. IsSpelled shape code bits label) said c.loop-i.labels i _
          before.each c.loop-i-test.true
          (λ label at. subst (IsSpelled shape code _) (same_Some own label (sym there ∙ at))
          (record {
            codes = record {
              coded = can.coded;
              written = c.in_ok-append.ensures
                  ∙ ap (λ (bits : List Bool). bits ++ spelling shape code own) c.clear.ensures;
            };
            proper = can.proper;
          }))
          before.spelled place label bits below lab (rw replaced at stored);
    }

pub returns : goal.returns
returns g c = record {
  each = c.loop-i.invariant.each;
  spelled = λ place label bits lab stored.
      c.loop-i.invariant.spelled place label bits
      (omega (arith, c.loop-i-test.false, slice_get_within c.args.said.now place label lab)) lab
      stored;
}
