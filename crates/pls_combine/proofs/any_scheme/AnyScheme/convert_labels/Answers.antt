use Rattle.std.proofs.Common.{◌≡◌, ◌∙◌, ◌+◌, ◌<◌, ℕ, Bool, List, [], Option, Some, ap, arith, get_or, length, slice_get, sym, take}
use Rattle.std.proofs.lemmas.List.{length-set}
use Rattle.std.proofs.lemmas.Option.{slice_get-get_or}
use Rattle.pls_combine.specs.Converted.{converted}
use Rattle.pls_combine.proofs.ConvertedLabels.{one_made_more, one_read_more, unread_here}
use Rattle.pls_combine.proofs.any_scheme.AnyScheme.convert_labels.Goals as goal

pub returns-in-None-clause-place : goal.returns-in-None-clause-place
returns-in-None-clause-place g c =
    let to : List Bool → Option (List Bool) =
    converted g.C.NumCode.takes g.D.NumCode.code c.args.self.now in
    let labels : List (List Bool) = c.args.labels.now in
    let place : ℕ = c.loop-place.place in
    let within : place < length labels =
    omega (arith, c.loop-place-test.true, c.len-place-end.ensures) in
    let bits : List Bool = get_or labels place [] in
    let at : slice_get labels place ≡ Some bits = slice_get-get_or labels place [] within in
    unread_here to labels place bits within at c.loop-place.invariant.read
    (sym (c.in_ok-label.ensures bits at) ∙ c.in-None.is)

pub loop-place-preserved : goal.loop-place-preserved
loop-place-preserved g c =
    let to : List Bool → Option (List Bool) =
    converted g.C.NumCode.takes g.D.NumCode.code c.args.self.now in
    let labels : List (List Bool) = c.args.labels.now in
    let place : ℕ = c.loop-place.place in
    let within : place < length labels =
    omega (arith, c.loop-place-test.true, c.len-place-end.ensures) in
    let bits : List Bool = get_or labels place [] in
    let at : slice_get labels place ≡ Some bits = slice_get-get_or labels place [] within in
    let is = sym (c.in_ok-label.ensures bits at) ∙ c.in-Some.is in
    let replaced = c.in_ok-replace-in-Some.ensures.replaced in
    record {
      long = ap length replaced ∙ length-set c.loop-place.into place c.in-Some.label
          ∙ c.loop-place.invariant.long;
      read = one_read_more to labels place bits within at c.loop-place.invariant.read c.in-Some.label
          is;
      made = ap (take (place + 1)) replaced
          ∙ one_made_more to labels place bits within at c.loop-place.invariant.read c.in-Some.label
          is c.loop-place.into c.loop-place.invariant.long c.loop-place.invariant.made;
    }
