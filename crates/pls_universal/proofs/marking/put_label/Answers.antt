use Rattle.std.proofs.Common.{◌≤◌, ◌∙◌, ◌++◌, ℕ, List, Bool, ap, arith}
use Rattle.pls_bits.specs.declared.num_code.TheConstants.{MAX_CODED}
use Rattle.pls_universal.proofs.marking.put_label.Goals as goal

pub returns : goal.returns
returns g c rows is =
    let code : ℕ → List Bool = g.C.NumCode.code in
    let small : c.args.id ≤ MAX_CODED = omega (arith, c.ranges.id.fits) in record {
      codes = record {
        coded = (small, is.codes.coded);
        written = c.in_ok-append.ensures.appended
            ∙ ap (λ (front : List Bool). front ++ c.args.map) c.in_ok-write.ensures.written
            ∙ ap (λ (old : List Bool). (old ++ code c.from.result) ++ c.args.map) c.clear.ensures
            ∙ ap (λ (id : ℕ). code id ++ c.args.map) c.from.ensures
            ∙ ap (λ (bits : List Bool). code c.args.id ++ bits) is.codes.written;
      };
      proper = tt;
    }
