use Rattle.pls_inputs.proofs.Either.{input_or_not}
use Rattle.pls_inputs.proofs.laws.input_or_refusal.Goals as goal

pub returns : goal.returns
returns c =
    input_or_not c.args.parts c.args.bytes.now c.scan_parts.result c.scan_parts.ensures.scanned
    c.scan_parts.ensures.form
