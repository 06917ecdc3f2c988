use Rattle.pls_builtin.proofs.NamedAgrees.{named_agrees}
use Rattle.pls_builtin.proofs.agrees.named_agrees.Goals as goal

pub returns : goal.returns
returns c = named_agrees c.args.name c.args.view.now c.degree.ensures.pointer
