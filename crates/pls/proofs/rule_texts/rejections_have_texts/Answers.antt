use Rattle.pls.proofs.RejectedRules.{named-rule}
use Rattle.pls.proofs.rule_texts.rejections_have_texts.Goals as goal

pub returns : goal.returns
returns g c = named-rule g.C.NumCode.takes c.args.scheme.now.name c.args.view.now
