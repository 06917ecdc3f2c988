use Rattle.std.proofs.Common.{refl}
use Rattle.pls_json.specs.Json.{component_text}
use Rattle.pls_json.proofs.Texts.{one_more}
use Rattle.pls_json.proofs.json.push_each_component.Goals as goal

pub loop-i-preserved : goal.loop-i-preserved
loop-i-preserved c =
    one_more component_text c.args.parts.now c.loop-i.i _ _ _ _ _ c.loop-i-test.true refl
    c.loop-i.invariant c.in_ok-push_component.ensures
