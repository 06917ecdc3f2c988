use Rattle.std.proofs.Common.{append_assoc, refl}
use Rattle.pls_report.proofs.Texts.{several_all}
use Rattle.pls_json.proofs.json.push_components.Goals as goal

pub returns : goal.returns
returns c =
    rw (several_all c.args.parts.now _ c.if-parts-lt2.false)
    (simp (
      c.in_ok-push_str-2.ensures.bytes,
      c.in_ok-push_each_component.ensures,
      c.in_ok-push_str.ensures.bytes,
      append_assoc,
    ) refl)
