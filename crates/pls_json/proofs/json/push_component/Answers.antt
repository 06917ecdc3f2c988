use Rattle.std.proofs.Common.{append_assoc, refl}
use Rattle.pls_json.proofs.json.push_component.Goals as goal

pub returns : goal.returns
returns c =
    simp (
      c.in_ok-push_str-2.ensures.bytes,
      c.in_ok-write.ensures.bytes,
      c.in_ok-push_str.ensures.bytes,
      c.in_ok-push_comma.ensures,
      append_assoc,
    ) refl
