use Rattle.std.proofs.Common.{◌≡◌, ◌++◌, map, take}
use Rattle.std.specs.Prelude.{string_bytes}
use Rattle.pls_json.specs.Json.{component_text, with_commas}
use Rattle.pls_json.proofs.json.push_each_component.Given as goal

abbrev pub invariant-loop-i : goal.invariant-loop-i
invariant-loop-i l = string_bytes l.text
    ≡ string_bytes l.initial.text ++ with_commas (map component_text (take l.i l.parts))
