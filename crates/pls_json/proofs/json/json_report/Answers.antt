use Rattle.std.proofs.Common.{map}
use Rattle.pls_json.specs.Json.{node_text, components_text, with_commas}
use Rattle.pls_json.proofs.Texts.{in_order}
use Rattle.pls_json.proofs.json.json_report.Goals as goal

pub returns : goal.returns
returns c =
    let counts = rw (c.rejecting.ensures, c.waiting.ensures) at c.in_ok-push_counts.ensures in
    in_order (components_text c.args.parts.now) (with_commas (map node_text c.args.rows.now)) _
    (rw c.new-text.ensures.bytes at c.in_ok-push_str.ensures.bytes) c.in_ok-push_components.ensures
    c.in_ok-push_str-2.ensures.bytes c.in_ok-push_nodes.ensures counts
