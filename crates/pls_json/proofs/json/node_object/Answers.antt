use Rattle.std.proofs.Common.{◌≡◌, false, ap, ◌∙◌}
use Rattle.serde_json.specs.View.{view}
use Rattle.serde_json.specs.Written.{compact_text, has_float}
use Rattle.pls_json.proofs.Texts.{node-text, node_fractions}
use Rattle.pls_json.proofs.json.node_object.Goals as goal

pub returns : goal.returns
returns c =
    let seen = c.in_ok-node_value.ensures in
    let plain : has_float (view c.in_ok-node_value.field-0) ≡ false =
    rw seen (node_fractions c.args.row.now) in
    c.in_ok-text.ensures.text plain ∙ ap compact_text seen ∙ node-text c.args.row.now
