use Rattle.std.proofs.Common.{◌∙◌, inl, inr, sym}
use Rattle.pls_graph_edits.specs.Edits.{link_refusal}
use Rattle.pls_trial.proofs.Refused.{causes_left, not_put, two_causes}
use Rattle.pls_trial.proofs.trial.put_link.Goals as goal

-- no other cause is left
pub unreachable-requires : goal.unreachable-requires
unreachable-requires c =
    let rows = c.args.net.now in
    elim (two_causes rows c.args.a c.args.b c.requires.a c.requires.b c.requires.room c.in-Err.error
    (causes_left (link_refusal rows c.args.a c.args.b) c.in-Err.error c.in-Err.ensures.refused
    c.in_default.not-NoMemory)) [
      | inl e ↦ c.in_default.not-SelfLink e
      | inr e ↦ c.in_default.not-Present e
    ]

pub returns-in-SelfLink : goal.returns-in-SelfLink
returns-in-SelfLink c =
    let rows = c.args.net.now in
    let some = causes_left (link_refusal rows c.args.a c.args.b) c.in-Err.error
    c.in-Err.ensures.refused
    (λ memory. elim c.in-SelfLink.is [ inl e ↦ absurd (cc) | inr e ↦ absurd (cc) ]) in
    c.in-Err.ensures.unchanged
    ∙ sym (not_put rows c.args.a c.args.b c.requires.a c.requires.b c.requires.room c.in-Err.error
    some c.args.weight)
