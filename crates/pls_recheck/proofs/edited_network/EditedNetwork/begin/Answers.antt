use Rattle.std.proofs.Common.{◌∙◌, ℕ, Bool, List, true, length, replicate, ap, arith, subst, sym}
use Rattle.std.proofs.lemmas.List.{length-replicate}
use Rattle.pls_configuration.specs.Configuration.{ids_of}
use Rattle.pls_recheck.specs.inner.Flags.{AreAround}
use Rattle.pls_recheck.proofs.Marked.{among_itself, id_at_view, marked_all_rows}
use Rattle.pls_recheck.proofs.Noted.{nothing_noted}
use Rattle.pls_recheck.proofs.edited_network.EditedNetwork.begin.Goals as goal

pub invariant_of-result : goal.invariant_of-result
invariant_of-result c =
    let n = c.len-nodes.result in
    let is = c.len-nodes.ensures.len in
    record {
      a_label = c.requires;
      a_flag = ap length c.in_ok-flags.ensures ∙ length-replicate n true ∙ is;
      a_verdict = omega (arith, c.in_ok-kept.kept.ok, c.in_ok-kept.ensures.len, is);
      noted = subst (λ (around : List Bool). AreAround c.args.net c.in_ok-flags.flags.items around)
          (sym c.in_ok-around.ensures) (nothing_noted c.args.net c.in_ok-flags.flags.items n is);
    }

pub returns-clause-all : goal.returns-clause-all
returns-clause-all c = marked_all_rows c.args.net c.in_ok-flags.flags.items
    (c.in_ok-flags.ensures ∙ ap (λ (n : ℕ). replicate n true) c.len-nodes.ensures.len)

pub returns-clause-current : goal.returns-clause-current
returns-clause-current c = λ judge place view at untouched.
    let all = marked_all_rows c.args.net c.in_ok-flags.flags.items
    (c.in_ok-flags.ensures ∙ ap (λ (n : ℕ). replicate n true) c.len-nodes.ensures.len) in
    let is = among_itself (ids_of c.args.net) place view.id
    (id_at_view c.args.net c.args.labels place view at) in
    absurd (cc (is, rw all at untouched))
