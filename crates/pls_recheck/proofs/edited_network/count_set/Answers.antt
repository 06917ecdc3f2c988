use Rattle.std.proofs.Common.{◌≡◌, ◌∙◌, Bool, count_by, rules, sym}
use Rattle.pls_recheck.proofs.Cleared.{count_by-set}
use Rattle.pls_recheck.proofs.edited_network.count_set.Goals as goal

pub returns : goal.returns
returns c =
    let counted : c.count.result ≡ count_by (λ (flag : Bool). flag) c.args.flags.now = search rules in
    counted ∙ sym (count_by-set c.args.flags.now)
