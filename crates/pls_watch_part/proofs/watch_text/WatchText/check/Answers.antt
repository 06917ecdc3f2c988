use Rattle.std.proofs.Common.{◌∙◌, length, ap, subst}
use Rattle.std.proofs.lemmas.Result.{IfErr-weaker, on_ok_weaker}
use Rattle.pls_watch_part.specs.WatchText.{HasWatch, WrittenWatch, looks_of}
use Rattle.pls_closing.proofs.Refused.{beyond_one}
use Rattle.pls_watch_part.proofs.Told.{lines_counted, looks_counted}
use Rattle.pls_watch_part.proofs.watch_text.WatchText.check.Goals as goal

pub returns-clause-few : goal.returns-clause-few
returns-clause-few c =
    let told = subst HasWatch c.self.view_is c.self.invariant in
    let events = ap (λ (written : WrittenWatch). written.events) c.self.view_is in
    let looks = ap (λ (written : WrittenWatch). written.looks) c.self.view_is in
    on_ok_weaker c.check_limits.result (λ few lines tells.
    few (length lines) (length (looks_of lines))
    (events ∙ lines_counted c.args.self.now told lines tells)
    (looks ∙ looks_counted c.args.self.now told lines tells)) c.check_limits.ensures.few

pub returns-clause-refused : goal.returns-clause-refused
returns-clause-refused c =
    let told = subst HasWatch c.self.view_is c.self.invariant in
    let events = ap (λ (written : WrittenWatch). written.events) c.self.view_is in
    let looks = ap (λ (written : WrittenWatch). written.looks) c.self.view_is in
    IfErr-weaker c.check_limits.result _ _ (λ error beyond lines tells.
    beyond_one (length lines) (length (looks_of lines)) error
    (beyond (length lines) (length (looks_of lines))
    (events ∙ lines_counted c.args.self.now told lines tells)
    (looks ∙ looks_counted c.args.self.now told lines tells))) c.check_limits.ensures.beyond
