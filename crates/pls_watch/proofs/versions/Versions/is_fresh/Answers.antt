use Rattle.std.proofs.Common.{◌∙◌, ◌==◌, ℕ, true, Option, option_map, sym, ap}
use Rattle.std.specs.Option.{option_map_or}
use Rattle.pls_watch.specs.declared.label_version.LabelVersion.{LabelVersion}
use Rattle.pls_watch.specs.Versions.{newest}
use Rattle.pls_watch.proofs.versions.Versions.is_fresh.Goals as goal

pub returns-in-Some : goal.returns-in-Some
returns-in-Some c = λ row at stands has.
    ap (λ (n : ℕ). c.in-Some.held.version == n) (c.newest_beside-newest.ensures row at stands has)
    ∙ ap (λ (o : Option ℕ). option_map_or (λ version. version == newest c.args.self.now.turns
    at.nbr) o true)
    (ap (option_map (λ (label : LabelVersion). label.version)) (sym c.in-Some.is)
    ∙ c.held_version.ensures.version row at stands has)

pub returns-in-None : goal.returns-in-None
returns-in-None c = λ row at stands has.
    ap (λ (o : Option ℕ). option_map_or (λ version. version == newest c.args.self.now.turns at.nbr)
    o true)
    (ap (option_map (λ (label : LabelVersion). label.version)) (sym c.in-None.is)
    ∙ c.held_version.ensures.version row at stands has)
