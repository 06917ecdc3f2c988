use Rattle.std.proofs.Common.{◌≡◌, ◌∙◌, ap, map, All, sym, subst, refl}
use Rattle.pls_labels.specs.Seen.{SeenPort, narrow_port}
use Rattle.pls_labels.specs.declared.view.PortView.{PortView}
use Rattle.pls_labels.proofs.Parts.{fits_shown, parts_shown, shown_ports}
use Rattle.pls_labels.proofs.view.View.part.Goals as goal

pub narrowed_ports-requires : goal.narrowed_ports-requires
narrowed_ports-requires g c =
    let seen : shown_ports c.self.inside.ports.items ≡ c.args.self.now.ports =
    ap (λ view. view.ports) c.self.view_is in
    subst (All (λ (port : PortView). g.N.Narrow.fits port.label)) (sym c.deref.ensures)
    (fits_shown g.N.Narrow.fits c.self.inside.ports.items
    (subst (All (λ (port : SeenPort). g.N.Narrow.fits port.label)) (sym seen) c.requires.ports))

pub returns-clause-part : goal.returns-clause-part
returns-clause-part g c =
    let shows : shown_ports c.in_ok-ports.ports.items
    ≡ map (narrow_port g.N.Narrow.narrowed) (shown_ports c.self.inside.ports.items) =
    rw (← c.deref.ensures)
    (c.in_ok-ports.ensures.shows ∙ parts_shown g.N.Narrow.narrowed c.deref.result.now) in
    let own : c.narrow.result ≡ g.N.Narrow.narrowed c.self.inside.own =
    c.narrow.ensures ∙ ap g.N.Narrow.narrowed c.again.ensures in
    rw (own, shows, ← c.self.view_is) refl
