-- Ports of a view and of its parts.
use Rattle.std.proofs.Common.{◌≡◌, ◌<◌, ℕ, Bool, List, [], ◌∷◌, map, All, refl, sym, subst}
use Rattle.std.proofs.lemmas.List.{get_or-map, length-map}
use Rattle.pls_labels.specs.Seen.{SeenPort, narrow_port, shown}
use Rattle.pls_labels.specs.declared.view.PortView.{PortView}

-- what the ports show
abbrev pub shown_ports : List PortView → List SeenPort
shown_ports ports = map (λ (port : PortView). shown port.weight port.label) ports

-- ports that show parts show the parts of what they show
pub parts_shown : (narrowed : List Bool → List Bool) (ports : List PortView)
    → map (λ (port : PortView). shown port.weight (narrowed port.label)) ports
    ≡ map (narrow_port narrowed) (shown_ports ports)
parts_shown narrowed [] = refl
parts_shown narrowed (port ∷ ports) = rw (parts_shown narrowed ports) refl

-- what holds of each label that is shown holds of each port's
pub fits_shown : (fits : List Bool → Type 0) (ports : List PortView)
    → All (λ (port : SeenPort). fits port.label) (shown_ports ports)
    → All (λ (port : PortView). fits port.label) ports
fits_shown fits ports all k d within =
    let show : PortView → SeenPort = λ port. shown port.weight port.label in
    subst (λ (port : SeenPort). fits port.label) (get_or-map show ports k d (show d) within)
    (all k (show d) (subst (λ (n : ℕ). k < n) (sym (length-map ports show)) within))
