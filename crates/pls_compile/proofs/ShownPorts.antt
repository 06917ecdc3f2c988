-- Ports as a view holds them.
use Rattle.std.proofs.Common.{◌≡◌, ◌∙◌, ℕ, ◌<◌, ◌^◌, List, length, get_or, map, Option, Some, option_map, refl, sym, ap, subst, [], ◌∷◌, Bool}
use Rattle.std.specs.Prelude.{All, IfSome, slice_get, option_and_then}
use Rattle.std.specs.List.{list_all}
use Rattle.std.proofs.lemmas.Option.{slice_get-get_or, slice_get-map}
use Rattle.std.proofs.lemmas.List.Folds.{list_all-map}
use Rattle.std.proofs.lemmas.List.Elements.{All-cons, All-head, All-nil, All-tail}
use Rattle.pls_labels.specs.Seen.{SeenPort}
use Rattle.pls_labels.specs.declared.view.PortView.{PortView}
use Rattle.pls_numbers.specs.declared.kind.FieldKind.{FieldKind}
use Rattle.pls_scheme.specs.Reading.{ReadPort}
use Rattle.pls_compile.specs.ReadLabels.{is_read, port_values, values_of}

-- what a port shows
abbrev pub shows : PortView → SeenPort
shows port = record { weight = port.weight; label = port.label }

-- what is read at a port
pub port_shown : (kinds : List FieldKind) (ports : List PortView) (seen : List SeenPort) (p : ℕ)
    (none : PortView) → seen ≡ map shows ports → p < length ports
    → slice_get (map (port_values kinds) seen) p
    ≡ Some (port_values kinds (shows (get_or ports p none)))
port_shown kinds ports seen p none are within =
    ap (λ (s : List SeenPort). slice_get (map (port_values kinds) s) p) are
    ∙ slice_get-map (port_values kinds) (map shows ports) p
    ∙ ap (option_map (port_values kinds))
    (slice_get-map shows ports p ∙ ap (option_map shows) (slice_get-get_or ports p none within))

pub field_shown : (kinds : List FieldKind) (ports : List PortView) (seen : List SeenPort)
    (p field : ℕ)
    (none : PortView) (P : ℕ → Type 0) → seen ≡ map shows ports → p < length ports
    → IfSome (slice_get (values_of kinds (get_or ports p none).label) field) P
    → IfSome (option_and_then (λ (port : ReadPort (List ℕ)). slice_get port.label field)
    (slice_get (map (port_values kinds) seen) p)) P
field_shown kinds ports seen p field none P are within holds =
    subst (λ (o : Option (ReadPort (List ℕ))). IfSome (option_and_then
    (λ (port : ReadPort (List ℕ)). slice_get port.label field) o) P)
    (sym (port_shown kinds ports seen p none are within)) holds

pub weight_shown : (kinds : List FieldKind) (ports : List PortView) (seen : List SeenPort) (p : ℕ)
    (none : PortView) → seen ≡ map shows ports → p < length ports
    → IfSome (slice_get (map (port_values kinds) seen) p)
    (λ port. (get_or ports p none).weight ≡ port.weight)
weight_shown kinds ports seen p none are within =
    subst (λ (o : Option (ReadPort (List ℕ))). IfSome o
    (λ port. (get_or ports p none).weight ≡ port.weight))
    (sym (port_shown kinds ports seen p none are within)) refl

-- all labels are read
pub all_shown : (kinds : List FieldKind) (ports : List PortView) (seen : List SeenPort) (b : Bool)
    → seen ≡ map shows ports → b ≡ list_all (λ (port : PortView). is_read kinds port.label) ports
    → list_all (λ (port : SeenPort). is_read kinds port.label) seen ≡ b
all_shown kinds ports seen b are is =
    ap (list_all (λ (port : SeenPort). is_read kinds port.label)) are
    ∙ list_all-map (λ (port : SeenPort). is_read kinds port.label) shows ports ∙ sym is

-- weights are small
abbrev Small : ℕ → Type 0
Small weight = weight < 2 ^ 64

weights_map : (ports : List PortView) → All (λ (port : PortView). Small port.weight) ports
    → All (λ (port : SeenPort). Small port.weight) (map shows ports)
weights_map [] small = All-nil (λ (port : SeenPort). Small port.weight)
weights_map (port ∷ ports) small =
    All-cons (λ (port : SeenPort). Small port.weight) (shows port) (map shows ports)
    (All-head (λ (port : PortView). Small port.weight) port ports small)
    (weights_map ports (All-tail (λ (port : PortView). Small port.weight) port ports small))

pub weights_small : (ports : List PortView) (seen : List SeenPort) → seen ≡ map shows ports
    → All (λ (port : PortView). port.weight < 2 ^ 64) ports
    → All (λ (port : SeenPort). port.weight < 2 ^ 64) seen
weights_small ports seen are small =
    subst (All (λ (port : SeenPort). Small port.weight)) (sym are) (weights_map ports small)
