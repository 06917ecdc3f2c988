-- What a node has gathered with one more port.
use Rattle.std.proofs.Common.{◌≡◌, ◌∙◌, ℕ, ◌+◌, ◌==◌, nat_le, Bool, true, false, ◌&&◌, if◌then◌else◌, List, [], ◌∷◌, ◌++◌, map, length, Option, Some, None, slice_get, option_map, refl, sym, ap}
use Rattle.std.specs.List.{list_all}
use Rattle.std.specs.Option.{option_and_then, option_map_or}
use Rattle.std.proofs.lemmas.List.{map-append}
use Rattle.std.proofs.lemmas.Option.{slice_get-map}
use Rattle.pls_configuration.specs.declared.row.State.{State}
use Rattle.pls_scheme.specs.Reading.{Read, ReadPort, is_pointer, reading}
use Rattle.pls_scheme.proofs.MorePorts.{all_more, at_pointer_more}
use Rattle.pls_pointer.specs.declared.tree.TreeLabel.{TreeLabel}
use Rattle.pls_scheme.specs.Reading.{has_number}
use Rattle.pls_pointer.specs.declared.tree.TreeLabel.{TreeLabel}
use Rattle.pls_distance.specs.declared.spt.SptLabel.{SptLabel}
use Rattle.pls_distance.specs.declared.gathering.PortTally.{PortTally}
use Rattle.pls_distance.specs.Spt.{agrees_on_its_root, is_beyond_target, is_nearest, is_reached_by, tree_port}
use Rattle.pls_distance.specs.inner.Gathering.{spt_tally}

module _ (id : ℕ) (state : State) (own : SptLabel) (ports : List (ReadPort SptLabel))
    (port : ReadPort SptLabel) where
  abbrev before : Read SptLabel
  before = reading id state own ports

  abbrev after : Read SptLabel
  after = reading id state own (ports ++ port ∷ [])

  agrees_more : agrees_on_its_root after
      ≡ (agrees_on_its_root before && (port.label.root == own.root))
  agrees_more = ap (list_all (has_number (λ (label : TreeLabel). label.root) own.root)) (map-append tree_port ports (port ∷ []))
      ∙ all_more (has_number (λ (label : TreeLabel). label.root) own.root) (map tree_port ports) (tree_port port)

  nearest_more : is_nearest after
      ≡ (is_nearest before && nat_le own.dist (port.label.dist + port.weight))
  nearest_more = all_more (is_reached_by own.dist) ports port

  -- of what is read at the target
  abbrev both : Option (ReadPort SptLabel) → Bool
  both read =
      option_map_or (λ (port : ReadPort TreeLabel). own.depth == port.label.depth + 1)
      (option_map tree_port read) true
      && option_map_or (λ (port : ReadPort SptLabel).
      own.dist == port.label.dist + port.weight) read true

  follows_both : (ports : List (ReadPort SptLabel))
      → is_beyond_target (reading id state own ports)
      ≡ both (option_and_then (slice_get ports) state.up)
  follows_both ports =
      ap (λ (read : Option (ReadPort TreeLabel)).
      option_map_or (λ (port : ReadPort TreeLabel). own.depth == port.label.depth + 1) read true
      && option_map_or (λ (port : ReadPort SptLabel). own.dist == port.label.dist + port.weight)
      (option_and_then (slice_get ports) state.up) true)
      (read_tree state.up)
    where
      read_tree : (up : Option ℕ) → option_and_then (slice_get (map tree_port ports)) up
          ≡ option_map tree_port (option_and_then (slice_get ports) up)
      read_tree None = refl
      read_tree (Some number) = slice_get-map tree_port ports number

  follows_more : is_beyond_target after
      ≡ (if is_pointer state.up (length ports) then (own.depth == port.label.depth + 1
      && own.dist == port.label.dist + port.weight) else is_beyond_target before)
  follows_more = follows_both (ports ++ port ∷ [])
      ∙ ap both (at_pointer_more ports port state.up)
      ∙ by (is_pointer state.up (length ports))
    where
      by : (here : Bool)
          → both (if here then Some port else option_and_then (slice_get ports) state.up)
          ≡ (if here then (own.depth == port.label.depth + 1
          && own.dist == port.label.dist + port.weight) else is_beyond_target before)
      by true = refl
      by false = sym (follows_both ports)

  -- what is gathered with one more port
  pub is_gathered : (before_it after_it : PortTally) → before_it ≡ spt_tally before
      → after_it.own ≡ before_it.own
      → after_it.agrees ≡ (before_it.agrees && (port.label.root == before_it.own.root))
      → after_it.follows ≡ (if is_pointer state.up (length ports)
      then (before_it.own.depth == port.label.depth + 1
      && before_it.own.dist == port.label.dist + port.weight) else before_it.follows)
      → after_it.nearest
      ≡ (before_it.nearest && nat_le before_it.own.dist (port.label.dist + port.weight))
      → after_it ≡ spt_tally after
  is_gathered before_it after_it is own_is agrees_is follows_is nearest_is =
      four after_it (spt_tally after)
      (own_is ∙ ap (λ (it : PortTally). it.own) is)
      (agrees_is ∙ ap (λ (it : PortTally). it.agrees && (port.label.root == it.own.root)) is
      ∙ sym agrees_more)
      (follows_is ∙ ap (λ (it : PortTally). if is_pointer state.up (length ports)
      then (it.own.depth == port.label.depth + 1
      && it.own.dist == port.label.dist + port.weight) else it.follows) is ∙ sym follows_more)
      (nearest_is ∙ ap (λ (it : PortTally).
      it.nearest && nat_le it.own.dist (port.label.dist + port.weight)) is ∙ sym nearest_more)
    where
      four : (one other : PortTally) → one.own ≡ other.own → one.agrees ≡ other.agrees
          → one.follows ≡ other.follows → one.nearest ≡ other.nearest → one ≡ other
      four one other own agrees follows nearest =
          ap (λ (own : SptLabel). record {
            own = own;
            agrees = one.agrees;
            follows = one.follows;
            nearest = one.nearest;
          }) own
          ∙ ap (λ (agrees : Bool). record {
            own = other.own;
            agrees = agrees;
            follows = one.follows;
            nearest = one.nearest;
          }) agrees
          ∙ ap (λ (follows : Bool). record {
            own = other.own;
            agrees = other.agrees;
            follows = follows;
            nearest = one.nearest;
          }) follows
          ∙ ap (λ (nearest : Bool). record {
            own = other.own;
            agrees = other.agrees;
            follows = other.follows;
            nearest = nearest;
          }) nearest
