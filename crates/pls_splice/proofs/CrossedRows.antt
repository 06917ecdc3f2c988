-- A ring in which two edges are crossed is a network.
use Rattle.std.proofs.Common.{◌≡◌, ◌≢◌, ◌∙◌, ℕ, suc, ◌<◌, ◌≤◌, ◌==◌, inl, inr, Bool, false, nat_le, List, [], ◌∷◌, map, find, length, slice_get, Some, option_map, refl, sym, ap, subst}
use Rattle.std.proofs.lemmas.Bool.{cases_eq}
use Rattle.std.proofs.lemmas.List.{length-map}
use Rattle.std.proofs.lemmas.Option.{same_Some, slice_get-map}
use Rattle.std.specs.List.{list_any}
use Rattle.std.specs.Option.{option_map_or}
use Rattle.pls_configuration.specs.declared.limits.TheConstants.{MAX_NUM}
use Rattle.pls_configuration.specs.declared.row.Port.{Port}
use Rattle.pls_configuration.specs.declared.row.NodeRow.{NodeRow}
use Rattle.pls_configuration.specs.Configuration.{IsNetwork, has_repeat, port_to, row_of}
use Rattle.pls_graph.proofs.Finds.{from_option_map}
use Rattle.pls_graph.proofs.Placed.{WayBack, port_of_place, row_of_place, row_place}
use Rattle.pls_graph.proofs.Sound.{IsSound, sound, sound_valid}
use Rattle.pls_graph_edits.proofs.Changing.{All_here, AreSound-changed, IsFit, limits_changed, ports_in_changed, row_of_changed}
use Rattle.pls_components.proofs.Apart.{beside_turned}
use Rattle.pls_splice.specs.Crossing.{IsPair, cross_port, cross_row, crossed_rows, ends_of, ring_edge_weight}
use Rattle.pls_splice.specs.declared.crossing.Ends.{Ends}
use Rattle.pls_splice.specs.Ring.{IsRingOrder, head_of, tail_of}
use Rattle.pls_splice.proofs.EdgeEnds.{Linked, behind_within, ends_apart, first_second, first_within, linked, no_edge, place_within, second_first}
use Rattle.pls_splice.proofs.Swapping.{AreApart, IsHead, IsTail, any-renamed, at_head, at_tail, exchanged-first, exchanged-second, find-renamed, named-swapped, no_head_is_tail, own_stays, renamed, repeat-renamed, stays, swapped, swapped-twice, who}

map_same_at : {X Y : Type 0} (f g : X → Y) (xs : List X)
    → ((i : ℕ) (x : X) → slice_get xs i ≡ Some x → f x ≡ g x) → map f xs ≡ map g xs
map_same_at f g [] same = refl
map_same_at f g (x ∷ xs) same =
    rw (same 0 x refl, map_same_at f g xs (λ i y at. same (suc i) y at)) refl

module _ (rows : List NodeRow) (net : IsNetwork rows) (labels : List (List Bool)) (order : List ℕ)
    (of : IsRingOrder rows order) (i j : ℕ) (pair : IsPair rows labels order i j) where
  abbrev pub ends : Ends
  ends = ends_of rows order i j

  abbrev pub f : NodeRow → NodeRow
  f = cross_row ends

  apart : AreApart ends
  apart = ends_apart rows net labels order of i j pair

  abbrev s : ℕ → ℕ → ℕ
  s = swapped ends

  twice : (own x : ℕ) → s own (s own x) ≡ x
  twice = swapped-twice ends apart

  abbrev t1 : ℕ
  t1 = tail_of order i

  abbrev h1 : ℕ
  h1 = head_of order i

  abbrev t2 : ℕ
  t2 = tail_of order j

  abbrev h2 : ℕ
  h2 = head_of order j

  t1_in : t1 < length rows
  t1_in = place_within rows net labels order of i j pair i (first_within rows net labels order of i j pair)

  h1_in : h1 < length rows
  h1_in = place_within rows net labels order of i j pair _
      (behind_within rows net labels order of i j pair i (first_within rows net labels order of i j pair))

  t2_in : t2 < length rows
  t2_in = place_within rows net labels order of i j pair j pair.within

  h2_in : h2 < length rows
  h2_in = place_within rows net labels order of i j pair _
      (behind_within rows net labels order of i j pair j pair.within)

  -- no port of a tail names the other edge's head, and none of a head the other edge's tail
  record NoOther (own x : ℕ) : Type 0 where
    pub at_tail : own ≡ ends.tail → x ≢ ends.other_head
    pub at_other_tail : own ≡ ends.other_tail → x ≢ ends.head
    pub at_head : own ≡ ends.head → x ≢ ends.other_tail
    pub at_other_head : own ≡ ends.other_head → x ≢ ends.tail

  no_other : (k m : ℕ) (row : NodeRow) (port : Port) → slice_get rows k ≡ Some row
      → slice_get row.ports m ≡ Some port → NoOther row.id port.nbr
  no_other k m row port at has = record {
    at_tail = no_edge rows net t1 h2 t1_in h2_in (first_second rows net labels order of i j pair)
        k m row port at has;
    at_other_tail = no_edge rows net t2 h1 t2_in h1_in (second_first rows net labels order of i j pair)
        k m row port at has;
    at_head = no_edge rows net h1 t2 h1_in t2_in
        (λ in'. second_first rows net labels order of i j pair (beside_turned rows net h1 t2 h1_in in'))
        k m row port at has;
    at_other_head = no_edge rows net h2 t1 h2_in t1_in
        (λ in'. first_second rows net labels order of i j pair (beside_turned rows net h2 t1 h2_in in'))
        k m row port at has;
  }

  -- the ports of a row after crossing
  pub ports_now : (k : ℕ) (row : NodeRow) → slice_get rows k ≡ Some row
      → (f row).ports ≡ map (renamed (s row.id)) row.ports
  ports_now k row at = map_same_at (cross_port ends row.id) (renamed (s row.id)) row.ports
      (λ m port has. let none : NoOther row.id port.nbr = no_other k m row port at has in
      ap (λ (nbr : ℕ). record port { nbr = nbr })
      (named-swapped ends apart row.id port.nbr none.at_tail none.at_other_tail none.at_head
      none.at_other_head))

  keeps : (row : NodeRow) → (f row).id ≡ row.id
  keeps row = refl

  fit : (k : ℕ) (row : NodeRow) → slice_get rows k ≡ Some row → IsFit (f row)
  fit k row at =
      let was : IsSound rows row = (sound rows net).each k row at in
      let now : (f row).ports ≡ map (renamed (s row.id)) row.ports = ports_now k row at in
      record {
        apart = ap (λ (ports : List Port). has_repeat (map (λ port. port.nbr) ports)) now
            ∙ repeat-renamed (s row.id) (twice row.id) row.ports ∙ was.apart;
        another = ap (list_any (λ (port : Port). row.id == port.nbr)) now
            ∙ any-renamed (s row.id) (twice row.id) row.id row.ports
            ∙ ap (λ (id : ℕ). list_any (λ (port : Port). id == port.nbr) row.ports)
            (own_stays ends apart row.id) ∙ was.another;
        within = ap (λ (n : ℕ). option_map_or (λ up. nat_le n up) row.state.up false)
            (length-map row.ports (cross_port ends row.id)) ∙ was.within;
      }

  -- the row that a port names now, and its port back, before crossing
  record Partner (own y weight : ℕ) : Type 0 where
    pub other : NodeRow
    pub back : Port
    pub named : row_of rows y ≡ Some other
    pub returns : port_to other (s y own) ≡ Some back
    pub weighs : back.weight ≡ weight

  way_of : (row : NodeRow) (port : Port) → Partner row.id (s row.id port.nbr) port.weight
      → WayBack (map f rows) (f row) (renamed (s row.id) port)
  way_of row port p =
      let there : (k : ℕ) × (slice_get rows k ≡ Some p.other) × (s row.id port.nbr ≡ p.other.id) =
      row_place rows net (s row.id port.nbr) p.other p.named in
      record {
        other = f p.other;
        back = renamed (s p.other.id) p.back;
        named = row_of_changed f keeps rows (s row.id port.nbr) ∙ ap (option_map f) p.named;
        returns = ap (find (λ (port : Port). row.id == port.nbr)) (ports_now there.0 p.other there.1)
            ∙ find-renamed (s p.other.id) (twice p.other.id) row.id p.other.ports
            ∙ ap (option_map (renamed (s p.other.id)))
            (ap (λ (y : ℕ). port_to p.other (s y row.id)) (sym there.2) ∙ p.returns);
        weight = sym p.weighs;
      }

  special : (a b c d w : ℕ) → Linked rows a b w → Linked rows d c w → s a b ≡ d → s d a ≡ c
      → (k m : ℕ) (row : NodeRow) (port : Port) → slice_get rows k ≡ Some row
      → slice_get row.ports m ≡ Some port → row.id ≡ a → port.nbr ≡ b
      → Partner row.id (s row.id port.nbr) port.weight
  special a b c d w one two forth back k m row port at has is names =
      let own : one.row ≡ row =
      same_Some one.row row (sym one.found ∙ ap (row_of rows) (sym is) ∙ row_of_place rows net k row at)
      in
      let same : one.port ≡ port =
      same_Some one.port port (sym one.names ∙ ap (λ (row : NodeRow). port_to row b) own
      ∙ ap (port_to row) (sym names) ∙ port_of_place rows net k row at m port has) in
      let now : s row.id port.nbr ≡ d =
      ap (λ (own : ℕ). s own port.nbr) is ∙ ap (s a) names ∙ forth in
      record {
        other = two.row;
        back = two.port;
        named = ap (row_of rows) now ∙ two.found;
        returns = ap (λ (y : ℕ). port_to two.row (s y row.id)) now
            ∙ ap (λ (own : ℕ). port_to two.row (s d own)) is
            ∙ ap (port_to two.row) back ∙ two.names;
        weighs = two.weighs ∙ sym one.weighs ∙ ap (λ (port : Port). port.weight) same;
      }

  plain : (row : NodeRow) (port : Port) → WayBack rows row port
      → (IsTail ends row.id → ¬ IsHead ends port.nbr) → (IsHead ends row.id → ¬ IsTail ends port.nbr)
      → Partner row.id (s row.id port.nbr) port.weight
  plain row port way a b =
      let now : s row.id port.nbr ≡ port.nbr = stays ends apart row.id port.nbr a b in
      let back : s port.nbr row.id ≡ row.id =
      stays ends apart port.nbr row.id (λ tail head. b head tail) (λ head tail. a tail head) in
      record {
        other = way.other;
        back = way.back;
        named = ap (row_of rows) now ∙ way.named;
        returns = ap (λ (y : ℕ). port_to way.other (s y row.id)) now
            ∙ ap (port_to way.other) back ∙ way.returns;
        weighs = sym way.weight;
      }

  abbrev w : ℕ
  w = ring_edge_weight rows order i

  first_edge : Linked rows ends.tail ends.head w × Linked rows ends.head ends.tail w
  first_edge = linked rows net t1 h1 t1_in h1_in
      (of.round.edges i (first_within rows net labels order of i j pair))

  second_edge : Linked rows ends.other_tail ends.other_head w
      × Linked rows ends.other_head ends.other_tail w
  second_edge = subst (λ (w : ℕ). Linked rows ends.other_tail ends.other_head w
      × Linked rows ends.other_head ends.other_tail w) (sym pair.alike.weights)
      (linked rows net t2 h2 t2_in h2_in (of.round.edges j pair.within))

  at_t1 : s ends.tail ends.head ≡ ends.other_head
  at_t1 = at_tail ends apart ends.tail ends.head (inl refl)
      ∙ exchanged-first ends.head ends.other_head

  at_t2 : s ends.other_tail ends.other_head ≡ ends.head
  at_t2 = at_tail ends apart ends.other_tail ends.other_head (inr refl)
      ∙ exchanged-second ends.head ends.other_head apart.heads

  at_h1 : s ends.head ends.tail ≡ ends.other_tail
  at_h1 = at_head ends apart ends.head ends.tail (inl refl)
      ∙ exchanged-first ends.tail ends.other_tail

  at_h2 : s ends.other_head ends.other_tail ≡ ends.tail
  at_h2 = at_head ends apart ends.other_head ends.other_tail (inr refl)
      ∙ exchanged-second ends.tail ends.other_tail apart.tails

  at_h2_t1 : s ends.other_head ends.tail ≡ ends.other_tail
  at_h2_t1 = at_head ends apart ends.other_head ends.tail (inr refl)
      ∙ exchanged-first ends.tail ends.other_tail

  at_h1_t2 : s ends.head ends.other_tail ≡ ends.tail
  at_h1_t2 = at_head ends apart ends.head ends.other_tail (inl refl)
      ∙ exchanged-second ends.tail ends.other_tail apart.tails

  at_t2_h1 : s ends.other_tail ends.head ≡ ends.other_head
  at_t2_h1 = at_tail ends apart ends.other_tail ends.head (inr refl)
      ∙ exchanged-first ends.head ends.other_head

  at_t1_h2 : s ends.tail ends.other_head ≡ ends.head
  at_t1_h2 = at_tail ends apart ends.tail ends.other_head (inl refl)
      ∙ exchanged-second ends.head ends.other_head apart.heads

  partner : (k m : ℕ) (row : NodeRow) (port : Port) → slice_get rows k ≡ Some row
      → slice_get row.ports m ≡ Some port → Partner row.id (s row.id port.nbr) port.weight
  partner k m row port at has =
      let way : WayBack rows row port = ((sound rows net).each k row at).way m port has in
      let none : NoOther row.id port.nbr = no_other k m row port at has in
      elim (who ends apart row.id) [
        | inl tail ↦ elim tail [
          | inl e ↦ elim (cases_eq port.nbr ends.head) [
            | inl names ↦ special ends.tail ends.head ends.other_tail ends.other_head w first_edge.0
                second_edge.1 at_t1 at_h2_t1 k m row port at has e names
            | inr not_head ↦ plain row port way
                (λ _ head. elim head [ inl g ↦ not_head g | inr g ↦ none.at_tail e g ])
                (λ head _. no_head_is_tail ends apart row.id head (inl e))
          ]
          | inr e ↦ elim (cases_eq port.nbr ends.other_head) [
            | inl names ↦ special ends.other_tail ends.other_head ends.tail ends.head w second_edge.0
                first_edge.1 at_t2 at_h1_t2 k m row port at has e names
            | inr not_head ↦ plain row port way
                (λ _ head. elim head [ inl g ↦ none.at_other_tail e g | inr g ↦ not_head g ])
                (λ head _. no_head_is_tail ends apart row.id head (inr e))
          ]
        ]
        | inr rest ↦ elim rest [
          | inl head ↦ elim head [
            | inl e ↦ elim (cases_eq port.nbr ends.tail) [
              | inl names ↦ special ends.head ends.tail ends.other_head ends.other_tail w first_edge.1
                  second_edge.0 at_h1 at_t2_h1 k m row port at has e names
              | inr not_tail ↦ plain row port way
                  (λ tail _. no_head_is_tail ends apart row.id (inl e) tail)
                  (λ _ tail. elim tail [ inl g ↦ not_tail g | inr g ↦ none.at_head e g ])
            ]
            | inr e ↦ elim (cases_eq port.nbr ends.other_tail) [
              | inl names ↦ special ends.other_head ends.other_tail ends.head ends.tail w
                  second_edge.1 first_edge.0 at_h2 at_t1_h2 k m row port at has e names
              | inr not_tail ↦ plain row port way
                  (λ tail _. no_head_is_tail ends apart row.id (inr e) tail)
                  (λ _ tail. elim tail [ inl g ↦ none.at_other_head e g | inr g ↦ not_tail g ])
            ]
          ]
          | inr neither ↦ plain row port way (λ tail _. neither.0 tail) (λ head _. neither.1 head)
        ]
      ]

  ways : (k m : ℕ) (row : NodeRow) (port : Port) → slice_get rows k ≡ Some row
      → slice_get (f row).ports m ≡ Some port → WayBack (map f rows) (f row) port
  ways k m row port at has =
      let (old, there, is) : (old : Port) × (slice_get row.ports m ≡ Some old)
      × (renamed (s row.id) old ≡ port) =
      from_option_map (renamed (s row.id)) (slice_get row.ports m) port
      (sym (slice_get-map (renamed (s row.id)) row.ports m)
      ∙ ap (λ (ports : List Port). slice_get ports m) (sym (ports_now k row at)) ∙ has) in
      subst (WayBack (map f rows) (f row)) is (way_of row old (partner k m row old at there))

  pub crossed_network : IsNetwork (crossed_rows rows order i j)
  crossed_network = record {
    limits = limits_changed f rows net.limits
        (rw (ports_in_changed f rows (λ row. length-map row.ports (cross_port ends row.id)))
        net.limits.few_ports)
        (λ k row at. All_here (λ (row : NodeRow). row.state.num ≤ MAX_NUM) rows net.limits.small k row
        at);
    valid = sound_valid (map f rows) (AreSound-changed f keeps rows (sound rows net) fit ways);
  }
