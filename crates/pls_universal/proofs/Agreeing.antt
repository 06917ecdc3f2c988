-- Labels whose map is compared with one by its bits.
use Rattle.std.proofs.Common.{◌≡◌, ◌≢◌, ◌∙◌, ◌<◌, ◌≤◌, ◌+◌, ℕ, suc, ◌&&◌, Bool, true, false, List, ◌∷◌, length, get_or, drop, Option, Some, None, option_map, refl, sym, ap, arith}
use Rattle.std.proofs.Math.Seq.{drop-cons}
use Rattle.std.proofs.lemmas.Bool.{false_from_ne_true}
use Rattle.std.proofs.lemmas.List.{drop_all}
use Rattle.pls_bits.specs.NumberCode.{TakesCodes, TakesOnly}
use Rattle.pls_labels.specs.declared.view.PortView.{PortView}
use Rattle.pls_labels.specs.Seen.{SeenPort}
use Rattle.pls_numbers.specs.Shape.{IsSpelled, said_by}
use Rattle.pls_numbers.specs.laws.FormatLaws.{one_spelling, said_spells}
use Rattle.pls_scheme.specs.Reading.{ReadPort, read_ports}
use Rattle.pls_universal.specs.declared.map.MapLabel.{MapLabel}
use Rattle.pls_universal.specs.declared.map.MapRow.{MapRow}
use Rattle.pls_universal.specs.Reading.{map_label_with, map_shape, rows_shape}
use Rattle.pls_universal.specs.Rules.{matched, same_record}
use Rattle.pls_universal.specs.laws.LabelLaws.{behind_number, label-none, label-parts}
use Rattle.pls_universal.specs.laws.MapLaws.{rows_numbers}
use Rattle.pls_universal.specs.laws.MapMet.{matched-itself, record-itself}
use Rattle.pls_universal.specs.laws.RuleLaws.{map-same}
use Rattle.pls_universal.specs.inner.Verifying.{agreement, ports_shown, same_map}

module _ (code : ℕ → List Bool) (takes : List Bool → Option (ℕ × List Bool))
    (taken : TakesCodes code takes) (only : TakesOnly code takes) (rows : List MapRow)
    (label : List Bool) where
  -- whether its map is this one is asked of a label that is read
  abbrev compared : Option MapLabel → Option Bool
  compared found = option_map (λ (label : MapLabel). matched same_record label.rows rows) found

  -- a label that begins with no number cannot be read
  pub same_map-unread : takes label ≡ None → None ≡ same_map takes rows label
  same_map-unread none = sym (ap compared (label-none code takes taken only label none))

  -- where the map behind the number is this one, the label has it
  pub same_map-equal : (own : ℕ) (map : List Bool) → takes label ≡ Some (own, map)
      → said_by rows_shape takes map ≡ Some rows → Some true ≡ same_map takes rows label
  same_map-equal own map first read =
      sym (ap compared (label-parts code takes taken only label own map first
      ∙ ap (option_map (map_label_with own)) read)
      ∙ ap Some (matched-itself same_record record-itself rows))

  -- where the bits behind the number differ, so do the maps
  pub same_map-other : (own : ℕ) (map other : List Bool) → takes label ≡ Some (own, other)
      → said_by rows_shape takes map ≡ Some rows → map ≢ other
      → (found : MapLabel) → Some found ≡ said_by map_shape takes label
      → Some false ≡ same_map takes rows label
  same_map-other own map other first read apart found is =
      ap Some (sym (false_from_ne_true (matched same_record found.rows rows) (λ same.
      let one : found.rows ≡ rows = map-same found.rows rows same in
      let theirs : said_by rows_shape takes other ≡ Some rows =
      (behind_number code takes taken only label own other found first (sym is)).1
      ∙ ap Some one in
      apart (one_spelling rows_shape code rows map other (spelled map read)
      (spelled other theirs)))))
      ∙ ap compared is
    where
      spelled : (bits : List Bool) → said_by rows_shape takes bits ≡ Some rows
          → IsSpelled rows_shape code bits rows
      spelled bits is =
          (said_spells rows_shape rows_numbers code takes taken only bits rows).0 is

module _ (takes : List Bool → Option (ℕ × List Bool)) where
  -- a label that is no label cannot be read
  pub same_map-none : (rows : List MapRow) (label : List Bool)
      → None ≡ said_by map_shape takes label → None ≡ same_map takes rows label
  same_map-none rows label none = rw (sym none) refl

  -- where the first label is read, it is the first that is asked
  agreement-first : (rows : List MapRow) (port : SeenPort) (ports : List SeenPort) (same : Bool)
      → same_map takes rows port.label ≡ Some same
      → agreement takes rows (port ∷ ports)
      ≡ option_map (λ rest. same && rest) (agreement takes rows ports)
  agreement-first rows port ports same is =
      by (said_by map_shape takes port.label) refl is
      (read_ports (said_by map_shape takes) ports) refl
    where
      by : (first : Option MapLabel) → said_by map_shape takes port.label ≡ first
          → option_map (λ (label : MapLabel). matched same_record label.rows rows) first ≡ Some same
          → (others : Option (List (ReadPort MapLabel)))
          → read_ports (said_by map_shape takes) ports ≡ others
          → agreement takes rows (port ∷ ports)
          ≡ option_map (λ rest. same && rest) (agreement takes rows ports)
      by None first is others read = absurd (cc)
      by (Some label) first is None read = rw (first, read) refl
      by (Some label) first is (Some others) read =
          let this : matched same_record label.rows rows ≡ same = cc in
          rw (first, read, sym this) refl

  -- where it cannot be read, nothing is said
  agreement-unread : (rows : List MapRow) (port : SeenPort) (ports : List SeenPort)
      → same_map takes rows port.label ≡ None → agreement takes rows (port ∷ ports) ≡ None
  agreement-unread rows port ports is = by (said_by map_shape takes port.label) refl is
    where
      by : (first : Option MapLabel) → said_by map_shape takes port.label ≡ first
          → option_map (λ (label : MapLabel). matched same_record label.rows rows) first ≡ None
          → agreement takes rows (port ∷ ports) ≡ None
      by None first is = rw first refl
      by (Some label) first is = absurd (cc)

  -- the port at a place is the first of those from there on
  pub from_place : (ports : List PortView) (i : ℕ) (port : PortView) → i < length ports
      → port ≡ get_or ports i port → drop i ports ≡ port ∷ drop (i + 1) ports
  from_place ports i port within is =
      let one : suc i ≡ i + 1 = omega arith in
      drop-cons ports i port within
      ∙ ap (λ (first : PortView). first ∷ drop (suc i) ports) (sym is)
      ∙ ap (λ (i : ℕ). port ∷ drop i ports) one

  and-group : (a b : Bool) (rest : Option Bool)
      → option_map (λ c. a && c) (option_map (λ c. b && c) rest)
      ≡ option_map (λ c. (a && b) && c) rest
  and-group a b None = refl
  and-group true b (Some c) = refl
  and-group false b (Some c) = refl

  -- one more label is compared
  pub agreement-next : (rows : List MapRow) (ports : List PortView) (i : ℕ) (port : PortView)
      (agrees same : Bool) → i < length ports → port ≡ get_or ports i port
      → Some same ≡ same_map takes rows port.label
      → option_map (λ rest. agrees && rest) (agreement takes rows (ports_shown (drop i ports)))
      ≡ option_map (λ rest. (agrees && same) && rest)
      (agreement takes rows (ports_shown (drop (i + 1) ports)))
  agreement-next rows ports i port agrees same within at is =
      rw (
        from_place ports i port within at,
        agreement-first rows
            (record { weight = port.weight; label = port.label }) (ports_shown (drop (i + 1) ports)) same (sym is),
      )
      (and-group agrees same (agreement takes rows (ports_shown (drop (i + 1) ports))))

  -- one that cannot be read
  pub agreement-stopped : (rows : List MapRow) (ports : List PortView) (i : ℕ) (port : PortView)
      (agrees : Bool) → i < length ports → port ≡ get_or ports i port
      → None ≡ same_map takes rows port.label
      → option_map (λ rest. agrees && rest) (agreement takes rows (ports_shown (drop i ports)))
      ≡ None
  agreement-stopped rows ports i port agrees within at is =
      rw (
        from_place ports i port within at,
        agreement-unread rows
            (record { weight = port.weight; label = port.label }) (ports_shown (drop (i + 1) ports)) (sym is),
      ) refl

  -- all are compared
  pub agreement-all : (rows : List MapRow) (ports : List PortView) (i : ℕ) (agrees : Bool)
      → length ports ≤ i
      → option_map (λ rest. agrees && rest) (agreement takes rows (ports_shown (drop i ports)))
      ≡ Some agrees
  agreement-all rows ports i agrees past = rw (drop_all i ports past) (by agrees)
    where
      by : (agrees : Bool) → Some (agrees && true) ≡ Some agrees
      by true = refl
      by false = refl
