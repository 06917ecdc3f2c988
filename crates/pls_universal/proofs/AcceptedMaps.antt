-- Where all nodes accept, the labels are those of the marker.
use Rattle.std.proofs.Common.{◌≡◌, ◌∙◌, ℕ, zero, suc, Bool, List, [], ◌∷◌, length, map, slice_get, Contains, Option, Some, refl, sym, ap, subst, arith}
use Rattle.std.proofs.lemmas.Bool.{eqb-true}
use Rattle.pls_configuration.specs.declared.row.NodeRow.{NodeRow}
use Rattle.pls_configuration.specs.Configuration.{IsNetwork}
use Rattle.pls_configuration.specs.Walk.{IsConnected}
use Rattle.pls_graph.proofs.Members.{Contains-from_place}
use Rattle.pls_graph.proofs.Placed.{place_of_row}
use Rattle.pls_labels.specs.Seen.{label_of}
use Rattle.pls_labels.proofs.Views.{label_at}
use Rattle.pls_bits.specs.NumberCode.{TakesCodes, TakesOnly}
use Rattle.pls_numbers.specs.Shape.{IsSpelled, said_by}
use Rattle.pls_numbers.specs.laws.FormatLaws.{said_spells}
use Rattle.pls_facts.proofs.Lists.{some_item}
use Rattle.pls_scheme.specs.Judging.{AllAccept}
use Rattle.pls_scheme.specs.Marked.{IsMarkedBy}
use Rattle.pls_scheme.specs.Reading.{judge_by}
use Rattle.pls_scheme.specs.Theorem.{HoldEverywhere}
use Rattle.pls_scheme.specs.laws.Saying.{accepted_one, accepted_say, say_of}
use Rattle.pls_universal.specs.declared.map.MapLabel.{MapLabel}
use Rattle.pls_universal.specs.declared.map.MapRow.{MapRow}
use Rattle.pls_universal.specs.Map.{map_of, port_stated, row_stated, up_stated}
use Rattle.pls_universal.specs.Reading.{map_shape}
use Rattle.pls_universal.specs.Rules.{map_rules, map_says, node_of, nodes_of, port_of, up_of}
use Rattle.pls_universal.specs.laws.MapLaws.{map_numbers}
use Rattle.pls_universal.specs.laws.MapShow.{each_map}

-- the record of the node that a record states is that record
up-stated : (up : ℕ) → up_stated (up_of up) ≡ up
up-stated zero = refl
up-stated (suc port) = omega arith

ports-stated : (ports : List (ℕ × ℕ)) → map port_stated (map port_of ports) ≡ ports
ports-stated [] = refl
ports-stated (port ∷ ports) = ap (λ (ports : List (ℕ × ℕ)). port ∷ ports) (ports-stated ports)

row-stated : (row : MapRow) → row_stated (node_of row) ≡ row
row-stated row = rw (up-stated row.up, ports-stated row.ports) refl

rows-stated : (rows : List MapRow) → map_of (nodes_of rows) ≡ rows
rows-stated [] = refl
rows-stated (row ∷ rows) = rw (row-stated row, rows-stated rows) refl

module _ (code : ℕ → List Bool) (takes : List Bool → Option (ℕ × List Bool))
    (taken : TakesCodes code takes) (only : TakesOnly code takes) (test : List NodeRow → Bool)
    (rows : List NodeRow) (net : IsNetwork rows) (connected : IsConnected rows)
    (labels : List (List Bool)) (each : length labels ≡ length rows)
    (accepted : AllAccept (judge_by (said_by map_shape takes) (map_rules test)) rows labels) where
  first : (row : NodeRow) × Contains rows row
  first = some_item rows net.limits.some

  other : MapLabel
  other = (accepted_one (said_by map_shape takes) (map_rules test) rows labels accepted first.0
      first.1).0

  abbrev say : ℕ → MapLabel
  say id = say_of (said_by map_shape takes) (map_rules test) (label_of rows labels) other id

  hold : HoldEverywhere (map_rules test) rows say
  hold row in' =
      (accepted_say (said_by map_shape takes) (map_rules test) rows labels other accepted row in').1

  -- each label says its node's identity and the map of the network
  says : (row : NodeRow) → Contains rows row → map_says rows row (say row.id)
  says row in' = (
    eqb-true (say row.id).own row.id (hold row in').0,
    sym (rows-stated (say row.id).rows)
        ∙ ap map_of (each_map test rows net connected say hold row in'),
  )

  pub accepted_marked : IsMarkedBy (IsSpelled map_shape code) (map_says rows) rows labels
  accepted_marked = record { each = each; label = label }
    where
      label : (place : ℕ) (row : NodeRow) (bits : List Bool) → slice_get rows place ≡ Some row
          → slice_get labels place ≡ Some bits
          → (label : MapLabel) × IsSpelled map_shape code bits label × map_says rows row label
      label place row bits at has =
          let in' : Contains rows row = Contains-from_place rows place row at in
          let read : said_by map_shape takes (label_of rows labels row.id) ≡ Some (say row.id) =
          (accepted_say (said_by map_shape takes) (map_rules test) rows labels other accepted row
          in').0 in
          let same : label_of rows labels row.id ≡ bits =
          label_at rows labels row.id place bits (place_of_row rows net place row at) has in (
            say row.id,
            (said_spells map_shape map_numbers code takes taken only bits (say row.id)).0
                (subst (λ (bits : List Bool). said_by map_shape takes bits ≡ Some (say row.id))
                same read),
            says row in',
          )
