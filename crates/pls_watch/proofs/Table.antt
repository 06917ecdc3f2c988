-- The numbers of the labels that a node knows, written one after the other.
use Rattle.std.proofs.Common.{◌≡◌, ◌≢◌, ◌∙◌, ℕ, ◌+◌, ◌<◌, ◌≤◌, ◌==◌, Bool, true, false, List, length, get_or, set, Some, None, option_map, slice_get, refl, sym, ap, subst, arith}
use Rattle.std.proofs.lemmas.Bool.{eqb-true, eqb-false}
use Rattle.std.proofs.lemmas.List.{get_or-set_same, get_or-set_other, length-set}
use Rattle.std.proofs.lemmas.List.Elements.{All-set}
use Rattle.std.proofs.lemmas.Option.{same_Some, slice_get_within}
use Rattle.pls_configuration.specs.declared.row.Port.{Port}
use Rattle.pls_configuration.specs.declared.row.NodeRow.{NodeRow}
use Rattle.pls_configuration.specs.Configuration.{IsNetwork}
use Rattle.pls_graph.specs.Places.{beside}
use Rattle.pls_graph.proofs.Beside.{beside_port}
use Rattle.pls_graph.proofs.Placed.{names_another}
use Rattle.pls_sim.proofs.Refusing.{At, at_place, place_within}
use Rattle.pls_watch.specs.declared.turn.Turn.{Turn}
use Rattle.pls_watch.specs.Labelled.{turns_of}
use Rattle.pls_watch.specs.Versions.{held, newest}
use Rattle.pls_watch.specs.Watching.{Watched}
use Rattle.pls_watch.specs.inner.Known.{AreKnown, IsTable}
use Rattle.pls_watch.specs.inner.Numbers.{IsLabel, relabelled}
use Rattle.pls_watch.proofs.Numbers.{label_within}

-- a table with one more number of a label
pub table_set : (watched : Watched) (numbers : List ℕ) (place number node version : ℕ)
    → IsTable watched numbers
    → length (relabelled (turns_of watched.events)) ≤ watched.most_relabels
    → IsLabel watched.network (turns_of watched.events) node version number
    → IsTable watched (set numbers place number)
table_set watched numbers place number node version table few label = record {
  long = length-set numbers place number ∙ table.long;
  within = All-set (λ number. number < length watched.network + watched.most_relabels) numbers place
      number
      (omega (
        arith,
        few,
        label_within watched.network (turns_of watched.events) node version
            number label,
      ))
      table.within;
}

module _ (rows : List NodeRow) (valid : IsNetwork rows) (turns : List Turn) (i : ℕ) (row : NodeRow)
    (stands : slice_get rows i ≡ Some row) where
  -- the node beside a port, at its place
  pub other_at : (p : ℕ) (at : Port) → slice_get row.ports p ≡ Some at
      → At rows at.nbr (get_or (beside rows i) p 0)
  other_at p at has =
      let found = beside_port rows valid i p row.ports at 0
      (ap (option_map (λ (row : NodeRow). row.ports)) stands) has in
      at_place rows valid at.nbr (get_or (beside rows i) p 0)
      (place_within rows at.nbr (get_or (beside rows i) p 0) found) found

  pub beside_inside : (p : ℕ) (at : Port) → slice_get row.ports p ≡ Some at
      → get_or (beside rows i) p 0 < length rows
  beside_inside p at has =
      let other = other_at p at has in
      slice_get_within rows (get_or (beside rows i) p 0) other.row other.stands

  same_nbr : (p q : ℕ) (at other : Port) → slice_get row.ports p ≡ Some at
      → slice_get row.ports q ≡ Some other
      → get_or (beside rows i) p 0 ≡ get_or (beside rows i) q 0 → at.nbr ≡ other.nbr
  same_nbr p q at other has_p has_q same =
      let one = other_at p at has_p in
      let two = other_at q other has_q in
      sym one.is ∙ ap (λ (row : NodeRow). row.id)
      (same_Some one.row two.row (sym one.stands ∙ ap (slice_get rows) same ∙ two.stands)) ∙ two.is

  module _ (numbers : List ℕ) (long : length numbers ≡ length rows) (port : ℕ) (at : Port)
      (has : slice_get row.ports port ≡ Some at) (known : AreKnown rows turns i row port numbers)
    where
      abbrev there : ℕ
      there = get_or (beside rows i) port 0

      -- where nothing is held at a port, nothing is written
      pub known_none : held rows turns row.id at.nbr ≡ None → AreKnown rows turns i row (port + 1)
          numbers
      known_none none p other version under has_p is = by (p == port) refl
        where
          by : (b : Bool) → (p == port) ≡ b
              → IsLabel rows turns other.nbr version (get_or numbers (get_or (beside rows i) p 0) 0)
          by true e =
              let same : other ≡ at =
              same_Some other at (sym has_p ∙ ap (slice_get row.ports) (eqb-true p port e) ∙ has) in
              let no = sym none ∙ ap (λ (port : Port). held rows turns row.id port.nbr) (sym same) ∙
              is in
              absurd (cc)
          by false e =
              let differs = eqb-false p port e in
              known p other version (omega (arith, under, differs)) has_p is

      -- else the number is
      pub known_one : (number version : ℕ) → held rows turns row.id at.nbr ≡ Some version
          → IsLabel rows turns at.nbr version number
          → AreKnown rows turns i row (port + 1) (set numbers there number)
      known_one number version here label p other found under has_p is =
          by (get_or (beside rows i) p 0 == there) refl
        where
          place : ℕ
          place = get_or (beside rows i) p 0

          by : (b : Bool) → (place == there) ≡ b
              → IsLabel rows turns other.nbr found (get_or (set numbers there number) place 0)
          by true e =
              let same : place ≡ there = eqb-true place there e in
              let nbr : at.nbr ≡ other.nbr = same_nbr port p at other has has_p (sym same) in
              let version_is : version ≡ found =
              same_Some version found (sym here ∙ ap (held rows turns row.id) nbr ∙ is) in
              rw (
                same,
                get_or-set_same numbers there number 0 (omega (
                  arith,
                  long,
                  beside_inside
                      port at has,
                )),
              )
              (subst (λ (version : ℕ). IsLabel rows turns other.nbr version number) version_is
              (subst (λ (nbr : ℕ). IsLabel rows turns nbr version number) nbr label))
          by false e =
              let differs : place ≢ there = eqb-false place there e in
              let another : p ≢ port =
              λ same. differs (ap (λ (p : ℕ). get_or (beside rows i) p 0) same) in
              rw (get_or-set_other numbers there place number 0 differs)
              (known p other found (omega (arith, under, another)) has_p is)

  -- and the own number last
  pub known_own : (numbers : List ℕ) → length numbers ≡ length rows → (number : ℕ)
      → IsLabel rows turns row.id (newest turns row.id) number
      → AreKnown rows turns i row (length row.ports) numbers
      → IsLabel rows turns row.id (newest turns row.id) (get_or (set numbers i number) i 0)
      × AreKnown rows turns i row (length row.ports) (set numbers i number)
  known_own numbers long number label known = (
    rw (get_or-set_same numbers i number 0 (omega (
      arith,
      long,
      slice_get_within rows i row
          stands,
    ))) label,
    λ p at version under has is.
        let other = other_at p at has in
        let differs : get_or (beside rows i) p 0 ≢ i =
        λ same. names_another rows valid i row stands p at has
        (ap (λ (row : NodeRow). row.id)
        (same_Some row other.row (sym stands ∙ ap (slice_get rows) (sym same) ∙ other.stands)) ∙
        other.is) in
        rw (get_or-set_other numbers i (get_or (beside rows i) p 0) number 0 differs)
        (known p at version under has is),
  )
