-- One node after another is given its pointer.
use Rattle.std.proofs.Common.{◌≡◌, ◌∙◌, ℕ, zero, suc, ◌+◌, ◌<◌, ◌≤◌, ◌⊎◌, inl, inr, Bool, true, false, cond, ◌==◌, nat_lt, List, [], ◌∷◌, length, map, Contains, Option, Some, refl, sym, ap, subst, arith}
use Rattle.std.specs.List.{range_with_len}
use Rattle.std.specs.Option.{option_map_or}
use Rattle.std.proofs.lemmas.Bool.{cases_eq, eq-eqb, ne_eqb}
use Rattle.std.proofs.lemmas.Simd.{map-map}
use Rattle.pls_configuration.specs.declared.row.Port.{Port}
use Rattle.pls_configuration.specs.declared.row.NodeRow.{NodeRow}
use Rattle.pls_configuration.specs.Configuration.{ids_of, row_of}
use Rattle.pls_graph_edits.specs.Edits.{changed, in_state, with_state}
use Rattle.pls_graph.proofs.Members.{Contains-first, Contains-later}
use Rattle.pls_facts.proofs.Pointed.{id_of_row}
use Rattle.pls_trial.specs.Generator.{at_port_0, pointing}
use Rattle.pls_trial.specs.inner.Building.{has_port}
use Rattle.pls_trial.proofs.Numbered.{range-within}

-- so many nodes behind the first are given their pointers
abbrev pub pointed_to : List NodeRow → ℕ → List NodeRow
pointed_to rows zero = rows
pointed_to rows (suc i) = with_state (pointed_to rows i) (i + 2) at_port_0

-- what this does to a row
abbrev row_to : ℕ → NodeRow → NodeRow
row_to zero row = row
row_to (suc i) row = changed (i + 2) (in_state at_port_0) (row_to i row)

map_itself : (rows : List NodeRow) → rows ≡ map (λ row. row) rows
map_itself [] = refl
map_itself (row ∷ rows) = ap (λ (rows : List NodeRow). row ∷ rows) (map_itself rows)

map_same : (f g : NodeRow → NodeRow) (rows : List NodeRow)
    → ((row : NodeRow) → Contains rows row → f row ≡ g row) → map f rows ≡ map g rows
map_same f g [] same = refl
map_same f g (row ∷ rows) same = rw (
  same row (Contains-first row rows),
  map_same f g rows (λ other in'. same other (Contains-later row rows other in')),
) refl

pointed_to-map : (rows : List NodeRow) (count : ℕ) → pointed_to rows count ≡ map (row_to count) rows
pointed_to-map rows zero = map_itself rows
pointed_to-map rows (suc i) =
    ap (λ (rows : List NodeRow). with_state rows (i + 2) at_port_0) (pointed_to-map rows i)
    ∙ map-map (changed (i + 2) (in_state at_port_0)) (row_to i) rows

-- other rows stay
row_to-other : (count : ℕ) (row : NodeRow) → (row.id ≡ 1) ⊎ (count + 2 ≤ row.id)
    → row_to count row ≡ row
row_to-other zero row other = refl
row_to-other (suc i) row other =
    let apart : (i + 2 == row.id) ≡ false = ne_eqb (i + 2) row.id (λ e. elim other [
      | inl one ↦ omega arith
      | inr above ↦ omega arith
    ]) in
    ap (changed (i + 2) (in_state at_port_0)) (row_to-other i row (elim other [
      | inl one ↦ inl one
      | inr above ↦ inr (omega arith)
    ]))
    ∙ ap (λ (b : Bool). cond b (in_state at_port_0 row) row) apart

-- the nodes behind the first get their pointer
row_to-pointed : (count : ℕ) (row : NodeRow) → 2 ≤ row.id → row.id < count + 2
    → row_to count row ≡ in_state at_port_0 row
row_to-pointed zero row least most = absurd (omega arith)
row_to-pointed (suc i) row least most = elim (cases_eq (i + 2) row.id) [
  | inl same ↦
      ap (changed (i + 2) (in_state at_port_0)) (row_to-other i row (inr (omega arith)))
      ∙ ap (λ (b : Bool). cond b (in_state at_port_0 row) row) (eq-eqb (i + 2) row.id same)
  | inr apart ↦
      ap (changed (i + 2) (in_state at_port_0)) (row_to-pointed i row least (omega arith))
      ∙ ap (λ (b : Bool). cond b (in_state at_port_0 row) (in_state at_port_0 row))
      (ne_eqb (i + 2) row.id apart)
]

-- in the end each node but the first has its pointer
pub all_pointed : (rows : List NodeRow) (nodes count : ℕ) → ids_of rows ≡ range_with_len 1 nodes
    → nodes ≤ count + 1 → pointed_to rows count ≡ map pointing rows
all_pointed rows nodes count ids all = pointed_to-map rows count
    ∙ map_same (row_to count) pointing rows each
  where
    each : (row : NodeRow) → Contains rows row → row_to count row ≡ pointing row
    each row in' =
        let within = range-within 1 nodes row.id
        (subst (λ (ids : List ℕ). Contains ids row.id) ids (id_of_row rows row in')) in
        let least = within.0 in
        let most = within.1 in
        elim (cases_eq row.id 1) [
          | inl first ↦ row_to-other count row (inl first)
              ∙ ap (λ (b : Bool). cond b row (in_state at_port_0 row)) (sym (eq-eqb row.id 1 first))
          | inr later ↦ row_to-pointed count row (omega arith) (omega arith)
              ∙ ap (λ (b : Bool). cond b row (in_state at_port_0 row)) (sym (ne_eqb row.id 1 later))
        ]

-- a state leaves the ports
has_port-with_state : (rows : List NodeRow) (at id : ℕ)
    → has_port (with_state rows at at_port_0) id ≡ has_port rows id
has_port-with_state [] at id = refl
has_port-with_state (row ∷ rows) at id = by (at == row.id) (has_port-with_state rows at id)
  where
    f : NodeRow → NodeRow
    f = changed at (in_state at_port_0)

    new : NodeRow
    new = in_state at_port_0 row

    has : Option NodeRow → Bool
    has found = option_map_or (λ row. nat_lt 0 (length row.ports)) found false

    same : (b : Bool) (one other : NodeRow) → one.ports ≡ other.ports
        → has (row_of (map f rows) id) ≡ has (row_of rows id)
        → has (cond b (Some one) (row_of (map f rows) id)) ≡ has (cond b (Some other) (row_of rows id))
    same true one other ports rest = ap (λ (ports : List Port). nat_lt 0 (length ports)) ports
    same false one other ports rest = rest

    by : (b : Bool) → has_port (map f rows) id ≡ has_port rows id
        → has_port (cond b new row ∷ map f rows) id ≡ has_port (row ∷ rows) id
    by true rest = same (id == row.id) new row refl rest
    by false rest = same (id == row.id) row row refl rest

pub has_port-pointed_to : (rows : List NodeRow) (count id : ℕ)
    → has_port (pointed_to rows count) id ≡ has_port rows id
has_port-pointed_to rows zero id = refl
has_port-pointed_to rows (suc i) id =
    has_port-with_state (pointed_to rows i) (i + 2) id ∙ has_port-pointed_to rows i id
