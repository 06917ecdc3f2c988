-- Two nodes that are there, with room for their ports, are not linked only where they are one or
-- are linked already; and a pointer to port 0 is allowed where there is one.
use Rattle.std.proofs.Common.{◌≡◌, ◌∙◌, ℕ, ◌+◌, ◌≤◌, ◌-◌, ◌⊎◌, inl, inr, Bool, true, false, not, cond, ◌||◌, ◌==◌, if◌then◌else◌, nat_lt, List, [], ◌∷◌, length, Contains, Option, Some, None, refl, sym, arith}
use Rattle.std.specs.Option.{is_none, option_map_or}
use Rattle.std.proofs.lemmas.Bool.{eqb-false, le-ltb}
use Rattle.std.proofs.lemmas.Option.{same_Some}
use Rattle.pls_configuration.specs.declared.limits.TheConstants.{MAX_PORTS}
use Rattle.pls_configuration.specs.declared.row.NodeRow.{NodeRow}
use Rattle.pls_configuration.specs.Configuration.{first_of, ids_of, ports_in, row_of, refused_if}
use Rattle.pls_graph_edits.specs.declared.edit_error.EditError.{EditError}
use Rattle.pls_graph_edits.specs.declared.edit_error.EditError.TheVariants.{Absent, Full, HasPorts, Last, NoMemory, Pointer, Present, SelfLink}
use Rattle.pls_graph_edits.specs.Edits.{SaysEdit, are_linked, fits_state, is_absent, link_refusal, linked, state_refusal}
use Rattle.pls_graph.proofs.Members.{Contains-cons_cases}
use Rattle.pls_trial.specs.Generator.{at_port_0, with_link}
use Rattle.pls_trial.specs.inner.Building.{has_port}

-- a node with this identity is there
pub there : (rows : List NodeRow) (id : ℕ) → Contains (ids_of rows) id → is_absent rows id ≡ false
there [] id in' = absurd (omega (arith, in'.1))
there (row ∷ rows) id in' = by (id == row.id) refl (there rows id)
  where
    by : (b : Bool) → (id == row.id) ≡ b
        → (Contains (ids_of rows) id → is_none (row_of rows id) ≡ false)
        → is_none (cond b (Some row) (row_of rows id)) ≡ false
    by true same rest = refl
    by false apart rest = elim (Contains-cons_cases row.id (ids_of rows) id in') [
      | inl e ↦ absurd (eqb-false id row.id apart (sym e))
      | inr later ↦ rest later
    ]

pub row_there : (rows : List NodeRow) (id : ℕ) → Contains (ids_of rows) id
    → (row : NodeRow) × (row_of rows id ≡ Some row)
row_there rows id in' = by (row_of rows id) refl (there rows id in')
  where
    by : (found : Option NodeRow) → row_of rows id ≡ found → is_none found ≡ false
        → (row : NodeRow) × (row_of rows id ≡ Some row)
    by None e known = absurd (cc)
    by (Some row) e known = (row, e)

-- the causes that are left
abbrev causes : Bool → Bool → Option EditError
causes same linked = first_of (refused_if same SelfLink ∷ refused_if linked Present ∷ [])

module _ (rows : List NodeRow) (a b : ℕ) (a_in : Contains (ids_of rows) a)
    (b_in : Contains (ids_of rows) b) (room : ports_in rows + 2 ≤ MAX_PORTS) where
  refusal : link_refusal rows a b ≡ causes (a == b) (are_linked rows a b)
  refusal =
      let full : nat_lt (MAX_PORTS - 2) (ports_in rows) ≡ false =
      le-ltb (MAX_PORTS - 2) (ports_in rows) (omega (arith, room)) in
      rw (there rows a a_in, there rows b b_in, full) (by (a == b) (are_linked rows a b))
    where
      by : (same linked : Bool)
          → first_of (None ∷ refused_if same SelfLink ∷ refused_if linked Present ∷ None ∷ [])
          ≡ causes same linked
      by true linked = refl
      by false true = refl
      by false false = refl

  -- a refusal has one of two causes
  pub two_causes : (error : EditError) → link_refusal rows a b ≡ Some error
      → (error ≡ SelfLink) ⊎ (error ≡ Present)
  two_causes error some = by (a == b) (are_linked rows a b) (sym refusal ∙ some)
    where
      by : (same linked' : Bool) → causes same linked' ≡ Some error
          → (error ≡ SelfLink) ⊎ (error ≡ Present)
      by true linked' e = inl (sym (same_Some SelfLink error e))
      by false true e = inr (sym (same_Some Present error e))
      by false false e = absurd (cc)

  -- a link that is refused is none that would be put
  pub not_put : (error : EditError) → link_refusal rows a b ≡ Some error → (weight : ℕ)
      → with_link rows (record { a = a; b = b; weight = weight }) ≡ rows
  not_put error some weight = by (a == b) (are_linked rows a b) (sym refusal ∙ some)
    where
      by : (same linked' : Bool) → causes same linked' ≡ Some error
          → (if same || linked' then rows else linked rows a b weight) ≡ rows
      by true linked' e = refl
      by false true e = refl
      by false false e = absurd (cc)

-- a node that has a port may point at port 0
pub pointer_allowed : (rows : List NodeRow) (id : ℕ) → has_port rows id ≡ true
    → state_refusal rows id at_port_0 ≡ None
pointer_allowed rows id has = by (row_of rows id) has
  where
    by : (found : Option NodeRow)
        → option_map_or (λ row. nat_lt 0 (length row.ports)) found false ≡ true
        → first_of (refused_if (is_none found) Absent
        ∷ refused_if (option_map_or (λ row. not (fits_state at_port_0 row)) found false) Pointer ∷ [])
        ≡ None
    by None has = absurd (cc)
    by (Some row) has = rw has refl

-- an edit that does not lack memory is refused for its cause
pub causes_left : (found : Option EditError) (error : EditError) → SaysEdit found error
    → (error ≡ NoMemory → ⊥) → found ≡ Some error
causes_left _ NoMemory says apart = absurd (apart refl)
causes_left _ Absent says apart = says
causes_left _ Present says apart = says
causes_left _ Pointer says apart = says
causes_left _ SelfLink says apart = says
causes_left _ HasPorts says apart = says
causes_left _ Last says apart = says
causes_left _ Full says apart = says
