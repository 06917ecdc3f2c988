-- The command `splice`: two edges of a ring whose nodes all accept are crossed, and no node sees a
-- difference.
use Rattle.std.specs.Prelude.{◌≡◌, ◌⊎◌, ℕ, Bool, List, [], ◌∷◌, ◌++◌, codes, find, slice_get, Option, option_map}
use Rattle.pls_streams.specs.declared.refusal_number.TheConstants.{NO_RING, REJECTS}
use Rattle.pls_streams.specs.declared.text_error.TextError.{TextError}
use Rattle.pls_streams.specs.declared.text_error.TextError.TheVariants.{Sense}
use Rattle.pls_bits.specs.declared.code_name.CodeName.{CodeName}
use Rattle.pls_configuration.specs.declared.row.NodeRow.{NodeRow}
use Rattle.pls_configuration.specs.declared.status.Status.TheVariants.{Done, No}
use Rattle.pls_configuration.specs.declared.verdict.Verdict.{Verdict}
use Rattle.pls_configuration.specs.Configuration.{first_of}
use Rattle.pls_lines.specs.Text.{text_of}
use Rattle.pls_netfile.specs.NetworkText.{network_text}
use Rattle.pls_labels.specs.Seen.{Seen}
use Rattle.pls_components.specs.Components.{least_id}
use Rattle.pls_sim.specs.declared.outcome.Outcome.{Outcome}
use Rattle.pls_report.specs.Report.{is_rejecting}
use Rattle.pls_inputs.specs.Parts.{net_labels_text}
use Rattle.pls_splice.specs.Ring.{IsRingOrder, has_not_two}
use Rattle.pls_splice.specs.Crossing.{HasNoPair, IsFirstPair, crossed_rows}
use Rattle.pls_app.specs.Reports.{decided_by}
use Rattle.pls_app.specs.Said.{Answer}

-- the identity that tells why a network with these components is no ring: that of the first node
-- whose number of ports is not two, or else the smallest one outside of the first component
abbrev pub no_ring_at : List NodeRow → List (List ℕ) → Option ℕ
no_ring_at rows parts = first_of (option_map (λ row. row.id) (find has_not_two rows)
    ∷ option_map (least_id rows) (slice_get parts 1) ∷ [])

-- the identity of the first node that rejects
abbrev pub first_rejecting : List (ℕ × Outcome) → Option ℕ
first_rejecting outcomes = option_map (λ row. row.0) (find (λ row. is_rejecting row.1) outcomes)

-- why a network with these labels and components is not spliced: 70 where it is no ring, 71 where
-- some node rejects
abbrev pub splice_refusal : (Seen → Verdict) → List NodeRow → List (List Bool) → List (List ℕ)
    → Option TextError
splice_refusal judge rows labels parts = first_of
    (option_map (λ id. Sense NO_RING id) (no_ring_at rows parts)
    ∷ option_map (λ id. Sense REJECTS id) (first_rejecting (decided_by judge rows labels)) ∷ [])

-- the answer where edges i and j are crossed: the network that this makes, and the labels as they
-- were
abbrev pub crossed_answer : CodeName → List NodeRow → List (List Bool) → List ℕ → ℕ → ℕ → Answer
crossed_answer code rows labels order i j = record {
  status = Done;
  text = network_text (crossed_rows rows order i j) ++ net_labels_text code rows labels;
}

-- the answer where no two edges may be crossed: `none`
abbrev pub uncrossed_answer : Answer
uncrossed_answer = record { status = No; text = text_of (codes "none" ∷ []) }

-- the first two edges that may be crossed are, and this is the answer
pub record IsCrossed (code : CodeName) (rows : List NodeRow) (labels : List (List Bool))
    (order : List ℕ) (answer : Answer) : Type 0 where
  pub i : ℕ
  pub j : ℕ
  pub pair : IsFirstPair rows labels order i j
  pub says : answer ≡ crossed_answer code rows labels order i j

-- no two edges may be crossed, and this is the answer
pub record IsUncrossed (rows : List NodeRow) (labels : List (List Bool)) (order : List ℕ)
    (answer : Answer) : Type 0 where
  pub none : HasNoPair rows labels order
  pub says : answer ≡ uncrossed_answer

-- the answer to `splice` on a ring whose nodes all accept
pub record Splices (code : CodeName) (rows : List NodeRow) (labels : List (List Bool))
    (answer : Answer) : Type 0 where
  pub order : List ℕ
  pub round : IsRingOrder rows order
  pub splices : IsCrossed code rows labels order answer ⊎ IsUncrossed rows labels order answer
