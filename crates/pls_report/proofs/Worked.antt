-- Reports and looks at worked examples.
use Rattle.std.proofs.Common.{◌≡◌, ℕ, true, false, List, [], ◌∷◌, codes, refl}
use Rattle.std.specs.Fmt.{digits}
use Rattle.pls_configuration.specs.declared.verdict.Verdict.TheVariants.{Accept, Reject}
use Rattle.pls_sim.specs.declared.outcome.Outcome.{Outcome}
use Rattle.pls_sim.specs.declared.outcome.Outcome.TheVariants.{Decided, Waiting}
use Rattle.pls_report.specs.declared.component_row.ComponentRow.{ComponentRow}
use Rattle.pls_report.specs.Look.{look_is_well, look_text}
use Rattle.pls_report.specs.Report.{report_text}

abbrev nodes : List (ℕ × Outcome)
nodes = (1, Decided Accept) ∷ (20, Decided (Reject 1 3)) ∷ (21, Waiting (0 ∷ 2 ∷ [])) ∷ []

abbrev pair : ComponentRow
pair = record { id = 1; nodes = 2; rejecting = 1; waiting = 0 }

abbrev alone : ComponentRow
alone = record { id = 21; nodes = 1; rejecting = 0; waiting = 1 }

simulated : report_text true (record { id = 1; nodes = 3; rejecting = 1; waiting = 1 } ∷ []) nodes
    ≡ codes "node 1 accept\nnode 20 reject 1 3\nnode 21 waiting 0 2\nrejecting 1 waiting 1\n"
unfolding digits
simulated = refl

verified : report_text false [] ((1, Decided Accept) ∷ []) ≡ codes "node 1 accept\nrejecting 0\n"
unfolding digits
verified = refl

simulated_in_parts : report_text true (pair ∷ alone ∷ []) nodes
    ≡ codes "node 1 accept\nnode 20 reject 1 3\nnode 21 waiting 0 2\ncomponent 1 nodes 2 rejecting 1 waiting 0\ncomponent 21 nodes 1 rejecting 0 waiting 1\nrejecting 1 waiting 1\n"
unfolding digits
simulated_in_parts = refl

-- two nodes that are joined, and one without ports
verified_in_parts : report_text false
    (record { id = 1; nodes = 2; rejecting = 0; waiting = 0 }
    ∷ record { id = 3; nodes = 1; rejecting = 0; waiting = 0 } ∷ [])
    ((1, Decided Accept) ∷ (2, Decided Accept) ∷ (3, Decided Accept) ∷ [])
    ≡ codes "node 1 accept\nnode 2 accept\nnode 3 accept\ncomponent 1 nodes 2 rejecting 0\ncomponent 3 nodes 1 rejecting 0\nrejecting 0\n"
unfolding digits
verified_in_parts = refl

-- the first node has a label that the second has not heard of
abbrev one_stale : List (ℕ × Outcome × List ℕ)
one_stale = (1, Decided (Reject 1 3), []) ∷ (2, Decided Accept, 0 ∷ []) ∷ []

stale : look_text 1 one_stale
    ≡ codes "node 1 reject 1 3\nnode 2 accept stale 0\nlook 1 rejecting 1 waiting 0 stale 1\n"
unfolding digits
stale = refl

stale_is_not_well : look_is_well one_stale ≡ false
stale_is_not_well = refl

-- both have heard the newest labels
abbrev none_stale : List (ℕ × Outcome × List ℕ)
none_stale = (1, Decided Accept, []) ∷ (2, Decided Accept, []) ∷ []

fresh : look_text 1 none_stale
    ≡ codes "node 1 accept\nnode 2 accept\nlook 1 rejecting 0 waiting 0 stale 0\n"
unfolding digits
fresh = refl

fresh_is_well : look_is_well none_stale ≡ true
fresh_is_well = refl

-- of a node that waits no stale ports are told
waits : look_text 12 ((1, Waiting (0 ∷ []), 1 ∷ 2 ∷ []) ∷ (7, Decided Accept, 0 ∷ 11 ∷ []) ∷ [])
    ≡ codes "node 1 waiting 0\nnode 7 accept stale 0 11\nlook 12 rejecting 0 waiting 1 stale 1\n"
unfolding digits
waits = refl
