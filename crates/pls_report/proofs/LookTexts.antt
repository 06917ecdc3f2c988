-- The lines of a look, piece by piece.
use Rattle.std.proofs.Common.{◌≡◌, ◌≢◌, ◌∙◌, ℕ, ◌+◌, ◌<◌, List, [], ◌∷◌, ◌++◌, map, take, length, get_or, codes, decimal, refl, sym, ap, append-nil, append_assoc}
use Rattle.pls_configuration.specs.declared.verdict.Verdict.{Verdict}
use Rattle.pls_configuration.specs.Verdict.{verdict_text}
use Rattle.pls_sim.specs.declared.outcome.Outcome.TheVariants.{Decided, Waiting}
use Rattle.pls_report.specs.Look.{look_line, told_ports}
use Rattle.pls_report.specs.inner.Pieces.{outcome_tail, spaced, stale_tail}
use Rattle.pls_report.proofs.Texts.{line_spaced, node_text, spaced_more}
use Rattle.pls_sim.specs.declared.outcome.Outcome.{Outcome}
use Rattle.pls_lines.specs.Text.{line_of}
use Rattle.pls_report.specs.Report.{outcome_line}

-- a word and numbers behind a text, with one number more
pub listed_more : (front word numbers : List ℕ) (i d : ℕ) → i < length numbers
    → (front ++ (word ++ spaced (take i numbers))) ++ (codes " " ++ decimal (get_or numbers i d))
    ≡ front ++ (word ++ spaced (take (i + 1) numbers))
listed_more front word numbers i d within =
    let last : List ℕ = codes " " ++ decimal (get_or numbers i d) in
    append_assoc front (word ++ spaced (take i numbers)) last
    ∙ ap (λ (text : List ℕ). front ++ text)
    (append_assoc word (spaced (take i numbers)) last
    ∙ ap (λ (text : List ℕ). word ++ text) (spaced_more numbers i d within))

-- the line of a node with stale ports
stale_seen : (id : ℕ) (verdict : Verdict) (port : ℕ) (ports : List ℕ)
    → (((codes "node " ++ decimal id) ++ outcome_tail (Decided verdict))
    ++ stale_tail (port ∷ ports)) ++ 10 ∷ []
    ≡ look_line (id, Decided verdict, port ∷ ports) ++ 10 ∷ []
stale_seen id verdict port ports =
    let tail : List ℕ = stale_tail (port ∷ ports) in
    let words : List ℕ = verdict_text verdict in
    ap (λ (text : List ℕ). (codes "node " ++ text) ++ 10 ∷ [])
    (append_assoc (decimal id) (32 ∷ words) tail
    ∙ ap (λ (tail : List ℕ). decimal id ++ 32 ∷ (words ++ 32 ∷ tail))
    (sym (line_spaced (codes "stale") (port ∷ ports))))

-- the same in the pieces that are written
pub stale_put : (id : ℕ) (verdict : Verdict) (ports : List ℕ) → ports ≢ []
    → (((codes "node " ++ decimal id) ++ outcome_tail (Decided verdict))
    ++ (codes " stale" ++ spaced ports)) ++ codes "\n"
    ≡ look_line (id, Decided verdict, ports) ++ 10 ∷ []
stale_put id verdict [] some = absurd (some refl)
stale_put id verdict (port ∷ ports) some = stale_seen id verdict port ports

-- the line of a node whose stale ports are not told, or that has none
none_seen : (id : ℕ) (outcome : Outcome)
    → (((codes "node " ++ decimal id) ++ outcome_tail outcome) ++ []) ++ 10 ∷ []
    ≡ outcome_line (id, outcome) ++ 10 ∷ []
none_seen id outcome =
    ap (λ (line : List ℕ). line ++ 10 ∷ [])
    (append-nil ((codes "node " ++ decimal id) ++ outcome_tail outcome))
    ∙ node_text id outcome

-- the line of a node, piece by piece
node_seen : (id : ℕ) (outcome : Outcome) (stale : List ℕ)
    → (((codes "node " ++ decimal id) ++ outcome_tail outcome)
    ++ stale_tail (told_ports outcome stale)) ++ 10 ∷ []
    ≡ look_line (id, outcome, stale) ++ 10 ∷ []
node_seen id (Decided verdict) [] = none_seen id (Decided verdict)
node_seen id (Decided verdict) (port ∷ ports) = stale_seen id verdict port ports
node_seen id (Waiting ports) stale =
    none_seen id (Waiting ports)
    ∙ ap (λ (words : List (List ℕ)). line_of (codes "node" ∷ decimal id ∷ codes "waiting" ∷ words)
    ++ 10 ∷ [])
    (sym (append-nil (map decimal ports)))

-- behind a text
pub node_behind : (front : List ℕ) (id : ℕ) (outcome : Outcome) (stale : List ℕ)
    → ((front ++ ((codes "node " ++ decimal id) ++ outcome_tail outcome))
    ++ stale_tail (told_ports outcome stale)) ++ 10 ∷ []
    ≡ front ++ (look_line (id, outcome, stale) ++ 10 ∷ [])
node_behind front id outcome stale =
    let node : List ℕ = (codes "node " ++ decimal id) ++ outcome_tail outcome in
    let tail : List ℕ = stale_tail (told_ports outcome stale) in
    ap (λ (text : List ℕ). text ++ 10 ∷ []) (append_assoc front node tail)
    ∙ append_assoc front (node ++ tail) (10 ∷ [])
    ∙ ap (λ (text : List ℕ). front ++ text) (node_seen id outcome stale)
