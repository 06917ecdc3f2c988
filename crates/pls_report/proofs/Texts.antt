-- The lines of a report, piece by piece.
use Rattle.std.proofs.Common.{◌≡◌, ◌∙◌, ℕ, ◌+◌, ◌<◌, ◌≤◌, Bool, true, false, List, [], ◌∷◌, ◌++◌, map, take, drop, length, get_or, codes, decimal, refl, sym, ap, append-nil, arith}
use Rattle.std.proofs.Math.Seq.{take-append-add}
use Rattle.std.proofs.lemmas.Grind.{flat_map-append}
use Rattle.std.proofs.lemmas.List.{length-take-le, take-append-drop, take-take, take_more}
use Rattle.pls_configuration.specs.declared.verdict.Verdict.{Verdict}
use Rattle.pls_lines.specs.Text.{line_of}
use Rattle.pls_sim.specs.declared.outcome.Outcome.{Outcome}
use Rattle.pls_sim.specs.declared.outcome.Outcome.TheVariants.{Decided, Waiting}
use Rattle.pls_report.specs.ComponentLines.{if_several, component_line}
use Rattle.pls_report.specs.Report.{closing_line, outcome_line, rejecting, rejecting_verdicts, round_line, waiting}
use Rattle.pls_report.specs.declared.component_row.ComponentRow.{ComponentRow}
use Rattle.pls_report.specs.inner.Pieces.{connected_tail, outcome_tail, spaced, waiting_tail}

-- one more number
pub spaced_more : (numbers : List ℕ) (i d : ℕ) → i < length numbers
    → spaced (take i numbers) ++ (codes " " ++ decimal (get_or numbers i d))
    ≡ spaced (take (i + 1) numbers)
spaced_more numbers i d within =
    sym (ap spaced (take_more numbers i d within)
    ∙ flat_map-append (λ (number : ℕ). 32 ∷ decimal number) (take i numbers)
    (get_or numbers i d ∷ [])
    ∙ ap (λ (last : List ℕ). spaced (take i numbers) ++ last)
    (append-nil (32 ∷ decimal (get_or numbers i d))))

pub spaced_rest : (numbers : List ℕ) (i : ℕ)
    → spaced (take i numbers) ++ spaced (drop i numbers) ≡ spaced numbers
spaced_rest numbers i =
    sym (flat_map-append (λ (number : ℕ). 32 ∷ decimal number) (take i numbers) (drop i numbers))
    ∙ ap spaced (take-append-drop i numbers)

-- a word and numbers, with a space before each
pub line_spaced : (word : List ℕ) (numbers : List ℕ)
    → line_of (word ∷ map decimal numbers) ≡ word ++ spaced numbers
line_spaced word [] = sym (append-nil word)
line_spaced word (number ∷ numbers) =
    ap (λ (rest : List ℕ). word ++ 32 ∷ rest) (line_spaced (decimal number) numbers)

pub node_text : (id : ℕ) (outcome : Outcome)
    → ((codes "node " ++ decimal id) ++ outcome_tail outcome) ++ codes "\n"
    ≡ outcome_line (id, outcome) ++ 10 ∷ []
node_text id (Decided verdict) = refl
node_text id (Waiting ports) =
    ap (λ (tail : List ℕ). (codes "node " ++ (decimal id ++ 32 ∷ tail)) ++ codes "\n")
    (sym (line_spaced (codes "waiting") ports))

-- the first of some numbers behind others
pub front_behind : (old new more : List ℕ) (at count : ℕ) → at ≤ length old → count ≤ length more
    → take (at + length more) new ≡ take at old ++ more
    → take (at + count) new ≡ take at old ++ take count more
front_behind old new more at count within few is =
    let place : at + count ≡ length (take at old) + count =
    omega (arith, length-take-le at old within) in
    sym (take-take (at + count) (at + length more) new (omega (arith, few)))
    ∙ ap (take (at + count)) is ∙ ap (λ (n : ℕ). take n (take at old ++ more)) place
    ∙ take-append-add (take at old) more count

pub closing_text : (simulated : Bool) (rows : List (ℕ × Outcome))
    → ((codes "rejecting " ++ decimal (rejecting rows)) ++ waiting_tail simulated (waiting rows))
    ++ codes "\n" ≡ closing_line simulated rows ++ 10 ∷ []
closing_text true rows = refl
closing_text false rows =
    ap (λ (line : List ℕ). line ++ 10 ∷ [])
    (append-nil (codes "rejecting " ++ decimal (rejecting rows)))

pub round_text : (number checked : ℕ) (connected : Bool) (rows : List (ℕ × Verdict))
    → ((codes "round " ++ decimal number) ++ ((codes " checked " ++ decimal checked)
    ++ (connected_tail connected ++ decimal (rejecting_verdicts rows)))) ++ codes "\n"
    ≡ round_line number checked connected rows ++ 10 ∷ []
round_text number checked true rows = refl
round_text number checked false rows = refl

pub component_text : (simulated : Bool) (part : ComponentRow)
    → ((codes "component " ++ decimal part.id) ++ ((codes " nodes " ++ decimal part.nodes)
    ++ ((codes " rejecting " ++ decimal part.rejecting) ++ waiting_tail simulated part.waiting)))
    ++ codes "\n" ≡ component_line simulated part ++ 10 ∷ []
component_text true part = refl
component_text false part =
    ap (λ (tail : List ℕ). (codes "component " ++ (decimal part.id
    ++ (codes " nodes " ++ (decimal part.nodes ++ tail)))) ++ codes "\n")
    (append-nil (codes " rejecting " ++ decimal part.rejecting))

-- of fewer than two components nothing is said, and of others all
pub several_none : {X : Type 0} (parts : List ComponentRow) (said : List X) → length parts < 2
    → if_several parts said ≡ []
several_none [] said few = refl
several_none (part ∷ []) said few = refl
several_none (part ∷ next ∷ others) said few = absurd (omega (arith, few))

pub several_all : {X : Type 0} (parts : List ComponentRow) (said : List X) → 2 ≤ length parts
    → if_several parts said ≡ said
several_all [] said many = absurd (omega (arith, many))
several_all (part ∷ []) said many = absurd (omega (arith, many))
several_all (part ∷ next ∷ others) said many = refl
