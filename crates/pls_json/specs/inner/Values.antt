-- The JSON value of a node, and where texts stand.
use Rattle.std.specs.Prelude.{ℕ, Bool, if◌then◌else◌, List, [], ◌∷◌, ◌++◌, codes, map}
use Rattle.serde_json.specs.Data.{Data, Members, number, unsigned, string, array, object, member, no_members}
use Rattle.serde_json.specs.View.{items_of}
use Rattle.pls_configuration.specs.declared.verdict.Verdict.TheVariants.{Accept, Reject}
use Rattle.pls_sim.specs.declared.outcome.Outcome.{Outcome}
use Rattle.pls_sim.specs.declared.outcome.Outcome.TheVariants.{Decided, Waiting}

-- a number
abbrev pub number_data : ℕ → Data
number_data n = number (unsigned n)

-- the last member of a node's object
abbrev pub with_verdict : List ℕ → Members
with_verdict verdict = member (codes "verdict") (string verdict) no_members

-- the members of a node's object behind its identity
abbrev pub outcome_members : Outcome → Members
outcome_members (Decided Accept) = with_verdict (codes "accept")
outcome_members (Decided (Reject leaf rule)) =
    member (codes "leaf") (number_data leaf)
    (member (codes "rule") (number_data rule) (with_verdict (codes "reject")))
outcome_members (Waiting ports) =
    member (codes "ports") (array (items_of (map number_data ports)))
    (with_verdict (codes "waiting"))

-- the object of a node
abbrev pub node_data : ℕ × Outcome → Data
node_data row = object (member (codes "id") (number_data row.0) (outcome_members row.1))

-- the comma that stands before all but the first
abbrev pub comma_before : Bool → List ℕ
comma_before first = if first then [] else 44 ∷ []

-- a text that stands behind others, with a comma in front, or first
abbrev pub after_others : Bool → List ℕ → List ℕ
after_others first text = comma_before first ++ text
