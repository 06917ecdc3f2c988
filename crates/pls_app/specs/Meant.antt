-- What a scheme means on a network, under a number code. The clauses of `run` cite the property,
-- the labels, the verdicts and the bound of a scheme by these words, but for what `splice` says of
-- one leader.
use Rattle.std.specs.Prelude.{◌≡◌, ℕ, Bool, List, length, Option}
use Rattle.pls_configuration.specs.declared.row.NodeRow.{NodeRow}
use Rattle.pls_configuration.specs.declared.verdict.Verdict.{Verdict}
use Rattle.pls_configuration.specs.Walk.{IsConnected}
use Rattle.pls_bits.specs.Gamma.{gamma_code, gamma_takes}
use Rattle.pls_bits.specs.Delta.{delta_code, delta_takes}
use Rattle.pls_graph.specs.declared.size.Size.{Size}
use Rattle.pls_labels.specs.Seen.{Seen}
use Rattle.pls_scheme.specs.Judging.{AllAccept}
use Rattle.pls_components.specs.Components.{FitsInEach, HasInEach}
use Rattle.pls_components.specs.Parts.{AreLacking, AreWithinBound, LacksIn, bound_of_parts, room_of_parts}
use Rattle.pls_expressions.specs.Expression.{Expression, HasProperty}
use Rattle.pls_combine.specs.Converted.{converted}
use Rattle.pls_combine.specs.Expression.{IsMarked, judge_of, longest_of}
use Rattle.pls_bits.specs.declared.code_name.CodeName.{CodeName}
use Rattle.pls_bits.specs.declared.code_name.CodeName.TheVariants.{Delta, Gamma}

-- what the number code of a name writes of a number
abbrev pub number_code_of : CodeName → ℕ → List Bool
number_code_of Gamma = gamma_code
number_code_of Delta = delta_code

-- what the number code of a name takes off the front of bits
abbrev pub takes_of : CodeName → List Bool → Option (ℕ × List Bool)
takes_of Gamma = gamma_takes
takes_of Delta = delta_takes

-- the verdict on what a node sees
abbrev pub judge_in : CodeName → Expression → Seen → Verdict
judge_in code scheme = judge_of (takes_of code) scheme

-- the bits of a label under this code, rewritten in the delta code, where they are a label
abbrev pub converted_in : CodeName → Expression → List Bool → Option (List Bool)
converted_in code scheme = converted (takes_of code) delta_code scheme

-- each component of the network has the property by itself
abbrev pub Holds : Expression → List NodeRow → Type 0
Holds scheme rows = HasInEach (HasProperty scheme) rows

-- these are the places of a component, and it lacks the property of the scheme
abbrev pub LacksAt : Expression → List NodeRow → List ℕ → Type 0
LacksAt scheme rows places = LacksIn (HasProperty scheme) rows places

-- these are the smallest identities of the components that lack the property of the scheme, rising,
-- and there is one at least
abbrev pub NameLacking : Expression → List NodeRow → List ℕ → Type 0
NameLacking scheme rows ids = AreLacking (HasProperty scheme) rows ids

-- the labels of each component are marked labels of it by itself
abbrev pub AreMarks : CodeName → Expression → List NodeRow → List (List Bool) → Type 0
AreMarks code scheme rows labels = FitsInEach (IsMarked (number_code_of code) scheme) rows labels

-- how many bits a marked label of a connected network of this size has at most
abbrev pub longest_in : CodeName → Expression → Size → ℕ
longest_in code scheme size = longest_of (number_code_of code) scheme size

-- how many bits a marked label has at most, where these are the components
abbrev pub bound_in : CodeName → Expression → List NodeRow → List (List ℕ) → ℕ
bound_in code scheme rows parts = bound_of_parts (longest_in code scheme) rows parts

-- how many bits the marked labels have together at most, where these are the components
abbrev pub room_in : CodeName → Expression → List NodeRow → List (List ℕ) → ℕ
room_in code scheme rows parts = room_of_parts (longest_in code scheme) rows parts

-- labels that show the property of each component: there is one for each node, all nodes accept
-- them, and each is within the bound for its component
pub record Shows (code : CodeName) (scheme : Expression) (rows : List NodeRow)
    (labels : List (List Bool)) : Type 0 where
  pub holds : Holds scheme rows
  pub each : length labels ≡ length rows
  pub accepted : AllAccept (judge_in code scheme) rows labels
  pub short : FitsInEach (AreWithinBound (longest_in code scheme)) rows labels

-- a connected network has the property, and these are its marked labels, which show it: there is
-- one for each node, all nodes accept them, and each is within the bound
pub record IsMarkedWhole (code : CodeName) (scheme : Expression) (rows : List NodeRow)
    (labels : List (List Bool)) : Type 0 where
  pub joined : IsConnected rows
  pub has : HasProperty scheme rows
  pub marked : IsMarked (number_code_of code) scheme rows labels
  pub each : length labels ≡ length rows
  pub accepted : AllAccept (judge_in code scheme) rows labels
  pub short : AreWithinBound (longest_in code scheme) rows labels
