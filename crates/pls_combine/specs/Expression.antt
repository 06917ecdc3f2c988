-- Expressions as schemes, over any code of numbers: what a node judges, the marker's labels and how
-- long they are. The view of a part is the same view with each label replaced by its part. A
-- property that has no scheme of its own is judged and marked as its `map` is.
use Rattle.std.specs.Prelude.{ℕ, ◌+◌, ◌&&◌, true, false, Bool, List, Option}
use Rattle.pls_configuration.specs.declared.row.NodeRow.{NodeRow}
use Rattle.pls_configuration.specs.declared.verdict.Verdict.{Verdict}
use Rattle.pls_graph.specs.declared.size.Size.{Size}
use Rattle.pls_labels.specs.Seen.{Seen}
use Rattle.pls_numbers.specs.Shape.{IsSpelled, said_by}
use Rattle.pls_scheme.specs.Marked.{IsMarkedBy}
use Rattle.pls_scheme.specs.Reading.{judge_by}
use Rattle.pls_universal.specs.Bound.{longest_map}
use Rattle.pls_universal.specs.Reading.{map_shape}
use Rattle.pls_universal.specs.Rules.{map_rules, map_says}
use Rattle.pls_names.specs.Named.{IsNamedMarked, judge_named, longest_named}
use Rattle.pls_expressions.specs.Expression.{Expression, And, HasProperty, Of, Or, test_of}
use Rattle.pls_parts.specs.Combined.{judge_both, judge_one_of}
use Rattle.pls_parts.specs.Joined.{AreLabelsOfBoth, longest_both}
use Rattle.pls_parts.specs.Tagged.{AreOneOf, longest_one_of}

-- how many leaves an expression has: a verdict names one by its number, from the left
abbrev pub leaves_of : Expression → ℕ
leaves_of (And first second) = leaves_of first + leaves_of second
leaves_of (Or first second) = leaves_of first + leaves_of second
leaves_of leaf = 1

-- the verdict of the universal scheme of a property on a view
abbrev pub judge_map : (List Bool → Option (ℕ × List Bool)) → Expression → Seen → Verdict
judge_map takes property view =
    judge_by (said_by map_shape takes) (map_rules (test_of property)) view

-- the verdict on a view
abbrev pub judge_of : (List Bool → Option (ℕ × List Bool)) → Expression → Seen → Verdict
judge_of takes (Of name) view = judge_named takes name view
judge_of takes (And first second) view =
    judge_both takes (judge_of takes first) (leaves_of first) (judge_of takes second) view
judge_of takes (Or first second) view =
    judge_one_of (judge_of takes first) (leaves_of first) (judge_of takes second) view
judge_of takes property view = judge_map takes property view

-- each label has the identity of its node and the map of the network
abbrev pub IsMapMarked : (ℕ → List Bool) → List NodeRow → List (List Bool) → Type 0
IsMapMarked code rows labels =
    IsMarkedBy (IsSpelled map_shape code) (map_says rows) rows labels

-- each label says what is right for its node: a connected network with the property has one list of
-- such labels; without the property none may be such, or one, or any
abbrev pub IsMarked : (ℕ → List Bool) → Expression → List NodeRow → List (List Bool) → Type 0
IsMarked code (Of name) rows labels = IsNamedMarked code name rows labels
IsMarked code (And first second) rows labels =
    AreLabelsOfBoth code (IsMarked code first) (IsMarked code second) rows labels
IsMarked code (Or first second) rows labels =
    AreOneOf (HasProperty first) (IsMarked code first) (IsMarked code second) rows labels
IsMarked code property rows labels = IsMapMarked code rows labels

-- how many bits a marked label has at most, in a network of this size: within the limits it is far
-- below 2^64, so that `capped` changes nothing
abbrev pub longest_of : (ℕ → List Bool) → Expression → Size → ℕ
longest_of code (Of name) size = longest_named code name size
longest_of code (And first second) size =
    longest_both code (longest_of code first size) (longest_of code second size)
longest_of code (Or first second) size =
    longest_one_of (longest_of code first size) (longest_of code second size)
longest_of code property size = longest_map code size

-- whether a view of at most 8 ports is judged without memory
abbrev pub lends_of : Expression → Bool
lends_of (Of name) = true
lends_of (And first second) = lends_of first && lends_of second
lends_of (Or first second) = lends_of first && lends_of second
lends_of property = false
