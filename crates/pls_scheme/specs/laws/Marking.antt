-- From what labels say to the laws of a scheme.
use Rattle.std.proofs.Common.{◌≡◌, ◌∙◌, ℕ, Bool, List, slice_get, Contains, Option, Some, sym, subst, arith}
use Rattle.std.proofs.lemmas.Option.{same_Some, slice_get_within}
use Rattle.pls_configuration.specs.declared.row.NodeRow.{NodeRow}
use Rattle.pls_graph.proofs.Members.{Contains-from_place}
use Rattle.pls_labels.specs.Seen.{label_of}
use Rattle.pls_graph.proofs.Finds.{item_at}
use Rattle.pls_facts.proofs.Lists.{same_at_places, some_item}
use Rattle.pls_scheme.specs.SchemeLaws.{AreOneLabel, HaveOneSpelling, IsMarkedOnce, IsSound, SaysWhatIsSpelled}
use Rattle.pls_scheme.specs.Marked.{IsMarkedBy}
use Rattle.pls_scheme.specs.Reading.{Read, judge_by}
use Rattle.pls_scheme.specs.Theorem.{OneIsRight, RulesShow}
use Rattle.pls_scheme.specs.laws.Saying.{accepted_one, accepted_say, say_of}

-- bits say one label at most
pub one_said : {L : Type 0} (said : List Bool → Option L) (spells : List Bool → L → Type 0)
    → SaysWhatIsSpelled said spells → AreOneLabel spells
one_said said spells law bits a b first second =
    same_Some a b (sym ((law bits a).1 first) ∙ (law bits b).1 second)

-- where rules show a property, verdicts by them do
pub sound_by : {L : Type 0} (read : List Bool → Option L) (rules : Read L → List Bool)
    (holds : List NodeRow → Type 0) → RulesShow rules holds → IsSound (judge_by read rules) holds
sound_by {L} read rules holds show rows labels net joined each accepted =
    show rows net joined say
    (λ row in'. (accepted_say read rules rows labels other accepted row in').1)
  where
    first : (row : NodeRow) × Contains rows row
    first = some_item rows net.limits.some

    other : L
    other = (accepted_one read rules rows labels accepted first.0 first.1).0

    say : ℕ → L
    say id = say_of read rules (label_of rows labels) other id

-- where one label is right for each node, and has one spelling, rows are marked in one way
one_marking : {L : Type 0} (spells : List Bool → L → Type 0) (says : NodeRow → L → Type 0)
    (rows : List NodeRow) (labels others : List (List Bool))
    → ((label : L) (a b : List Bool) → spells a label → spells b label → a ≡ b)
    → ((row : NodeRow) (one two : L) → Contains rows row → says row one → says row two → one ≡ two)
    → IsMarkedBy spells says rows labels → IsMarkedBy spells says rows others → labels ≡ others
one_marking {L} spells says rows labels others spelling only mine theirs =
    same_at_places labels others (mine.each ∙ sym theirs.each) agree
  where
    agree : (place : ℕ) (a b : List Bool) → slice_get labels place ≡ Some a
        → slice_get others place ≡ Some b → a ≡ b
    agree place a b at_a at_b =
        let (row, at) : (row : NodeRow) × (slice_get rows place ≡ Some row) =
        item_at rows place (omega (arith, slice_get_within labels place a at_a, mine.each)) in
        let one = mine.label place row a at at_a in
        let two = theirs.label place row b at at_b in
        let same : one.0 ≡ two.0 =
        only row one.0 two.0 (Contains-from_place rows place row at) one.2 two.2 in
        spelling two.0 a b (subst (spells a) same one.1) two.1

-- where one label is right for each node, and has one spelling, networks are marked in one way
pub marked_once : {L : Type 0} (spells : List Bool → L → Type 0) (holds : List NodeRow → Type 0)
    (says : List NodeRow → NodeRow → L → Type 0) → HaveOneSpelling spells → OneIsRight holds says
    → IsMarkedOnce holds (λ rows labels. IsMarkedBy spells (says rows) rows labels)
marked_once spells holds says spelling right rows labels others net joined has mine theirs =
    one_marking spells (says rows) rows labels others spelling (right rows net joined has) mine
    theirs
