-- The theorem of the scheme of the number of nodes.
use Rattle.std.proofs.Common.{◌≡◌, ◌∙◌, ℕ, inl, inr, Bool, List, Contains, Some, slice_get, refl, sym, arith}
use Rattle.std.proofs.lemmas.Bool.{cases_eq}
use Rattle.pls_bits.specs.NumberCode.{Grows, IsShort}
use Rattle.pls_configuration.specs.declared.row.NodeRow.{NodeRow}
use Rattle.pls_configuration.specs.Configuration.{ids_of}
use Rattle.pls_configuration.specs.Walk.{edges_of}
use Rattle.pls_graph.specs.Size.{size_of}
use Rattle.pls_scheme.specs.Basic.{longest_by}
use Rattle.pls_scheme.specs.Theorem.{OneIsRight, RightFits, RulesAreMet}
use Rattle.pls_scheme.proofs.Fitting.{within_fits}
use Rattle.pls_facts.specs.NodeCount.{AreCounted}
use Rattle.pls_facts.specs.Parents.{ChainMeets}
use Rattle.pls_facts.proofs.Levels.{one_level}
use Rattle.pls_graph.proofs.Finds.{item_at}
use Rattle.pls_facts.proofs.ParentLines.{AreSoMany-one}
use Rattle.pls_leader.specs.Count.{IsCounted, IsParent, count_limits, count_of, count_rules, count_says, count_shape}
use Rattle.pls_leader.specs.laws.CountRight.{rules_met, within_limits}

-- labels of equal parts are equal
label_is : (r o p d s t a b c e f g : ℕ) → r ≡ a → o ≡ b → p ≡ c → d ≡ e → s ≡ f → t ≡ g
    → count_of r o p d s t ≡ count_of a b c e f g
label_is r o p d s t a b c e f g one two three four five six =
    rw (one, two, three, four, five, six) refl

-- where what is said is right, the rules hold
pub count_met : RulesAreMet count_rules AreCounted count_says
count_met rows net joined counted say right row in' = rules_met rows net say right counted row in'

-- one label is right for a node
pub count_one_right : OneIsRight AreCounted count_says
count_one_right rows net joined counted row one other in' mine theirs =
    label_is one.root one.own one.parent one.depth one.size one.total other.root other.own
    other.parent other.depth other.size other.total (a.root_is ∙ sym b.root_is)
    (a.own ∙ sym b.own) parents
    (one_level (edges_of rows) first.0.id row.id one.depth other.depth a.depth b.depth)
    (AreSoMany-one
    (λ id. Contains (ids_of rows) id × ChainMeets (IsParent rows first.0.id) id row.id) one.size
    other.size a.size b.size)
    (a.total ∙ sym b.total)
  where
    first : (first : NodeRow) × (slice_get rows 0 ≡ Some first)
    first = item_at rows 0 (let some = net.limits.some in omega (arith, some))

    a : IsCounted rows first.0.id row one
    a = mine first.0 first.1

    b : IsCounted rows first.0.id row other
    b = theirs first.0 first.1

    parents : one.parent ≡ other.parent
    parents = elim (cases_eq row.id first.0.id) [
      | inl at ↦ a.at_root at ∙ sym (b.at_root at)
      | inr apart ↦
          let up = a.parent apart in
          let also = b.parent apart in
          let less = up.smallest other.parent also.beside also.nearer in
          let more = also.smallest one.parent up.beside up.nearer in
          omega (arith, less, more)
    ]

-- what is right is short
pub count_fits : (code : ℕ → List Bool) → Grows code → IsShort code
    → RightFits count_shape code AreCounted count_says
    (longest_by count_shape count_limits code)
count_fits code grows short rows net joined counted words say right row in' =
    let low = within_limits rows net say right row in' in
    let id_small = words.max_id in
    let few = net.limits.few_nodes in
    within_fits code grows short count_shape (say row.id) (count_limits (size_of rows)) refl
    tt (omega arith) (
      low.0,
      omega (arith, id_small),
      (
        low.1,
        omega (arith, id_small),
        (
          low.2,
          omega (arith, id_small),
          (
            low.3,
            omega (arith, few),
            (
              low.4,
              omega (arith, few),
              (low.5, omega (arith, few), tt),
            ),
          ),
        ),
      ),
    )
