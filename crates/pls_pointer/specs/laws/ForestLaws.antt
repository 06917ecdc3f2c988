-- The theorem of the scheme of forests.
use Rattle.std.proofs.Common.{ℕ, ◌<◌, ◌==◌, Bool, List, length, refl, ap, arith}
use Rattle.std.proofs.lemmas.Bool.{eq-eqb}
use Rattle.pls_bits.specs.NumberCode.{Grows, IsShort}
use Rattle.pls_graph.specs.Size.{size_of}
use Rattle.pls_scheme.specs.Basic.{longest_by}
use Rattle.pls_scheme.specs.Theorem.{OneIsRight, RightFits, RulesAreMet, RulesShow}
use Rattle.pls_scheme.proofs.Fitting.{within_fits}
use Rattle.pls_facts.proofs.Bounded.{IsChainOf-short}
use Rattle.pls_facts.proofs.ChainDepths.{chain_of_root, chains_fall}
use Rattle.pls_facts.proofs.Chains.{Falls-NoneReturns, IsChainOf-one}
use Rattle.pls_pointer.specs.declared.forest.ForestLabel.{ForestLabel}
use Rattle.pls_pointer.specs.Forest.{IsForest, forest_limits, forest_rules, forest_says, forest_shape}
use Rattle.pls_pointer.specs.inner.Saying.{forest_label_at}
use Rattle.pls_pointer.specs.laws.PointingLaws.{deeper_falls, falls_deeper, points_or}

-- where the rules hold everywhere, no chain of pointers returns
pub forest_show : RulesShow forest_rules IsForest
forest_show rows net joined say hold =
    Falls-NoneReturns rows (λ id. (say id).depth)
    (deeper_falls (λ (label : ForestLabel). label.depth) say rows net
    (λ row in'. (hold row in').1.0))

-- where what is said is right, the rules hold
pub forest_met : RulesAreMet forest_rules IsForest forest_says
forest_met rows net joined forest say right row in' = (
  points_or row ((say row.id).depth == 0)
      (λ none. eq-eqb (say row.id).depth 0
      (chain_of_root rows net row in' none (right row in').0 (say row.id).depth
      (right row in').1)),
  (
    falls_deeper (λ (label : ForestLabel). label.depth) say rows net
        (chains_fall rows net (λ id. (say id).depth) right) row in',
    tt,
  ),
)

-- one label is right for a node
pub forest_one_right : OneIsRight IsForest forest_says
forest_one_right rows net joined forest row one other in' mine theirs =
    ap forest_label_at
    (IsChainOf-one rows row.id mine.0 theirs.0 one.depth other.depth mine.1 theirs.1).1

-- what is right is short
pub forest_fits : (code : ℕ → List Bool) → Grows code → IsShort code
    → RightFits forest_shape code IsForest forest_says
    (longest_by forest_shape forest_limits code)
forest_fits code grows short rows net joined forest words say right row in' =
    let (last, chain) = right row in' in
    let below : (say row.id).depth < length rows =
    IsChainOf-short rows net row.id last (say row.id).depth chain in
    within_fits code grows short forest_shape (say row.id) (forest_limits (size_of rows)) refl
    tt (omega arith) (omega (arith, below), omega (arith, net.limits.few_nodes), tt)
