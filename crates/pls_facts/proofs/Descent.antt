-- Depths that fall at some neighbour lead to a root.
use Rattle.std.proofs.Common.{◌≡◌, ◌∙◌, ℕ, zero, suc, ◌+◌, List, Contains, refl, sym, ap, arith}
use Rattle.pls_configuration.specs.declared.row.Port.{Port}
use Rattle.pls_configuration.specs.declared.row.NodeRow.{NodeRow}
use Rattle.pls_configuration.specs.Configuration.{IsNetwork}
use Rattle.pls_configuration.specs.Walk.{IsConnected}
use Rattle.pls_facts.specs.Descent.{AreRooted, FallsAtSome, IsTheRoot}
use Rattle.pls_facts.proofs.Agreed.{agree_everywhere}
use Rattle.pls_facts.proofs.Lists.{some_item}
use Rattle.pls_facts.proofs.Neighbours.{neighbour_row}
use Rattle.pls_facts.proofs.Pointed.{id_of_row}

module _ (rows : List NodeRow) (net : IsNetwork rows) where
  -- where each depth above 0 falls at some neighbour, some node is at depth 0
  pub falls_to_0 : (depth : ℕ → ℕ) → FallsAtSome rows depth → (top : ℕ) (row : NodeRow)
      → Contains rows row → depth row.id ≡ top
      → (end : NodeRow) × Contains rows end × (depth end.id ≡ 0)
  falls_to_0 depth falls zero row in' deep = (row, in', deep)
  falls_to_0 depth falls (suc top) row in' deep =
      let (port, has, less) : (port : Port) × Contains row.ports port
      × (depth row.id ≡ depth port.nbr + 1) =
      falls row in' (omega (arith, deep)) in
      let (other, other_in, is) : (other : NodeRow) × Contains rows other × (other.id ≡ port.nbr) =
      neighbour_row rows net row in' port has in
      let same : depth other.id ≡ depth port.nbr = ap depth is in
      falls_to_0 depth falls top other other_in (omega (arith, same, less, deep))

  -- in a connected network they lead to the one root
  pub the_root : IsConnected rows → (root depth : ℕ → ℕ) → AreRooted rows root depth
      → (row : NodeRow) × IsTheRoot rows root depth row
  the_root joined root depth rooted = (
    end.0,
    record {
      in' = end.1;
      at_0 = end.2;
      named = named;
      alone = λ other other_in none. rooted.at_root other other_in none ∙ named other other_in;
    },
  )
    where
      first : (row : NodeRow) × Contains rows row
      first = some_item rows net.limits.some

      end : (end : NodeRow) × Contains rows end × (depth end.id ≡ 0)
      end = falls_to_0 depth rooted.falls (depth first.0.id) first.0 first.1 refl

      named : (other : NodeRow) → Contains rows other → root other.id ≡ end.0.id
      named other other_in =
          agree_everywhere rows root joined rooted.agree other.id end.0.id
          (id_of_row rows other other_in) (id_of_row rows end.0 end.1)
          ∙ sym (rooted.at_root end.0 end.1 end.2)
