-- The test of the limits of networks tells them.
use Rattle.std.proofs.Common.{◌≡◌, ◌∙◌, Bool, true, false, nat_le, List, length, get_or, sym}
use Rattle.std.specs.List.{list_all}
use Rattle.std.proofs.lemmas.Bool.{and_from, le-leb, leb-true, true≢false}
use Rattle.std.proofs.lemmas.List.Sums.{AllPass-from_list_all, list_all-from_AllPass}
use Rattle.pls_configuration.specs.declared.limits.TheConstants.{MAX_NODES, MAX_NUM, MAX_PORTS}
use Rattle.pls_configuration.specs.declared.row.NodeRow.{NodeRow}
use Rattle.pls_configuration.specs.Configuration.{AreWithinLimits, ports_in}
use Rattle.pls_universal.specs.laws.RuleLaws.{both_pass}
use Rattle.pls.specs.inner.Limits.{is_within_limits}

abbrev is_small : NodeRow → Bool
is_small row = nat_le row.state.num MAX_NUM

-- rows that pass are within the limits
pub within : (rows : List NodeRow) → is_within_limits rows ≡ true → AreWithinLimits rows
within rows is =
    let (counts, small) = both_pass _ (list_all is_small rows) is in
    let (many, ports) = both_pass _ (nat_le (ports_in rows) MAX_PORTS) counts in
    let (some, few) = both_pass (nat_le 1 (length rows)) (nat_le (length rows) MAX_NODES) many in
    record {
      some = leb-true 1 (length rows) some;
      few_nodes = leb-true (length rows) MAX_NODES few;
      few_ports = leb-true (ports_in rows) MAX_PORTS ports;
      small = λ i d at. leb-true (get_or rows i d).state.num MAX_NUM
          (AllPass-from_list_all is_small rows small i d at);
    }

-- rows within the limits pass
passes : (rows : List NodeRow) → AreWithinLimits rows → is_within_limits rows ≡ true
passes rows limits =
    and_from _ (list_all is_small rows)
    (and_from _ (nat_le (ports_in rows) MAX_PORTS)
    (and_from (nat_le 1 (length rows)) (nat_le (length rows) MAX_NODES)
    (le-leb 1 (length rows) limits.some) (le-leb (length rows) MAX_NODES limits.few_nodes))
    (le-leb (ports_in rows) MAX_PORTS limits.few_ports))
    (list_all-from_AllPass is_small rows
    (λ i d at. le-leb (get_or rows i d).state.num MAX_NUM (limits.small i d at)))

-- rows that do not pass are beyond them
pub beyond : (rows : List NodeRow) → is_within_limits rows ≡ false → AreWithinLimits rows → ⊥
beyond rows not limits = absurd (true≢false (sym (passes rows limits) ∙ not))
