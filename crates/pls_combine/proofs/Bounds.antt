-- How long marked labels are at most.
use Rattle.std.proofs.Common.{ℕ, ◌+◌, ◌*◌, ◌^◌, ◌≤◌, Bool, List, [], ◌∷◌, length, arith}
use Rattle.std.proofs.Common.{mul-le-mul}
use Rattle.pls_bits.specs.NumberCode.{IsShort}
use Rattle.std.proofs.lemmas.List.Elements.{All-contains}
use Rattle.pls_configuration.specs.declared.limits.TheConstants.{MAX_NUM, MAX_PORTS}
use Rattle.pls_configuration.specs.declared.row.NodeRow.{NodeRow}
use Rattle.pls_configuration.specs.Configuration.{IsNetwork}
use Rattle.pls_graph.specs.Size.{size_of}
use Rattle.pls_facts.proofs.Greatest.{greatest_in_sum, greatest_within}
use Rattle.pls_universal.specs.Bound.{longest_map}
use Rattle.pls_scheme.specs.Theorem.{AreWords}
use Rattle.pls_scheme.specs.Length.{code_length, codes_length}
use Rattle.pls_names.specs.laws.NamedLaws.{laws_of}
use Rattle.pls_names.specs.laws.ShortCodes.{are_short, short_code}
use Rattle.pls_expressions.specs.Expression.{And, Bridgeless, Diameter, Expression, IsSmall, Map, Of, Or}
use Rattle.pls_combine.specs.Expression.{leaves_of, longest_of}
use Rattle.pls_combine.proofs.Leaves.{leaves_few}

leaf_some : (scheme : Expression) → 1 ≤ leaves_of scheme
leaf_some (Of name) = omega arith
leaf_some (Diameter most) = omega arith
leaf_some Bridgeless = omega arith
leaf_some (Map property) = omega arith
leaf_some (And first second) = omega (arith, leaf_some first)
leaf_some (Or first second) = omega (arith, leaf_some first)

module _ (code : ℕ → List Bool) (short : IsShort code) (rows : List NodeRow) (net : IsNetwork rows)
    (words : AreWords (size_of rows)) where
  -- a number of the network has a short code
  code_of : (number : ℕ) → number ≤ 2 ^ 62 → code_length code number ≤ 125
  code_of number small = short_code code short number (omega (arith, small))

  ids : code_length code (size_of rows).max_id ≤ 125
  ids = code_of (size_of rows).max_id (omega (arith, words.max_id))

  nodes : code_length code (length rows) ≤ 125
  nodes = code_of (length rows) (omega (arith, net.limits.few_nodes))

  degree_small : (size_of rows).max_degree ≤ MAX_PORTS
  degree_small =
      let sum = greatest_in_sum (λ (row : NodeRow). length row.ports) rows in
      omega (arith, sum, net.limits.few_ports)

  degrees : code_length code (size_of rows).max_degree ≤ 125
  degrees = code_of (size_of rows).max_degree (omega (arith, degree_small))

  marks : code_length code (size_of rows).max_mark ≤ 125
  marks = code_of (size_of rows).max_mark (omega (arith, words.max_mark))

  num_small : (size_of rows).max_num ≤ MAX_NUM
  num_small = greatest_within (λ (row : NodeRow). row.state.num) rows MAX_NUM
      (λ row in'. All-contains (λ (row : NodeRow). row.state.num ≤ MAX_NUM) rows row net.limits.small in')

  nums : code_length code (size_of rows).max_num ≤ 125
  nums = code_of (size_of rows).max_num num_small

  weights : code_length code (size_of rows).max_weight ≤ 125
  weights = code_of (size_of rows).max_weight (omega (arith, words.max_weight))

  -- no label with a map has more than 2^27 bits less 128
  short_map : longest_map code (size_of rows) + 128 ≤ 2 ^ 27
  short_map =
      let heads = mul-le-mul net.limits.few_nodes head in
      let ports = mul-le-mul net.limits.few_ports port in
      omega (arith, front, heads, ports)
    where
      front : codes_length code [] ((size_of rows).max_id ∷ length rows ∷ []) ≤ 250
      front = omega (arith, ids, nodes)

      head : codes_length code [] ((size_of rows).max_id ∷ (size_of rows).max_degree
          ∷ (size_of rows).max_mark ∷ (size_of rows).max_num ∷ (size_of rows).max_degree ∷ []) ≤ 625
      head = omega (arith, ids, degrees, marks, nums)

      port : codes_length code [] ((size_of rows).max_id ∷ (size_of rows).max_weight ∷ []) ≤ 250
      port = omega (arith, ids, weights)

  -- an expression has at most 2^27 bits for each of its leaves
  expression_bound : (scheme : Expression) → leaves_of scheme ≤ 8
      → longest_of code scheme (size_of rows) + 128 ≤ 2 ^ 27 * leaves_of scheme
  expression_bound (Of name) few =
      let one = (laws_of name).short code (size_of rows)
      (are_short code short (size_of rows) net.limits.few_nodes words) in
      omega (arith, one)
  expression_bound (Diameter most) few = omega (arith, short_map)
  expression_bound Bridgeless few = omega (arith, short_map)
  expression_bound (Map property) few = omega (arith, short_map)
  expression_bound (And first second) few =
      let some = leaf_some second in
      let one = expression_bound first (omega (arith, few)) in
      let two = expression_bound second (omega (arith, few)) in
      let length_code = code_of (longest_of code first (size_of rows)) (omega (arith, few, one)) in
      omega (arith, length_code, one, two)
  expression_bound (Or first second) few =
      let one = expression_bound first (omega (arith, few)) in
      let two = expression_bound second (omega (arith, few)) in
      let a = leaf_some first in
      let b = leaf_some second in
      omega (arith, one, two, a, b)

-- no small expression's bound is above 2^30 bits
pub short_expression : (code : ℕ → List Bool) → IsShort code → (scheme : Expression)
    (rows : List NodeRow) → IsSmall scheme → IsNetwork rows → AreWords (size_of rows)
    → longest_of code scheme (size_of rows) ≤ 2 ^ 30
short_expression code short scheme rows small net words =
    let few : leaves_of scheme ≤ 8 = omega (arith, small.few, leaves_few scheme) in
    let whole = expression_bound code short rows net words scheme few in
    omega (arith, whole, few)
