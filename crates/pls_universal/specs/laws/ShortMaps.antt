-- The numbers of a network's map have codes, and the label of a node with the map is no longer than
-- the bound.
use Rattle.std.proofs.Common.{◌≡◌, ◌∙◌, ℕ, ◌≤◌, ◌+◌, ◌*◌, ◌++◌, Bool, List, [], ◌∷◌, map, flat_map, length, Contains, Option, Some, None, refl, sym, ap, subst, arith, suc-mul, length-append}
use Rattle.std.proofs.Math.Nat.{add-mul}
use Rattle.std.proofs.lemmas.List.{length-map}
use Rattle.std.proofs.lemmas.List.Concat.{flat_map-cons}
use Rattle.std.proofs.lemmas.List.Elements.{All-contains}
use Rattle.std.proofs.lemmas.List.Sums.{sum_by-cons}
use Rattle.pls_bits.specs.declared.num_code.TheConstants.{MAX_CODED}
use Rattle.pls_bits.specs.NumberCode.{Grows, IsShort}
use Rattle.pls_configuration.specs.declared.limits.TheConstants.{MAX_NUM}
use Rattle.pls_configuration.specs.declared.row.Port.{Port}
use Rattle.pls_configuration.specs.declared.row.NodeRow.{NodeRow}
use Rattle.pls_configuration.specs.Configuration.{IsNetwork, ids_of, ports_in}
use Rattle.pls_graph.specs.Size.{degrees_of, greatest, size_of, weights_of}
use Rattle.pls_graph.proofs.Members.{Contains-first, Contains-flat_map, Contains-later, Contains-map, place_from_Contains}
use Rattle.pls_graph.proofs.Placed.{pointer_within}
use Rattle.pls_facts.proofs.Greatest.{greatest_in_sum, greatest_within, in_greatest}
use Rattle.pls_facts.proofs.Neighbours.{neighbour_row, within_greatest}
use Rattle.pls_numbers.specs.Numbers.{AreCoded, codes_of}
use Rattle.pls_numbers.specs.Shape.{Shape}
use Rattle.pls_numbers.specs.laws.CodeLaws.{codes_of-append}
use Rattle.pls_scheme.specs.Length.{codes_length}
use Rattle.pls_scheme.specs.Theorem.{AreWords}
use Rattle.pls_scheme.proofs.Fitting.{AreWithin, within_fits}
use Rattle.pls_universal.specs.Bound.{longest_map}
use Rattle.pls_universal.specs.Map.{map_of, numbers_of_label, numbers_of_map, numbers_of_port, numbers_of_row, port_stated, row_stated, up_stated}
use Rattle.pls_universal.specs.Reading.{map_label_with}

-- the numbers of a record in front of its ports
abbrev head_of : NodeRow → List ℕ
head_of row = row.id ∷ up_stated row.state.up ∷ row.state.mark ∷ row.state.num
    ∷ length (map port_stated row.ports) ∷ []

-- numbers that have codes, one behind the other
coded_both : (one other : List ℕ) → AreCoded [] one → AreCoded [] other
    → AreCoded [] (one ++ other)
coded_both [] other first second = second
coded_both (number ∷ one) other first second = (first.0, coded_both one other first.1 second)

-- those of items, as a record or a map states them
coded_stated : {X Y : Type 0} (stated : X → Y) (numbers : Y → List ℕ) (items : List X)
    → ((item : X) → Contains items item → AreCoded [] (numbers (stated item)))
    → AreCoded [] (flat_map numbers (map stated items))
coded_stated stated numbers [] each = tt
coded_stated stated numbers (item ∷ items) each =
    let others : AreCoded [] (flat_map numbers (map stated items)) =
    coded_stated stated numbers items
    (λ other in'. each other (Contains-later item items other in')) in
    subst (AreCoded []) (sym (flat_map-cons numbers (stated item) (map stated items)))
    (coded_both (numbers (stated item)) (flat_map numbers (map stated items))
    (each item (Contains-first item items)) others)

-- lists of numbers, each in code
abbrev lists : Shape (List ℕ)
lists = record {
  kinds = [];
  numbers = λ list. list;
  Proper = λ _. Unit {0};
  of_numbers = Some;
}

module _ (code : ℕ → List Bool) where
  -- how long the codes of numbers are
  abbrev long : List ℕ → ℕ
  long numbers = length (codes_of code [] numbers)

  long_both : (one other : List ℕ) → long (one ++ other) ≡ long one + long other
  long_both one other = ap length (codes_of-append code one other)
      ∙ length-append (codes_of code [] one) (codes_of code [] other)

  -- so many ports, each at most so long
  ports_short : (ports : List Port) (most : ℕ)
      → ((port : Port) → Contains ports port → long (numbers_of_port (port_stated port)) ≤ most)
      → long (flat_map numbers_of_port (map port_stated ports)) ≤ length ports * most
  ports_short [] most each = omega arith
  ports_short (port ∷ ports) most each =
      let all = ap long (flat_map-cons numbers_of_port (port_stated port) (map port_stated ports)) in
      let both = long_both (numbers_of_port (port_stated port))
      (flat_map numbers_of_port (map port_stated ports)) in
      let here = each port (Contains-first port ports) in
      let rest = ports_short ports most
      (λ other in'. each other (Contains-later port ports other in')) in
      let one = suc-mul (length ports) most in
      omega (arith, all, both, here, rest, one)

  -- so many rows
  rows_short : (rows : List NodeRow) (head most : ℕ)
      → ((row : NodeRow) → Contains rows row → long (head_of row) ≤ head)
      → ((row : NodeRow) → Contains rows row → (port : Port) → Contains row.ports port
      → long (numbers_of_port (port_stated port)) ≤ most)
      → long (flat_map numbers_of_row (map_of rows)) ≤ length rows * head + ports_in rows * most
  rows_short [] head most heads each = omega arith
  rows_short (row ∷ rows) head most heads each =
      let all = ap long (flat_map-cons numbers_of_row (row_stated row) (map_of rows)) in
      let both = long_both (numbers_of_row (row_stated row))
      (flat_map numbers_of_row (map_of rows)) in
      let parts = long_both (head_of row) (flat_map numbers_of_port (map port_stated row.ports)) in
      let here = heads row (Contains-first row rows) in
      let ports = ports_short row.ports most (each row (Contains-first row rows)) in
      let rest = rows_short rows head most
      (λ other in'. heads other (Contains-later row rows other in'))
      (λ other in'. each other (Contains-later row rows other in')) in
      let one = suc-mul (length rows) head in
      let count = ap (λ (n : ℕ). n * most)
      (sum_by-cons (λ (row : NodeRow). length row.ports) row rows) in
      let sum = add-mul (length row.ports) (ports_in rows) most in
      omega (arith, all, both, parts, here, ports, rest, one, count, sum)

module _ (code : ℕ → List Bool) (grows : Grows code) (short : IsShort code)
    (rows : List NodeRow) (net : IsNetwork rows) (words : AreWords (size_of rows)) where
  -- numbers within others that have codes have codes, and no longer ones
  within_long : (numbers limits : List ℕ) → length numbers ≤ 255 → AreWithin numbers limits
      → AreCoded [] numbers × (length (codes_of code [] numbers) ≤ codes_length code [] limits)
  within_long numbers limits few within =
      let fits = within_fits code grows short lists numbers limits refl tt few within in
      let most = fits.short in (fits.writable.coded, omega (arith, most))

  id_in : (row : NodeRow) → Contains rows row → row.id ≤ greatest (ids_of rows)
  id_in row in' = within_greatest (λ (row : NodeRow). row.id) rows row in'

  id_coded : greatest (ids_of rows) ≤ MAX_CODED
  id_coded = let most = words.max_id in omega (arith, most)

  degree_coded : greatest (degrees_of rows) ≤ MAX_CODED
  degree_coded =
      let sum = greatest_in_sum (λ (row : NodeRow). length row.ports) rows in
      let few = net.limits.few_ports in
      omega (arith, sum, few)

  num_coded : greatest (map (λ row. row.state.num) rows) ≤ MAX_CODED
  num_coded =
      let most = greatest_within (λ (row : NodeRow). row.state.num) rows MAX_NUM
      (λ row in'. All-contains (λ (row : NodeRow). row.state.num ≤ MAX_NUM) rows row
      net.limits.small in') in
      omega (arith, most)

  -- a pointer is stated by at most the degree
  up_in : (row : NodeRow) → Contains rows row → up_stated row.state.up ≤ length row.ports
  up_in row in' = by row.state.up refl
    where
      by : (up : Option ℕ) → row.state.up ≡ up → up_stated up ≤ length row.ports
      by None is = omega arith
      by (Some port) is =
          let (i, at) = place_from_Contains rows row in' in
          let less = pointer_within rows net i row at port is in
          omega (arith, less)

  head_within : (row : NodeRow) → Contains rows row
      → AreCoded [] (head_of row) × (long code (head_of row)
      ≤ codes_length code [] (greatest (ids_of rows) ∷ greatest (degrees_of rows)
      ∷ greatest (map (λ row. row.state.mark) rows) ∷ greatest (map (λ row. row.state.num) rows)
      ∷ greatest (degrees_of rows) ∷ []))
  head_within row in' =
      let degree = within_greatest (λ (row : NodeRow). length row.ports) rows row in' in
      let mark = within_greatest (λ (row : NodeRow). row.state.mark) rows row in' in
      let num = within_greatest (λ (row : NodeRow). row.state.num) rows row in' in
      let up = up_in row in' in
      let many = length-map row.ports port_stated in
      let marks = words.max_mark in
      within_long (head_of row) (greatest (ids_of rows) ∷ greatest (degrees_of rows)
      ∷ greatest (map (λ (row : NodeRow). row.state.mark) rows)
      ∷ greatest (map (λ (row : NodeRow). row.state.num) rows) ∷ greatest (degrees_of rows) ∷ [])
      (omega arith) (
        id_in row in',
        id_coded,
        (
          omega (arith, up, degree),
          degree_coded,
          (
            mark,
            omega (arith, marks),
            (num, num_coded, (omega (arith, many, degree), degree_coded, tt)),
          ),
        ),
      )

  port_within : (row : NodeRow) → Contains rows row → (port : Port) → Contains row.ports port
      → AreCoded [] (numbers_of_port (port_stated port))
      × (long code (numbers_of_port (port_stated port))
      ≤ codes_length code [] (greatest (ids_of rows) ∷ greatest (weights_of rows) ∷ []))
  port_within row in' port has =
      let (other, there, is) = neighbour_row rows net row in' port has in
      let weight : port.weight ≤ greatest (weights_of rows) =
      in_greatest (weights_of rows) port.weight
      (Contains-map (λ (port : Port). port.weight) (flat_map (λ (row : NodeRow). row.ports) rows)
      port (Contains-flat_map (λ (row : NodeRow). row.ports) rows row port in' has)) in
      let weights = words.max_weight in
      within_long (numbers_of_port (port_stated port))
      (greatest (ids_of rows) ∷ greatest (weights_of rows) ∷ []) (omega arith) (
        subst (λ (id : ℕ). id ≤ greatest (ids_of rows)) is (id_in other there),
        id_coded,
        (weight, omega (arith, weights), tt),
      )

  -- the numbers of the map have codes
  pub map_coded : AreCoded [] (numbers_of_map (map_of rows))
  map_coded =
      let many = length-map rows row_stated in
      let few = net.limits.few_nodes in (
        omega (arith, many, few),
        coded_stated row_stated numbers_of_row rows (λ row in'.
            coded_both (head_of row) (flat_map numbers_of_port (map port_stated row.ports))
            (head_within row in').0
            (coded_stated port_stated numbers_of_port row.ports
            (λ port has. (port_within row in' port has).0))),
      )

  -- the label of a node is within the bound
  pub map_short : (row : NodeRow) → Contains rows row
      → length (codes_of code [] (numbers_of_label (map_label_with row.id (map_of rows))))
      ≤ longest_map code (size_of rows)
  map_short row in' =
      let many = length-map rows row_stated in
      let few = net.limits.few_nodes in
      let front = within_long (row.id ∷ length (map_of rows) ∷ [])
      (greatest (ids_of rows) ∷ length rows ∷ []) (omega arith) (
        id_in row in',
        id_coded,
        (omega (arith, many), omega (arith, few), tt),
      ) in
      let rest = rows_short code rows _ _ (λ row in'. (head_within row in').1)
      (λ row in' port has. (port_within row in' port has).1) in
      let both = long_both code (row.id ∷ length (map_of rows) ∷ [])
      (flat_map numbers_of_row (map_of rows)) in
      let first = front.1 in
      omega (arith, first, rest, both)
