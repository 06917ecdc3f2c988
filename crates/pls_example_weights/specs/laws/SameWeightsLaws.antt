-- The theorem of the scheme of same weights.
use Rattle.std.proofs.Common.{◌≡◌, ◌∙◌, ℕ, ◌<◌, ◌≤◌, nat_le, Bool, true, false, if◌then◌else◌, List, [], ◌∷◌, length, map, take, get_or, All, Contains, Some, None, refl, sym, ap, subst, arith}
use Rattle.std.specs.Str.{bytes_eq}
use Rattle.std.proofs.lemmas.Bool.{le-leb, leb-true, lt-leb}
use Rattle.std.proofs.lemmas.List.{length-take}
use Rattle.std.proofs.lemmas.Simd.{map-map}
use Rattle.std.proofs.lemmas.Slice.Eq.{bytes_eq-Decides}
use Rattle.pls_bits.specs.NumberCode.{Grows, IsShort}
use Rattle.pls_numbers.specs.Fixed.{so_many}
use Rattle.pls_numbers.specs.Numbers.{NumbersLeft, with_number}
use Rattle.pls_numbers.specs.Shape.{AreItsNumbers, if_clean}
use Rattle.pls_numbers.specs.laws.FixedLaws.{so_many-all, so_many-only}
use Rattle.pls_configuration.specs.declared.row.NodeRow.{NodeRow}
use Rattle.pls_configuration.specs.declared.row.Port.{Port}
use Rattle.pls_configuration.specs.Configuration.{IsNetwork}
use Rattle.pls_scheme.specs.Basic.{longest_by}
use Rattle.pls_scheme.specs.Reading.{ReadPort, port_where}
use Rattle.pls_scheme.specs.Theorem.{HoldEverywhere, OneIsRight, RightFits, RulesAreMet, RulesShow}
use Rattle.pls_scheme.proofs.SaidPorts.{all_ports_pass, passes_port}
use Rattle.pls_facts.proofs.Agreed.{agree_everywhere}
use Rattle.pls_facts.proofs.Neighbours.{neighbour_row}
use Rattle.pls_facts.proofs.Pointed.{id_of_row}
use Rattle.pls_facts.proofs.Greatest.{in_greatest}
use Rattle.pls_graph.specs.Size.{greatest, weights_of}
use Rattle.pls_graph.proofs.Members.{Contains-flat_map, Contains-from_place, Contains-map}
use Rattle.pls_streams.specs.Steps.{capped}
use Rattle.pls_bits.specs.declared.num_code.TheConstants.{MAX_CODED}
use Rattle.pls_scheme.specs.Length.{codes_length}
use Rattle.pls_scheme.specs.Marked.{Fits}
use Rattle.pls_scheme.proofs.Fitting.{AreWithin, within_fits}
use Rattle.std.specs.List.{flat_map}
use Rattle.std.proofs.lemmas.Option.{slice_get-get_or}
use Rattle.std.proofs.lemmas.List.Elements.{All-from_get_or, All-head, All-map, All-tail, All-take}
use Rattle.pls_example_weights.specs.SameWeights.{HaveSameWeights, first_weights, numbers_of_weights, same_weights_limits, same_weights_rules, same_weights_says, says_weights, seen_weights, weights_of_numbers, weights_shape}

-- lists that pass the test are the same, and the other way round
same-there : (one other : List ℕ) → bytes_eq one other ≡ true → one ≡ other
same-there one other = (bytes_eq-Decides one other).0

same-back : (one other : List ℕ) → one ≡ other → bytes_eq one other ≡ true
same-back one other = (bytes_eq-Decides one other).1

-- numbers are a label exactly where they are its own, and few
pub weights_numbers : AreItsNumbers weights_shape
weights_numbers list label = (only list, back)
  where
    counted : (count : ℕ) (rest : List ℕ) (few : Bool) → nat_le count 4 ≡ few
        → (if few then so_many count rest else None) ≡ Some label
        → (count ∷ rest ≡ numbers_of_weights label) × (length label ≤ 4)
    counted count rest false few is = absurd (cc)
    counted count rest true few is =
        let its = so_many-only count rest label is in
        let small = leb-true count 4 few in (
          ap (λ (count : ℕ). count ∷ rest) (sym its.1) ∙ ap (λ (rest : List ℕ). length label ∷ rest) its.0,
          omega (arith, small, its.1),
        )

    only : (list : List ℕ) → weights_of_numbers list ≡ Some label
        → (list ≡ numbers_of_weights label) × (length label ≤ 4)
    only [] is = absurd (cc)
    only (count ∷ rest) is = counted count rest (nat_le count 4) refl is

    back : (list ≡ numbers_of_weights label) × (length label ≤ 4) → weights_of_numbers list ≡ Some label
    back its =
        ap weights_of_numbers its.0
        ∙ ap (λ (few : Bool). if few then so_many (length label) label else None)
        (le-leb (length label) 4 its.1)
        ∙ so_many-all (length label) label refl

-- behind a count that is small enough stand so many weights
pub few_read : (count : ℕ) (left : NumbersLeft) → count ≤ 4
    → if_clean weights_of_numbers (with_number count left) ≡ if_clean (so_many count) left
few_read count left few = by left.clean
  where
    by : (clean : Bool)
        → (if clean then weights_of_numbers (count ∷ left.numbers) else None)
        ≡ (if clean then so_many count left.numbers else None)
    by false = refl
    by true = ap (λ (few : Bool). if few then so_many count left.numbers else None)
        (le-leb count 4 few)

-- behind a greater one there is no label
pub many_read : (count : ℕ) (left : NumbersLeft) → 4 < count
    → if_clean weights_of_numbers (with_number count left) ≡ None
many_read count left many = by left.clean
  where
    by : (clean : Bool) → (if clean then weights_of_numbers (count ∷ left.numbers) else None) ≡ None
    by false = refl
    by true = ap (λ (few : Bool). if few then so_many count left.numbers else None)
        (lt-leb count 4 many)

-- what is seen at the ports of a row
seen_there : (say : ℕ → List ℕ) (row : NodeRow)
    → seen_weights (map (port_where say) row.ports) ≡ first_weights row
seen_there say row = ap (take 4) (map-map (λ (port : ReadPort (List ℕ)). port.weight) (port_where say) row.ports)

module _ (rows : List NodeRow) (net : IsNetwork rows) (say : ℕ → List ℕ)
    (hold : HoldEverywhere same_weights_rules rows say) where
  says_first : (row : NodeRow) → Contains rows row → say row.id ≡ first_weights row
  says_first row in' =
      same-there (say row.id) (seen_weights (map (port_where say) row.ports)) (hold row in').0
      ∙ seen_there say row

  agree : (row : NodeRow) (port : Port) → Contains rows row → Contains row.ports port
      → say port.nbr ≡ say row.id
  agree row port in' has = same-there (say port.nbr) (say row.id)
      (passes_port (says_weights (say row.id)) say row.ports (hold row in').1.0 port has)

-- where the rules hold everywhere, all weights are the same
pub same_weights_show : RulesShow same_weights_rules HaveSameWeights
same_weights_show rows net joined say hold row other in' other_in =
    sym (says_first rows net say hold row in')
    ∙ agree_everywhere rows say joined (agree rows net say hold) row.id other.id
    (id_of_row rows row in') (id_of_row rows other other_in)
    ∙ says_first rows net say hold other other_in

-- where each label is right, the rules hold
pub same_weights_met : RulesAreMet same_weights_rules HaveSameWeights same_weights_says
same_weights_met rows net joined same say right row in' = (
  same-back (say row.id) (seen_weights (map (port_where say) row.ports))
      (right row in' ∙ sym (seen_there say row)),
  (all_ports_pass (says_weights (say row.id)) say row.ports passes, tt),
)
  where
    passes : (port : Port) → Contains row.ports port
        → says_weights (say row.id) (port_where say port) ≡ true
    passes port has =
        let (other, other_in, named) : (other : NodeRow) × Contains rows other
        × (other.id ≡ port.nbr) = neighbour_row rows net row in' port has in
        same-back (say port.nbr) (say row.id) (ap say (sym named) ∙ right other other_in
        ∙ same other row other_in in' ∙ sym (right row in'))

-- one label is right for a node
pub same_weights_one_right : OneIsRight HaveSameWeights same_weights_says
same_weights_one_right rows net joined same row one other in' mine theirs = mine ∙ sym theirs

-- the weights at the ports of a row are at most the greatest
weights_small : (rows : List NodeRow) (row : NodeRow) → Contains rows row
    → All (λ weight. weight ≤ greatest (weights_of rows)) (first_weights row)
weights_small rows row in' =
    All-take (λ weight. weight ≤ greatest (weights_of rows)) 4
    (map (λ (port : Port). port.weight) row.ports)
    (All-map (λ weight. weight ≤ greatest (weights_of rows)) (λ (port : Port). port.weight)
    row.ports (All-from_get_or (λ (port : Port). port.weight ≤ greatest (weights_of rows)) row.ports
    (record { nbr = 0; weight = 0 }) (λ i within.
    small (get_or row.ports i (record { nbr = 0; weight = 0 })) (Contains-from_place row.ports i
    (get_or row.ports i (record { nbr = 0; weight = 0 }))
    (slice_get-get_or row.ports i (record { nbr = 0; weight = 0 }) within)))))
  where
    small : (port : Port) → Contains row.ports port → port.weight ≤ greatest (weights_of rows)
    small port has = in_greatest (weights_of rows) port.weight
        (Contains-map (λ (port : Port). port.weight) (flat_map (λ (row : NodeRow). row.ports) rows)
        port (Contains-flat_map (λ (row : NodeRow). row.ports) rows row port in' has))

module _ (code : ℕ → List Bool) (grows : Grows code) (short : IsShort code) (most : ℕ)
    (coded : most ≤ MAX_CODED) where
  -- no label of weights that are at most this is longer than one with four of it
  abbrev FitsFour : List ℕ → Type 0
  FitsFour label = Fits weights_shape code
      (capped (codes_length code [] (4 ∷ most ∷ most ∷ most ∷ most ∷ []))) label

  -- a label that fits fewer limits
  fewer : (label limits : List ℕ) → length label ≤ 4
      → AreWithin (length label ∷ label) limits
      → codes_length code [] limits ≤ codes_length code [] (4 ∷ most ∷ most ∷ most ∷ most ∷ [])
      → FitsFour label
  fewer label limits few within less =
      let fits = within_fits code grows short weights_shape label limits refl few
      (omega (arith, few)) within in
      let long = fits.short in
      record { writable = fits.writable; short = omega (arith, long, less) }

  head : (a : ℕ) (more : List ℕ) → All (λ weight. weight ≤ most) (a ∷ more) → a ≤ most
  head a more small = All-head (λ weight. weight ≤ most) a more small

  tail : (a : ℕ) (more : List ℕ) → All (λ weight. weight ≤ most) (a ∷ more)
      → All (λ weight. weight ≤ most) more
  tail a more small = All-tail (λ weight. weight ≤ most) a more small

  four_fit : (label : List ℕ) → length label ≤ 4 → All (λ weight. weight ≤ most) label
      → FitsFour label
  four_fit [] few small =
      fewer [] (4 ∷ []) few (omega arith, omega arith, tt) (omega arith)
  four_fit (a ∷ []) few small =
      fewer (a ∷ []) (4 ∷ most ∷ []) few (omega arith, omega arith, (head a [] small, coded, tt))
      (omega arith)
  four_fit (a ∷ b ∷ []) few small =
      let b_small = tail a (b ∷ []) small in
      fewer (a ∷ b ∷ []) (4 ∷ most ∷ most ∷ []) few (
        omega arith,
        omega arith,
        (head a (b ∷ []) small, coded, (head b [] b_small, coded, tt)),
      ) (omega arith)
  four_fit (a ∷ b ∷ c ∷ []) few small =
      let b_small = tail a (b ∷ c ∷ []) small in
      let c_small = tail b (c ∷ []) b_small in
      fewer (a ∷ b ∷ c ∷ []) (4 ∷ most ∷ most ∷ most ∷ []) few (
        omega arith,
        omega arith,
        (
          head a (b ∷ c ∷ []) small,
          coded,
          (head b (c ∷ []) b_small, coded, (head c [] c_small, coded, tt)),
        ),
      ) (omega arith)
  four_fit (a ∷ b ∷ c ∷ d ∷ []) few small =
      let b_small = tail a (b ∷ c ∷ d ∷ []) small in
      let c_small = tail b (c ∷ d ∷ []) b_small in
      let d_small = tail c (d ∷ []) c_small in
      fewer (a ∷ b ∷ c ∷ d ∷ []) (4 ∷ most ∷ most ∷ most ∷ most ∷ []) few (
        omega arith,
        omega arith,
        (
          head a (b ∷ c ∷ d ∷ []) small,
          coded,
          (
            head b (c ∷ d ∷ []) b_small,
            coded,
            (head c (d ∷ []) c_small, coded, (head d [] d_small, coded, tt)),
          ),
        ),
      ) (omega arith)
  four_fit (a ∷ b ∷ c ∷ d ∷ e ∷ more) few small = absurd (omega (arith, few))

-- what is right is short
pub same_weights_fits : (code : ℕ → List Bool) → Grows code → IsShort code
    → RightFits weights_shape code HaveSameWeights same_weights_says
    (longest_by weights_shape same_weights_limits code)
same_weights_fits code grows short rows net joined same words say right row in' =
    subst (FitsFour code grows short most coded) (sym (right row in'))
    (four_fit code grows short most coded (first_weights row)
    (let long = length-take 4 (map (λ (port : Port). port.weight) row.ports) in omega (arith, long))
    (weights_small rows row in'))
  where
    most : ℕ
    most = greatest (weights_of rows)

    coded : most ≤ MAX_CODED
    coded = omega (arith, words.max_weight)
