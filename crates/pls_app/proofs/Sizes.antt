-- The greatest numbers of a network that can stand in a text.
use Rattle.std.proofs.Common.{◌≡◌, ◌∙◌, ℕ, ◌-◌, ◌^◌, ◌≤◌, ◌<◌, Bool, true, false, List, [], ◌∷◌, map, All, Contains, Some, None, if◌then◌else◌, ap, refl, sym, arith}
use Rattle.std.specs.Prelude.{flat_map, nat_lt}
use Rattle.std.proofs.lemmas.Bool.Decides.{nat_tests}
use Rattle.std.proofs.lemmas.Bool.{lt-ltb}
use Rattle.std.proofs.lemmas.List.Elements.{All-cons, All-contains, All-head, All-map, All-nil, All-tail}
use Rattle.pls_configuration.specs.declared.row.Port.{Port}
use Rattle.pls_configuration.specs.declared.row.NodeRow.{NodeRow}
use Rattle.pls_configuration.specs.Configuration.{IsNetwork, ids_of}
use Rattle.pls_graph.specs.Size.{greatest, size_of, weights_of}
use Rattle.pls_graph.proofs.Members.{Contains-first, Contains-from_flat_map, Contains-later}
use Rattle.pls_netfile.specs.NetworkText.{FitsPort, FitsRow}
use Rattle.pls_streams.specs.Steps.{capped}
use Rattle.pls_scheme.specs.Theorem.{AreWords}
use Rattle.pls_bits.specs.Gamma.{gamma_code}
use Rattle.pls_bits.specs.NumberCode.{IsShort}
use Rattle.pls_bits.specs.laws.GammaLaws.{gamma_short}
use Rattle.pls_expressions.specs.Expression.{Expression, IsSmall}
use Rattle.pls_combine.specs.Expression.{longest_of}
use Rattle.pls_combine.proofs.Bounds.{short_expression}
use Rattle.pls_components.specs.Components.{AreComponents, IsComponent, items_at}
use Rattle.pls_components.specs.Parts.{bound_of_parts}
use Rattle.pls_components.proofs.Items.{All-items}
use Rattle.pls_components.proofs.Part.{part_network}
use Rattle.pls_app.specs.Trial.{tried_scheme}
use Rattle.pls_streams.specs.declared.text_error.Quantity.{Quantity}
use Rattle.pls_streams.specs.declared.text_error.TextError.TheVariants.{Limit}
use Rattle.pls_inputs.specs.Order.{over}
use Rattle.pls_inputs.proofs.Facts.{IsReadable}

-- where each number is below a bound, so is the greatest
small_greatest : (bound : ℕ) (numbers : List ℕ) → 1 ≤ bound → All (λ number. number < bound) numbers
    → greatest numbers < bound
small_greatest bound [] some small = some
small_greatest bound (number ∷ numbers) some small =
    let Small : ℕ → Type 0 = λ number. number < bound in
    omega (
      arith,
      All-head Small number numbers small,
      small_greatest bound numbers some
          (All-tail Small number numbers small),
    )

-- the weights of the ports of rows that can stand in a text have 32 bits
small_weights : (rows : List NodeRow) → All FitsRow rows
    → All (λ weight. weight < 2 ^ 32) (weights_of rows)
small_weights rows fits = each (flat_map (λ row. row.ports) rows) (λ port among.
    let found = Contains-from_flat_map (λ (row : NodeRow). row.ports) rows port among in
    let row = All-contains FitsRow rows found.0 fits found.1 in
    (All-contains FitsPort found.0.ports port row.ports found.2).weight)
  where
    each : (ports : List Port)
        → ((port : Port) → Contains ports port → port.weight < 2 ^ 32)
        → All (λ weight. weight < 2 ^ 32) (map (λ port. port.weight) ports)
    each [] small = All-nil (λ weight. weight < 2 ^ 32)
    each (port ∷ ports) small =
        All-cons (λ weight. weight < 2 ^ 32) port.weight (map (λ port. port.weight) ports)
        (small port (Contains-first port ports))
        (each ports (λ other among. small other (Contains-later port ports other among)))

-- the greatest numbers of a network that can stand in a text have 32 bits
pub words_of : (rows : List NodeRow) → IsReadable rows → AreWords (size_of rows)
words_of rows readable =
    let ids = small_greatest (2 ^ 32) (ids_of rows) (omega arith)
    (All-map (λ id. id < 2 ^ 32) (λ (row : NodeRow). row.id) rows
    (λ k d within. (readable.ranges.each k d within).id)) in
    let marks = small_greatest (2 ^ 32) (map (λ (row : NodeRow). row.state.mark) rows) (omega arith)
    (All-map (λ mark. mark < 2 ^ 32) (λ (row : NodeRow). row.state.mark) rows
    (λ k d within. (readable.ranges.each k d within).state.mark)) in
    let weights = small_greatest (2 ^ 32) (weights_of rows) (omega arith)
    (small_weights rows readable.ranges.each) in
    record {
      max_id = omega (arith, ids);
      max_weight = omega (arith, weights);
      max_mark = omega (arith, marks);
    }

-- the bound of a small expression on a network that was read, under a code with short codes
bound_small : (code : ℕ → List Bool) → IsShort code → (scheme : Expression) (rows : List NodeRow)
    → IsSmall scheme → IsReadable rows → longest_of code scheme (size_of rows) ≤ 2 ^ 30
bound_small code short scheme rows small readable =
    short_expression code short scheme rows small readable.network (words_of rows readable)

-- so is the greatest of the bounds for its components, which is answered as it is
pub bound_answered : (code : ℕ → List Bool) → IsShort code → (scheme : Expression)
    (rows : List NodeRow) (parts : List (List ℕ)) → IsSmall scheme → IsReadable rows
    → AreComponents rows parts
    → capped (bound_of_parts (longest_of code scheme) rows parts)
    ≡ bound_of_parts (longest_of code scheme) rows parts
bound_answered code short scheme rows parts small readable are =
    omega (arith, few parts (λ places in'. in'))
  where
    few : (some : List (List ℕ)) → ((places : List ℕ) → Contains some places → Contains parts places)
        → bound_of_parts (longest_of code scheme) rows some ≤ 2 ^ 30
    few [] among = omega arith
    few (places ∷ some) among =
        let is : IsComponent rows places = are.each places (among places (Contains-first places some)) in
        let network = part_network rows readable.network places is in
        let one : longest_of code scheme (size_of (items_at rows places)) ≤ 2 ^ 30 =
        bound_small code short scheme (items_at rows places) small (record {
          network = network;
          ranges = record {
            some = network.limits.some;
            each = All-items rows FitsRow readable.ranges.each places;
          };
        }) in
        let rest = few some (λ others in'. among others (Contains-later places some others in')) in
        omega arith

-- the gamma code has short codes
gamma_is_short : IsShort gamma_code
gamma_is_short = λ number small. gamma_short number

-- so is that of a trial
pub tried_answered : (rows : List NodeRow) → IsNetwork rows → AreWords (size_of rows)
    → capped (longest_of gamma_code tried_scheme (size_of rows))
    ≡ longest_of gamma_code tried_scheme (size_of rows)
tried_answered rows net words =
    let small : IsSmall tried_scheme = record {
      few = omega arith;
      shallow = omega arith;
      writable = tt;
    } in
    omega (arith, short_expression gamma_code gamma_is_short tried_scheme rows small net words)

-- a number passes a limit where it does as it is answered
pub over_capped : (most total : ℕ) → most < 2 ^ 64 - 1
    → nat_lt most (capped total) ≡ nat_lt most total
over_capped most total small = by (nat_lt total (2 ^ 64 - 1)) refl
  where
    by : (b : Bool) → nat_lt total (2 ^ 64 - 1) ≡ b → nat_lt most (capped total) ≡ nat_lt most total
    by true less =
        let same : capped total ≡ total = grind (arith, nat_tests) in
        ap (nat_lt most) same
    by false less =
        let many : 2 ^ 64 - 1 ≤ total = grind (arith, nat_tests) in
        let one : most < capped total = omega (arith, small, many) in
        let two : most < total = omega (arith, small, many) in
        lt-ltb most (capped total) one ∙ sym (lt-ltb most total two)

-- so it is refused where it is
pub over_room : (quantity : Quantity) (most total answered : ℕ) → most < 2 ^ 64 - 1
    → answered ≡ capped total → over quantity most total ≡ over quantity most answered
over_room quantity most total answered small is =
    ap (λ (b : Bool). if b then Some (Limit quantity) else None) (sym (over_capped most total small))
    ∙ ap (over quantity most) (sym is)
