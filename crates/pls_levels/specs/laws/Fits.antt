-- Labels with levels can be written, and are short, where their numbers are within limits.
use Rattle.std.proofs.Common.{◌≡◌, ◌∙◌, ℕ, zero, suc, ◌+◌, ◌-◌, ◌*◌, ◌^◌, ◌≤◌, inl, inr, Bool, List, [], ◌∷◌, ◌++◌, length, All, refl, sym, ap, arith, add_assoc, length-append, mul-le-mul_right}
use Rattle.std.specs.List.{flat_map}
use Rattle.std.proofs.Math.Pow.{pow_mono}
use Rattle.std.proofs.lemmas.Bool.{cases_lt}
use Rattle.std.proofs.lemmas.List.Concat.{flat_map-cons}
use Rattle.pls_streams.specs.Steps.{capped}
use Rattle.pls_bits.specs.NumberCode.{Grows, IsShort}
use Rattle.pls_configuration.specs.declared.row.NodeRow.{NodeRow}
use Rattle.pls_configuration.specs.Configuration.{IsNetwork}
use Rattle.pls_graph.specs.Size.{size_of}
use Rattle.pls_graph.specs.declared.size.Size.{Size}
use Rattle.pls_scheme.specs.Length.{code_length, codes_length}
use Rattle.pls_scheme.specs.Marked.{Fits}
use Rattle.pls_scheme.specs.Theorem.{AreWords}
use Rattle.pls_scheme.proofs.Fitting.{AreWithin, within_fits}
use Rattle.pls_levels.specs.declared.label.LevelLabel.{LevelLabel}
use Rattle.pls_levels.specs.Labels.{LevelForm, level_shape, numbers_of_level_label}

-- the limits of the numbers of so many levels, of which each has these
abbrev pub limits_many : List ℕ → ℕ → List ℕ
limits_many each zero = []
limits_many each (suc count) = each ++ limits_many each count

-- how long the codes of two lists are, one behind the other
codes_length-append : (code : ℕ → List Bool) (one other : List ℕ)
    → codes_length code [] (one ++ other) ≡ codes_length code [] one + codes_length code [] other
codes_length-append code [] other =
    let long : ℕ = codes_length code [] other in
    let none : long ≡ 0 + long = omega arith in
    none
codes_length-append code (number ∷ one) other =
    ap (λ (rest : ℕ). code_length code number + rest) (codes_length-append code one other)
    ∙ sym (add_assoc (code_length code number) (codes_length code [] one)
    (codes_length code [] other))

-- the codes of the limits of so many levels are as long as those of one, so many times
limits_long : (code : ℕ → List Bool) (each : List ℕ) (count : ℕ)
    → codes_length code [] (limits_many each count) ≡ count * codes_length code [] each
limits_long code each zero =
    let long : ℕ = codes_length code [] each in
    let none : 0 ≡ 0 * long = omega arith in
    none
limits_long code each (suc count) =
    let long : ℕ = codes_length code [] each in
    let more : long + count * long ≡ suc count * long = omega arith in
    codes_length-append code each (limits_many each count)
    ∙ ap (λ (rest : ℕ). codes_length code [] each + rest) (limits_long code each count) ∙ more

module _ {S X : Type 0} (form : LevelForm S X) (rows : List NodeRow) (net : IsNetwork rows)
    (words : AreWords (size_of rows)) (code : ℕ → List Bool) (grows : Grows code)
    (short : IsShort code) (each : List ℕ) (most : ℕ) (low : most ≤ 63)
    (four : (level : X) → length (form.numbers level) ≤ 4) (label : LevelLabel S)
    (fewer : length (form.items label.levels) ≤ most)
    (few : 2 ^ length (form.items label.levels) ≤ 2 * length rows) where
  abbrev size : Size
  size = size_of rows

  abbrev count : ℕ
  count = length (form.items label.levels)

  count_small : count ≤ 16
  count_small = elim (cases_lt 16 count) [
    | inr fine ↦ fine
    | inl more ↦
        let powers : 2 ^ 17 ≤ 2 ^ count = pow_mono more in
        absurd (omega (arith, powers, few, net.limits.few_nodes))
  ]

  -- no level has more than four numbers
  numbers_few : (levels : List X) → length (flat_map form.numbers levels) ≤ 4 * length levels
  numbers_few [] = omega arith
  numbers_few (level ∷ levels) =
      let all = ap length (flat_map-cons form.numbers level levels) in
      let both = length-append (form.numbers level) (flat_map form.numbers levels) in
      omega (arith, all, both, four level, numbers_few levels)

  abbrev front : List ℕ
  front = size.max_id ∷ size.max_id ∷ size.max_id ∷ size.nodes ∷ most ∷ []

  abbrev limits : List ℕ
  limits = front ++ limits_many each count

  limits_short : codes_length code [] limits
      ≤ codes_length code [] front + most * codes_length code [] each
  limits_short =
      let long : ℕ = codes_length code [] each in
      let levels : count * long ≤ most * long = mul-le-mul_right long fewer in
      let all = codes_length-append code front (limits_many each count) in
      omega (arith, all, levels, limits_long code each count)

  -- a label fits whose numbers are within their limits
  pub within_limits : label.root ≤ size.max_id → label.own ≤ size.max_id
      → label.parent ≤ size.max_id → label.depth ≤ size.nodes
      → AreWithin (flat_map form.numbers (form.items label.levels)) (limits_many each count)
      → All form.Proper (form.items label.levels)
      → Fits (level_shape form) code
      (capped (codes_length code [] front + most * codes_length code [] each)) label
  within_limits root own parent depth levels proper = record {
    writable = fits.writable;
    short = omega (arith, fits.short, limits_short);
  }
    where
      within : AreWithin (numbers_of_level_label form label) limits
      within =
          let greatest : size.max_id ≤ 2 ^ 32 - 1 = words.max_id in
          let nodes : size.nodes ≤ 32768 = net.limits.few_nodes in (
            root,
            omega (arith, greatest),
            (
              own,
              omega (arith, greatest),
              (
                parent,
                omega (arith, greatest),
                (depth, omega (arith, nodes), (fewer, omega (arith, low), levels)),
              ),
            ),
          )

      fits : Fits (level_shape form) code (capped (codes_length code [] limits)) label
      fits = within_fits code grows short (level_shape form) label limits refl proper
          (omega (arith, numbers_few (form.items label.levels), count_small)) within
