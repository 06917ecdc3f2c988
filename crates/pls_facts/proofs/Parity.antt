-- Along a walk the colours of a two-colouring alternate.
use Rattle.std.proofs.Common.{◌≡◌, ◌≢◌, ◌∙◌, ℕ, suc, ◌%◌, Bool, true, false, not, List, [], ◌∷◌, length, inl, inr, refl, sym, ap, arith}
use Rattle.std.proofs.lemmas.Bool.{eqb-true, eqb-false, eq-eqb, ne_eqb}
use Rattle.pls_configuration.specs.Walk.{Edge, Adjacent, Walk}
use Rattle.pls_graph.specs.Levels.{IsLevel}
use Rattle.pls_facts.specs.Bipartite.{Colours, is_odd}

-- the other colour after an odd number of edges, the same after an even one
abbrev turned : Bool → Bool → Bool
turned true colour = not colour
turned false colour = colour

-- of a number and the next just one is odd
is_odd-next : (n : ℕ) → is_odd (suc n) ≡ not (is_odd n)
is_odd-next n = by (is_odd n) refl
  where
    by : (b : Bool) → is_odd n ≡ b → is_odd (suc n) ≡ not b
    by true e =
        let odd = eqb-true (n % 2) 1 e in ne_eqb (suc n % 2) 1 (λ same. omega (arith, odd, same))
    by false e = let even = eqb-false (n % 2) 1 e in eq-eqb (suc n % 2) 1 (omega (arith, even))

-- a colour that differs is the other one
other_colour : (one other : Bool) → one ≢ other → other ≡ not one
other_colour true true differs = absurd (differs refl)
other_colour true false differs = refl
other_colour false true differs = refl
other_colour false false differs = absurd (differs refl)

turned-other : (b colour : Bool) → turned b (not colour) ≡ turned (not b) colour
turned-other true true = refl
turned-other true false = refl
turned-other false colour = refl

module _ (edges : List Edge) (colour : ℕ → Bool) (differs : Colours colour edges) where
  -- the colours of adjacent nodes differ
  pub adjacent_differ : (u v : ℕ) → Adjacent edges u v → colour u ≢ colour v
  adjacent_differ u v (edge, in', joins) same = elim joins [
    | inl ends ↦ differs edge in' (ap colour ends.0 ∙ same ∙ sym (ap colour ends.1))
    | inr ends ↦ differs edge in' (ap colour ends.0 ∙ sym same ∙ sym (ap colour ends.1))
  ]

  -- along a walk the colours alternate
  pub alternates : (u v : ℕ) (nodes : List ℕ) → Walk edges u nodes v
      → colour v ≡ turned (is_odd (length nodes)) (colour u)
  alternates u v [] same = ap colour (sym same)
  alternates u v (next ∷ nodes) walk =
      alternates next v nodes walk.1
      ∙ ap (turned (is_odd (length nodes)))
      (other_colour (colour u) (colour next) (adjacent_differ u next walk.0))
      ∙ turned-other (is_odd (length nodes)) (colour u)
      ∙ ap (λ (odd : Bool). turned odd (colour u)) (sym (is_odd-next (length nodes)))

  -- nodes at levels of one parity have one colour
  pub one_colour_at_levels : (root u v near far : ℕ) → IsLevel edges root u near
      → IsLevel edges root v far → is_odd near ≡ is_odd far → colour u ≡ colour v
  one_colour_at_levels root u v near far to_u to_v same =
      alternates root u to_u.nodes to_u.walk
      ∙ ap (λ (n : ℕ). turned (is_odd n) (colour root)) to_u.many
      ∙ ap (λ (odd : Bool). turned odd (colour root)) same
      ∙ ap (λ (n : ℕ). turned (is_odd n) (colour root)) (sym to_v.many)
      ∙ sym (alternates root v to_v.nodes to_v.walk)
