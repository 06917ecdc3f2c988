-- What a rule asks of each port, beside what a scheme asks of it.
use Rattle.std.proofs.Common.{◌≡◌, ◌∙◌, ℕ, zero, suc, ◌+◌, Bool, true, false, List, [], ◌∷◌, length, map, Option, Some, None, option_map, refl, sym, ap, arith}
use Rattle.std.specs.Prelude.{slice_get, sum_by, option_and_then, if◌then◌else◌, ◌&&◌, ◌||◌, ◌==◌}
use Rattle.std.specs.List.{list_all, list_any}
use Rattle.std.specs.Option.{is_some, option_map_or}
use Rattle.std.proofs.Math.Bool.{and_assoc, or_assoc}
use Rattle.std.proofs.Math.Nat.{add_assoc}
use Rattle.std.proofs.lemmas.List.Sums.{sum_by-cons}
use Rattle.std.proofs.lemmas.Option.{slice_get-map}
use Rattle.pls_bits.specs.Bytes.{weigh}
use Rattle.pls_compile.specs.RuleMeaning.{at_each, at_some, sum_where}
use Rattle.pls_compile.proofs.Lists.{found_within}
use Rattle.pls_builtin.proofs.Agreeing.{PointsWithin}

module _ {A : Type 0} (join : A → A → A) (none : A)
    (assoc : (a b c : A) → join (join a b) c ≡ join a (join b c))
    (around : (a : A) → join none a ≡ join a none)
    (along : (ℕ → A) → ℕ → A)
    (along_none : (at : ℕ → A) → along at zero ≡ none)
    (along_more : (at : ℕ → A) (n : ℕ) → along at (suc n) ≡ join (along at n) (at n)) where
  -- what is joined port by port to the last, from the first on
  front : (at : ℕ → A) (n : ℕ)
      → along at (suc n) ≡ join (at 0) (along (λ port. at (suc port)) n)
  front at zero =
      along_more at zero ∙ ap (λ (a : A). join a (at 0)) (along_none at) ∙ around (at 0)
      ∙ ap (join (at 0)) (sym (along_none (λ port. at (suc port))))
  front at (suc n) =
      along_more at (suc n) ∙ ap (λ (a : A). join a (at (suc n))) (front at n)
      ∙ assoc (at 0) (along (λ port. at (suc port)) n) (at (suc n))
      ∙ ap (join (at 0)) (sym (along_more (λ port. at (suc port)) n))

  module _ {P : Type 0} (over : (P → A) → List P → A)
      (over_none : (of : P → A) → over of [] ≡ none)
      (over_more : (of : P → A) (port : P) (ports : List P)
      → over of (port ∷ ports) ≡ join (of port) (over of ports)) where
    -- where each port gives the same, so does the list
    joined_same : {Q : Type 0} (image : P → Q) (ask : Option Q → A) (of : P → A)
        → ((port : P) → ask (Some (image port)) ≡ of port) → (ports : List P)
        → along (λ place. ask (slice_get (map image ports) place)) (length (map image ports))
        ≡ over of ports
    joined_same image ask of same [] =
        along_none (λ place. ask (slice_get (map image []) place)) ∙ sym (over_none of)
    joined_same image ask of same (port ∷ ports) =
        front (λ place. ask (slice_get (map image (port ∷ ports)) place)) (length (map image ports))
        ∙ ap (λ (a : A). join a (along (λ place. ask (slice_get (map image ports) place))
        (length (map image ports)))) (same port)
        ∙ ap (join (of port)) (joined_same image ask of same ports)
        ∙ sym (over_more of port ports)

-- the sum of a number over so many ports
abbrev sum_along : (ℕ → ℕ) → ℕ → ℕ
sum_along number zero = 0
sum_along number (suc port) = sum_along number port + number port

sum_where-along : (test : ℕ → Bool) (number : ℕ → ℕ) (n : ℕ) → sum_where test number n
    ≡ sum_along (λ port. if test port then number port else 0) n
sum_where-along test number zero = refl
sum_where-along test number (suc n) =
    ap (λ (sum : ℕ). sum + (if test n then number n else 0)) (sum_where-along test number n)

true_around : (a : Bool) → (true && a) ≡ (a && true)
true_around true = refl
true_around false = refl

false_around : (a : Bool) → (false || a) ≡ (a || false)
false_around true = refl
false_around false = refl

zero_around : (a : ℕ) → 0 + a ≡ a + 0
zero_around a = omega arith

module _ {P Q : Type 0} (image : P → Q) where
  -- a test at each port is a test of each port
  pub all_ports : (ask : Option Q → Bool) (of : P → Bool)
      → ((port : P) → ask (Some (image port)) ≡ of port) → (ports : List P)
      → at_each (λ place. ask (slice_get (map image ports) place)) (length (map image ports))
      ≡ list_all of ports
  all_ports = joined_same (λ (a b : Bool). a && b) true and_assoc true_around at_each
      (λ at. refl) (λ at n. refl) list_all (λ of. refl) (λ of port ports. refl) image

  -- a test at some port is a test of some port
  pub some_port : (ask : Option Q → Bool) (of : P → Bool)
      → ((port : P) → ask (Some (image port)) ≡ of port) → (ports : List P)
      → at_some (λ place. ask (slice_get (map image ports) place)) (length (map image ports))
      ≡ list_any of ports
  some_port = joined_same (λ (a b : Bool). a || b) false or_assoc false_around at_some
      (λ at. refl) (λ at n. refl) list_any (λ of. refl) (λ of port ports. refl) image

  -- a sum over the ports at which a test holds is a sum over the ports
  pub sum_ports : (test : Option Q → Bool) (number : Option Q → ℕ) (of : P → ℕ)
      → ((port : P)
      → (if test (Some (image port)) then number (Some (image port)) else 0) ≡ of port)
      → (ports : List P)
      → sum_where (λ place. test (slice_get (map image ports) place))
      (λ place. number (slice_get (map image ports) place)) (length (map image ports))
      ≡ sum_by of ports
  sum_ports test number of same ports =
      sum_where-along (λ place. test (slice_get (map image ports) place))
      (λ place. number (slice_get (map image ports) place)) (length (map image ports))
      ∙ joined_same (λ (a b : ℕ). a + b) 0 add_assoc zero_around sum_along
      (λ at. refl) (λ at n. refl) sum_by (λ of. refl) sum_by-cons image
      (λ found. if test found then number found else 0) of same ports

  -- what is asked of the port that the node points at, if it points at one
  pub at_target : (ask : Option Q → Bool) (of : P → Bool)
      → ((port : P) → ask (Some (image port)) ≡ of port) → (ports : List P) (up : Option ℕ)
      → PointsWithin up (length ports)
      → (weigh (is_some up) == 0 || ask (option_and_then (slice_get (map image ports)) up))
      ≡ option_map_or of (option_and_then (slice_get ports) up) true
  at_target ask of same ports None within = refl
  at_target ask of same ports (Some place) within =
      let found = found_within ports place within in
      ap ask (slice_get-map image ports place ∙ ap (option_map image) found.1)
      ∙ same found.0
      ∙ ap (λ (port : Option P). option_map_or of port true) (sym found.1)
