-- Numbers are left in bits exactly where their codes stand there.
use Rattle.std.proofs.Common.{◌≡◌, ◌∙◌, ℕ, zero, suc, ◌≤◌, ◌<◌, ◌++◌, Bool, true, false, List, [], ◌∷◌, length, Option, Some, None, IfSome, IfNone, refl, sym, ap, subst, arith, length-append}
use Rattle.std.specs.Prelude.{IsNone, drop, min}
use Rattle.std.proofs.lemmas.List.{drop_at}
use Rattle.std.proofs.lemmas.Option.{same_Some}
use Rattle.pls_bits.specs.declared.num_code.TheConstants.{MAX_CODED}
use Rattle.pls_bits.specs.NumberCode.{Takes, TakesCodes, TakesOnly}
use Rattle.pls_numbers.specs.declared.kind.FieldKind.{FieldKind}
use Rattle.pls_numbers.specs.declared.kind.FieldKind.TheVariants.{Num, Bit}
use Rattle.pls_numbers.specs.Numbers.{AreCoded, AreCodesOf, NumbersLeft, codes_of, ended, field_code, later_kinds, left_in, left_within, most_of, next_kind, takes_field, whole, with_number}

-- pairs that are the same have the same parts
pub same_parts : {A B : Type 0} (one other : A × B) → Some one ≡ Some other
    → (one.0 ≡ other.0) × (one.1 ≡ other.1)
same_parts {A} {B} one other is =
    let same : one ≡ other = same_Some one other is in
    (ap (λ (pair : A × B). pair.0) same, ap (λ (pair : A × B). pair.1) same)

-- a number other than this one
another : ℕ → ℕ
another zero = 1
another (suc number) = 0

another_small : (number : ℕ) → another number ≤ MAX_CODED
unfolding another
another_small zero = omega arith
another_small (suc number) = omega arith

another_differs : (number : ℕ) → number ≡ another number → ⊥
unfolding another
another_differs zero is = omega (arith, is)
another_differs (suc number) is = omega (arith, is)

-- what is left is told by its numbers and what is behind them
same_left : (one other : NumbersLeft) → one.numbers ≡ other.numbers → one.clean ≡ other.clean
    → one ≡ other
same_left one other numbers clean =
    ap (λ (numbers : List ℕ). let some : NumbersLeft = record { numbers = numbers; clean = one.clean } in some) numbers
    ∙ ap (λ (clean : Bool). let some : NumbersLeft = record { numbers = other.numbers; clean = clean } in some) clean

-- what is left has these numbers
left_is : (left : NumbersLeft) (numbers : List ℕ) → left.numbers ≡ numbers → left.clean ≡ true
    → left ≡ whole numbers
left_is left numbers is clean = same_left left (whole numbers) is clean

module _ (code : ℕ → List Bool) (takes : List Bool → Option (ℕ × List Bool))
    (taken : TakesCodes code takes) (only : TakesOnly code takes) where
  -- no code is empty
  code_empty : (number : ℕ) → number ≤ MAX_CODED → code number ≡ [] → ⊥
  code_empty number small none =
      let behind : List Bool = code (another number) ++ [] in
      let here : takes (code number ++ behind) ≡ Some (number, behind) =
      taken number behind small in
      let there : takes behind ≡ Some (another number, []) =
      taken (another number) [] (another_small number) in
      let same : Some (number, behind) ≡ Some (another number, []) =
      sym here ∙ ap (λ (front : List Bool). takes (front ++ behind)) none ∙ there in
      another_differs number (same_parts (number, behind) (another number, []) same).0

  code_some : (number : ℕ) → number ≤ MAX_CODED → 1 ≤ length (code number)
  code_some number small = by (code number) refl
    where
      by : (bits : List Bool) → code number ≡ bits → 1 ≤ length bits
      by [] none = absurd (code_empty number small none)
      by (bit ∷ bits) some = omega arith

  -- a number of a kind is taken off, whatever follows it
  field_taken : (kind : FieldKind) (number : ℕ) (rest : List Bool) → number ≤ most_of kind
      → takes_field takes kind (field_code code kind number ++ rest) ≡ Some (number, rest)
  field_taken Num number rest small = taken number rest small
  field_taken Bit zero rest small = refl
  field_taken Bit (suc zero) rest small = refl
  field_taken Bit (suc (suc number)) rest small = absurd (omega (arith, small))

  -- and nothing else
  field_only : (kind : FieldKind) (bits : List Bool) (number : ℕ) (rest : List Bool)
      → takes_field takes kind bits ≡ Some (number, rest)
      → (number ≤ most_of kind) × (bits ≡ field_code code kind number ++ rest)
  field_only Num bits number rest is = only bits number rest is
  field_only Bit [] number rest is = absurd (cc)
  field_only Bit (true ∷ bits) number rest is =
      let same = same_parts (1, bits) (number, rest) is in
      rw (sym same.0, sym same.1) (omega arith, refl)
  field_only Bit (false ∷ bits) number rest is =
      let same = same_parts (0, bits) (number, rest) is in
      rw (sym same.0, sym same.1) (omega arith, refl)

  -- fewer bits are left behind it
  field_shorter : (kind : FieldKind) (bits : List Bool) (number : ℕ) (rest : List Bool)
      → takes_field takes kind bits ≡ Some (number, rest) → length rest < length bits
  field_shorter Num bits number rest is =
      let front = only bits number rest is in
      let long = ap (λ (bits : List Bool). length bits) front.1 in
      omega (arith, long, length-append (code number) rest, code_some number front.0)
  field_shorter Bit [] number rest is = absurd (cc)
  field_shorter Bit (bit ∷ bits) number rest is = by bit is
    where
      by : (bit : Bool) → takes_field takes Bit (bit ∷ bits) ≡ Some (number, rest)
          → length rest < suc (length bits)
      by true is =
          let same = ap (λ (bits : List Bool). length bits)
          (same_parts (1, bits) (number, rest) is).1 in
          omega (arith, same)
      by false is =
          let same = ap (λ (bits : List Bool). length bits)
          (same_parts (0, bits) (number, rest) is).1 in
          omega (arith, same)

  -- where there is no bit, nothing is taken off
  within_none : (kinds : List FieldKind) (most : ℕ) (bits : List Bool) → length bits ≤ 0
      → left_within takes kinds most bits ≡ ended bits
  within_none kinds zero bits few = refl
  within_none kinds (suc most) bits few = by (takes_field takes (next_kind kinds) bits) refl
    where
      by : (found : Option (ℕ × List Bool)) → takes_field takes (next_kind kinds) bits ≡ found
          → left_within takes kinds (suc most) bits ≡ ended bits
      by None is = rw is refl
      by (Some found) is =
          let less = field_shorter (next_kind kinds) bits found.0 found.1 is in
          absurd (omega (arith, less, few))

  -- as many numbers as there are bits are all
  same_within : (kinds : List FieldKind) (one other : ℕ) (bits : List Bool) → length bits ≤ one
      → length bits ≤ other → left_within takes kinds one bits ≡ left_within takes kinds other bits
  same_within kinds zero other bits few more = sym (within_none kinds other bits few)
  same_within kinds (suc one) zero bits few more = within_none kinds (suc one) bits more
  same_within kinds (suc one) (suc other) bits few more =
      by (takes_field takes (next_kind kinds) bits) refl
      (λ rest. same_within (later_kinds kinds) one other rest)
    where
      by : (found : Option (ℕ × List Bool)) → takes_field takes (next_kind kinds) bits ≡ found
          → ((rest : List Bool) → length rest ≤ one → length rest ≤ other
          → left_within takes (later_kinds kinds) one rest
          ≡ left_within takes (later_kinds kinds) other rest)
          → left_within takes kinds (suc one) bits ≡ left_within takes kinds (suc other) bits
      by None is shorter = rw is refl
      by (Some found) is shorter =
          let less = field_shorter (next_kind kinds) bits found.0 found.1 is in
          rw is (ap (with_number found.0)
          (shorter found.1 (omega (arith, less, few)) (omega (arith, less, more))))

  -- a number more is left where one is taken off
  pub left_next : (kinds : List FieldKind) (bits : List Bool) (number : ℕ) (rest : List Bool)
      → takes_field takes (next_kind kinds) bits ≡ Some (number, rest)
      → left_in takes kinds bits ≡ with_number number (left_in takes (later_kinds kinds) rest)
  unfolding left_in
  left_next kinds bits number rest is = by (length bits) refl
    where
      by : (many : ℕ) → length bits ≡ many
          → left_within takes kinds many bits
          ≡ with_number number (left_within takes (later_kinds kinds) (length rest) rest)
      by zero long =
          let less = field_shorter (next_kind kinds) bits number rest is in
          absurd (omega (arith, less, long))
      by (suc many) long =
          let less = field_shorter (next_kind kinds) bits number rest is in
          rw is (ap (with_number number) (same_within (later_kinds kinds) many (length rest) rest
          (omega (arith, less, long)) (omega arith)))

  -- none is left where none is taken off
  pub left_none : (kinds : List FieldKind) (bits : List Bool)
      → takes_field takes (next_kind kinds) bits ≡ None → left_in takes kinds bits ≡ ended bits
  unfolding left_in
  left_none kinds [] is = refl
  left_none kinds (bit ∷ bits) is = rw is refl

  left_empty : (kinds : List FieldKind) → left_in takes kinds [] ≡ whole []
  unfolding left_in
  left_empty kinds = refl

  -- numbers are left in their codes, and nothing behind them
  pub left_of_codes : (kinds : List FieldKind) (numbers : List ℕ) → AreCoded kinds numbers
      → left_in takes kinds (codes_of code kinds numbers) ≡ whole numbers
  left_of_codes kinds [] coded = left_empty kinds
  left_of_codes kinds (number ∷ numbers) coded =
      left_next kinds (codes_of code kinds (number ∷ numbers)) number
      (codes_of code (later_kinds kinds) numbers)
      (field_taken (next_kind kinds) number (codes_of code (later_kinds kinds) numbers) coded.0)
      ∙ ap (with_number number) (left_of_codes (later_kinds kinds) numbers coded.1)

  -- and in no other bits
  pub codes_of_left : (kinds : List FieldKind) (numbers : List ℕ) (bits : List Bool)
      → left_in takes kinds bits ≡ whole numbers → AreCodesOf code kinds numbers bits
  codes_of_left kinds [] bits is = by (takes_field takes (next_kind kinds) bits) refl
    where
      none : (bits : List Bool) → ended bits ≡ whole [] → AreCodesOf code kinds [] bits
      none [] is = record { coded = tt; written = refl }
      none (bit ∷ bits) is =
          let no : false ≡ true = ap (λ (left : NumbersLeft). left.clean) is in absurd (cc)

      by : (found : Option (ℕ × List Bool)) → takes_field takes (next_kind kinds) bits ≡ found
          → AreCodesOf code kinds [] bits
      by None first = none bits (sym (left_none kinds bits first) ∙ is)
      by (Some found) first =
          let more = sym (left_next kinds bits found.0 found.1 first) ∙ is in
          let no : found.0 ∷ (left_in takes (later_kinds kinds) found.1).numbers ≡ [] =
          ap (λ (left : NumbersLeft). left.numbers) more in absurd (cc)
  codes_of_left kinds (number ∷ numbers) bits is =
      by (takes_field takes (next_kind kinds) bits) refl
      (λ rest. codes_of_left (later_kinds kinds) numbers rest)
    where
      none : (bits : List Bool) → ended bits ≡ whole (number ∷ numbers) → ⊥
      none [] is =
          let no : [] ≡ number ∷ numbers = ap (λ (left : NumbersLeft). left.numbers) is in absurd (cc)
      none (bit ∷ bits) is =
          let no : [] ≡ number ∷ numbers = ap (λ (left : NumbersLeft). left.numbers) is in absurd (cc)

      by : (found : Option (ℕ × List Bool)) → takes_field takes (next_kind kinds) bits ≡ found
          → ((rest : List Bool) → left_in takes (later_kinds kinds) rest ≡ whole numbers
          → AreCodesOf code (later_kinds kinds) numbers rest)
          → AreCodesOf code kinds (number ∷ numbers) bits
      by None first shorter = absurd (none bits (sym (left_none kinds bits first) ∙ is))
      by (Some found) first shorter =
          let more = sym (left_next kinds bits found.0 found.1 first) ∙ is in
          let rest : NumbersLeft = left_in takes (later_kinds kinds) found.1 in
          let all : found.0 ∷ rest.numbers ≡ number ∷ numbers =
          ap (λ (left : NumbersLeft). left.numbers) more in
          let clean : rest.clean ≡ true = ap (λ (left : NumbersLeft). left.clean) more in
          let same : found.0 ≡ number = cc in
          let others : rest.numbers ≡ numbers = cc in
          let front = field_only (next_kind kinds) bits found.0 found.1 first in
          let codes = shorter found.1 (left_is rest numbers others clean) in
          record {
            coded = (
              subst (λ (number : ℕ). number ≤ most_of (next_kind kinds)) same front.0,
              codes.coded,
            );
            written = front.1
                ∙ ap (λ (number : ℕ). field_code code (next_kind kinds) number ++ found.1) same
                ∙ ap (λ (tail : List Bool). field_code code (next_kind kinds) number ++ tail)
                codes.written;
          }

  -- where no number comes, none is left
  ended_none : (bits : List Bool) → (ended bits).numbers ≡ []
  ended_none [] = refl
  ended_none (bit ∷ bits) = refl

  -- a number that comes next stands there as its code, and behind it what is left then
  pub number_ahead : (bits : List Bool) (number : ℕ) (left : NumbersLeft)
      → left_in takes [] bits ≡ with_number number left
      → (rest : List Bool) × (number ≤ MAX_CODED) × (bits ≡ code number ++ rest)
      × (left_in takes [] rest ≡ left)
  number_ahead bits number left is = by (takes bits) refl
    where
      by : (found : Option (ℕ × List Bool)) → takes bits ≡ found
          → (rest : List Bool) × (number ≤ MAX_CODED) × (bits ≡ code number ++ rest)
          × (left_in takes [] rest ≡ left)
      by None first =
          let no : [] ≡ number ∷ left.numbers =
          sym (ended_none bits)
          ∙ ap (λ (left : NumbersLeft). left.numbers) (sym (left_none [] bits first) ∙ is) in
          absurd (cc)
      by (Some found) first =
          let more = sym (left_next [] bits found.0 found.1 first) ∙ is in
          let rest : NumbersLeft = left_in takes [] found.1 in
          let all : found.0 ∷ rest.numbers ≡ number ∷ left.numbers =
          ap (λ (left : NumbersLeft). left.numbers) more in
          let clean : rest.clean ≡ left.clean = ap (λ (left : NumbersLeft). left.clean) more in
          let same : found.0 ≡ number = cc in
          let others : rest.numbers ≡ left.numbers = cc in
          let front = only bits found.0 found.1 first in (
            found.1,
            subst (λ (number : ℕ). number ≤ MAX_CODED) same front.0,
            front.1 ∙ ap (λ (number : ℕ). code number ++ found.1) same,
            same_left rest left others clean,
          )

  -- a call that passes as many bits as its code has leaves what is behind it
  pub passed : {X : Type 0} (result : Option X) (bits new : List Bool) (number many : ℕ)
      (left : NumbersLeft) → many ≡ length (code (min number MAX_CODED))
      → (IsNone result → length bits < many) → IfSome result (λ _. new ≡ drop many bits)
      → left_in takes [] bits ≡ with_number number left → left_in takes [] new ≡ left
  passed result bits new number many left long short past is =
      let (rest, small, front, behind) = number_ahead bits number left is in
      let same : min number MAX_CODED ≡ number = omega (arith, small) in
      by result rest front behind (long ∙ ap (λ number. length (code number)) same) short past
    where
      by : {X : Type 0} (result : Option X) (rest : List Bool) → bits ≡ code number ++ rest
          → left_in takes [] rest ≡ left → many ≡ length (code number)
          → (IsNone result → length bits < many) → IfSome result (λ _. new ≡ drop many bits)
          → left_in takes [] new ≡ left
      by None rest front behind long short past =
          let all = ap length front in
          let parts = length-append (code number) rest in
          let few = short refl in
          absurd (omega (arith, few, long, all, parts))
      by (Some x) rest front behind long short past =
          ap (left_in takes [])
          (past ∙ ap (drop many) front ∙ drop_at (code number) rest many (sym long)) ∙ behind

  -- what a call that reads a number leaves
  pub taken_next : (old new : List Bool) (result : Option ℕ) → Takes takes result old new
      → IfSome result (λ number. left_in takes [] old ≡ with_number number (left_in takes [] new))
  taken_next old new None is = tt
  taken_next old new (Some number) is = left_next [] old number new is

  pub taken_none : (old new : List Bool) (result : Option ℕ) → Takes takes result old new
      → IfNone result ((left_in takes [] old).numbers ≡ [])
  taken_none old new None is =
      ap (λ (left : NumbersLeft). left.numbers) (left_none [] old is.0) ∙ ended_none old
  taken_none old new (Some number) is = tt
