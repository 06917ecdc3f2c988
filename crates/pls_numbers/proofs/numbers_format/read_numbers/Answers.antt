use Rattle.std.proofs.Common.{◌≡◌, ◌∙◌, ◌+◌, ◌++◌, ◌∷◌, [], ℕ, List, ap, sym, take, length, arith, slice_set}
use Rattle.std.proofs.lemmas.List.{length-set, length-take-le, take_all, take_more_set}
use Rattle.pls_numbers.specs.Fixed.{behind_numbers, so_many}
use Rattle.pls_numbers.specs.Shape.{if_clean}
use Rattle.pls_numbers.specs.laws.FixedLaws.{behind_next, read_all, read_short, read_spare}
use Rattle.pls_numbers.proofs.numbers_format.read_numbers.Goals as goal

pub loop-i-preserved : goal.loop-i-preserved
loop-i-preserved g c =
    let i : ℕ = c.loop-i.i in
    let number : ℕ = c.in_ok-numbers.field-0 in
    let before = c.loop-i.invariant in
    let front : take (i + 1) (slice_set c.loop-i.numbers i number) ≡ take i c.loop-i.numbers
    ++ number ∷ [] =
    take_more_set c.loop-i.numbers i number (omega (arith, before.long, c.loop-i-test.true)) in
    record {
      long = length-set c.loop-i.numbers i number ∙ before.long;
      within = omega (arith, c.loop-i-test.true);
      all = before.all ∙ ap (behind_numbers (take i c.loop-i.numbers)) c.in_ok-numbers.ensures.next
          ∙ behind_next (take i c.loop-i.numbers) number c.next.new.self
          ∙ ap (λ (front : List ℕ). behind_numbers front c.next.new.self) (sym front);
    }

pub returns-in_err-numbers : goal.returns-in_err-numbers
returns-in_err-numbers g c =
    let i : ℕ = c.loop-i.i in
    let before = c.loop-i.invariant in
    let many : length (take i c.loop-i.numbers) ≡ i =
    length-take-le i c.loop-i.numbers (omega (arith, before.long, c.loop-i-test.true)) in
    c.from_residual.ensures ∙ sym (ap (if_clean (so_many g.row.N)) before.all
    ∙ read_short g.row.N (take i c.loop-i.numbers) c.loop-i.left
    (omega (arith, many, c.loop-i-test.true)) c.in_err-numbers.ensures.none)

pub returns-then-is_end : goal.returns-then-is_end
returns-then-is_end g c =
    let before = c.loop-i.invariant in
    let ends : c.loop-i.i ≡ g.row.N = omega (arith, before.within, c.loop-i-test.false) in
    let all : take c.loop-i.i c.loop-i.numbers ≡ c.loop-i.numbers =
    take_all c.loop-i.i c.loop-i.numbers (omega (arith, before.long, ends)) in
    sym (ap (if_clean (so_many g.row.N))
    (before.all ∙ ap (λ (front : List ℕ). behind_numbers front c.loop-i.left) all)
    ∙ read_all g.row.N c.loop-i.numbers c.loop-i.left before.long
    (sym c.is_end.ensures ∙ c.if-is_end.true))

pub returns-else-is_end : goal.returns-else-is_end
returns-else-is_end g c =
    let before = c.loop-i.invariant in
    let ends : c.loop-i.i ≡ g.row.N = omega (arith, before.within, c.loop-i-test.false) in
    let all : take c.loop-i.i c.loop-i.numbers ≡ c.loop-i.numbers =
    take_all c.loop-i.i c.loop-i.numbers (omega (arith, before.long, ends)) in
    sym (ap (if_clean (so_many g.row.N))
    (before.all ∙ ap (λ (front : List ℕ). behind_numbers front c.loop-i.left) all)
    ∙ read_spare g.row.N c.loop-i.numbers c.loop-i.left before.long
    (sym c.is_end.ensures ∙ c.if-is_end.false))
