-- Two parts in turn: what a reader has passed, and where their faults are.
use Rattle.std.proofs.Common.{ℕ, ◌+◌, List, ◌++◌, length, refl, arith}
use Rattle.pls_streams.specs.declared.text_error.TextError.{TextError}
use Rattle.pls_lines.specs.Fault.{Then}
use Rattle.pls_lines.specs.Lines.{Left, IsFormFault}
use Rattle.pls_lines.specs.Part.{IsSomePart, PassesFormat}
use Rattle.pls_lines.specs.laws.Sequences.{first_part_fault, second_part_fault}
use Rattle.pls_lines.proofs.Passing.{passes_then}

module _ (first second : List (List ℕ) → Type 0) (one : IsSomePart first) (two : IsSomePart second) where
  pub fault_in_first : (old : Left) (error : TextError) → IsFormFault first old error
      → IsFormFault (Then first second) old error
  fault_in_first old error fault =
      let at = fault.2 in (
        fault.0,
        fault.1,
        (at.0, at.1, first_part_fault first second two.lines old.rest at.0 one.part two.is at.2),
      )

  pub fault_in_second : (old mid : Left) (error : TextError) → PassesFormat first old mid
      → IsFormFault second mid error → IsFormFault (Then first second) old error
  fault_in_second old mid error passes fault =
      let at = fault.2 in (
        fault.0,
        fault.1,
        (
          length passes.lines + at.0,
          omega (arith, at.1, passes.passed.number),
          second_part_fault first second passes.lines old.rest mid.rest at.0 one.part two.part
              passes.is passes.passed.stands at.2,
        ),
      )

  pub both_formed : (old mid new : Left) → PassesFormat first old mid → PassesFormat second mid new
      → PassesFormat (Then first second) old new
  both_formed old mid new p q = record {
    lines = p.lines ++ q.lines;
    is = record {
      front = p.lines;
      back = q.lines;
      is_first = p.is;
      is_second = q.is;
      parts = refl;
    };
    passed = passes_then old mid new p.lines q.lines p.passed q.passed;
  }
