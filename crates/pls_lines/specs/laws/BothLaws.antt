-- Two parts in turn are a part.
use Rattle.std.proofs.Common.{ℕ, List, ◌++◌, refl}
use Rattle.pls_lines.specs.Fault.{Then}
use Rattle.pls_lines.specs.Part.{IsSomePart}
use Rattle.pls_lines.specs.laws.Sequences.{then_part}

pub both_are_part : (first second : List (List ℕ) → Type 0) → IsSomePart first → IsSomePart second
    → IsSomePart (Then first second)
both_are_part first second one two = record {
  part = then_part first second one.part two.part;
  lines = one.lines ++ two.lines;
  is = record {
    front = one.lines;
    back = two.lines;
    is_first = one.is;
    is_second = two.is;
    parts = refl;
  };
}
