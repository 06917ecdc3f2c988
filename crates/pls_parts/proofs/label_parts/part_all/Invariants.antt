use Rattle.std.proofs.Common.{◌≡◌, map, take}
use Rattle.pls_parts.specs.Parts.{first_part, has_parts, second_part}
use Rattle.pls_parts.proofs.label_parts.part_all.Given as goal

-- the parts so far
abbrev pub invariant-loop-i : goal.invariant-loop-i
invariant-loop-i g l = record {
  fronts : l.fronts ≡ map (first_part g.C.NumCode.takes) (take l.i l.labels);
  backs : l.backs ≡ map (second_part g.C.NumCode.takes) (take l.i l.labels);
  whole : l.whole.items ≡ map (has_parts g.C.NumCode.takes) (take l.i l.labels);
}
