use Rattle.std.proofs.Common.{◌≡◌, map, take}
use Rattle.pls_parts.specs.Parts.{tag_of}
use Rattle.pls_parts.proofs.label_parts.tags_of.Given as goal

-- the tags so far
abbrev pub invariant-loop-i : goal.invariant-loop-i
invariant-loop-i l = l.tags.items ≡ map tag_of (take l.i l.labels)
