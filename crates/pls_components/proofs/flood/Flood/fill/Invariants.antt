use Rattle.std.proofs.Common.{◌+◌, length, count_by}
use Rattle.std.specs.Option.{is_none}
use Rattle.pls_components.proofs.Filling.{Filling}
use Rattle.pls_components.proofs.flood.Flood.fill.Given as goal

abbrev pub invariant-loop-place : goal.invariant-loop-place
invariant-loop-place l = Filling l.net l.fn.self.numbers.items l.self.numbers.items
    l.self.waiting.items l.root l.number

abbrev pub decreases-loop-place : goal.decreases-loop-place
decreases-loop-place l = count_by is_none l.self.numbers.items + length l.self.waiting.items
