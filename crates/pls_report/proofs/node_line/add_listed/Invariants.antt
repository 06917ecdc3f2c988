use Rattle.std.proofs.Common.{◌≡◌, ◌++◌, take}
use Rattle.pls_report.specs.inner.Pieces.{spaced}
use Rattle.pls_report.proofs.node_line.add_listed.Given as goal

abbrev pub invariant-loop-number : goal.invariant-loop-number
invariant-loop-number l =
    l.text.items ≡ l.fn.text.items ++ (l.word ++ spaced (take l.number-index l.numbers))
