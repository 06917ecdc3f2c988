use Rattle.std.proofs.Common.{◌≡◌, List, ℕ, drop, [], refl, arith}
use Rattle.std.proofs.lemmas.List.{drop_all}
use Rattle.pls_compile.proofs.machine.Machine.restart.Goals as goal

pub returns : goal.returns
returns c =
    let stack : List ℕ = c.self.inside.stack in
    let ports : List ℕ = c.self.inside.ports in
    let none : drop 40 stack ≡ [] = drop_all 40 stack (omega (arith, c.self.ranges)) in
    let no_port : drop 2 ports ≡ [] = drop_all 2 ports (omega (arith, c.self.ranges)) in
    rw (none, no_port) refl
