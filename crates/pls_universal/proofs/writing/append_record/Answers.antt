use Rattle.std.proofs.Common.{[], ◌∙◌, ◌++◌, ℕ, List, Bool, sym, ap, append_assoc}
use Rattle.pls_numbers.specs.Numbers.{codes_of}
use Rattle.pls_numbers.specs.laws.CodeLaws.{coded_front, coded_rest, codes_of-append}
use Rattle.pls_universal.specs.inner.Writing.{numbers_of_ports}
use Rattle.pls_universal.proofs.writing.append_record.Goals as goal

pub append_numbers-requires : goal.append_numbers-requires
append_numbers-requires g c =
    coded_front c.args.head.now (numbers_of_ports g.P.StatedPort.pair c.args.ports.now) c.requires

pub append_ports-requires : goal.append_ports-requires
append_ports-requires g c =
    coded_rest c.args.head.now (numbers_of_ports g.P.StatedPort.pair c.args.ports.now) c.requires

pub returns : goal.returns
returns g c =
    let code : ℕ → List Bool = g.C.NumCode.code in
    let old : List Bool = c.args.bits.now in
    let head : List ℕ = c.args.head.now in
    let ports : List ℕ = numbers_of_ports g.P.StatedPort.pair c.args.ports.now in
    c.in_ok-append_ports.ensures
    ∙ ap (λ (bits : List Bool). bits ++ codes_of code [] ports) c.in_ok-append_numbers.ensures
    ∙ append_assoc old (codes_of code [] head) (codes_of code [] ports)
    ∙ ap (λ (bits : List Bool). old ++ bits) (sym (codes_of-append code head ports))
