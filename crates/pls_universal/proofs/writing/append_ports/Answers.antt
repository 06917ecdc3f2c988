use Rattle.std.proofs.Common.{[], ◌∙◌, ◌++◌, ℕ, List, Bool, take, sym, subst, ap}
use Rattle.pls_numbers.specs.Numbers.{AreCoded, codes_of}
use Rattle.pls_numbers.specs.laws.CodeLaws.{coded_item, codes_of-item}
use Rattle.pls_universal.specs.Map.{numbers_of_port}
use Rattle.pls_universal.specs.inner.Writing.{numbers_of_ports}
use Rattle.pls_universal.proofs.writing.append_ports.Goals as goal

pub append_port-requires : goal.append_port-requires
append_port-requires g c =
    let pair = g.P.StatedPort.pair in
    subst (λ (port : ℕ × ℕ). AreCoded [] (numbers_of_port port))
    (sym (c.pair.ensures ∙ ap pair c.port-item.is))
    (coded_item (λ port. numbers_of_port (pair port)) c.args.ports.now c.loop-port.port-index
    c.port-item.result c.loop-port-test.true c.requires)

pub loop-port-preserved : goal.loop-port-preserved
loop-port-preserved g c =
    let code : ℕ → List Bool = g.C.NumCode.code in
    let pair = g.P.StatedPort.pair in
    let i : ℕ = c.loop-port.port-index in
    c.in_ok-append_port.ensures
    ∙ ap (λ (bits : List Bool). bits ++ codes_of code [] (numbers_of_port c.pair.result))
    c.loop-port.invariant
    ∙ ap (λ (port : ℕ × ℕ). (c.args.bits.now
    ++ codes_of code [] (numbers_of_ports pair (take i c.args.ports.now)))
    ++ codes_of code [] (numbers_of_port port))
    (c.pair.ensures ∙ ap pair c.port-item.is)
    ∙ codes_of-item (λ port. numbers_of_port (pair port)) code c.args.bits.now c.args.ports.now
    i c.port-item.result c.loop-port-test.true
