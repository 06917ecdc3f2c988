use Rattle.std.proofs.Common.{◌∙◌, ◌++◌, ℕ, List, Bool, sym, ap, append_assoc}
use Rattle.std.proofs.lemmas.List.{append-nil}
use Rattle.pls_universal.proofs.writing.append_port.Goals as goal

pub returns : goal.returns
returns g c =
    let code : ℕ → List Bool = g.C.NumCode.code in
    let old : List Bool = c.args.bits.now in
    let nbr : List Bool = code c.args.port.0 in
    let weight : List Bool = code c.args.port.1 in
    c.in_ok-write-2.ensures.written
    ∙ ap (λ (bits : List Bool). bits ++ weight) c.in_ok-write.ensures.written
    ∙ append_assoc old nbr weight
    ∙ ap (λ (bits : List Bool). old ++ (nbr ++ bits)) (sym (append-nil weight))
