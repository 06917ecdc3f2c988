use Rattle.std.proofs.Common.{◌∙◌, ◌+◌, ap, sym}
use Rattle.pls_streams.specs.Steps.{capped}
use Rattle.pls_closing.specs.laws.ClosedLists.{closed_push}
use Rattle.pls_closing.proofs.Pushed.{begun_push, bits_push, closing_push, lines_push, other_push}
use Rattle.pls_closing.proofs.closing_tally.ClosingTallyListTally.take.Goals as goal

pub returns-then-self-clause-begun : goal.returns-then-self-clause-begun
returns-then-self-clause-begun g c = λ front begun counted.
    begun_push g.K.LineKind.Fits g.K.ClosingLine.closes g.K.ClosingLine.may_lack
    c.closing_laws.ensures front c.args.item.now begun c.requires

pub returns-else-self-clause-begun : goal.returns-else-self-clause-begun
returns-else-self-clause-begun g c = λ front begun counted.
    begun_push g.K.LineKind.Fits g.K.ClosingLine.closes g.K.ClosingLine.may_lack
    c.closing_laws.ensures front c.args.item.now begun c.requires

pub returns-then-self-clause-counted : goal.returns-then-self-clause-counted
returns-then-self-clause-counted g c = λ front begun counted.
    let item = c.args.item.now in
    let lines = c.saturating_add-self.ensures
    ∙ ap (λ tally. capped (tally.lines + 1)) counted ∙ lines_push front item in
    let bits = c.saturating_add-self-2.ensures
    ∙ ap (λ tally. capped (tally.bits + c.bits.result)) counted
    ∙ bits_push g.K.ClosingLine.bits front item c.bits.result c.bits.ensures in
    let closing = c.saturating_add-self-then-self.ensures
    ∙ ap (λ tally. capped (tally.closing + 1)) counted
    ∙ closing_push g.K.ClosingLine.closes front item (sym c.closes-self.ensures ∙ c.if-self.true) in
    let closed = c.closes-self.ensures
    ∙ sym (closed_push g.K.LineKind.Fits g.K.ClosingLine.closes g.K.ClosingLine.may_lack front item) in
    let of = ap (λ tally. tally.of) counted in
    λ i. record { lines = lines i; closing = closing i; bits = bits i; closed = closed i; of = of i }

pub returns-else-self-clause-counted : goal.returns-else-self-clause-counted
returns-else-self-clause-counted g c = λ front begun counted.
    let item = c.args.item.now in
    let lines = c.saturating_add-self.ensures
    ∙ ap (λ tally. capped (tally.lines + 1)) counted ∙ lines_push front item in
    let bits = c.saturating_add-self-2.ensures
    ∙ ap (λ tally. capped (tally.bits + c.bits.result)) counted
    ∙ bits_push g.K.ClosingLine.bits front item c.bits.result c.bits.ensures in
    let closing = ap (λ tally. tally.closing) counted
    ∙ other_push g.K.ClosingLine.closes front item (sym c.closes-self.ensures ∙ c.if-self.false) in
    let closed = c.closes-self.ensures
    ∙ sym (closed_push g.K.LineKind.Fits g.K.ClosingLine.closes g.K.ClosingLine.may_lack front item) in
    let of = ap (λ tally. tally.of) counted in
    λ i. record { lines = lines i; closing = closing i; bits = bits i; closed = closed i; of = of i }
