use Rattle.std.proofs.Common.{◌≡◌, ◌∙◌, List, ℕ, length, map, replicate, refl, subst, sym, arith}
use Rattle.pls_components.specs.Components.{AreComponents}
use Rattle.pls_components.specs.declared.component_list.Span.{Span}
use Rattle.pls_components.specs.inner.Numbers.{AreSpans, places_of_number, span_items}
use Rattle.pls_components.proofs.One.{one_part, one_spans, zeros-more}
use Rattle.pls_components.proofs.finding.one_component.Goals as goal

pub loop-place-preserved : goal.loop-place-preserved
loop-place-preserved c =
    c.in_ok-push.ensures.items
    ∙ zeros-more c.loop-place.members.items c.loop-place.place c.loop-place.invariant

pub returns : goal.returns
returns c =
    let len = c.len-count.ensures.len in
    let end : c.loop-place.place ≡ length c.args.net.now =
    omega (arith, c.loop-place-test.false, len) in
    let items = subst (λ (n : ℕ). c.loop-place.members.items ≡ places_of_number (replicate n 0) 0) end
    c.loop-place.invariant in
    subst (λ (spans : List Span).
    AreComponents c.args.net.now (map (span_items c.loop-place.members.items) spans))
    (sym (rw c.new-spans.ensures.items at c.in_ok-push-2.ensures.items))
    (one_part c.args.net.now c.len-count.ensures.valid c.requires c.loop-place.members.items
    (record { start = 0; count = c.len-count.result }) refl len items)

pub invariant_of-result : goal.invariant_of-result
invariant_of-result c =
    let len = c.len-count.ensures.len in
    let end : c.loop-place.place ≡ c.len-count.result =
    omega (arith, c.loop-place-test.false, len) in
    let items = subst (λ (n : ℕ). c.loop-place.members.items ≡ places_of_number (replicate n 0) 0) end
    c.loop-place.invariant in
    subst (AreSpans c.loop-place.members.items)
    (sym (rw c.new-spans.ensures.items at c.in_ok-push-2.ensures.items))
    (one_spans c.len-count.result c.loop-place.members.items
    (record { start = 0; count = c.len-count.result }) refl refl items)
