use Rattle.std.proofs.Common.{◌∙◌, ◌<◌, ℕ, All, List, Option, length, map, sym, subst, arith}
use Rattle.std.proofs.lemmas.List.{length-map}
use Rattle.pls_components.specs.inner.Numbers.{HasNumber, span_items}
use Rattle.pls_components.proofs.Sorting.{numbers_below, sorted_components}
use Rattle.pls_components.proofs.finding.several_components.Goals as goal

pub all_numbers-requires : goal.all_numbers-requires
all_numbers-requires c =
    subst (λ (found : List (Option ℕ)). (place : ℕ) → place < length found
    → (known : ℕ) × HasNumber found place known) (sym c.as_slice.ensures.value)
    (λ place within. c.in_ok-found.ensures.all place
    (omega (arith, within, c.in_ok-found.ensures.size)))

pub buckets_of-requires-clause-below : goal.buckets_of-requires-clause-below
buckets_of-requires-clause-below c =
    subst (All (λ (number : ℕ). number < c.in_ok-found.count))
    (sym c.as_slice-2.ensures.value)
    (numbers_below c.args.net.now c.is_valid.ensures c.in_ok-found.found.items
    c.in_ok-found.count c.in_ok-found.ensures c.in_ok-numbers.numbers.items
    (c.in_ok-numbers.ensures ∙ c.as_slice.ensures.value))

pub returns : goal.returns
returns c =
    let members = c.in_ok-members.members.items in
    let spans = c.in_ok-members.spans.items in
    sorted_components c.args.net.now c.is_valid.ensures c.in_ok-found.found.items
    c.in_ok-found.count c.in_ok-found.ensures c.in_ok-numbers.numbers.items
    (c.in_ok-numbers.ensures ∙ c.as_slice.ensures.value)
    (map (span_items members) spans)
    (rw c.as_slice-3.ensures.value at c.in_ok-members.ensures.sorted)
    (length-map spans (span_items members) ∙ c.in_ok-members.ensures.count)
