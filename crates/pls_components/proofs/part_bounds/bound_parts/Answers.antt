use Rattle.std.proofs.Common.{◌≡◌, ◌∙◌, ◌+◌, ◌-◌, ◌^◌, ℕ, List, ap, map, max, min, sym, take, arith}
use Rattle.pls_graph.specs.declared.size.Size.{Size}
use Rattle.pls_graph.specs.Size.{greatest, size_of}
use Rattle.pls_streams.specs.Steps.{capped}
use Rattle.pls_components.specs.Components.{items_at}
use Rattle.pls_components.proofs.Bounds.{greatest-more}
use Rattle.pls_components.proofs.Part.{part_network, places_within}
use Rattle.pls_components.proofs.PartPlaces.{component_at, only_one}
use Rattle.pls_components.proofs.Whole.{whole_bound}
use Rattle.pls_components.proofs.part_bounds.bound_parts.Goals as goal

pub returns-then-len-eq1 : goal.returns-then-len-eq1
returns-then-len-eq1 g c =
    let longest : Size → ℕ = g.S.Scheme.longest c.args.scheme.now in
    let alone = only_one c.args.parts.now (omega arith) in
    c.bound.ensures ∙ ap (λ (size : Size). capped (longest size)) c.size.ensures.size
    ∙ ap capped (sym (whole_bound c.args.net.now c.is_valid.ensures c.args.parts.now c.requires
    alone.0 alone.1 longest))

pub size_at-size-requires-clause-within : goal.size_at-size-requires-clause-within
size_at-size-requires-clause-within g c =
    let places = c.members.result.now in
    places_within c.args.net.now c.is_valid.ensures places
    (component_at c.args.net.now c.args.parts.now c.requires c.loop-k.k places c.members.ensures)

pub size_at-size-requires-clause-network : goal.size_at-size-requires-clause-network
size_at-size-requires-clause-network g c =
    let places = c.members.result.now in
    part_network c.args.net.now c.is_valid.ensures places
    (component_at c.args.net.now c.args.parts.now c.requires c.loop-k.k places c.members.ensures)

pub loop-k-preserved : goal.loop-k-preserved
loop-k-preserved g c =
    let net = c.args.net.now in
    let parts = c.args.parts.now in
    let k = c.loop-k.k in
    let places = c.members.result.now in
    let longest : Size → ℕ = g.S.Scheme.longest c.args.scheme.now in
    let f : List ℕ → ℕ = λ places. longest (size_of (items_at net places)) in
    let bound : c.bound-in-loop-k.result ≡ min (f places) (2 ^ 64 - 1) =
    c.bound-in-loop-k.ensures ∙ ap (λ (size : Size). capped (longest size)) c.size_at-size.ensures in
    let more : max c.loop-k.most (min (f places) (2 ^ 64 - 1))
    ≡ min (greatest (map f (take (k + 1) parts))) (2 ^ 64 - 1) =
    greatest-more f parts k c.loop-k.most (2 ^ 64 - 1) places c.members.ensures c.loop-k.invariant in
    let all : c.max-most.result ≡ min (greatest (map f (take (k + 1) parts))) (2 ^ 64 - 1) =
    omega (arith, c.max-most.ensures, bound, more) in
    all
