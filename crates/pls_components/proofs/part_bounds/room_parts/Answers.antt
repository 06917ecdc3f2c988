use Rattle.std.proofs.Common.{◌≡◌, ◌∙◌, ◌+◌, ◌*◌, ◌-◌, ◌^◌, ◌≤◌, ℕ, List, ap, length, min, take, arith}
use Rattle.std.specs.List.{sum_by}
use Rattle.pls_graph.specs.declared.size.Size.{Size}
use Rattle.pls_graph.specs.Size.{size_of}
use Rattle.pls_streams.specs.Steps.{capped}
use Rattle.pls_components.specs.Components.{IsComponent, items_at}
use Rattle.pls_components.specs.Parts.{room_of_parts}
use Rattle.pls_components.proofs.Bounds.{saturated, sum-more}
use Rattle.pls_components.proofs.Part.{part_network, places_within}
use Rattle.pls_components.proofs.PartPlaces.{component_at, only_one}
use Rattle.pls_components.proofs.Whole.{whole_room}
use Rattle.pls_components.proofs.part_bounds.room_parts.Goals as goal

pub returns-then-len-eq1 : goal.returns-then-len-eq1
returns-then-len-eq1 g c =
    let net = c.args.net.now in
    let parts = c.args.parts.now in
    let longest : Size → ℕ = g.S.Scheme.longest c.args.scheme.now in
    let alone = only_one parts (omega arith) in
    let most : ℕ = longest (size_of net) in
    let bound : c.bound-bound.result ≡ min most (2 ^ 64 - 1) =
    c.bound-bound.ensures ∙ ap (λ (size : Size). capped (longest size)) c.size.ensures.size in
    let product : c.bound-bound.result * c.len-nodes.result ≡ min most (2 ^ 64 - 1) * length net =
    λ i. bound i * c.len-nodes.ensures.len i in
    let capped = saturated 0 (length net) most (2 ^ 64 - 1) c.len-nodes.ensures.valid.limits.some in
    let whole : room_of_parts longest net parts ≡ length net * most =
    whole_room net c.len-nodes.ensures.valid parts c.requires alone.0 alone.1 longest in
    let all : c.saturating_mul.result ≡ min (room_of_parts longest net parts) (2 ^ 64 - 1) =
    omega (arith, c.saturating_mul.ensures, product, capped, whole) in
    all

pub size_at-requires-clause-within : goal.size_at-requires-clause-within
size_at-requires-clause-within g c =
    let places = c.members-places.result.now in
    places_within c.args.net.now c.len-nodes.ensures.valid places
    (component_at c.args.net.now c.args.parts.now c.requires c.loop-k.k places
    c.members-places.ensures)

pub size_at-requires-clause-network : goal.size_at-requires-clause-network
size_at-requires-clause-network g c =
    let places = c.members-places.result.now in
    part_network c.args.net.now c.len-nodes.ensures.valid places
    (component_at c.args.net.now c.args.parts.now c.requires c.loop-k.k places
    c.members-places.ensures)

pub loop-k-preserved : goal.loop-k-preserved
loop-k-preserved g c =
    let net = c.args.net.now in
    let parts = c.args.parts.now in
    let k = c.loop-k.k in
    let places = c.members-places.result.now in
    let longest : Size → ℕ = g.S.Scheme.longest c.args.scheme.now in
    let f : List ℕ → ℕ = λ places. length places * longest (size_of (items_at net places)) in
    let is : IsComponent net places =
    component_at net parts c.requires k places c.members-places.ensures in
    let most : ℕ = longest (size_of (items_at net places)) in
    let bound : c.bound-bound-in-loop-k.result ≡ min most (2 ^ 64 - 1) =
    c.bound-bound-in-loop-k.ensures
    ∙ ap (λ (size : Size). capped (longest size)) c.size_at.ensures in
    let product : c.bound-bound-in-loop-k.result * length places
    ≡ min most (2 ^ 64 - 1) * length places = ap (λ (bound : ℕ). bound * length places) bound in
    let some : 1 ≤ length places = let own = is.own.1 in omega arith in
    let capped = saturated (sum_by f (take k parts)) (length places) most (2 ^ 64 - 1) some in
    let more : sum_by f (take (k + 1) parts) ≡ sum_by f (take k parts) + f places =
    sum-more f parts k places c.members-places.ensures in
    let all : c.saturating_add-room.result ≡ min (sum_by f (take (k + 1) parts)) (2 ^ 64 - 1) =
    omega (
      arith,
      c.saturating_add-room.ensures,
      c.saturating_mul-in-loop-k.ensures,
      product,
      capped,
      more,
      c.loop-k.invariant,
    ) in
    all
