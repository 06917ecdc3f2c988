-- Links are put one after another, where the nodes are there and there is room for their ports.
use Rattle.std.proofs.Common.{◌≡◌, ◌∙◌, ℕ, ◌+◌, ◌*◌, ◌≤◌, map, fold, length, List, refl, sym, ap, subst, arith, Contains}
use Rattle.std.specs.List.{range_with_len}
use Rattle.std.proofs.lemmas.List.FromFn.{map-range_with_len_more}
use Rattle.std.proofs.lemmas.List.Sums.{fold_push}
use Rattle.pls_configuration.specs.declared.limits.TheConstants.{MAX_PORTS}
use Rattle.pls_configuration.specs.declared.row.NodeRow.{NodeRow}
use Rattle.pls_configuration.specs.Configuration.{ids_of, ports_in}
use Rattle.pls_trial.specs.Generator.{Link, with_link}
use Rattle.pls_trial.specs.inner.Building.{AreReady}
use Rattle.pls_trial.proofs.Linking.{ids_of-fold, ports_in-fold, times}
use Rattle.pls_trial.proofs.Numbered.{Contains-range, times-range}

-- one more link is put
pub pushed : (link_at : ℕ → Link) (rows net new : List NodeRow) (i : ℕ) (link : Link)
    → net ≡ fold with_link rows (map link_at (range_with_len 0 i)) → new ≡ with_link net link
    → link ≡ link_at i → new ≡ fold with_link rows (map link_at (range_with_len 0 (i + 1)))
pushed link_at rows net new i link so_far put is =
    put ∙ ap (λ (net : List NodeRow). with_link net link) so_far
    ∙ ap (with_link (fold with_link rows (map link_at (range_with_len 0 i)))) is
    ∙ sym (fold_push with_link rows (map link_at (range_with_len 0 i)) (link_at i))
    ∙ ap (fold with_link rows) (sym (map-range_with_len_more link_at 0 i i (omega arith)))

-- the link of these parts
abbrev link_of : ℕ → ℕ → ℕ → Link
link_of a b weight = record { a = a; b = b; weight = weight }

-- links of equal parts are equal
pub same_Link : (one other : Link) → one.a ≡ other.a → one.b ≡ other.b
    → one.weight ≡ other.weight → one ≡ other
same_Link one other a b weight = by one.a one.b one.weight a b weight
  where
    by : (x y z : ℕ) → x ≡ other.a → y ≡ other.b → z ≡ other.weight
        → link_of x y z ≡ other
    by x y z a b weight = rw (a, b, weight) refl

module _ (rows now : List NodeRow) (nodes ports : ℕ) (ready : AreReady rows nodes ports)
    (links : List Link) (put : now ≡ fold with_link rows links) where
  -- the nodes stay
  pub ids_stay : ids_of now ≡ range_with_len 1 nodes
  ids_stay = ap ids_of put ∙ ids_of-fold links rows ∙ ready.ids

  pub node_there : (id : ℕ) → 1 ≤ id → id ≤ nodes → Contains (ids_of now) id
  node_there id least most =
      subst (λ (ids : List ℕ). Contains ids id) (sym ids_stay)
      (Contains-range 1 nodes id (omega arith) (omega arith))

  -- there is room for the ports of other links
  pub room_left : (more : ℕ) → 2 * length links + more ≤ ports → ports_in now + more ≤ MAX_PORTS
  room_left more within =
      let room = ready.room in
      let same = ap ports_in put in
      omega (
        arith,
        ports_in-fold links rows
            (λ id. let once = times-range 1 nodes id in
            omega (arith, ap (times id) ready.ids)),
      )

  pub still_ready : (more : ℕ) → 2 * length links + more ≤ ports → AreReady now nodes more
  still_ready more within = record { ids = ids_stay; room = room_left more within }
