-- Where no chain of pointers returns, each chain has a length, which is below the number of nodes.
use Rattle.std.proofs.Common.{◌≡◌, ℕ, zero, suc, ◌+◌, ◌<◌, ◌⊎◌, inl, inr, List, [], ◌∷◌, length, Contains, Option, Some, None, refl, ap, arith}
use Rattle.pls_configuration.specs.declared.row.NodeRow.{NodeRow}
use Rattle.pls_configuration.specs.Configuration.{IsNetwork}
use Rattle.pls_facts.specs.Pointer.{Chain, Falls, IsChainOf, NoneReturns, SomeReturns, pointed_node}
use Rattle.pls_facts.proofs.Bounded.{IsChainOf-short, LeadsRound-long, SomeReturns-LeadsRound}
use Rattle.pls_facts.proofs.ChainDepths.{chains_fall}
use Rattle.pls_facts.proofs.Chains.{IsChainOf-before, IsChainOf-end}
use Rattle.pls_boruvka.specs.Boruvka.{AreChainLengths}

module _ (rows : List NodeRow) where
  abbrev pub HasChain : ℕ → Type 0
  HasChain u = (last count : ℕ) × IsChainOf rows u last count

  -- a chain ends within so many pointers, or is as long
  chain_or_long : (many u : ℕ) → HasChain u
      ⊎ ((v : ℕ) × (nodes : List ℕ) × Chain rows u nodes v × (length nodes ≡ many))
  chain_or_long zero u = inr (u, [], refl, refl)
  chain_or_long (suc many) u = by (pointed_node rows u) refl (chain_or_long many)
    where
      by : (o : Option ℕ) → pointed_node rows u ≡ o
          → ((x : ℕ) → HasChain x
          ⊎ ((v : ℕ) × (nodes : List ℕ) × Chain rows x nodes v × (length nodes ≡ many)))
          → HasChain u
          ⊎ ((v : ℕ) × (nodes : List ℕ) × Chain rows u nodes v × (length nodes ≡ suc many))
      by None e rest = inl (u, 0, IsChainOf-end rows u e)
      by (Some x) e rest = elim (rest x) [
        | inl (last, count, whole) ↦ inl (
          last,
          1 + count,
          IsChainOf-before rows u x last count (x ∷ []) (e, refl) whole,
        )
        | inr (v, nodes, chain, size) ↦ inr (v, x ∷ nodes, (e, chain), ap suc size)
      ]

  module _ (net : IsNetwork rows) (never : NoneReturns rows) where
    pub chain_of : (u : ℕ) → HasChain u
    chain_of u = elim (chain_or_long (length rows) u) [
      | inl found ↦ found
      | inr (v, nodes, chain, size) ↦
          let (w, x, around, round) : SomeReturns rows = SomeReturns-LeadsRound rows u
          (LeadsRound-long rows net u v nodes chain (omega (arith, size))) in
          absurd (never w x around round)
    ]

    -- the length of the chain of a node
    abbrev pub chain_length : ℕ → ℕ
    chain_length u = (chain_of u).1

    pub AreChainLengths-chain_length : AreChainLengths rows chain_length
    AreChainLengths-chain_length row in' =
        ((chain_of row.id).0, (chain_of row.id).2)

  module _ (net : IsNetwork rows) (depth : ℕ → ℕ) (deep : AreChainLengths rows depth) where
    -- chain lengths fall by one along each pointer
    pub Falls-chains : Falls rows depth
    Falls-chains = chains_fall rows net depth deep

    pub depth_few : (row : NodeRow) → Contains rows row → depth row.id < length rows
    depth_few row in' =
        IsChainOf-short rows net row.id (deep row in').0 (depth row.id) (deep row in').1
