-- A node has one list of levels.
use Rattle.std.proofs.Common.{◌≡◌, ◌∙◌, ℕ, inl, inr, List, [], ◌∷◌, length, refl, sym, ap, subst}
use Rattle.std.proofs.lemmas.Option.{same_Some}
use Rattle.pls_configuration.specs.declared.row.NodeRow.{NodeRow}
use Rattle.pls_configuration.specs.Configuration.{IsNetwork, ids_of}
use Rattle.pls_configuration.specs.Walk.{Edge}
use Rattle.pls_facts.specs.Path.{IsPath}
use Rattle.pls_facts.specs.SpanningTree.{IsTree, pointed_edges}
use Rattle.pls_centroid.specs.Centroid.{next_edges}
use Rattle.pls_centroid.specs.Levels.{AreLevelsFrom, IsCentroidLevelOf, greatest_along}
use Rattle.pls_centroid.specs.declared.level.CentroidLevel.{CentroidLevel}
use Rattle.pls_centroid.proofs.Mates.{one_path}

-- levels of equal parts are equal
same_level : (one other : CentroidLevel) → one.centroid ≡ other.centroid → one.hops ≡ other.hops
    → one.greatest ≡ other.greatest → one ≡ other
same_level one other = by one.centroid other.centroid one.hops other.hops one.greatest
    other.greatest
  where
    of_parts : ℕ → ℕ → ℕ → CentroidLevel
    of_parts centroid hops greatest =
        record { centroid = centroid; hops = hops; greatest = greatest }

    by : (c d h i g k : ℕ) → c ≡ d → h ≡ i → g ≡ k → of_parts c h g ≡ of_parts d i k
    by c d h i g k first second third = rw (first, second, third) refl

module _ (rows : List NodeRow) (net : IsNetwork rows) (is_tree : IsTree rows) where
  -- there is one level of these edges
  pub one_level : (edges : List Edge) (u : ℕ) (one other : CentroidLevel)
      → IsCentroidLevelOf rows edges u one → IsCentroidLevelOf rows edges u other → one ≡ other
  one_level edges u one other mine theirs =
      let same : one.centroid ≡ other.centroid = same_Some one.centroid other.centroid
      (sym mine.centroid ∙ theirs.centroid) in
      let path : mine.path ≡ theirs.path = one_path rows net is_tree u other.centroid mine.path
      theirs.path (subst (IsPath (pointed_edges rows) u mine.path) same mine.leads) theirs.leads in
      same_level one other same (mine.hops ∙ ap length path ∙ sym theirs.hops)
      (mine.greatest ∙ ap (greatest_along rows u) path ∙ sym theirs.greatest)

  -- and one list from these edges on
  pub one_list : (edges : List Edge) (u : ℕ) (one other : List CentroidLevel)
      → AreLevelsFrom rows edges u one → AreLevelsFrom rows edges u other → one ≡ other
  one_list edges u [] other mine theirs = absurd mine
  one_list edges u (l ∷ one) [] mine theirs = absurd theirs
  one_list edges u (l ∷ one) (m ∷ other) mine theirs =
      let first : l ≡ m = one_level edges u l m mine.0 theirs.0 in
      let named : l.centroid ≡ m.centroid = ap (λ (level : CentroidLevel). level.centroid) first in
      let rest : one ≡ other = elim mine.1 [
        | inl last ↦ elim theirs.1 [
          | inl also ↦ last.1 ∙ sym also.1
          | inr on ↦ absurd (on.0 (sym named ∙ last.0))
        ]
        | inr on ↦ elim theirs.1 [
          | inl also ↦ absurd (on.0 (named ∙ also.0))
          | inr more ↦ one_list (next_edges (ids_of rows) edges) u one other on.1 more.1
        ]
      ] in
      rw (first, rest) refl
