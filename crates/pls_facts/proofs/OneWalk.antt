-- Two nodes of a spanning tree are the ends of one path and no other.
use Rattle.std.proofs.Common.{◌≡◌, ◌≢◌, ◌∙◌, ℕ, inl, inr, List, [], ◌∷◌, refl, sym, subst, Contains, remove}
use Rattle.std.proofs.lemmas.Bool.{cases_eq}
use Rattle.pls_configuration.specs.Walk.{Edge, Adjacent, AreJoined, Joins, Walk}
use Rattle.pls_graph.proofs.Joined.{AreJoined-through, AreJoined-turned}
use Rattle.pls_graph.proofs.Members.{Contains-first, Contains-later}
use Rattle.pls_facts.specs.Path.{IsPath}
use Rattle.pls_facts.specs.SpanningTree.{AreDistinct, IsSpanningTree}
use Rattle.pls_facts.proofs.Distinct.{AreDistinct-first, Contains-remove}
use Rattle.pls_facts.proofs.Exchanges.{AreJoined-removed, Walk-others}
use Rattle.pls_facts.proofs.Paths.{IsAlong-ends, IsPath-rest, path_of}

-- a walk of one edge or more ends at one of its listed nodes
Walk-ends : (edges : List Edge) (u v x : ℕ) (nodes : List ℕ) → Walk edges u (x ∷ nodes) v
    → Contains (x ∷ nodes) v
Walk-ends edges u v x [] walk = subst (Contains (x ∷ [])) walk.1 (Contains-first x [])
Walk-ends edges u v x (y ∷ nodes) walk =
    Contains-later x (y ∷ nodes) v (Walk-ends edges x v y nodes walk.1)

module _ (edges tree : List Edge) (nodes : List ℕ) (spans : IsSpanningTree edges tree nodes)
    (distinct : AreDistinct nodes) where
  -- paths between the same nodes take the same first step: else the two would join the ends of an
  -- edge without it
  first_step : (u x y v : ℕ) (one other : List ℕ) → IsPath tree u (x ∷ one) v
      → IsPath tree u (y ∷ other) v → x ≡ y
  first_step u x y v one other path also = elim (cases_eq x y) [
    | inl same ↦ same
    | inr apart ↦ absurd (by path.walk.0 apart)
  ]
    where
      by : Adjacent tree u x → x ≢ y → ⊥
      by (edge, at, joins) apart =
          let left = remove tree at.0 in
          let onward : AreJoined left x v = (
            one,
            Walk-others tree edge left (Contains-remove tree edge at) x v one path.walk.1
                (λ is. AreDistinct-first u (x ∷ one) path.distinct
                (start (x ∷ one) joins (IsAlong-ends edge x one is))),
          ) in
          let there : AreJoined left u v = (
            y ∷ other,
            Walk-others tree edge left (Contains-remove tree edge at) u v (y ∷ other) also.walk
                (λ is. elim is [
                  | inl again ↦ apart (second joins again)
                  | inr later ↦ AreDistinct-first u (y ∷ other) also.distinct
                      (start (y ∷ other) joins (IsAlong-ends edge y other later))
                ]),
          ) in
          let joined : AreJoined left u x =
          AreJoined-through left u v x there (AreJoined-turned left x v onward) in
          AreJoined-removed edges tree nodes spans distinct edge at (elim joins [
            | inl ends ↦ rw (ends.0, ends.1) joined
            | inr ends ↦ rw (ends.0, ends.1) (AreJoined-turned left u x joined)
          ])
        where
          start : (list : List ℕ) → Joins edge u x → Contains list edge.a × Contains list edge.b
              → Contains list u
          start list (inl ends) both = subst (Contains list) ends.0 both.0
          start list (inr ends) both = subst (Contains list) ends.1 both.1

          second : Joins edge u x → Joins edge u y → x ≡ y
          second (inl one) (inl other) = sym one.1 ∙ other.1
          second (inl one) (inr other) =
              sym one.1 ∙ other.1 ∙ sym one.0 ∙ other.0
          second (inr one) (inl other) =
              sym one.0 ∙ other.0 ∙ sym one.1 ∙ other.1
          second (inr one) (inr other) = sym one.0 ∙ other.0

  -- and so all steps
  pub IsPath-one : (u v : ℕ) (one other : List ℕ) → IsPath tree u one v → IsPath tree u other v
      → one ≡ other
  IsPath-one u v [] [] path also = refl
  IsPath-one u v [] (y ∷ other) path also = absurd (AreDistinct-first u (y ∷ other) also.distinct
      (subst (Contains (y ∷ other)) (sym path.walk) (Walk-ends tree u v y other also.walk)))
  IsPath-one u v (x ∷ one) [] path also = absurd (AreDistinct-first u (x ∷ one) path.distinct
      (subst (Contains (x ∷ one)) (sym also.walk) (Walk-ends tree u v x one path.walk)))
  IsPath-one u v (x ∷ one) (y ∷ other) path also =
      let same : x ≡ y = first_step u x y v one other path also in
      let rest : one ≡ other = IsPath-one x v one other (IsPath-rest tree u x v one path)
      (subst (λ (y : ℕ). IsPath tree y other v) (sym same) (IsPath-rest tree u y v other also)) in
      rw (same, rest) refl

  -- one path, and no other
  pub one_walk : (u v : ℕ) → Contains nodes u → Contains nodes v
      → (path : List ℕ) × IsPath tree u path v
      × ((other : List ℕ) → IsPath tree u other v → path ≡ other)
  one_walk u v u_in v_in =
      let (walked, walk) : AreJoined tree u v = spans.joined u v u_in v_in in
      let (path, is) : (path : List ℕ) × IsPath tree u path v = path_of tree u v walked walk in
      (path, is, λ other also. IsPath-one u v path other is also)
