-- On each level there are at most half as many fragments as on the one before, so of n nodes there
-- are at most log n levels.
use Rattle.std.proofs.Common.{◌≡◌, ◌≢◌, ◌∙◌, ℕ, ◌+◌, ◌^◌, ◌≤◌, ◌==◌, ◌⊎◌, inl, inr, true, cond, List, [], ◌∷◌, ◌++◌, map, length, refl, sym, ap, subst, arith, Contains, pow-suc, length-append}
use Rattle.std.specs.List.{filter}
use Rattle.std.proofs.lemmas.Bool.{cases_eq, cond-false, cond-true, eq-eqb, eqb-true, ne_eqb}
use Rattle.std.proofs.lemmas.List.{length-map}
use Rattle.std.proofs.lemmas.List.Elements.{Contains-append_cases, Contains-append_left, Contains-append_right}
use Rattle.std.proofs.lemmas.List.Kept.{AllPairs-filter}
use Rattle.pls_configuration.specs.Walk.{Edge, Joins}
use Rattle.pls_graph.proofs.Joined.{AreJoined-adjacent}
use Rattle.pls_graph.proofs.Members.{Contains-cons_cases, Contains-filter, Contains-from_filter, Contains-from_map, Contains-map}
use Rattle.pls_facts.specs.SpanningTree.{AreDistinct}
use Rattle.pls_facts.specs.inner.Graphs.{IsGraph}
use Rattle.pls_boruvka.specs.declared.level.Level.{Level}
use Rattle.pls_boruvka.specs.Boruvka.{AreBoruvkaLevelsFrom, IsLevelOf, chosen_edge, chosen_edges}
use Rattle.pls_boruvka.specs.Fragments.{AreFragments}
use Rattle.pls_facts.proofs.Distinct.{AreDistinct-cons, AreDistinct-nil}
use Rattle.pls_facts.proofs.Fewer.{AreDistinct-append, AreDistinct-map, length-part}
use Rattle.pls_facts.proofs.Paths.{AreJoined-each}

module _ (edges : List Edge) (nodes : List ℕ) (graph : IsGraph edges nodes)
    (Before : Edge → Edge → Type 0) (depth : ℕ → ℕ) where
  -- the nodes that their fragments are named after
  abbrev pub named : (ℕ → ℕ) → List ℕ
  named fragment = filter (λ u. fragment u == u) nodes

  named-from : (fragment : ℕ → ℕ) (u : ℕ) → Contains (named fragment) u
      → Contains nodes u × (fragment u ≡ u)
  named-from fragment u in' =
      let found : Contains nodes u × ((fragment u == u) ≡ true) =
      Contains-from_filter (λ (u : ℕ). fragment u == u) nodes u in' in
      (found.0, eqb-true (fragment u) u found.1)

  named-in : (fragment : ℕ → ℕ) (u : ℕ) → Contains nodes u → fragment u ≡ u
      → Contains (named fragment) u
  named-in fragment u in' own =
      Contains-filter (λ (u : ℕ). fragment u == u) nodes u in' (eq-eqb (fragment u) u own)

  -- a fragment's name is one
  named-name : (joined : List Edge) (fragment : ℕ → ℕ) → AreFragments joined nodes depth fragment
      → (u : ℕ) → Contains nodes u → Contains (named fragment) (fragment u)
  named-name joined fragment are u in' = named-in fragment (fragment u) (are.known u in')
      (sym (are.one u (fragment u) in' (are.known u in') (are.holds u in')))

  module _ (joined : List Edge) (level : ℕ → Level)
      (is : IsLevelOf edges joined Before nodes depth level) where
    abbrev fragment : ℕ → ℕ
    fragment u = (level u).fragment

    -- the fragment at the other end of the edge that a fragment chose
    abbrev across : ℕ → ℕ
    across c = cond (fragment (level c).a == fragment c)
        (fragment (level c).b) (fragment (level c).a)

    -- it is another one
    record IsAcross (c : ℕ) : Type 0 where
      here : ℕ
      there : ℕ
      joins : Joins (chosen_edge (level c)) here there
      here_in : Contains nodes here
      there_in : Contains nodes there
      home : fragment here ≡ fragment c
      away : fragment there ≢ fragment c
      is_across : across c ≡ fragment there

    crossed : (c : ℕ) → Contains nodes c → IsAcross c
    crossed c in' = by (cases_eq (fragment a) (fragment c)) (cases_eq (fragment b) (fragment c))
      where
        a : ℕ
        a = (level c).a

        b : ℕ
        b = (level c).b

        ends : Contains nodes (level c).a × Contains nodes (level c).b
        ends = graph.ends (chosen_edge (level c)) (is.among c in')

        by : (fragment (level c).a ≡ fragment c)
            ⊎ (fragment (level c).a ≢ fragment c)
            → (fragment (level c).b ≡ fragment c)
            ⊎ (fragment (level c).b ≢ fragment c) → IsAcross c
        by (inl home) (inl same) = absurd ((is.first c in').leaves
            (ap (λ (name : ℕ). name == fragment c) (home ∙ sym same)))
        by (inr away) (inr apart) = absurd ((is.first c in').leaves
            (ne_eqb (fragment (level c).a) (fragment c) away
            ∙ sym (ne_eqb (fragment (level c).b) (fragment c) apart)))
        by (inl home) (inr away) = record {
          here = (level c).a;
          there = (level c).b;
          joins = inl (refl, refl);
          here_in = ends.0;
          there_in = ends.1;
          home = home;
          away = away;
          is_across = cond-true (fragment (level c).a == fragment c)
              (fragment (level c).b) (fragment (level c).a)
              (eq-eqb (fragment (level c).a) (fragment c) home);
        }
        by (inr away) (inl home) = record {
          here = (level c).b;
          there = (level c).a;
          joins = inr (refl, refl);
          here_in = ends.1;
          there_in = ends.0;
          home = home;
          away = away;
          is_across = cond-false (fragment (level c).a == fragment c)
              (fragment (level c).b) (fragment (level c).a)
              (ne_eqb (fragment (level c).a) (fragment c) away);
        }

    -- there are two fragments at least, if there is a node
    pub two_named : (u : ℕ) → Contains nodes u → 2 ≤ length (named fragment)
    two_named u in' =
        let other : IsAcross u = crossed u in' in
        length-part (fragment u ∷ fragment other.there ∷ []) (named fragment)
        (AreDistinct-cons (fragment u) (fragment other.there ∷ [])
        (λ in'. elim (Contains-cons_cases (fragment other.there) [] (fragment u) in') [
          | inl same ↦ other.away same
          | inr none ↦ omega (arith, none.1)
        ])
        (AreDistinct-cons (fragment other.there) [] (λ none. omega (arith, none.1))
        AreDistinct-nil))
        (λ name in_two. elim (Contains-cons_cases (fragment u) (fragment other.there ∷ []) name
        in_two) [
          | inl same ↦ subst (Contains (named fragment)) same
              (named-name joined fragment is.fragments u in')
          | inr later ↦ elim (Contains-cons_cases (fragment other.there) [] name later) [
            | inl same ↦ subst (Contains (named fragment)) same
                (named-name joined fragment is.fragments other.there other.there_in)
            | inr none ↦ absurd (omega (arith, none.1))
          ]
        ])

    -- the fragments after this level's edges join too
    module _ (after : ℕ → ℕ)
        (are : AreFragments (joined ++ chosen_edges level nodes) nodes depth after) where
      abbrev more : List Edge
      more = joined ++ chosen_edges level nodes

      same_after : (u v : ℕ) → Contains nodes u → Contains nodes v → fragment u ≡ fragment v
          → after u ≡ after v
      same_after u v u_in v_in same = to_name u u_in ∙ ap after same ∙ sym (to_name v v_in)
        where
          to_name : (u : ℕ) → Contains nodes u → after u ≡ after (fragment u)
          to_name u u_in = are.one u (fragment u) u_in (is.fragments.known u u_in)
              (AreJoined-each joined more (λ w x (edge, in', joins).
              AreJoined-adjacent more w x (
                edge,
                Contains-append_left joined
                    (chosen_edges level nodes) edge in',
                joins,
              ))
              u (fragment u) (is.fragments.holds u u_in))

      -- one that names a fragment then did so before
      was_named : (c : ℕ) → Contains (named after) c → Contains (named fragment) c
      was_named c in' =
          let found : Contains nodes c × (after c ≡ c) = named-from after c in' in
          let name_in : Contains nodes (fragment c) = is.fragments.known c found.0 in
          let again : after (fragment c) ≡ c =
          sym (same_after c (fragment c) found.0 name_in
          (is.fragments.one c (fragment c) found.0 name_in (is.fragments.holds c found.0)))
          ∙ found.1 in
          named-in fragment c found.0 (elim (is.fragments.least c found.0) [
            | inl own ↦ own
            | inr less ↦ elim (are.least (fragment c) name_in) [
              | inl same ↦ sym same ∙ again
              | inr lower ↦ let e = ap depth again in absurd (omega (arith, less, lower))
            ]
          ])

      -- the fragment across named one before, and is then in that of c
      across_named : (c : ℕ) → Contains (named after) c
          → Contains (named fragment) (across c) × (after (across c) ≡ c) × (across c ≢ c)
      across_named c in' =
          let found : Contains nodes c × (after c ≡ c) = named-from after c in' in
          let other : IsAcross c = crossed c found.0 in
          let own : fragment c ≡ c = (named-from fragment c (was_named c in')).1 in
          let there_name : Contains nodes (fragment other.there) =
          is.fragments.known other.there other.there_in in
          let back : after (fragment other.there) ≡ c =
          sym (same_after other.there (fragment other.there) other.there_in there_name
          (is.fragments.one other.there (fragment other.there) other.there_in there_name
          (is.fragments.holds other.there other.there_in)))
          ∙ sym (are.one other.here other.there other.here_in other.there_in
          (AreJoined-adjacent more other.here other.there (
            (chosen_edge (level c)),
            Contains-append_right joined (chosen_edges level nodes) (chosen_edge (level c))
                (Contains-map (λ u. chosen_edge (level u)) nodes c found.0),
            other.joins,
          )))
          ∙ same_after other.here c other.here_in found.0 other.home ∙ found.1 in (
            subst (Contains (named fragment)) (sym other.is_across)
                (named-name joined fragment is.fragments other.there other.there_in),
            ap after other.is_across ∙ back,
            λ same. other.away (sym other.is_across ∙ same ∙ sym own),
          )

      -- so there were twice as many
      pub twice_named : length (named after) + length (named after) ≤ length (named fragment)
      twice_named =
          let distinct : AreDistinct (named after) =
          AllPairs-filter (λ (one other : ℕ). one ≢ other) (λ u. after u == u) nodes
          graph.distinct in
          let all : List ℕ = named after ++ map across (named after) in
          let few = length-part all (named fragment)
          (AreDistinct-append (named after) (map across (named after)) distinct
          (AreDistinct-map across after (named after) distinct (λ c in'. (across_named c in').1))
          (λ c in' also.
          let (d, d_in, same) : (d : ℕ) × Contains (named after) d × (across d ≡ c) =
          Contains-from_map across (named after) c also in
          let other = across_named d d_in in
          other.2 (same ∙ sym (named-from after c in').1 ∙ sym (ap after same) ∙ other.1)))
          (λ c in'. elim (Contains-append_cases (named after) (map across (named after)) c in') [
            | inl early ↦ was_named c early
            | inr late ↦
                let (d, d_in, same) : (d : ℕ) × Contains (named after) d × (across d ≡ c) =
                Contains-from_map across (named after) c late in
                subst (Contains (named fragment)) same (across_named d d_in).0
          ]) in
          omega (
            arith,
            few,
            length-append (named after) (map across (named after)),
            length-map (named after) across,
          )

  -- two to the number of levels is at most the number of fragments of the first
  many_named : (joined : List Edge) (level : ℕ → Level) (levels : List (ℕ → Level)) (u : ℕ)
      → Contains nodes u → AreBoruvkaLevelsFrom edges Before nodes depth joined (level ∷ levels)
      → 2 ^ length (level ∷ levels) ≤ length (named (λ v. (level v).fragment))
  many_named joined level [] u in' are = two_named joined level are.0 u in'
  many_named joined level (next ∷ levels) u in' are =
      let rest = many_named (joined ++ chosen_edges level nodes) next levels u in' are.1 in
      let twice = twice_named joined level are.0 (λ v. (next v).fragment) are.1.0.fragments in
      omega (arith, rest, twice, pow-suc 2 (length (next ∷ levels)))

  -- and so at most the number of nodes
  pub few_levels : (joined : List Edge) (levels : List (ℕ → Level)) (u : ℕ) → Contains nodes u
      → AreBoruvkaLevelsFrom edges Before nodes depth joined levels → 2 ^ length levels ≤ length nodes
  few_levels joined [] u in' are = omega (arith, in'.1)
  few_levels joined (level ∷ levels) u in' are =
      let many = many_named joined level levels u in' are in
      let part = length-part (named (λ v. (level v).fragment)) nodes
      (AllPairs-filter (λ (one other : ℕ). one ≢ other) (λ v. (level v).fragment == v) nodes
      graph.distinct)
      (λ v v_in. (named-from (λ v. (level v).fragment) v v_in).0) in
      omega (arith, many, part)
