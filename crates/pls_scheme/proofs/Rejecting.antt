-- Where not all nodes accept, some node rejects: what makes a scheme.
use Rattle.std.proofs.Common.{◌≡◌, ℕ, ◌≤◌, inl, inr, true, false, Bool, Option, Some, None, IfSome, IfNone, List, [], ◌∷◌, length, get_or, ap, Contains}
use Rattle.std.specs.List.{All, list_all}
use Rattle.std.proofs.lemmas.Bool.{cases_Bool}
use Rattle.std.proofs.lemmas.List.Sums.{AllPass-from_list_all}
use Rattle.pls_configuration.specs.declared.row.NodeRow.{NodeRow}
use Rattle.pls_configuration.specs.declared.verdict.Verdict.{Verdict}
use Rattle.pls_configuration.specs.Configuration.{IsNetwork}
use Rattle.pls_configuration.specs.Walk.{IsConnected}
use Rattle.pls_graph.specs.declared.size.Size.{Size}
use Rattle.pls_graph.specs.Size.{size_of}
use Rattle.pls_graph.proofs.Members.{Contains-first, Contains-later}
use Rattle.pls_labels.specs.Seen.{Seen, views}
use Rattle.pls_scheme.specs.Judging.{AllAccept}
use Rattle.pls_scheme.specs.inner.Accepting.{accepts}
use Rattle.pls_streams.specs.Steps.{capped}
use Rattle.pls_scheme.specs.Scheme.{IsScheme, SomeNodeRejects}
use Rattle.pls_scheme.specs.SchemeLaws.{IsSound}
use Rattle.pls_scheme.proofs.Accepted.{accepts-true}

-- a list of which not every item passes has one that does not
some_fails : {X : Type 0} (test : X → Bool) (xs : List X) → list_all test xs ≡ false
    → (x : X) × Contains xs x × (test x ≡ false)
some_fails test [] fails = absurd (cc)
some_fails test (x ∷ xs) fails = elim (cases_Bool (test x)) [
  | inr not ↦ (x, Contains-first x xs, not)
  | inl passes ↦
      let (later, in', not) = some_fails test xs (rw passes at fails) in
      (later, Contains-later x xs later in', not)
]

-- where a network lacks what acceptance shows, some node rejects
pub some_node_rejects : (judge : Seen → Verdict) (holds : List NodeRow → Type 0) → IsSound judge holds
    → (rows : List NodeRow) → IsNetwork rows → IsConnected rows → (holds rows → ⊥)
    → (labels : List (List Bool)) → length labels ≡ length rows → SomeNodeRejects judge rows labels
some_node_rejects judge holds sound rows net joined lacks labels each =
    elim (cases_Bool (list_all (λ view. accepts (judge view)) (views rows labels))) [
      | inl passes ↦ absurd (lacks (sound rows labels net joined each
          (λ k d within. accepts-true (judge (get_or (views rows labels) k d))
          (AllPass-from_list_all (λ view. accepts (judge view)) (views rows labels) passes k d
          within))))
      | inr fails ↦
          let (view, seen, not) = some_fails (λ view. accepts (judge view)) (views rows labels) fails in
          record {
            view = view;
            seen = seen;
            rejects = λ same. absurd (by (ap accepts same) not);
          }
    ]
  where
    by : {b : Bool} → b ≡ true → b ≡ false → ⊥
    by first second = absurd (cc)

-- what a marker found is what makes a scheme
pub is_scheme-marked : (judge : Seen → Verdict) (holds : List NodeRow → Type 0) (longest : Size → ℕ)
    → IsSound judge holds → (rows : List NodeRow) → IsNetwork rows → IsConnected rows
    → (found : Option (List (List Bool))) → IfNone found (holds rows → ⊥)
    → IfSome found (λ labels. holds rows) → IfSome found (λ labels. length labels ≡ length rows)
    → IfSome found (λ labels. AllAccept judge rows labels)
    → IfSome found (λ labels. All (λ label. length label ≤ capped (longest (size_of rows))) labels)
    → IsScheme judge holds longest rows
is_scheme-marked judge holds longest sound rows net joined None lacks has each accepted short = record {
  complete = λ in'. absurd (lacks in');
  sound = some_node_rejects judge holds sound rows net joined;
}
is_scheme-marked judge holds longest sound rows net joined (Some labels) lacks has each accepted short =
    record {
      complete = λ _. (labels, record { each = each; short = short; accepted = accepted });
      sound = some_node_rejects judge holds sound rows net joined;
    }
