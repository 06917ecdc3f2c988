-- Where no node is touched, the kept verdicts are a full round.
use Rattle.std.proofs.Common.{◌≡◌, ◌∙◌, ℕ, suc, ◌≤◌, List, [], ◌∷◌, map, length, slice_get, Some, refl, sym, ap, arith}
use Rattle.std.proofs.lemmas.List.{length-map}
use Rattle.std.proofs.lemmas.Option.{same_Some}
use Rattle.pls_configuration.specs.declared.verdict.Verdict.{Verdict}
use Rattle.pls_labels.specs.Seen.{Seen, label_of, seen, views}
use Rattle.pls_scheme.specs.Judging.{round_by}
use Rattle.pls_recheck.specs.Snapshot.{IsCurrent, Snapshot, is_number_among}

list_by_places : {X Y : Type 0} (f : X → Y) (xs : List X) (ys : List Y) → length ys ≡ length xs
    → ((k : ℕ) (x : X) → slice_get xs k ≡ Some x → slice_get ys k ≡ Some (f x)) → ys ≡ map f xs
list_by_places f [] [] many each = refl
list_by_places f [] (y ∷ ys) many each = absurd (cc)
list_by_places f (x ∷ xs) [] many each = absurd (cc)
list_by_places f (x ∷ xs) (y ∷ ys) many each =
    rw (
      same_Some y (f x) (each 0 x refl),
      list_by_places f xs ys (omega (arith, many)) (λ k one at. each (suc k) one at),
    ) refl

pub full_round : (judge : Seen → Verdict) (now : Snapshot) → now.touched ≡ []
    → length now.kept ≡ length now.network → IsCurrent judge now
    → now.kept ≡ round_by judge now.network now.labels
full_round judge now none many current =
    list_by_places (λ view. (view.id, judge view)) (views now.network now.labels) now.kept
    (many ∙ sym (length-map now.network (seen (label_of now.network now.labels))))
    (λ k view at. current k view at (ap (λ (all : List ℕ). is_number_among all view.id) none))

pub no_items : (xs : List ℕ) → length xs ≤ 0 → xs ≡ []
no_items [] none = refl
no_items (x ∷ xs) none = absurd (omega (arith, none))
