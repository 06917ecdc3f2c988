-- Rule 5 on the levels of one pass, by the flags of these and by the levels that stand there.
use Rattle.std.proofs.Common.{◌≡◌, ◌∙◌, ◌<◌, ◌≤◌, ℕ, ◌+◌, ◌-◌, nat_le, nat_lt, not, inl, inr, ◌⊎◌, Bool, true, false, ◌||◌, List, get_or, slice_get, Option, Some, refl, sym, ap, arith}
use Rattle.std.specs.List.{enumerate_from, list_any}
use Rattle.std.specs.Option.{option_map_or}
use Rattle.std.proofs.lemmas.Bool.{and_from, and_parts, cases_Bool, le-leb, leb-true, lt-ltb, ltb-true, true≢false}
use Rattle.std.proofs.lemmas.List.FromFn.{get_or-map-range_with_len}
use Rattle.pls_scheme.specs.Reading.{Read, ReadPort}
use Rattle.pls_centroid.specs.declared.level.CentroidLevel.{CentroidLevel}
use Rattle.pls_pathmax.specs.declared.gathering.TheConstants.{WINDOW}
use Rattle.pls_pathmax.specs.Labels.{PathMaxLabel}
use Rattle.pls_pathmax.specs.Rules.{has_way, has_ways_to_centroids, leads_on_at}
use Rattle.pls_pathmax.specs.inner.OnePass.{has_ways_from, is_in_window, is_led_on, led_on_from}
use Rattle.pls_pathmax.specs.inner.Glance.{is_own_level}
use Rattle.pls_levels.specs.laws.Levelwise.{all_from_0, passes_from_0}

-- a number is in the window or not
pub in_window : (first number : ℕ) → first ≤ number → number < first + WINDOW
    → is_in_window first number ≡ true
in_window first number past before = and_from (nat_le first number) (nat_lt number (first + WINDOW))
    (le-leb first number past) (lt-ltb number (first + WINDOW) before)

pub from_window : (first number : ℕ) → is_in_window first number ≡ true
    → (first ≤ number) × (number < first + WINDOW)
from_window first number is =
    let parts = and_parts (nat_le first number) (nat_lt number (first + WINDOW)) is in
    (leb-true first number parts.0, ltb-true number (first + WINDOW) parts.1)

module _ (view : Read PathMaxLabel) where
  abbrev levels : List CentroidLevel
  levels = view.own.levels

  module _ (first : ℕ) where
    -- the test of a level, where it is in the window
    abbrev asked : ℕ → CentroidLevel → Bool
    asked number level = not (is_in_window first number) || has_way view number level

    -- rule 5 of a window is that of each level in it
    pub window_from : ((number : ℕ) (level : CentroidLevel) → slice_get levels number ≡ Some level
        → first ≤ number → number < first + WINDOW → has_way view number level ≡ true)
        → has_ways_from first view ≡ true
    window_from each = all_from_0 asked levels (λ number level at.
        by number level at (cases_Bool (is_in_window first number)))
      where
        by : (number : ℕ) (level : CentroidLevel) → slice_get levels number ≡ Some level
            → (is_in_window first number ≡ true) ⊎ (is_in_window first number ≡ false)
            → asked number level ≡ true
        by number level at (inr out) =
            ap (λ (inside : Bool). not inside || has_way view number level) out
        by number level at (inl inside) =
            let bounds = from_window first number inside in
            ap (λ (inside : Bool). not inside || has_way view number level) inside
            ∙ each number level at bounds.0 bounds.1

    pub to_window : has_ways_from first view ≡ true → (number : ℕ) (level : CentroidLevel)
        → slice_get levels number ≡ Some level → first ≤ number → number < first + WINDOW
        → has_way view number level ≡ true
    to_window holds number level at past before =
        sym (ap (λ (inside : Bool). not inside || has_way view number level)
        (in_window first number past before))
        ∙ passes_from_0 asked levels holds number level at

    -- the flag of a level in the window
    flag_is : (k : ℕ) → k < WINDOW → get_or (led_on_from first view) k false
        ≡ is_led_on view (first + k)
    flag_is k within = let same : 0 + k ≡ k = omega arith in
        get_or-map-range_with_len (λ (k : ℕ). is_led_on view (first + k)) 0 WINDOW k k false within
        same

    -- and the level's own rule by it
    way_is : (number k : ℕ) (level : CentroidLevel) → slice_get levels number ≡ Some level
        → number ≡ first + k → k < WINDOW
        → has_way view number level
        ≡ (is_own_level view.own.own level || get_or (led_on_from first view) k false)
    way_is number k level at is within =
        ap (λ (led : Bool). is_own_level view.own.own level || led)
        (sym (flag_is k within ∙ ap (is_led_on view) (sym is)
        ∙ ap (λ (found : Option CentroidLevel). option_map_or (λ level.
        list_any (λ (numbered : ℕ × ReadPort PathMaxLabel).
        leads_on_at view number level numbered.0 numbered.1) (enumerate_from 0 view.ports))
        found false) at))

    module _ (flags : List Bool) (are : flags ≡ led_on_from first view) where
      pub ways_hold : ((k : ℕ) (level : CentroidLevel) → k < WINDOW
          → slice_get levels (first + k) ≡ Some level
          → (is_own_level view.own.own level || get_or flags k false) ≡ true)
          → has_ways_from first view ≡ true
      ways_hold each = window_from (λ number level at past before.
          let here : number ≡ first + (number - first) = omega (arith, past) in
          let within : number - first < WINDOW = omega (arith, past, before) in
          way_is number (number - first) level at here within
          ∙ ap (λ (flags : List Bool).
          is_own_level view.own.own level || get_or flags (number - first) false) (sym are)
          ∙ each (number - first) level within
          (ap (slice_get levels) (sym here) ∙ at))

      pub ways_fail : (k : ℕ) (level : CentroidLevel) → k < WINDOW
          → slice_get levels (first + k) ≡ Some level
          → (is_own_level view.own.own level || get_or flags k false) ≡ false
          → has_ways_from first view ≡ false
      ways_fail k level within at fails = elim (cases_Bool (has_ways_from first view)) [
        | inr fine ↦ fine
        | inl holds ↦ absurd (true≢false
            (sym (to_window holds (first + k) level at (omega arith) (omega (arith, within)))
            ∙ way_is (first + k) k level at refl within
            ∙ ap (λ (flags : List Bool). is_own_level view.own.own level || get_or flags k false)
            (sym are) ∙ fails))
      ]

  -- rule 5 gives it for every window
  pub whole_window : (first : ℕ) → has_ways_to_centroids view ≡ true
      → has_ways_from first view ≡ true
  whole_window first holds = window_from first (λ number level at past before.
      passes_from_0 (has_way view) levels holds number level at)

  -- and it holds where each level has its way
  pub whole_from : ((number : ℕ) (level : CentroidLevel) → slice_get levels number ≡ Some level
      → has_way view number level ≡ true) → has_ways_to_centroids view ≡ true
  whole_from each = all_from_0 (has_way view) levels each
