-- The first levels of a label, as they are kept at a glance in a short form.
use Rattle.std.specs.Prelude.{◌≡◌, ℕ, ◌-◌, ◌++◌, nat_lt, Bool, List, map, replicate, take}
use Rattle.std.specs.List.{prefix_len}

-- whether a number is below 2^32
abbrev pub is_short : ℕ → Bool
is_short number = nat_lt number 4294967296

-- a short form of levels
pub record ShortForm (Full Short : Type 0) : Type 0 where
  -- whether a level has one
  pub fits : Full → Bool
  -- what is kept for a level that has one
  pub short : Full → Short
  -- the level that is kept
  pub whole : Short → Full
  -- what stands where there is no level
  pub none : Short

module _ {Full Short : Type 0} (form : ShortForm Full Short) where
  -- the levels that are kept, in full
  abbrev pub in_full : List Short → List Full
  in_full front = map form.whole front

  -- what is kept where at most so many levels are
  module _ (most : ℕ) where
    -- how many levels are kept: the first ones that fit
    unfoldable pub kept_count : List Full → ℕ
    kept_count levels = prefix_len form.fits (take most levels)

    -- the levels that are kept, and behind them, where there are fewer, what stands where there is
    -- none
    unfoldable pub kept_front : List Full → List Short
    kept_front levels = map form.short (take (kept_count levels) levels)
        ++ replicate (most - kept_count levels) form.none

    -- of these levels so many are kept, in this front
    abbrev pub IsKeptFront : ℕ → List Short → List Full → Type 0
    IsKeptFront count front levels = (count ≡ kept_count levels) × (front ≡ kept_front levels)
