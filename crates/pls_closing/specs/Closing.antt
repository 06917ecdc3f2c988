-- Lists whose last item closes what stands before it.
use Rattle.std.specs.Prelude.{◌≡◌, ◌⊎◌, ℕ, ◌<◌, ◌≤◌, Bool, true, List, [], ◌∷◌, All, filter}
use Rattle.pls_streams.specs.declared.text_error.TextError.{TextError}
use Rattle.pls_streams.specs.declared.text_error.TextError.TheVariants.{Limit, NoMemory}
use Rattle.pls_streams.specs.declared.text_error.Quantity.TheVariants.{Events, Rounds}
use Rattle.pls_configuration.specs.declared.limits.TheConstants.{MAX_LINES, MAX_ROUNDS}

-- the last item closes; where there is none, whether there may be none
abbrev pub is_closed : {X : Type 0} → (X → Bool) → Bool → List X → Bool
is_closed closes may_lack [] = may_lack
is_closed closes may_lack (item ∷ []) = closes item
is_closed closes may_lack (item ∷ next ∷ others) = is_closed closes may_lack (next ∷ others)

-- each item fits, and the last one closes
pub record AreClosed {X : Type 0} (Fits : X → Type 0) (closes : X → Bool) (may_lack : Bool)
    (items : List X) : Type 0 where
  pub each : All Fits items
  pub closed : is_closed closes may_lack items ≡ true

-- the items that close
abbrev pub closing_of : {X : Type 0} → (X → Bool) → List X → List X
closing_of closes items = filter closes items

-- some item fits and closes
pub record HasClosing {X : Type 0} (Fits : X → Type 0) (closes : X → Bool) : Type 0 where
  pub item : X
  pub fits : Fits item
  pub ends : closes item ≡ true

-- so many lines, and so many that close, are within the limits
pub record AreFew (lines closing : ℕ) : Type 0 where
  pub few_lines : lines ≤ MAX_LINES
  pub few_closing : closing ≤ MAX_ROUNDS

-- there are more lines than the limit, or else more that close than theirs
abbrev pub IsBeyond : ℕ → ℕ → TextError → Type 0
IsBeyond lines closing error =
    ((error ≡ Limit Events) × (MAX_LINES < lines))
    ⊎ ((error ≡ Limit Rounds) × (lines ≤ MAX_LINES) × (MAX_ROUNDS < closing))

-- why lines are refused: there are too many, or there was no memory
abbrev pub IsLinesRefusal : ℕ → ℕ → TextError → Type 0
IsLinesRefusal lines closing NoMemory = AreFew lines closing
IsLinesRefusal lines closing error = IsBeyond lines closing error
