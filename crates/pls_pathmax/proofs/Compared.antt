-- What levels of two labels say together, with one level of each more.
use Rattle.std.proofs.Common.{◌≡◌, ◌∙◌, ◌<◌, ◌≤◌, ℕ, ◌+◌, inl, inr, Bool, true, false, ◌||◌, List, [], ◌∷◌, drop, get_or, length, set, slice_get, Option, Some, None, refl, sym, ap, subst, arith, get_or-set_same, get_or-set_other}
use Rattle.std.specs.List.{list_any, zip}
use Rattle.std.proofs.lemmas.Bool.{cases_eq, cases_lt}
use Rattle.pls_centroid.specs.declared.level.CentroidLevel.{CentroidLevel}
use Rattle.pls_pathmax.specs.Rules.{leads_on, meet_lightly}
use Rattle.pls_pathmax.specs.inner.OnePass.{leads_from}

-- nothing leads on without a level
pub nothing_leads : (weight : ℕ) (mine theirs : Option CentroidLevel) → mine ≡ None
    → leads_from weight mine theirs ≡ false
nothing_leads weight mine theirs none =
    ap (λ (mine : Option CentroidLevel). leads_from weight mine theirs) none

pub leads_nothing : (weight : ℕ) (mine theirs : Option CentroidLevel) → theirs ≡ None
    → leads_from weight mine theirs ≡ false
leads_nothing weight mine theirs none =
    ap (leads_from weight mine) none ∙ by mine
  where
    by : (mine : Option CentroidLevel) → leads_from weight mine None ≡ false
    by None = refl
    by (Some mine) = refl

-- or nothing more
pub or_nothing : (flag more : Bool) → more ≡ false → flag ≡ (flag || more)
or_nothing true more none = refl
or_nothing false more none = sym none

module _ (weight : ℕ) (here there : List CentroidLevel) (number : ℕ) (old flags : List Bool)
    (done : (k : ℕ) → k < number → get_or flags k false
    ≡ (get_or old k false || leads_from weight (slice_get here k) (slice_get there k)))
    (rest : (k : ℕ) → number ≤ k → get_or flags k false ≡ get_or old k false) where
  -- where nothing leads on from a place on, all flags are noted
  pub noted_all : ((k : ℕ) → number ≤ k
      → leads_from weight (slice_get here k) (slice_get there k) ≡ false) → (k : ℕ)
      → get_or flags k false
      ≡ (get_or old k false || leads_from weight (slice_get here k) (slice_get there k))
  noted_all nothing k = elim (cases_lt k number) [
    | inl before ↦ done k before
    | inr later ↦ rest k later ∙ or_nothing (get_or old k false)
        (leads_from weight (slice_get here k) (slice_get there k)) (nothing k later)
  ]

  pub noted_to_end : number ≡ length old → (k : ℕ) → k < length old
      → get_or flags k false
      ≡ (get_or old k false || leads_from weight (slice_get here k) (slice_get there k))
  noted_to_end ends k within = done k (omega (arith, within, ends))

  -- one flag more
  module _ (within : number < length flags) (mine theirs : CentroidLevel)
      (at : slice_get here number ≡ Some mine) (also : slice_get there number ≡ Some theirs)
      (flag : Bool) (is : flag ≡ (get_or flags number false || leads_on mine weight theirs)) where
    pub noted_more : (k : ℕ) → k < number + 1 → get_or (set flags number flag) k false
        ≡ (get_or old k false || leads_from weight (slice_get here k) (slice_get there k))
    noted_more k below = elim (cases_eq k number) [
      | inl same ↦ subst (λ (k : ℕ). get_or (set flags number flag) k false
          ≡ (get_or old k false || leads_from weight (slice_get here k) (slice_get there k)))
          (sym same) now
      | inr apart ↦ get_or-set_other flags number k flag false apart
          ∙ done k (omega (arith, below, apart))
    ]
      where
        now : get_or (set flags number flag) number false
            ≡ (get_or old number false
            || leads_from weight (slice_get here number) (slice_get there number))
        now = get_or-set_same flags number flag false within ∙ is
            ∙ ap (λ (before : Bool). before || leads_on mine weight theirs)
            (rest number (omega arith))
            ∙ sym (ap (λ (mine : Option CentroidLevel).
            get_or old number false || leads_from weight mine (slice_get there number)) at
            ∙ ap (λ (theirs : Option CentroidLevel).
            get_or old number false || leads_from weight (Some mine) theirs) also)

-- the flags behind it stay
pub noted_rest : (number : ℕ) (old flags : List Bool)
    → ((k : ℕ) → number ≤ k → get_or flags k false ≡ get_or old k false) → (flag : Bool) (k : ℕ)
    → number + 1 ≤ k → get_or (set flags number flag) k false ≡ get_or old k false
noted_rest number old flags rest flag k later =
    get_or-set_other flags number k flag false (λ same. omega (arith, same, later))
    ∙ rest k (omega (arith, later))

module _ (weight : ℕ) where
  abbrev beside : CentroidLevel × CentroidLevel → Bool
  beside both = meet_lightly weight both.0 both.1

  -- whether some level behind the first so many is one on which two nodes meet lightly
  abbrev pub meet_from : List CentroidLevel → List CentroidLevel → ℕ → Bool
  meet_from here there number = list_any beside (zip (drop number here) (drop number there))

  pub none_meet_here : (here there : List CentroidLevel) (number : ℕ) → drop number here ≡ []
      → meet_from here there number ≡ false
  none_meet_here here there number none =
      ap (λ (here : List CentroidLevel). list_any beside (zip here (drop number there))) none

  pub none_meet_there : (here there : List CentroidLevel) (number : ℕ) → drop number there ≡ []
      → meet_from here there number ≡ false
  none_meet_there here there number none =
      ap (λ (there : List CentroidLevel). list_any beside (zip (drop number here) there)) none
      ∙ by (drop number here)
    where
      by : (here : List CentroidLevel) → list_any beside (zip here []) ≡ false
      by [] = refl
      by (level ∷ here) = refl

  pub meet_next : (here there : List CentroidLevel) (number : ℕ) (mine theirs : CentroidLevel)
      → drop number here ≡ mine ∷ drop (number + 1) here
      → drop number there ≡ theirs ∷ drop (number + 1) there
      → meet_from here there number
      ≡ (meet_lightly weight mine theirs || meet_from here there (number + 1))
  meet_next here there number mine theirs one other =
      ap (λ (here : List CentroidLevel). list_any beside (zip here (drop number there))) one
      ∙ ap (λ (there : List CentroidLevel).
      list_any beside (zip (mine ∷ drop (number + 1) here) there)) other
