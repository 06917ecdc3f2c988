-- What rounds say of a place, one after another.
use Rattle.std.proofs.Common.{◌≡◌, ◌≢◌, ◌∙◌, ℕ, zero, suc, ◌+◌, ◌<◌, ◌≤◌, List, [], ◌∷◌, Vec, Global, length, map, drop, get_or, slice_get, Option, Some, None, refl, sym, ap, arith, drop-cons}
use Rattle.std.proofs.lemmas.List.{get_or-map, length-map}
use Rattle.std.proofs.lemmas.List.FromFn.{get_or-map-range_with_len, length-map-range_with_len}
use Rattle.std.proofs.lemmas.Option.{slice_get-get_or}
use Rattle.pls_centroid.specs.declared.level.CentroidLevel.{CentroidLevel}
use Rattle.pls_centroid.specs.inner.Rounds.{entries_at, lists_said, said_on}

-- the rounds, as lists
abbrev pub lists_in : List (Vec (Option CentroidLevel) Global) → List (List (Option CentroidLevel))
lists_in rounds = map (λ round. round.items) rounds

-- the level of a number is what the entry of that number says
pub said_on-at : (entries : List (Option CentroidLevel)) (number : ℕ)
    → number < length (said_on entries)
    → slice_get (said_on entries) number ≡ get_or entries number None
said_on-at [] number within = absurd (omega (arith, within))
said_on-at (None ∷ entries) number within = absurd (omega (arith, within))
said_on-at (Some level ∷ entries) zero within = refl
said_on-at (Some level ∷ entries) (suc number) within =
    said_on-at entries number (omega (arith, within))

-- there are no more levels than entries
pub said_on-few : (entries : List (Option CentroidLevel)) → length (said_on entries) ≤ length entries
said_on-few [] = omega arith
said_on-few (None ∷ entries) = omega arith
said_on-few (Some level ∷ entries) = let few = said_on-few entries in omega (arith, few)

-- there is an entry for each round
pub entries_many : (rounds : List (Vec (Option CentroidLevel) Global)) (place : ℕ)
    → length (entries_at (lists_in rounds) place) ≡ length rounds
entries_many rounds place = length-map (lists_in rounds) (λ round. get_or round place None)
    ∙ length-map rounds (λ round. round.items)

module _ (rounds : List (Vec (Option CentroidLevel) Global)) (place number : ℕ)
    (within : number < length rounds) (round : Vec (Option CentroidLevel) Global)
    (here : round ≡ get_or rounds number round) where
  abbrev entries : List (Option CentroidLevel)
  entries = entries_at (lists_in rounds) place

  abbrev items_of : Vec (Option CentroidLevel) Global → List (Option CentroidLevel)
  items_of round = round.items

  abbrev entry_of : List (Option CentroidLevel) → Option CentroidLevel
  entry_of round = get_or round place None

  -- what the round says of the place
  pub entry_here : get_or entries number None ≡ get_or round.items place None
  entry_here =
      let inside = length-map rounds items_of in
      get_or-map entry_of (lists_in rounds) number [] None (omega (arith, within, inside))
      ∙ ap entry_of (get_or-map items_of rounds number round [] within ∙ ap items_of (sym here))

  next_entry : (entry : Option CentroidLevel) → entry ≡ get_or round.items place None
      → said_on (drop number entries) ≡ said_on (entry ∷ drop (number + 1) entries)
  next_entry entry is =
      let each = entries_many rounds place in
      let one : suc number ≡ number + 1 = omega arith in
      ap said_on (drop-cons entries number None (omega (arith, within, each)))
      ∙ ap (λ (later : ℕ). said_on (get_or entries number None ∷ drop later entries)) one
      ∙ ap (λ (entry : Option CentroidLevel). said_on (entry ∷ drop (number + 1) entries))
      (entry_here ∙ sym is)

  module _ (so_far : length (said_on entries) ≡ number + length (said_on (drop number entries)))
    where
      -- a round that says nothing is the end
      pub count-end : None ≡ get_or round.items place None → number ≡ length (said_on entries)
      count-end is = let rest = ap length (next_entry None is) in omega (arith, so_far, rest)

      -- one that says a level counts
      pub count-more : (level : CentroidLevel) → Some level ≡ get_or round.items place None
          → length (said_on entries)
          ≡ number + 1 + length (said_on (drop (number + 1) entries))
      count-more level is =
          let rest = ap length (next_entry (Some level) is) in omega (arith, so_far, rest)

-- the level of a number is what the round of that number says
pub level_here : (rounds : List (Vec (Option CentroidLevel) Global)) (place number : ℕ)
    → number < length (said_on (entries_at (lists_in rounds) place))
    → (round : Vec (Option CentroidLevel) Global) → round ≡ get_or rounds number round
    → slice_get (said_on (entries_at (lists_in rounds) place)) number
    ≡ get_or round.items place None
level_here rounds place number within round here =
    let few = said_on-few (entries_at (lists_in rounds) place) in
    let many = entries_many rounds place in
    said_on-at (entries_at (lists_in rounds) place) number within
    ∙ entry_here rounds place number (omega (arith, within, few, many)) round here

-- and it says something
pub entry_some : (rounds : List (Vec (Option CentroidLevel) Global)) (place number : ℕ)
    → number < length (said_on (entries_at (lists_in rounds) place))
    → (round : Vec (Option CentroidLevel) Global) → round ≡ get_or rounds number round
    → get_or round.items place None ≢ None
entry_some rounds place number within round here none =
    let list : List CentroidLevel = said_on (entries_at (lists_in rounds) place) in
    let level : CentroidLevel = record { centroid = 0; hops = 0; greatest = 0 } in
    let there : slice_get list number ≡ Some (get_or list number level) =
    slice_get-get_or list number level within in
    let nothing : slice_get list number ≡ None =
    level_here rounds place number within round here ∙ none in
    absurd (cc)

-- the levels of the node at a place
pub lists_said-there : (rounds : List (List (Option CentroidLevel))) (count place : ℕ)
    → place < count
    → get_or (lists_said rounds count) place [] ≡ said_on (entries_at rounds place)
lists_said-there rounds count place within =
    get_or-map-range_with_len (λ place. said_on (entries_at rounds place)) 0 count place place []
    within (omega arith)

-- they stand at that place
pub lists_said-at : (rounds : List (List (Option CentroidLevel))) (count place : ℕ) → place < count
    → slice_get (lists_said rounds count) place ≡ Some (said_on (entries_at rounds place))
lists_said-at rounds count place within =
    slice_get-get_or (lists_said rounds count) place []
    (omega (
      arith,
      within,
      length-map-range_with_len (λ place. said_on (entries_at rounds place)) 0 count,
    ))
    ∙ ap Some (lists_said-there rounds count place within)
