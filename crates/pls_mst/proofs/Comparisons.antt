-- What the levels of two neighbours say together, level by level.
use Rattle.std.proofs.Common.{◌≡◌, ◌∙◌, ℕ, zero, suc, ◌+◌, ◌-◌, ◌<◌, ◌≤◌, ◌==◌, min, Bool, true, false, ◌&&◌, ◌||◌, List, [], ◌∷◌, ◌++◌, length, take, drop, get_or, None, refl, sym, ap, arith}
use Rattle.std.specs.List.{list_all, list_any, zip}
use Rattle.std.proofs.Math.Bool.{or-true}
use Rattle.std.proofs.lemmas.Bool.{eq-eqb}
use Rattle.std.proofs.lemmas.List.{length-drop, length-take-le, take-append-drop, take_more}
use Rattle.pls_facts.proofs.EdgeKeys.{is_same_edge-itself}
use Rattle.pls_numbers.specs.Numbers.{NumbersLeft}
use Rattle.pls_numbers.specs.Taking.{IsTaken, items_off}
use Rattle.pls_numbers.specs.laws.TakingLaws.{items_off-next, items_off-none}
use Rattle.pls_boruvka.specs.Boruvka.{chosen_edge}
use Rattle.pls_boruvka.specs.declared.level.Level.{Level}
use Rattle.pls_mst.specs.declared.comparing.LevelComparison.{LevelComparison}
use Rattle.pls_mst.specs.declared.comparing.PortEdge.{PortEdge}
use Rattle.pls_mst.specs.Labels.{level_off}
use Rattle.pls_mst.specs.Rules.{chose_least, is_chosen_between, is_named_or_shared}
use Rattle.pls_mst.specs.inner.Comparing.{CountsAs, both_compared, compared, edge_between, outside_of}
use Rattle.pls_levels.proofs.KeptFronts.{kept_count-few, kept_front-take}
use Rattle.pls_mst.specs.declared.glance.TheConstants.{FRONT}
use Rattle.pls_mst.specs.inner.Glance.{all_whole, front_of, kept_in}
use Rattle.pls_mst.specs.inner.KeptLevel.{kept_form}

-- of these three
abbrev pub three : Bool → Bool → Bool → LevelComparison
three shares least chosen = record { shares = shares; least = least; chosen = chosen }

-- what is the same in each of the three is the same
same_Compared : (one other : LevelComparison) → one.shares ≡ other.shares → one.least ≡ other.least
    → one.chosen ≡ other.chosen → one ≡ other
same_Compared one other shares least chosen =
    ap (λ (b : Bool). three b one.least one.chosen) shares
    ∙ ap (λ (b : Bool). three other.shares b one.chosen) least
    ∙ ap (three other.shares other.least) chosen

and_true : (b : Bool) → b ≡ (b && true)
and_true true = refl
and_true false = refl

or_false : (b : Bool) → b ≡ (b || false)
or_false true = refl
or_false false = refl

and_assoc : (a b c : Bool) → (a && (b && c)) ≡ ((a && b) && c)
and_assoc true b c = refl
and_assoc false b c = refl

or_assoc : (a b c : Bool) → (a || (b || c)) ≡ ((a || b) || c)
or_assoc true b c = refl
or_assoc false b c = refl

-- where there is no more, all was said
all_said : (found : LevelComparison) → found ≡ both_compared found (three true true false)
all_said found = same_Compared found (both_compared found (three true true false))
    (and_true found.shares) (and_true found.least) (or_false found.chosen)

-- what counts of those in front counts of all
pub counts_behind : (pointer : Bool) (all found said behind : LevelComparison)
    → all ≡ both_compared found behind → CountsAs pointer found said
    → CountsAs pointer all (both_compared said behind)
counts_behind pointer all found said behind all_is (least, same) = (
  ap (λ (all : LevelComparison). all.least) all_is
      ∙ ap (λ (b : Bool). b && behind.least) least,
  λ here. all_is ∙ ap (λ (found : LevelComparison). both_compared found behind) (same here),
)

-- a number is itself
one_number : (number : ℕ) → (number == number) ≡ true
one_number number = eq-eqb number number refl

-- of two lists side by side only so much counts as the shorter has
zip-take : {X Y : Type 0} (count : ℕ) (xs : List X) (ys : List Y)
    → count ≡ min (length xs) (length ys) → zip (take count xs) (take count ys) ≡ zip xs ys
zip-take zero [] ys is = refl
zip-take zero (x ∷ xs) [] is = refl
zip-take zero (x ∷ xs) (y ∷ ys) is = absurd (omega (arith, is))
zip-take (suc count) [] ys is = absurd (omega (arith, is))
zip-take (suc count) (x ∷ xs) [] is = absurd (omega (arith, is))
zip-take {X} {Y} (suc count) (x ∷ xs) (y ∷ ys) is =
    let one : X × Y = (x, y) in
    ap (λ (rest : List (X × Y)). one ∷ rest) (zip-take count xs ys (omega (arith, is)))

-- what levels say that stand side by side
abbrev beside_said : PortEdge → ℕ → List (Level × Level) → LevelComparison
beside_said between own beside = record {
  shares = list_all (λ (both : Level × Level). is_named_or_shared own both.0 both.1) beside;
  least = list_all (λ (both : Level × Level).
      chose_least (edge_between between) (outside_of between) both.0 both.1) beside;
  chosen = list_any (λ (both : Level × Level).
      is_chosen_between (edge_between between) both.0 both.1) beside;
}

module _ (between : PortEdge) (own : ℕ) where
  -- one level more
  compared-more : (found with_it : LevelComparison) (here there : Level) (mine theirs : List Level)
      → with_it.shares ≡ (found.shares && is_named_or_shared own here there)
      → with_it.least ≡ (found.least
      && chose_least (edge_between between) (outside_of between) here there)
      → with_it.chosen ≡ (found.chosen || is_chosen_between (edge_between between) here there)
      → both_compared found (compared between own (here ∷ mine) (there ∷ theirs))
      ≡ both_compared with_it (compared between own mine theirs)
  compared-more found with_it here there mine theirs shares least chosen =
      let rest : LevelComparison = compared between own mine theirs in
      same_Compared (both_compared found (compared between own (here ∷ mine) (there ∷ theirs)))
      (both_compared with_it rest)
      (and_assoc found.shares (is_named_or_shared own here there) rest.shares
      ∙ ap (λ (b : Bool). b && rest.shares) (sym shares))
      (and_assoc found.least (chose_least (edge_between between) (outside_of between) here there)
      rest.least ∙ ap (λ (b : Bool). b && rest.least) (sym least))
      (or_assoc found.chosen (is_chosen_between (edge_between between) here there) rest.chosen
      ∙ ap (λ (b : Bool). b || rest.chosen) (sym chosen))

  -- what levels say that are in front, and those behind them
  compared-append : (mine theirs mine_behind theirs_behind : List Level)
      → length mine ≡ length theirs
      → compared between own (mine ++ mine_behind) (theirs ++ theirs_behind)
      ≡ both_compared (compared between own mine theirs)
      (compared between own mine_behind theirs_behind)
  compared-append [] [] mine_behind theirs_behind many = refl
  compared-append [] (there ∷ theirs) mine_behind theirs_behind many = absurd (omega (arith, many))
  compared-append (here ∷ mine) [] mine_behind theirs_behind many = absurd (omega (arith, many))
  compared-append (here ∷ mine) (there ∷ theirs) mine_behind theirs_behind many =
      let first : LevelComparison = compared between own mine theirs in
      let rest : LevelComparison = compared between own mine_behind theirs_behind in
      let all = compared-append mine theirs mine_behind theirs_behind (omega (arith, many)) in
      let shares : Bool = is_named_or_shared own here there in
      let least : Bool = chose_least (edge_between between) (outside_of between) here there in
      let chosen : Bool = is_chosen_between (edge_between between) here there in
      same_Compared
      (compared between own (here ∷ mine ++ mine_behind) (there ∷ theirs ++ theirs_behind))
      (both_compared (compared between own (here ∷ mine) (there ∷ theirs)) rest)
      (ap (λ (said : LevelComparison). shares && said.shares) all
      ∙ and_assoc shares first.shares rest.shares)
      (ap (λ (said : LevelComparison). least && said.least) all
      ∙ and_assoc least first.least rest.least)
      (ap (λ (said : LevelComparison). chosen || said.chosen) all
      ∙ or_assoc chosen first.chosen rest.chosen)

  -- one level more at the end
  pub compared-last : (place : ℕ) (mine theirs : List Level) (d here there : Level)
      (found with_it : LevelComparison) → place < length mine → place < length theirs
      → here ≡ get_or mine place d → there ≡ get_or theirs place d
      → found ≡ compared between own (take place mine) (take place theirs)
      → with_it.shares ≡ (found.shares && is_named_or_shared own here there)
      → with_it.least ≡ (found.least
      && chose_least (edge_between between) (outside_of between) here there)
      → with_it.chosen ≡ (found.chosen || is_chosen_between (edge_between between) here there)
      → with_it ≡ compared between own (take (place + 1) mine) (take (place + 1) theirs)
  compared-last place mine theirs d here there found with_it mine_has theirs_has here_is there_is
      is shares least chosen =
      let many : length (take place mine) ≡ length (take place theirs) =
      length-take-le place mine (omega (arith, mine_has))
      ∙ sym (length-take-le place theirs (omega (arith, theirs_has))) in
      let mine_more : take place mine ++ here ∷ [] ≡ take (place + 1) mine =
      ap (λ (last : Level). take place mine ++ last ∷ []) here_is
      ∙ sym (take_more mine place d mine_has) in
      let theirs_more : take place theirs ++ there ∷ [] ≡ take (place + 1) theirs =
      ap (λ (last : Level). take place theirs ++ last ∷ []) there_is
      ∙ sym (take_more theirs place d theirs_has) in
      same_Compared with_it
      (both_compared found (compared between own (here ∷ []) (there ∷ [])))
      (shares ∙ ap (λ (b : Bool). found.shares && b) (and_true (is_named_or_shared own here there)))
      (least ∙ ap (λ (b : Bool). found.least && b)
      (and_true (chose_least (edge_between between) (outside_of between) here there)))
      (chosen ∙ ap (λ (b : Bool). found.chosen || b)
      (or_false (is_chosen_between (edge_between between) here there)))
      ∙ ap (λ (found : LevelComparison).
      both_compared found (compared between own (here ∷ []) (there ∷ []))) is
      ∙ sym (compared-append (take place mine) (take place theirs) (here ∷ []) (there ∷ []) many)
      ∙ ap (λ (mine : List Level). compared between own mine (take place theirs ++ there ∷ []))
      mine_more
      ∙ ap (compared between own (take (place + 1) mine)) theirs_more

  -- only so many levels count as both have
  compared-take : (count : ℕ) (mine theirs : List Level)
      → count ≡ min (length mine) (length theirs)
      → compared between own (take count mine) (take count theirs)
      ≡ compared between own mine theirs
  compared-take count mine theirs is =
      ap (beside_said between own) (zip-take count mine theirs is)

  -- what the first levels say, as they are kept, and those behind them
  module _ (mine theirs : List Level) (count first : ℕ)
      (is : count ≡ min (length mine) (length theirs)) (mine_kept : first ≤ kept_in mine)
      (theirs_kept : first ≤ kept_in theirs) where
    -- no more are kept than both have
    within : first ≤ count
    within =
        omega (
          arith,
          is,
          mine_kept,
          theirs_kept,
          kept_count-few kept_form FRONT mine,
          kept_count-few kept_form FRONT theirs,
        )

    -- of so many
    front_said : compared between own (take first (all_whole (front_of mine)))
        (take first (all_whole (front_of theirs)))
        ≡ compared between own (take first mine) (take first theirs)
    front_said =
        ap (λ (mine : List Level).
        compared between own mine (take first (all_whole (front_of theirs))))
        (kept_front-take kept_form FRONT (λ level. refl) first mine mine_kept)
        ∙ ap (compared between own (take first mine))
        (kept_front-take kept_form FRONT (λ level. refl) first theirs theirs_kept)

    -- where there are no others
    pub all_in_front : count ≤ first
        → compared between own (take first (all_whole (front_of mine)))
        (take first (all_whole (front_of theirs))) ≡ compared between own mine theirs
    all_in_front few =
        front_said ∙ compared-take first mine theirs (omega (arith, within, few, is))

    -- where there are
    pub front_and_behind : both_compared
        (compared between own (take first (all_whole (front_of mine)))
        (take first (all_whole (front_of theirs))))
        (compared between own (take (count - first) (drop first mine))
        (take (count - first) (drop first theirs))) ≡ compared between own mine theirs
    front_and_behind =
        let mine_left = length-drop first mine in
        let theirs_left = length-drop first theirs in
        let many : length (take first mine) ≡ length (take first theirs) =
        length-take-le first mine (omega (arith, is, within))
        ∙ sym (length-take-le first theirs (omega (arith, is, within))) in
        ap (λ (found : LevelComparison). both_compared found
        (compared between own (take (count - first) (drop first mine))
        (take (count - first) (drop first theirs)))) front_said
        ∙ ap (both_compared (compared between own (take first mine) (take first theirs)))
        (compared-take (count - first) (drop first mine) (drop first theirs)
        (omega (arith, is, within, mine_left, theirs_left)))
        ∙ sym (compared-append (take first mine) (take first theirs) (drop first mine)
        (drop first theirs) many)
        ∙ ap (λ (mine : List Level). compared between own mine
        (take first theirs ++ drop first theirs)) (take-append-drop first mine)
        ∙ ap (compared between own mine) (take-append-drop first theirs)

  -- levels that are the same say no more: each fragment is that of both
  compared-same : (levels : List Level) → compared between own levels levels ≡ three true true false
  compared-same [] = refl
  compared-same (level ∷ levels) =
      compared-more (three true true false) (three true true false) level level levels levels
      (sym (rw (one_number level.fragment) (or-true (level.fragment == own))))
      (sym (rw (one_number level.fragment) (is_same_edge-itself (chosen_edge level))))
      (sym (rw (one_number level.fragment) refl)) ∙ compared-same levels

  -- what those that are left say
  abbrev pub left_say : ℕ → NumbersLeft → NumbersLeft → LevelComparison
  left_say count mine theirs = compared between own (items_off level_off count mine.numbers)
      (items_off level_off count theirs.numbers)

  module _ (found : LevelComparison) (left : ℕ) (mine theirs : NumbersLeft) where
    -- where what is left is the same, all was said
    pub same_left : mine ≡ theirs → found ≡ both_compared found (left_say left mine theirs)
    same_left same = all_said found
        ∙ ap (both_compared found) (sym (compared-same (items_off level_off left mine.numbers)))
        ∙ ap (λ (theirs : NumbersLeft). both_compared found (left_say left mine theirs)) same

    -- nor does it say more where one has none
    pub none_here : level_off mine.numbers ≡ None
        → found ≡ both_compared found (left_say (suc left) mine theirs)
    none_here none = all_said found
        ∙ ap (λ (levels : List Level). both_compared found
        (compared between own levels (items_off level_off (suc left) theirs.numbers)))
        (sym (items_off-none level_off left mine.numbers none))

    pub none_there : level_off theirs.numbers ≡ None
        → found ≡ both_compared found (left_say (suc left) mine theirs)
    none_there none = by (items_off level_off (suc left) mine.numbers)
        ∙ ap (λ (levels : List Level). both_compared found
        (compared between own (items_off level_off (suc left) mine.numbers) levels))
        (sym (items_off-none level_off left theirs.numbers none))
      where
        by : (levels : List Level) → found ≡ both_compared found (compared between own levels [])
        by [] = all_said found
        by (level ∷ levels) = all_said found

    -- both have one
    pub both_there : (with_it : LevelComparison) (here there : Level)
        (mine_left theirs_left : NumbersLeft)
        → IsTaken level_off here mine mine_left → IsTaken level_off there theirs theirs_left
        → with_it.shares ≡ (found.shares && is_named_or_shared own here there)
        → with_it.least ≡ (found.least
        && chose_least (edge_between between) (outside_of between) here there)
        → with_it.chosen ≡ (found.chosen || is_chosen_between (edge_between between) here there)
        → both_compared found (left_say (suc left) mine theirs)
        ≡ both_compared with_it (left_say left mine_left theirs_left)
    both_there with_it here there mine_left theirs_left mine_next theirs_next shares least chosen =
        ap (λ (levels : List Level). both_compared found
        (compared between own levels (items_off level_off (suc left) theirs.numbers)))
        (items_off-next level_off left here mine mine_left mine_next)
        ∙ ap (λ (levels : List Level). both_compared found (compared between own
        (here ∷ items_off level_off left mine_left.numbers) levels))
        (items_off-next level_off left there theirs theirs_left theirs_next)
        ∙ compared-more found with_it here there (items_off level_off left mine_left.numbers)
        (items_off level_off left theirs_left.numbers) shares least chosen
