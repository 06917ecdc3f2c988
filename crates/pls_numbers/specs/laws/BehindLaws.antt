-- Items that are read one after another: what is left behind those that were read.
use Rattle.std.proofs.Common.{◌≡◌, ◌∙◌, ℕ, suc, ◌+◌, ◌-◌, ◌<◌, ◌≤◌, false, List, Option, None, ap, arith}
use Rattle.pls_numbers.specs.Numbers.{NumbersLeft}
use Rattle.pls_numbers.specs.Taking.{IsTaken, are_items}
use Rattle.pls_numbers.specs.laws.TakingLaws.{are_items-next, are_items-none}

module _ {X : Type 0} (off : List ℕ → Option (X × List ℕ)) where
  -- the new stands behind so many items: it is items where the old is those and as many more
  abbrev pub AreBehind : ℕ → NumbersLeft → NumbersLeft → Type 0
  AreBehind count old new =
      (more : ℕ) → are_items off (count + more) old ≡ are_items off more new

  -- behind none stands all
  pub behind_none : (left : NumbersLeft) → AreBehind 0 left left
  behind_none left more =
      let same : 0 + more ≡ more = omega arith in ap (λ (count : ℕ). are_items off count left) same

  -- behind one item more stands what is left when it is read
  pub behind_more : (count : ℕ) (first old new : NumbersLeft) (x : X) → AreBehind count first old
      → IsTaken off x old new → AreBehind (count + 1) first new
  behind_more count first old new x behind taken more =
      let same : (count + 1) + more ≡ count + suc more = omega arith in
      ap (λ (count : ℕ). are_items off count first) same ∙ behind (suc more)
      ∙ are_items-next off more x old new taken

  module _ (read count : ℕ) (old new : NumbersLeft) (behind : AreBehind read old new) where
    -- all are items where what stands behind some of them are the others
    pub behind_all : read ≤ count → are_items off count old ≡ are_items off (count - read) new
    behind_all within =
        let same : count ≡ read + (count - read) = omega (arith, within) in
        ap (λ (count : ℕ). are_items off count old) same ∙ behind (count - read)

    -- where none comes behind some items, they are no more of them
    pub none_behind : read < count → off new.numbers ≡ None → are_items off count old ≡ false
    none_behind less none =
        let left : ℕ = count - (read + 1) in
        let same : count - read ≡ suc left = omega (arith, less) in
        behind_all (omega (arith, less)) ∙ ap (λ (count : ℕ). are_items off count new) same
        ∙ are_items-none off left new none
