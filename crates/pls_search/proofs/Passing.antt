-- Handing sizes on to parents keeps the balance of what is there and what is to come.
use Rattle.std.proofs.Common.{◌≡◌, ◌≢◌, ◌∙◌, ℕ, ◌+◌, ◌-◌, ◌<◌, ◌≤◌, ◌==◌, inl, inr, nat_lt, nat_le, Bool, true, false, List, length, set, Option, Some, None, refl, sym, ap, arith}
use Rattle.std.proofs.lemmas.Bool.{cases_eq, eq-eqb, le-leb, ne_eqb}
use Rattle.std.proofs.lemmas.List.{get_or-set_other, get_or-set_same, length-set}
use Rattle.pls_facts.proofs.Sums.{when}
use Rattle.pls_search.specs.inner.Passing.{AreTotals, AreWaits, IsPassing, and_at, number_at, parent_of, visits_from}
use Rattle.pls_search.proofs.Brought.{brought_less, brought_none, brought_same, child, child-None, child-Some, some_waits, waiting}

module _ (parents : List (Option ℕ)) where
  module _ (owed : ℕ → ℕ) (place : ℕ) (within : place < length parents) (waits sizes : List ℕ)
      (passing : IsPassing parents (and_at place owed) waits sizes) where
    abbrev after : List ℕ
    after = set waits place (number_at waits place - 1)

    abbrev total : ℕ → ℕ
    total = passing.total

    -- a place that is owed a visit waits
    pub waits_some : 1 ≤ number_at waits place
    waits_some =
        let is = passing.waited place within in
        let one : when (place == place) 1 ≡ 1 =
        ap (λ (b : Bool). when b 1) (eq-eqb place place refl) in
        omega (arith, is, one)

    here : number_at after place ≡ number_at waits place - 1
    here = get_or-set_same waits place (number_at waits place - 1) 0
        (let each = passing.waits_each in omega (arith, each, within))

    there : (c : ℕ) → c ≢ place → number_at after c ≡ number_at waits c
    there c apart = get_or-set_other waits place c (number_at waits place - 1) 0 apart

    after_each : length after ≡ length parents
    after_each = length-set waits place (number_at waits place - 1) ∙ passing.waits_each

    -- one visit less is owed
    less : (v : ℕ) → number_at waits v ≡ number_at after v + when (v == place) 1
    less v = elim (cases_eq v place) [
      | inl same ↦
          let one : when (v == place) 1 ≡ 1 =
          ap (λ (b : Bool). when b 1) (eq-eqb v place same) in
          let was = ap (number_at waits) same in
          let is = ap (number_at after) same in
          omega (arith, one, was, is, here, waits_some)
      | inr apart ↦
          let none : when (v == place) 1 ≡ 0 =
          ap (λ (b : Bool). when b 1) (ne_eqb v place apart) in
          omega (arith, none, there v apart)
    ]

    -- where it waits on, that is all
    pub waits_on : 1 ≤ number_at after place → IsPassing parents owed after sizes
    waits_on some = record {
      total = total;
      totals = passing.totals;
      waits_each = after_each;
      sizes_each = passing.sizes_each;
      sized = λ v v_in.
          let was = passing.sized v v_in in
          let same = brought_same parents (waiting waits) (waiting after) total v agree in
          omega (arith, was, same);
      waited = λ v v_in.
          let was = passing.waited v v_in in
          let same = brought_same parents (waiting waits) (waiting after) (λ c. 1) v agree in
          omega (arith, was, same, less v);
    }
      where
        agree : (c : ℕ) → c < length parents → waiting waits c ≡ waiting after c
        agree c c_in = elim (cases_eq c place) [
          | inl same ↦
              ap (waiting waits) same ∙ some_waits (number_at waits place) waits_some
              ∙ sym (ap (waiting after) same ∙ some_waits (number_at after place) some)
          | inr apart ↦ ap (nat_lt 0) (sym (there c apart))
        ]

    module _ (done : number_at after place ≡ 0) where
      was : waiting waits place ≡ true
      was = some_waits (number_at waits place) waits_some

      is : waiting after place ≡ false
      is = ap (nat_lt 0) done

      agree : (c : ℕ) → c < length parents → c ≢ place → waiting waits c ≡ waiting after c
      agree c c_in apart = ap (nat_lt 0) (sym (there c apart))

      -- a place that has waited for all has its total
      pub has_total : number_at sizes place ≡ total place
      has_total =
          let waited = passing.waited place within in
          let one : when (place == place) 1 ≡ 1 =
          ap (λ (b : Bool). when b 1) (eq-eqb place place refl) in
          let none = brought_none parents (waiting waits) total place
          (omega (arith, waited, one, here, done, waits_some)) in
          let sized = passing.sized place within in
          omega (arith, sized, none)

      -- without parent it is done
      pub done_None : parent_of parents place ≡ None → IsPassing parents owed after sizes
      done_None top = record {
        total = total;
        totals = passing.totals;
        waits_each = after_each;
        sizes_each = passing.sizes_each;
        sized = λ v v_in.
            let before = passing.sized v v_in in
            let lost = brought_less parents (waiting waits) (waiting after) total v place
            within was is agree in
            let none : when (child parents v place) (total place) ≡ 0 =
            ap (λ (b : Bool). when b (total place)) (child-None parents v place top) in
            omega (arith, before, lost, none);
        waited = λ v v_in.
            let before = passing.waited v v_in in
            let lost = brought_less parents (waiting waits) (waiting after) (λ c. 1) v place
            within was is agree in
            let none : when (child parents v place) 1 ≡ 0 =
            ap (λ (b : Bool). when b 1) (child-None parents v place top) in
            omega (arith, before, lost, none, less v);
      }

      module _ (parent : ℕ) (up : parent_of parents place ≡ Some parent)
          (parent_in : parent < length parents) where
        abbrev handed : List ℕ
        handed = set sizes parent (number_at sizes parent + number_at sizes place)

        -- what the parent then has is at most the number of places
        pub handed_few : number_at sizes parent + number_at sizes place ≤ length parents
        handed_few =
            let before = passing.sized parent parent_in in
            let lost = brought_less parents (waiting waits) (waiting after) total parent place
            within was is agree in
            let one : when (child parents parent place) (total place) ≡ total place =
            ap (λ (b : Bool). when b (total place))
            (child-Some parents parent place parent up ∙ eq-eqb parent parent refl) in
            let few = passing.totals.few parent in
            omega (arith, before, lost, one, few, has_total)

        -- with a parent it hands its size on, and the parent is owed a visit
        pub done_Some : IsPassing parents (and_at parent owed) after handed
        done_Some = record {
          total = total;
          totals = passing.totals;
          waits_each = after_each;
          sizes_each = length-set sizes parent (number_at sizes parent + number_at sizes place)
              ∙ passing.sizes_each;
          sized = λ v v_in.
              let before = passing.sized v v_in in
              let lost = brought_less parents (waiting waits) (waiting after) total v place
              within was is agree in
              elim (cases_eq v parent) [
                | inl same ↦
                    let one : when (child parents v place) (total place) ≡ total place =
                    ap (λ (b : Bool). when b (total place))
                    (child-Some parents v place parent up ∙ eq-eqb v parent same) in
                    let now : number_at handed v
                    ≡ number_at sizes parent + number_at sizes place =
                    ap (number_at handed) same
                    ∙ get_or-set_same sizes parent
                    (number_at sizes parent + number_at sizes place) 0
                    (let each = passing.sizes_each in omega (arith, each, parent_in)) in
                    let then = ap (number_at sizes) same in
                    omega (arith, before, lost, one, now, then, has_total)
                | inr apart ↦
                    let none : when (child parents v place) (total place) ≡ 0 =
                    ap (λ (b : Bool). when b (total place))
                    (child-Some parents v place parent up ∙ ne_eqb v parent apart) in
                    let now : number_at handed v ≡ number_at sizes v =
                    get_or-set_other sizes parent v
                    (number_at sizes parent + number_at sizes place) 0 apart in
                    omega (arith, before, lost, none, now)
              ];
          waited = λ v v_in.
              let before = passing.waited v v_in in
              let lost = brought_less parents (waiting waits) (waiting after) (λ c. 1) v place
              within was is agree in
              let one : when (child parents v place) 1 ≡ when (v == parent) 1 =
              ap (λ (b : Bool). when b 1) (child-Some parents v place parent up) in
              omega (arith, before, lost, one, less v);
        }

  -- visits from one place on are one at it, and those from the next on
  pub visits_split : (waits sizes : List ℕ) → (first : ℕ)
      → IsPassing parents (visits_from first) waits sizes
      → IsPassing parents (and_at first (visits_from (first + 1))) waits sizes
  visits_split waits sizes first passing = record {
    total = passing.total;
    totals = passing.totals;
    waits_each = passing.waits_each;
    sizes_each = passing.sizes_each;
    sized = passing.sized;
    waited = λ v v_in.
        let before = passing.waited v v_in in
        let same = split v in
        omega (arith, before, same);
  }
    where
      split : (v : ℕ) → when (nat_le first v) 1
          ≡ when (nat_le (first + 1) v) 1 + when (v == first) 1
      split v = by (nat_le first v) refl (nat_le (first + 1) v) refl (v == first) refl
        where
          by : (a : Bool) → nat_le first v ≡ a → (b : Bool) → nat_le (first + 1) v ≡ b
              → (c : Bool) → (v == first) ≡ c → when a 1 ≡ when b 1 + when c 1
          by true x true y true z = grind (arith)
          by true x true y false z = omega arith
          by true x false y true z = omega arith
          by true x false y false z = grind (arith)
          by false x true y c z = grind (arith)
          by false x false y true z = grind (arith)
          by false x false y false z = omega arith

  -- at the start each place waits
  pub passing_start : (all_of : ℕ → ℕ) → AreTotals parents all_of → (waits sizes : List ℕ)
      → AreWaits parents (length parents) waits → length sizes ≡ length parents
      → ((v : ℕ) → v < length parents → number_at sizes v ≡ 1)
      → IsPassing parents (visits_from 0) waits sizes
  passing_start all_of totals waits sizes are each one = record {
    total = all_of;
    totals = totals;
    waits_each = are.each;
    sizes_each = each;
    sized = λ v v_in.
        let sums = totals.sums v v_in in
        let same = brought_same parents (waiting waits) (λ c. true) all_of v all in
        omega (arith, sums, same, one v v_in);
    waited = λ v v_in.
        let here = are.is v v_in in
        let same = brought_same parents (waiting waits) (λ c. true) (λ c. 1) v all in
        let visit : when (nat_le 0 v) 1 ≡ 1 =
        ap (λ (b : Bool). when b 1) (le-leb 0 v (omega arith)) in
        omega (arith, here, same, visit);
  }
    where
      all : (c : ℕ) → c < length parents → waiting waits c ≡ true
      all c c_in =
          some_waits (number_at waits c) (let is = are.is c c_in in omega (arith, is))
