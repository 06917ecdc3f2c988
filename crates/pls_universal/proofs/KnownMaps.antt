-- Maps that were decided, and labels that have one of them.
use Rattle.std.proofs.Common.{◌≡◌, ◌∙◌, ◌<◌, ◌+◌, ◌++◌, ℕ, zero, suc, inl, inr, Bool, List, [], ◌∷◌, length, All, get_or, slice_get, Option, Some, option_map, refl, sym, ap, subst, arith, length-append}
use Rattle.std.proofs.lemmas.Bool.{cases_lt}
use Rattle.std.proofs.lemmas.Option.{same_Some, slice_get-get_or, slice_get_within}
use Rattle.pls_configuration.specs.declared.row.NodeRow.{NodeRow}
use Rattle.pls_bits.specs.NumberCode.{TakesCodes, TakesOnly}
use Rattle.pls_numbers.specs.Shape.{said_by}
use Rattle.pls_universal.specs.declared.deciding.DecidedMap.{DecidedMap}
use Rattle.pls_universal.specs.declared.deciding.DecidedMaps.{DecidedMaps}
use Rattle.pls_universal.specs.declared.map.MapRow.{MapRow}
use Rattle.pls_universal.specs.Reading.{map_label_with, rows_shape}
use Rattle.pls_universal.specs.laws.LabelLaws.{behind_number, label-parts}
use Rattle.pls_universal.specs.inner.Deciding.{AreDecided, IsDecidedMap, IsNumberOf, IsNumberOfMap}

module _ {X : Type 0} where
  -- items keep their places before one more
  kept-before : (xs : List X) (x : X) (i : ℕ) → i < length xs
      → slice_get (xs ++ x ∷ []) i ≡ slice_get xs i
  kept-before [] x i within = absurd (omega (arith, within))
  kept-before (first ∷ xs) x zero within = refl
  kept-before (first ∷ xs) x (suc i) within = kept-before xs x i (omega (arith, within))

  -- which stands behind them
  here-behind : (xs : List X) (x : X) → slice_get (xs ++ x ∷ []) (length xs) ≡ Some x
  here-behind [] x = refl
  here-behind (first ∷ xs) x = here-behind xs x

module _ (code : ℕ → List Bool) (takes : List Bool → Option (ℕ × List Bool))
    (taken : TakesCodes code takes) (only : TakesOnly code takes) (test : List NodeRow → Bool)
    (labels : List (List Bool)) (old : DecidedMaps) (decided : AreDecided takes test labels old) where
  -- they are maps of labels that are there
  pub decided-within : All (λ map. map.place < length labels) old.maps.items
  decided-within number d within =
      let known : DecidedMap = get_or old.maps.items number d in
      let its = decided.each number known (slice_get-get_or old.maps.items number d within) in
      slice_get_within labels known.place its.0 its.1

  -- a label whose map is one of those that were decided
  pub known-map : (label : List Bool) (own : ℕ) (map : List Bool) (number : ℕ)
      → takes label ≡ Some (own, map) → IsNumberOfMap takes labels old map number
      → IsNumberOf takes test old label number
  known-map label own map number first is = record {
    map = is.known;
    at = is.at;
    found = record {
      own = map_label_with own rows;
      read = label-parts code takes taken only label own map first
          ∙ ap (option_map (map_label_with own)) there;
      stated = known.2.stated;
    };
  }
    where
      known : (bits : List Bool) × (slice_get labels is.known.place ≡ Some bits)
          × IsDecidedMap takes test bits is.known
      known = decided.each number is.known is.at

      rows : List MapRow
      rows = known.2.own.rows

      same : is.has.bits ≡ known.0
      same = same_Some is.has.bits known.0 (sym is.has.at ∙ known.1)

      there : said_by rows_shape takes map ≡ Some rows
      there = (behind_number code takes taken only known.0 is.has.own map known.2.own
          (subst (λ (bits : List Bool). takes bits ≡ Some (is.has.own, map)) same is.has.parts)
          known.2.read).1

  module _ (new : DecidedMaps) (map : DecidedMap) (label : List Bool)
      (maps : new.maps.items ≡ old.maps.items ++ map ∷ [])
      (stands : slice_get labels map.place ≡ Some label) (found : IsDecidedMap takes test label map) where
    -- one more map is decided
    pub one-decided : AreDecided takes test labels new
    one-decided = record { each = each }
      where
        long : length new.maps.items ≡ length old.maps.items + 1
        long = ap (λ (maps : List DecidedMap). length maps) maps
            ∙ length-append old.maps.items (map ∷ [])

        each : (number : ℕ) (known : DecidedMap) → slice_get new.maps.items number ≡ Some known
            → (bits : List Bool) × (slice_get labels known.place ≡ Some bits)
            × IsDecidedMap takes test bits known
        each number known is = elim (cases_lt number (length old.maps.items)) [
          | inl before ↦ decided.each number known
              (sym (kept-before old.maps.items map number before)
              ∙ ap (λ (maps : List DecidedMap). slice_get maps number) (sym maps) ∙ is)
          | inr past ↦
              let inside = slice_get_within new.maps.items number known is in
              let last : number ≡ length old.maps.items = omega (arith, past, inside, long) in
              let same : map ≡ known = same_Some map known
              (sym (here-behind old.maps.items map)
              ∙ ap (slice_get (old.maps.items ++ map ∷ [])) (sym last)
              ∙ ap (λ (maps : List DecidedMap). slice_get maps number) (sym maps) ∙ is) in
              subst (λ (known : DecidedMap). (bits : List Bool)
              × (slice_get labels known.place ≡ Some bits) × IsDecidedMap takes test bits known) same
              (label, stands, found)
        ]

    -- its number is the last
    pub one-number : IsNumberOf takes test new label (length old.maps.items)
    one-number = record {
      map = map;
      at = rw maps (here-behind old.maps.items map);
      found = found;
    }
