-- What a node has gathered with one more port.
use Rattle.std.proofs.Common.{◌≡◌, ◌∙◌, ◌<◌, ℕ, ◌+◌, ◌==◌, Bool, true, false, ◌&&◌, ◌||◌, List, [], ◌∷◌, ◌++◌, get_or, length, map, slice_get, Option, Some, None, refl, sym, ap, arith}
use Rattle.std.specs.List.{enumerate_from, list_all, list_any, range_with_len, zip}
use Rattle.std.specs.Option.{option_map_or}
use Rattle.std.proofs.lemmas.List.{ext_get_or, length-map}
use Rattle.std.proofs.lemmas.List.Folds.{list_any-append}
use Rattle.std.proofs.lemmas.List.FromFn.{get_or-map-range_with_len, length-range_with_len}
use Rattle.pls_configuration.specs.declared.row.State.{State}
use Rattle.pls_scheme.specs.Reading.{Read, ReadPort, port_with, reading}
use Rattle.pls_scheme.proofs.MorePorts.{all_more, numbered_from_0}
use Rattle.pls_centroid.specs.declared.level.CentroidLevel.{CentroidLevel}
use Rattle.pls_pathmax.specs.declared.gathering.PortTally.{PortTally}
use Rattle.pls_pathmax.specs.declared.gathering.TheConstants.{WINDOW}
use Rattle.pls_pathmax.specs.Labels.{PathMaxLabel}
use Rattle.pls_levels.specs.Rules.{is_in_tree}
use Rattle.pls_pathmax.specs.Rules.{agrees_on_root, is_heavy_outside, leads_on, leads_on_at, meet_lightly, other_edges_are_heavy}
use Rattle.pls_pathmax.specs.inner.OnePass.{gathered_from, is_led_on, leads_from, led_on_from, with_leads}

-- the parts of what is gathered
abbrev pub gathered_of : Bool → Bool → List Bool → PortTally
gathered_of agrees heavy led_on = record { agrees = agrees; heavy = heavy; led_on = led_on }

-- flags by what each is
flags_of : (f : ℕ → Bool) (flags : List Bool) → length flags ≡ WINDOW
    → ((k : ℕ) → k < WINDOW → get_or flags k false ≡ f k) → flags ≡ map f (range_with_len 0 WINDOW)
flags_of f flags many each =
    let long = length-map (range_with_len 0 WINDOW) f in
    let range = length-range_with_len 0 WINDOW in
    ext_get_or false flags (map f (range_with_len 0 WINDOW)) (omega (arith, many, long, range))
    (λ k within.
    let same : 0 + k ≡ k = omega arith in
    each k (omega (arith, within, many))
    ∙ sym (get_or-map-range_with_len f 0 WINDOW k k false (omega (arith, within, many)) same))

-- there are as many flags as levels are asked
pub led_on_many : (first : ℕ) (view : Read PathMaxLabel) → length (led_on_from first view) ≡ WINDOW
led_on_many first view = length-map (range_with_len 0 WINDOW) (λ k. is_led_on view (first + k))
    ∙ length-range_with_len 0 WINDOW

-- so they are equal where each is
same_flags : (f h : ℕ → Bool) → ((k : ℕ) → k < WINDOW → f k ≡ h k)
    → map f (range_with_len 0 WINDOW) ≡ map h (range_with_len 0 WINDOW)
same_flags f h same = flags_of h (map f (range_with_len 0 WINDOW))
    (length-map (range_with_len 0 WINDOW) f ∙ length-range_with_len 0 WINDOW)
    (λ k within. let here : 0 + k ≡ k = omega arith in
    get_or-map-range_with_len f 0 WINDOW k k false within here ∙ same k within)

-- flags by those before, and what leads on
pub led_flags : (first weight : ℕ) (mine theirs : List CentroidLevel) (before flags : List Bool)
    → length before ≡ WINDOW → length flags ≡ length before
    → ((k : ℕ) → k < length before → get_or flags k false
    ≡ (get_or before k false
    || leads_from weight (slice_get mine (first + k)) (slice_get theirs (first + k))))
    → flags ≡ with_leads first weight mine theirs before
led_flags first weight mine theirs before flags many each noted =
    flags_of (λ k. get_or before k false
    || leads_from weight (slice_get mine (first + k)) (slice_get theirs (first + k))) flags
    (each ∙ many) (λ k within. noted k (omega (arith, within, many)))

-- no flag is set before the first port
pub none_led : (first id : ℕ) (state : State) (label : PathMaxLabel) (flags : List Bool)
    → length flags ≡ WINDOW → ((k : ℕ) → k < WINDOW → get_or flags k false ≡ false)
    → flags ≡ led_on_from first (reading id state label [])
none_led first id state label flags many none =
    flags_of (λ k. is_led_on (reading id state label []) (first + k)) flags many
    (λ k within. none k within ∙ sym (by (slice_get label.levels (first + k))))
  where
    by : (found : Option CentroidLevel) → option_map_or (λ (level : CentroidLevel). false) found
        false
        ≡ false
    by None = refl
    by (Some level) = refl

module _ (first id : ℕ) (state : State) (own : PathMaxLabel)
    (ports : List (ReadPort PathMaxLabel)) (weight : ℕ) (theirs : PathMaxLabel) where
  abbrev port : ReadPort PathMaxLabel
  port = port_with weight theirs

  abbrev before : Read PathMaxLabel
  before = reading id state own ports

  abbrev after : Read PathMaxLabel
  after = reading id state own (ports ++ port ∷ [])

  -- the port is in the tree
  abbrev inside : Bool
  inside = is_in_tree state.up own (length ports) port

  -- the nodes meet lightly
  abbrev meets : Bool
  meets = list_any (λ (both : CentroidLevel × CentroidLevel). meet_lightly weight both.0 both.1)
      (zip own.levels theirs.levels)

  agrees_more : agrees_on_root after ≡ (agrees_on_root before && theirs.root == own.root)
  agrees_more = all_more (λ (port : ReadPort PathMaxLabel). port.label.root == own.root) ports port

  heavy_more : other_edges_are_heavy after ≡ (other_edges_are_heavy before && (inside || meets))
  heavy_more =
      let Numbered : Type 0 = ℕ × ReadPort PathMaxLabel in
      let heavy : Numbered → Bool = λ numbered. is_heavy_outside before numbered.0 numbered.1 in
      let last : Numbered = (length ports, port) in
      ap (list_all heavy) (numbered_from_0 ports port)
      ∙ all_more heavy (enumerate_from 0 ports) last

  -- the tests of rule 5 at the ports, of a level of this number
  abbrev leads : ℕ → CentroidLevel → ℕ × ReadPort PathMaxLabel → Bool
  leads number level numbered = leads_on_at before number level numbered.0 numbered.1

  abbrev led_by : ℕ → List (ReadPort PathMaxLabel) → Option CentroidLevel → Bool
  led_by number ports found =
      option_map_or (λ level. list_any (leads number level) (enumerate_from 0 ports)) found false

  pub led_more : (number : ℕ) → is_led_on after number ≡ (is_led_on before number
      || (inside && leads_from weight (slice_get own.levels number)
      (slice_get theirs.levels number)))
  led_more number = by (slice_get own.levels number)
    where
      last_leads : (level : CentroidLevel) (found : Option CentroidLevel)
          → option_map_or (leads_on level weight) found false ≡ leads_from weight (Some level) found
      last_leads level None = refl
      last_leads level (Some other) = refl

      or_false : (flag : Bool) → (flag || false) ≡ flag
      or_false true = refl
      or_false false = refl

      and_false : (flag : Bool) → (flag && false) ≡ false
      and_false true = refl
      and_false false = refl

      by : (found : Option CentroidLevel) → led_by number (ports ++ port ∷ []) found
          ≡ (led_by number ports found
          || (inside && leads_from weight found (slice_get theirs.levels number)))
      by None = sym (and_false inside)
      by (Some level) =
          let last : ℕ × ReadPort PathMaxLabel = (length ports, port) in
          ap (list_any (leads number level)) (numbered_from_0 ports port)
          ∙ list_any-append (leads number level) (enumerate_from 0 ports) (last ∷ [])
          ∙ ap (λ (more : Bool). list_any (leads number level) (enumerate_from 0 ports) || more)
          (or_false (leads number level last)
          ∙ ap (λ (more : Bool). inside && more)
          (last_leads level (slice_get theirs.levels number)))

  module _ (was : PortTally) (is : was ≡ gathered_from first before) where
    -- a port in the tree
    pub gathered_inside : inside ≡ true → (agrees : Bool) (led_on : List Bool)
        → agrees ≡ (was.agrees && theirs.root == own.root)
        → led_on ≡ with_leads first weight own.levels theirs.levels was.led_on
        → gathered_of agrees was.heavy led_on ≡ gathered_from first after
    gathered_inside here agrees led_on agrees_is led_is =
        rw (
          agrees_is ∙ ap (λ (was : PortTally). was.agrees && theirs.root == own.root) is
              ∙ sym agrees_more,
          ap (λ (was : PortTally). was.heavy) is ∙ heavy_here,
          led_is ∙ ap (λ (was : PortTally). with_leads first weight own.levels theirs.levels
              was.led_on)
              is ∙ led_here,
        ) refl
      where
        and_true : (flag : Bool) → flag ≡ (flag && true)
        and_true true = refl
        and_true false = refl

        heavy_here : other_edges_are_heavy before ≡ other_edges_are_heavy after
        heavy_here = and_true (other_edges_are_heavy before)
            ∙ ap (λ (here : Bool). other_edges_are_heavy before && (here || meets)) (sym here)
            ∙ sym heavy_more

        led_here : with_leads first weight own.levels theirs.levels (led_on_from first before)
            ≡ led_on_from first after
        led_here = same_flags (λ k. get_or (led_on_from first before) k false
            || leads_from weight (slice_get own.levels (first + k))
            (slice_get theirs.levels (first + k))) (λ k. is_led_on after (first + k))
            (λ k within.
            let same : 0 + k ≡ k = omega arith in
            ap (λ (flag : Bool). flag || leads_from weight (slice_get own.levels (first + k))
            (slice_get theirs.levels (first + k)))
            (get_or-map-range_with_len (λ k. is_led_on before (first + k)) 0 WINDOW k k false within
            same)
            ∙ ap (λ (here : Bool). is_led_on before (first + k) || (here
            && leads_from weight (slice_get own.levels (first + k))
            (slice_get theirs.levels (first + k)))) (sym here)
            ∙ sym (led_more (first + k)))

    -- another port
    pub gathered_outside : inside ≡ false → (agrees heavy : Bool)
        → agrees ≡ (was.agrees && theirs.root == own.root) → heavy ≡ (was.heavy && meets)
        → gathered_of agrees heavy was.led_on ≡ gathered_from first after
    gathered_outside out agrees heavy agrees_is heavy_is =
        rw (
          agrees_is ∙ ap (λ (was : PortTally). was.agrees && theirs.root == own.root) is
              ∙ sym agrees_more,
          heavy_is ∙ ap (λ (was : PortTally). was.heavy && meets) is
              ∙ ap (λ (here : Bool). other_edges_are_heavy before && (here || meets)) (sym out)
              ∙ sym heavy_more,
          ap (λ (was : PortTally). was.led_on) is ∙ led_out,
        ) refl
      where
        or_false : (flag : Bool) → flag ≡ (flag || false)
        or_false true = refl
        or_false false = refl

        led_out : led_on_from first before ≡ led_on_from first after
        led_out = same_flags (λ k. is_led_on before (first + k)) (λ k. is_led_on after (first + k))
            (λ k within. or_false (is_led_on before (first + k))
            ∙ ap (λ (here : Bool). is_led_on before (first + k) || (here
            && leads_from weight (slice_get own.levels (first + k))
            (slice_get theirs.levels (first + k)))) (sym out)
            ∙ sym (led_more (first + k)))
