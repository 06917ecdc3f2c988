-- Rule 5 on all levels at once, by one flag for each.
use Rattle.std.proofs.Common.{◌≡◌, ◌∙◌, ℕ, zero, suc, ◌+◌, ◌<◌, ◌≤◌, inl, inr, Bool, true, false, ◌&&◌, ◌||◌, List, [], ◌∷◌, ◌++◌, get_or, length, take, slice_get, Option, Some, None, refl, sym, ap, arith}
use Rattle.std.specs.List.{enumerate_from, list_any}
use Rattle.std.specs.Option.{option_map_or}
use Rattle.std.proofs.lemmas.Bool.{cases_Bool, true≢false}
use Rattle.std.proofs.lemmas.List.{length-take-le, take_more}
use Rattle.std.proofs.lemmas.Option.{get_or_from_slice_get, same_Some, slice_get_within}
use Rattle.pls_configuration.specs.declared.row.State.{State}
use Rattle.pls_labels.specs.Seen.{SeenPort}
use Rattle.pls_graph.proofs.Finds.{from_option_map}
use Rattle.pls_scheme.specs.Reading.{Read, ReadPort, port_with, read_ports, reading}
use Rattle.pls_scheme.specs.laws.Readings.{split_read}
use Rattle.pls_centroid.specs.declared.level.CentroidLevel.{CentroidLevel}
use Rattle.pls_pathmax.specs.Labels.{PathMaxLabel}
use Rattle.pls_levels.specs.Rules.{is_in_tree}
use Rattle.pls_pathmax.specs.Rules.{has_way, has_ways_to_centroids, leads_on_at}
use Rattle.pls_pathmax.specs.inner.OnePass.{is_led_on, leads_from}
use Rattle.pls_pathmax.specs.inner.Glance.{is_own_level}
use Rattle.pls_levels.specs.laws.Levelwise.{passes_from_0}
use Rattle.pls_pathmax.proofs.MorePorts.{led_more}

module _ (read : List Bool → Option PathMaxLabel) where
  -- the port of a place, as it is read
  pub port_read : (seen : List SeenPort) (found : List (ReadPort PathMaxLabel))
      → read_ports read seen ≡ Some found → (place : ℕ) (port : SeenPort)
      → slice_get seen place ≡ Some port
      → (theirs : PathMaxLabel) × (read port.label ≡ Some theirs)
      × (slice_get found place ≡ Some (port_with port.weight theirs))
  port_read [] found is place port at = absurd (cc)
  port_read (first ∷ seen) found is zero port at =
      let parts = split_read read first seen found is in
      let (theirs, label, named) : (theirs : PathMaxLabel) × (read first.label ≡ Some theirs)
      × (port_with first.weight theirs ≡ parts.0) =
      from_option_map (port_with first.weight) (read first.label) parts.0 parts.2 in
      let same : first ≡ port = same_Some first port at in (
        theirs,
        ap (λ (port : SeenPort). read port.label) (sym same) ∙ label,
        ap (λ (found : List (ReadPort PathMaxLabel)). slice_get found 0) (sym parts.4)
            ∙ ap Some (sym named) ∙ ap (λ (port : SeenPort). Some (port_with port.weight theirs))
            same,
      )
  port_read (first ∷ seen) found is (suc place) port at =
      let parts = split_read read first seen found is in
      let (theirs, label, there) = port_read seen parts.1 parts.3 place port at in (
        theirs,
        label,
        ap (λ (found : List (ReadPort PathMaxLabel)). slice_get found (suc place)) (sym parts.4)
            ∙ there,
      )

  -- as many ports are read as there are
  pub ports_many : (seen : List SeenPort) (found : List (ReadPort PathMaxLabel))
      → read_ports read seen ≡ Some found → length found ≡ length seen
  ports_many [] found is = sym (ap length (same_Some [] found is))
  ports_many (first ∷ seen) found is =
      let parts = split_read read first seen found is in
      sym (ap length parts.4) ∙ ap suc (ports_many seen parts.1 parts.3)

-- nothing leads on before the first port
pub none_leads : (id : ℕ) (state : State) (label : PathMaxLabel) (k : ℕ)
    → is_led_on (reading id state label []) k ≡ false
none_leads id state label k = by (slice_get label.levels k)
  where
    by : (found : Option CentroidLevel) → option_map_or (λ (level : CentroidLevel). false) found
        false
        ≡ false
    by None = refl
    by (Some level) = refl

-- with one port more
pub led_step : (id : ℕ) (state : State) (mine theirs : PathMaxLabel)
    (ports : List (ReadPort PathMaxLabel)) (place weight k : ℕ)
    → slice_get ports place ≡ Some (port_with weight theirs)
    → is_led_on (reading id state mine (take (place + 1) ports)) k
    ≡ (is_led_on (reading id state mine (take place ports)) k
    || (is_in_tree state.up mine place (port_with weight theirs)
    && leads_from weight (slice_get mine.levels k) (slice_get theirs.levels k)))
led_step id state mine theirs ports place weight k at =
    let port : ReadPort PathMaxLabel = port_with weight theirs in
    let within = slice_get_within ports place port at in
    let front : List (ReadPort PathMaxLabel) = take place ports in
    ap (λ (ports : List (ReadPort PathMaxLabel)). is_led_on (reading id state mine ports) k)
    (take_more ports place port within
    ∙ ap (λ (last : ReadPort PathMaxLabel). front ++ last ∷ [])
    (get_or_from_slice_get ports place port port at))
    ∙ led_more 0 id state mine front weight theirs k
    ∙ ap (λ (place : ℕ). is_led_on (reading id state mine front) k
    || (is_in_tree state.up mine place port
    && leads_from weight (slice_get mine.levels k) (slice_get theirs.levels k)))
    (length-take-le place ports (omega (arith, within)))

module _ (view : Read PathMaxLabel) (flags : List Bool)
    (many : length view.own.levels ≤ length flags)
    (are : (k : ℕ) → k < length flags → get_or flags k false ≡ is_led_on view k) where
  -- a level has a way where its flag is set, or the node is its centroid
  way_by : (number : ℕ) (level : CentroidLevel) → slice_get view.own.levels number ≡ Some level
      → has_way view number level
      ≡ (is_own_level view.own.own level || get_or flags number false)
  way_by number level at =
      let within = slice_get_within view.own.levels number level at in
      ap (λ (led : Bool). is_own_level view.own.own level || led)
      (sym (are number (omega (arith, within, many))
      ∙ ap (λ (found : Option CentroidLevel). option_map_or (λ level.
      list_any (λ (numbered : ℕ × ReadPort PathMaxLabel).
      leads_on_at view number level numbered.0 numbered.1) (enumerate_from 0 view.ports))
      found false) at))

  pub all_hold : ((k : ℕ) (level : CentroidLevel) → k < length flags
      → slice_get view.own.levels k ≡ Some level
      → (is_own_level view.own.own level || get_or flags k false) ≡ true) → (number : ℕ)
      (level : CentroidLevel) → slice_get view.own.levels number ≡ Some level
      → has_way view number level ≡ true
  all_hold each number level at =
      let within = slice_get_within view.own.levels number level at in
      way_by number level at ∙ each number level (omega (arith, within, many)) at

  pub some_fails : (k : ℕ) (level : CentroidLevel) → slice_get view.own.levels k ≡ Some level
      → (is_own_level view.own.own level || get_or flags k false) ≡ false
      → has_ways_to_centroids view ≡ false
  some_fails k level at fails = elim (cases_Bool (has_ways_to_centroids view)) [
    | inr none ↦ none
    | inl whole ↦ absurd (true≢false (sym (passes_from_0 (has_way view) view.own.levels whole k
        level
        at) ∙ way_by k level at ∙ fails))
  ]
