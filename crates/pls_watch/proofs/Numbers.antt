-- Which label has which number, after one more turn.
use Rattle.std.proofs.Common.{◌≡◌, ◌∙◌, ℕ, zero, suc, ◌+◌, ◌-◌, ◌<◌, ◌≤◌, ◌==◌, Bool, true, false, cond, List, [], ◌∷◌, ◌++◌, filter, length, take, Some, slice_get, refl, sym, ap, subst, arith, append-nil}
use Rattle.std.proofs.lemmas.Grind.{flat_map-append}
use Rattle.std.proofs.lemmas.List.{take-append-le}
use Rattle.std.proofs.lemmas.Option.{same_Some, slice_get_within}
use Rattle.std.proofs.Math.Seq.{take-append_seam}
use Rattle.pls_configuration.specs.declared.row.NodeRow.{NodeRow}
use Rattle.pls_configuration.specs.Configuration.{ports_in}
use Rattle.pls_sim.proofs.Behind.{get_kept}
use Rattle.pls_watch.specs.declared.turn.Turn.{Turn}
use Rattle.pls_watch.specs.declared.turn.Turn.TheVariants.{Plain, Relabel}
use Rattle.pls_watch.specs.Versions.{newest, relabels}
use Rattle.pls_watch.specs.inner.Numbers.{AreNumbered, ArePlaces, IsGiven, IsLabel, relabelled, relabelled_by}

-- the node of one more label stands behind the others
pub relabelled_more : (turns : List Turn) (turn : Turn)
    → relabelled (turns ++ turn ∷ []) ≡ relabelled turns ++ relabelled_by turn
relabelled_more turns turn =
    flat_map-append relabelled_by turns (turn ∷ [])
    ∙ ap (λ (last : List ℕ). relabelled turns ++ last) (append-nil (relabelled_by turn))

-- no more labels are given than there are turns
pub few_given : (turns : List Turn) → length (relabelled turns) ≤ length turns
few_given [] = omega arith
few_given (Plain event ∷ turns) = omega (arith, few_given turns)
few_given (Relabel node ∷ turns) = omega (arith, few_given turns)

-- to each node as many are given as its newest version says
pub newest_given : (turns : List Turn) (node : ℕ)
    → length (filter (λ other. other == node) (relabelled turns)) ≡ newest turns node
newest_given [] node = refl
newest_given (Plain event ∷ turns) node = newest_given turns node
newest_given (Relabel other ∷ turns) node = by (other == node) (newest_given turns node)
  where
    given : List ℕ
    given = filter (λ other. other == node) (relabelled turns)

    by : (b : Bool) → length given ≡ newest turns node
        → length (cond b (other ∷ given) given)
        ≡ length (cond b (Relabel other ∷ filter (relabels node) turns) (filter (relabels node)
        turns))
    by true same = omega (arith, same)
    by false same = same

module _ (turns : List Turn) (turn : Turn) (node before place : ℕ) where
  -- the same of the labels given so far, whatever comes
  count_kept : place < length (relabelled turns)
      → length (filter (λ other. other == node) (take place (relabelled (turns ++ turn ∷ []))))
      ≡ length (filter (λ other. other == node) (take place (relabelled turns)))
  count_kept within =
      ap (λ (nodes : List ℕ). length (filter (λ other. other == node) (take place nodes)))
      (relabelled_more turns turn)
      ∙ ap (λ (nodes : List ℕ). length (filter (λ other. other == node) nodes))
      (take-append-le place (relabelled turns) (relabelled_by turn) (omega (arith, within)))

  at_kept : place < length (relabelled turns)
      → slice_get (relabelled (turns ++ turn ∷ [])) place ≡ slice_get (relabelled turns) place
  at_kept within =
      ap (λ (nodes : List ℕ). slice_get nodes place) (relabelled_more turns turn)
      ∙ get_kept (relabelled turns) (relabelled_by turn) place within

  pub given_more : IsGiven turns node before place → IsGiven (turns ++ turn ∷ []) node before place
  given_more given =
      let within = slice_get_within (relabelled turns) place node given.at in record {
        at = at_kept within ∙ given.at;
        count = count_kept within ∙ given.count;
      }

  pub given_less : place < length (relabelled turns)
      → IsGiven (turns ++ turn ∷ []) node before place → IsGiven turns node before place
  given_less within given = record {
    at = sym (at_kept within) ∙ given.at;
    count = sym (count_kept within) ∙ given.count;
  }

last_of : (nodes : List ℕ) (node : ℕ) → slice_get (nodes ++ node ∷ []) (length nodes) ≡ Some node
last_of [] node = refl
last_of (first ∷ nodes) node = last_of nodes node

module _ (turns : List Turn) (node : ℕ) where
  abbrev place : ℕ
  place = length (relabelled turns)

  last_at : slice_get (relabelled (turns ++ Relabel node ∷ [])) place ≡ Some node
  last_at =
      ap (λ (nodes : List ℕ). slice_get nodes place) (relabelled_more turns (Relabel node))
      ∙ last_of (relabelled turns) node

  last_count : (other : ℕ)
      → length (filter (λ one. one == other) (take place (relabelled (turns ++ Relabel node ∷ []))))
      ≡ newest turns other
  last_count other =
      ap (λ (nodes : List ℕ). length (filter (λ one. one == other) (take place nodes)))
      (relabelled_more turns (Relabel node))
      ∙ ap (λ (nodes : List ℕ). length (filter (λ one. one == other) nodes))
      (take-append_seam (relabelled turns) (node ∷ []))
      ∙ newest_given turns other

  -- the label that is given now is the next one of its node
  pub given_last : IsGiven (turns ++ Relabel node ∷ []) node (newest turns node) place
  given_last = record { at = last_at; count = last_count node }

  -- and of no other node
  pub last_is : (other before : ℕ) → IsGiven (turns ++ Relabel node ∷ []) other before place
      → (node ≡ other) × (newest turns other ≡ before)
  last_is other before given = (
    same_Some node other (sym last_at ∙ given.at),
    sym (last_count other) ∙ given.count,
  )

-- a label keeps its number
pub label_more : (rows : List NodeRow) (turns : List Turn) (turn : Turn) (node version number : ℕ)
    → IsLabel rows turns node version number → IsLabel rows (turns ++ turn ∷ []) node version number
label_more rows turns turn node zero number is = is
label_more rows turns turn node (suc before) number is =
    (is.0, is.1, given_more turns turn node before is.0 is.2)

-- which is one of as many as there are
pub label_within : (rows : List NodeRow) (turns : List Turn) (node version number : ℕ)
    → IsLabel rows turns node version number
    → number < length rows + length (relabelled turns)
label_within rows turns node zero number is =
    omega (arith, slice_get_within rows number is.0 is.1)
label_within rows turns node (suc before) number is =
    omega (arith, is.1, slice_get_within (relabelled turns) is.0 node is.2.at)

-- what is known of a label that is not the first of its node
pub record Later (rows : List NodeRow) (turns : List Turn) (node before number : ℕ) : Type 0 where
  pub place : ℕ
  pub is : number ≡ length rows + place
  pub given : IsGiven turns node before place
  pub within : place < length (relabelled turns)

pub later_label : (rows : List NodeRow) (turns : List Turn) (node version number : ℕ)
    → IsLabel rows turns node version number → 0 < version
    → Later rows turns node (version - 1) number
later_label rows turns node zero number is some = absurd (omega (arith, some))
later_label rows turns node (suc before) number is some =
    let same : before ≡ suc before - 1 = omega arith in record {
      place = is.0;
      is = is.1;
      given = subst (λ (n : ℕ). IsGiven turns node n is.0) same is.2;
      within = slice_get_within (relabelled turns) is.0 node is.2.at;
    }

-- before the first turn the labels of all nodes stand in their order
pub numbered_start : (rows : List NodeRow) (places held_labels : List ℕ)
    → ArePlaces (length rows) places → length held_labels ≡ ports_in rows
    → AreNumbered rows [] places [] held_labels []
numbered_start rows places held_labels are long = record {
  each_node = are.0;
  are_newest = λ place row at. (
    row,
    ap (slice_get rows) (are.1 place (slice_get_within rows place row at)) ∙ at,
    refl,
  );
  each_emit = refl;
  are_carried = λ place emit at. absurd (cc);
  each_port = long;
  are_held = λ number node neighbour version slot is. absurd (cc);
  each_given = refl;
  are_earlier = λ place node before given. let at = given.at in absurd (cc);
}
