-- Labels in words: when slots move, and when labels are put in, taken out and replaced.
use Rattle.std.proofs.Common.{◌≡◌, ℕ, zero, suc, ◌+◌, ◌-◌, ◌*◌, ◌/◌, ◌<◌, ◌≤◌, Bool, List, [], ◌∷◌, ◌++◌, length, take, drop, map, replicate, set, slice_index_or, refl, sym, ap, ◌∙◌, arith}
use Rattle.std.specs.List.{All, insert, remove, sum}
use Rattle.std.proofs.lemmas.List.{drop-map, get_or-map, length-map, map-append, map-set, same_lists, take-map}
use Rattle.std.proofs.lemmas.List.Elements.{All-append, All-drop, All-push, All-set, All-take}
use Rattle.std.proofs.lemmas.List.Sums.{sum-map, sum_by-insert, sum_by-set, sum_by_push}
use Rattle.pls_bits.specs.Words.{bits_of}
use Rattle.pls_bits.proofs.Appended.{bits_of-front}
use Rattle.pls_bits.proofs.Ranges.{bits_of-none, length-bits_of}
use Rattle.pls_labels.specs.declared.label_room.Slot.{Slot}
use Rattle.pls_labels.specs.Labels.{bits_together}
use Rattle.pls_labels.specs.inner.Slots.{IsFree, IsRoom, LiesIn, bits_of_slots, label_of_slot}

-- a slot
abbrev pub slot_of : ℕ → ℕ → Slot
slot_of at len = record { at = at; len = len }

lengths : (words : List ℕ) (slots : List Slot)
    → map (length {A = Bool}) (map (label_of_slot words) slots) ≡ map (λ (slot : Slot). slot.len) slots
lengths words [] = refl
lengths words (slot ∷ slots) =
    rw (length-bits_of words (64 * slot.at) slot.len)
    (ap (λ rest. slot.len ∷ rest) (lengths words slots))

-- the labels have as many bits as the slots
pub bits_together-labels : (words : List ℕ) (slots : List Slot)
    → bits_together (map (label_of_slot words) slots) ≡ bits_of_slots slots
bits_together-labels words slots =
    sym (sum-map (length {A = Bool}) (map (label_of_slot words) slots)) ∙ ap sum (lengths words slots)
    ∙ sum-map (λ (slot : Slot). slot.len) slots

-- labels stay where their words stay in front
pub labels_kept : (new old : List ℕ) (slots : List Slot) → take (length old) new ≡ old
    → All (LiesIn old) slots → map (label_of_slot new) slots ≡ map (label_of_slot old) slots
labels_kept new old slots kept within =
    same_lists _ _ (length-map slots (label_of_slot new) ∙ sym (length-map slots (label_of_slot old)))
    (λ k d h.
    let inside : k < length slots = rw (length-map slots (label_of_slot new)) at h in
    let slot = slice_index_or slots k (slot_of 0 0) in
    get_or-map (label_of_slot new) slots k (slot_of 0 0) d inside
    ∙ bits_of-front new old (64 * slot.at) slot.len kept (within k (slot_of 0 0) inside)
    ∙ sym (get_or-map (label_of_slot old) slots k (slot_of 0 0) d inside))

-- one label is put behind all words
pub labels_replaced : (new old : List ℕ) (slots : List Slot) (i len : ℕ) (label : List Bool)
    → take (length old) new ≡ old → All (LiesIn old) slots
    → bits_of new (64 * length old) len ≡ label
    → map (label_of_slot new) (set slots i (slot_of (length old) len))
    ≡ set (map (label_of_slot old) slots) i label
labels_replaced new old slots i len label kept within put =
    map-set (label_of_slot new) slots i (slot_of (length old) len)
    ∙ ap (λ x. set (map (label_of_slot new) slots) i x) put
    ∙ ap (λ xs. set xs i label) (labels_kept new old slots kept within)

pub room_replaced : (new old : List ℕ) (slots : List Slot) (i len total sum : ℕ)
    → take (length old) new ≡ old → length new ≡ length old + (len + 63) / 64 → i < length slots
    → IsRoom old slots total → sum ≡ bits_of_slots (set slots i (slot_of (length old) len))
    → IsRoom new (set slots i (slot_of (length old) len)) sum
room_replaced new old slots i len total sum kept long within room is =
    let slot = slot_of (length old) len in
    let each : All (LiesIn new) slots = λ k d h. omega (arith, room.within k d h, long) in
    let lies : LiesIn new slot = omega (arith, long) in
    let more = sum_by-set (λ (slot : Slot). slot.len) slots i slot (slot_of 0 0) within in
    record {
      within = All-set (LiesIn new) slots i slot lies each;
      sum = is;
      few = omega (arith, is, more, room.sum, room.few, long);
    }

-- words are put of which so many were free
pub free_used : (new old : List ℕ) (now was free count : ℕ) → IsFree old was free
    → length new ≡ length old + count → count ≤ free → was ≤ now → IsFree new now (free - count)
free_used new old now was free count room long within grows =
    record {
      fits = omega (arith, room.fits, long, within, grows);
      small = omega (arith, room.small, long, within);
    }

-- an empty label is put in
pub labels_inserted : (words : List ℕ) (slots : List Slot) (i : ℕ)
    → map (label_of_slot words) (insert slots i (slot_of 0 0)) ≡ insert (map (label_of_slot words) slots) i []
labels_inserted words slots i =
    map-append (label_of_slot words) (take i slots) (slot_of 0 0 ∷ drop i slots)
    ∙ rw (
      take-map (label_of_slot words) i slots,
      drop-map (label_of_slot words) i slots,
      bits_of-none words (64 * 0),
    ) refl

pub room_inserted : (words : List ℕ) (slots : List Slot) (i total : ℕ) → IsRoom words slots total
    → IsRoom words (insert slots i (slot_of 0 0)) total
room_inserted words slots i total room = record {
  within = All-append (LiesIn words) (take i slots) (slot_of 0 0 ∷ drop i slots)
      (All-take (LiesIn words) i slots room.within)
      (All-append (LiesIn words) (slot_of 0 0 ∷ []) (drop i slots) (one (slot_of 0 0) (omega arith))
      (All-drop (LiesIn words) i slots room.within));
  sum = omega (arith, room.sum, sum_by-insert (λ (slot : Slot). slot.len) slots i (slot_of 0 0));
  few = room.few;
}
  where
    one : (slot : Slot) → LiesIn words slot → All (LiesIn words) (slot ∷ [])
    one slot lies = All-push (LiesIn words) [] slot (λ k d h. absurd (omega (arith, h))) lies

-- a label is taken out
pub labels_removed : (words : List ℕ) (slots : List Slot) (i : ℕ)
    → map (label_of_slot words) (remove slots i) ≡ remove (map (label_of_slot words) slots) i
labels_removed words slots i =
    map-append (label_of_slot words) (take i slots) (drop (suc i) slots)
    ∙ rw (take-map (label_of_slot words) i slots, drop-map (label_of_slot words) (suc i) slots) refl

-- ---- labels that move to new words

-- slots in new words with the labels of those in old ones
pub record HasMoved (words : List ℕ) (slots : List Slot) (fresh : List ℕ) (moved : List Slot)
    : Type 0 where
  pub labels : map (label_of_slot fresh) moved ≡ map (label_of_slot words) slots
  pub lens : map (λ (slot : Slot). slot.len) moved ≡ map (λ (slot : Slot). slot.len) slots
  pub lies : All (LiesIn fresh) moved
  pub few : bits_of_slots moved ≤ 64 * length fresh

-- one more label
pub moved_more : (words : List ℕ) (slots : List Slot) (fresh next : List ℕ) (moved : List Slot)
    (slot : Slot) → HasMoved words slots fresh moved → take (length fresh) next ≡ fresh
    → length next ≡ length fresh + (slot.len + 63) / 64
    → bits_of next (64 * length fresh) slot.len ≡ label_of_slot words slot
    → HasMoved words (slots ++ slot ∷ []) next (moved ++ slot_of (length fresh) slot.len ∷ [])
moved_more words slots fresh next moved slot before kept long put =
    let new = slot_of (length fresh) slot.len in record {
      labels = map-append (label_of_slot next) moved (new ∷ [])
          ∙ ap (λ xs. xs ++ label_of_slot next new ∷ [])
          (labels_kept next fresh moved kept before.lies ∙ before.labels)
          ∙ ap (λ x. map (label_of_slot words) slots ++ x ∷ []) put
          ∙ sym (map-append (label_of_slot words) slots (slot ∷ []));
      lens = map-append (λ (s : Slot). s.len) moved (new ∷ [])
          ∙ ap (λ xs. xs ++ slot.len ∷ []) before.lens
          ∙ sym (map-append (λ (s : Slot). s.len) slots (slot ∷ []));
      lies = All-push (LiesIn next) moved new
          (λ k d h. omega (arith, before.lies k d h, long)) (omega (arith, long));
      few = omega (arith, sum_by_push (λ (s : Slot). s.len) moved new, before.few, long);
    }

pub moved_none : (words : List ℕ) → HasMoved words [] [] []
moved_none words = record {
  labels = refl;
  lens = refl;
  lies = λ k d h. absurd (omega (arith, h));
  few = omega arith;
}

-- labels that are all empty
pub labels_blank : (words : List ℕ) (n : ℕ)
    → map (label_of_slot words) (replicate n (slot_of 0 0)) ≡ replicate n []
labels_blank words zero = refl
labels_blank words (suc n) =
    rw (bits_of-none words (64 * 0)) (ap (λ rest. [] ∷ rest) (labels_blank words n))

-- what moved is a room
pub room_moved : (words : List ℕ) (slots moved : List Slot) (total : ℕ)
    → map (λ (slot : Slot). slot.len) moved ≡ map (λ (slot : Slot). slot.len) slots
    → total ≡ bits_of_slots slots → All (LiesIn words) moved
    → bits_of_slots moved ≤ 64 * length words → IsRoom words moved total
room_moved words slots moved total lens sum_is lies few =
    let same : bits_of_slots moved ≡ bits_of_slots slots =
    sym (sum-map (λ (slot : Slot). slot.len) moved) ∙ ap sum lens
    ∙ sum-map (λ (slot : Slot). slot.len) slots in
    record {
      within = lies;
      sum = sum_is ∙ sym same;
      few = omega (arith, sum_is, same, few);
    }
