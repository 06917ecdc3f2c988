use Rattle.std.proofs.Common.{◌≡◌, ◌≤◌, ◌∙◌, ◌++◌, ◌∷◌, [], ℕ, List, Vec, Global, ap, arith, length, map, subst, sym}
use Rattle.std.specs.List.{sum}
use Rattle.std.specs.Vec.{vec_capacity}
use Rattle.pls_report.specs.declared.kept_looks.KeptLook.{KeptLook}
use Rattle.pls_report.specs.inner.Kept.{joined_text, pieces_of, row_line}
use Rattle.pls_report.specs.inner.KeptTexts.{HasRoomForAll, last_lines, texts_from}
use Rattle.pls_report.specs.inner.Patches.{patch_text}
use Rattle.pls_report.proofs.Kept.{joined_pieces, pieces_as_many, pieces_lengths}
use Rattle.pls_report.proofs.KeptTexts.{room_grows}
use Rattle.pls_report.proofs.Keeping.{kept_pieces, kept_room, kept_texts, kept_total}
use Rattle.pls_report.proofs.kept_looks.KeptLooks.keep.Goals as goal

pub patches_of-requires-clause-lengths : goal.patches_of-requires-clause-lengths
patches_of-requires-clause-lengths c =
    let inside = c.self.inside in
    let looks : List KeptLook = inside.looks.items in
    let many : length inside.lengths.items ≡ length c.args.rows.now =
    pieces_as_many inside.lengths.items (last_lines [] looks) c.args.self.now.lines c.args.rows.now
    (λ k. (c.self.view_is k).lines) c.requires.as_many in
    ap (length {A = ℕ}) c.as_slice-lengths.ensures.value ∙ many

pub patches_of-requires-clause-renewed : goal.patches_of-requires-clause-renewed
patches_of-requires-clause-renewed c =
    let inside = c.self.inside in
    let looks : List KeptLook = inside.looks.items in
    let many : length inside.lengths.items ≡ length c.args.rows.now =
    pieces_as_many inside.lengths.items (last_lines [] looks) c.args.self.now.lines c.args.rows.now
    (λ k. (c.self.view_is k).lines) c.requires.as_many in
    c.self.invariant.1 ∙ many

pub invariant_of-self : goal.invariant_of-self
invariant_of-self c =
    let inside = c.self.inside in
    let looks : List KeptLook = inside.looks.items in
    let many : length inside.lengths.items ≡ length c.args.rows.now =
    pieces_as_many inside.lengths.items (last_lines [] looks) c.args.self.now.lines c.args.rows.now
    (λ k. (c.self.view_is k).lines) c.requires.as_many in (
      c.self.invariant.0,
      c.patches_of.ensures.as_many ∙ sym many,
      c.self.invariant.2,
      c.self.invariant.3,
      c.self.invariant.4,
      c.self.invariant.5,
    )

pub invariant_of-self-in_err-reserve : goal.invariant_of-self-in_err-reserve
invariant_of-self-in_err-reserve c =
    let inside = c.self.inside in
    let looks : List KeptLook = inside.looks.items in
    let many : length inside.lengths.items ≡ length c.args.rows.now =
    pieces_as_many inside.lengths.items (last_lines [] looks) c.args.self.now.lines c.args.rows.now
    (λ k. (c.self.view_is k).lines) c.requires.as_many in (
      c.self.invariant.0,
      c.patches_of.ensures.as_many ∙ sym many,
      c.reserve.ensures.items ∙ c.self.invariant.2,
      c.self.invariant.3,
      room_grows _ _ looks c.reserve.ensures.capacity c.self.invariant.4,
      c.self.invariant.5,
    )

pub invariant_of-self-in_err-reserve-2 : goal.invariant_of-self-in_err-reserve-2
invariant_of-self-in_err-reserve-2 c =
    let inside = c.self.inside in
    let looks : List KeptLook = inside.looks.items in
    let many : length inside.lengths.items ≡ length c.args.rows.now =
    pieces_as_many inside.lengths.items (last_lines [] looks) c.args.self.now.lines c.args.rows.now
    (λ k. (c.self.view_is k).lines) c.requires.as_many in (
      c.self.invariant.0,
      c.patches_of.ensures.as_many ∙ sym many,
      c.reserve.ensures.items ∙ c.self.invariant.2,
      c.reserve-2.ensures.items ∙ c.self.invariant.3,
      room_grows _ _ looks c.reserve.ensures.capacity c.self.invariant.4,
      room_grows _ _ looks c.reserve-2.ensures.capacity c.self.invariant.5,
    )

pub invariant_of-self-in_err-push : goal.invariant_of-self-in_err-push
invariant_of-self-in_err-push c =
    let inside = c.self.inside in
    let looks : List KeptLook = inside.looks.items in
    let many : length inside.lengths.items ≡ length c.args.rows.now =
    pieces_as_many inside.lengths.items (last_lines [] looks) c.args.self.now.lines c.args.rows.now
    (λ k. (c.self.view_is k).lines) c.requires.as_many in
    let same : c.push.new.self.items ≡ looks = c.in_err-push.ensures.items in (
      c.self.invariant.0 ∙ (λ k. length (last_lines [] (sym same k))),
      c.patches_of.ensures.as_many ∙ sym many,
      c.reserve.ensures.items ∙ c.self.invariant.2,
      c.reserve-2.ensures.items ∙ c.self.invariant.3,
      subst (HasRoomForAll _) (sym same)
          (room_grows _ _ looks c.reserve.ensures.capacity c.self.invariant.4),
      subst (HasRoomForAll _) (sym same)
          (room_grows _ _ looks c.reserve-2.ensures.capacity c.self.invariant.5),
    )

pub invariant_of-self-2 : goal.invariant_of-self-2
invariant_of-self-2 c =
    let inside = c.self.inside in
    let looks : List KeptLook = inside.looks.items in
    let lengths : List ℕ = inside.lengths.items in
    let lines : List (List ℕ) = c.args.self.now.lines in
    let rows = c.args.rows.now in
    let text : List ℕ = last_lines [] looks in
    let look : KeptLook = record { patches = c.in_ok-patches.patches; counts = c.args.counts } in
    let pieces : pieces_of lengths text ≡ lines = λ k. (c.self.view_is k).lines in
    let those : c.as_slice-lengths.result.now ≡ map (length {A = ℕ}) lines =
    c.as_slice-lengths.ensures.value ∙ pieces_lengths lengths text c.self.invariant.0
    ∙ ap (map (length {A = ℕ})) pieces in
    let renewed : c.patches_of.new.renewed.items ≡ map (length {A = ℕ}) (map row_line rows) =
    c.in_ok-patches.ensures.renewed lines c.requires those in
    let made : patch_text look.patches text ≡ joined_text (map row_line rows) =
    (λ k. patch_text look.patches ((sym (joined_pieces lengths text c.self.invariant.0)
    ∙ ap joined_text pieces) k))
    ∙ c.in_ok-patches.ensures.patches lines c.requires those in
    let more : c.push.new.self.items ≡ looks ++ look ∷ [] = c.in_ok-push.ensures.items in
    let after : c.swap.new.x.items ≡ c.patches_of.new.renewed.items =
    ap (λ (v : Vec ℕ Global). v.items) c.swap.ensures.x_after in
    let fits_before : sum c.patches_of.new.renewed.items ≤ vec_capacity c.reserve.new.self =
    omega (arith, c.in_ok-patches.ensures.room, c.in_ok-reserve.ensures.ok) in
    let fits_after : sum c.patches_of.new.renewed.items ≤ vec_capacity c.reserve-2.new.self =
    omega (arith, c.in_ok-patches.ensures.room, c.in_ok-reserve-2.ensures.ok) in
    let many : length lengths ≡ length rows =
    pieces_as_many lengths text lines rows pieces c.requires.as_many in (
      ap sum after
          ∙ kept_total looks look rows made c.patches_of.new.renewed.items renewed
          ∙ (λ k. length (last_lines [] (sym more k))),
      ap (λ (v : Vec ℕ Global). length v.items) c.swap.ensures.y_after
          ∙ many ∙ sym c.patches_of.ensures.as_many ∙ sym (ap (length {A = ℕ}) after),
      c.reserve.ensures.items ∙ c.self.invariant.2,
      c.reserve-2.ensures.items ∙ c.self.invariant.3,
      subst (HasRoomForAll _) (sym more)
          (kept_room looks look rows made c.patches_of.new.renewed.items renewed
          (vec_capacity inside.before) (vec_capacity c.reserve.new.self) c.self.invariant.4
          c.reserve.ensures.capacity fits_before),
      subst (HasRoomForAll _) (sym more)
          (kept_room looks look rows made c.patches_of.new.renewed.items renewed
          (vec_capacity inside.after) (vec_capacity c.reserve-2.new.self) c.self.invariant.5
          c.reserve-2.ensures.capacity fits_after),
    )

pub returns-clause-lines : goal.returns-clause-lines
returns-clause-lines c =
    let inside = c.self.inside in
    let looks : List KeptLook = inside.looks.items in
    let lengths : List ℕ = inside.lengths.items in
    let lines : List (List ℕ) = c.args.self.now.lines in
    let rows = c.args.rows.now in
    let text : List ℕ = last_lines [] looks in
    let look : KeptLook = record { patches = c.in_ok-patches.patches; counts = c.args.counts } in
    let pieces : pieces_of lengths text ≡ lines = λ k. (c.self.view_is k).lines in
    let those : c.as_slice-lengths.result.now ≡ map (length {A = ℕ}) lines =
    c.as_slice-lengths.ensures.value ∙ pieces_lengths lengths text c.self.invariant.0
    ∙ ap (map (length {A = ℕ})) pieces in
    let renewed : c.patches_of.new.renewed.items ≡ map (length {A = ℕ}) (map row_line rows) =
    c.in_ok-patches.ensures.renewed lines c.requires those in
    let made : patch_text look.patches text ≡ joined_text (map row_line rows) =
    (λ k. patch_text look.patches ((sym (joined_pieces lengths text c.self.invariant.0)
    ∙ ap joined_text pieces) k))
    ∙ c.in_ok-patches.ensures.patches lines c.requires those in
    let more : c.push.new.self.items ≡ looks ++ look ∷ [] = c.in_ok-push.ensures.items in
    let after : c.swap.new.x.items ≡ c.patches_of.new.renewed.items =
    ap (λ (v : Vec ℕ Global). v.items) c.swap.ensures.x_after in
    (λ k. pieces_of (after k) (last_lines [] (more k)))
    ∙ kept_pieces looks look rows made c.patches_of.new.renewed.items renewed

pub returns-clause-texts : goal.returns-clause-texts
returns-clause-texts c =
    let inside = c.self.inside in
    let looks : List KeptLook = inside.looks.items in
    let lengths : List ℕ = inside.lengths.items in
    let lines : List (List ℕ) = c.args.self.now.lines in
    let rows = c.args.rows.now in
    let text : List ℕ = last_lines [] looks in
    let look : KeptLook = record { patches = c.in_ok-patches.patches; counts = c.args.counts } in
    let pieces : pieces_of lengths text ≡ lines = λ k. (c.self.view_is k).lines in
    let those : c.as_slice-lengths.result.now ≡ map (length {A = ℕ}) lines =
    c.as_slice-lengths.ensures.value ∙ pieces_lengths lengths text c.self.invariant.0
    ∙ ap (map (length {A = ℕ})) pieces in
    let renewed : c.patches_of.new.renewed.items ≡ map (length {A = ℕ}) (map row_line rows) =
    c.in_ok-patches.ensures.renewed lines c.requires those in
    let made : patch_text look.patches text ≡ joined_text (map row_line rows) =
    (λ k. patch_text look.patches ((sym (joined_pieces lengths text c.self.invariant.0)
    ∙ ap joined_text pieces) k))
    ∙ c.in_ok-patches.ensures.patches lines c.requires those in
    let more : c.push.new.self.items ≡ looks ++ look ∷ [] = c.in_ok-push.ensures.items in
    let after : c.swap.new.x.items ≡ c.patches_of.new.renewed.items =
    ap (λ (v : Vec ℕ Global). v.items) c.swap.ensures.x_after in
    ap (texts_from 1 []) more
    ∙ kept_texts looks look rows made c.args.self.now.texts (λ k. (c.self.view_is k).texts)
