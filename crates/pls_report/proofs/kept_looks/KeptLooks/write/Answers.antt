use Rattle.std.proofs.Common.{◌≡◌, ◌+◌, ◌≤◌, ◌∙◌, ◌++◌, [], ℕ, List, Vec, Global, ap, arith, length, subst, sym}
use Rattle.std.specs.Vec.{vec_capacity}
use Rattle.pls_streams.specs.Gathered.{Wrote}
use Rattle.pls_streams.proofs.Written.{failed, front_first, front_later, wrote_both, wrote_nothing}
use Rattle.pls_report.specs.declared.kept_looks.KeptLook.{KeptLook}
use Rattle.pls_report.specs.inner.Kept.{counts_text}
use Rattle.pls_report.specs.inner.KeptTexts.{HasRoomForAll, texts_from}
use Rattle.pls_report.specs.inner.Patches.{patch_text}
use Rattle.pls_report.proofs.Flat.{failed_text, flat_all, wrote_text}
use Rattle.pls_report.proofs.KeptTexts.{next_fits, next_lines, next_text, room_grows, texts_many}
use Rattle.pls_report.proofs.kept_looks.KeptLooks.write.Goals as goal

pub loop-place-init : goal.loop-place-init
loop-place-init g c = (
  wrote_nothing,
  c.self.invariant.2,
  subst (HasRoomForAll _) (sym c.deref-look-items.ensures.value) c.self.invariant.4,
  subst (HasRoomForAll _) (sym c.deref-look-items.ensures.value) c.self.invariant.5,
)

pub apply-requires : goal.apply-requires
apply-requires g c =
    next_fits (vec_capacity c.loop-place.after) c.deref-look-items.result.now c.loop-place.invariant.3
    c.loop-place.place c.look-item.result c.loop-place-test.true c.look-item.is
    c.as_slice.result.now (c.as_slice.ensures.value ∙ c.loop-place.invariant.1)

pub returns-in_err-put : goal.returns-in_err-put
returns-in_err-put g c =
    let looks : List KeptLook = c.self.inside.looks.items in
    let listed : List KeptLook = c.deref-look-items.result.now in
    let i : ℕ = c.loop-place.place in
    let look : KeptLook = c.look-item.result in
    let before : List ℕ = c.loop-place.before.items in
    let lines : List ℕ = c.as_slice-in-loop-place.result.now in
    let closing : List ℕ = counts_text (i + 1) look.counts in
    let made : lines ≡ patch_text look.patches before =
    c.as_slice-in-loop-place.ensures.value ∙ c.apply.ensures.text
    ∙ ap (patch_text look.patches) c.as_slice.ensures.value in
    let (within, is) = next_text looks listed c.deref-look-items.ensures.value i look
    c.loop-place-test.true c.look-item.is before lines c.loop-place.invariant.1 made
    c.args.self.texts (λ k. (c.self.view_is k).texts) (lines ++ closing) in
    failed _ _ c.from_residual.result _ c.from_residual.ensures.0
    (failed_text c.args.self.texts i (lines ++ closing) (lines ++ closing) is within
    c.loop-place.invariant.0 (front_first lines closing c.in_err-put.ensures))

pub returns-in_err-write_counts : goal.returns-in_err-write_counts
returns-in_err-write_counts g c =
    let looks : List KeptLook = c.self.inside.looks.items in
    let listed : List KeptLook = c.deref-look-items.result.now in
    let i : ℕ = c.loop-place.place in
    let look : KeptLook = c.look-item.result in
    let before : List ℕ = c.loop-place.before.items in
    let lines : List ℕ = c.as_slice-in-loop-place.result.now in
    let closing : List ℕ = counts_text (i + 1) look.counts in
    let made : lines ≡ patch_text look.patches before =
    c.as_slice-in-loop-place.ensures.value ∙ c.apply.ensures.text
    ∙ ap (patch_text look.patches) c.as_slice.ensures.value in
    let (within, is) = next_text looks listed c.deref-look-items.ensures.value i look
    c.loop-place-test.true c.look-item.is before lines c.loop-place.invariant.1 made
    c.args.self.texts (λ k. (c.self.view_is k).texts) (lines ++ closing) in
    failed _ _ c.from_residual-in_err-write_counts.result _
    c.from_residual-in_err-write_counts.ensures.0
    (failed_text c.args.self.texts i (lines ++ closing) (lines ++ closing) is within
    c.loop-place.invariant.0
    (front_later lines closing c.in_ok-put.ensures c.in_err-write_counts.ensures))

pub loop-place-preserved : goal.loop-place-preserved
loop-place-preserved g c =
    let looks : List KeptLook = c.self.inside.looks.items in
    let listed : List KeptLook = c.deref-look-items.result.now in
    let i : ℕ = c.loop-place.place in
    let look : KeptLook = c.look-item.result in
    let before : List ℕ = c.loop-place.before.items in
    let lines : List ℕ = c.as_slice-in-loop-place.result.now in
    let closing : List ℕ = counts_text (i + 1) look.counts in
    let made : lines ≡ patch_text look.patches before =
    c.as_slice-in-loop-place.ensures.value ∙ c.apply.ensures.text
    ∙ ap (patch_text look.patches) c.as_slice.ensures.value in
    let (within, is) = next_text looks listed c.deref-look-items.ensures.value i look
    c.loop-place-test.true c.look-item.is before lines c.loop-place.invariant.1 made
    c.args.self.texts (λ k. (c.self.view_is k).texts) (lines ++ closing) in
    let now : c.swap.new.x ≡ c.apply.new.after = c.swap.ensures.x_after in
    let past : c.swap.new.y ≡ c.loop-place.before = c.swap.ensures.y_after in (
      wrote_text c.args.self.texts i (lines ++ closing) (lines ++ closing) is within
          c.loop-place.invariant.0
          (wrote_both lines closing c.in_ok-put.ensures c.in_ok-write_counts.ensures),
      ap (λ (v : Vec ℕ Global). v.items) now
          ∙ sym c.as_slice-in-loop-place.ensures.value
          ∙ next_lines looks listed c.deref-look-items.ensures.value i look c.loop-place-test.true
          c.look-item.is before lines c.loop-place.invariant.1 made,
      subst (λ (v : Vec ℕ Global). HasRoomForAll (vec_capacity v) listed) (sym now)
          (room_grows _ _ listed c.apply.ensures.room c.loop-place.invariant.3),
      subst (λ (v : Vec ℕ Global). HasRoomForAll (vec_capacity v) listed) (sym past)
          c.loop-place.invariant.2,
    )

pub returns : goal.returns
returns g c =
    let looks : List KeptLook = c.self.inside.looks.items in
    let texts : List (List ℕ) = c.args.self.texts in
    let are : texts_from 1 [] looks ≡ texts = λ k. (c.self.view_is k).texts in
    let past : length looks ≤ c.loop-place.place =
    subst (λ looks. length looks ≤ c.loop-place.place) c.deref-look-items.ensures.value
    c.loop-place-test.false in
    subst (Wrote _ _ _ _ _ _ _ _)
    (flat_all texts c.loop-place.place
    (omega (arith, past, texts_many 1 [] looks, ap (length {A = List ℕ}) are)))
    c.loop-place.invariant.0
