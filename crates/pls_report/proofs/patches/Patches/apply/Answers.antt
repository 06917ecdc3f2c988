use Rattle.std.proofs.Common.{◌≡◌, ◌∙◌, ◌≤◌, ◌++◌, ℕ, List, ap, arith, drop, length, sym}
use Rattle.std.proofs.lemmas.List.{drop_all, length-append}
use Rattle.pls_report.specs.declared.patches.PatchPlace.{PatchPlace}
use Rattle.pls_report.specs.inner.Patches.{patch_text, patches_at}
use Rattle.pls_report.proofs.Patching.{front_fits, line_fits, patch_applied}
use Rattle.pls_report.proofs.patches.Patches.apply.Goals as goal

abbrev nowhere : PatchPlace
nowhere = record { stays = 0; goes = 0; length = 0 }

pub loop-place-init : goal.loop-place-init
loop-place-init c = (
  (λ k. c.clear.ensures.items k
      ++ patch_text (patches_at (c.deref-place-items.ensures.value k) (c.as_slice-lines.ensures.value k))
      c.args.before.now)
      ∙ ap (λ patches. patch_text patches c.args.before.now) c.self.view_is,
  omega (arith, c.clear.ensures.capacity),
)

pub add-requires : goal.add-requires
add-requires c =
    omega (
      arith,
      c.requires,
      c.loop-place.invariant.1,
      ap (length {A = ℕ}) c.front.ensures,
      front_fits c.deref-place-items.result.now c.loop-place.place-index nowhere
          c.loop-place-test.true c.loop-place.after.items c.loop-place.left.now
          c.loop-place.lines.now (patch_text c.args.self.now c.args.before.now)
          c.loop-place.invariant.0,
    )

pub add-requires-in-loop-place : goal.add-requires-in-loop-place
add-requires-in-loop-place c =
    omega (
      arith,
      c.requires,
      c.loop-place.invariant.1,
      c.add.ensures.room,
      ap (length {A = ℕ}) (c.add.ensures.text ∙ (λ k. c.loop-place.after.items ++ c.front.ensures k)),
      ap (length {A = ℕ}) c.front-in-loop-place.ensures,
      line_fits c.deref-place-items.result.now c.loop-place.place-index nowhere
          c.loop-place-test.true c.loop-place.after.items c.loop-place.left.now
          c.loop-place.lines.now (patch_text c.args.self.now c.args.before.now)
          c.loop-place.invariant.0,
    )

pub loop-place-preserved : goal.loop-place-preserved
loop-place-preserved c = (
  rw (
    c.add-in-loop-place.ensures.text,
    c.add.ensures.text,
    c.front.ensures,
    c.front-in-loop-place.ensures,
    c.behind-lines.ensures,
    c.behind-left.ensures,
    c.behind.ensures,
  )
      (patch_applied c.deref-place-items.result.now c.loop-place.place-index nowhere
      c.loop-place-test.true c.loop-place.after.items c.loop-place.left.now
      c.loop-place.lines.now (patch_text c.args.self.now c.args.before.now)
      c.loop-place.invariant.0),
  omega (arith, c.loop-place.invariant.1, c.add.ensures.room, c.add-in-loop-place.ensures.room),
)

-- behind the last patch all that is left stays
rest : (places : List PatchPlace) (i : ℕ) → length places ≤ i → (made left lines whole : List ℕ)
    → made ++ patch_text (patches_at (drop i places) lines) left ≡ whole → made ++ left ≡ whole
rest places i past made left lines whole so_far =
    (λ k. made ++ patch_text (patches_at (sym (drop_all i places past) k) lines) left) ∙ so_far

pub add-requires-2 : goal.add-requires-2
add-requires-2 c =
    omega (
      arith,
      c.requires,
      c.loop-place.invariant.1,
      ap (length {A = ℕ}) (rest c.deref-place-items.result.now c.loop-place.place-index
          c.loop-place-test.false c.loop-place.after.items c.loop-place.left.now
          c.loop-place.lines.now _ c.loop-place.invariant.0),
      length-append c.loop-place.after.items c.loop-place.left.now,
    )

pub returns-clause-text : goal.returns-clause-text
returns-clause-text c =
    c.add-2.ensures.text
    ∙ rest c.deref-place-items.result.now c.loop-place.place-index c.loop-place-test.false
    c.loop-place.after.items c.loop-place.left.now c.loop-place.lines.now _
    c.loop-place.invariant.0

pub returns-clause-room : goal.returns-clause-room
returns-clause-room c = omega (arith, c.loop-place.invariant.1, c.add-2.ensures.room)
