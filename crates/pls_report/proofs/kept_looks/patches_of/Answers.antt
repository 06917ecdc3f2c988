use Rattle.std.proofs.Common.{◌≡◌, ◌∙◌, ◌++◌, ◌∷◌, [], ℕ, List, ap, arith, get_or, length, subst, sym}
use Rattle.std.specs.List.{sum}
use Rattle.std.proofs.lemmas.List.{get_or-set_other, length-set, take_all}
use Rattle.pls_report.specs.inner.Kept.{joined_text, row_line}
use Rattle.pls_report.specs.inner.Patches.{Patch, patch_text}
use Rattle.pls_report.proofs.Keeping.{ArePassed, all_lengths, all_made, none_passed, number_within, passed_as_changed, passed_as_it_is, sum_more, sum_set}
use Rattle.pls_report.proofs.Patching.{a_patch}
use Rattle.pls_report.proofs.kept_looks.patches_of.Goals as goal

pub loop-i-init : goal.loop-i-init
loop-i-init c =
    let copied = c.copy_from_slice.ensures.items in (
      ap (length {A = ℕ}) copied ∙ c.requires.lengths,
      omega arith,
      omega arith,
      λ k past. ap (λ (lengths : List ℕ). get_or lengths k 0) copied,
      λ lines are those.
          subst (λ (patches : List Patch). ArePassed c.args.rows.now lines 0 patches 0
          c.copy_from_slice.new.self.items)
          (sym c.new-patches.ensures)
          (none_passed c.args.rows.now lines c.copy_from_slice.new.self.items),
    )

pub overflow_add-stays : goal.overflow_add-stays
overflow_add-stays c =
    let lengths : List ℕ = c.args.lengths.now in
    omega (
      arith,
      c.requires.short,
      c.loop-i.invariant.2,
      number_within lengths c.loop-i.i 0 (omega (arith, c.loop-i-test.true, c.requires.lengths)),
    )

pub loop-i-preserved-then-not-changed-i : goal.loop-i-preserved-then-not-changed-i
loop-i-preserved-then-not-changed-i c =
    let rows = c.args.rows.now in
    let lengths : List ℕ = c.args.lengths.now in
    let renewed : List ℕ = c.loop-i.renewed.items in
    let i : ℕ = c.loop-i.i in
    let as_many : length renewed ≡ length rows = c.loop-i.invariant.0 in
    let stands : get_or renewed i 0 ≡ get_or lengths i 0 =
    c.loop-i.invariant.3 i (omega arith) in (
      as_many,
      omega (
        arith,
        c.loop-i.invariant.1,
        stands,
        sum_more renewed i 0 (omega (arith, c.loop-i-test.true, as_many)),
      ),
      omega (
        arith,
        c.loop-i.invariant.2,
        sum_more lengths i 0 (omega (arith, c.loop-i-test.true, c.requires.lengths)),
      ),
      λ k past. c.loop-i.invariant.3 k (omega (arith, past)),
      λ lines are those.
          passed_as_it_is rows c.args.changed.now lines are lengths those i c.index-rows-i.result
          c.loop-i-test.true c.index-rows-i.is c.loop-i.patches c.loop-i.stays renewed as_many
          (c.loop-i.invariant.4 lines are those) c.if-not-changed-i.true stands,
    )

pub loop-i-preserved : goal.loop-i-preserved
loop-i-preserved c =
    let rows = c.args.rows.now in
    let lengths : List ℕ = c.args.lengths.now in
    let renewed : List ℕ = c.loop-i.renewed.items in
    let i : ℕ = c.loop-i.i in
    let as_many : length renewed ≡ length rows = c.loop-i.invariant.0 in
    let line : List ℕ = row_line c.index-rows-i.result in
    let made : c.add.new.self ≡ c.loop-i.patches ++ a_patch c.loop-i.stays _ line ∷ [] =
    c.in_ok-length.ensures.added in
    let long : c.in_ok-length.length ≡ length line = c.in_ok-length.ensures.length in (
      length-set renewed i c.in_ok-length.length ∙ as_many,
      omega (
        arith,
        c.in_ok-room.ensures,
        c.in_ok-sum.ensures,
        c.loop-i.invariant.1,
        sum_set renewed i c.in_ok-length.length (omega (arith, c.loop-i-test.true, as_many)),
      ),
      omega arith,
      λ k past.
          get_or-set_other renewed i k c.in_ok-length.length 0
          (λ same. omega (arith, past, same))
          ∙ c.loop-i.invariant.3 k (omega (arith, past)),
      λ lines are those.
          rw (made, long)
          (passed_as_changed rows c.args.changed.now lines are lengths those i
          c.index-rows-i.result c.loop-i-test.true c.index-rows-i.is c.loop-i.patches c.loop-i.stays
          renewed as_many (c.loop-i.invariant.4 lines are those)),
    )

pub returns-clause-patches : goal.returns-clause-patches
returns-clause-patches c lines are those =
    (λ k. patch_text (c.shrink.ensures k) (joined_text lines))
    ∙ all_made c.args.rows.now lines c.loop-i.i c.loop-i.patches c.loop-i.stays c.loop-i.renewed.items
    (c.loop-i.invariant.4 lines are those) c.loop-i-test.false are.as_many

pub returns-clause-renewed : goal.returns-clause-renewed
returns-clause-renewed c lines are those =
    all_lengths c.args.rows.now lines c.loop-i.i c.loop-i.patches c.loop-i.stays
    c.loop-i.renewed.items (c.loop-i.invariant.4 lines are those) c.loop-i-test.false
    c.loop-i.invariant.0

pub returns-clause-room : goal.returns-clause-room
returns-clause-room c =
    c.in_ok-room-2.ensures
    ∙ c.loop-i.invariant.1
    ∙ ap sum (take_all c.loop-i.i c.loop-i.renewed.items
    (omega (arith, c.loop-i-test.false, c.loop-i.invariant.0)))
