use Rattle.std.proofs.Common.{◌≡◌, ◌+◌, ◌*◌, ◌^◌, ◌-◌, ◌/◌, ◌%◌, sym, ◌∙◌, arith}
use Rattle.std.proofs.lemmas.Bool.Decides.{Decides-eqb}
use Rattle.pls_bits.proofs.Ranges.{bits_of-none, same_more, same_part}
use Rattle.pls_bits.proofs.Windows.{same_fronts, same_windows}
use Rattle.pls_bits.proofs.words.same_windows.Goals as goal

pub loop-k-init : goal.loop-k-init
loop-k-init c =
    bits_of-none c.args.one.now c.args.start ∙ sym (bits_of-none c.args.other.now c.args.from)

pub returns-then-window : goal.returns-then-window
returns-then-window c = (
  λ no. absurd (cc no),
  λ same. absurd (c.if-window.true
      ((same_windows c.args.one.now c.args.other.now (c.args.start + 64 * c.loop-k.k)
      (c.args.from + 64 * c.loop-k.k) c.window.result c.window-in-loop-k.result c.window.type_inv
      c.window-in-loop-k.type_inv c.window.ensures c.window-in-loop-k.ensures).1
      (same_part c.args.one.now c.args.other.now c.args.start c.args.from (64 * c.loop-k.k) 64
      c.args.count (omega (arith, c.loop-k-test.true)) same))),
)

pub loop-k-preserved : goal.loop-k-preserved
loop-k-preserved c =
    same_more c.args.one.now c.args.other.now c.args.start c.args.from (64 * c.loop-k.k) 64
    (64 * (c.loop-k.k + 1)) (omega arith) c.loop-k.invariant
    ((same_windows c.args.one.now c.args.other.now (c.args.start + 64 * c.loop-k.k)
    (c.args.from + 64 * c.loop-k.k) c.window.result c.window-in-loop-k.result c.window.type_inv
    c.window-in-loop-k.type_inv c.window.ensures c.window-in-loop-k.ensures).0
    c.if-window.false)

pub returns : goal.returns
returns c =
    let whole : 64 * c.loop-k.k ≡ 64 * (c.args.count / 64) = omega (arith, c.loop-k-test.false) in
    let n = 64 * (c.args.count / 64) in
    let rest = c.args.count % 64 in
    let numbers =
    Decides-eqb (c.window-2.result / 2 ^ (64 - rest)) (c.window-3.result / 2 ^ (64 - rest)) in
    let fronts =
    same_fronts c.args.one.now c.args.other.now (c.args.start + n) (c.args.from + n) rest
    c.window-2.result c.window-3.result (omega arith) c.window-2.type_inv c.window-3.type_inv
    c.window-2.ensures c.window-3.ensures in (
      λ yes. same_more c.args.one.now c.args.other.now c.args.start c.args.from n rest c.args.count
          (omega arith) (rw whole at c.loop-k.invariant) (fronts.0 (numbers.0 yes)),
      λ same. numbers.1 (fronts.1
          (same_part c.args.one.now c.args.other.now c.args.start c.args.from n rest c.args.count
          (omega arith) same)),
    )
