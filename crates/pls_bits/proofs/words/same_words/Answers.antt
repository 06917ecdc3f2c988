use Rattle.std.proofs.Common.{◌≡◌, ◌+◌, ◌*◌, ◌/◌, ◌%◌, sym, ◌∙◌, arith}
use Rattle.pls_bits.proofs.Ranges.{bits_of-none, same_more, same_part}
use Rattle.pls_bits.proofs.Windows.{same_words_at}
use Rattle.pls_bits.proofs.words.same_words.Goals as goal

pub loop-k-init : goal.loop-k-init
loop-k-init c =
    bits_of-none c.args.one.now (64 * c.args.place)
    ∙ sym (bits_of-none c.args.other.now (64 * c.args.at))

pub returns-then-word : goal.returns-then-word
returns-then-word c = (
  λ no. absurd (cc no),
  λ same. absurd (c.if-word.true
      ((same_words_at c.args.one.now c.args.other.now c.args.place c.args.at c.loop-k.k c.word.result
      c.word-in-loop-k.result c.word.type_inv c.word-in-loop-k.type_inv c.word.ensures
      c.word-in-loop-k.ensures).1
      (same_part c.args.one.now c.args.other.now (64 * c.args.place) (64 * c.args.at)
      (64 * c.loop-k.k) 64 c.args.count (omega (arith, c.loop-k-test.true)) same))),
)

pub loop-k-preserved : goal.loop-k-preserved
loop-k-preserved c =
    same_more c.args.one.now c.args.other.now (64 * c.args.place) (64 * c.args.at)
    (64 * c.loop-k.k) 64 (64 * (c.loop-k.k + 1)) (omega arith) c.loop-k.invariant
    ((same_words_at c.args.one.now c.args.other.now c.args.place c.args.at c.loop-k.k c.word.result
    c.word-in-loop-k.result c.word.type_inv c.word-in-loop-k.type_inv c.word.ensures
    c.word-in-loop-k.ensures).0 c.if-word.false)

pub returns : goal.returns
returns c =
    let n = 64 * (c.args.count / 64) in
    let all : 64 * c.loop-k.k ≡ n = omega (arith, c.loop-k-test.false) in
    let one : 64 * (c.args.place + c.args.count / 64) ≡ 64 * c.args.place + n = omega arith in
    let other : 64 * (c.args.at + c.args.count / 64) ≡ 64 * c.args.at + n = omega arith in
    let rest = rw (one, other) at c.same_windows.ensures in (
      λ yes. same_more c.args.one.now c.args.other.now (64 * c.args.place) (64 * c.args.at) n
          (c.args.count % 64) c.args.count (omega arith) (rw all at c.loop-k.invariant) (rest.0 yes),
      λ same. rest.1 (same_part c.args.one.now c.args.other.now (64 * c.args.place) (64 * c.args.at) n
          (c.args.count % 64) c.args.count (omega arith) same),
    )
