use Rattle.std.proofs.Common.{◌*◌, ◌∙◌, ◌≤◌, ◌++◌, length, replicate, sym, arith}
use Rattle.std.proofs.lemmas.List.{length_push, take-append-le, take_all}
use Rattle.pls_bits.specs.Words.{bits_of}
use Rattle.pls_bits.proofs.HexWords.{more_digits, no_digits, spelled_bits}
use Rattle.pls_bits.proofs.Ranges.{length-bits_of, take-bits_of}
use Rattle.pls_bits.proofs.Text.{Spells-length, Spells-lower}
use Rattle.pls_bits.proofs.hex_words.append_hex.Goals as goal

pub loop-k-init : goal.loop-k-init
loop-k-init c =
    let words = c.make_room.new.words.items in record {
      text = no_digits words (64 * length words) (c.args.digits.now ++ replicate 16 48);
      kept = take_all (length words) words (omega arith);
      long = omega arith;
      room = rw c.in_ok-make_room.ensures.items c.in_ok-make_room.ensures.room;
      grows = omega arith;
    }

pub word_at-requires-clause-within : goal.word_at-requires-clause-within
word_at-requires-clause-within c =
    let long = Spells-length c.args.len c.args.digits.now c.requires in
    omega (arith, long, c.loop-k-test.true, c.div_ceil-more.ensures)

pub word_at-requires-clause-lower : goal.word_at-requires-clause-lower
word_at-requires-clause-lower c = Spells-lower c.args.len c.args.digits.now c.requires

pub loop-k-preserved : goal.loop-k-preserved
loop-k-preserved c =
    let words = c.loop-k.words.items in
    let base = length c.make_room.new.words.items in
    let pushed = c.in_ok-push.ensures.items in
    let was = c.loop-k.invariant in record {
      text = rw pushed (more_digits words (c.args.digits.now ++ replicate 16 48) base c.loop-k.k
          c.word_at.result was.long was.text c.word_at.ensures);
      kept = rw pushed (take-append-le base words _ (omega (arith, was.long)) ∙ was.kept);
      long = rw pushed (omega (arith, length_push words c.word_at.result, was.long));
      room = omega (arith, was.room, c.in_ok-push.ensures.capacity);
      grows = omega (arith, was.grows, c.in_ok-push.ensures.capacity);
    }

pub returns-clause-put : goal.returns-clause-put
returns-clause-put c = λ bits long written.
    let base = length c.args.words.now.items in
    let all : c.args.len ≤ 64 * c.loop-k.k =
    omega (arith, c.loop-k-test.false, c.div_ceil-more.ensures) in
    let words = c.loop-k.words.items in
    let text = rw c.in_ok-make_room.ensures.items at c.loop-k.invariant.text in
    sym (take-bits_of words (64 * base) c.args.len (64 * c.loop-k.k) all)
    ∙ spelled_bits (bits_of words (64 * base) (64 * c.loop-k.k)) c.args.len c.loop-k.k
    c.args.digits.now (replicate 16 48) bits
    (length-bits_of words (64 * base) (64 * c.loop-k.k)) all text long written
