use Rattle.std.proofs.Common.{◌≡◌, List, ℕ, length, map, refl, slice_index}
use Rattle.std.specs.List.{range_with_len}
use Rattle.std.proofs.lemmas.List.FromFn.{fill_by_all}
use Rattle.pls_bits.proofs.Lanes.{lanes_bytes}
use Rattle.pls_bits.proofs.hex_bytes.eight_bytes.Goals as goal

-- sixteen digits, one by one
abbrev written : List ℕ → List ℕ
written digits = map (slice_index digits) (range_with_len 0 16)

written_is : (digits : List ℕ) → length digits ≡ 16 → digits ≡ written digits
written_is digits long = fill_by_all (slice_index digits) digits 16 0 long (λ k less. refl)

pub returns-clause-small : goal.returns-clause-small
returns-clause-small c =
    let one_by_one = written_is c.args.digits c.requires.long in
    rw one_by_one (lanes_bytes 8 (written c.args.digits) refl (rw one_by_one at c.requires.lower)).0

pub returns-clause-text : goal.returns-clause-text
returns-clause-text c =
    let one_by_one = written_is c.args.digits c.requires.long in
    rw one_by_one (lanes_bytes 8 (written c.args.digits) refl (rw one_by_one at c.requires.lower)).1
