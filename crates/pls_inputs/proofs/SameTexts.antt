-- Formats with the same texts have the same first faults.
use Rattle.std.proofs.Common.{ℕ, ◌+◌, List, ◌++◌}
use Rattle.pls_streams.specs.declared.text_error.TextError.{TextError}
use Rattle.pls_lines.specs.Fault.{Begins, FirstFault, NamesFirstFault}

same_begins : (format other : List (List ℕ) → Type 0) (text : List ℕ) (count : ℕ)
    → ((lines : List (List ℕ)) → format lines → other lines) → Begins format text count
    → Begins other text count
same_begins format other text count onto begins = record {
  front = begins.front;
  more = begins.more;
  after = begins.after;
  is = onto (begins.front ++ begins.more) begins.is;
  many = begins.many;
  stands = begins.stands;
}

pub same_fault : (format other : List (List ℕ) → Type 0) (text : List ℕ) (error : TextError)
    → ((lines : List (List ℕ)) → format lines → other lines)
    → ((lines : List (List ℕ)) → other lines → format lines)
    → NamesFirstFault format text error → NamesFirstFault other text error
same_fault format other text error onto back names =
    let count = names.2.0 in
    let fault : FirstFault format text count = names.2.2 in (
      names.0,
      names.1,
      (
        count,
        names.2.1,
        record {
          good = same_begins format other text count onto fault.good;
          bad = λ begins. fault.bad (same_begins other format text (count + 1) back begins);
          none = λ lines is stands. fault.none lines (back lines is) stands;
        },
      ),
    )
