-- What a call did that wrote a text by itself, as its clauses say it.
use Rattle.std.proofs.Common.{◌∙◌, ℕ, List, [], Option, Result, Ok, Err, IsOk, OnErr, OnOk, length, append-nil, refl, subst, sym, arith}
use Rattle.std.specs.Io.KnownBytes.{Appends}
use Rattle.pls_streams.specs.Gathered.{Writes}
use Rattle.pls_streams.specs.Streams.{AppendsPart, Rose}

module _ {T E : Type 0} (a b : Option (List ℕ)) (f g : ℕ) (S U : ℕ → Type 0) (text : List ℕ) where
  pub wrote_all : (result : Result T E) → Writes [] [] a b f g S U result text
      → OnOk result (Appends a b text)
  wrote_all (Ok value) wrote =
      subst (Appends a b) (sym (wrote.is ∙ append-nil wrote.taken)) wrote.all
  wrote_all (Err error) front = tt

  pub wrote_part : (result : Result T E) → Writes [] [] a b f g S U result text
      → OnErr result (AppendsPart a b text)
  wrote_part (Ok value) wrote = tt
  wrote_part (Err error) front = front.part

  pub wrote_rose : (result : Result T E) → Writes [] [] a b f g S U result text
      → OnErr result (Rose f g)
  wrote_rose (Ok value) wrote = tt
  wrote_rose (Err error) front = front.rose

  pub wrote_sure : (result : Result T E) → Writes [] [] a b f g S U result text
      → S (length text) → IsOk result
  wrote_sure (Ok value) wrote sure = refl
  wrote_sure (Err error) front sure = absurd (front.never_sure (length text) sure (omega arith))
