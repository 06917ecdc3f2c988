-- Pieces of a text, written one after another.
use Rattle.std.proofs.Common.{◌≡◌, ◌∙◌, ℕ, ◌+◌, ◌-◌, ◌≤◌, List, [], ◌++◌, length, take, Option, Some, None, Result, Ok, Err, OnOk, OnErr, MatchResult, ap, refl, sym, subst, arith, append-nil, append_assoc, length-append}
use Rattle.std.specs.Io.KnownBytes.{Appends}
use Rattle.std.specs.Result.{IsErr}
use Rattle.std.proofs.KnownBytes.{Appends-trans}
use Rattle.std.proofs.Math.Seq.{take-append-add}
use Rattle.std.proofs.lemmas.List.{take-append-le}
use Rattle.pls_streams.specs.Streams.{AppendsPart, Rose, StaysSure}
use Rattle.pls_streams.specs.Gathered.{Writes, Wrote, WroteFront}

appends_nothing : (old : Option (List ℕ)) → Appends old old []
appends_nothing None = tt
appends_nothing (Some xs) = sym (append-nil xs)

-- nothing is written at first
pub wrote_nothing : {p : List ℕ} {a : Option (List ℕ)} {f : ℕ} {S : ℕ → Type 0}
    → Wrote p p a a f f S S []
wrote_nothing {p} {a} {f} {S} = record {
  taken = [];
  is = append-nil p;
  all = appends_nothing a;
  never_falls = omega arith;
  sure = λ most is fits.
      let left : most ≡ most - 0 = omega arith in
      record { unfailing = refl; sure = subst S left is };
}

-- what waits behind two pieces
behind : (p q r taken more xs ys : List ℕ) → p ++ xs ≡ taken ++ q → q ++ ys ≡ more ++ r
    → p ++ (xs ++ ys) ≡ (taken ++ more) ++ r
behind p q r taken more xs ys one two =
    sym (append_assoc p xs ys) ∙ ap (λ (front : List ℕ). front ++ ys) one
    ∙ append_assoc taken q ys ∙ ap (λ (rest : List ℕ). taken ++ rest) two
    ∙ sym (append_assoc taken more r)

-- two pieces
pub wrote_both : {p q r : List ℕ} {a b c : Option (List ℕ)} {f g h : ℕ} {S T U : ℕ → Type 0}
    (xs ys : List ℕ) → Wrote p q a b f g S T xs → Wrote q r b c g h T U ys
    → Wrote p r a c f h S U (xs ++ ys)
wrote_both {p} {q} {r} {a} {b} {c} {f} {g} {h} {S} {T} {U} xs ys one two =
    let is = behind p q r one.taken two.taken xs ys one.is two.is in
    let long = ap (length {A = ℕ}) one.is in record {
      taken = one.taken ++ two.taken;
      is = is;
      all = Appends-trans a b c one.taken two.taken one.all two.all;
      never_falls = omega (arith, one.never_falls, two.never_falls);
      sure = λ most is fits.
          let l1 = length-append p xs in
          let l2 = length-append q ys in
          let l3 = length-append one.taken q in
          let l4 = length-append xs ys in
          let l5 = length-append p (xs ++ ys) in
          let first = one.sure most is (omega (arith, fits, l1, l4, l5)) in
          let second = two.sure (most - length one.taken) first.sure
          (omega (arith, fits, long, l1, l2, l3, l4, l5)) in
          let left : most - length one.taken - length two.taken
          ≡ most - length (one.taken ++ two.taken) =
          omega (arith, length-append one.taken two.taken) in record {
            unfailing = second.unfailing ∙ first.unfailing;
            sure = subst U left second.sure;
          };
    }

-- the second fails
pub front_later : {p q : List ℕ} {a b c : Option (List ℕ)} {f g h : ℕ} {S T : ℕ → Type 0}
    (xs ys : List ℕ) → Wrote p q a b f g S T xs → WroteFront q b c g h T ys
    → WroteFront p a c f h S (xs ++ ys)
front_later {p} {q} {a} {b} {c} {f} {g} {h} {S} {T} xs ys one two =
    let more : List ℕ = q ++ ys in
    let is : p ++ (xs ++ ys) ≡ one.taken ++ more =
    sym (append_assoc p xs ys) ∙ ap (λ (front : List ℕ). front ++ ys) one.is
    ∙ append_assoc one.taken q ys in
    let long = ap (length {A = ℕ}) one.is in
    let all = ap (length {A = ℕ}) is in
    let l1 = length-append p xs in
    let l2 = length-append one.taken more in
    let l3 = length-append xs ys in
    let l4 = length-append p (xs ++ ys) in record {
      part = (
        length one.taken + two.part.0,
        omega (arith, two.part.1, all, l2),
        subst (Appends a c)
            (sym (ap (take (length one.taken + two.part.0)) is
            ∙ take-append-add one.taken more two.part.0))
            (Appends-trans a b c one.taken (take two.part.0 more) one.all two.part.2),
      );
      rose = omega (arith, one.never_falls, two.rose);
      never_falls = omega (arith, one.never_falls, two.never_falls);
      never_sure = λ most is fits.
          let first = one.sure most is (omega (arith, fits, l1, l3, l4)) in
          two.never_sure (most - length one.taken) first.sure
          (omega (arith, fits, all, l2));
    }

-- the first fails
pub front_first : {p : List ℕ} {a b : Option (List ℕ)} {f g : ℕ} {S : ℕ → Type 0} (xs ys : List ℕ)
    → WroteFront p a b f g S xs → WroteFront p a b f g S (xs ++ ys)
front_first {p} {a} {b} {f} {g} {S} xs ys one =
    let is : (p ++ xs) ++ ys ≡ p ++ (xs ++ ys) = append_assoc p xs ys in
    let all = ap (length {A = ℕ}) is in record {
      part = (
        one.part.0,
        omega (arith, one.part.1, all, length-append (p ++ xs) ys),
        subst (Appends a b)
            (sym (ap (take one.part.0) (sym is)
            ∙ take-append-le one.part.0 (p ++ xs) ys (omega (arith, one.part.1)))) one.part.2,
      );
      rose = one.rose;
      never_falls = one.never_falls;
      never_sure = λ most is fits.
          one.never_sure most is (omega (arith, fits, all, length-append (p ++ xs) ys));
    }

-- as a result says
pub both : {p q : List ℕ} {a b : Option (List ℕ)} {f g : ℕ} {S T : ℕ → Type 0} {R E : Type 0}
    (r : List ℕ) (c : Option (List ℕ)) (h : ℕ) (U : ℕ → Type 0) (result : Result R E)
    (xs ys : List ℕ) → Wrote p q a b f g S T xs → Writes q r b c g h T U result ys
    → Writes p r a c f h S U result (xs ++ ys)
both r c h U (Ok value) xs ys one two = wrote_both xs ys one two
both r c h U (Err error) xs ys one two = front_later xs ys one two

pub failed : {p : List ℕ} {a c : Option (List ℕ)} {f h : ℕ} {S : ℕ → Type 0} {R E : Type 0}
    (r : List ℕ) (U : ℕ → Type 0) (result : Result R E) (xs : List ℕ) → IsErr result
    → WroteFront p a c f h S xs → Writes p r a c f h S U result xs
failed r U (Ok value) xs is front = absurd (cc)
failed r U (Err error) xs is front = front

-- a piece that was written by itself, while nothing waited
pub alone : {R E : Type 0} (a b : Option (List ℕ)) (f g : ℕ) (S T : ℕ → Type 0) (p q : List ℕ)
    (result : Result R E) (bytes : List ℕ) → p ≡ [] → q ≡ [] → OnOk result (Appends a b bytes)
    → OnErr result (AppendsPart a b bytes) → OnErr result (Rose f g) → f ≤ g
    → ((most : ℕ) → S most → length bytes ≤ most
    → MatchResult result (λ _. StaysSure T (most - length bytes) f g) (λ _. ⊥))
    → Writes p q a b f g S T result bytes
alone a b f g S T p q (Ok value) bytes none still all part rose stays sure = rw (none, still) record {
  taken = bytes;
  is = sym (append-nil bytes);
  all = all;
  never_falls = stays;
  sure = sure;
}
alone a b f g S T p q (Err error) bytes none still all part rose stays sure = rw none record {
  part = part;
  rose = rose;
  never_falls = stays;
  never_sure = sure;
}

-- a text was written in part where the last of it was not
pub part_of : {q : List ℕ} {a b : Option (List ℕ)} {f g : ℕ} {S T : ℕ → Type 0} {R E : Type 0}
    (r : List ℕ) (c : Option (List ℕ)) (h : ℕ) (U : ℕ → Type 0) (result : Result R E)
    (text : List ℕ) → Wrote [] q a b f g S T text → Writes q r b c g h T U result []
    → OnErr result (AppendsPart a c text)
part_of r c h U (Ok value) text one two = tt
part_of {q} {a} {b} {f} {g} {S} {T} r c h U (Err error) text one two =
    subst (AppendsPart a c) (append-nil text) (front_later text [] one two).part
