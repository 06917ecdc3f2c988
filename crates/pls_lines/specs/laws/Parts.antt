-- Parts are formats that tell where they end; here is what their faults are.
use Rattle.std.proofs.Common.{◌≡◌, ℕ, ◌+◌, ◌≤◌, List, [], ◌∷◌, ◌++◌, length, take, drop, refl, sym, ◌∙◌, ap, subst, inl, inr, append_assoc, append-nil, length-append, length-take-le, take-append-drop, arith}
use Rattle.std.proofs.lemmas.Bool.{cases_lt, cases_order}
use Rattle.std.proofs.lemmas.List.{append_cancel_left}
use Rattle.pls_lines.specs.Plain.{LacksItem, ArePlain}
use Rattle.pls_lines.specs.Text.{text_of}
use Rattle.pls_lines.specs.Lines.{Stands}
use Rattle.pls_lines.specs.Fault.{Begins, Awaits, FaultAt, FirstFault}
use Rattle.pls_lines.specs.Part.{IsPart}
use Rattle.pls_lines.specs.laws.Cuts.{each_front}
use Rattle.pls_lines.specs.laws.Fronts.{text_of-append, further, one_more}

-- the front of a text of the format has plain lines
plain_front : (format : List (List ℕ) → Type 0) (a b : List (List ℕ)) → IsPart format
    → format (a ++ b) → ArePlain a
plain_front format a b part is = each_front (LacksItem 10) a b (part.plain (a ++ b) is)

-- a further line is due, and the line that stands next is not one that can be
pub faulty : (format : List (List ℕ) → Type 0) (Due : List ℕ → Type 0)
    (front : List (List ℕ)) (next : List ℕ) (more : List (List ℕ)) (text rest : List ℕ)
    → IsPart format → format (front ++ next ∷ more) → text ≡ text_of front ++ rest
    → (Stands Due rest → ⊥)
    → ((line : List ℕ) (others : List (List ℕ)) → format (front ++ line ∷ others) → Due line)
    → FaultAt format text (length front)
faulty format Due front next more text rest part is stands absent due = record {
  good = record {
    front = front;
    next = next;
    more = more;
    after = rest;
    is = is;
    many = refl;
    stands = stands;
  };
  bad = λ b.
      let w = one_more front b.front rest b.after
      (plain_front format front (next ∷ more) part is)
      (plain_front format b.front b.more part b.is)
      b.many (sym stands ∙ b.stands) in
      let same : b.front ++ b.more ≡ front ++ w.line ∷ b.more =
      ap (λ lines. lines ++ b.more) w.lines ∙ append_assoc front (w.line ∷ []) b.more in
      absent (record {
        line = w.line;
        after = b.after;
        is = due w.line b.more (subst format same b.is);
        plain = w.plain;
        cut = w.rest;
      });
}

-- so many lines at the front of a text begin one of the format, and as many fewer
begins_front : (format : List (List ℕ)
    → Type 0) (front more : List (List ℕ)) (text after : List ℕ) (count : ℕ)
    → format (front ++ more) → text ≡ text_of front ++ after → count ≤ length front
    → Begins format text count
begins_front format front more text after count is stands l = record {
  front = take count front;
  more = drop count front ++ more;
  after = text_of (drop count front) ++ after;
  is = subst format (ap (λ whole. whole ++ more) (sym (take-append-drop count front))
      ∙ append_assoc (take count front) (drop count front) more) is;
  many = length-take-le count front l;
  stands = stands
      ∙ ap (λ whole. text_of whole ++ after) (sym (take-append-drop count front))
      ∙ ap (λ whole. whole ++ after) (text_of-append (take count front) (drop count front))
      ∙ append_assoc (text_of (take count front)) (text_of (drop count front)) after;
}

-- so many lines at most of a whole text of the format begin one
begins_within : (format : List (List ℕ)
    → Type 0) (lines : List (List ℕ)) (text rest : List ℕ) (count : ℕ)
    → format lines → text ≡ text_of lines ++ rest → count ≤ length lines → Begins format text count
begins_within format lines text rest count is stands l =
    begins_front format lines [] text rest count (subst format (sym (append-nil lines)) is) stands l

-- a text that awaits one line more has no whole text of the part in the lines so far
longer_than_front : (format : List (List ℕ)
    → Type 0) (lines : List (List ℕ)) (text rest : List ℕ) (count : ℕ)
    → IsPart format → Awaits format text count → format lines → text ≡ text_of lines ++ rest
    → length lines ≤ count → ⊥
longer_than_front format lines text rest count part good is stands l =
    let whole = good.front ++ good.next ∷ good.more in
    let l2 : length lines ≤ length good.front = omega (arith, good.many) in
    let w = further lines good.front rest good.after (part.plain lines is)
    (plain_front format good.front (good.next ∷ good.more) part good.is) l2
    (sym stands ∙ good.stands) in
    let same : lines ++ (w.more ++ good.next ∷ good.more) ≡ whole ++ [] =
    sym (append_assoc lines w.more (good.next ∷ good.more))
    ∙ ap (λ front. front ++ good.next ∷ good.more) (sym w.lines) ∙ sym (append-nil whole) in
    let e : lines ≡ whole =
    part.own lines whole (w.more ++ good.next ∷ good.more) [] is good.is same in
    let sum : length lines ≡ length good.front + length (good.next ∷ good.more) =
    ap length e ∙ length-append good.front (good.next ∷ good.more) in
    omega arith

-- no whole text of the part stands at the front of a text with a fault in it
pub no_whole : (format : List (List ℕ)
    → Type 0) (lines : List (List ℕ)) (text rest : List ℕ) (count : ℕ)
    → IsPart format → FaultAt format text count → format lines → text ≡ text_of lines ++ rest → ⊥
no_whole format lines text rest count part fault is stands =
    elim (cases_lt count (length lines)) [
      | inl l ↦ fault.bad (begins_within format lines text rest (count + 1) is stands (omega arith))
      | inr l ↦ longer_than_front format lines text rest count part fault.good is stands l
    ]

-- a fault in a part is the first fault of a text that was to be the part alone
pub first_fault : (format : List (List ℕ) → Type 0) (text : List ℕ) (count : ℕ)
    → IsPart format → FaultAt format text count → FirstFault format text count
first_fault format text count part fault = record {
  good = record {
    front = fault.good.front;
    more = fault.good.next ∷ fault.good.more;
    after = fault.good.after;
    is = fault.good.is;
    many = fault.good.many;
    stands = fault.good.stands;
  };
  bad = fault.bad;
  none = λ lines is e. no_whole format lines text [] count part fault is
      (e ∙ sym (append-nil (text_of lines)));
}

-- of two texts of a part at the front of one text, the one that is not longer is the other
not_longer : (format : List (List ℕ) → Type 0) (a b : List (List ℕ)) (x y : List ℕ)
    → IsPart format → format a → format b → length a ≤ length b
    → text_of a ++ x ≡ text_of b ++ y → a ≡ b
not_longer format a b x y part is_a is_b l e =
    let w = further a b x y (part.plain a is_a) (part.plain b is_b) l e in
    part.own a b w.more [] is_a is_b (sym w.lines ∙ sym (append-nil b))

same_whole : (format : List (List ℕ) → Type 0) (a b : List (List ℕ)) (x y : List ℕ)
    → IsPart format → format a → format b → text_of a ++ x ≡ text_of b ++ y → a ≡ b
same_whole format a b x y part is_a is_b e =
    elim (cases_lt (length a) (length b)) [
      | inl l ↦ not_longer format a b x y part is_a is_b (omega arith) e
      | inr l ↦ sym (not_longer format b a y x part is_b is_a l (sym e))
    ]

-- a text has one text of a part at its front at most
pub whole_once : (format : List (List ℕ) → Type 0) (a b : List (List ℕ)) (x y : List ℕ)
    → IsPart format → format a → format b → text_of a ++ x ≡ text_of b ++ y
    → (a ≡ b) × (x ≡ y)
whole_once format a b x y part is_a is_b e =
    let same = same_whole format a b x y part is_a is_b e in
    let moved : text_of b ++ x ≡ text_of b ++ y = ap (λ lines. text_of lines ++ x) (sym same) ∙ e in
    (same, append_cancel_left (text_of b) x y moved)

-- behind a whole part no line more is of it
nothing_more : (format : List (List ℕ) → Type 0) (lines : List (List ℕ)) (text rest : List ℕ)
    → IsPart format → format lines → text ≡ text_of lines ++ rest
    → Begins format text (length lines + 1) → ⊥
nothing_more format lines text rest part is stands b =
    let whole = b.front ++ b.more in
    let w = further lines b.front rest b.after (part.plain lines is)
    (plain_front format b.front b.more part b.is) (omega (arith, b.many)) (sym stands ∙ b.stands) in
    let same : lines ++ (w.more ++ b.more) ≡ whole ++ [] =
    sym (append_assoc lines w.more b.more)
    ∙ ap (λ front. front ++ b.more) (sym w.lines) ∙ sym (append-nil whole) in
    let e : lines ≡ whole = part.own lines whole (w.more ++ b.more) [] is b.is same in
    let sum : length lines ≡ length b.front + length b.more =
    ap length e ∙ length-append b.front b.more in
    omega (arith, b.many)

-- a whole part and then something left over
pub left_over : (format : List (List ℕ) → Type 0) (lines : List (List ℕ)) (text rest : List ℕ)
    → IsPart format → format lines → text ≡ text_of lines ++ rest → (rest ≡ [] → ⊥)
    → FirstFault format text (length lines)
left_over format lines text rest part is stands some = record {
  good = begins_within format lines text rest (length lines) is stands (omega arith);
  bad = nothing_more format lines text rest part is stands;
  none = λ others other e.
      let end : text_of others ++ [] ≡ text_of lines ++ rest =
      append-nil (text_of others) ∙ sym e ∙ stands in
      some (sym (whole_once format others lines [] rest part other is end).1);
}

-- fewer lines of a text begin one too
fewer_begin : (format : List (List ℕ) → Type 0) (text : List ℕ) (count few : ℕ)
    → Begins format text count → few ≤ count → Begins format text few
fewer_begin format text count few b l =
    begins_front format b.front b.more text b.after few b.is b.stands (omega (arith, b.many))

-- a text has one first fault at most
pub one_fault : (format : List (List ℕ) → Type 0) (text : List ℕ) (a b : ℕ)
    → FirstFault format text a → FirstFault format text b → a ≡ b
one_fault format text a b p q =
    elim (cases_order a b) [
      | inl e ↦ e
      | inr w ↦ elim w [
        | inl l ↦ absurd (p.bad (fewer_begin format text b (a + 1) q.good (omega arith)))
        | inr l ↦ absurd (q.bad (fewer_begin format text a (b + 1) p.good (omega arith)))
      ]
    ]
