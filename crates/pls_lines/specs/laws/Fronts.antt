-- Lines at the front of a text.
use Rattle.std.proofs.Common.{◌≡◌, ℕ, ◌+◌, ◌≤◌, List, [], ◌∷◌, ◌++◌, length, refl, sym, ◌∙◌, ap, append_assoc, arith}
use Rattle.pls_lines.specs.Plain.{LacksItem, ArePlain}
use Rattle.pls_lines.specs.Text.{text_of}
use Rattle.pls_lines.specs.laws.Cuts.{same_first}

pub text_of-append : (a b : List (List ℕ)) → text_of (a ++ b) ≡ text_of a ++ text_of b
text_of-append [] b = refl
text_of-append (line ∷ a) b =
    ap (λ rest. line ++ 10 ∷ rest) (text_of-append a b)
    ∙ sym (append_assoc line (10 ∷ text_of a) (text_of b))

-- the first line of a text, and what stands behind it
pub first_line : (line : List ℕ) (lines : List (List ℕ)) (rest : List ℕ)
    → text_of (line ∷ lines) ++ rest ≡ line ++ 10 ∷ (text_of lines ++ rest)
first_line line lines rest = append_assoc line (10 ∷ text_of lines) rest

-- two texts with their first lines, both plain, are one: so are the lines and what follows
pub same_line : (c d : List ℕ) (a b : List (List ℕ)) (x y : List ℕ) → LacksItem 10 c → LacksItem 10 d
    → text_of (c ∷ a) ++ x ≡ text_of (d ∷ b) ++ y
    → (c ≡ d) × (text_of a ++ x ≡ text_of b ++ y)
same_line c d a b x y p q e =
    same_first 10 c d (text_of a ++ x) (text_of b ++ y) p q
    (sym (first_line c a x) ∙ e ∙ first_line d b y)

-- lines that go on after those of a shorter front of the same text
pub record Further (a b : List (List ℕ)) (x y : List ℕ) : Type 0 where
  pub more : List (List ℕ)
  pub lines : b ≡ a ++ more
  pub rest : x ≡ text_of more ++ y

-- of two fronts of one text in plain lines, the shorter begins the longer
pub further : (a b : List (List ℕ)) (x y : List ℕ) → ArePlain a → ArePlain b
    → length a ≤ length b → text_of a ++ x ≡ text_of b ++ y → Further a b x y
further [] b x y p q l e = record { more = b; lines = refl; rest = e }
further (c ∷ a) [] x y p q l e = absurd (omega arith)
further (c ∷ a) (d ∷ b) x y p q l e =
    let cut = same_line c d a b x y p.0 q.0 e in
    let w = further a b x y p.1 q.1 (omega arith) cut.1 in
    let line = cut.0 in
    let others = w.lines in
    record { more = w.more; lines = cc; rest = w.rest }

-- one line more than those of a front of the same text
pub record OneMore (a b : List (List ℕ)) (x y : List ℕ) : Type 0 where
  pub line : List ℕ
  pub plain : LacksItem 10 line
  pub lines : b ≡ a ++ line ∷ []
  pub rest : x ≡ line ++ 10 ∷ y

pub one_more : (a b : List (List ℕ)) (x y : List ℕ) → ArePlain a → ArePlain b
    → length b ≡ length a + 1 → text_of a ++ x ≡ text_of b ++ y → OneMore a b x y
one_more [] [] x y p q l e = absurd (omega arith)
one_more [] (line ∷ []) x y p q l e =
    record { line = line; plain = q.0; lines = refl; rest = e ∙ first_line line [] y }
one_more [] (line ∷ next ∷ b) x y p q l e = absurd (omega arith)
one_more (c ∷ a) [] x y p q l e = absurd (omega arith)
one_more (c ∷ a) (d ∷ b) x y p q l e =
    let cut = same_line c d a b x y p.0 q.0 e in
    let w = one_more a b x y p.1 q.1 (omega arith) cut.1 in
    let line = cut.0 in
    let others = w.lines in
    record { line = w.line; plain = w.plain; lines = cc; rest = w.rest }
