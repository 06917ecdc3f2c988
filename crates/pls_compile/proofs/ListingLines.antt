-- Listings that are written line by line.
use Rattle.std.proofs.Common.{◌≡◌, ◌∙◌, ℕ, ◌+◌, ◌<◌, ◌++◌, List, [], ◌∷◌, length, take, get_or, refl, sym, ap, arith, append_assoc, codes}
use Rattle.std.proofs.lemmas.List.{get_or_default, length-take, take_more, take_all}
use Rattle.pls_lines.specs.Text.{text_of}
use Rattle.pls_compile.specs.declared.instr.Instr.{Instr}
use Rattle.pls_compile.specs.Listing.{instr_line, instr_lines, listing_text}

text_of-append : (a b : List (List ℕ)) → text_of (a ++ b) ≡ text_of a ++ text_of b
text_of-append [] b = refl
text_of-append (line ∷ a) b =
    ap (λ (t : List ℕ). line ++ 10 ∷ t) (text_of-append a b)
    ∙ sym (append_assoc line (10 ∷ text_of a) (text_of b))

instr_lines-more : (place : ℕ) (code : List Instr) (instr : Instr)
    → instr_lines place (code ++ instr ∷ [])
    ≡ instr_lines place code ++ instr_line (place + length code) instr ∷ []
instr_lines-more place [] instr =
    let e : place ≡ place + 0 = omega arith in
    ap (λ (n : ℕ). instr_line n instr ∷ []) e
instr_lines-more place (first ∷ code) instr =
    let e : place + 1 + length code ≡ place + length (first ∷ code) = omega arith in
    ap (λ (lines : List (List ℕ)). instr_line place first ∷ lines)
    (instr_lines-more (place + 1) code instr
    ∙ ap (λ (n : ℕ). instr_lines (place + 1) code ++ instr_line n instr ∷ []) e)

-- the lines of the first instructions
abbrev pub first_lines : List Instr → ℕ → List ℕ
first_lines code place = text_of (codes "code" ∷ instr_lines 0 (take place code))

-- one line more
pub line_more : (code : List Instr) (place : ℕ) (instr : Instr) → place < length code
    → instr ≡ get_or code place instr
    → first_lines code (place + 1)
    ≡ first_lines code place ++ text_of (instr_line place instr ∷ [])
line_more code place instr within is =
    let front : take (place + 1) code ≡ take place code ++ instr ∷ [] =
    take_more code place instr within
    ∙ ap (λ (i : Instr). take place code ++ i ∷ []) (sym is) in
    let long : 0 + length (take place code) ≡ place = omega (arith, length-take place code) in
    ap (λ (c : List Instr). text_of (codes "code" ∷ instr_lines 0 c)) front
    ∙ ap (λ (lines : List (List ℕ)). text_of (codes "code" ∷ lines))
    (instr_lines-more 0 (take place code) instr
    ∙ ap (λ (n : ℕ). instr_lines 0 (take place code) ++ instr_line n instr ∷ []) long)
    ∙ text_of-append (codes "code" ∷ instr_lines 0 (take place code)) (instr_line place instr ∷ [])

-- the end
pub listing_end : (code : List Instr) (place : ℕ) → length code ≡ place
    → first_lines code place ++ text_of (codes "end" ∷ []) ≡ listing_text code
listing_end code place e =
    ap (λ (c : List Instr). text_of (codes "code" ∷ instr_lines 0 c) ++ text_of (codes "end" ∷ []))
    (take_all place code (omega (arith, e)))
    ∙ sym (text_of-append (codes "code" ∷ instr_lines 0 code) (codes "end" ∷ []))

pub more_written : (code : List Instr) (place : ℕ) (none : Instr) (old new : List ℕ)
    → place < length code → old ≡ first_lines code place
    → new ≡ old ++ text_of (instr_line place (get_or code place none) ∷ [])
    → new ≡ first_lines code (place + 1)
more_written code place none old new within so_far more =
    more ∙ ap (λ (t : List ℕ). t ++ text_of (instr_line place (get_or code place none) ∷ [])) so_far
    ∙ sym (line_more code place (get_or code place none) within
    (get_or_default code place none (get_or code place none) within))
