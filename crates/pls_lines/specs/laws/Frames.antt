-- Parts with a heading, a body and the line `end`: what is due in each place, and their faults.
use Rattle.std.proofs.Common.{◌≡◌, ℕ, ◌+◌, ◌⊎◌, List, [], ◌∷◌, ◌++◌, length, codes, refl, sym, ◌∙◌, ap, subst, inl, inr, append_assoc, append-nil, length-append, arith}
use Rattle.pls_lines.specs.Plain.{LacksItem, ArePlain}
use Rattle.pls_lines.specs.Lines.{Left, Passes, Stands, IsFault}
use Rattle.pls_lines.specs.Frame.{part_lines, IsFramed}
use Rattle.pls_lines.specs.Part.{IsPart}
use Rattle.pls_lines.specs.laws.Cuts.{each-append, same_first, one_begins}
use Rattle.pls_lines.specs.laws.Parts.{faulty}

-- each body has plain lines, none of which is `end`
pub record IsBody (Body : List (List ℕ) → Type 0) : Type 0 where
  pub plain : (lines : List (List ℕ)) → Body lines → ArePlain lines
  pub open_ended : (lines : List (List ℕ)) → Body lines → LacksItem (codes "end") lines

pub end_plain : LacksItem 10 (codes "end")
end_plain = (omega arith, (omega arith, (omega arith, tt)))

-- each heading is a plain line
abbrev pub IsPlainHeading : (List ℕ → Type 0) → Type 0
IsPlainHeading Heading = (line : List ℕ) → Heading line → LacksItem 10 line

pub framed_part : (Heading : List ℕ → Type 0) (Body : List (List ℕ) → Type 0)
    → IsPlainHeading Heading → IsBody Body → IsPart (IsFramed Heading Body)
framed_part Heading Body plain body = record {
  plain = λ lines is.
      subst ArePlain (sym is.is) (
        plain is.heading is.headed,
        each-append (LacksItem 10) is.body (codes "end" ∷ []) (body.plain is.body is.fits)
            (end_plain, tt),
      );
  own = λ a b x y p q e.
      let whole : (p.heading ∷ p.body ++ codes "end" ∷ []) ++ x
      ≡ (q.heading ∷ q.body ++ codes "end" ∷ []) ++ y =
      ap (λ lines. lines ++ x) (sym p.is) ∙ e ∙ ap (λ lines. lines ++ y) q.is in
      let headings : p.heading ≡ q.heading = cc in
      let bodies : (p.body ++ codes "end" ∷ []) ++ x ≡ (q.body ++ codes "end" ∷ []) ++ y = cc in
      let cut = same_first (codes "end") p.body q.body x y
      (body.open_ended p.body p.fits) (body.open_ended q.body q.fits)
      (sym (append_assoc p.body (codes "end" ∷ []) x) ∙ bodies
      ∙ append_assoc q.body (codes "end" ∷ []) y) in
      p.is ∙ ap (λ lines. part_lines p.heading lines) cut.0
      ∙ ap (λ heading. part_lines heading q.body) headings ∙ sym q.is;
}

-- the line that comes next in a part, after these lines of its body: `end`, or one more of the body
abbrev pub Next : (List (List ℕ) → Type 0) → List (List ℕ) → List ℕ → Type 0
Next Body front line =
    (Body front × (line ≡ codes "end")) ⊎ ((more : List (List ℕ)) × Body (front ++ line ∷ more))

-- the two ways in which lines of a body and a line behind them begin a body and its `end`
behind_end : (Body : List (List ℕ)
    → Type 0) (front : List (List ℕ)) (line : List ℕ) (others body more : List (List ℕ))
    → Body body → front ≡ body ++ more → codes "end" ∷ [] ≡ more ++ line ∷ others
    → Next Body front line
behind_end Body front line others body [] fits longer rest =
    let last : line ≡ codes "end" = cc in
    inl (subst Body (sym (append-nil body) ∙ sym longer) fits, last)
behind_end Body front line others body (first ∷ more) fits longer rest =
    let none : [] ≡ more ++ line ∷ others = cc in
    let long : 0 ≡ length more + length (line ∷ others) =
    ap length none ∙ length-append more (line ∷ others) in
    absurd (omega arith)

before_end : (Body : List (List ℕ)
    → Type 0) (front : List (List ℕ)) (line : List ℕ) (others body more : List (List ℕ))
    → Body body → body ≡ front ++ more → line ∷ others ≡ more ++ codes "end" ∷ []
    → Next Body front line
before_end Body front line others body [] fits longer rest =
    let last : line ≡ codes "end" = cc in
    inl (subst Body (longer ∙ append-nil front) fits, last)
before_end Body front line others body (first ∷ more) fits longer rest =
    let same : first ≡ line = cc in
    inr (more, subst Body (longer ∙ ap (λ next. front ++ next ∷ more) same) fits)

-- after some lines of the body of a part comes `end`, or one line more of the body
pub framed_next : (Heading : List ℕ → Type 0) (Body : List (List ℕ) → Type 0)
    (heading : List ℕ) (front : List (List ℕ)) (line : List ℕ) (others : List (List ℕ))
    → IsFramed Heading Body (heading ∷ front ++ line ∷ others) → Next Body front line
framed_next Heading Body heading front line others is =
    let whole : is.heading ∷ (is.body ++ codes "end" ∷ []) ≡ heading ∷ (front ++ line ∷ others) =
    sym is.is in
    let bodies : is.body ++ codes "end" ∷ [] ≡ front ++ line ∷ others = cc in
    elim (one_begins is.body front (codes "end" ∷ []) (line ∷ others) bodies) [
      | inl w ↦ behind_end Body front line others is.body w.more is.fits w.longer w.rest
      | inr w ↦ before_end Body front line others is.body w.more is.fits w.longer w.rest
    ]

-- some lines of the body of a part, and what may follow them
due_in_body : (Heading : List ℕ → Type 0) (Body : List (List ℕ) → Type 0)
    (heading : List ℕ) (front more : List (List ℕ)) → Heading heading → Body (front ++ more)
    → IsFramed Heading Body (heading ∷ front ++ (more ++ codes "end" ∷ []))
due_in_body Heading Body heading front more headed fits = record {
  heading = heading;
  body = front ++ more;
  headed = headed;
  fits = fits;
  is = ap (λ lines. heading ∷ lines) (sym (append_assoc front more (codes "end" ∷ [])));
}

-- a heading is due, and another line stands next
pub fault_in_heading : (Heading : List ℕ → Type 0) (Body : List (List ℕ) → Type 0)
    (heading : List ℕ) (some : List (List ℕ)) (old : Left)
    → IsPlainHeading Heading → IsBody Body → Heading heading → Body some
    → (Stands Heading old.rest → ⊥) → IsFault (IsFramed Heading Body) old old.number
fault_in_heading Heading Body heading some old plain body headed fits absent = (
  0,
  omega arith,
  faulty (IsFramed Heading Body) Heading [] heading (some ++ codes "end" ∷ []) old.rest old.rest
      (framed_part Heading Body plain body)
      (due_in_body Heading Body heading [] some headed fits) refl absent
      (λ line others is.
      let e = is.is in
      let same : is.heading ≡ line = cc in
      subst Heading same is.headed),
)

-- a line of the body or `end` is due, and another line stands next
pub fault_in_body : (Heading : List ℕ → Type 0) (Body : List (List ℕ) → Type 0)
    (Due : List ℕ → Type 0) (heading : List ℕ) (front more : List (List ℕ)) (old now : Left)
    → IsPlainHeading Heading → IsBody Body → Heading heading → Passes old now (heading ∷ front)
    → Body (front ++ more) → (Stands Due now.rest → ⊥)
    → ((line : List ℕ) → Next Body front line → Due line)
    → IsFault (IsFramed Heading Body) old now.number
fault_in_body Heading Body Due heading front [] old now plain body headed passes fits absent due = (
  length (heading ∷ front),
  passes.number,
  faulty (IsFramed Heading Body) Due (heading ∷ front) (codes "end") [] old.rest now.rest
      (framed_part Heading Body plain body)
      (due_in_body Heading Body heading front [] headed fits) passes.stands absent
      (λ line others is. due line (framed_next Heading Body heading front line others is)),
)
fault_in_body Heading Body Due heading front (next ∷ more) old now plain body headed passes fits
    absent due = (
      length (heading ∷ front),
      passes.number,
      faulty (IsFramed Heading Body) Due (heading ∷ front) next (more ++ codes "end" ∷ []) old.rest
          now.rest (framed_part Heading Body plain body)
          (due_in_body Heading Body heading front (next ∷ more) headed fits) passes.stands absent
          (λ line others is. due line (framed_next Heading Body heading front line others is)),
    )
