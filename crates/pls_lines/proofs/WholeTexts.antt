-- First faults of a whole text, by the numbers of its lines.
use Rattle.std.proofs.Common.{◌≡◌, ℕ, ◌+◌, List, [], ◌++◌, length, sym, ◌∙◌, ap, subst, append-nil, arith}
use Rattle.pls_lines.specs.Text.{text_of}
use Rattle.pls_streams.specs.declared.text_error.TextError.{TextError}
use Rattle.pls_streams.specs.declared.text_error.TextError.TheVariants.{Form}
use Rattle.pls_lines.specs.Lines.{Left, Passes, IsFault, IsFormFault}
use Rattle.pls_lines.specs.Fault.{FirstFault, IsFirstFault, NamesFirstFault, Then}
use Rattle.pls_lines.specs.Part.{IsPart, PassesFormat}
use Rattle.pls_lines.specs.laws.Parts.{first_fault, no_whole, whole_once, left_over, one_fault}
use Rattle.pls_lines.specs.laws.Sequences.{fault_of_first, fault_of_second}

-- the line of this number is the first faulty one of all that is left to a reader
abbrev pub FirstFaultFrom : (List (List ℕ) → Type 0) → Left → ℕ → Type 0
FirstFaultFrom format old k =
    (count : ℕ) × (k ≡ old.number + count) × FirstFault format old.rest count

-- a text is that of the lines that were passed, where nothing is left
pub whole_text : (text : List ℕ) (now : Left) (lines : List (List ℕ))
    → Passes (record { number = 1; rest = text }) now lines → now.rest ≡ [] → text ≡ text_of lines
whole_text text now lines passed none =
    passed.stands ∙ ap (λ rest. text_of lines ++ rest) none ∙ append-nil (text_of lines)

module _ (format : List (List ℕ) → Type 0) where
  -- the fault of the one part that is due
  pub fault_alone : (old : Left) (k : ℕ) → IsPart format → IsFault format old k
      → FirstFaultFrom format old k
  fault_alone old k part fault =
      (fault.0, fault.1, first_fault format old.rest fault.0 part fault.2)

  -- something left over behind the last part
  pub fault_behind : (lines : List (List ℕ)) (old now : Left) → IsPart format → format lines
      → Passes old now lines
      → (now.rest ≡ [] → ⊥) → FirstFaultFrom format old now.number
  fault_behind lines old now part is passes some = (
    length lines,
    passes.number,
    left_over format lines old.rest now.rest part is passes.stands
        some,
  )

  -- a reader before line 1 names the lines as the text numbers them
  pub fault_of_text : (text : List ℕ) (old : Left) (k : ℕ) → old.number ≡ 1 → old.rest ≡ text
      → FirstFaultFrom format old k → IsFirstFault format text k
  fault_of_text text old k first rest fault = (
    fault.0,
    omega (arith, fault.1),
    subst (λ bytes. FirstFault format bytes fault.0) rest
        fault.2,
  )

  -- a fault in the part is the first of the text
  pub fault_in_part : (text : List ℕ) (old : Left) (error : TextError) → IsPart format
      → old.number ≡ 1 → old.rest ≡ text → IsFormFault format old error
      → NamesFirstFault format text error
  fault_in_part text old error part first rest fault = (
    fault.0,
    fault.1,
    fault_of_text text old fault.0 first rest (fault_alone old fault.0 part fault.2),
  )

  -- a line behind the part is the first faulty one of the text
  pub line_behind : (text : List ℕ) (old now : Left) (error : TextError) → IsPart format
      → old.number ≡ 1 → old.rest ≡ text → PassesFormat format old now → (now.rest ≡ [] → ⊥)
      → error ≡ Form now.number → NamesFirstFault format text error
  line_behind text old now error part first rest passes some is = (
    now.number,
    is,
    fault_of_text text old now.number first rest
        (fault_behind passes.lines old now part passes.is passes.passed some),
  )

  -- a text of a part, and what may follow, has no fault in the part
  pub no_fault : (lines : List (List ℕ)) (rest : List ℕ) (old : Left) (k : ℕ) → IsPart format
      → format lines
      → old.rest ≡ text_of lines ++ rest → IsFault format old k → ⊥
  no_fault lines rest old k part is stands fault =
      no_whole format lines old.rest rest fault.0 part fault.2 is stands

  -- one text is of the format by one list of lines
  pub one_text : (a b : List (List ℕ)) → IsPart format → format a → format b → text_of a ≡ text_of b
      → a ≡ b
  one_text a b part is_a is_b e =
      (whole_once format a b [] [] part is_a is_b
      (append-nil (text_of a) ∙ e ∙ sym (append-nil (text_of b)))).0

  -- a text has one first faulty line at most
  pub one_first_fault : (text : List ℕ) (j k : ℕ) → IsFirstFault format text j
      → IsFirstFault format text k → j ≡ k
  one_first_fault text j k p q = omega (arith, p.1, q.1, one_fault format text p.0 q.0 p.2 q.2)

  -- and no other than the one that is named
  pub same_fault : (text : List ℕ) (error : TextError) (line : ℕ)
      → NamesFirstFault format text error → IsFirstFault format text line → error ≡ Form line
  same_fault text error line names fault =
      names.1 ∙ ap Form (one_first_fault text names.0 line names.2 fault)

module _ (first second : List (List ℕ) → Type 0) where
  -- a fault in the first of two parts
  pub fault_in_first : (some : List (List ℕ)) (old : Left) (k : ℕ) → IsPart first → second some
      → IsFault first old k → FirstFaultFrom (Then first second) old k
  fault_in_first some old k part is fault =
      (fault.0, fault.1, fault_of_first first second some old.rest fault.0 part is fault.2)

  -- a fault behind a whole first part
  pub fault_in_second : (lines : List (List ℕ)) (old mid : Left) (k : ℕ) → IsPart first
      → IsPart second
      → first lines → Passes old mid lines → FirstFaultFrom second mid k
      → FirstFaultFrom (Then first second) old k
  fault_in_second lines old mid k one two is passes fault = (
    length lines + fault.0,
    omega (arith, fault.1, passes.number),
    fault_of_second first second lines old.rest mid.rest fault.0 one two is passes.stands fault.2,
  )
