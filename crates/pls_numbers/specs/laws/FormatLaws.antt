-- Labels that are lists of numbers: what bits say is what they spell, and in one spelling.
use Rattle.std.proofs.Common.{◌≡◌, ◌∙◌, ◌↔◌, ℕ, Bool, true, false, if◌then◌else◌, List, Option, Some, None, IfSome, IfNone, IfOk, Result, Ok, Err, refl, sym, ap}
use Rattle.pls_bits.specs.NumberCode.{TakesCodes, TakesOnly}
use Rattle.pls_numbers.specs.Numbers.{left_in, whole}
use Rattle.pls_numbers.specs.Shape.{AreItsNumbers, IsSpelled, IsWritable, Shape, if_clean, said_by, spelling}
use Rattle.pls_numbers.specs.laws.LeftLaws.{codes_of_left, left_of_codes}

module _ {L : Type 0} (shape : Shape L) where
  -- a label that can be written has a spelling
  pub has_spelling : (code : ℕ → List Bool) (label : L) → IsWritable shape label
      → (bits : List Bool) × IsSpelled shape code bits label
  has_spelling code label can = (
    spelling shape code label,
    record { codes = record { coded = can.coded; written = refl }; proper = can.proper },
  )

  -- and one only
  pub one_spelling : (code : ℕ → List Bool) (label : L) (a b : List Bool)
      → IsSpelled shape code a label → IsSpelled shape code b label → a ≡ b
  one_spelling code label a b first second = first.codes.written ∙ sym second.codes.written

  -- a label that is spelled can be written, in every code
  pub can_be_written : (code : ℕ → List Bool) (bits : List Bool) (label : L)
      → IsSpelled shape code bits label → IsWritable shape label
  can_be_written code bits label is = record { coded = is.codes.coded; proper = is.proper }

  module _ (law : AreItsNumbers shape) (code : ℕ → List Bool)
      (takes : List Bool → Option (ℕ × List Bool)) (taken : TakesCodes code takes)
      (only : TakesOnly code takes) where
    -- what bits say is what they spell
    pub said_spells : (bits : List Bool) (label : L)
        → (said_by shape takes bits ≡ Some label) ↔ IsSpelled shape code bits label
    said_spells bits label = (
      λ is. said (left_in takes shape.kinds bits).numbers (left_in takes shape.kinds bits).clean
          refl is,
      λ is. ap (said_by shape takes) is.codes.written
          ∙ ap (if_clean shape.of_numbers)
          (left_of_codes code takes taken only shape.kinds (shape.numbers label) is.codes.coded)
          ∙ (law (shape.numbers label) label).1 (refl, is.proper),
    )
      where
        said : (list : List ℕ) (clean : Bool)
            → left_in takes shape.kinds bits ≡ (record { numbers = list; clean = clean })
            → (if clean then shape.of_numbers list else None) ≡ Some label
            → IsSpelled shape code bits label
        said list false left is = absurd (cc)
        said list true left is =
            let its : (list ≡ shape.numbers label) × shape.Proper label = (law list label).0 is in
            record {
              codes = codes_of_left code takes taken only shape.kinds (shape.numbers label) bits
                  (left ∙ ap whole its.0);
              proper = its.1;
            }

    -- a label that a call reads is spelled
    pub read_some : {E : Type 0} (bits : List Bool) (read : Result (Option L) E)
        → IfOk read (λ found. found ≡ said_by shape takes bits)
        → IfOk read (λ found. IfSome found (λ label. IsSpelled shape code bits label))
    read_some bits (Ok (Some label)) is = (said_spells bits label).0 (sym is)
    read_some bits (Ok None) is = tt
    read_some bits (Err error) is = tt

    -- where it reads none, none is
    pub read_none : {E : Type 0} (bits : List Bool) (read : Result (Option L) E)
        → IfOk read (λ found. found ≡ said_by shape takes bits)
        → IfOk read (λ found. IfNone found ((label : L) → IsSpelled shape code bits label → ⊥))
    read_none bits (Ok (Some label)) is = tt
    read_none bits (Ok None) is = λ label spelled.
        let no : None ≡ Some label = is ∙ (said_spells bits label).1 spelled in absurd (cc)
    read_none bits (Err error) is = tt
