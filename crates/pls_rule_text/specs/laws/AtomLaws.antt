-- Terms without parts are read where their texts stand, and nowhere else.
use Rattle.std.proofs.Common.{◌≡◌, ◌≢◌, ◌∙◌, ℕ, ◌≤◌, ◌++◌, Bool, true, false, List, codes, Option, Some, None, option_map, refl, sym, ap, subst, arith}
use Rattle.std.specs.Str.{bytes_eq}
use Rattle.std.proofs.lemmas.List.{append_assoc}
use Rattle.std.proofs.lemmas.Option.{option_and_then_some, same_Some}
use Rattle.pls_bits.specs.declared.num_code.TheConstants.{MAX_CODED}
use Rattle.pls_fronts.specs.Front.{Front, after, followed, word_front}
use Rattle.pls_fronts.specs.LetterFront.{letters_ahead}
use Rattle.pls_fronts.specs.NumberFront.{digits_ahead, number_front}
use Rattle.pls_fronts.specs.laws.FrontLaws.{after_is, worded_is}
use Rattle.pls_fronts.specs.laws.NumberFrontLaws.{no_number, number_is, number_read}
use Rattle.pls_rules.specs.Formula.{Term, Number, Id, Mark, Num, Degree, Pointed, My, Up, UpWeight, Nb, NbWeight, NbUp, Add, Sum, term_height}
use Rattle.pls_rule_text.specs.FormulaText.{IsName, TermIsWritten, term_text}
use Rattle.pls_rule_text.specs.inner.Atoms.{above_named, atom_front, beside_named, name_front, named_atom}
use Rattle.pls_rule_text.specs.inner.Parts.{front_map}
use Rattle.pls_rule_text.specs.laws.PartLaws.{ReadsOnly, Stands, first_made, first_of, stands_as}
use Rattle.pls_rule_text.specs.laws.NameLaws.{name_is, name_read, no_word, other_word, same_word, up_name, weight_name}

-- the text of a term whose fields stand by their names
abbrev pub words : Term (List ℕ) → List ℕ
words term = term_text (λ name. name) term

-- a term without parts that can be written
abbrev pub IsAtom : Term (List ℕ) → Type 0
IsAtom term = TermIsWritten term × (term_height term ≤ 0)

-- what a name says behind `up.` and `nb.`
above_is : (name : List ℕ) → IsName name
    → IsAtom (above_named name) × (words (above_named name) ≡ codes "up." ++ name)
above_is name is = by (bytes_eq name (codes "weight")) refl
  where
    by : (b : Bool) → bytes_eq name (codes "weight") ≡ b
        → IsAtom (above_named name) × (words (above_named name) ≡ codes "up." ++ name)
    by true same = rw same (
      (tt, omega arith),
      ap (λ (n : List ℕ). codes "up." ++ n) (sym (same_word name (codes "weight") same)),
    )
    by false off = rw off (((is, no_word name (codes "weight") off), omega arith), refl)

beside_is : (name : List ℕ) → IsName name
    → IsAtom (beside_named name) × (words (beside_named name) ≡ codes "nb." ++ name)
beside_is name is = by (bytes_eq name (codes "weight")) (bytes_eq name (codes "up")) refl refl
  where
    by : (b c : Bool) → bytes_eq name (codes "weight") ≡ b → bytes_eq name (codes "up") ≡ c
        → IsAtom (beside_named name) × (words (beside_named name) ≡ codes "nb." ++ name)
    by true c same at = rw same (
      (tt, omega arith),
      ap (λ (n : List ℕ). codes "nb." ++ n) (sym (same_word name (codes "weight") same)),
    )
    by false true off same = rw (off, same) (
      (tt, omega arith),
      ap (λ (n : List ℕ). codes "nb." ++ n) (sym (same_word name (codes "up") same)),
    )
    by false false off other = rw (off, other) (
      ((is, no_word name (codes "weight") off, no_word name (codes "up") other), omega arith),
      refl,
    )

-- a word in front
word_is : (item : Term (List ℕ)) → IsAtom item → (text : List ℕ) (found : Front (Term (List ℕ)))
    → word_front item (words item) text ≡ Some found → Stands words IsAtom text found
word_is item atom text found is =
    let one = worded_is item (words item) text found is in
    stands_as words IsAtom text found item one.0 one.1 atom

-- a word and a name in front
prefixed_is : (of : List ℕ → Term (List ℕ)) (word : List ℕ)
    → ((name : List ℕ) → IsName name → IsAtom (of name) × (words (of name) ≡ word ++ name))
    → (text rest : List ℕ) (found : Front (Term (List ℕ))) → after word text ≡ Some rest
    → option_map (front_map of) (name_front rest) ≡ Some found → Stands words IsAtom text found
prefixed_is of word says text rest found opens is = by (name_front rest) refl is
  where
    by : (front : Option (Front (List ℕ))) → name_front rest ≡ front
        → option_map (front_map of) front ≡ Some found → Stands words IsAtom text found
    by None reads same = absurd (cc)
    by (Some name) reads same =
        let one : front_map of name ≡ found = same_Some (front_map of name) found same in
        let front = name_is rest name reads in
        let said = says name.item front.0 in
        subst (Stands words IsAtom text) one (record {
          written = after_is word text rest opens
              ∙ ap (λ (t : List ℕ). word ++ t) front.1
              ∙ sym (append_assoc word name.item name.rest)
              ∙ ap (λ (t : List ℕ). t ++ name.rest) (sym said.1);
          fits = said.0;
        })

my_is : (name : List ℕ) → IsName name → IsAtom (My name) × (words (My name) ≡ codes "my." ++ name)
my_is name is = ((is, omega arith), refl)

named_atom_is : ReadsOnly words IsAtom named_atom
named_atom_is text found is =
    first_made _ (after (codes "my.") text) _ found
    (λ rest opens here. prefixed_is My (codes "my.") my_is text rest found opens here)
    (first_made _ (after (codes "up.") text) _ found
    (λ rest opens here. prefixed_is above_named (codes "up.") above_is text rest found opens here)
    (λ last. option_and_then_some (λ rest. option_map (front_map beside_named) (name_front rest))
    (after (codes "nb.") text) found last
    (λ rest opens here. prefixed_is beside_named (codes "nb.") beside_is text rest found opens here)))
    is

number_atom_is : ReadsOnly words IsAtom (λ text. option_map (front_map Number) (number_front MAX_CODED text))
number_atom_is text found is = by (number_front MAX_CODED text) refl is
  where
    by : (front : Option (Front ℕ)) → number_front MAX_CODED text ≡ front
        → option_map (front_map Number) front ≡ Some found → Stands words IsAtom text found
    by None reads same = absurd (cc)
    by (Some number) reads same =
        let one : front_map Number number ≡ found = same_Some (front_map Number number) found same in
        let front = number_is MAX_CODED text number reads in
        subst (Stands words IsAtom text) one
        (record { written = front.0; fits = (front.1, omega arith) })

-- a term that is found stands in front
pub atom_is : ReadsOnly words IsAtom atom_front
unfolding atom_front
atom_is text found is =
    first_of _ _ found (number_atom_is text found)
    (first_of _ _ found (word_is Id (tt, omega arith) text found)
    (first_of _ _ found (word_is Mark (tt, omega arith) text found)
    (first_of _ _ found (word_is Num (tt, omega arith) text found)
    (first_of _ _ found (word_is Degree (tt, omega arith) text found)
    (first_of _ _ found (word_is Pointed (tt, omega arith) text found)
    (named_atom_is text found)))))) is

-- a term without parts in front is read, where neither a letter nor a digit follows it
abbrev pub IsRead : Term (List ℕ) → Type 0
IsRead term = (rest : List ℕ) → letters_ahead rest ≡ 0 → digits_ahead rest ≡ 0
    → atom_front (words term ++ rest) ≡ Some (followed term rest)

number_read_as : (number : ℕ) → number ≤ MAX_CODED → IsRead (Number number)
unfolding atom_front
number_read_as number small rest letters digits =
    rw (number_read MAX_CODED number small (omega (arith, small)) rest digits) refl

id_read : IsRead Id
unfolding atom_front
id_read rest letters digits = rw (no_number MAX_CODED (codes "id" ++ rest) refl) refl

mark_read : IsRead Mark
unfolding atom_front
mark_read rest letters digits = rw (no_number MAX_CODED (codes "mark" ++ rest) refl) refl

num_read : IsRead Num
unfolding atom_front
num_read rest letters digits = rw (no_number MAX_CODED (codes "num" ++ rest) refl) refl

degree_read : IsRead Degree
unfolding atom_front
degree_read rest letters digits = rw (no_number MAX_CODED (codes "degree" ++ rest) refl) refl

pointed_read : IsRead Pointed
unfolding atom_front
pointed_read rest letters digits = rw (no_number MAX_CODED (codes "pointed" ++ rest) refl) refl

my_read : (name : List ℕ) → IsName name → IsRead (My name)
unfolding atom_front
my_read name is rest letters digits =
    rw (no_number MAX_CODED (codes "my." ++ (name ++ rest)) refl, name_read name rest is letters) refl

up_read : (name : List ℕ) → IsName name → name ≢ codes "weight" → IsRead (Up name)
unfolding atom_front
up_read name is other rest letters digits =
    rw (
      no_number MAX_CODED (codes "up." ++ (name ++ rest)) refl,
      name_read name rest is letters,
      other_word name (codes "weight") other,
    ) refl

up_weight_read : IsRead UpWeight
unfolding atom_front
up_weight_read rest letters digits =
    rw (
      no_number MAX_CODED (codes "up.weight" ++ rest) refl,
      name_read (codes "weight") rest weight_name letters,
    ) refl

nb_read : (name : List ℕ) → IsName name → name ≢ codes "weight" → name ≢ codes "up"
    → IsRead (Nb name)
unfolding atom_front
nb_read name is no_weight no_up rest letters digits =
    rw (
      no_number MAX_CODED (codes "nb." ++ (name ++ rest)) refl,
      name_read name rest is letters,
      other_word name (codes "weight") no_weight,
      other_word name (codes "up") no_up,
    ) refl

nb_weight_read : IsRead NbWeight
unfolding atom_front
nb_weight_read rest letters digits =
    rw (
      no_number MAX_CODED (codes "nb.weight" ++ rest) refl,
      name_read (codes "weight") rest weight_name letters,
    ) refl

nb_up_read : IsRead NbUp
unfolding atom_front
nb_up_read rest letters digits =
    rw (
      no_number MAX_CODED (codes "nb.up" ++ rest) refl,
      name_read (codes "up") rest up_name letters,
    ) refl

-- each of them
pub atom_read : (term : Term (List ℕ)) → IsAtom term → IsRead term
atom_read (Number number) fits = number_read_as number fits.0
atom_read Id fits = id_read
atom_read Mark fits = mark_read
atom_read Num fits = num_read
atom_read Degree fits = degree_read
atom_read Pointed fits = pointed_read
atom_read (My name) fits = my_read name fits.0
atom_read (Up name) fits = up_read name fits.0.0 fits.0.1
atom_read UpWeight fits = up_weight_read
atom_read (Nb name) fits = nb_read name fits.0.0 fits.0.1 fits.0.2
atom_read NbWeight fits = nb_weight_read
atom_read NbUp fits = nb_up_read
atom_read (Add a b) fits = absurd (omega (arith, fits.1))
atom_read (Sum a b) fits = absurd (omega (arith, fits.1))
