-- What opens an expression is read where its word stands, and nowhere else.
use Rattle.std.proofs.Common.{◌≡◌, ◌∙◌, ℕ, ◌++◌, List, Some, None, refl, ap}
use Rattle.pls_fronts.specs.Front.{Front, followed, word_front}
use Rattle.pls_fronts.specs.laws.FrontLaws.{worded_is}
use Rattle.pls_rule_text.specs.declared.openings.Comparison.{Comparison}
use Rattle.pls_rule_text.specs.declared.openings.Comparison.TheVariants.{Equal, Less, AtMost}
use Rattle.pls_rule_text.specs.declared.openings.Junction.{Junction}
use Rattle.pls_rule_text.specs.declared.openings.Junction.TheVariants.{Same, Both, Either}
use Rattle.pls_rule_text.specs.declared.openings.Modifier.{Modifier}
use Rattle.pls_rule_text.specs.declared.openings.Modifier.TheVariants.{Not, All, Any}
use Rattle.pls_rule_text.specs.inner.Openings.{comparison_front, comparison_word, junction_front, junction_word, modifier_front, modifier_word}
use Rattle.pls_rule_text.specs.laws.PartLaws.{first_of}

-- an opening that is found stands in front
opening_is : {X : Type 0} (word_of : X → List ℕ) (item : X) (text : List ℕ) (found : Front X)
    → word_front item (word_of item) text ≡ Some found → text ≡ word_of found.item ++ found.rest
opening_is word_of item text found is =
    let one = worded_is item (word_of item) text found is in
    one.1 ∙ ap (λ x. word_of x ++ found.rest) one.0

pub comparison_is : (text : List ℕ) (found : Front Comparison) → comparison_front text ≡ Some found
    → text ≡ comparison_word found.item ++ found.rest
comparison_is text found is =
    first_of _ _ found (opening_is comparison_word Equal text found)
    (first_of _ _ found (opening_is comparison_word Less text found)
    (opening_is comparison_word AtMost text found)) is

pub junction_is : (text : List ℕ) (found : Front Junction) → junction_front text ≡ Some found
    → text ≡ junction_word found.item ++ found.rest
junction_is text found is =
    first_of _ _ found (opening_is junction_word Same text found)
    (first_of _ _ found (opening_is junction_word Both text found)
    (opening_is junction_word Either text found)) is

pub modifier_is : (text : List ℕ) (found : Front Modifier) → modifier_front text ≡ Some found
    → text ≡ modifier_word found.item ++ found.rest
modifier_is text found is =
    first_of _ _ found (opening_is modifier_word Not text found)
    (first_of _ _ found (opening_is modifier_word All text found)
    (opening_is modifier_word Any text found)) is

-- one in front is read, and is no other
pub comparison_read : (item : Comparison) (rest : List ℕ)
    → comparison_front (comparison_word item ++ rest) ≡ Some (followed item rest)
comparison_read Equal rest = refl
comparison_read Less rest = refl
comparison_read AtMost rest = refl

pub junction_read : (item : Junction) (rest : List ℕ)
    → junction_front (junction_word item ++ rest) ≡ Some (followed item rest)
junction_read Same rest = refl
junction_read Both rest = refl
junction_read Either rest = refl

pub modifier_read : (item : Modifier) (rest : List ℕ)
    → modifier_front (modifier_word item ++ rest) ≡ Some (followed item rest)
modifier_read Not rest = refl
modifier_read All rest = refl
modifier_read Any rest = refl

pub junction_compares : (item : Junction) (rest : List ℕ)
    → comparison_front (junction_word item ++ rest) ≡ None
junction_compares Same rest = refl
junction_compares Both rest = refl
junction_compares Either rest = refl

pub modifier_compares : (item : Modifier) (rest : List ℕ)
    → comparison_front (modifier_word item ++ rest) ≡ None
modifier_compares Not rest = refl
modifier_compares All rest = refl
modifier_compares Any rest = refl

pub modifier_joins : (item : Modifier) (rest : List ℕ)
    → junction_front (modifier_word item ++ rest) ≡ None
modifier_joins Not rest = refl
modifier_joins All rest = refl
modifier_joins Any rest = refl
