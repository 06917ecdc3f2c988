-- What `clap` finds in each shape of words: one or two that do not begin with `-`, and a flag at
-- any place.
use Rattle.std.proofs.Common.{◌≡◌, true, false, List, [], ◌∷◌, Option, Some, None, codes, refl}
use Rattle.clap.specs.Words.{Text, first_of, one_of, matches_of, takes}
use Rattle.clap.proofs.OnLiterals.{clap_on_literals}
use Rattle.pls_words.specs.Words.{is_dashed}
use Rattle.pls_words.specs.inner.Parser.{parser}
use Rattle.pls_words.proofs.Turns.{Goes, coded, json, over_none, over_one, start, at_a, at_a_b, at_a_b_code, at_a_b_code_name, at_a_b_json, at_a_code, at_a_code_name, at_a_code_name_b, at_a_json, at_a_json_b, at_code, at_code_name, at_code_name_a, at_code_name_a_b, at_json, at_json_a, at_json_a_b, turn_a, turn_a_b, turn_a_b_code, turn_a_b_code_name, turn_a_b_json, turn_a_code, turn_a_code_name, turn_a_code_name_b, turn_a_json, turn_a_json_b, turn_code, turn_code_name, turn_code_name_a, turn_code_name_a_b, turn_json, turn_json_a, turn_json_a_b}

-- what `clap` finds in words
pub record Reads (words : List Text) (name : Text) (behind : Option Text) (switch : Text)
    (choice : Option Text) : Type 0 where
  pub command : first_of (codes "command") (matches_of parser words) ≡ Some name
  pub argument : first_of (codes "argument") (matches_of parser words) ≡ behind
  pub json : one_of (codes "json") (matches_of parser words) ≡ Some switch
  pub code : first_of (codes "code") (matches_of parser words) ≡ choice
  pub taken : takes parser words ≡ true

goes_one : (a : Text) → is_dashed a ≡ false
    → Goes start (a ∷ []) (at_a a)
goes_one a first =
    over_one start (at_a a) (at_a a) a _ (turn_a a first)
    (over_none (at_a a))

pub one : (a : Text) → is_dashed a ≡ false
    → Reads (a ∷ []) a None (codes "false") None
unfolding clap_on_literals
one a first =
    let goes = goes_one a first in
    record {
      command = rw goes.walks refl;
      argument = rw goes.walks refl;
      json = rw goes.walks refl;
      code = rw goes.walks refl;
      taken = rw (goes.passes, goes.walks) refl;
    }

goes_json_first : (a : Text) → is_dashed a ≡ false
    → Goes start (json ∷ a ∷ []) (at_json_a a)
goes_json_first a first =
    over_one start at_json (at_json_a a) json _ turn_json
    (over_one at_json (at_json_a a) (at_json_a a) a _ (turn_json_a a first)
    (over_none (at_json_a a)))

pub json_first : (a : Text) → is_dashed a ≡ false
    → Reads (json ∷ a ∷ []) a None (codes "true") None
unfolding clap_on_literals
json_first a first =
    let goes = goes_json_first a first in
    record {
      command = rw goes.walks refl;
      argument = rw goes.walks refl;
      json = rw goes.walks refl;
      code = rw goes.walks refl;
      taken = rw (goes.passes, goes.walks) refl;
    }

goes_json_last : (a : Text) → is_dashed a ≡ false
    → Goes start (a ∷ json ∷ []) (at_a_json a)
goes_json_last a first =
    over_one start (at_a a) (at_a_json a) a _ (turn_a a first)
    (over_one (at_a a) (at_a_json a) (at_a_json a) json _ (turn_a_json a)
    (over_none (at_a_json a)))

pub json_last : (a : Text) → is_dashed a ≡ false
    → Reads (a ∷ json ∷ []) a None (codes "true") None
unfolding clap_on_literals
json_last a first =
    let goes = goes_json_last a first in
    record {
      command = rw goes.walks refl;
      argument = rw goes.walks refl;
      json = rw goes.walks refl;
      code = rw goes.walks refl;
      taken = rw (goes.passes, goes.walks) refl;
    }

goes_code_first : (a k : Text) → is_dashed a ≡ false → is_dashed k ≡ false
    → Goes start (coded ∷ k ∷ a ∷ []) (at_code_name_a k a)
goes_code_first a k first third =
    over_one start at_code (at_code_name_a k a) coded _ turn_code
    (over_one at_code (at_code_name k) (at_code_name_a k a) k _ (turn_code_name k third)
    (over_one (at_code_name k) (at_code_name_a k a) (at_code_name_a k a) a _ (turn_code_name_a k a first)
    (over_none (at_code_name_a k a))))

pub code_first : (a k : Text) → is_dashed a ≡ false → is_dashed k ≡ false
    → Reads (coded ∷ k ∷ a ∷ []) a None (codes "false") (Some k)
unfolding clap_on_literals
code_first a k first third =
    let goes = goes_code_first a k first third in
    record {
      command = rw goes.walks refl;
      argument = rw goes.walks refl;
      json = rw goes.walks refl;
      code = rw goes.walks refl;
      taken = rw (goes.passes, goes.walks) refl;
    }

goes_code_last : (a k : Text) → is_dashed a ≡ false → is_dashed k ≡ false
    → Goes start (a ∷ coded ∷ k ∷ []) (at_a_code_name a k)
goes_code_last a k first third =
    over_one start (at_a a) (at_a_code_name a k) a _ (turn_a a first)
    (over_one (at_a a) (at_a_code a) (at_a_code_name a k) coded _ (turn_a_code a)
    (over_one (at_a_code a) (at_a_code_name a k) (at_a_code_name a k) k _ (turn_a_code_name a k third)
    (over_none (at_a_code_name a k))))

pub code_last : (a k : Text) → is_dashed a ≡ false → is_dashed k ≡ false
    → Reads (a ∷ coded ∷ k ∷ []) a None (codes "false") (Some k)
unfolding clap_on_literals
code_last a k first third =
    let goes = goes_code_last a k first third in
    record {
      command = rw goes.walks refl;
      argument = rw goes.walks refl;
      json = rw goes.walks refl;
      code = rw goes.walks refl;
      taken = rw (goes.passes, goes.walks) refl;
    }

goes_two : (a b : Text) → is_dashed a ≡ false → is_dashed b ≡ false
    → Goes start (a ∷ b ∷ []) (at_a_b a b)
goes_two a b first second =
    over_one start (at_a a) (at_a_b a b) a _ (turn_a a first)
    (over_one (at_a a) (at_a_b a b) (at_a_b a b) b _ (turn_a_b a b second)
    (over_none (at_a_b a b)))

pub two : (a b : Text) → is_dashed a ≡ false → is_dashed b ≡ false
    → Reads (a ∷ b ∷ []) a (Some b) (codes "false") None
unfolding clap_on_literals
two a b first second =
    let goes = goes_two a b first second in
    record {
      command = rw goes.walks refl;
      argument = rw goes.walks refl;
      json = rw goes.walks refl;
      code = rw goes.walks refl;
      taken = rw (goes.passes, goes.walks) refl;
    }

goes_json_two : (a b : Text) → is_dashed a ≡ false → is_dashed b ≡ false
    → Goes start (json ∷ a ∷ b ∷ []) (at_json_a_b a b)
goes_json_two a b first second =
    over_one start at_json (at_json_a_b a b) json _ turn_json
    (over_one at_json (at_json_a a) (at_json_a_b a b) a _ (turn_json_a a first)
    (over_one (at_json_a a) (at_json_a_b a b) (at_json_a_b a b) b _ (turn_json_a_b a b second)
    (over_none (at_json_a_b a b))))

pub json_two : (a b : Text) → is_dashed a ≡ false → is_dashed b ≡ false
    → Reads (json ∷ a ∷ b ∷ []) a (Some b) (codes "true") None
unfolding clap_on_literals
json_two a b first second =
    let goes = goes_json_two a b first second in
    record {
      command = rw goes.walks refl;
      argument = rw goes.walks refl;
      json = rw goes.walks refl;
      code = rw goes.walks refl;
      taken = rw (goes.passes, goes.walks) refl;
    }

goes_json_between : (a b : Text) → is_dashed a ≡ false → is_dashed b ≡ false
    → Goes start (a ∷ json ∷ b ∷ []) (at_a_json_b a b)
goes_json_between a b first second =
    over_one start (at_a a) (at_a_json_b a b) a _ (turn_a a first)
    (over_one (at_a a) (at_a_json a) (at_a_json_b a b) json _ (turn_a_json a)
    (over_one (at_a_json a) (at_a_json_b a b) (at_a_json_b a b) b _ (turn_a_json_b a b second)
    (over_none (at_a_json_b a b))))

pub json_between : (a b : Text) → is_dashed a ≡ false → is_dashed b ≡ false
    → Reads (a ∷ json ∷ b ∷ []) a (Some b) (codes "true") None
unfolding clap_on_literals
json_between a b first second =
    let goes = goes_json_between a b first second in
    record {
      command = rw goes.walks refl;
      argument = rw goes.walks refl;
      json = rw goes.walks refl;
      code = rw goes.walks refl;
      taken = rw (goes.passes, goes.walks) refl;
    }

goes_two_json : (a b : Text) → is_dashed a ≡ false → is_dashed b ≡ false
    → Goes start (a ∷ b ∷ json ∷ []) (at_a_b_json a b)
goes_two_json a b first second =
    over_one start (at_a a) (at_a_b_json a b) a _ (turn_a a first)
    (over_one (at_a a) (at_a_b a b) (at_a_b_json a b) b _ (turn_a_b a b second)
    (over_one (at_a_b a b) (at_a_b_json a b) (at_a_b_json a b) json _ (turn_a_b_json a b)
    (over_none (at_a_b_json a b))))

pub two_json : (a b : Text) → is_dashed a ≡ false → is_dashed b ≡ false
    → Reads (a ∷ b ∷ json ∷ []) a (Some b) (codes "true") None
unfolding clap_on_literals
two_json a b first second =
    let goes = goes_two_json a b first second in
    record {
      command = rw goes.walks refl;
      argument = rw goes.walks refl;
      json = rw goes.walks refl;
      code = rw goes.walks refl;
      taken = rw (goes.passes, goes.walks) refl;
    }

goes_code_two : (a b k : Text) → is_dashed a ≡ false → is_dashed b ≡ false → is_dashed k ≡ false
    → Goes start (coded ∷ k ∷ a ∷ b ∷ []) (at_code_name_a_b k a b)
goes_code_two a b k first second third =
    over_one start at_code (at_code_name_a_b k a b) coded _ turn_code
    (over_one at_code (at_code_name k) (at_code_name_a_b k a b) k _ (turn_code_name k third)
    (over_one (at_code_name k) (at_code_name_a k a) (at_code_name_a_b k a b) a _ (turn_code_name_a k a first)
    (over_one (at_code_name_a k a) (at_code_name_a_b k a b) (at_code_name_a_b k a b) b _ (turn_code_name_a_b k a b second)
    (over_none (at_code_name_a_b k a b)))))

pub code_two : (a b k : Text) → is_dashed a ≡ false → is_dashed b ≡ false → is_dashed k ≡ false
    → Reads (coded ∷ k ∷ a ∷ b ∷ []) a (Some b) (codes "false") (Some k)
unfolding clap_on_literals
code_two a b k first second third =
    let goes = goes_code_two a b k first second third in
    record {
      command = rw goes.walks refl;
      argument = rw goes.walks refl;
      json = rw goes.walks refl;
      code = rw goes.walks refl;
      taken = rw (goes.passes, goes.walks) refl;
    }

goes_code_between : (a b k : Text) → is_dashed a ≡ false → is_dashed b ≡ false → is_dashed k ≡ false
    → Goes start (a ∷ coded ∷ k ∷ b ∷ []) (at_a_code_name_b a k b)
goes_code_between a b k first second third =
    over_one start (at_a a) (at_a_code_name_b a k b) a _ (turn_a a first)
    (over_one (at_a a) (at_a_code a) (at_a_code_name_b a k b) coded _ (turn_a_code a)
    (over_one (at_a_code a) (at_a_code_name a k) (at_a_code_name_b a k b) k _ (turn_a_code_name a k third)
    (over_one (at_a_code_name a k) (at_a_code_name_b a k b) (at_a_code_name_b a k b) b _ (turn_a_code_name_b a k b second)
    (over_none (at_a_code_name_b a k b)))))

pub code_between : (a b k : Text) → is_dashed a ≡ false → is_dashed b ≡ false → is_dashed k ≡ false
    → Reads (a ∷ coded ∷ k ∷ b ∷ []) a (Some b) (codes "false") (Some k)
unfolding clap_on_literals
code_between a b k first second third =
    let goes = goes_code_between a b k first second third in
    record {
      command = rw goes.walks refl;
      argument = rw goes.walks refl;
      json = rw goes.walks refl;
      code = rw goes.walks refl;
      taken = rw (goes.passes, goes.walks) refl;
    }

goes_two_code : (a b k : Text) → is_dashed a ≡ false → is_dashed b ≡ false → is_dashed k ≡ false
    → Goes start (a ∷ b ∷ coded ∷ k ∷ []) (at_a_b_code_name a b k)
goes_two_code a b k first second third =
    over_one start (at_a a) (at_a_b_code_name a b k) a _ (turn_a a first)
    (over_one (at_a a) (at_a_b a b) (at_a_b_code_name a b k) b _ (turn_a_b a b second)
    (over_one (at_a_b a b) (at_a_b_code a b) (at_a_b_code_name a b k) coded _ (turn_a_b_code a b)
    (over_one (at_a_b_code a b) (at_a_b_code_name a b k) (at_a_b_code_name a b k) k _ (turn_a_b_code_name a b k third)
    (over_none (at_a_b_code_name a b k)))))

pub two_code : (a b k : Text) → is_dashed a ≡ false → is_dashed b ≡ false → is_dashed k ≡ false
    → Reads (a ∷ b ∷ coded ∷ k ∷ []) a (Some b) (codes "false") (Some k)
unfolding clap_on_literals
two_code a b k first second third =
    let goes = goes_two_code a b k first second third in
    record {
      command = rw goes.walks refl;
      argument = rw goes.walks refl;
      json = rw goes.walks refl;
      code = rw goes.walks refl;
      taken = rw (goes.passes, goes.walks) refl;
    }
