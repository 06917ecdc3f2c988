-- How `clap` walks over words: one or two that do not begin with `-`, and a flag at any place. Each
-- `at_` is where it stands behind the words of its name.
use Rattle.std.proofs.Common.{◌≡◌, ℕ, true, false, List, [], ◌∷◌, codes, refl, fold}
use Rattle.clap.specs.Words.{Rule, Text, built}
use Rattle.clap.specs.Walk.{Held, Walk, Waiting, idle, option, value, word_met, walked, walk_from, nothing_held, after_step, plain_word}
use Rattle.clap.specs.Simple.{Shape}
use Rattle.clap.specs.Takes.{word_passes, walk_passes, turn_passes}
use Rattle.clap.proofs.OnLiterals.{clap_on_literals}
use Rattle.pls_words.specs.Words.{is_dashed}
use Rattle.pls_words.specs.inner.Parser.{parser}

-- the flags
abbrev pub json : Text
json = codes "--json"

abbrev pub coded : Text
coded = codes "--code"

-- the arguments
abbrev pub rules : List Rule
rules = (built parser).top.rules

abbrev pub shape : Shape
shape = (built parser).top

-- a word that does not begin with `-` is a value where nothing waits
plain_met : (known : List Rule) (word : Text) (place : ℕ) (held : Held) → is_dashed word ≡ false
    → word_met known [] false idle place word held ≡ (held, value)
plain_met known [] place held plain = refl
plain_met known (first ∷ others) place held plain = simp plain

-- and goes to the option that waits
waits_met : (known : List Rule) (word id : Text) (place : ℕ) (held : Held)
    → is_dashed word ≡ false
    → word_met known [] false (option id) place word held ≡ plain_word known (option id) word held
waits_met known [] id place held plain = refl
waits_met known (first ∷ others) id place held plain = simp plain

-- and it passes
plain_passes : (known : Shape) (word : Text) (held : Held) → is_dashed word ≡ false
    → word_passes known [] false idle word held ≡ true
plain_passes known [] held plain = refl
plain_passes known (first ∷ others) held plain = simp plain

waits_passes : (known : Shape) (word id : Text) (held : Held) → is_dashed word ≡ false
    → word_passes known [] false (option id) word held ≡ true
waits_passes known [] id held plain = refl
waits_passes known (first ∷ others) id held plain = simp plain

abbrev pub start : Walk
start = walk_from nothing_held

-- the walk behind a word that is a value
abbrev after_plain : Walk → Text → Walk
after_plain from word = after_step rules word from from.held value

-- the walk behind a flag
abbrev after_flag : Walk → Text → Walk
after_flag from flag =
    let met = word_met rules [] false idle from.position flag from.held in
    after_step rules flag from met.0 met.1

-- the walk behind the word that `--code` waits for
abbrev after_name : Walk → Text → Walk
after_name from word =
    let met = plain_word rules (option (codes "code")) word from.held in
    after_step rules word from met.0 met.1

-- the walk goes over one more word, which passes
pub record Turns (from : Walk) (word : Text) (to : Walk) : Type 0 where
  pub passes : turn_passes shape [] from word ≡ true
  pub walks : walked rules [] from word ≡ to

-- the walk goes over words, which pass
pub record Goes (from : Walk) (words : List Text) (to : Walk) : Type 0 where
  pub passes : walk_passes shape [] from words ≡ true
  pub walks : fold (walked rules []) from words ≡ to

pub over_none : (from : Walk) → Goes from [] from
unfolding walk_passes
over_none from = record { passes = refl; walks = refl }

pub over_one : (from mid to : Walk) (word : Text) (others : List Text) → Turns from word mid
    → Goes mid others to → Goes from (word ∷ others) to
unfolding walk_passes
over_one from mid to word others turn more =
    record {
      passes = rw (turn.passes, turn.walks) more.passes;
      walks = rw turn.walks more.walks;
    }

abbrev pub at_a : Text → Walk
at_a a = after_plain start a

pub turn_a : (a : Text) → is_dashed a ≡ false → Turns start a (at_a a)
unfolding clap_on_literals
turn_a a plain =
    record {
      passes = rw (
        plain_passes shape a start.held plain,
        plain_met rules a start.position start.held plain,
      ) refl;
      walks = rw (plain_met rules a start.position start.held plain) refl;
    }

abbrev pub at_json : Walk
at_json = after_flag start json

pub turn_json : Turns start json at_json
unfolding clap_on_literals
turn_json = record { passes = refl; walks = refl }

abbrev pub at_json_a : Text → Walk
at_json_a a = after_plain at_json a

pub turn_json_a : (a : Text) → is_dashed a ≡ false → Turns at_json a (at_json_a a)
unfolding clap_on_literals
turn_json_a a plain =
    record {
      passes = rw (
        plain_passes shape a at_json.held plain,
        plain_met rules a at_json.position at_json.held plain,
      ) refl;
      walks = rw (plain_met rules a at_json.position at_json.held plain) refl;
    }

abbrev pub at_a_json : Text → Walk
at_a_json a = after_flag (at_a a) json

pub turn_a_json : (a : Text) → Turns (at_a a) json (at_a_json a)
unfolding clap_on_literals
turn_a_json a = record { passes = refl; walks = refl }

abbrev pub at_code : Walk
at_code = after_flag start coded

pub turn_code : Turns start coded at_code
unfolding clap_on_literals
turn_code = record { passes = refl; walks = refl }

abbrev pub at_code_name : Text → Walk
at_code_name k = after_name at_code k

pub turn_code_name : (k : Text) → is_dashed k ≡ false → Turns at_code k (at_code_name k)
unfolding clap_on_literals
turn_code_name k plain =
    record {
      passes = rw (
        waits_passes shape k (codes "code") at_code.held plain,
        waits_met rules k (codes "code") at_code.position at_code.held plain,
      ) refl;
      walks = rw (waits_met rules k (codes "code") at_code.position at_code.held plain) refl;
    }

abbrev pub at_code_name_a : Text → Text → Walk
at_code_name_a k a = after_plain (at_code_name k) a

pub turn_code_name_a : (k a : Text) → is_dashed a ≡ false → Turns (at_code_name k) a (at_code_name_a k a)
unfolding clap_on_literals
turn_code_name_a k a plain =
    record {
      passes = rw (
        plain_passes shape a (at_code_name k).held plain,
        plain_met rules a (at_code_name k).position (at_code_name k).held plain,
      ) refl;
      walks = rw (plain_met rules a (at_code_name k).position (at_code_name k).held plain) refl;
    }

abbrev pub at_a_code : Text → Walk
at_a_code a = after_flag (at_a a) coded

pub turn_a_code : (a : Text) → Turns (at_a a) coded (at_a_code a)
unfolding clap_on_literals
turn_a_code a = record { passes = refl; walks = refl }

abbrev pub at_a_code_name : Text → Text → Walk
at_a_code_name a k = after_name (at_a_code a) k

pub turn_a_code_name : (a k : Text) → is_dashed k ≡ false → Turns (at_a_code a) k (at_a_code_name a k)
unfolding clap_on_literals
turn_a_code_name a k plain =
    record {
      passes = rw (
        waits_passes shape k (codes "code") (at_a_code a).held plain,
        waits_met rules k (codes "code") (at_a_code a).position (at_a_code a).held plain,
      ) refl;
      walks = rw (waits_met rules k (codes "code") (at_a_code a).position (at_a_code a).held plain) refl;
    }

abbrev pub at_a_b : Text → Text → Walk
at_a_b a b = after_plain (at_a a) b

pub turn_a_b : (a b : Text) → is_dashed b ≡ false → Turns (at_a a) b (at_a_b a b)
unfolding clap_on_literals
turn_a_b a b plain =
    record {
      passes = rw (
        plain_passes shape b (at_a a).held plain,
        plain_met rules b (at_a a).position (at_a a).held plain,
      ) refl;
      walks = rw (plain_met rules b (at_a a).position (at_a a).held plain) refl;
    }

abbrev pub at_json_a_b : Text → Text → Walk
at_json_a_b a b = after_plain (at_json_a a) b

pub turn_json_a_b : (a b : Text) → is_dashed b ≡ false → Turns (at_json_a a) b (at_json_a_b a b)
unfolding clap_on_literals
turn_json_a_b a b plain =
    record {
      passes = rw (
        plain_passes shape b (at_json_a a).held plain,
        plain_met rules b (at_json_a a).position (at_json_a a).held plain,
      ) refl;
      walks = rw (plain_met rules b (at_json_a a).position (at_json_a a).held plain) refl;
    }

abbrev pub at_a_json_b : Text → Text → Walk
at_a_json_b a b = after_plain (at_a_json a) b

pub turn_a_json_b : (a b : Text) → is_dashed b ≡ false → Turns (at_a_json a) b (at_a_json_b a b)
unfolding clap_on_literals
turn_a_json_b a b plain =
    record {
      passes = rw (
        plain_passes shape b (at_a_json a).held plain,
        plain_met rules b (at_a_json a).position (at_a_json a).held plain,
      ) refl;
      walks = rw (plain_met rules b (at_a_json a).position (at_a_json a).held plain) refl;
    }

abbrev pub at_a_b_json : Text → Text → Walk
at_a_b_json a b = after_flag (at_a_b a b) json

pub turn_a_b_json : (a b : Text) → Turns (at_a_b a b) json (at_a_b_json a b)
unfolding clap_on_literals
turn_a_b_json a b = record { passes = refl; walks = refl }

abbrev pub at_code_name_a_b : Text → Text → Text → Walk
at_code_name_a_b k a b = after_plain (at_code_name_a k a) b

pub turn_code_name_a_b : (k a b : Text) → is_dashed b ≡ false → Turns (at_code_name_a k a) b (at_code_name_a_b k a b)
unfolding clap_on_literals
turn_code_name_a_b k a b plain =
    record {
      passes = rw (
        plain_passes shape b (at_code_name_a k a).held plain,
        plain_met rules b (at_code_name_a k a).position (at_code_name_a k a).held plain,
      ) refl;
      walks = rw (plain_met rules b (at_code_name_a k a).position (at_code_name_a k a).held plain) refl;
    }

abbrev pub at_a_code_name_b : Text → Text → Text → Walk
at_a_code_name_b a k b = after_plain (at_a_code_name a k) b

pub turn_a_code_name_b : (a k b : Text) → is_dashed b ≡ false → Turns (at_a_code_name a k) b (at_a_code_name_b a k b)
unfolding clap_on_literals
turn_a_code_name_b a k b plain =
    record {
      passes = rw (
        plain_passes shape b (at_a_code_name a k).held plain,
        plain_met rules b (at_a_code_name a k).position (at_a_code_name a k).held plain,
      ) refl;
      walks = rw (plain_met rules b (at_a_code_name a k).position (at_a_code_name a k).held plain) refl;
    }

abbrev pub at_a_b_code : Text → Text → Walk
at_a_b_code a b = after_flag (at_a_b a b) coded

pub turn_a_b_code : (a b : Text) → Turns (at_a_b a b) coded (at_a_b_code a b)
unfolding clap_on_literals
turn_a_b_code a b = record { passes = refl; walks = refl }

abbrev pub at_a_b_code_name : Text → Text → Text → Walk
at_a_b_code_name a b k = after_name (at_a_b_code a b) k

pub turn_a_b_code_name : (a b k : Text) → is_dashed k ≡ false → Turns (at_a_b_code a b) k (at_a_b_code_name a b k)
unfolding clap_on_literals
turn_a_b_code_name a b k plain =
    record {
      passes = rw (
        waits_passes shape k (codes "code") (at_a_b_code a b).held plain,
        waits_met rules k (codes "code") (at_a_b_code a b).position (at_a_b_code a b).held plain,
      ) refl;
      walks = rw (waits_met rules k (codes "code") (at_a_b_code a b).position (at_a_b_code a b).held plain) refl;
    }
