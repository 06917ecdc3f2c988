-- Words are a command, or are none.
use Rattle.std.proofs.Common.{◌≡◌, ◌∙◌, ◌⊎◌, ℕ, zero, suc, ◌≤◌, nat_lt, nat_le, Bool, true, false, List, codes, bytes_eq, Option, Some, None, inl, inr, ap, subst, refl, sym, arith}
use Rattle.std.proofs.lemmas.Bool.Decides.{nat_tests}
use Rattle.std.proofs.lemmas.Option.{same_Some}
use Rattle.std.proofs.lemmas.Slice.Eq.{bytes_eq-Decides}
use Rattle.pls_words.specs.Words.{Said, said_by_words}
use Rattle.pls_words.specs.declared.command_words.Flag.{Flag}
use Rattle.pls_words.specs.declared.command_words.Flag.TheVariants.{Bare, Coded, Json}
use Rattle.pls_scheme_text.specs.declared.scheme_error.SchemeError.{SchemeError}
use Rattle.pls_expressions.specs.Expression.{Expression, IsSmall}
use Rattle.pls_scheme_text.specs.ExpressionText.{IsNoScheme, expression_text}
use Rattle.pls_scheme_text.specs.inner.Fronts.{scheme_refusal_of}
use Rattle.pls_scheme_text.proofs.Refusals.{kept_text, refused_text}
use Rattle.pls_configuration.specs.declared.limits.TheConstants.{MAX_NODES}
use Rattle.pls_trial.specs.declared.draws.TheConstants.{MAX_SEED}
use Rattle.pls_app.specs.declared.command.Command.{Command}
use Rattle.pls_app.specs.declared.command.Command.TheVariants.{ByRules, Print, Trial, With}
use Rattle.pls_app.specs.declared.command.Task.{Task}
use Rattle.pls_app.specs.declared.command.RuleTask.{RuleTask}
use Rattle.pls_names.specs.declared.scheme_name.SchemeName.{SchemeName}
use Rattle.pls_app.specs.Command.{IsCommandOrNot, IsSaid, printed_said, rule_task_said, task_named}
use Rattle.pls_app.proofs.Commands.{not_said}
use Rattle.pls_app.specs.TrialWords.{trial_word}

-- some number up to a bound passes a test, or none does
find_below : (P : ℕ → Type 0) → ((n : ℕ) → P n ⊎ (P n → ⊥)) → (most : ℕ)
    → ((n : ℕ) × (n ≤ most) × P n) ⊎ ((n : ℕ) → n ≤ most → P n → ⊥)
find_below P test zero = elim (test 0) [
  | inl passes ↦ inl (0, omega arith, passes)
  | inr none ↦ inr (λ n few passes.
      let first : n ≡ 0 = omega (arith, few) in none (subst P first passes))
]
find_below P test (suc most) = elim (test (suc most)) [
  | inl passes ↦ inl (suc most, omega arith, passes)
  | inr none ↦ elim (find_below P test most) [
    | inl found ↦ inl (found.0, omega (arith, found.1), found.2)
    | inr others ↦ inr (λ n few passes. by n (nat_le n most) refl few passes none others)
  ]
]
  where
    by : (n : ℕ) (below : Bool) → nat_le n most ≡ below → n ≤ suc most → P n
        → (P (suc most) → ⊥) → ((n : ℕ) → n ≤ most → P n → ⊥) → ⊥
    by n true is few passes none others = others n (grind (arith, nat_tests)) passes
    by n false is few passes none others =
        let more : suc most ≤ n = grind (arith, nat_tests) in
        let last : n ≡ suc most = omega (arith, few, more) in none (subst P last passes)

module _ (word : List ℕ) where
  -- the word is that of a trial of these numbers
  abbrev Tries : ℕ → ℕ → Type 0
  Tries nodes seed = (1 ≤ nodes) × (1 ≤ seed) × (word ≡ trial_word nodes seed)

  tries : (nodes seed : ℕ) → Tries nodes seed ⊎ (Tries nodes seed → ⊥)
  tries nodes seed =
      by (nat_lt 0 nodes) (nat_lt 0 seed) (bytes_eq word (trial_word nodes seed)) refl refl refl
    where
      by : (some first same : Bool) → nat_lt 0 nodes ≡ some → nat_lt 0 seed ≡ first
          → bytes_eq word (trial_word nodes seed) ≡ same → Tries nodes seed ⊎ (Tries nodes seed → ⊥)
      by true true true some first same = inl (
        grind (arith, nat_tests),
        grind (arith, nat_tests),
        (bytes_eq-Decides word (trial_word nodes seed)).0 same,
      )
      by false first same some is equal =
          inr (λ tries. let one = tries.0 in absurd (grind (arith, nat_tests)))
      by true false same some is equal =
          inr (λ tries. let one = tries.1 in absurd (grind (arith, nat_tests)))
      by true true false some is equal = inr (λ tries.
          let other : false ≡ true =
          sym equal ∙ (bytes_eq-Decides word (trial_word nodes seed)).1 tries.2 in absurd (cc))

  -- it is that of a trial within these bounds, or of none
  tried : (most last : ℕ) → ((nodes : ℕ) × (nodes ≤ most)
      × ((seed : ℕ) × (seed ≤ last) × Tries nodes seed))
      ⊎ ((nodes : ℕ) → nodes ≤ most → ((seed : ℕ) × (seed ≤ last) × Tries nodes seed) → ⊥)
  tried most last = find_below (λ nodes. (seed : ℕ) × (seed ≤ last) × Tries nodes seed)
      (λ nodes. elim (find_below (Tries nodes) (tries nodes) last) [
        | inl found ↦ inl found
        | inr none ↦ inr (λ found. none found.0 found.1 found.2)
      ]) most

  -- the word is the text of a small expression, or of none
  schemed : ((scheme : Expression) × IsSmall scheme × (word ≡ expression_text scheme)) ⊎ IsNoScheme word
  schemed = by (scheme_refusal_of word) refl
    where
      by : (refusal : Option SchemeError) → scheme_refusal_of word ≡ refusal
          → ((scheme : Expression) × IsSmall scheme × (word ≡ expression_text scheme))
          ⊎ IsNoScheme word
      by None kept = let found = kept_text word (sym kept) in inl (found.0, found.2, found.3)
      by (Some error) refused = inr (refused_text word error refused)

-- a word is an argument of a command, or of none
module _ (said : Said) (word : List ℕ) (argued : said.argument ≡ Some word) where
  -- a task with a scheme, or none
  task_or_not : ((command : Command) × IsSaid said command)
      ⊎ ((task : Task) (scheme : Expression) → IsSaid said (With task scheme) → ⊥)
  task_or_not = by (task_named said.command said.flag) refl (schemed word)
    where
      by : (named : Option Task) → task_named said.command said.flag ≡ named
          → ((scheme : Expression) × IsSmall scheme × (word ≡ expression_text scheme))
          ⊎ IsNoScheme word
          → ((command : Command) × IsSaid said command)
          ⊎ ((task : Task) (scheme : Expression) → IsSaid said (With task scheme) → ⊥)
      by None named found = inr (λ task scheme is.
          let other : None ≡ Some task = sym named ∙ is.0 in absurd (cc))
      by (Some task) named (inl found) =
          inl (With task found.0, (named, argued ∙ ap Some found.2, found.1))
      by (Some task) named (inr none) = inr (λ other scheme is.
          none scheme is.2 (same_Some word (expression_text scheme) (sym argued ∙ is.1)))

  -- a trial, or none
  trial_or_not : ((command : Command) × IsSaid said command)
      ⊎ ((nodes seed : ℕ) → IsSaid said (Trial nodes seed) → ⊥)
  trial_or_not =
      by (bytes_eq said.command (codes "trial")) said.flag refl refl (tried word MAX_NODES MAX_SEED)
    where
      by : (is_trial : Bool) (flag : Flag) → bytes_eq said.command (codes "trial") ≡ is_trial
          → said.flag ≡ flag
          → ((nodes : ℕ) × (nodes ≤ MAX_NODES)
          × ((seed : ℕ) × (seed ≤ MAX_SEED) × Tries word nodes seed))
          ⊎ ((nodes : ℕ) → nodes ≤ MAX_NODES
          → ((seed : ℕ) × (seed ≤ MAX_SEED) × Tries word nodes seed) → ⊥)
          → ((command : Command) × IsSaid said command)
          ⊎ ((nodes seed : ℕ) → IsSaid said (Trial nodes seed) → ⊥)
      by false flag is bare found = inr (λ nodes seed trial.
          let other : false ≡ true =
          sym is ∙ (bytes_eq-Decides said.command (codes "trial")).1 trial.command in absurd (cc))
      by true Json is bare found = inr (λ nodes seed trial.
          let other : Json ≡ Bare = sym bare ∙ trial.bare in absurd (cc))
      by true (Coded code) is bare found = inr (λ nodes seed trial.
          let other : Coded code ≡ Bare = sym bare ∙ trial.bare in absurd (cc))
      by true Bare is bare (inl found) =
          let seed = found.2 in inl (
            Trial found.0 seed.0,
            record {
              command = (bytes_eq-Decides said.command (codes "trial")).0 is;
              argument = argued ∙ ap Some seed.2.2;
              bare = bare;
              size = record { some = seed.2.0; few = found.1; first = seed.2.1; last = seed.1 };
            },
          )
      by true Bare is bare (inr none) = inr (λ nodes seed trial.
          none nodes trial.size.few (
            seed,
            trial.size.last,
            (
              trial.size.some,
              trial.size.first,
              same_Some word (trial_word nodes seed) (sym argued ∙ trial.argument),
            ),
          ))

-- a task with a rule set, or a rule set to be printed, or neither
ruled_or_not : (said : Said) → ((command : Command) × IsSaid said command)
    ⊎ ((rule_task_said said ≡ None) × (printed_said said ≡ None))
ruled_or_not said = by (rule_task_said said) (printed_said said) refl refl
  where
    by : (task : Option RuleTask) (name : Option SchemeName) → rule_task_said said ≡ task
        → printed_said said ≡ name → ((command : Command) × IsSaid said command)
        ⊎ ((rule_task_said said ≡ None) × (printed_said said ≡ None))
    by (Some task) name is prints = inl (ByRules task, is)
    by None (Some name) is prints = inl (Print name, prints)
    by None None is prints = inr (is, prints)

-- what was said is a command, or is none
said_or_not : (said : Said)
    → ((command : Command) × IsSaid said command) ⊎ ((command : Command) → IsSaid said command → ⊥)
said_or_not said = elim (ruled_or_not said) [
  | inl found ↦ inl found
  | inr none ↦ by none said.argument refl
]
  where
    by : (rule_task_said said ≡ None) × (printed_said said ≡ None) → (argument : Option (List ℕ))
        → said.argument ≡ argument
        → ((command : Command) × IsSaid said command)
        ⊎ ((command : Command) → IsSaid said command → ⊥)
    by none None argued = inr (not_said said none.0 none.1 (λ task scheme is.
        let other : None ≡ Some (expression_text scheme) = sym argued ∙ is.1 in cc)
        (λ nodes seed is.
        let other : None ≡ Some (trial_word nodes seed) = sym argued ∙ is.argument in cc))
    by none (Some word) argued = elim (task_or_not said word argued) [
      | inl found ↦ inl found
      | inr no_task ↦ elim (trial_or_not said word argued) [
        | inl found ↦ inl found
        | inr no_trial ↦ inr (not_said said none.0 none.1 no_task no_trial)
      ]
    ]

-- words are a command, or are none
pub command_or_not : (words : List (List ℕ)) → IsCommandOrNot words
command_or_not words = by (said_by_words words) refl
  where
    by : (said : Option Said) → said_by_words words ≡ said → IsCommandOrNot words
    by None says = inr (λ command is.
        let other : None ≡ Some is.said = sym says ∙ is.says in cc)
    by (Some said) says = elim (said_or_not said) [
      | inl found ↦ inl (found.0, record { said = said; says = says; is = found.1 })
      | inr none ↦ inr (λ command is.
          none command (subst (λ (said : Said). IsSaid said command)
          (sym (same_Some said is.said (sym says ∙ is.says))) is.is))
    ]
