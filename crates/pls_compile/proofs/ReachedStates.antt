-- A run that comes to a verdict is never stuck on its way.
use Rattle.std.proofs.Common.{◌≡◌, ℕ, zero, suc, ◌<◌, ◌≤◌, List, refl, sym, ap, ◌∙◌, subst, arith}
use Rattle.pls_configuration.specs.declared.verdict.Verdict.{Verdict}
use Rattle.pls_compile.specs.declared.instr.Instr.{Instr}
use Rattle.pls_compile.specs.RuleMeaning.{Sight}
use Rattle.pls_compile.specs.RuleMachine.{MachineState, Step, Goes, Answers, Stuck, IsAble, after_step, run, step}

-- the state of a step, or another one
abbrev state_of : MachineState → Step → MachineState
state_of other (Goes state) = state
state_of other (Answers verdict) = other
state_of other Stuck = other

-- what a step is
abbrev verdict_of : Verdict → Step → Verdict
verdict_of other (Goes state) = other
verdict_of other (Answers verdict) = verdict
verdict_of other Stuck = other

abbrev IsGoing : Step → Type 0
IsGoing (Goes state) = Unit {0}
IsGoing (Answers verdict) = ⊥
IsGoing Stuck = ⊥

module _ (code : List Instr) (view : Sight) where
  -- what is steps_left of a run behind a state that it reaches
  pub behind : (m : ℕ) (state reached : MachineState) → run code view m state ≡ Goes reached
      → (n : ℕ) (verdict : Verdict) → run code view n state ≡ Answers verdict
      → (k : ℕ) × (k ≤ n) × (run code view k reached ≡ Answers verdict)
  behind zero state reached goes n verdict ends =
      let same : state ≡ reached = ap (state_of state) goes in
      (n, omega arith, ap (run code view n) (sym same) ∙ ends)
  behind (suc m) state reached goes zero verdict ends =
      absurd (subst IsGoing ends tt)
  behind (suc m) state reached goes (suc n) verdict ends =
      by (step code view state) goes ends
      (λ next went ended. behind m next reached went n verdict ended)
    where
      by : (first : Step) → after_step (run code view m) first ≡ Goes reached
          → after_step (run code view n) first ≡ Answers verdict
          → ((next : MachineState) → run code view m next ≡ Goes reached
          → run code view n next ≡ Answers verdict
          → (k : ℕ) × (k ≤ n) × (run code view k reached ≡ Answers verdict))
          → (k : ℕ) × (k ≤ suc n) × (run code view k reached ≡ Answers verdict)
      by (Goes next) goes ends go =
          let found = go next goes ends in (found.0, omega (arith, found.1), found.2)
      by (Answers other) goes ends go = absurd (subst IsGoing (sym goes) tt)
      by Stuck goes ends go = absurd (subst IsGoing (sym goes) tt)

  -- a step of a run that comes to a verdict
  pub able : (n : ℕ) (state : MachineState) (verdict : Verdict)
      → run code view n state ≡ Answers verdict → IsAble (step code view state)
  able zero state verdict ends = absurd (subst IsGoing ends tt)
  able (suc n) state verdict ends = by (step code view state) ends
    where
      by : (first : Step) → after_step (run code view n) first ≡ Answers verdict → IsAble first
      by (Goes next) ends = tt
      by (Answers other) ends = tt
      by Stuck ends = subst IsAble (sym ends) tt

  -- if it answers, it is with this verdict
  pub answers_same : (n : ℕ) (state : MachineState) (verdict other : Verdict)
      → run code view n state ≡ Answers verdict → step code view state ≡ Answers other
      → other ≡ verdict
  answers_same zero state verdict other ends is = absurd (subst IsGoing ends tt)
  answers_same (suc n) state verdict other ends is =
      let e : Answers other ≡ Answers verdict =
      ap (after_step (run code view n)) (sym is) ∙ ends in
      ap (verdict_of other) e

  -- how many steps are steps_left, counted up to a number
  abbrev steps_behind : (MachineState → ℕ) → Step → ℕ
  steps_behind steps_left (Goes state) = suc (steps_left state)
  steps_behind steps_left (Answers verdict) = 0
  steps_behind steps_left Stuck = 0

  abbrev pub steps_left : ℕ → MachineState → ℕ
  steps_left zero state = 0
  steps_left (suc most) state = steps_behind (steps_left most) (step code view state)

  -- counted further they are as many
  steps_enough : (n most : ℕ) (state : MachineState) (verdict : Verdict)
      → run code view n state ≡ Answers verdict → n ≤ suc most
      → steps_left (suc most) state ≡ steps_left most state
  steps_enough zero most state verdict ends few = absurd (subst IsGoing ends tt)
  steps_enough (suc n) zero state verdict ends few =
      by n (omega (arith, few)) (step code view state) ends
    where
      by : (n : ℕ) → n ≤ 0 → (first : Step) → after_step (run code view n) first ≡ Answers verdict
          → steps_behind (steps_left 0) first ≡ 0
      by zero few (Goes next) ends = absurd (subst IsGoing ends tt)
      by (suc n) few (Goes next) ends = absurd (omega (arith, few))
      by n few (Answers other) ends = refl
      by n few Stuck ends = refl
  steps_enough (suc n) (suc most) state verdict ends few =
      by (step code view state) ends
      (λ next ended. steps_enough n most next verdict ended (omega (arith, few)))
    where
      by : (first : Step) → after_step (run code view n) first ≡ Answers verdict
          → ((next : MachineState) → run code view n next ≡ Answers verdict
          → steps_left (suc most) next ≡ steps_left most next)
          → steps_behind (steps_left (suc most)) first ≡ steps_behind (steps_left most) first
      by (Goes next) ends go = ap suc (go next ends)
      by (Answers other) ends go = refl
      by Stuck ends go = refl

  -- a step leaves fewer
  pub steps_fall : (n most : ℕ) (state next : MachineState) (verdict : Verdict)
      → run code view n state ≡ Answers verdict → n ≤ most
      → step code view state ≡ Goes next → steps_left most next < steps_left most state
  steps_fall zero most state next verdict ends few goes = absurd (subst IsGoing ends tt)
  steps_fall (suc n) zero state next verdict ends few goes = absurd (omega (arith, few))
  steps_fall (suc n) (suc most) state next verdict ends few goes =
      let ended : run code view n next ≡ Answers verdict =
      ap (after_step (run code view n)) (sym goes) ∙ ends in
      let same = steps_enough n most next verdict ended (omega (arith, few)) in
      let here : steps_left (suc most) state ≡ suc (steps_left most next) =
      ap (steps_behind (steps_left most)) goes in
      omega (arith, same, here)

  -- one step more
  pub one_more : (m : ℕ) (state reached next : MachineState)
      → run code view m state ≡ Goes reached → step code view reached ≡ Goes next
      → run code view (suc m) state ≡ Goes next
  one_more zero state reached next goes is =
      let same : state ≡ reached = ap (state_of state) goes in
      ap (λ (s : MachineState). after_step (run code view 0) (step code view s)) same
      ∙ ap (after_step (run code view 0)) is
  one_more (suc m) state reached next goes is =
      by (step code view state) goes (λ first went. one_more m first reached next went is)
    where
      by : (first : Step) → after_step (run code view m) first ≡ Goes reached
          → ((start : MachineState) → run code view m start ≡ Goes reached
          → run code view (suc m) start ≡ Goes next)
          → after_step (run code view (suc m)) first ≡ Goes next
      by (Goes start) goes go = go start goes
      by (Answers other) goes go = absurd (subst IsGoing (sym goes) tt)
      by Stuck goes go = absurd (subst IsGoing (sym goes) tt)
