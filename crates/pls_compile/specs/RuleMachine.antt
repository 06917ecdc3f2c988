-- The rule machine: what one step does.
use Rattle.std.specs.Prelude.{◌≡◌, ℕ, zero, suc, ◌+◌, ◌-◌, ◌^◌, ◌==◌, nat_le, nat_lt, ◌&&◌, ◌||◌, if◌then◌else◌, List, [], ◌∷◌, length, slice_get, Option, Some, None}
use Rattle.std.specs.Option.{is_some}
use Rattle.pls_configuration.specs.declared.verdict.Verdict.{Verdict}
use Rattle.pls_configuration.specs.declared.verdict.Verdict.TheVariants.{Accept as accepted, Reject}
use Rattle.pls_bits.specs.Bytes.{weigh}
use Rattle.pls_scheme.specs.Reading.{ReadPort, target}
use Rattle.pls_compile.specs.declared.instr.Instr.{Instr}
use Rattle.pls_compile.specs.declared.instr.Instr.TheVariants.{Push, Id, Mark, Num, Degree, Pointed, My, Up, Nb, UpWeight, NbWeight, NbUp, Add, Mask, Eq, Lt, Le, Not, Both, Either, Begin, More, Next, Rule, Accept}
use Rattle.pls_compile.specs.RuleMeaning.{Sight, innermost, is_pointed_at, weight_at}

-- the machine's state: the place in the code, the stack, its top first, and the ports of the
-- quantifiers, the innermost first
pub record MachineState : Type 0 where
  pub place : ℕ
  pub stack : List ℕ
  pub ports : List ℕ

-- the state with these parts
abbrev pub state_at : ℕ → List ℕ → List ℕ → MachineState
state_at place stack ports = record { place = place; stack = stack; ports = ports }

-- the state at which the machine starts
abbrev pub start : MachineState
start = state_at 0 [] []

-- what a step comes to: the next state, the verdict, or nothing, where the machine is stuck
pub data Step : Type 0 where
  Goes : MachineState → Step
  Answers : Verdict → Step
  Stuck : Step

-- puts a number on the stack and goes on; there is room for 40 numbers of 128 bits
abbrev pub put : ℕ → MachineState → Step
put number state =
    if nat_lt (length state.stack) 40 && nat_lt number (2 ^ 128)
    then Goes (state_at (state.place + 1) (number ∷ state.stack) state.ports) else Stuck

-- puts a field on the stack, if it is there
abbrev pub put_field : Option ℕ → MachineState → Step
put_field None state = Stuck
put_field (Some number) state = put number state

-- puts a field of the label at the port that the node points at, and 0 where it points at none
abbrev pub put_above : ℕ → Option (ReadPort (List ℕ)) → MachineState → Step
put_above field None state = put 0 state
put_above field (Some port) state = put_field (slice_get port.label field) state

-- puts a field of the label at the port of the innermost quantifier, if there is one
abbrev pub put_beside : ℕ → Option (ReadPort (List ℕ)) → MachineState → Step
put_beside field None state = Stuck
put_beside field (Some port) state = put_field (slice_get port.label field) state

-- puts a number on the stack, if the port is there
abbrev pub put_if_port : ℕ → Option (ReadPort (List ℕ)) → MachineState → Step
put_if_port number None state = Stuck
put_if_port number (Some port) state = put number state

-- replaces the top two, the second of which is x and the first y
abbrev pub on_two : (ℕ → ℕ → ℕ) → ℕ → List ℕ → List ℕ → Step
on_two of_two place [] ports = Stuck
on_two of_two place (y ∷ []) ports = Stuck
on_two of_two place (y ∷ (x ∷ stack)) ports = put (of_two x y) (state_at place stack ports)

-- replaces the top
abbrev pub on_top : (ℕ → ℕ) → ℕ → List ℕ → List ℕ → Step
on_top of_one place [] ports = Stuck
on_top of_one place (x ∷ stack) ports = put (of_one x) (state_at place stack ports)

-- the second number where the first is 1, else 0
abbrev pub second_if_one : ℕ → ℕ → ℕ
second_if_one x y = if x == 1 then y else 0

-- what an instruction makes of the top two
abbrev pub two_of : Instr → ℕ → ℕ → ℕ
two_of Add x y = x + y
two_of Mask x y = second_if_one x y
two_of Eq x y = weigh (x == y)
two_of Lt x y = weigh (nat_lt x y)
two_of Le x y = weigh (nat_le x y)
two_of Both x y = weigh (x == 1 && y == 1)
two_of Either x y = weigh (x == 1 || y == 1)
two_of other x y = 0

-- begins with port 0; there is room for 2 ports
abbrev pub begin : ℕ → List ℕ → List ℕ → Step
begin place stack ports =
    if nat_lt (length ports) 2 then Goes (state_at (place + 1) stack (0 ∷ ports)) else Stuck

-- drops the innermost port and goes to a place, where it is the number of ports; else goes on
abbrev pub more : ℕ → ℕ → ℕ → List ℕ → List ℕ → Step
more degree end place stack [] = Stuck
more degree end place stack (port ∷ ports) =
    if port == degree then Goes (state_at end stack ports)
    else Goes (state_at (place + 1) stack (port ∷ ports))

-- turns from a port of the node to the next, and goes to a place
abbrev pub turn : ℕ → ℕ → List ℕ → List ℕ → Step
turn degree place stack [] = Stuck
turn degree place stack (port ∷ ports) =
    if nat_lt port degree then Goes (state_at place stack ((port + 1) ∷ ports)) else Stuck

-- takes what a rule came to from the stack
abbrev pub rule : ℕ → ℕ → List ℕ → List ℕ → Step
rule number place [] ports = Stuck
rule number place (outcome ∷ stack) ports =
    if outcome == 0 then Answers (Reject 1 number) else Goes (state_at (place + 1) stack ports)

-- what an instruction does
abbrev pub act : Sight → Instr → MachineState → Step
act view (Push number) state = put number state
act view Id state = put view.id state
act view Mark state = put view.state.mark state
act view Num state = put view.state.num state
act view Degree state = put (length view.ports) state
act view Pointed state = put (weigh (is_some view.state.up)) state
act view (My field) state = put_field (slice_get view.own field) state
act view (Up field) state = put_above field (target view) state
act view (Nb field) state = put_beside field (innermost view state.ports) state
act view UpWeight state = put (weight_at (target view)) state
act view NbWeight state =
    put_if_port (weight_at (innermost view state.ports)) (innermost view state.ports) state
act view NbUp state =
    put_if_port (weigh (is_pointed_at view state.ports)) (innermost view state.ports) state
act view Add state = on_two (two_of Add) state.place state.stack state.ports
act view Mask state = on_two (two_of Mask) state.place state.stack state.ports
act view Eq state = on_two (two_of Eq) state.place state.stack state.ports
act view Lt state = on_two (two_of Lt) state.place state.stack state.ports
act view Le state = on_two (two_of Le) state.place state.stack state.ports
act view Not state = on_top (λ x. 1 - x) state.place state.stack state.ports
act view Both state = on_two (two_of Both) state.place state.stack state.ports
act view Either state = on_two (two_of Either) state.place state.stack state.ports
act view Begin state = begin state.place state.stack state.ports
act view (More end) state = more (length view.ports) end state.place state.stack state.ports
act view (Next start) state = turn (length view.ports) start state.stack state.ports
act view (Rule number) state = rule number state.place state.stack state.ports
act view Accept state = Answers accepted

-- the instruction at a place, if there is one
abbrev pub act_if : Sight → Option Instr → MachineState → Step
act_if view None state = Stuck
act_if view (Some instr) state = act view instr state

-- one step
abbrev pub step : List Instr → Sight → MachineState → Step
step code view state = act_if view (slice_get code state.place) state

-- goes on from a state that was reached
abbrev pub after_step : (MachineState → Step) → Step → Step
after_step go (Goes state) = go state
after_step go (Answers verdict) = Answers verdict
after_step go Stuck = Stuck

-- so many steps, or fewer where the machine answers or is stuck before
abbrev pub run : List Instr → Sight → ℕ → MachineState → Step
run code view zero state = Goes state
run code view (suc count) state = after_step (run code view count) (step code view state)

-- the machine reaches the state from its start
abbrev pub IsReached : List Instr → Sight → MachineState → Type 0
IsReached code view state = (count : ℕ) × (run code view count start ≡ Goes state)

-- what a call came to that made a step: its verdict, if it answered, or the state that it left
abbrev pub came_to : Option Verdict → MachineState → Step
came_to None state = Goes state
came_to (Some verdict) state = Answers verdict

-- the step was not stuck
abbrev pub IsAble : Step → Type 0
IsAble (Goes state) = Unit {0}
IsAble (Answers verdict) = Unit {0}
IsAble Stuck = ⊥
