-- The room that expressions need, and that their parts have it.
use Rattle.std.proofs.Common.{ℕ, ◌+◌, ◌*◌, ◌<◌, ◌≤◌, List, ◌∷◌, length, arith}
use Rattle.std.specs.Prelude.{max}

-- the room that an expression needs: on the stack, among the ports, and for its value
pub record HasRoom (height nesting : ℕ) (stack ports : List ℕ) : Type 0 where
  pub on_stack : length stack + height + nesting ≤ 39
  pub of_ports : length ports + nesting ≤ 2
  pub of_value : height + 14 * nesting ≤ 59

pub room_first : (h1 h2 q1 q2 : ℕ) (stack ports : List ℕ)
    → HasRoom (1 + max h1 h2) (max q1 q2) stack ports → HasRoom h1 q1 stack ports
room_first h1 h2 q1 q2 stack ports room = record {
  on_stack = omega (arith, room.on_stack);
  of_ports = omega (arith, room.of_ports);
  of_value = omega (arith, room.of_value);
}

pub room_second : (h1 h2 q1 q2 x : ℕ) (stack ports : List ℕ)
    → HasRoom (1 + max h1 h2) (max q1 q2) stack ports → HasRoom h2 q2 (x ∷ stack) ports
room_second h1 h2 q1 q2 x stack ports room = record {
  on_stack = omega (arith, room.on_stack);
  of_ports = omega (arith, room.of_ports);
  of_value = omega (arith, room.of_value);
}

pub room_under : (h q : ℕ) (stack ports : List ℕ) → HasRoom (1 + h) q stack ports
    → HasRoom h q stack ports
room_under h q stack ports room = record {
  on_stack = omega (arith, room.on_stack);
  of_ports = room.of_ports;
  of_value = omega (arith, room.of_value);
}

pub room_inside : (h q x port : ℕ) (stack ports : List ℕ) → HasRoom (1 + h) (1 + q) stack ports
    → HasRoom h q (x ∷ stack) (port ∷ ports)
room_inside h q x port stack ports room = record {
  on_stack = omega (arith, room.on_stack);
  of_ports = omega (arith, room.of_ports);
  of_value = omega (arith, room.of_value);
}

pub room_where : (h1 h2 q1 q2 x port : ℕ) (stack ports : List ℕ)
    → HasRoom (1 + max h1 h2) (1 + max q1 q2) stack ports
    → HasRoom h1 q1 (x ∷ stack) (port ∷ ports)
room_where h1 h2 q1 q2 x port stack ports room = record {
  on_stack = omega (arith, room.on_stack);
  of_ports = omega (arith, room.of_ports);
  of_value = omega (arith, room.of_value);
}

pub room_summed : (h1 h2 q1 q2 x y port : ℕ) (stack ports : List ℕ)
    → HasRoom (1 + max h1 h2) (1 + max q1 q2) stack ports
    → HasRoom h2 q2 (y ∷ (x ∷ stack)) (port ∷ ports)
room_summed h1 h2 q1 q2 x y port stack ports room = record {
  on_stack = omega (arith, room.on_stack);
  of_ports = omega (arith, room.of_ports);
  of_value = omega (arith, room.of_value);
}

pub room_here : (h q : ℕ) (stack ports : List ℕ) → HasRoom h q stack ports → length stack < 40
room_here h q stack ports room = omega (arith, room.on_stack)
