-- Whether some move goes on serially, and whose.
use Rattle.std.proofs.Common.{◌≡◌, ◌+◌, ◌↔◌, ℕ, Some, None, length, sym, ap, arith}
use Rattle.lu_machine.specs.States.{State}
use Rattle.lu_machine.specs.Steps.{IsEnabled, picks_of}
use Rattle.lu_machine.specs.Ends.{HasMove}
use Rattle.lu_machine.proofs.Moves.{feasible_within}
use Rattle.lu_serial.specs.declared.node.OpenCall.{OpenCall}
use Rattle.lu_serial.specs.Walks.{AreTurns, HasSerialMove, IsOpenIn}

-- nothing is open
pub turns_free : (s : State) (n : ℕ) → n ≡ length s.threads → IsOpenIn s None → AreTurns s 0 n
turns_free s n is none = record {
  by = λ m ge lt t opens. absurd (none t opens);
  all = λ m f. (omega arith, (let within = feasible_within s m f.0 in omega arith));
}

-- an operation is open
pub turns_open : (s : State) (o : OpenCall) → IsOpenIn s (Some o) → AreTurns s o.thread (o.thread + 1)
turns_open s o opens = record {
  by = λ m ge lt t h. (let e = opens.1 t h in omega arith);
  all = λ m f. (let e : m.thread ≡ o.thread = f.1 o.thread opens.0 in (omega arith, omega arith));
}

pub free_moves : (s : State) → IsOpenIn s None → HasMove s ↔ HasSerialMove s
free_moves s none = (
  (λ h. (record { thread = h.0; pick = 0 }, (h.1, (λ t opens. absurd (none t opens))))),
  (λ h. (h.0.thread, (let f = h.1.0 in omega arith))),
)

pub open_moves : (s : State) (o : OpenCall) → IsOpenIn s (Some o) → IsEnabled s o.thread ↔ HasSerialMove s
open_moves s o opens = (
  (λ h. (record { thread = o.thread; pick = 0 }, (h, (λ t k. sym (opens.1 t k))))),
  (λ h. (let e : picks_of s h.0.thread ≡ picks_of s o.thread = ap (picks_of s) (h.1.1 o.thread opens.0) in let f = h.1.0 in omega arith)),
)
