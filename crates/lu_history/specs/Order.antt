-- The order of the operations of serial histories.
use Rattle.std.specs.Prelude.{ℕ}
use Rattle.std.specs.Ordering.{nat_cmp, ordering_then}
use Rattle.std.specs.declared.cmp.Ordering.{Ordering}
use Rattle.lu_history.specs.declared.serial.SerialOutcome.{SerialOutcome}
use Rattle.lu_history.specs.declared.serial.SerialOutcome.TheVariants.{Ret, Trap, Stuck}
use Rattle.lu_history.specs.declared.serial.SerialOp.{SerialOp}

-- returned values come first, then traps, then what is stuck
abbrev pub kind_of : SerialOutcome → ℕ
kind_of (Ret n) = 0
kind_of Trap = 1
kind_of Stuck = 2

-- the value that was returned
abbrev pub returned_value : SerialOutcome → ℕ
returned_value (Ret n) = n
returned_value Trap = 0
returned_value Stuck = 0

abbrev pub outcome_cmp : SerialOutcome → SerialOutcome → Ordering
outcome_cmp a b =
    ordering_then (nat_cmp (kind_of a) (kind_of b)) (nat_cmp (returned_value a) (returned_value b))

-- by thread, and then by outcome
abbrev pub op_cmp : SerialOp → SerialOp → Ordering
op_cmp a b = ordering_then (nat_cmp a.thread b.thread) (outcome_cmp a.outcome b.outcome)
