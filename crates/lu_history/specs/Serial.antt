-- Serial histories (Burckhardt, Dern, Musuvathi and Tan, 2010).
use Rattle.std.specs.Prelude.{◌≡◌, ◌<◌, ◌^◌, List, [], ◌∷◌}
use Rattle.lu_history.specs.declared.serial.SerialOp.{SerialOp}
use Rattle.lu_history.specs.declared.serial.SerialOutcome.{SerialOutcome}
use Rattle.lu_history.specs.declared.serial.SerialOutcome.TheVariants.{Ret, Trap, Stuck}

-- a returned value is a number of 32 bits
abbrev pub IsOutcome : SerialOutcome → Type 0
IsOutcome (Ret n) = n < 2 ^ 32
IsOutcome Trap = Unit {0}
IsOutcome Stuck = Unit {0}

-- `Stuck` stands only last
abbrev pub IsSerial : List SerialOp → Type 0
IsSerial [] = Unit {0}
IsSerial (op ∷ history) = (op.outcome ≡ Stuck → history ≡ []) × IsSerial history
