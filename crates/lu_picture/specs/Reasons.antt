-- What an explanation says of the operations of a picture: their numbers in its order, and why they
-- are left.
use Rattle.std.specs.Prelude.{ℕ, zero, suc, ◌+◌, ◌++◌, ◌==◌, ◌&&◌, if◌then◌else◌, Bool, false, List, [], length, take, Option, Some, None, is_none, slice_get}
use Rattle.std.specs.Option.{option_and_then, option_map_or, option_or}
use Rattle.lu_component.specs.Component.{Component}
use Rattle.lu_test.specs.Matrix.{Matrix}
use Rattle.lu_history.specs.declared.serial.SerialOp.{SerialOp}
use Rattle.lu_history.specs.declared.serial.SerialOutcome.{SerialOutcome}
use Rattle.lu_history.specs.declared.serial.SerialOutcome.TheVariants.{Stuck}
use Rattle.lu_history.specs.Parts.{as_serial}
use Rattle.lu_witness.specs.Witnesses.{entries}
use Rattle.lu_explain.specs.Explanations.{Explanation, reason_of}
use Rattle.lu_history.specs.Text.{serial_outcome_text as ended_words}
use Rattle.lu_explain.specs.Lines.{why_not}
use Rattle.lu_picture.specs.declared.mark.End.{End}

-- ---- numbers in the order

-- operation i of the order, from 0, is call k of thread t
abbrev pub is_entry : List SerialOp → ℕ → ℕ → ℕ → Bool
is_entry order t k i =
    option_map_or (λ op. op.thread == t && length (entries t (take i order)) == k)
    (slice_get order i) false

-- its number, from 1, where it is that call
abbrev pub number_at : List SerialOp → ℕ → ℕ → ℕ → Option ℕ
number_at order t k i = if is_entry order t k i then Some (i + 1) else None

-- the number of call k of thread t, if it is among the first n operations of the order
abbrev pub number_in_order : List SerialOp → ℕ → ℕ → ℕ → Option ℕ
number_in_order order t k zero = None
number_in_order order t k (suc n) =
    option_or (number_in_order order t k n) (number_at order t k n)

-- the number of call k of thread t in the order of an explanation
abbrev pub order_number : Explanation → ℕ → ℕ → Option ℕ
order_number e t k = number_in_order e.order t k (length e.order)

-- where there is an explanation
abbrev pub explained_number : Option Explanation → ℕ → ℕ → Option ℕ
explained_number why t k = option_and_then (λ e. order_number e t k) why

-- there is one, and call k of thread t is left
abbrev pub is_left : Option Explanation → ℕ → ℕ → Bool
is_left why t k = option_map_or (λ e. is_none (order_number e t k)) why false

-- ---- reasons

-- how an operation ended: stuck where it did not
abbrev pub outcome_of : Option End → SerialOutcome
outcome_of None = Stuck
outcome_of (Some end) = as_serial end.outcome

-- how call k of thread t ended, and why it can't come next after the order, where it is the next
-- of its thread: as the text of an explanation has it after `#`
abbrev pub reason_said : Component → Matrix → Explanation → ℕ → ℕ → SerialOutcome → List ℕ
reason_said c matrix e t k o =
    if k == length (entries t e.order)
    then
    option_map_or (λ reason. ended_words o ++ why_not c matrix e.order reason) (reason_of e t)
    []
    else []

-- where there is an explanation
abbrev pub why_words : Component → Matrix → Option Explanation → ℕ → ℕ → Option End → List ℕ
why_words c matrix why t k end =
    option_map_or (λ e. reason_said c matrix e t k (outcome_of end)) why []
