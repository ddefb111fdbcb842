-- The text of an order of the calls, precedence aside.
use Rattle.std.specs.Prelude.{ℕ, Bool, false, ◌++◌, ◌==◌, ◌&&◌, if◌then◌else◌, List, [], ◌∷◌, codes, Option, Some, None}
use Rattle.std.specs.Option.{option_map_or}
use Rattle.std.specs.Fmt.{decimal}
use Rattle.lu_component.specs.Component.{Component}
use Rattle.lu_test.specs.Matrix.{Matrix}
use Rattle.lu_machine.specs.declared.event.Event.{Event}
use Rattle.lu_machine.specs.declared.event.Event.TheVariants.{Call, Return}
use Rattle.lu_history.specs.declared.operation.OpId.{OpId}
use Rattle.lu_history.specs.Parts.{is_return}
use Rattle.lu_explain.specs.declared.orders.Precedence.{Precedence}
use Rattle.lu_explain.specs.AnyOrders.{AnyOrder}
use Rattle.lu_explain.specs.Lines.{operation_words, order_text}
use Rattle.lu_explain.specs.Runs.{Run}

-- the event is the call of the operation
abbrev pub is_call : OpId → Event → Bool
is_call a (Call t k) = (t == a.t) && (k == a.k)
is_call a (Return t k outcome) = false

-- the number of the first event of this kind, where each event of h has a number
abbrev pub number_of : (Event → Bool) → List Event → List ℕ → ℕ
number_of Kind [] numbers = 0
number_of Kind (e ∷ h) [] = 0
number_of Kind (e ∷ h) (n ∷ numbers) = if Kind e then n else number_of Kind h numbers

-- `T1 pop comes before T0 push 5`
abbrev pub stands_words : Component → Matrix → Precedence → List ℕ
stands_words c matrix broken =
    operation_words c matrix broken.second.t broken.second.k ++ codes " comes before "
    ++ operation_words c matrix broken.first.t broken.first.k

-- ` here, but T0 push 5 returned (move 7)`: the first of both
abbrev pub returned_words : Component → Matrix → OpId → ℕ → List ℕ
returned_words c matrix a at =
    codes " here, but " ++ operation_words c matrix a.t a.k
    ++ (codes " returned (move " ++ (decimal at ++ codes ")"))

-- ` before T1 pop was called (move 14)`: the second of both
abbrev pub called_words : Component → Matrix → OpId → ℕ → List ℕ
called_words c matrix b at =
    codes " before " ++ operation_words c matrix b.t b.k
    ++ (codes " was called (move " ++ (decimal at ++ codes ")"))

-- the number of the move by which an operation returned, or was called
abbrev pub move_of_return : Run → OpId → ℕ
move_of_return run a = number_of (is_return a) run.events run.moves

abbrev pub move_of_call : Run → OpId → ℕ
move_of_call run b = number_of (is_call b) run.events run.moves

-- a precedence that an order breaks
abbrev pub broken_line : Run → Precedence → List ℕ
broken_line run broken =
    stands_words run.component run.matrix broken
    ++ returned_words run.component run.matrix broken.first (move_of_return run broken.first)
    ++ called_words run.component run.matrix broken.second (move_of_call run broken.second)
    ++ codes "\n"

-- the order, and the first precedence that it breaks, where there is such an order
abbrev pub any_order_text : Run → Option AnyOrder → List ℕ
any_order_text run None = codes "no order of the calls has these outcomes\n"
any_order_text run (Some o) =
    codes "any order\n" ++ order_text run.component run.matrix o.order
    ++ option_map_or (broken_line run) o.broken []
