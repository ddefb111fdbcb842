-- The order of what begins with one piece and with another.
use Rattle.std.proofs.Common.{◌≡◌, List, sym, subst}
use Rattle.lu_test.specs.declared.schedule.Move.{Move}
use Rattle.lu_machine.specs.Order.{IsSmaller}
use Rattle.lu_machine.specs.Schedules.{BeginsWith}
use Rattle.lu_machine.proofs.Orders.{smaller_asym, smaller_extends}

-- schedules below two pieces stand as the pieces do
pub below_pieces : (p q v w : List Move) → IsSmaller p q → (BeginsWith q p → p ≡ q) → BeginsWith v p → BeginsWith w q → IsSmaller v w
below_pieces p q v w smaller apart b c =
    let not : BeginsWith q p → ⊥ = λ x. (let twice : IsSmaller p p = subst (IsSmaller p) (sym (apart x)) smaller in smaller_asym p p twice twice) in
    rw (b.1, c.1) (smaller_extends p q b.0 c.0 smaller not)
