-- What `==` says of schedules.
use Rattle.std.proofs.Common.{◌≡◌, List, true, refl, ap}
use Rattle.std.specs.Prelude.{Bool, ◌==◌, ◌&&◌}
use Rattle.std.specs.Bool.{Decides}
use Rattle.std.proofs.lemmas.Bool.{and_parts, eqb-true, eq-eqb}
use Rattle.std.proofs.lemmas.Slice.Eq.{slice_eq-Decides}
use Rattle.lu_test.specs.declared.schedule.Move.{Move}
use Rattle.lu_test.specs.contracts.schedule.MovePartialEq.TheImpl as equal
use Rattle.lu_machine.proofs.Orders.{same_move}
use Rattle.std.specs.Cmp.Lexicographic.{pointwise}

same_parts : (m n : Move) → (m.thread == n.thread && m.pick == n.pick) ≡ true → m ≡ n
same_parts m n e =
    let p = and_parts (m.thread == n.thread) (m.pick == n.pick) e in
    same_move m n (eqb-true m.thread n.thread p.0) (eqb-true m.pick n.pick p.1)

parts_same : (m n : Move) → m ≡ n → (m.thread == n.thread && m.pick == n.pick) ≡ true
parts_same m n e =
    let t : (m.thread == n.thread) ≡ true = eq-eqb m.thread n.thread (ap (λ (x : Move). x.thread) e) in
    let p : (m.pick == n.pick) ≡ true = eq-eqb m.pick n.pick (ap (λ (x : Move). x.pick) e) in
    rw (t, p) refl

pub moves_alike : (us vs : List Move) (r : Bool) → r ≡ pointwise (equal.eq-value).it us vs → Decides r (us ≡ vs)
moves_alike = slice_eq-Decides (λ m n. (same_parts m n, parts_same m n))
