-- How many calls a thread has made.
use Rattle.std.proofs.Common.{arith, ◌≡◌, ◌+◌, Option, inl, inr}
use Rattle.lu_test.specs.declared.schedule.Move.{Move}
use Rattle.lu_machine.specs.declared.event.Event.{Event}
use Rattle.lu_machine.specs.States.{State}
use Rattle.lu_serial.proofs.Counts.{made_at, made_busy, made_idle, made_of}
use Rattle.lu_serial.proofs.Moves.{Stepped}

pub step_made : (s : State) (m : Move) (new : State) (e : Option Event) → (by : Stepped s m new e) → made_of new m.thread ≡ by.before.done + 1
step_made s m new e by =
    let at = made_at new m.thread by.after by.is in
    elim by.kind as (λ _. made_of new m.thread ≡ by.before.done + 1) [
      | inl called ↦ (let busy = made_busy by.after called.1 in let same = called.2 in omega (arith, at, busy, same))
      | inr other ↦ elim other as (λ _. made_of new m.thread ≡ by.before.done + 1) [
        | inl went ↦ (let busy = made_busy by.after went.1 in let same = went.2 in omega (arith, at, busy, same))
        | inr closed ↦ (let idle = made_idle by.after closed.1 in let same = closed.2 in omega (arith, at, idle, same))
      ]
    ]
