-- What a line `local` changes, and what other threads see of it.
use Rattle.std.proofs.Common.{◌≡◌, ◌≢◌, ℕ, zero, suc, ◌-◌, if◌then◌else◌, List, [], ◌∷◌, Option, Some, None, slice_get, slice_set, refl, sym, ap, subst, arith}
use Rattle.std.specs.Prelude.{◌↔◌}
use Rattle.lu_test.specs.declared.schedule.Move.{Move}
use Rattle.lu_machine.specs.declared.event.Event.{Event}
use Rattle.lu_machine.specs.declared.thread.Thread.{Thread}
use Rattle.lu_machine.specs.States.{State}
use Rattle.lu_machine.specs.Steps.{OneStep, RunsOn, Step, is_at_local, more_local}
use Rattle.lu_machine.specs.Laws.{LooksAlike}
use Rattle.lu_machine.proofs.Running.{nowhere_runs, ran}

-- what others see of a thread that is set

set_other : {A : Type 0} (xs : List A) (i j : ℕ) (x : A) → j ≢ i → slice_get (slice_set xs i x) j ≡ slice_get xs j
set_other [] i j x h = refl
set_other (z ∷ xs) zero zero x h = absurd (h refl)
set_other (z ∷ xs) zero (suc j) x h = refl
set_other (z ∷ xs) (suc i) zero x h = refl
set_other (z ∷ xs) (suc i) (suc j) x h = set_other xs i j x (λ e. h (ap suc e))

same_looks : (s end : State) (t : ℕ) → end ≡ s → LooksAlike t s end
same_looks s end t is = rw is (record { cells = refl; locks = refl; others = λ i other. refl })

pub local_unseen : (n : ℕ) (s : State) (t : ℕ) (end : State) → RunsOn n s t end → LooksAlike t s end
local_unseen n s t end runs = by_thread (slice_get s.threads t) refl
  where
    by_thread : (o : Option Thread) → slice_get s.threads t ≡ o → LooksAlike t s end
    by_thread None none = same_looks s end t (nowhere_runs n s t end none runs)
    by_thread (Some standing) stands =
        let on = ran n s t end standing stands runs in
        rw on.moved (record { cells = refl; locks = refl; others = λ i other. set_other s.threads t i on.now other })

-- without local instructions none runs after the first step

none_after : (local counted : ℕ) → local ≡ 0 → local - counted ≡ 0
none_after local counted is = omega arith

pub one_without_local : (s : State) (m : Move) (new : State) (event : Option Event) → s.component.local ≡ 0 → Step s m new event ↔ OneStep s m new event
one_without_local s m new event is =
    let none : more_local s m.thread ≡ 0 = none_after s.component.local (if is_at_local s m.thread then 1 else 0) is in (
      λ h.
          let same : new ≡ h.0 = subst (λ n. RunsOn n h.0 m.thread new) none h.2 in
          subst (λ x. OneStep s m x event) (sym same) h.1,
      λ h.
          let stays : RunsOn 0 new m.thread new = refl in
          (new, h, subst (λ n. RunsOn n new m.thread new) (sym none) stays),
    )
