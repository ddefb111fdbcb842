-- The machine on a menu: eight threads that may each make one call.
use Rattle.std.proofs.Common.{arith, ◌≡◌, ℕ, zero, suc, ◌<◌, [], ◌∷◌, length, replicate, Some, slice_get, unwrap_or, refl, sym, ◌∙◌, ap}
use Rattle.std.specs.Prelude.{nat_lt, if◌then◌else◌}
use Rattle.std.specs.Option.{option_map_or}
use Rattle.std.proofs.lemmas.List.{get_or-replicate, length-replicate}
use Rattle.std.proofs.lemmas.Option.{same_Some, slice_get-get_or}
use Rattle.lu_component.specs.Component.{Component}
use Rattle.lu_test.specs.declared.matrix.Call.{Call as ACall}
use Rattle.lu_test.specs.Matrix.{calls_of}
use Rattle.lu_machine.specs.declared.position.Position.{Position}
use Rattle.lu_machine.specs.declared.thread.Thread.{Thread}
use Rattle.lu_machine.specs.Steps.{picks_of, activity_picks}
use Rattle.lu_machine.specs.States.{State, call_count}
use Rattle.lu_serial.specs.Whole.{IsQuiet}
use Rattle.lu_client.specs.Alone.{IsBefore}
use Rattle.lu_serial_graph.specs.Playing.{OpensOnly, state_at}
use Rattle.lu_run.specs.Asking.{at_start, menu_of}

pub copies_same : {A : Type 0} (n : ℕ) (x y : A) (i : ℕ) → slice_get (replicate n x) i ≡ Some y → y ≡ x
copies_same zero x y i is = absurd cc
copies_same (suc n) x y zero is = sym (same_Some x y is)
copies_same (suc n) x y (suc i) is = copies_same n x y i is

pub copy_at : {A : Type 0} (n : ℕ) (x : A) (i : ℕ) → i < n → slice_get (replicate n x) i ≡ Some x
copy_at n x i lt =
    let many = length-replicate n x in
    slice_get-get_or (replicate n x) i x (omega (arith, many, lt)) ∙ ap Some (get_or-replicate n i x x lt)

-- each thread's line is the call
pub menu_line : (call : ACall) (t : ℕ) → t < 8 → calls_of (menu_of call) t ≡ call ∷ []
menu_line call t lt = ap (λ o. unwrap_or o []) (copy_at 8 (call ∷ []) t lt)

module _ (c : Component) (call : ACall) (p : Position) (idle : p.threads.items ≡ replicate 8 at_start) where
  start : State
  start = state_at c (menu_of call) p

  pub quiet : IsQuiet (state_at c (menu_of call) p)
  quiet t (thread, is, busy) =
      let same : thread ≡ at_start = copies_same 8 at_start thread t (sym (ap (λ xs. slice_get xs t) idle) ∙ is) in
      absurd (busy (ap (λ (x : Thread). x.activity) same))

  pub before : (t : ℕ) → t < 8 → IsBefore (state_at c (menu_of call) p) t call
  before t lt = record {
    quiet = quiet;
    was = at_start;
    stands = ap (λ xs. slice_get xs t) idle ∙ copy_at 8 at_start t lt;
    idle = refl;
    next = ap (λ xs. slice_get xs 0) (menu_line call t lt);
  }

-- and it may make the call
pub may_call : (c : Component) (call : ACall) (p : Position) → p.threads.items ≡ replicate 8 at_start → (t : ℕ) → t < 8 → OpensOnly (state_at c (menu_of call) p) t × (0 < picks_of (state_at c (menu_of call) p) t)
may_call c call p idle t lt =
    let first = before c call p idle t lt in (
      (λ x busy. absurd (first.quiet x busy)),
      enabled,
    )
  where
    s : State
    s = state_at c (menu_of call) p

    one_call : call_count (state_at c (menu_of call) p) t ≡ 1
    one_call = ap length (menu_line call t lt)

    seat : slice_get p.threads.items t ≡ Some at_start
    seat = ap (λ xs. slice_get xs t) idle ∙ copy_at 8 at_start t lt

    picks : picks_of (state_at c (menu_of call) p) t ≡ 1
    picks =
        ap (λ o. option_map_or (λ (thread : Thread). activity_picks (state_at c (menu_of call) p) t thread.done thread.activity) o 0) seat
        ∙ ap (λ n. if nat_lt 0 n then 1 else 0) one_call

    enabled : 0 < picks_of (state_at c (menu_of call) p) t
    enabled = omega (arith, picks)
