-- How many moves are left, and the limits of a path.
use Rattle.std.proofs.Common.{◌≡◌, ◌<◌, ◌≤◌, ◌+◌, ◌*◌, ◌-◌, ℕ, zero, suc, List, [], ◌∷◌, ◌++◌, sum_by, replicate, length, slice_get, slice_set, Option, Some, None, refl, sym, ◌∙◌, ap, subst, inl, inr, arith, length-append}
use Rattle.std.proofs.lemmas.Option.{same_Some}
use Rattle.std.proofs.lemmas.Bool.{cases_lt}
use Rattle.std.proofs.lemmas.List.{length-set, length-replicate}
use Rattle.std.proofs.lemmas.List.Elements.{All-nil, All-push}
use Rattle.std.proofs.Math.Nat.{mul-le-mul_left, mul_comm}
use Rattle.std.proofs.lemmas.List.Sums.{sum_by-cons}
use Rattle.lu_component.specs.Component.{Component, IsComponent}
use Rattle.lu_test.specs.declared.matrix.Call.{Call as ACall}
use Rattle.lu_test.specs.declared.schedule.Move.{Move}
use Rattle.lu_test.specs.Matrix.{Matrix, IsMatrix, calls_of, row_of}
use Rattle.lu_test.specs.Schedule.{IsMove, AreMoves}
use Rattle.lu_machine.specs.States.{State, call_count}
use Rattle.lu_machine.specs.Steps.{Step, IsFeasible}
use Rattle.lu_machine.specs.Starts.{IsStart, at_rest}
use Rattle.lu_machine.specs.declared.event.Event.{Event}
use Rattle.lu_machine.specs.declared.thread.Thread.{Thread}
use Rattle.lu_machine.specs.declared.thread.Activity.TheVariants.{Idle}
use Rattle.lu_machine.proofs.Moves.{feasible_is_move}
use Rattle.lu_serial.specs.declared.node.OpenCall.{OpenCall}
use Rattle.lu_serial.specs.Serial.{HasOpen, IsByOpen}
use Rattle.lu_serial.specs.Walks.{AreCalls, IsOpenIn, IsFull, StaysWithin, open_after, left_of, moves_left}
use Rattle.lu_serial.proofs.Opening.{Turned, step_turned, open_before, none_open, same_or_not, slice_get_set_other, slice_get_set_same}

left_set : (rows : List (List ACall)) (threads : List Thread) (t : ℕ) (x y : Thread) → slice_get threads t ≡ Some x → x.done < length (row_of rows t) → y.done ≡ x.done + 1 → left_of rows (slice_set threads t y) + 1 ≡ left_of rows threads
left_set [] threads t x y stands calls more = absurd (omega arith)
left_set (row ∷ rows) [] t x y stands calls more = absurd (cc)
left_set (row ∷ rows) (z ∷ threads) zero x y stands calls more =
    let is : z ≡ x = same_Some z x stands in
    let same : z.done ≡ x.done = ap (λ (w : Thread). w.done) is in
    let within : x.done < length row = calls in
    omega arith
left_set (row ∷ rows) (z ∷ threads) (suc t) x y stands calls more =
    let rest = left_set rows threads t x y stands calls more in
    omega arith

left_kept : (rows : List (List ACall)) (threads : List Thread) (t : ℕ) (x y : Thread) → slice_get threads t ≡ Some x → y.done ≡ x.done → left_of rows (slice_set threads t y) ≡ left_of rows threads
left_kept [] threads t x y stands same = refl
left_kept (row ∷ rows) [] t x y stands same = absurd (cc)
left_kept (row ∷ rows) (z ∷ threads) zero x y stands same =
    let is : z.done ≡ x.done = ap (λ (w : Thread). w.done) (same_Some z x stands) in
    omega arith
left_kept (row ∷ rows) (z ∷ threads) (suc t) x y stands same =
    let rest = left_kept rows threads t x y stands same in
    omega arith

-- a thread that has a call left
left_some : (rows : List (List ACall)) (threads : List Thread) (t : ℕ) (x : Thread) → slice_get threads t ≡ Some x → x.done < length (row_of rows t) → 0 < left_of rows threads
left_some rows threads t x stands calls =
    let e = left_set rows threads t x (record { done = x.done + 1; activity = x.activity }) stands calls refl in
    omega arith

one_row : (a b n : ℕ) → a + 1 ≡ b → b * n ≡ a * n + n
one_row a b n e = subst (λ x. x * n ≡ a * n + n) e (omega arith)

less_one : (a b : ℕ) → a + 1 ≡ b → b - 1 ≡ a
less_one a b e = omega arith

return_falls : (bound a b taken : ℕ) → a + 1 ≡ b → taken < bound → a * (bound + 1) < (b - 1) * (bound + 1) + (bound - taken)
return_falls bound a b taken e lt = subst (λ x. a * (bound + 1) < x * (bound + 1) + (bound - taken)) (sym (less_one a b e)) (omega arith)

call_falls : (bound b : ℕ) → 0 < b → (b - 1) * (bound + 1) + (bound - 0) < b * (bound + 1)
call_falls bound b h =
    let e : b * (bound + 1) ≡ (b - 1) * (bound + 1) + (bound + 1) = one_row (b - 1) b (bound + 1) (omega arith) in
    omega (arith, e)

left_same : (s : State) (m : Move) (new : State) (event : Option Event) (t : Turned s m new event) → left_of new.matrix.threads new.threads ≡ left_of s.matrix.threads (slice_set s.threads m.thread t.after)
left_same s m new event t = ap (λ (x : Matrix). left_of x.threads new.threads) t.matrix ∙ ap (left_of s.matrix.threads) t.threads

not_full : (bound : ℕ) (o : OpenCall) → (IsFull (Some o) bound → ⊥) → o.taken ≤ bound → o.taken < bound
not_full bound o room le = elim (cases_lt o.taken bound) [ inl lt ↦ lt | inr ge ↦ absurd (room (omega arith)) ]

more_falls : (bound : ℕ) (s new : State) (current : Option OpenCall) → (IsFull current bound → ⊥) → (t : ℕ) → HasOpen s t → IsOpenIn s current → ((o : OpenCall) → current ≡ Some o → o.taken ≤ bound) → left_of new.matrix.threads new.threads ≡ left_of s.matrix.threads s.threads → moves_left bound new (open_after current t None) < moves_left bound s current
more_falls bound s new None room t h opens few same = absurd (opens t h)
more_falls bound s new (Some o) room t h opens few same =
    let lt = not_full bound o room (few o refl) in
    subst (λ x. (x - 1) * (bound + 1) + (bound - (o.taken + 1)) < (left_of s.matrix.threads s.threads - 1) * (bound + 1) + (bound - o.taken)) (sym same) (omega arith)

return_of : (bound : ℕ) (s new : State) (current : Option OpenCall) → (IsFull current bound → ⊥) → (t : ℕ) → HasOpen s t → IsOpenIn s current → ((o : OpenCall) → current ≡ Some o → o.taken ≤ bound) → left_of new.matrix.threads new.threads + 1 ≡ left_of s.matrix.threads s.threads → moves_left bound new None < moves_left bound s current
return_of bound s new None room t h opens few e = absurd (opens t h)
return_of bound s new (Some o) room t h opens few e = return_falls bound (left_of new.matrix.threads new.threads) (left_of s.matrix.threads s.threads) o.taken e (not_full bound o room (few o refl))

call_of : (bound : ℕ) (s new : State) (current : Option OpenCall) (m : Move) → ((t : ℕ) → HasOpen s t → ⊥) → IsOpenIn s current → left_of new.matrix.threads new.threads ≡ left_of s.matrix.threads s.threads → 0 < left_of s.matrix.threads s.threads → moves_left bound new (Some (record { thread = m.thread; taken = 0 })) < moves_left bound s current
call_of bound s new None m none opens same some = subst (λ x. (x - 1) * (bound + 1) + (bound - 0) < left_of s.matrix.threads s.threads * (bound + 1)) (sym same) (call_falls bound (left_of s.matrix.threads s.threads) some)
call_of bound s new (Some o) m none opens same some = absurd (none o.thread opens.0)

-- each serial move takes one
pub falls : (bound : ℕ) (s : State) (m : Move) (new : State) (event : Option Event) (current : Option OpenCall) → Step s m new event → AreCalls s → IsByOpen s m → IsOpenIn s current → (IsFull current bound → ⊥) → ((o : OpenCall) → current ≡ Some o → o.taken ≤ bound) → moves_left bound new (open_after current m.thread event) < moves_left bound s current
falls bound s m new event current step calls by opens room few =
    let t = step_turned s m new event step in
    elim t.how [
      | inl h ↦ subst (λ e. moves_left bound new (open_after current m.thread e) < moves_left bound s current) (sym h.3)
          (call_of bound s new current m (none_open s m new event t h.0 by) opens (left_same s m new event t ∙ left_kept s.matrix.threads s.threads m.thread t.before t.after t.stands h.2) (left_some s.matrix.threads s.threads m.thread t.before t.stands h.4))
      | inr h ↦ elim h [
        | inl h ↦ subst (λ e. moves_left bound new (open_after current m.thread e) < moves_left bound s current) (sym h.3)
            (more_falls bound s new current room m.thread (open_before s m new event t h.0) opens few (left_same s m new event t ∙ left_kept s.matrix.threads s.threads m.thread t.before t.after t.stands h.2))
        | inr h ↦ subst (λ e. moves_left bound new (open_after current m.thread e) < moves_left bound s current) (sym h.3.1)
            (return_of bound s new current room m.thread (open_before s m new event t h.0) opens few (ap (λ x. x + 1) (left_same s m new event t) ∙ left_set s.matrix.threads s.threads m.thread t.before t.after t.stands (calls m.thread t.before t.stands h.0) h.2))
      ]
    ]

-- each open operation stays a call of the matrix
calls_keep : (s : State) (m : Move) (new : State) (event : Option Event) → Step s m new event → AreCalls s → AreCalls new
calls_keep s m new event step calls i x is busy =
    let t = step_turned s m new event step in
    let same : call_count new i ≡ call_count s i = ap (λ x. length (calls_of x i)) t.matrix in
    elim (same_or_not i m.thread) [
      | inl e ↦
          (let at : slice_get new.threads m.thread ≡ Some t.after = ap (λ x. slice_get x m.thread) t.threads ∙ slice_get_set_same s.threads m.thread t.after t.before t.stands in
          let after : x ≡ t.after = same_Some x t.after (sym is ∙ ap (slice_get new.threads) e ∙ at) in
          let done : x.done ≡ t.after.done = ap (λ (y : Thread). y.done) after in
          let here : call_count s i ≡ call_count s m.thread = ap (call_count s) e in
          elim t.how [
            | inl h ↦ (let lt = h.4 in let d = h.2 in omega arith)
            | inr h ↦ elim h [
              | inl h ↦ (let lt = calls m.thread t.before t.stands h.0 in let d = h.2 in omega arith)
              | inr h ↦ absurd (busy (ap (λ (y : Thread). y.activity) after ∙ h.1))
            ]
          ])
      | inr e ↦
          (let before : slice_get s.threads i ≡ Some x = sym (slice_get_set_other s.threads m.thread i t.after e) ∙ (ap (λ x. slice_get x i) (sym t.threads) ∙ is) in
          let lt = calls i x before busy in
          omega arith)
    ]

-- the path of a kid is within the limits
pub within_kid : (bound : ℕ) (u : List Move) (s : State) (current : Option OpenCall) → StaysWithin bound u s current → (m : Move) (new : State) (event : Option Event) → Step s m new event → IsFeasible s m → IsByOpen s m → IsOpenIn s current → (IsFull current bound → ⊥) → ((o : OpenCall) → current ≡ Some o → o.taken ≤ bound) → StaysWithin bound (u ++ m ∷ []) new (open_after current m.thread event)
within_kid bound u s current w m new event step f by opens room few =
    let t = step_turned s m new event step in
    let threads : length new.threads ≡ length s.threads = ap length t.threads ∙ length-set s.threads m.thread t.after in
    let longer : length (u ++ m ∷ []) ≡ length u + 1 = length-append u (m ∷ []) in
    let short = w.short in
    let lt = falls bound s m new event current step w.calls by opens room few in
    let le = w.threads in
    record {
      component = subst IsComponent (sym t.component) w.component;
      threads = omega arith;
      calls = calls_keep s m new event step w.calls;
      moves = All-push IsMove u m w.moves (feasible_is_move s w.component w.threads m f);
      short = omega arith;
    }

-- a path within the limits is a schedule
pub within_moves : (bound : ℕ) (u : List Move) (s : State) (current : Option OpenCall) → StaysWithin bound u s current → AreMoves u
within_moves bound u s current w = (let short = w.short in omega arith, w.moves)

left_at_start : (rows : List (List ACall)) → left_of rows (replicate (length rows) (record { done = 0; activity = Idle })) ≡ sum_by length rows
left_at_start [] = refl
left_at_start (row ∷ rows) =
    let rest = left_at_start rows in
    rw (sum_by-cons length row rows) (omega arith)

few_moves : (n bound : ℕ) → n ≤ 16 → bound ≤ 256 → n * (bound + 1) ≤ 4112
few_moves n bound h k =
    let more : (bound + 1) * n ≤ (bound + 1) * 16 = mul-le-mul_left (bound + 1) h in
    let turned : (bound + 1) * n ≡ n * (bound + 1) = mul_comm (bound + 1) n in
    omega (arith, more, turned)

none_idle : (n t : ℕ) (x : Thread) → slice_get (replicate n (record { done = 0; activity = Idle })) t ≡ Some x → x.activity ≡ Idle
none_idle zero t x h = cc
none_idle (suc n) zero x h = sym (ap (λ (y : Thread). y.activity) (same_Some (record { done = 0; activity = Idle }) x h))
none_idle (suc n) (suc t) x h = none_idle n t x h

-- at rest no operation is open
pub none_at_rest : (c : Component) (matrix : Matrix) (cells : List ℕ) (locks : List (Option ℕ)) (t : ℕ) → HasOpen (at_rest c matrix cells locks) t → ⊥
none_at_rest c matrix cells locks t o = o.2 (none_idle (length matrix.threads) t o.0 o.1)

-- nor at the start
pub none_at_start : (c : Component) (matrix : Matrix) (s : State) → IsStart c matrix s → (t : ℕ) → HasOpen s t → ⊥
none_at_start c matrix s is t o = none_at_rest c matrix is.end.cells is.end.locks t (subst (λ x. HasOpen x t) is.is o)

within_rest : (c : Component) (matrix : Matrix) (cells : List ℕ) (locks : List (Option ℕ)) (bound : ℕ) → IsComponent c → IsMatrix matrix → bound ≤ 256 → StaysWithin bound [] (at_rest c matrix cells locks) None
within_rest c matrix cells locks bound is are few =
    let idle : Thread = record { done = 0; activity = Idle } in
    let threads : length (replicate (length matrix.threads) idle) ≡ length matrix.threads = length-replicate (length matrix.threads) idle in
    let most = are.limits.few in
    record {
      component = is;
      threads = omega arith;
      calls = λ t x at busy. absurd (busy (none_idle (length matrix.threads) t x at));
      moves = All-nil IsMove;
      short = rw (left_at_start matrix.threads) (omega (arith, few_moves (sum_by length matrix.threads) bound are.limits.calls few));
    }

-- the empty path is within the limits
pub within_start : (c : Component) (matrix : Matrix) (s : State) (bound : ℕ) → IsStart c matrix s → IsComponent c → IsMatrix matrix → bound ≤ 256 → StaysWithin bound [] s None
within_start c matrix s bound start is are few =
    subst (λ x. StaysWithin bound [] x None) (sym start.is) (within_rest c matrix start.end.cells start.end.locks bound is are few)
