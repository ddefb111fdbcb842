-- What is found is within the limits of reports: threads are at most 7, and a serial history has at most 16 operations.
use Rattle.std.proofs.Common.{◌≡◌, ◌≢◌, ◌<◌, ◌≤◌, ◌+◌, ◌-◌, ℕ, zero, suc, List, [], ◌∷◌, ◌++◌, if◌then◌else◌, sum_by, replicate, length, slice_get, slice_set, Option, Some, None, refl, sym, ◌∙◌, ap, subst, inl, inr, arith, length-append}
use Rattle.std.proofs.lemmas.Option.{slice_get_within, same_Some, none-some}
use Rattle.std.proofs.lemmas.List.{length-set, length-replicate}
use Rattle.std.proofs.lemmas.List.Sums.{sum_by-cons}
use Rattle.lu_component.specs.Component.{Component}
use Rattle.lu_test.specs.declared.matrix.Call.{Call as ACall}
use Rattle.lu_test.specs.declared.schedule.Move.{Move}
use Rattle.lu_test.specs.Matrix.{Matrix, IsMatrix, calls_of, row_of}
use Rattle.lu_machine.specs.declared.event.Event.{Event}
use Rattle.lu_machine.specs.declared.event.Event.TheVariants.{Call, Return}
use Rattle.lu_machine.specs.declared.thread.Thread.{Thread}
use Rattle.lu_machine.specs.declared.thread.Activity.{Activity}
use Rattle.lu_machine.specs.declared.thread.Activity.TheVariants.{Idle, Open}
use Rattle.lu_machine.specs.States.{State, is_open}
use Rattle.lu_machine.specs.Starts.{IsStart}
use Rattle.lu_machine.specs.Steps.{Step}
use Rattle.lu_machine.specs.Runs.{Leads, with_event}
use Rattle.lu_history.specs.declared.serial.SerialOp.{SerialOp}
use Rattle.lu_serial.specs.Serial.{EndsAs, entries_of, stuck_of}
use Rattle.lu_serial.proofs.Opening.{step_turned}
use Rattle.lu_witness.specs.declared.judgement.Why.{Why}
use Rattle.lu_witness.specs.declared.judgement.Why.TheVariants.{Complete, Stuck}
use Rattle.lu_witness.specs.Goodness.{IsWhy}
use Rattle.lu_report.specs.declared.report.Finding.{Finding}
use Rattle.lu_report.specs.declared.report.Finding.TheVariants.{SerialCut, Nondeterministic, Fail, Pass}
use Rattle.lu_report.specs.Parts.{IsJudgement, IsWithin, IsThreadOf}
use Rattle.lu_replay.specs.Reports.{IsFinding, IsFindingAgainst}

-- ---- threads

call_of_step : (s : State) (m : Move) (new : State) (event : Option Event) (t k : ℕ) → Step s m new event → event ≡ Some (Call t k) → t < length s.threads
call_of_step s m new event t k step is =
    let turned = step_turned s m new event step in
    let within : m.thread < length s.threads = slice_get_within s.threads m.thread turned.before turned.stands in
    elim turned.how [
      | inl h ↦ (let same : Call m.thread turned.before.done ≡ Call t k = same_Some _ _ (sym h.3 ∙ is) in let e : m.thread ≡ t = (cc) in omega arith)
      | inr h ↦ elim h [
        | inl h ↦ absurd (none-some (Call t k) (sym h.3 ∙ is))
        | inr h ↦ absurd (let same : Return m.thread turned.before.done h.3.0 ≡ Call t k = same_Some _ _ (sym h.3.1 ∙ is) in cc)
      ]
    ]

-- a call of the history is of a thread of the state
call_within : (s : State) (u : List Move) (end : State) (h : List Event) → Leads s u end h → (i t k : ℕ) → slice_get h i ≡ Some (Call t k) → t < length s.threads
call_within s [] end h leads i t k at = (let none : slice_get [] i ≡ Some (Call t k) = subst (λ (x : List Event). slice_get x i ≡ Some (Call t k)) leads.1 at in absurd (none-some (Call t k) none))
call_within s (m ∷ u) end h leads i t k at =
    by_event (λ j there. call_within leads.0 u end leads.2 leads.4 j t k there) leads.1 refl (subst (λ (x : List Event). slice_get x i ≡ Some (Call t k)) leads.5 at)
  where
    same_threads : length leads.0.threads ≡ length s.threads
    same_threads = (let turned = step_turned s m leads.0 leads.1 leads.3 in ap length turned.threads ∙ length-set s.threads m.thread turned.after)

    later : ((j : ℕ) → slice_get leads.2 j ≡ Some (Call t k) → t < length leads.0.threads) → (j : ℕ) → slice_get leads.2 j ≡ Some (Call t k) → t < length s.threads
    later more j there = (let e = same_threads in let r = more j there in omega arith)

    at_head : ((j : ℕ) → slice_get leads.2 j ≡ Some (Call t k) → t < length leads.0.threads) → (event : Event) (j : ℕ) → leads.1 ≡ Some event → slice_get (event ∷ leads.2) j ≡ Some (Call t k) → t < length s.threads
    at_head more event zero is there = call_of_step s m leads.0 leads.1 t k leads.3 (is ∙ there)
    at_head more event (suc j) is there = later more j there

    by_event : ((j : ℕ) → slice_get leads.2 j ≡ Some (Call t k) → t < length leads.0.threads) → (event : Option Event) → leads.1 ≡ event → slice_get (with_event event leads.2) i ≡ Some (Call t k) → t < length s.threads
    by_event more None is there = later more i there
    by_event more (Some event) is there = at_head more event i is there

-- ---- operations of serial histories

abbrev one_if : Activity → ℕ
one_if a = if is_open a then 1 else 0

abbrev open_of : Thread → ℕ
open_of x = one_if x.activity

-- the open operation of a thread, and the calls that are to come
abbrev share : List ACall → Thread → ℕ
share calls x = (length calls - (x.done + open_of x)) + open_of x

-- how many operations can still end
abbrev room : List (List ACall) → List Thread → ℕ
room [] [] = 0
room [] (x ∷ xs) = share [] x + room [] xs
room (row ∷ rows) [] = 0
room (row ∷ rows) (x ∷ xs) = share row x + room rows xs

room_set : (rows : List (List ACall)) (threads : List Thread) (t : ℕ) (x y : Thread) → slice_get threads t ≡ Some x → room rows (slice_set threads t y) + share (row_of rows t) x ≡ room rows threads + share (row_of rows t) y
room_set rows [] t x y at = absurd (none-some x at)
room_set [] (z ∷ threads) zero x y at = (let e : share [] z ≡ share [] x = ap (share []) (same_Some z x at) in omega arith)
room_set [] (z ∷ threads) (suc t) x y at = (let r = room_set [] threads t x y at in omega arith)
room_set (row ∷ rows) (z ∷ threads) zero x y at = (let e : share row z ≡ share row x = ap (share row) (same_Some z x at) in omega arith)
room_set (row ∷ rows) (z ∷ threads) (suc t) x y at = (let r = room_set rows threads t x y at in omega arith)

open_is : (a : Activity) → a ≢ Idle → one_if a ≡ 1
open_is Idle busy = absurd (busy refl)
open_is (Open f) busy = refl

idle_is : (a : Activity) → a ≡ Idle → one_if a ≡ 0
idle_is a is = ap one_if is

-- each return ends one
step_room : (s : State) (m : Move) (new : State) (event : Option Event) → Step s m new event → length (entries_of (with_event event [])) + room new.matrix.threads new.threads ≡ room s.matrix.threads s.threads
step_room s m new event step =
    let turned = step_turned s m new event step in
    let same : room new.matrix.threads new.threads ≡ room s.matrix.threads (slice_set s.threads m.thread turned.after) =
    ap (λ (x : Matrix). room x.threads new.threads) turned.matrix ∙ ap (room s.matrix.threads) turned.threads in
    let moved = room_set s.matrix.threads s.threads m.thread turned.before turned.after turned.stands in
    let was = turned.before.done in let now = turned.after.done in let most = length (calls_of s.matrix m.thread) in
    elim turned.how [
      | inl h ↦
          (let a = idle_is turned.before.activity h.0 in let b = open_is turned.after.activity h.1 in let c : now ≡ was = h.2 in let d : was < most = h.4 in
          let e : length (entries_of (with_event event [])) ≡ 0 = ap (λ x. length (entries_of (with_event x []))) h.3 in omega (arith, same, moved, a, b, c, d, e))
      | inr h ↦ elim h [
        | inl h ↦
            (let a = open_is turned.before.activity h.0 in let b = open_is turned.after.activity h.1 in let c : now ≡ was = h.2 in
            let e : length (entries_of (with_event event [])) ≡ 0 = ap (λ x. length (entries_of (with_event x []))) h.3 in omega (arith, same, moved, a, b, c, e))
        | inr h ↦
            (let a = open_is turned.before.activity h.0 in let b = idle_is turned.after.activity h.1 in let c : now ≡ was + 1 = h.2 in
            let e : length (entries_of (with_event event [])) ≡ 1 = ap (λ x. length (entries_of (with_event x []))) h.3.1 in omega (arith, same, moved, a, b, c, e))
      ]
    ]

entries_with : (event : Option Event) (rest : List Event) → length (entries_of (with_event event rest)) ≡ length (entries_of (with_event event [])) + length (entries_of rest)
entries_with None rest = omega arith
entries_with (Some (Call t k)) rest = omega arith
entries_with (Some (Return t k outcome)) rest = omega arith

leads_room : (s : State) (u : List Move) (end : State) (h : List Event) → Leads s u end h → length (entries_of h) + room end.matrix.threads end.threads ≡ room s.matrix.threads s.threads
leads_room s [] end h leads =
    let a : length (entries_of h) ≡ 0 = ap (λ x. length (entries_of x)) leads.1 in
    let b : room end.matrix.threads end.threads ≡ room s.matrix.threads s.threads = ap (λ (x : State). room x.matrix.threads x.threads) leads.0 in
    omega arith
leads_room s (m ∷ u) end h leads =
    let a : length (entries_of h) ≡ length (entries_of (with_event leads.1 leads.2)) = ap (λ x. length (entries_of x)) leads.5 in
    let b = entries_with leads.1 leads.2 in
    let c = step_room s m leads.0 leads.1 leads.3 in
    let d = leads_room leads.0 u end leads.2 leads.4 in
    omega arith

start_room : (rows : List (List ACall)) → room rows (replicate (length rows) (record { done = 0; activity = Idle })) ≡ sum_by length rows
start_room [] = refl
start_room (row ∷ rows) = (let rest = start_room rows in let s = sum_by-cons length row rows in omega arith)

some_room : (rows : List (List ACall)) (threads : List Thread) (t : ℕ) (x : Thread) → slice_get threads t ≡ Some x → x.activity ≢ Idle → 1 ≤ room rows threads
some_room rows [] t x at busy = absurd (none-some x at)
some_room [] (z ∷ threads) zero x at busy = (let e : open_of z ≡ open_of x = ap open_of (same_Some z x at) in let o = open_is x.activity busy in omega arith)
some_room [] (z ∷ threads) (suc t) x at busy = (let r = some_room [] threads t x at busy in omega arith)
some_room (row ∷ rows) (z ∷ threads) zero x at busy = (let e : open_of z ≡ open_of x = ap open_of (same_Some z x at) in let o = open_is x.activity busy in omega arith)
some_room (row ∷ rows) (z ∷ threads) (suc t) x at busy = (let r = some_room rows threads t x at busy in omega arith)

-- a serially ended schedule has at most as many operations
ends_few : (s end : State) (u : List Move) (h : List Event) (q : List SerialOp) → Leads s u end h → EndsAs end h q → length q ≤ room s.matrix.threads s.threads
ends_few s end u h q leads ends =
    let all = leads_room s u end h leads in
    elim ends [
      | inl whole ↦ (let e : length q ≡ length (entries_of h) = ap length whole.1 in omega arith)
      | inr stops ↦
          (let e : length q ≡ length (entries_of h ++ stuck_of stops.0 ∷ []) = ap length stops.3 in
          let a = length-append (entries_of h) (stuck_of stops.0 ∷ []) in
          let r = some_room end.matrix.threads end.threads stops.0 stops.1.0 stops.1.1 stops.1.2 in
          omega arith)
    ]

module _ (c : Component) (matrix : Matrix) (s : State) (is_matrix : IsMatrix matrix) (start : IsStart c matrix s) where
  few_threads : length s.threads ≤ 8
  few_threads =
      let e : length s.threads ≡ length matrix.threads = ap (λ (x : State). length x.threads) start.is ∙ length-replicate (length matrix.threads) _ in
      let f = is_matrix.limits.few in
      omega arith

  few_operations : room s.matrix.threads s.threads ≤ 16
  few_operations =
      let e : room s.matrix.threads s.threads ≡ sum_by length matrix.threads = ap (λ (x : State). room x.matrix.threads x.threads) start.is ∙ start_room matrix.threads in
      let f = is_matrix.limits.calls in
      omega arith

  why_within : (Set : List SerialOp → Type 0) (u : List Move) (why : Why) → IsWhy Set s u why → IsThreadOf why
  why_within Set u Complete why = tt
  why_within Set u (Stuck t) why =
      let pending = why.holds.1.pending in
      let below = call_within s u why.end why.history why.leads pending.1.0.0 t pending.0 pending.1.0.1 in
      let few = few_threads in
      omega arith

  -- a finding has the limits of a report
  pub finding_within : (bound serial : ℕ) (finding : Finding) → IsFinding s bound serial finding → IsWithin finding
  finding_within bound serial (SerialCut u) is = tt
  finding_within bound serial (Nondeterministic u before earlier) is =
      let conflict = is.1 in
      let most = ends_few s conflict.ended.end u conflict.ended.history conflict.history conflict.ended.leads conflict.ended.holds in
      let here = slice_get_within conflict.history before conflict.conflict.next conflict.conflict.next_is in
      let few = few_operations in
      omega arith
  finding_within bound serial (Fail u why) is = why_within _ u why is.1.why_is
  finding_within bound serial (Pass counts) is = tt

  -- and so has one against a set, which is a failure or a pass
  pub against_within : (Set : List SerialOp → Type 0) (bound : ℕ) (finding : Finding) → IsFindingAgainst Set s bound finding → IsWithin finding × IsJudgement finding
  against_within Set bound (SerialCut u) is = absurd is
  against_within Set bound (Nondeterministic u before earlier) is = absurd is
  against_within Set bound (Fail u why) is = (why_within Set u why is.why_is, tt)
  against_within Set bound (Pass counts) is = (tt, tt)
