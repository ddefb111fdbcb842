-- The order of a linearization, step by step.
use Rattle.std.proofs.Common.{arith, ◌≡◌, ◌≢◌, ℕ, zero, suc, ◌+◌, ◌≤◌, List, [], ◌∷◌, ◌++◌, length, Option, Some, None, slice_get, refl, sym, ◌∙◌, ap, subst, append_assoc}
use Rattle.std.specs.Prelude.{if◌then◌else◌}
use Rattle.std.proofs.lemmas.Bool.{ne_eqb}
use Rattle.std.proofs.lemmas.List.{append-nil}
use Rattle.std.proofs.lemmas.Option.{slice_get_past}
use Rattle.lu_test.specs.declared.matrix.Call.{Call as ACall}
use Rattle.lu_machine.specs.declared.event.Event.{Event}
use Rattle.lu_machine.specs.declared.event.Event.TheVariants.{Call, Return}
use Rattle.lu_machine.specs.declared.event.Outcome.{Outcome}
use Rattle.lu_history.specs.declared.operation.OpId.{OpId}
use Rattle.lu_history.specs.declared.serial.SerialOp.{SerialOp}
use Rattle.lu_history.specs.declared.serial.SerialOutcome.{SerialOutcome}
use Rattle.lu_history.specs.Histories.{outcomes}
use Rattle.lu_history.specs.Parts.{as_serial}
use Rattle.lu_history.proofs.Events.{last_at, same_number}
use Rattle.lu_history.proofs.Keeping.{calls_same, outcomes_more, outcomes_same}
use Rattle.lu_witness.specs.Witnesses.{entries}
use Rattle.lu_witness.specs.Search.{next_of}
use Rattle.lu_witness.proofs.Entries.{entries-append, entries_own}
use Rattle.lu_client.specs.Alone.{Rest}
use Rattle.lu_linearization.specs.Linearizations.{ComesNext, HasOutcome, HasSequentialThreads, IsLinearization}
use Rattle.lu_linearization.specs.Configurations.{IsAutomaton, Reads, effects_in, pending_call}
use Rattle.lu_linearization.proofs.Configured.{waiting_tells}
use Rattle.lu_linearization.proofs.Ended.{has_returned}
use Rattle.lu_linearization.proofs.Goes.{call_keeps, put_goes_on, return_goes_on}
use Rattle.lu_linearization.proofs.Sequential.{last}
use Rattle.lu_run.specs.declared.ordering.RunOperation.{RunOperation}
use Rattle.lu_run.specs.declared.run.RunEvent.{RunEvent}
use Rattle.lu_run.specs.Judging.{call_of}
use Rattle.lu_run.specs.Ordering.{HaveCalls, entries_of, entry_of}

-- ---- one entry more

none_past : {A : Type 0} (xs : List A) (i : ℕ) → slice_get xs i ≡ None → length xs ≤ i
none_past [] i is = omega arith
none_past (x ∷ xs) zero is = absurd cc
none_past (x ∷ xs) (suc i) is = let rest = none_past xs i is in omega (arith, rest)

own_push : (q : List SerialOp) (op : SerialOp) → entries op.thread (q ++ op ∷ []) ≡ entries op.thread q ++ op.outcome ∷ []
own_push q op = entries-append op.thread q (op ∷ []) ∙ ap (λ x. entries op.thread q ++ x) (entries_own op [])

other_push : (q : List SerialOp) (op : SerialOp) (t : ℕ) → t ≢ op.thread → entries t (q ++ op ∷ []) ≡ entries t q
other_push q op t other =
    entries-append t q (op ∷ [])
    ∙ (ap (λ b. entries t q ++ (if b then op.outcome ∷ [] else [])) (ne_eqb op.thread t (λ same. other (sym same))) ∙ append-nil (entries t q))

pub entries_pushed : (order : List RunOperation) (one : RunOperation) → entries_of (order ++ one ∷ []) ≡ entries_of order ++ entry_of one ∷ []
entries_pushed [] one = refl
entries_pushed (x ∷ order) one = ap (λ z. entry_of x ∷ z) (entries_pushed order one)

calls_pushed_after : (calls : List ACall) (events : List RunEvent) (before : List SerialOp) (order : List RunOperation) (one : RunOperation) → HaveCalls calls events before order → call_of calls events (next_of (before ++ entries_of order) (entry_of one)) ≡ record { thread = one.thread; call = one.call } → HaveCalls calls events before (order ++ one ∷ [])
calls_pushed_after calls events before [] one have is = (subst (λ x. call_of calls events (next_of x (entry_of one)) ≡ record { thread = one.thread; call = one.call }) (append-nil before) is, tt)
calls_pushed_after calls events before (x ∷ order) one have is = (have.0, calls_pushed_after calls events (before ++ entry_of x ∷ []) order one have.1 (subst (λ y. call_of calls events (next_of y (entry_of one)) ≡ record { thread = one.thread; call = one.call }) (sym (append_assoc before (entry_of x ∷ []) (entries_of order))) is))

pub calls_pushed : (calls : List ACall) (events : List RunEvent) (order : List RunOperation) (one : RunOperation) → HaveCalls calls events [] order → call_of calls events (next_of (entries_of order) (entry_of one)) ≡ record { thread = one.thread; call = one.call } → HaveCalls calls events [] (order ++ one ∷ [])
calls_pushed calls events order one have is = calls_pushed_after calls events [] order one have is

-- ---- a linearization of a history, and its effects

module _ (LeadsTo : List SerialOp → Rest → Type 0) (q : List SerialOp) (h : List Event) (line : IsLinearization (Reads LeadsTo) q h) (effects : ℕ → Option SerialOutcome) (had : (t : ℕ) → effects_in q h t ≡ effects t) where
  -- what has returned counts, and no more
  in_more : (g : List Event) (t : ℕ) → length (outcomes t g) ≡ length (outcomes t h) → effects_in q g t ≡ effects t
  in_more g t same = ap (λ n. slice_get (entries t q) n) same ∙ had t

  pub line_called : (a : OpId) → IsLinearization (Reads LeadsTo) q (h ++ Call a.t a.k ∷ [])
  line_called a = call_keeps (Reads LeadsTo) q h a line

  pub effects_called : (a : OpId) (t : ℕ) → effects_in q (h ++ Call a.t a.k ∷ []) t ≡ effects t
  effects_called a t = in_more (h ++ Call a.t a.k ∷ []) t (ap length (outcomes_same t a.t a.k h))

  -- after a return
  module _ (a : OpId) (o : Outcome) (next : HasSequentialThreads (h ++ Return a.t a.k o ∷ [])) (took : effects a.t ≡ Some (as_serial o)) where
    number : ComesNext h (Return a.t a.k o)
    number = last h [] (Return a.t a.k o) next

    pub line_returned : IsLinearization (Reads LeadsTo) q (h ++ Return a.t a.k o ∷ [])
    line_returned =
        let outcome : HasOutcome q a (as_serial o) = ap (λ n. slice_get (entries a.t q) n) (sym number.1) ∙ (had a.t ∙ took) in
        (return_goes_on (Reads LeadsTo) q h a o).1 (line, outcome)

    one : length (outcomes a.t (h ++ Return a.t a.k o ∷ [])) ≡ length (outcomes a.t h) + 1
    one = outcomes_more a.t a.t a.k o h ∙ ap (λ b. length (outcomes a.t h) + (if b then 1 else 0)) (same_number a.t)

    pub effects_own : effects_in q (h ++ Return a.t a.k o ∷ []) a.t ≡ None
    effects_own =
        let few = line_returned.called a.t in
        let same = calls_same a.t a.t a.k o h in
        slice_get_past (entries a.t q) (length (outcomes a.t (h ++ Return a.t a.k o ∷ []))) (omega (arith, few, same, number.0, number.1, one))

    pub effects_other : (u : ℕ) → u ≢ a.t → effects_in q (h ++ Return a.t a.k o ∷ []) u ≡ effects u
    effects_other u other =
        let none : length (outcomes u (h ++ Return a.t a.k o ∷ [])) ≡ length (outcomes u h) + 0 = outcomes_more u a.t a.k o h ∙ ap (λ b. length (outcomes u h) + (if b then 1 else 0)) (ne_eqb a.t u (λ same. other (sym same))) in
        in_more (h ++ Return a.t a.k o ∷ []) u (omega (arith, none))

  -- after a pending operation has taken effect
  module _ {C : Type 0} (Next : Rest → C → SerialOutcome → Rest → Type 0) (call : OpId → C) (auto : IsAutomaton LeadsTo Next call) (is : HasSequentialThreads h) (op : SerialOp) (made : C) (waits : pending_call call h op.thread ≡ Some made) (absent : effects op.thread ≡ None) where
    as_many : length (entries op.thread q) ≡ length (outcomes op.thread h)
    as_many =
        let few = none_past (entries op.thread q) (length (outcomes op.thread h)) (had op.thread ∙ absent) in
        let enough = has_returned q h is line.outcomes op.thread in
        omega (arith, few, enough)

    pub call_made : call (next_of q op) ≡ made
    call_made = ap (λ k. call (record { t = op.thread; k = k })) as_many ∙ (waiting_tells call h op.thread made waits).1

    pub leads_put : (x y : Rest) → LeadsTo q x → Next x made op.outcome y → LeadsTo (q ++ op ∷ []) y
    leads_put x y at next = (auto q op y).1 (x, at, subst (λ m. Next x m op.outcome y) (sym call_made) next)

    pub line_put : (y : Rest) → LeadsTo (q ++ op ∷ []) y → IsLinearization (Reads LeadsTo) (q ++ op ∷ []) h
    line_put y leads =
        let fewer = (waiting_tells call h op.thread made waits).0 in
        (put_goes_on (Reads LeadsTo) q h op line (omega (arith, as_many, fewer))).1 (y, leads)

    pub effects_put : effects_in (q ++ op ∷ []) h op.thread ≡ Some op.outcome
    effects_put =
        ap (λ n. slice_get (entries op.thread (q ++ op ∷ [])) n) (sym as_many)
        ∙ (ap (λ x. slice_get x (length (entries op.thread q))) (own_push q op) ∙ last_at (entries op.thread q) [] op.outcome)

    pub effects_stay : (t : ℕ) → t ≢ op.thread → effects_in (q ++ op ∷ []) h t ≡ effects t
    effects_stay t other = ap (λ x. slice_get x (length (outcomes t h))) (other_push q op t other) ∙ had t
