-- The history of a run, event by event.
use Rattle.std.proofs.Common.{arith, ◌≡◌, ℕ, ◌+◌, ◌==◌, Bool, true, false, List, [], ◌∷◌, ◌++◌, length, Some, slice_get, unwrap_or, refl, sym, ◌∙◌, ap, subst, append_assoc}
use Rattle.std.specs.Prelude.{if◌then◌else◌}
use Rattle.std.proofs.lemmas.List.{append-nil, length-append}
use Rattle.lu_test.specs.declared.matrix.Call.{Call as ACall}
use Rattle.lu_machine.specs.declared.event.Event.{Event}
use Rattle.lu_history.specs.Histories.{calls}
use Rattle.lu_history.proofs.Events.{calls-append, last_at, same_number}
use Rattle.lu_linearization.specs.Linearizations.{HasSequentialThreads}
use Rattle.lu_linearization.proofs.Sequential.{front}
use Rattle.lu_run.specs.declared.automaton.ThreadCall.{ThreadCall}
use Rattle.lu_run.specs.declared.run.RunEvent.{RunEvent}
use Rattle.lu_run.specs.declared.run.RunEvent.TheVariants.{Call as Calls, Return as Returns}
use Rattle.lu_run.specs.Judging.{call_of}
use Rattle.lu_run.specs.Runs.{history_after, history_of, next_event, numbers_of}

pub history_push : (h : List Event) (events : List RunEvent) (e : RunEvent) → history_after h (events ++ e ∷ []) ≡ history_after h events ++ next_event (history_after h events) e ∷ []
history_push h [] e = refl
history_push h (x ∷ events) e = history_push (h ++ next_event h x ∷ []) events e

-- the history of more events begins with that of these
history_front : (h : List Event) (events more : List RunEvent) → (g : List Event) × (history_after h (events ++ more) ≡ history_after h events ++ g)
history_front h [] more = grown h more
  where
    grown : (h : List Event) (more : List RunEvent) → (g : List Event) × (history_after h more ≡ h ++ g)
    grown h [] = ([], sym (append-nil h))
    grown h (e ∷ more) = (let r = grown (h ++ next_event h e ∷ []) more in (next_event h e ∷ r.0, r.1 ∙ append_assoc h (next_event h e ∷ []) r.0))
history_front h (e ∷ events) more = history_front (h ++ next_event h e ∷ []) events more

pub sequential_front : (events more : List RunEvent) → HasSequentialThreads (history_of (events ++ more)) → HasSequentialThreads (history_of events)
sequential_front events more all =
    let whole = history_front [] events more in
    front (history_of events) whole.0 (subst HasSequentialThreads whole.1 all)

-- as many calls as numbers
one_call : (t : ℕ) (h : List Event) (e : RunEvent) → calls t (next_event h e ∷ []) ≡ length (numbers_of t (e ∷ []))
one_call t h (Calls u n) = by (u == t)
  where
    by : (b : Bool) → (if b then 0 + 1 else 0) ≡ length (if b then n ∷ [] else [])
    by true = omega arith
    by false = refl
one_call t h (Returns u outcome) = refl

pub numbers-append : (t : ℕ) (xs ys : List RunEvent) → numbers_of t (xs ++ ys) ≡ numbers_of t xs ++ numbers_of t ys
numbers-append t [] ys = refl
numbers-append t (Calls u n ∷ xs) ys = by (u == t) (numbers-append t xs ys)
  where
    by : (b : Bool) → numbers_of t (xs ++ ys) ≡ numbers_of t xs ++ numbers_of t ys → (if b then n ∷ numbers_of t (xs ++ ys) else numbers_of t (xs ++ ys)) ≡ (if b then n ∷ numbers_of t xs else numbers_of t xs) ++ numbers_of t ys
    by true e = ap (λ z. n ∷ z) e
    by false e = e
numbers-append t (Returns u outcome ∷ xs) ys = numbers-append t xs ys

pub calls_after : (t : ℕ) (h : List Event) (events : List RunEvent) → calls t (history_after h events) ≡ calls t h + length (numbers_of t events)
calls_after t h [] = omega arith
calls_after t h (e ∷ events) =
    let rest = calls_after t (h ++ next_event h e ∷ []) events in
    let here = calls-append t h (next_event h e ∷ []) in
    let one = one_call t h e in
    let both = ap length (numbers-append t (e ∷ []) events) ∙ length-append (numbers_of t (e ∷ [])) (numbers_of t events) in
    omega (arith, rest, here, one, both)

-- the operation that a call begins calls what it says
pub calls_next : (table : List ACall) (done more : List RunEvent) (t n : ℕ) → call_of table (done ++ Calls t n ∷ more) (record { t = t; k = calls t (history_of done) }) ≡ record { thread = t; call = n }
calls_next table done more t n =
    let many = calls_after t [] done in
    let own : numbers_of t (Calls t n ∷ more) ≡ n ∷ numbers_of t more = ap (λ b. if b then n ∷ numbers_of t more else numbers_of t more) (same_number t) in
    let parts : numbers_of t (done ++ Calls t n ∷ more) ≡ numbers_of t done ++ n ∷ numbers_of t more = numbers-append t done (Calls t n ∷ more) ∙ ap (λ z. numbers_of t done ++ z) own in
    let place : calls t (history_of done) ≡ length (numbers_of t done) = omega (arith, many) in
    let found : slice_get (numbers_of t (done ++ Calls t n ∷ more)) (calls t (history_of done)) ≡ Some n =
    ap (slice_get (numbers_of t (done ++ Calls t n ∷ more))) place ∙ (ap (λ z. slice_get z (length (numbers_of t done))) parts ∙ last_at (numbers_of t done) (numbers_of t more) n) in
    ap (λ o. let call : ThreadCall = record { thread = t; call = unwrap_or o (length table) } in call) found
