-- Operations run alone.
use Rattle.std.proofs.Common.{arith, ◌≡◌, ◌<◌, ◌≤◌, ◌+◌, ◌⊎◌, ℕ, zero, suc, List, [], ◌∷◌, ◌++◌, append_assoc, length, slice_get, Option, Some, None, refl, sym, ◌∙◌, ap, subst, inl, inr}
use Rattle.std.proofs.lemmas.Bool.{cases_lt, lt-ltb}
use Rattle.lu_test.specs.declared.schedule.Move.{Move}
use Rattle.lu_machine.specs.declared.event.Event.{Event}
use Rattle.lu_machine.specs.declared.event.Event.TheVariants.{Call, Return}
use Rattle.lu_machine.specs.declared.event.Outcome.{Outcome}
use Rattle.lu_machine.specs.declared.thread.Thread.{Thread}
use Rattle.lu_machine.specs.declared.thread.Activity.TheVariants.{Idle}
use Rattle.lu_machine.specs.States.{State, call_count}
use Rattle.lu_machine.specs.Steps.{Step, picks_of}
use Rattle.lu_machine.specs.Runs.{Leads}
use Rattle.lu_machine.proofs.StepLaws.{feasible_step}
use Rattle.lu_machine.proofs.Paths.{leads_on}
use Rattle.lu_history.specs.declared.serial.SerialOp.{SerialOp}
use Rattle.lu_history.specs.Parts.{as_serial}
use Rattle.lu_serial.specs.Serial.{HasOpen, EndsAs, IsSeriallyCut, IsSerialHistory, stuck_of}
use Rattle.lu_serial.proofs.Opening.{How, same_or_not}
use Rattle.lu_serial.proofs.SerialPaths.{serial_on}
use Rattle.lu_serial.specs.Whole.{IsQuiet}
use Rattle.lu_serial.proofs.Moves.{Stepped, step_stepped, the_thread, open_busy, idle_or_not, done_of, done_at, done_same, done_more, done_others, HasSeats, seated, done_complete}
use Rattle.lu_serial.proofs.Serially.{LeadsSerially, serially_leads, serially_to, serially_from, serially_on, ended_run, leads_count, leads_seats}

-- no serial schedule from here is cut
abbrev pub NoCut : State → ℕ → Type 0
NoCut s bound = (u : List Move) → IsSeriallyCut s bound u → ⊥

-- what is never cut is never cut later
pub no_cut_on : (s : State) (v : List Move) (mid : State) (h : List Event) (bound : ℕ) → LeadsSerially s v mid h → NoCut s bound → NoCut mid bound
no_cut_on s v mid h bound p none u cut =
    let leads = serially_leads s v mid h p in
    let x = cut.holds in
    let taken = x.3 in
    let k = taken.call in
    none (v ++ u) (record {
      serial = serial_on s v u mid h leads (serially_to s v mid h p) cut.serial;
      end = cut.end;
      history = h ++ cut.history;
      leads = leads_on s v u mid cut.end h cut.history leads cut.leads;
      holds = (
        x.0,
        x.1,
        x.2,
        record {
          called = taken.called;
          after = taken.after;
          call = record {
            before = v ++ k.before;
            move = k.move;
            parts = ap (λ y. v ++ y) k.parts ∙ sym (append_assoc v k.before (k.move ∷ taken.after));
            idle = k.idle;
            history = h ++ k.history;
            begins = leads_on s v k.before mid k.idle h k.history leads k.begins;
            number = k.number;
            step = k.step;
          };
          count = taken.count;
          goes_on = taken.goes_on;
        },
      );
    })

abbrev pub IsOnlyOpen : State → ℕ → Type 0
IsOnlyOpen s t = (x : ℕ) → HasOpen s x → x ≡ t

-- t's operation, already called, returns
pub record Returned (s : State) (t : ℕ) : Type 0 where
  pub moves : List Move
  pub end : State
  pub number : ℕ
  pub outcome : Outcome
  pub leads : LeadsSerially s moves end (Return t number outcome ∷ [])
  pub quiet : IsQuiet end
  pub more : done_of end t ≡ done_of s t + 1
  pub others : (x : ℕ) → (x ≡ t → ⊥) → done_of end x ≡ done_of s x

-- or it is blocked, or has made n moves
pub record Held (s : State) (t n : ℕ) : Type 0 where
  pub moves : List Move
  pub end : State
  pub leads : LeadsSerially s moves end []
  pub open_still : HasOpen end t
  pub stands : (picks_of end t ≡ 0) ⊎ (length moves ≡ n) × (0 < picks_of end t)

pub open_before : (s : State) (m : Move) (new : State) (e : Option Event) → (by : Stepped s m new e) → (x : ℕ) → (x ≡ m.thread → ⊥) → HasOpen new x → HasOpen s x
open_before s m new e by x apart h = (h.0, sym (by.others x apart) ∙ h.1, h.2)

only_after : (s : State) (m : Move) (new : State) (e : Option Event) → (by : Stepped s m new e) → IsOnlyOpen s m.thread → IsOnlyOpen new m.thread
only_after s m new e by only x h =
    elim (same_or_not x m.thread) [ inl same ↦ same | inr apart ↦ only x (open_before s m new e by x apart h) ]

quiet_after : (s : State) (m : Move) (new : State) (e : Option Event) → (by : Stepped s m new e) → by.after.activity ≡ Idle → IsOnlyOpen s m.thread → IsQuiet new
quiet_after s m new e by idle only x h =
    elim (same_or_not x m.thread) [
      | inl same ↦ open_busy new m.thread by.after by.is (subst (HasOpen new) same h) idle
      | inr apart ↦ apart (only x (open_before s m new e by x apart h))
    ]

returned_later : (s : State) (m : Move) (new : State) → Step s m new None → (by : Stepped s m new None) → by.after.done ≡ by.before.done → IsOnlyOpen s m.thread → Returned new m.thread → Returned s m.thread
returned_later s m new step by same only r =
    record {
      moves = m ∷ r.moves;
      end = r.end;
      number = r.number;
      outcome = r.outcome;
      leads = (new, None, Return m.thread r.number r.outcome ∷ [], step, r.leads, refl, (λ x h. sym (only x h)));
      quiet = r.quiet;
      more = r.more ∙ ap (λ (n : ℕ). n + 1) (done_same s m new None by same m.thread);
      others = λ x apart. r.others x apart ∙ done_others s m new None by x apart;
    }

held_later : (s : State) (m : Move) (new : State) (n : ℕ) → Step s m new None → IsOnlyOpen s m.thread → Held new m.thread n → Held s m.thread (suc n)
held_later s m new n step only r =
    record {
      moves = m ∷ r.moves;
      end = r.end;
      leads = (new, None, [], step, r.leads, refl, (λ x h. sym (only x h)));
      open_still = r.open_still;
      stands = elim r.stands as (λ _. (picks_of r.end m.thread ≡ 0) ⊎ (length (m ∷ r.moves) ≡ suc n) × (0 < picks_of r.end m.thread)) [ inl blocked ↦ inl blocked | inr long ↦ inr (omega (arith, long.0), long.1) ];
    }

ended_now : (s : State) (m : Move) (new : State) (e : Option Event) → Step s m new e → (by : Stepped s m new e) → by.after.activity ≡ Idle → by.after.done ≡ by.before.done + 1 → (o : Outcome) → e ≡ Some (Return m.thread by.before.done o) → IsOnlyOpen s m.thread → Returned s m.thread
ended_now s m new e step by idle more o is only =
    record {
      moves = m ∷ [];
      end = new;
      number = by.before.done;
      outcome = o;
      leads = (new, e, [], step, (refl, refl), sym (rw is refl), (λ x h. sym (only x h)));
      quiet = quiet_after s m new e by idle only;
      more = done_more s m new e by more;
      others = done_others s m new e by;
    }

run_kind : (n : ℕ) → ((s : State) (t : ℕ) → HasOpen s t → IsOnlyOpen s t → Returned s t ⊎ Held s t n) → (s : State) (m : Move) (new : State) (e : Option Event) → HasOpen s m.thread → IsOnlyOpen s m.thread → Step s m new e → (by : Stepped s m new e) → How s m.thread by.before by.after e → Returned s m.thread ⊎ Held s m.thread (suc n)
run_kind n more s m new e busy only step by (inl called) = absurd (open_busy s m.thread by.before by.was busy called.0)
run_kind n more s m new e busy only step by (inr (inr closed)) = inl (ended_now s m new e step by closed.1 closed.2 closed.3.0 closed.3.1 only)
run_kind n more s m new e busy only step by (inr (inl went)) =
    let step' : Step s m new None = subst (λ x. Step s m new x) went.3 step in
    let by' = step_stepped s m new None step' in
    let done' : by'.after.done ≡ by'.before.done =
    (let a = the_thread new m.thread by'.after by.after by'.is by.is in
    let b = the_thread s m.thread by'.before by.before by'.was by.was in
    ap (λ (x : Thread). x.done) a ∙ (went.2 ∙ ap (λ (x : Thread). x.done) (sym b))) in
    elim (more new m.thread (by.after, by.is, went.1) (only_after s m new e by only)) [
      | inl r ↦ inl (returned_later s m new step' by' done' only r)
      | inr h ↦ inr (held_later s m new n step' only h)
    ]

blocked_now : (n : ℕ) (s : State) (t : ℕ) → HasOpen s t → picks_of s t ≡ 0 → Held s t n
blocked_now n s t busy none = record { moves = []; end = s; leads = (refl, refl); open_still = busy; stands = inl none }

-- An open operation, run alone for at most n moves.
pub run_open : (n : ℕ) (s : State) (t : ℕ) → HasOpen s t → IsOnlyOpen s t → Returned s t ⊎ Held s t n
run_open zero s t busy only =
    elim (cases_lt 0 (picks_of s t)) [
      | inl enabled ↦ inr (record { moves = []; end = s; leads = (refl, refl); open_still = busy; stands = inr (refl, enabled) })
      | inr not ↦ inr (blocked_now zero s t busy (omega arith))
    ]
run_open (suc n) s t busy only =
    elim (cases_lt 0 (picks_of s t)) [
      | inl enabled ↦
          (let m : Move = record { thread = t; pick = 0 } in
          let to = feasible_step s m enabled in
          let by = step_stepped s m to.0 to.1 to.2 in
          run_kind n (run_open n) s m to.0 to.1 busy only to.2 by by.kind)
      | inr not ↦ inr (blocked_now (suc n) s t busy (omega arith))
    ]

-- an operation from its call to its return
pub record Ran (s : State) (t : ℕ) : Type 0 where
  pub moves : List Move
  pub end : State
  pub called : ℕ
  pub number : ℕ
  pub outcome : Outcome
  pub leads : LeadsSerially s moves end (Call t called ∷ Return t number outcome ∷ [])
  pub quiet : IsQuiet end
  pub more : done_of end t ≡ done_of s t + 1
  pub others : (x : ℕ) → (x ≡ t → ⊥) → done_of end x ≡ done_of s x

-- an idle thread with a call left makes it
record Made (s : State) (t : ℕ) : Type 0 where
  pub next : State
  pub number : ℕ
  pub step : Step s (record { thread = t; pick = 0 }) next (Some (Call t number))
  pub busy : HasOpen next t
  pub only : IsOnlyOpen next t
  pub same : (x : ℕ) → done_of next x ≡ done_of s x

idle_enabled : (s : State) (t : ℕ) (a : Thread) → slice_get s.threads t ≡ Some a → a.activity ≡ Idle → a.done < call_count s t → 0 < picks_of s t
idle_enabled s t a stands idle left = rw (stands, idle, lt-ltb a.done (call_count s t) left) (omega arith)

made_by : (s : State) (t : ℕ) (a : Thread) → IsQuiet s → slice_get s.threads t ≡ Some a → a.activity ≡ Idle → a.done < call_count s t → Made s t
made_by s t a quiet stands idle left =
    let m : Move = record { thread = t; pick = 0 } in
    let to = feasible_step s m (idle_enabled s t a stands idle left) in
    let by = step_stepped s m to.0 to.1 to.2 in
    let before : by.before ≡ a = the_thread s t by.before a by.was stands in
    let idle' : by.before.activity ≡ Idle = ap (λ (x : Thread). x.activity) before ∙ idle in
    elim by.kind [
      | inl called ↦ record {
        next = to.0;
        number = by.before.done;
        step = subst (λ x. Step s m to.0 x) called.3 to.2;
        busy = (by.after, by.is, called.1);
        only = λ x h. elim (same_or_not x t) [ inl same ↦ same | inr apart ↦ absurd (quiet x (open_before s m to.0 to.1 by x apart h)) ];
        same = done_same s m to.0 to.1 by called.2;
      }
      | inr other ↦ elim other [ inl went ↦ absurd (went.0 idle') | inr closed ↦ absurd (closed.0 idle') ]
    ]

make_call : (s : State) (t : ℕ) → IsQuiet s → HasSeats s → done_of s t < call_count s t → Made s t
make_call s t quiet seats left =
    let a = seated s t seats left in
    let at = done_at s t a.0 a.1 in
    elim (idle_or_not a.0.activity) [
      | inl idle ↦ made_by s t a.0 quiet a.1 idle (omega (arith, left, at))
      | inr busy ↦ absurd (quiet t (a.0, a.1, busy))
    ]

-- the next operation of t, run alone: it returns, or it is stuck
pub run_op : (s : State) (t bound : ℕ) → IsQuiet s → HasSeats s → NoCut s bound → done_of s t < call_count s t → Ran s t ⊎ IsSerialHistory s (stuck_of t ∷ [])
run_op s t bound quiet seats none left =
    let made = make_call s t quiet seats left in
    let m : Move = record { thread = t; pick = 0 } in
    let by : (x : ℕ) → HasOpen s x → m.thread ≡ x = λ x o. absurd (quiet x o) in
    elim (run_open bound made.next t made.busy made.only) [
      | inl r ↦ inl (record {
        moves = m ∷ r.moves;
        end = r.end;
        called = made.number;
        number = r.number;
        outcome = r.outcome;
        leads = (made.next, Some (Call t made.number), Return t r.number r.outcome ∷ [], made.step, r.leads, refl, by);
        quiet = r.quiet;
        more = r.more ∙ ap (λ (n : ℕ). n + 1) (made.same t);
        others = λ x apart. r.others x apart ∙ made.same x;
      })
      | inr h ↦
          (let whole : LeadsSerially s (m ∷ h.moves) h.end (Call t made.number ∷ []) = (made.next, Some (Call t made.number), [], made.step, h.leads, refl, by) in
          elim h.stands [
            | inl blocked ↦ inr (m ∷ h.moves, ended_run s (m ∷ h.moves) h.end (Call t made.number ∷ []) (stuck_of t ∷ []) whole (inr (t, h.open_still, blocked, refl)))
            | inr long ↦ absurd (none (m ∷ h.moves) (record {
              serial = serially_to s (m ∷ h.moves) h.end (Call t made.number ∷ []) whole;
              end = h.end;
              history = Call t made.number ∷ [];
              leads = serially_leads s (m ∷ h.moves) h.end (Call t made.number ∷ []) whole;
              holds = (
                t,
                h.open_still,
                long.1,
                record {
                  called = made.next;
                  after = h.moves;
                  call = record { before = []; move = m; parts = refl; idle = s; history = []; begins = (refl, refl); number = made.number; step = made.step };
                  count = long.0;
                  goes_on = serially_leads made.next h.moves h.end [] h.leads;
                },
              );
            }))
          ])
    ]

-- the entry of an operation that ran
abbrev pub entry_of_run : (s : State) (t : ℕ) → Ran s t → SerialOp
entry_of_run s t r = record { thread = t; outcome = as_serial r.outcome }

ends_after : (end : State) (h : List Event) (q : List SerialOp) (t called number : ℕ) (o : Outcome) → EndsAs end h q → EndsAs end (Call t called ∷ Return t number o ∷ h) (record { thread = t; outcome = as_serial o } ∷ q)
ends_after end h q t called number o (inl a) = inl (a.0, ap (λ x. record { thread = t; outcome = as_serial o } ∷ x) a.1)
ends_after end h q t called number o (inr a) = inr (a.0, a.1, a.2, ap (λ x. record { thread = t; outcome = as_serial o } ∷ x) a.3)

-- a serial history after an operation
pub ran_on : (s : State) (t : ℕ) (r : Ran s t) (q : List SerialOp) → IsSerialHistory r.end q → IsSerialHistory s (entry_of_run s t r ∷ q)
ran_on s t r q z =
    let h = Call t r.called ∷ Return t r.number r.outcome ∷ z.1.history in
    let on = serially_from r.end z.0 z.1.end z.1.history z.1.serial z.1.leads in (
      r.moves ++ z.0,
      ended_run s (r.moves ++ z.0) z.1.end h (entry_of_run s t r ∷ q)
          (serially_on s r.moves z.0 r.end z.1.end (Call t r.called ∷ Return t r.number r.outcome ∷ []) z.1.history r.leads on)
          (ends_after z.1.end z.1.history q t r.called r.number r.outcome z.1.holds),
    )

abbrev pub HasSerialHistory : State → Type 0
HasSerialHistory s = (q : List SerialOp) × IsSerialHistory s q

pub ran_leads : (s : State) (t : ℕ) (r : Ran s t) → Leads s r.moves r.end (Call t r.called ∷ Return t r.number r.outcome ∷ [])
ran_leads s t r = serially_leads s r.moves r.end (Call t r.called ∷ Return t r.number r.outcome ∷ []) r.leads

pub ran_seats : (s : State) (t : ℕ) (r : Ran s t) → HasSeats s → HasSeats r.end
ran_seats s t r seats = leads_seats s r.moves r.end (Call t r.called ∷ Return t r.number r.outcome ∷ []) (ran_leads s t r) seats

pub ran_count : (s : State) (t : ℕ) (r : Ran s t) → (x : ℕ) → call_count r.end x ≡ call_count s x
ran_count s t r = leads_count s r.moves r.end (Call t r.called ∷ Return t r.number r.outcome ∷ []) (ran_leads s t r)

pub ran_no_cut : (s : State) (t bound : ℕ) (r : Ran s t) → NoCut s bound → NoCut r.end bound
ran_no_cut s t bound r none = no_cut_on s r.moves r.end (Call t r.called ∷ Return t r.number r.outcome ∷ []) bound r.leads none

-- the threads from n on have made all their calls
abbrev IsDoneFrom : ℕ → State → Type 0
IsDoneFrom n s = (x : ℕ) → n ≤ x → call_count s x ≤ done_of s x

-- all calls of thread n, one after another
finish_thread : (n bound : ℕ) → ((s : State) → IsQuiet s → HasSeats s → NoCut s bound → IsDoneFrom n s → HasSerialHistory s) → (left : ℕ) (s : State) → IsQuiet s → HasSeats s → NoCut s bound → call_count s n ≤ done_of s n + left → IsDoneFrom (suc n) s → HasSerialHistory s
finish_thread n bound rest zero s quiet seats none few above =
    rest s quiet seats none (λ x h. elim (same_or_not x n) as (λ _. call_count s x ≤ done_of s x) [
      | inl same ↦ subst (λ y. call_count s y ≤ done_of s y) (sym same) (omega (arith, few))
      | inr apart ↦ above x (elim (cases_lt n x) as (λ _. suc n ≤ x) [ inl lt ↦ omega (arith, lt) | inr ge ↦ absurd (apart (omega (arith, ge, h))) ])
    ])
finish_thread n bound rest (suc left) s quiet seats none few above =
    elim (cases_lt (done_of s n) (call_count s n)) as (λ _. HasSerialHistory s) [
      | inr all ↦ finish_thread n bound rest left s quiet seats none (omega (arith, all)) above
      | inl some ↦ elim (run_op s n bound quiet seats none some) [
        | inl r ↦
            (let fewer = r.more in
            let count = ran_count s n r in
            let here = count n in
            let more = finish_thread n bound rest left r.end r.quiet (ran_seats s n r seats) (ran_no_cut s n bound r none) (omega (arith, few, fewer, here)) (λ x h.
            (let others = r.others x (λ e. absurd (omega (arith, e, h))) in
            let same = count x in
            let le = above x h in
            omega (arith, others, same, le))) in
            (entry_of_run s n r ∷ more.0, ran_on s n r more.0 more.1))
        | inr stuck ↦ (stuck_of n ∷ [], stuck)
      ]
    ]

finish_below : (n bound : ℕ) (s : State) → IsQuiet s → HasSeats s → NoCut s bound → IsDoneFrom n s → HasSerialHistory s
finish_below zero bound s quiet seats none above =
    ([], ([], ended_run s [] s [] [] (refl, refl) (inl (done_complete s quiet (λ t. above t (omega arith)), refl))))
finish_below (suc n) bound s quiet seats none above = finish_thread n bound (finish_below n bound) (call_count s n) s quiet seats none (omega arith) above

-- where nothing is cut, some serially ended schedule goes on from here
pub some_serial : (bound : ℕ) (s : State) → IsQuiet s → HasSeats s → NoCut s bound → HasSerialHistory s
some_serial bound s quiet seats none =
    finish_below (length s.threads) bound s quiet seats none (λ x h. elim (cases_lt 0 (call_count s x)) as (λ _. call_count s x ≤ done_of s x) [
      | inl some ↦ (let within = seats x some in absurd (omega (arith, within, h)))
      | inr zero_here ↦ omega (arith, zero_here)
    ])
