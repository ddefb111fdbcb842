-- An operation of a serial schedule is its call made alone.
use Rattle.std.proofs.Common.{arith, ◌≡◌, ◌≢◌, ◌↔◌, ℕ, zero, suc, ◌+◌, ◌<◌, ◌≤◌, List, [], ◌∷◌, ◌++◌, length, replicate, Option, Some, slice_get, slice_set, refl, sym, ◌∙◌, ap, subst, inl, inr, length-append}
use Rattle.std.proofs.lemmas.List.{length-replicate}
use Rattle.std.proofs.lemmas.Option.{slice_get_within}
use Rattle.lu_component.specs.Component.{Component}
use Rattle.lu_test.specs.declared.matrix.Call.{Call as ACall}
use Rattle.lu_test.specs.declared.schedule.Move.{Move}
use Rattle.lu_test.specs.Matrix.{Matrix, calls_of, row_of, thread_count}
use Rattle.lu_machine.specs.declared.event.Event.{Event}
use Rattle.lu_machine.specs.declared.thread.Thread.{Thread}
use Rattle.lu_machine.specs.declared.thread.Activity.TheVariants.{Idle}
use Rattle.lu_machine.specs.States.{State, call_count}
use Rattle.lu_machine.specs.Steps.{picks_of}
use Rattle.lu_machine.specs.Runs.{Leads, with_event}
use Rattle.lu_machine.proofs.Undoing.{moved_there}
use Rattle.lu_history.specs.declared.serial.SerialOp.{SerialOp}
use Rattle.lu_history.specs.declared.serial.SerialOutcome.{SerialOutcome}
use Rattle.lu_serial.specs.Serial.{HasOpen, entries_of}
use Rattle.lu_serial.proofs.Opening.{How, same_or_not, slice_get_set_other}
use Rattle.lu_serial.specs.Whole.{IsQuiet}
use Rattle.lu_serial.proofs.Cuts.{made_within}
use Rattle.lu_serial.proofs.Counts.{made_of, made_open, made_quiet}
use Rattle.lu_serial.proofs.Grounds.{Ground, none_on}
use Rattle.lu_serial.proofs.Moves.{HasSeats, Stepped, count_same, done_at, done_in, done_more, done_of, done_others, done_same, idle_or_not, open_busy, seated, step_stepped}
use Rattle.lu_serial.proofs.Ops.{IsOnlyOpen}
use Rattle.lu_serial.proofs.Serially.{LeadsSerially, serially_leads}
use Rattle.lu_client.specs.Alone.{AllBy, Holds, HoldsFrom, IsBefore, Plays, PlaysFrom, Rest, before_call, one_call, rest_of}
use Rattle.lu_client.proofs.Carried.{picks_over, seen}
use Rattle.lu_client.proofs.CarriedRuns.{HasSameCalls, carry_run, only_set}
use Rattle.lu_client.proofs.Chains.{OneOp, OpenPart, only_after}
use Rattle.lu_client.proofs.Clients.{left_of_how}

-- ---- one operation, over another matrix

pub within_some : {A : Type 0} (xs : List A) (k : ℕ) → k < length xs → (x : A) × (slice_get xs k ≡ Some x)
within_some [] k h = absurd (omega arith)
within_some (x ∷ xs) zero h = (x, refl)
within_some (x ∷ xs) (suc k) h = within_some xs k (omega arith)

module _ (x : State) (matrix : Matrix) (threads : List Thread) (t : ℕ) (was mine : Thread) (stands : slice_get x.threads t ≡ Some was) (there : slice_get threads t ≡ Some mine) (idle : was.activity ≡ Idle) (mine_idle : mine.activity ≡ Idle) (call : slice_get (calls_of matrix t) mine.done ≡ slice_get (calls_of x.matrix t) was.done) (quiet : IsQuiet (seen x matrix threads)) where
  abbrev y : State
  y = seen x matrix threads

  same_first : (end : State) → made_of end t ≡ was.done + 1 → HasSameCalls x t end matrix was mine
  same_first end few j le =
      let z : j ≡ 0 = omega (arith, few, le) in
      let a : mine.done + 0 ≡ mine.done = omega arith in
      let b : was.done ≡ was.done + 0 = omega arith in
      subst (λ k. slice_get (calls_of matrix t) (mine.done + k) ≡ slice_get (calls_of x.matrix t) (was.done + k)) (sym z)
      (ap (slice_get (calls_of matrix t)) a ∙ call ∙ ap (slice_get (calls_of x.matrix t)) b)

  only_y : IsOnlyOpen y t
  only_y i h = absurd (quiet i h)

  left_y : was.done < call_count x t → done_of y t < call_count y t
  left_y left =
      let some = within_some (calls_of x.matrix t) was.done left in
      let within = slice_get_within (calls_of matrix t) mine.done some.0 (call ∙ some.1) in
      let at = done_at y t mine there in
      omega (arith, within, at)

  pub op_over : (o : SerialOutcome) (end : State) → OneOp x (record { thread = t; outcome = o }) end → (other : State) × OneOp y (record { thread = t; outcome = o }) other × (rest_of other ≡ rest_of end)
  op_over o end one =
      let here = done_at x t was stands in
      let more = one.more in
      let quiet_end = made_quiet end t (one.quiet t) in
      let r = carry_run one.moves x end one.history t matrix threads was mine one.by (serially_leads x one.moves end one.history one.leads) stands there (mine_idle ∙ sym idle) only_y (same_first end (omega (arith, here, more, quiet_end))) in
      let other : State = seen end matrix (slice_set threads t r.beside) in
      let at : slice_get (slice_set threads t r.beside) t ≡ Some r.beside = moved_there y t r.beside mine there in
      let now_idle : r.now.activity ≡ Idle = elim (idle_or_not r.now.activity) [ inl is ↦ is | inr busy ↦ absurd (one.quiet t (r.now, r.is, busy)) ] in
      let calm : IsQuiet other = (λ i h. elim (same_or_not i t) [
        | inl same ↦ open_busy other t r.beside at (subst (HasOpen other) same h) (r.alike ∙ now_idle)
        | inr apart ↦ quiet i (h.0, sym (slice_get_set_other threads t i r.beside apart) ∙ h.1, h.2)
      ]) in
      let now_done = done_at end t r.now r.is in
      let beside_done = done_at other t r.beside at in
      let mine_done = done_at y t mine there in
      let sum = r.done in
      let left = one.left in (
        other,
        record {
          moves = one.moves;
          history = r.history;
          leads = r.leads;
          by = one.by;
          quiet = calm;
          entries = r.entries ∙ one.entries;
          left = left_y (omega (arith, here, left));
          more = omega (arith, now_done, beside_done, mine_done, sum, more, here);
          others = λ i apart. ap done_in (slice_get_set_other threads t i r.beside apart);
        },
        refl,
      )

  pub part_over : (moves : List Move) (end : State) → OpenPart x t moves end → (other : State) × OpenPart y t moves other × (picks_of other t ≡ picks_of end t)
  part_over moves end part =
      let here = done_at x t was stands in
      let same = part.same in
      let made = made_open end t part.busy in
      let r = carry_run moves x end part.history t matrix threads was mine part.by (serially_leads x moves end part.history part.leads) stands there (mine_idle ∙ sym idle) only_y (same_first end (omega (arith, here, same, made))) in
      let rows = slice_set threads t r.beside in
      let other : State = seen end matrix rows in
      let at : slice_get rows t ≡ Some r.beside = moved_there y t r.beside mine there in
      let busy : r.now.activity ≢ Idle = open_busy end t r.now r.is part.busy in
      let now_done = done_at end t r.now r.is in
      let beside_done = done_at other t r.beside at in
      let mine_done = done_at y t mine there in
      let sum = r.done in
      let left = part.left in (
        other,
        record {
          history = r.history;
          leads = r.leads;
          by = part.by;
          some = part.some;
          busy = (r.beside, at, (λ e. busy (sym r.alike ∙ e)));
          only = only_set x matrix threads t r.beside only_y end;
          entries = r.entries ∙ part.entries;
          left = left_y (omega (arith, here, left));
          same = omega (arith, now_done, beside_done, mine_done, sum, same, here);
        },
        picks_over matrix rows end t r.now r.beside r.now.activity r.is at refl r.alike busy,
      )

-- ---- schedules of one thread

-- how many operations have ended, and the other threads
pub record ByOne (s end : State) (t : ℕ) (h : List Event) : Type 0 where
  pub ended : done_of end t ≡ done_of s t + length (entries_of h)
  pub others : (i : ℕ) → (i ≡ t → ⊥) → done_of end i ≡ done_of s i
  pub only : IsOnlyOpen s t → IsOnlyOpen end t

step_counts : (s : State) (m : Move) (new : State) (e : Option Event) → (by : Stepped s m new e) → How s m.thread by.before by.after e → (h : List Event) → done_of new m.thread + length (entries_of h) ≡ done_of s m.thread + length (entries_of (with_event e h))
step_counts s m new e by (inl called) h =
    let none : length (entries_of (with_event e h)) ≡ length (entries_of h) = ap (λ x. length (entries_of (with_event x h))) called.3 in
    let same = done_same s m new e by called.2 m.thread in
    omega (arith, none, same)
step_counts s m new e by (inr (inl went)) h =
    let none : length (entries_of (with_event e h)) ≡ length (entries_of h) = ap (λ x. length (entries_of (with_event x h))) went.3 in
    let same = done_same s m new e by went.2 m.thread in
    omega (arith, none, same)
step_counts s m new e by (inr (inr closed)) h =
    let one : length (entries_of (with_event e h)) ≡ suc (length (entries_of h)) = ap (λ x. length (entries_of (with_event x h))) closed.3.1 in
    let more = done_more s m new e by closed.2 in
    omega (arith, one, more)

pub by_one : (u : List Move) (s end : State) (t : ℕ) (h : List Event) → AllBy t u → Leads s u end h → ByOne s end t h
by_one [] s end t h by p =
    let none : length (entries_of h) ≡ 0 = ap (λ x. length (entries_of x)) p.1 in
    let same : done_of end t ≡ done_of s t = ap (λ x. done_of x t) p.0 in
    record {
      ended = omega (arith, none, same);
      others = λ i apart. ap (λ x. done_of x i) p.0;
      only = λ only. subst (λ x. IsOnlyOpen x t) (sym p.0) only;
    }
by_one (m ∷ u) s end t h by p =
    subst (λ x. AllBy x u → ByOne s end x h) by.0
    (λ rest. (let its = step_stepped s m p.0 p.1 p.3 in
    let on = by_one u p.0 end m.thread p.2 rest p.4 in
    let first = step_counts s m p.0 p.1 its its.kind p.2 in
    let whole : length (entries_of h) ≡ length (entries_of (with_event p.1 p.2)) = ap (λ x. length (entries_of x)) p.5 in
    let ended = on.ended in
    record {
      ended = omega (arith, first, whole, ended);
      others = λ i apart. on.others i apart ∙ done_others s m p.0 p.1 its i apart;
      only = λ only. on.only (only_after s m p.0 p.1 its only);
    })) by.1

-- where no other thread has a call, all moves are of this one
alone_by : (u : List Move) (s end : State) (t : ℕ) (h : List Event) → ((i : ℕ) → (i ≡ t → ⊥) → call_count s i ≡ 0) → IsOnlyOpen s t → Leads s u end h → AllBy t u × LeadsSerially s u end h
alone_by [] s end t h none only p = (tt, p)
alone_by (m ∷ u) s end t h none only p =
    let its = step_stepped s m p.0 p.1 p.3 in
    let same : m.thread ≡ t = elim (same_or_not m.thread t) [
      | inl same ↦ same
      | inr apart ↦ absurd (apart (elim (idle_or_not its.before.activity) [
        | inl idle ↦ (let left = left_of_how s m.thread its.before its.after p.1 its.kind idle in let zero_here = none m.thread apart in absurd (omega (arith, left, zero_here)))
        | inr busy ↦ only m.thread (its.before, its.was, busy)
      ]))
    ] in
    let only_next : IsOnlyOpen p.0 t = subst (λ x. IsOnlyOpen s x → IsOnlyOpen p.0 x) same (only_after s m p.0 p.1 its) only in
    let rest = alone_by u p.0 end t p.2 (λ i apart. count_same s p.0 i its.matrix ∙ none i apart) only_next p.4 in
    ((same, rest.0), (p.0, p.1, p.2, p.3, rest.1, p.5, (λ i o. same ∙ sym (only i o))))

-- ---- the matrix of one call

row_one : (t : ℕ) (call : ACall) → row_of (replicate t [] ++ (call ∷ []) ∷ []) t ≡ call ∷ []
row_one zero call = refl
row_one (suc t) call = row_one t call

row_other : (t i : ℕ) (call : ACall) → (i ≡ t → ⊥) → length (row_of (replicate t [] ++ (call ∷ []) ∷ []) i) ≡ 0
row_other zero zero call apart = absurd (apart refl)
row_other zero (suc i) call apart = refl
row_other (suc t) zero call apart = refl
row_other (suc t) (suc i) call apart = row_other t i call (λ e. apart (ap suc e))

abbrev pub idle_thread : Thread
idle_thread = record { done = 0; activity = Idle }

replicate_at : (n t : ℕ) → t < n → slice_get (replicate n idle_thread) t ≡ Some idle_thread
replicate_at zero t h = absurd (omega arith)
replicate_at (suc n) zero h = refl
replicate_at (suc n) (suc t) h = replicate_at n t (omega arith)

one_more_thread : (t : ℕ) (call : ACall) → t < thread_count (one_call t call)
one_more_thread t call =
    let none : List ACall = [] in
    let l = length-append (replicate t none) ((call ∷ []) ∷ []) in
    let k = length-replicate t none in
    omega (arith, l, k)

module _ (c : Component) (rest : Rest) (t : ℕ) (call : ACall) where
  abbrev x : State
  x = before_call c rest t call

  abbrev ground : Ground
  ground = record { component = c; cells = rest.cells; locks = rest.locks }

  pub x_stands : slice_get x.threads t ≡ Some idle_thread
  x_stands = replicate_at (thread_count (one_call t call)) t (one_more_thread t call)

  pub x_quiet : IsQuiet x
  x_quiet i h = none_on ground (one_call t call) i h

  x_only : IsOnlyOpen x t
  x_only i h = absurd (x_quiet i h)

  x_call : slice_get (calls_of (one_call t call) t) 0 ≡ Some call
  x_call = ap (λ r. slice_get r 0) (row_one t call)

  pub x_count : call_count x t ≡ 1
  x_count = ap length (row_one t call)

  x_none : (i : ℕ) → (i ≡ t → ⊥) → call_count x i ≡ 0
  x_none i apart = row_other t i call apart

  x_done : done_of x t ≡ 0
  x_done = done_at x t idle_thread x_stands

  x_made : (u : List Move) (end : State) (h : List Event) → Leads x u end h → made_of end t ≤ 1
  x_made u end h p = let within = made_within ground (one_call t call) u end h p t in let count = x_count in omega (arith, within, count)

  op_here : (o : SerialOutcome) (u : List Move) (end : State) (h : List Event) → Leads x u end h → entries_of h ≡ record { thread = t; outcome = o } ∷ [] → OneOp x (record { thread = t; outcome = o }) end
  op_here o u end h p is =
      let alone = alone_by u x end t h x_none x_only p in
      let by = by_one u x end t h alone.0 p in
      let ended = by.ended in
      let one : length (entries_of h) ≡ 1 = ap (λ q. length q) is in
      let few = x_made u end h p in
      let done = x_done in
      let count = x_count in
      record {
        moves = u;
        history = h;
        leads = alone.1;
        by = alone.0;
        quiet = λ i o.
            (let same : i ≡ t = by.only x_only i o in
            let busy : HasOpen end t = subst (HasOpen end) same o in
            let made = made_open end t busy in
            absurd (omega (arith, made, few, ended, one, done)));
        entries = is;
        left = omega (arith, done, count);
        more = omega (arith, ended, one);
        others = by.others;
      }

  no_entries : (q : List SerialOp) → length q ≡ 0 → q ≡ []
  no_entries [] e = refl
  no_entries (op ∷ q) e = absurd (omega (arith, e))

  part_here : (m : Move) (u : List Move) (end : State) (h : List Event) → Leads x (m ∷ u) end h → HasOpen end t → OpenPart x t (m ∷ u) end
  part_here m u end h p busy =
      let alone = alone_by (m ∷ u) x end t h x_none x_only p in
      let by = by_one (m ∷ u) x end t h alone.0 p in
      let ended = by.ended in
      let few = x_made (m ∷ u) end h p in
      let made = made_open end t busy in
      let done = x_done in
      let count = x_count in
      record {
        history = h;
        leads = alone.1;
        by = alone.0;
        some = (m, u, refl);
        busy = busy;
        only = by.only x_only;
        entries = no_entries (entries_of h) (omega (arith, ended, few, made));
        left = omega (arith, done, count);
        same = omega (arith, ended, few, made, done);
      }

-- ---- a call made alone, and the operation

pub is_before : (s : State) (t : ℕ) (call : ACall) → IsQuiet s → HasSeats s → slice_get (calls_of s.matrix t) (done_of s t) ≡ Some call → IsBefore s t call
is_before s t call quiet seats next =
    let left = slice_get_within (calls_of s.matrix t) (done_of s t) call next in
    let a = seated s t seats left in
    record {
      quiet = quiet;
      was = a.0;
      stands = a.1;
      idle = elim (idle_or_not a.0.activity) [ inl idle ↦ idle | inr busy ↦ absurd (quiet t (a.0, a.1, busy)) ];
      next = ap (slice_get (calls_of s.matrix t)) (sym (done_at s t a.0 a.1)) ∙ next;
    }

module _ (s : State) (t : ℕ) (call : ACall) (before : IsBefore s t call) where
  pub plays_from : (o : SerialOutcome) (end : State) → OneOp s (record { thread = t; outcome = o }) end → Plays s.component (rest_of s) t call o (rest_of end)
  plays_from o end one =
      let threads = replicate (thread_count (one_call t call)) idle_thread in
      let made = op_over s (one_call t call) threads t before.was idle_thread before.stands (x_stands s.component (rest_of s) t call) before.idle refl (x_call s.component (rest_of s) t call ∙ sym before.next) (x_quiet s.component (rest_of s) t call) o end one in
      record {
        moves = made.1.moves;
        end = made.0;
        history = made.1.history;
        leads = serially_leads (before_call s.component (rest_of s) t call) made.1.moves made.0 made.1.history made.1.leads;
        returns = made.1.entries;
        leaves = made.2;
      }

  pub plays_to : (o : SerialOutcome) (after : Rest) → Plays s.component (rest_of s) t call o after → (end : State) × OneOp s (record { thread = t; outcome = o }) end × (rest_of end ≡ after)
  plays_to o after p =
      let one = op_here s.component (rest_of s) t call o p.moves p.end p.history p.leads p.returns in
      let made = op_over (before_call s.component (rest_of s) t call) s.matrix s.threads t idle_thread before.was (x_stands s.component (rest_of s) t call) before.stands refl before.idle (before.next ∙ sym (x_call s.component (rest_of s) t call)) before.quiet o p.end one in
      (made.0, made.1, made.2 ∙ p.leaves)

  pub holds_from : (m : Move) (u : List Move) (end : State) → OpenPart s t (m ∷ u) end → (other : State) × Holds s.component (rest_of s) t call (length u) other × (picks_of other t ≡ picks_of end t)
  holds_from m u end part =
      let threads = replicate (thread_count (one_call t call)) idle_thread in
      let made = part_over s (one_call t call) threads t before.was idle_thread before.stands (x_stands s.component (rest_of s) t call) before.idle refl (x_call s.component (rest_of s) t call ∙ sym before.next) (x_quiet s.component (rest_of s) t call) (m ∷ u) end part in (
        made.0,
        record {
          first = m;
          moves = u;
          history = made.1.history;
          leads = serially_leads (before_call s.component (rest_of s) t call) (m ∷ u) made.0 made.1.history made.1.leads;
          long = refl;
          still = made.1.busy;
        },
        made.2,
      )

  pub holds_to : (n : ℕ) (end : State) → (h : Holds s.component (rest_of s) t call n end) → (other : State) × OpenPart s t (h.first ∷ h.moves) other × (picks_of other t ≡ picks_of end t)
  holds_to n end h =
      let part = part_here s.component (rest_of s) t call h.first h.moves end h.history h.leads h.still in
      part_over (before_call s.component (rest_of s) t call) s.matrix s.threads t idle_thread before.was (x_stands s.component (rest_of s) t call) before.stands refl before.idle (before.next ∙ sym (x_call s.component (rest_of s) t call)) before.quiet (h.first ∷ h.moves) end part

-- ---- from a state, by moves of one thread

-- moves of the only thread that may be open are serial
alone_serial : (u : List Move) (s end : State) (t : ℕ) (h : List Event) → AllBy t u → IsOnlyOpen s t → Leads s u end h → LeadsSerially s u end h
alone_serial [] s end t h by only p = p
alone_serial (m ∷ u) s end t h by only p =
    let its = step_stepped s m p.0 p.1 p.3 in
    let only_next : IsOnlyOpen p.0 t = subst (λ x. IsOnlyOpen s x → IsOnlyOpen p.0 x) by.0 (only_after s m p.0 p.1 its) only in
    (p.0, p.1, p.2, p.3, alone_serial u p.0 end t p.2 by.1 only_next p.4, p.5, (λ i o. by.0 ∙ sym (only i o)))

module _ (s : State) (t : ℕ) (call : ACall) (before : IsBefore s t call) where
  only_here : IsOnlyOpen s t
  only_here i o = absurd (before.quiet i o)

  left_here : done_of s t < call_count s t
  left_here =
      let within = slice_get_within (calls_of s.matrix t) before.was.done call before.next in
      let at = done_at s t before.was before.stands in
      omega (arith, within, at)

  alone_to : (o : SerialOutcome) (after : Rest) → Plays s.component (rest_of s) t call o after → PlaysFrom s t o after
  alone_to o after p =
      let made = plays_to s t call before o after p in
      let one = made.1 in
      record {
        moves = one.moves;
        by = one.by;
        end = made.0;
        history = one.history;
        leads = serially_leads s one.moves made.0 one.history one.leads;
        quiet = one.quiet;
        returns = one.entries;
        leaves = made.2;
      }

  alone_from : (o : SerialOutcome) (after : Rest) → PlaysFrom s t o after → Plays s.component (rest_of s) t call o after
  alone_from o after p =
      let by = by_one p.moves s p.end t p.history p.by p.leads in
      let ended = by.ended in
      let one : length (entries_of p.history) ≡ 1 = ap (λ q. length q) p.returns in
      subst (Plays s.component (rest_of s) t call o) p.leaves
      (plays_from s t call before o p.end (record {
        moves = p.moves;
        history = p.history;
        leads = alone_serial p.moves s p.end t p.history p.by only_here p.leads;
        by = p.by;
        quiet = p.quiet;
        entries = p.returns;
        left = left_here;
        more = omega (arith, ended, one);
        others = by.others;
      }))

  held_to : (n picks : ℕ) → (end : State) → Holds s.component (rest_of s) t call n end → picks_of end t ≡ picks → HoldsFrom s t n picks
  held_to n picks end h is =
      let made = holds_to s t call before n end h in
      let part = made.1 in
      record {
        first = h.first;
        moves = h.moves;
        by = part.by;
        end = made.0;
        history = part.history;
        leads = serially_leads s (h.first ∷ h.moves) made.0 part.history part.leads;
        long = h.long;
        still = part.busy;
        returns = part.entries;
        picks_are = made.2 ∙ is;
      }

  held_from : (n picks : ℕ) → HoldsFrom s t n picks → (end : State) × Holds s.component (rest_of s) t call n end × (picks_of end t ≡ picks)
  held_from n picks h =
      let u = h.first ∷ h.moves in
      let by = by_one u s h.end t h.history h.by h.leads in
      let ended = by.ended in
      let none : length (entries_of h.history) ≡ 0 = ap (λ q. length q) h.returns in
      let made = holds_from s t call before h.first h.moves h.end (record {
        history = h.history;
        leads = alone_serial u s h.end t h.history h.by only_here h.leads;
        by = h.by;
        some = (h.first, h.moves, refl);
        busy = h.still;
        only = by.only only_here;
        entries = h.returns;
        left = left_here;
        same = omega (arith, ended, none);
      }) in
      (made.0, subst (λ k. Holds s.component (rest_of s) t call k made.0) h.long made.1, made.2 ∙ h.picks_are)

pub alone_anywhere : (s : State) (t : ℕ) (call : ACall) (outcome : SerialOutcome) (after : Rest) → IsBefore s t call → Plays s.component (rest_of s) t call outcome after ↔ PlaysFrom s t outcome after
alone_anywhere s t call outcome after before = (alone_to s t call before outcome after, alone_from s t call before outcome after)

pub held_anywhere : (s : State) (t : ℕ) (call : ACall) (n picks : ℕ) → IsBefore s t call → ((end : State) × Holds s.component (rest_of s) t call n end × (picks_of end t ≡ picks)) ↔ HoldsFrom s t n picks
held_anywhere s t call n picks before = ((λ x. held_to s t call before n picks x.0 x.1 x.2), held_from s t call before n picks)
