-- Schedules of the client, and of unrolled matrices.
use Rattle.std.proofs.Common.{arith, ◌≡◌, ℕ, zero, suc, ◌+◌, ◌*◌, ◌<◌, ◌≤◌, List, [], ◌∷◌, ◌++◌, length, map, replicate, Option, Some, None, slice_get, refl, sym, ◌∙◌, ap, subst, inl, inr, append_assoc}
use Rattle.std.specs.Option.{option_map}
use Rattle.std.proofs.lemmas.List.{append-nil}
use Rattle.std.proofs.Math.Nat.{suc-mul}
use Rattle.lu_component.specs.Component.{Component}
use Rattle.lu_test.specs.declared.schedule.Move.{Move}
use Rattle.lu_test.specs.Matrix.{Matrix, calls_of, thread_count}
use Rattle.lu_machine.specs.declared.event.Event.{Event}
use Rattle.lu_machine.specs.declared.thread.Activity.TheVariants.{Idle}
use Rattle.lu_machine.specs.declared.thread.Thread.{Thread}
use Rattle.lu_machine.specs.States.{State}
use Rattle.lu_machine.specs.Steps.{Step}
use Rattle.lu_machine.specs.Runs.{Leads, with_event}
use Rattle.lu_machine.specs.Starts.{IsStart, at_rest}
use Rattle.lu_machine.proofs.Paths.{with_event-append}
use Rattle.lu_machine.proofs.Starting.{other_start, start_same, starts_at_rest}
use Rattle.lu_serial.proofs.Opening.{How, same_or_not}
use Rattle.lu_serial.proofs.Moves.{step_stepped, the_thread}
use Rattle.lu_client.specs.Rounds.{IsUnrolledFrom, Way, times}
use Rattle.lu_client.specs.Rounds.Way.{InOrder}
use Rattle.lu_client.specs.Clients.{ClientLeads, ClientStep, HasCallLeft, StepOn, client_matrix, client_of, event_in, turned}
use Rattle.lu_client.specs.Laws.{IsClosed, IsScheduleTo}
use Rattle.lu_client.proofs.Turning.{stand_at, turn}
use Rattle.lu_client.proofs.Clients.{left_of_how, move_in_order, move_to_client}
use Rattle.lu_client.proofs.Unrolled.{client_at_rest, client_setup, client_starts, rounds_or, times_count, times_unrolled}

pub with_event_map : (f : Event → Event) (e : Option Event) (h : List Event) → map f (with_event e h) ≡ with_event (option_map f e) (map f h)
with_event_map f None h = refl
with_event_map f (Some e) h = refl

unrolled_on : (way : Way) (matrix : Matrix) (s : State) (m : Move) (next : State) (event : Option Event) → Step s m next event → IsUnrolledFrom way matrix s.matrix → IsUnrolledFrom way matrix next.matrix
unrolled_on way matrix s m next event step is = subst (IsUnrolledFrom way matrix) (sym (step_stepped s m next event step).matrix) is

pub schedule_to_client : (way : Way) (matrix : Matrix) (s : State) (u : List Move) (end : State) (history : List Event) → IsUnrolledFrom way matrix s.matrix → Leads s u end history →
    ClientLeads way (client_of way matrix s) u (client_of way matrix end) (map (event_in way matrix) history)
schedule_to_client way matrix s [] end history is p = (ap (client_of way matrix) p.0, ap (map (event_in way matrix)) p.1)
schedule_to_client way matrix s (m ∷ u) end history is p = (
  client_of way matrix p.0,
  option_map (event_in way matrix) p.1,
  map (event_in way matrix) p.2,
  move_to_client way matrix s m p.0 p.1 is p.3,
  schedule_to_client way matrix p.0 u end p.2 (unrolled_on way matrix s m p.0 p.1 p.3 is) p.4,
  ap (map (event_in way matrix)) p.5 ∙ with_event_map (event_in way matrix) p.1 p.2,
)

-- what each move keeps, of the client's state and the history, holds of each schedule
pub closing : (way : Way) (matrix : Matrix) (P : State → List Event → Type 0) →
    ((s : State) (h : List Event) (m : Move) (next : State) (event : Option Event) → IsUnrolledFrom way matrix s.matrix → Step s m next event → P (client_of way matrix s) h → P (client_of way matrix next) (h ++ with_event event [])) →
    (u : List Move) (s : State) (k : List Event) → IsUnrolledFrom way matrix s.matrix → P (client_of way matrix s) k → (end : State) (history : List Event) → Leads s u end history → P (client_of way matrix end) (k ++ history)
closing way matrix P on [] s k is holds end history p =
    subst (P (client_of way matrix end)) (sym (ap (λ x. k ++ x) p.1 ∙ append-nil k)) (subst (λ x. P (client_of way matrix x) k) (sym p.0) holds)
closing way matrix P on (m ∷ u) s k is holds end history p =
    let rest = closing way matrix P on u p.0 (k ++ with_event p.1 []) (unrolled_on way matrix s m p.0 p.1 p.3 is) (on s k m p.0 p.1 is p.3 holds) end p.2 p.4 in
    subst (P (client_of way matrix end)) (append_assoc k (with_event p.1 []) p.2 ∙ ap (λ x. k ++ x) (with_event-append p.1 [] p.2 ∙ sym p.5)) rest

-- ---- closed lists

closed_on : (way : Way) (start : State) (list : List State) → IsClosed way start list → (a : State) → (i : ℕ) × (slice_get list i ≡ Some a) → (u : List Move) (b : State) (history : List Event) → ClientLeads way a u b history → (i : ℕ) × (slice_get list i ≡ Some b)
closed_on way start list is a at [] b history p = subst (λ x. (i : ℕ) × (slice_get list i ≡ Some x)) (sym p.0) at
closed_on way start list is a at (m ∷ u) b history p =
    closed_on way start list is p.0 (is.closed at.0 a m p.0 p.1 at.1 p.3) u b p.2 p.4

pub closed_has_all : (c : Component) (way : Way) (matrix big : Matrix) (s start : State) (list : List State) (u : List Move) (end : State) (history : List Event) →
    IsUnrolledFrom way matrix big → IsStart c big s → IsStart c (client_matrix way matrix) start → IsClosed way start list → Leads s u end history →
    (i : ℕ) × (slice_get list i ≡ Some (client_of way matrix end))
closed_has_all c way matrix big s start list u end history is at from closed leads =
    let one : start ≡ client_of way matrix s = start_same c (client_matrix way matrix) start (client_of way matrix s) from (client_starts c way matrix big s is at) in
    let unrolled : IsUnrolledFrom way matrix s.matrix = subst (IsUnrolledFrom way matrix) (sym (ap (λ (x : State). x.matrix) at.is)) is in
    closed_on way start list closed (client_of way matrix s) (subst (λ x. (i : ℕ) × (slice_get list i ≡ Some x)) one closed.starts) u (client_of way matrix end) (map (event_in way matrix) history) (schedule_to_client way matrix s u end history unrolled leads)

-- ---- from the client to some unrolled matrix

-- so many moves may follow, of the most that there are
record HasRoom (rounds : Option ℕ) (most : ℕ) (matrix : Matrix) (s : State) (more : ℕ) : Type 0 where
  is : s.matrix ≡ times (rounds_or rounds most) matrix
  few : (t : ℕ) (a : Thread) → slice_get s.threads t ≡ Some a → a.done + more ≤ most

some_calls : (most len k : ℕ) → k < most → 0 < len → k < most * len
some_calls most zero k h some = absurd (omega arith)
some_calls zero (suc len) k h some = absurd (omega arith)
some_calls (suc most) (suc len) zero h some = let e = suc-mul most (suc len) in omega (arith, e)
some_calls (suc most) (suc len) (suc k) h some = let e = suc-mul most (suc len) in let rest = some_calls most (suc len) k (omega arith) some in omega (arith, e, rest)

room_left : (rounds : Option ℕ) (most : ℕ) (matrix : Matrix) (t : ℕ) (k : ℕ) → k < most → turned (InOrder rounds) (length (calls_of (client_matrix (InOrder rounds) matrix) t)) k < length (calls_of (client_matrix (InOrder rounds) matrix) t) → k < length (calls_of (times (rounds_or rounds most) matrix) t)
room_left None most matrix t k below left =
    let count = times_count most matrix t in
    let some = some_calls most (length (calls_of matrix t)) k below (omega (arith, left)) in
    omega (arith, count, some)
room_left (Some rounds) most matrix t k below left = left

module _ (rounds : Option ℕ) (most : ℕ) (matrix : Matrix) (s : State) (more : ℕ) (room : HasRoom rounds most matrix s (suc more)) (m : Move) (b : State) (event : Option Event) (h : ClientStep (InOrder rounds) (client_of (InOrder rounds) matrix s) m b event) where
  abbrev a : State
  a = client_of (InOrder rounds) matrix s

  -- an idle thread that moves has a call left
  has_left : HasCallLeft s m.thread
  has_left was e idle =
      let t = m.thread in
      let rows = (client_matrix (InOrder rounds) matrix).threads in
      let own = client_matrix (InOrder rounds) matrix in
      let on = subst (λ x. StepOn (InOrder rounds) x a m b event) h.1 h.2 in
      let by = step_stepped a m on.0 event on.1 in
      let there : slice_get a.threads t ≡ Some (turn (InOrder rounds) rows t was) = stand_at (InOrder rounds) rows s.threads t ∙ ap (option_map (turn (InOrder rounds) rows t)) e in
      let same : by.before ≡ turn (InOrder rounds) rows t was = the_thread a t by.before (turn (InOrder rounds) rows t was) by.was there in
      let left : by.before.done < length (calls_of (client_matrix (InOrder rounds) matrix) t) = left_of_how a t by.before by.after event by.kind (ap (λ (x : Thread). x.activity) same ∙ idle) in
      let few = room.few t was e in
      let count : length (calls_of s.matrix t) ≡ length (calls_of (times (rounds_or rounds most) matrix) t) = ap (λ x. length (calls_of x t)) room.is in
      let some = room_left rounds most matrix t was.done (omega (arith, few)) (subst (λ (x : Thread). x.done < length (calls_of (client_matrix (InOrder rounds) matrix) t)) same left) in
      omega (arith, count, some)

done_grows : (s : State) (t : ℕ) (before after : Thread) (e : Option Event) → How s t before after e → after.done ≤ before.done + 1
done_grows s t before after e (inl called) = let is = called.2 in omega (arith, is)
done_grows s t before after e (inr (inl went)) = let is = went.2 in omega (arith, is)
done_grows s t before after e (inr (inr closed)) = let is = closed.2 in omega (arith, is)

room_on : (rounds : Option ℕ) (most : ℕ) (matrix : Matrix) (s : State) (more : ℕ) → HasRoom rounds most matrix s (suc more) → (m : Move) (next : State) (event : Option Event) → Step s m next event → HasRoom rounds most matrix next more
room_on rounds most matrix s more room m next event step =
    let by = step_stepped s m next event step in
    record {
      is = by.matrix ∙ room.is;
      few = λ t x e.
          elim (same_or_not t m.thread) as (λ _. x.done + more ≤ most) [
            | inl here ↦
                (let one : x ≡ by.after = the_thread next m.thread x by.after (ap (slice_get next.threads) (sym here) ∙ e) by.is in
                let is : x.done ≡ by.after.done = ap (λ (y : Thread). y.done) one in
                let grows = done_grows s m.thread by.before by.after event by.kind in
                let few = room.few m.thread by.before by.was in
                omega (arith, is, grows, few))
            | inr apart ↦ (let few = room.few t x (sym (by.others t apart) ∙ e) in omega (arith, few))
          ];
    }

-- the client's schedule is one of the unrolled matrix
pub record IsMade (way : Way) (matrix : Matrix) (s : State) (u : List Move) (b : State) (history : List Event) : Type 0 where
  pub end : State
  pub made : List Event
  pub leads : Leads s u end made
  pub is : client_of way matrix end ≡ b
  pub counted : map (event_in way matrix) made ≡ history

made_on : (rounds : Option ℕ) (most : ℕ) (matrix : Matrix) (u : List Move) (s : State) (b : State) (history : List Event) → HasRoom rounds most matrix s (length u) → ClientLeads (InOrder rounds) (client_of (InOrder rounds) matrix s) u b history → IsMade (InOrder rounds) matrix s u b history
made_on rounds most matrix [] s b history room p = record { end = s; made = []; leads = (refl, refl); is = sym p.0; counted = sym p.1 }
made_on rounds most matrix (m ∷ u) s b history room p =
    let unrolled : IsUnrolledFrom (InOrder rounds) matrix s.matrix = subst (IsUnrolledFrom (InOrder rounds) matrix) (sym room.is) (times_unrolled rounds most matrix) in
    let moved = move_in_order rounds matrix s m p.0 p.1 unrolled (has_left rounds most matrix s (length u) room m p.0 p.1 p.3) p.3 in
    let rest = made_on rounds most matrix u moved.next b p.2 (room_on rounds most matrix s (length u) room m moved.next moved.made moved.step) (subst (λ x. ClientLeads (InOrder rounds) x u b p.2) (sym moved.is) p.4) in
    record {
      end = rest.end;
      made = with_event moved.made rest.made;
      leads = (moved.next, moved.made, rest.made, moved.step, rest.leads, refl);
      is = rest.is;
      counted = with_event_map (event_in (InOrder rounds) matrix) moved.made rest.made ∙ (ap (λ e. with_event e (map (event_in (InOrder rounds) matrix) rest.made)) moved.counted ∙ (ap (with_event p.1) rest.counted ∙ sym p.5));
    }

pub none_done : (n t : ℕ) (a : Thread) → slice_get (replicate n (record { done = 0; activity = Idle })) t ≡ Some a → a.done ≡ 0
none_done zero t a e = absurd cc
none_done (suc n) zero a e = let idle : Thread = record { done = 0; activity = Idle } in let is : idle ≡ a = cc in ap (λ (x : Thread). x.done) (sym is)
none_done (suc n) (suc t) a e = none_done n t a e

pub schedule_in_order : (c : Component) (rounds : Option ℕ) (matrix : Matrix) (a : State) (u : List Move) (b : State) (history : List Event) → IsStart c (client_matrix (InOrder rounds) matrix) a → ClientLeads (InOrder rounds) a u b history → IsScheduleTo c (InOrder rounds) matrix u b history
schedule_in_order c rounds matrix a u b history start p =
    let most = length u in
    let big = times (rounds_or rounds most) matrix in
    let s = at_rest c big a.cells a.locks in
    let unrolled = times_unrolled rounds most matrix in
    let same : client_of (InOrder rounds) matrix s ≡ a = client_at_rest c (InOrder rounds) matrix big a.cells a.locks unrolled ∙ sym (starts_at_rest c (client_matrix (InOrder rounds) matrix) a start) in
    let room : HasRoom rounds most matrix s most = record { is = refl; few = λ t x e. (let none = none_done (thread_count big) t x e in omega (arith, none)) } in
    let made = made_on rounds most matrix u s b history room (subst (λ x. ClientLeads (InOrder rounds) x u b history) (sym same) p) in
    record {
      big = big;
      unrolled = unrolled;
      start = s;
      is_start = other_start c (client_matrix (InOrder rounds) matrix) big a start (sym (client_setup (InOrder rounds) matrix));
      end = made.end;
      made = made.made;
      leads = made.leads;
      is = made.is;
      counted = made.counted;
    }
