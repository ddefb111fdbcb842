-- The client moves as each unrolled matrix.
use Rattle.std.proofs.Common.{◌≡◌, ◌↔◌, ℕ, ◌<◌, List, length, Option, Some, None, slice_get, slice_set, refl, sym, ◌∙◌, ap, subst, inl, inr}
use Rattle.std.specs.Option.{option_map}
use Rattle.std.proofs.lemmas.List.{set-set}
use Rattle.lu_test.specs.declared.matrix.Call.{Call as ACall}
use Rattle.lu_test.specs.declared.schedule.Move.{Move}
use Rattle.lu_test.specs.Matrix.{Matrix, calls_of}
use Rattle.lu_machine.specs.declared.event.Event.{Event}
use Rattle.lu_machine.specs.declared.event.Event.TheVariants.{Call, Return}
use Rattle.lu_machine.specs.declared.thread.Activity.TheVariants.{Idle}
use Rattle.lu_machine.specs.declared.thread.Thread.{Thread}
use Rattle.lu_machine.specs.States.{State, call_count, with_standing}
use Rattle.lu_machine.specs.Steps.{Step}
use Rattle.lu_machine.proofs.Keeping.{step_moved}
use Rattle.lu_machine.proofs.Undoing.{moved_there}
use Rattle.lu_serial.specs.Serial.{HasOpen}
use Rattle.lu_serial.proofs.Opening.{How}
use Rattle.lu_serial.proofs.Moves.{Stepped, step_stepped, the_thread}
use Rattle.lu_client.specs.Rounds.{IsUnrolledFrom, Way}
use Rattle.lu_client.specs.Rounds.Way.{InOrder}
use Rattle.lu_client.specs.Clients.{ClientStep, HasCallLeft, HasNext, StepOn, around, client_matrix, client_of, event_in, stand_in, turned}
use Rattle.lu_client.specs.Laws.{HasMoved}
use Rattle.lu_client.proofs.Carried.{HasSameCall, numbered, one_more, seen, step_carried}
use Rattle.lu_client.proofs.Turning.{comes_around, next_call, next_calls, same_number, stand_again, stand_at, stand_set, turn}

-- an idle thread that moves has a call left
pub left_of_how : (s : State) (t : ℕ) (before after : Thread) (e : Option Event) → How s t before after e → before.activity ≡ Idle → before.done < call_count s t
left_of_how s t before after e (inl called) idle = called.4
left_of_how s t before after e (inr (inl went)) idle = absurd (went.0 idle)
left_of_how s t before after e (inr (inr closed)) idle = absurd (closed.0 idle)

-- the event is of its thread's call
renumbered : (way : Way) (matrix : Matrix) (s : State) (t : ℕ) (before after : Thread) (e : Option Event) → How s t before after e →
    option_map (numbered (turned way (length (calls_of (client_matrix way matrix) t)) before.done)) e ≡ option_map (event_in way matrix) e
renumbered way matrix s t before after e (inl called) =
    rw called.3 (ap (λ (k : ℕ). Some (Call t k)) (same_number way matrix t before.done))
renumbered way matrix s t before after e (inr (inl went)) = rw went.3 refl
renumbered way matrix s t before after e (inr (inr closed)) =
    rw closed.3.1 (ap (λ (k : ℕ). Some (Return t k closed.3.0)) (same_number way matrix t before.done))

-- and back
counted : (way : Way) (matrix : Matrix) (a : State) (t k : ℕ) (before after : Thread) (e : Option Event) → How a t before after e →
    before.done ≡ turned way (length (calls_of (client_matrix way matrix) t)) k → option_map (event_in way matrix) (option_map (numbered k) e) ≡ e
counted way matrix a t k before after e (inl called) is =
    rw called.3 (ap (λ (n : ℕ). Some (Call t n)) (sym (same_number way matrix t k) ∙ sym is))
counted way matrix a t k before after e (inr (inl went)) is = rw went.3 refl
counted way matrix a t k before after e (inr (inr closed)) is =
    rw closed.3.1 (ap (λ (n : ℕ). Some (Return t n closed.3.0)) (sym (same_number way matrix t k) ∙ sym is))

module _ (way : Way) (matrix : Matrix) where
  abbrev rows : List (List ACall)
  rows = (client_matrix way matrix).threads

  pub step_to_client : (calls : Matrix) (s : State) (m : Move) (next : State) (event : Option Event) → HasNext way (client_matrix way matrix) calls s m.thread → Step s m next event →
      StepOn way calls (client_of way matrix s) m (client_of way matrix next) (option_map (event_in way matrix) event)
  step_to_client calls s m next event has step =
      let t = m.thread in
      let by = step_stepped s m next event step in
      let was = by.before in
      let there : slice_get (stand_in way rows s.threads) t ≡ Some (turn way rows t was) = stand_at way rows s.threads t ∙ ap (option_map (turn way rows t)) by.was in
      let call : HasSameCall s t was calls (turn way rows t was) = λ idle. sym (has was by.was idle) in
      let on = step_carried s m next event calls (stand_in way rows s.threads) was (turn way rows t was) by.was there refl call step in
      let mine : Thread = record { done = one_more on.ended (turn way rows t was).done; activity = on.activity } in (
        seen next calls (slice_set (stand_in way rows s.threads) t mine),
        subst (Step (seen s calls (stand_in way rows s.threads)) m (seen next calls (slice_set (stand_in way rows s.threads) t mine))) (renumbered way matrix s t was by.after event by.kind) on.step,
        ap (seen next (client_matrix way matrix)) (ap (stand_in way rows) on.threads_are ∙ sym (comes_around way rows s.threads t was.done on.ended on.activity)),
      )

  pub move_to_client : (s : State) (m : Move) (next : State) (event : Option Event) → IsUnrolledFrom way matrix s.matrix → Step s m next event →
      ClientStep way (client_of way matrix s) m (client_of way matrix next) (option_map (event_in way matrix) event)
  move_to_client s m next event unrolled step =
      let t = m.thread in
      let by = step_stepped s m next event step in
      let to = next_calls way matrix s.matrix unrolled t by.before.done in
      let has : HasNext way (client_matrix way matrix) to.0 s t = λ was stands idle.
      (let same : by.before ≡ was = the_thread s t by.before was by.was stands in
      let call = sym (to.2 (left_of_how s t by.before by.after event by.kind (ap (λ (x : Thread). x.activity) same ∙ idle))) in
      subst (λ (x : Thread). slice_get (calls_of s.matrix t) x.done ≡ slice_get (calls_of to.0 t) (turned way (length (calls_of (client_matrix way matrix) t)) x.done)) same call) in
      (to.0, to.1, step_to_client to.0 s m next event has step)

  module _ (calls : Matrix) (s : State) (m : Move) (b : State) (event : Option Event) (has : HasNext way (client_matrix way matrix) calls s m.thread) (h : StepOn way calls (client_of way matrix s) m b event) where
    -- the client's state, over these calls
    abbrev a : State
    a = seen s calls (stand_in way rows s.threads)

    abbrev t : ℕ
    t = m.thread

    by : Stepped a m h.0 event
    by = step_stepped a m h.0 event h.1

    of_thread : (o : Option Thread) → slice_get s.threads t ≡ o → HasMoved way matrix s m b event
    of_thread None e = absurd (let none : slice_get a.threads t ≡ None = stand_at way rows s.threads t ∙ ap (option_map (turn way rows t)) e in let some = by.was in cc)
    of_thread (Some was) e =
        let there : slice_get a.threads t ≡ Some (turn way rows t was) = stand_at way rows s.threads t ∙ ap (option_map (turn way rows t)) e in
        let same : by.before ≡ turn way rows t was = the_thread a t by.before (turn way rows t was) by.was there in
        let call : HasSameCall a t (turn way rows t was) s.matrix was = λ idle. has was e idle in
        let on = step_carried a m h.0 event s.matrix s.threads (turn way rows t was) was there e refl call h.1 in
        let now : Thread = record { done = one_more on.ended was.done; activity = on.activity } in
        let next : State = seen h.0 s.matrix (slice_set s.threads t now) in
        record {
          next = next;
          made = option_map (numbered was.done) event;
          step = on.step;
          is =
              ap (seen h.0 (client_matrix way matrix)) (sym (comes_around way rows s.threads t was.done on.ended on.activity) ∙ ap (stand_in way rows) (sym on.threads_are))
              ∙ sym h.2;
          counted = counted way matrix a t was.done by.before by.after event by.kind (ap (λ (x : Thread). x.done) same);
        }

  pub move_from_client : (calls : Matrix) (s : State) (m : Move) (b : State) (event : Option Event) → HasNext way (client_matrix way matrix) calls s m.thread → StepOn way calls (client_of way matrix s) m b event → HasMoved way matrix s m b event
  move_from_client calls s m b event has h = of_thread calls s m b event has h (slice_get s.threads m.thread) refl

  pub same_moves : (calls : Matrix) (s other : State) (m : Move) (next : State) (event : Option Event) → client_of way matrix s ≡ client_of way matrix other → HasNext way (client_matrix way matrix) calls s m.thread → HasNext way (client_matrix way matrix) calls other m.thread → Step s m next event →
      HasMoved way matrix other m (client_of way matrix next) (option_map (event_in way matrix) event)
  same_moves calls s other m next event e has also step =
      move_from_client calls other m (client_of way matrix next) (option_map (event_in way matrix) event) also
      (subst (λ x. StepOn way calls x m (client_of way matrix next) (option_map (event_in way matrix) event)) e (step_to_client calls s m next event has step))

  -- an operation that is open needs no call
  pub open_from_client : (s : State) (m : Move) (b : State) (event : Option Event) → HasOpen s m.thread → ClientStep way (client_of way matrix s) m b event → HasMoved way matrix s m b event
  open_from_client s m b event busy h =
      move_from_client h.0 s m b event
      (λ was stands idle. (let same = the_thread s m.thread busy.0 was busy.1 stands in absurd (busy.2 (ap (λ (x : Thread). x.activity) same ∙ idle))))
      h.2

-- ---- lines made in order

pub move_in_order : (rounds : Option ℕ) (matrix : Matrix) (s : State) (m : Move) (b : State) (event : Option Event) → IsUnrolledFrom (InOrder rounds) matrix s.matrix → HasCallLeft s m.thread → ClientStep (InOrder rounds) (client_of (InOrder rounds) matrix s) m b event →
    HasMoved (InOrder rounds) matrix s m b event
move_in_order rounds matrix s m b event unrolled left h =
    let t = m.thread in
    let way = InOrder rounds in
    let own = client_matrix way matrix in
    let has : HasNext way own own s t = λ was stands idle. sym (next_call rounds matrix s.matrix unrolled t was.done (left was stands idle)) in
    move_from_client way matrix own s m b event has (subst (λ x. StepOn way x (client_of way matrix s) m b event) h.1 h.2)

pub same_in_order : (rounds : Option ℕ) (matrix : Matrix) (s other : State) (m : Move) (next : State) (event : Option Event) → IsUnrolledFrom (InOrder rounds) matrix s.matrix → IsUnrolledFrom (InOrder rounds) matrix other.matrix → client_of (InOrder rounds) matrix s ≡ client_of (InOrder rounds) matrix other → HasCallLeft other m.thread → Step s m next event →
    HasMoved (InOrder rounds) matrix other m (client_of (InOrder rounds) matrix next) (option_map (event_in (InOrder rounds) matrix) event)
same_in_order rounds matrix s other m next event is also e left step =
    let way = InOrder rounds in
    move_in_order rounds matrix other m (client_of way matrix next) (option_map (event_in way matrix) event) also left
    (subst (λ x. ClientStep way x m (client_of way matrix next) (option_map (event_in way matrix) event)) e (move_to_client way matrix s m next event is step))

pub moves_in_order : (rounds : Option ℕ) (a : State) (m : Move) (b : State) (event : Option Event) → ClientStep (InOrder rounds) a m b event ↔ StepOn (InOrder rounds) a.matrix a m b event
moves_in_order rounds a m b event = (
  (λ h. subst (λ x. StepOn (InOrder rounds) x a m b event) h.1 h.2),
  (λ h. (a.matrix, refl, h)),
)

-- ---- a thread that comes around

pub around_once : (way : Way) (s : State) → around way (around way s) ≡ around way s
around_once way s = ap (seen s s.matrix) (stand_again way s.matrix.threads s.threads)

pub only_mover_turns : (way : Way) (calls : Matrix) (a : State) (m : Move) (next : State) (event : Option Event) (thread : Thread) → around way a ≡ a → Step (record a { matrix = calls }) m next event → slice_get next.threads m.thread ≡ Some thread →
    around way (record next { matrix = a.matrix }) ≡ with_standing (record next { matrix = a.matrix }) m.thread (record thread { done = turned way (call_count a m.thread) thread.done })
only_mover_turns way calls a m next event thread stable step stands =
    let on : State = seen a calls a.threads in
    let moved = step_moved on m next event step in
    let t = m.thread in
    let rows = a.matrix.threads in
    let there : slice_get next.threads t ≡ Some moved.now = ap (λ x. slice_get x t) moved.threads ∙ moved_there on t moved.now moved.standing moved.stands in
    let same : moved.now ≡ thread = the_thread next t moved.now thread there stands in
    let now : next.threads ≡ slice_set a.threads t thread = moved.threads ∙ ap (slice_set a.threads t) same in
    let turned_thread = turn way rows t thread in
    let threads : stand_in way rows next.threads ≡ slice_set next.threads t turned_thread =
    ap (stand_in way rows) now
    ∙ stand_set way rows a.threads t thread
    ∙ ap (λ x. slice_set x t turned_thread) (ap (λ (x : State). x.threads) stable)
    ∙ sym (ap (λ x. slice_set x t turned_thread) now ∙ set-set a.threads t thread turned_thread) in
    ap (seen next a.matrix) threads
