-- A move of the client that draws its calls is one of an open operation, or makes a call of the line.
use Rattle.std.proofs.Common.{arith, ◌≡◌, ℕ, zero, suc, ◌+◌, ◌<◌, ◌%◌, ◌==◌, ◌⊎◌, ◌↔◌, Bool, true, false, if◌then◌else◌, List, [], length, replicate, Option, Some, None, slice_get, slice_set, refl, sym, ◌∙◌, ap, subst, inl, inr}
use Rattle.std.specs.Option.{option_map}
use Rattle.std.proofs.lemmas.Bool.{eq-eqb, ne_eqb}
use Rattle.std.proofs.lemmas.List.{set-set}
use Rattle.std.proofs.lemmas.Option.{slice_get_within}
use Rattle.lu_test.specs.declared.matrix.Call.{Call as ACall}
use Rattle.lu_test.specs.declared.schedule.Move.{Move}
use Rattle.lu_test.specs.Matrix.{Matrix, calls_of, row_of, thread_count}
use Rattle.lu_test.proofs.FewerCalls.{is_thread}
use Rattle.lu_machine.specs.declared.event.Event.{Event}
use Rattle.lu_machine.specs.declared.event.Event.TheVariants.{Call}
use Rattle.lu_machine.specs.declared.thread.Activity.{Activity}
use Rattle.lu_machine.specs.declared.thread.Activity.TheVariants.{Idle}
use Rattle.lu_machine.specs.declared.thread.Thread.{Thread}
use Rattle.lu_machine.specs.States.{State, with_standing}
use Rattle.lu_machine.specs.Steps.{Step}
use Rattle.lu_serial.specs.Serial.{HasOpen}
use Rattle.lu_serial.proofs.Opening.{How, same_or_not, slice_get_set_same}
use Rattle.lu_serial.proofs.Moves.{Stepped, step_stepped, the_thread}
use Rattle.lu_client.specs.Rounds.{AreDrawn, IsDrawnFrom, IsUnrolledFrom, Way}
use Rattle.lu_client.specs.Rounds.Way.{AnyOrder, InOrder}
use Rattle.lu_client.specs.Clients.{ClientStep, StepOn, around, client_of, event_in, stand_in, turned}
use Rattle.lu_client.specs.Draws.{Draws, IsClosedByCalls}
use Rattle.lu_client.specs.Laws.{IsClosed}
use Rattle.lu_client.proofs.Carried.{HasSameCall, numbered, one_more, seen, step_carried}
use Rattle.lu_client.proofs.Clients.{around_once, step_to_client}
use Rattle.lu_client.proofs.Drawing.{get_in, listed, listed_many, listed_row, no_calls}
use Rattle.lu_client.proofs.Turning.{next_calls, rounds_each, stand_at, stand_set, turn}
use Rattle.lu_client.proofs.Unrolled.{fewer_allowed}

-- ---- rounds are drawn

pub rounds_are_drawn : (rounds : Option ℕ) (matrix big : Matrix) → IsUnrolledFrom (InOrder rounds) matrix big → IsDrawnFrom None matrix big
rounds_are_drawn rounds matrix big is = record {
  setup = is.setup;
  many = is.many;
  each = λ t. record {
    allowed = tt;
    each = λ k call e. (
      k % length (calls_of matrix t),
      sym (rounds_each rounds (calls_of matrix t) (calls_of big t) (is.each t) k (slice_get_within (calls_of big t) k call e)) ∙ e,
    );
  };
}

pub drawn_of_drawn : (limit other : Option ℕ) (matrix drawn big : Matrix) → IsDrawnFrom limit matrix drawn → IsDrawnFrom other drawn big → IsDrawnFrom other matrix big
drawn_of_drawn limit other matrix drawn big is on = record {
  setup = on.setup ∙ is.setup;
  many = on.many ∙ is.many;
  each = λ t. record {
    allowed = (on.each t).allowed;
    each = λ k call e. (let i = (on.each t).each k call e in (is.each t).each i.0 call i.1);
  };
}

-- ---- a matrix in which one thread makes one call again and again

copies_at : (n : ℕ) (call : ACall) (k : ℕ) → k < n → slice_get (replicate n call) k ≡ Some call
copies_at zero call k h = absurd (omega arith)
copies_at (suc n) call zero h = refl
copies_at (suc n) call (suc k) h = copies_at n call k (omega arith)

copies_only : (n : ℕ) (call x : ACall) (k : ℕ) → slice_get (replicate n call) k ≡ Some x → call ≡ x
copies_only zero call x k e = absurd cc
copies_only (suc n) call x zero e = cc
copies_only (suc n) call x (suc k) e = copies_only n call x k e

copies_many : (n : ℕ) (call : ACall) → length (replicate n call) ≡ n
copies_many zero call = refl
copies_many (suc n) call = let rest = copies_many n call in omega (arith, rest)

listed_within : (f : ℕ → List ACall) (n t : ℕ) → t < n → row_of (listed f n) t ≡ f t
listed_within f zero t h = absurd (omega arith)
listed_within f (suc n) zero h = refl
listed_within f (suc n) (suc t) h = listed_within (λ i. f (suc i)) n t (omega arith)

abbrev line_at : ℕ → List ACall → ℕ → List ACall
line_at t line i = if i == t then line else []

abbrev only : ℕ → List ACall → Matrix → Matrix
only t line matrix = record matrix { threads = listed (line_at t line) (thread_count matrix) }

only_here : (t : ℕ) (line : List ACall) (matrix : Matrix) → t < thread_count matrix → calls_of (only t line matrix) t ≡ line
only_here t line matrix h = listed_within (line_at t line) (thread_count matrix) t h ∙ ap (λ b. if b then line else []) (eq-eqb t t refl)

only_drawn : (limit : Option ℕ) (t : ℕ) (line : List ACall) (matrix : Matrix) → AreDrawn limit (calls_of matrix t) line → IsDrawnFrom limit matrix (only t line matrix)
only_drawn limit t line matrix are = record {
  setup = refl;
  many = listed_many (line_at t line) (thread_count matrix);
  each = λ i. elim (listed_row (line_at t line) (thread_count matrix) i) as (λ _. AreDrawn limit (calls_of matrix i) (calls_of (only t line matrix) i)) [
    | inl is ↦ subst (AreDrawn limit (calls_of matrix i)) (sym is) (by i (same_or_not i t))
    | inr none ↦ subst (AreDrawn limit (calls_of matrix i)) (sym none) (no_calls limit (calls_of matrix i))
  ];
}
  where
    by : (i : ℕ) → ((i ≡ t) ⊎ (i ≡ t → ⊥)) → AreDrawn limit (calls_of matrix i) (line_at t line i)
    by i (inl same) = subst (AreDrawn limit (calls_of matrix i)) (ap (λ b. if b then line else []) (sym (eq-eqb i t same))) (subst (λ x. AreDrawn limit (calls_of matrix x) line) (sym same) are)
    by i (inr apart) = subst (AreDrawn limit (calls_of matrix i)) (ap (λ b. if b then line else []) (sym (ne_eqb i t apart))) (no_calls limit (calls_of matrix i))

-- ---- moves

one_more_none : (ended : Bool) (k : ℕ) → one_more ended k ≡ k → ended ≡ false
one_more_none true k e = absurd (omega (arith, e))
one_more_none false k e = refl

event_held : (s : State) (t : ℕ) (before after : Thread) (e : Option Event) → How s t before after e → option_map (numbered before.done) e ≡ e
event_held s t before after e (inl called) = rw called.3 refl
event_held s t before after e (inr (inl went)) = rw went.3 refl
event_held s t before after e (inr (inr closed)) = rw closed.3.1 refl

module _ (limit : Option ℕ) (a : State) (m : Move) (b : State) (event : Option Event) (stable : around (AnyOrder limit) a ≡ a) where
  abbrev way : Way
  way = AnyOrder limit

  abbrev t : ℕ
  t = m.thread

  abbrev R : List (List ACall)
  R = a.matrix.threads

  number : (was : Thread) → slice_get a.threads t ≡ Some was → turned way (length (row_of R t)) was.done ≡ was.done
  number was e =
      let there : slice_get a.threads t ≡ Some (turn way R t was) = ap (λ (x : State). slice_get x.threads t) (sym stable) ∙ (stand_at way R a.threads t ∙ ap (option_map (turn way R t)) e) in
      ap (λ (x : Thread). x.done) (the_thread a t (turn way R t was) was there e)

  -- the thread's call counted in the client
  counted_threads : (was x : Thread) (activity : Activity) → slice_get a.threads t ≡ Some was → x ≡ record { done = was.done; activity = activity } → stand_in way R (slice_set a.threads t x) ≡ slice_set a.threads t (record { done = was.done; activity = activity })
  counted_threads was x activity e is =
      ap (λ y. stand_in way R (slice_set a.threads t y)) is
      ∙ stand_set way R a.threads t (record { done = was.done; activity = activity })
      ∙ ap (λ y. slice_set y t (turn way R t (record { done = was.done; activity = activity }))) (ap (λ (y : State). y.threads) stable)
      ∙ ap (λ (n : ℕ). let y : Thread = record { done = n; activity = activity } in slice_set a.threads t y) (number was e)

  -- an open operation needs no call
  over : (from to : Matrix) → HasOpen a t → StepOn way from a m b event → StepOn way to a m b event
  over from to busy h =
      let by = step_stepped (seen a from a.threads) m h.0 event h.1 in
      let was = by.before in
      let same : busy.0 ≡ was = the_thread a t busy.0 was busy.1 by.was in
      let call : HasSameCall (seen a from a.threads) t was to was = λ idle. absurd (busy.2 (ap (λ (x : Thread). x.activity) same ∙ idle)) in
      let on = step_carried (seen a from a.threads) m h.0 event to a.threads was was by.was by.was refl call h.1 in
      let now : List Thread = slice_set a.threads t (record { done = one_more on.ended was.done; activity = on.activity }) in (
        seen h.0 to now,
        subst (Step (seen a to a.threads) m (seen h.0 to now)) (event_held (seen a from a.threads) t was by.after event by.kind) on.step,
        h.2 ∙ ap (λ x. seen h.0 a.matrix (stand_in way R x)) on.threads_are,
      )

  module _ (calls : Matrix) (are : IsDrawnFrom limit a.matrix calls) (h : StepOn way calls a m b event) where
    by : Stepped (seen a calls a.threads) m h.0 event
    by = step_stepped (seen a calls a.threads) m h.0 event h.1

    drawn : (idle : by.before.activity ≡ Idle) (same : by.after.done ≡ by.before.done) (opens : event ≡ Some (Call t by.before.done)) (left : by.before.done < length (calls_of calls t)) (i : ℕ) → slice_get (calls_of a.matrix t) i ≡ slice_get (calls_of calls t) by.before.done → Draws limit a m i b event
    drawn idle same opens left i is =
        let was = by.before in
        let mine : Thread = record was { done = i } in
        let rows : List Thread = slice_set a.threads t mine in
        let there : slice_get rows t ≡ Some mine = slice_get_set_same a.threads t mine was by.was in
        let call : HasSameCall (seen a calls a.threads) t was a.matrix mine = λ _. is in
        let on = step_carried (seen a calls a.threads) m h.0 event a.matrix rows was mine by.was there refl call h.1 in
        let x : Thread = record { done = one_more on.ended was.done; activity = on.activity } in
        let now : Thread = record { done = one_more on.ended mine.done; activity = on.activity } in
        let after : by.after ≡ x = the_thread h.0 t by.after x by.is (ap (λ y. slice_get y t) on.threads_are ∙ slice_get_set_same a.threads t x was by.was) in
        let kept : one_more on.ended was.done ≡ was.done = ap (λ (y : Thread). y.done) (sym after) ∙ same in
        let x_is : x ≡ record { done = was.done; activity = on.activity } = ap (λ (n : ℕ). let y : Thread = record { done = n; activity = on.activity } in y) kept in
        let last : Thread = record { done = was.done; activity = on.activity } in
        record {
          was = was;
          stands = by.was;
          idle = idle;
          allowed = fewer_allowed limit (was.done + 1) (length (calls_of calls t)) (omega (arith, left)) (are.each t).allowed;
          next = seen h.0 a.matrix (slice_set rows t now);
          made = option_map (numbered mine.done) event;
          step = on.step;
          now = now;
          is_now = slice_get_set_same rows t now mine there;
          leaves =
              h.2
              ∙ ap (seen h.0 a.matrix)
              (ap (stand_in way R) on.threads_are
              ∙ counted_threads was x on.activity by.was x_is
              ∙ sym (ap (λ y. slice_set y t last) (set-set a.threads t mine now) ∙ set-set a.threads t now last));
          event_is = opens;
        }

    -- where it makes a call, it may be counted as each call of the line that is the same
    called : (was : Thread) → slice_get a.threads t ≡ Some was → was.activity ≡ Idle → (i : ℕ) → slice_get (calls_of a.matrix t) i ≡ slice_get (calls_of calls t) was.done → Draws limit a m i b event
    called was stands idle i is =
        let same : was ≡ by.before = the_thread a t was by.before stands by.was in
        let rests : by.before.activity ≡ Idle = ap (λ (x : Thread). x.activity) (sym same) ∙ idle in
        elim by.kind as (λ _. Draws limit a m i b event) [
          | inl opens ↦ drawn rests opens.2 opens.3 opens.4 i (is ∙ ap (λ (x : Thread). slice_get (calls_of calls t) x.done) same)
          | inr other ↦ elim other as (λ _. Draws limit a m i b event) [
            | inl went ↦ absurd (went.0 rests)
            | inr closed ↦ absurd (closed.0 rests)
          ]
        ]

    indexed : (HasOpen a t × StepOn way a.matrix a m b event) ⊎ ((i : ℕ) × Draws limit a m i b event)
    indexed = elim by.kind as (λ _. (HasOpen a t × StepOn way a.matrix a m b event) ⊎ ((i : ℕ) × Draws limit a m i b event)) [
      | inl opens ↦
          (let at = get_in (calls_of calls t) by.before.done opens.4 in
          let i = (are.each t).each by.before.done at.0 at.1 in
          inr (i.0, drawn opens.0 opens.2 opens.3 opens.4 i.0 (i.1 ∙ sym at.1)))
      | inr other ↦ elim other as (λ _. (HasOpen a t × StepOn way a.matrix a m b event) ⊎ ((i : ℕ) × Draws limit a m i b event)) [
        | inl went ↦ (let busy : HasOpen a t = (by.before, by.was, went.0) in inl (busy, over calls a.matrix busy h))
        | inr closed ↦ (let busy : HasOpen a t = (by.before, by.was, closed.0) in inl (busy, over calls a.matrix busy h))
      ]
    ]

  -- ---- and back

  open_back : HasOpen a t → StepOn way a.matrix a m b event → ClientStep way a m b event
  open_back busy h = (only t [] a.matrix, only_drawn limit t [] a.matrix (no_calls limit (calls_of a.matrix t)), over a.matrix (only t [] a.matrix) busy h)

  module _ (i : ℕ) (d : Draws limit a m i b event) where
    abbrev mine : Thread
    mine = record d.was { done = i }

    abbrev s : State
    s = with_standing a t mine

    it : Stepped s m d.next d.made
    it = step_stepped s m d.next d.made d.step

    there : slice_get s.threads t ≡ Some mine
    there = slice_get_set_same a.threads t mine d.was d.stands

    is_mine : it.before ≡ mine
    is_mine = the_thread s t it.before mine it.was there

    call_back : (same : it.after.done ≡ it.before.done) (opens : d.made ≡ Some (Call t it.before.done)) (left : it.before.done < length (calls_of a.matrix t)) → ClientStep way a m b event
    call_back same opens left =
        let below : i < length (calls_of a.matrix t) = subst (λ (x : Thread). x.done < length (calls_of a.matrix t)) is_mine left in
        let at = get_in (calls_of a.matrix t) i below in
        let k = d.was.done in
        let line = replicate (k + 1) at.0 in
        let from = only t line a.matrix in
        let row = only_here t line a.matrix (is_thread a.matrix t i below) in
        let many = copies_many (k + 1) at.0 in
        let are : IsDrawnFrom limit a.matrix from = only_drawn limit t line a.matrix (record {
          allowed = fewer_allowed limit (length line) (k + 1) (omega (arith, many)) d.allowed;
          each = λ j x e. (i, at.1 ∙ ap Some (copies_only (k + 1) at.0 x j e));
        }) in
        let call : HasSameCall s t mine from d.was = λ _. ap (λ (x : List ACall). slice_get x k) row ∙ (copies_at (k + 1) at.0 k (omega arith) ∙ sym at.1) in
        let on = step_carried s m d.next d.made from a.threads mine d.was there d.stands refl call d.step in
        let x : Thread = record { done = one_more on.ended k; activity = on.activity } in
        let y : Thread = record { done = one_more on.ended i; activity = on.activity } in
        let last : Thread = record { done = k; activity = on.activity } in
        let y_there : slice_get d.next.threads t ≡ Some y = ap (λ z. slice_get z t) on.threads_are ∙ slice_get_set_same s.threads t y mine there in
        let after : it.after ≡ y = the_thread d.next t it.after y it.is y_there in
        let kept : one_more on.ended i ≡ i = ap (λ (z : Thread). z.done) (sym after) ∙ (same ∙ ap (λ (z : Thread). z.done) is_mine) in
        let goes : on.ended ≡ false = one_more_none on.ended i kept in
        let x_is : x ≡ last = ap (λ e. let z : Thread = record { done = one_more e k; activity = on.activity } in z) goes in
        let now_is : d.now ≡ y = the_thread d.next t d.now y d.is_now y_there in
        let b_is : b ≡ seen d.next a.matrix (slice_set a.threads t last) =
        d.leaves
        ∙ ap (λ (z : Matrix). seen d.next z (slice_set d.next.threads t (record d.now { done = k }))) it.matrix
        ∙ ap (seen d.next a.matrix)
        (ap (λ (z : Thread). slice_set d.next.threads t (record z { done = k })) now_is
        ∙ ap (λ z. slice_set z t last) on.threads_are
        ∙ ap (λ z. slice_set z t last) (set-set a.threads t mine y)
        ∙ set-set a.threads t y last) in
        let named : option_map (numbered k) d.made ≡ event = ap (option_map (numbered k)) opens ∙ sym d.event_is in (
          from,
          are,
          (
            seen d.next from (slice_set a.threads t x),
            subst (Step (seen a from a.threads) m (seen d.next from (slice_set a.threads t x))) named on.step,
            b_is ∙ ap (seen d.next a.matrix) (sym (counted_threads d.was x on.activity d.stands x_is)),
          ),
        )

    back : ClientStep way a m b event
    back =
        let rests : it.before.activity ≡ Idle = ap (λ (x : Thread). x.activity) is_mine ∙ d.idle in
        elim it.kind as (λ _. ClientStep way a m b event) [
          | inl called ↦ call_back called.2 called.3 called.4
          | inr other ↦ elim other as (λ _. ClientStep way a m b event) [
            | inl went ↦ absurd (went.0 rests)
            | inr closed ↦ absurd (closed.0 rests)
          ]
        ]

pub drawn_moves : (limit : Option ℕ) (a : State) (m : Move) (b : State) (event : Option Event) → around (AnyOrder limit) a ≡ a →
    ClientStep (AnyOrder limit) a m b event ↔ ((HasOpen a m.thread × StepOn (AnyOrder limit) a.matrix a m b event) ⊎ ((i : ℕ) × Draws limit a m i b event))
drawn_moves limit a m b event stable = (
  (λ h. indexed limit a m b event stable h.0 h.1 h.2),
  (λ x. elim x as (λ _. ClientStep (AnyOrder limit) a m b event) [
    | inl busy ↦ open_back limit a m b event stable busy.0 busy.1
    | inr draws ↦ back limit a m b event stable draws.0 draws.1
  ]),
)

pub calls_are_drawn : (limit : Option ℕ) (matrix : Matrix) (s : State) (m : Move) (next : State) (event : Option Event) (was : Thread) (call : ACall) (i : ℕ) →
    IsDrawnFrom limit matrix s.matrix → Step s m next event → slice_get s.threads m.thread ≡ Some was → was.activity ≡ Idle → slice_get (calls_of s.matrix m.thread) was.done ≡ Some call → slice_get (calls_of matrix m.thread) i ≡ Some call →
    Draws limit (client_of (AnyOrder limit) matrix s) m i (client_of (AnyOrder limit) matrix next) (option_map (event_in (AnyOrder limit) matrix) event)
calls_are_drawn limit matrix s m next event was call i is step stands idle has line =
    let way = AnyOrder limit in
    let t = m.thread in
    let a = client_of way matrix s in
    let to = next_calls way matrix s.matrix is t was.done in
    let same = to.2 (slice_get_within (calls_of s.matrix t) was.done call has) in
    let on : StepOn way to.0 a m (client_of way matrix next) (option_map (event_in way matrix) event) =
    step_to_client way matrix to.0 s m next event (λ x e rests. (let one : was ≡ x = the_thread s t was x stands e in subst (λ (y : Thread). slice_get (calls_of s.matrix t) y.done ≡ slice_get (calls_of to.0 t) (turned way (length (calls_of matrix t)) y.done)) one (sym same))) step in
    let there : slice_get a.threads t ≡ Some (turn way matrix.threads t was) = stand_at way matrix.threads s.threads t ∙ ap (option_map (turn way matrix.threads t)) stands in
    called limit a m (client_of way matrix next) (option_map (event_in way matrix) event) (around_once way (record s { matrix = matrix })) to.0 to.1 on (turn way matrix.threads t was) there idle i (line ∙ (sym has ∙ sym same))

pub calls_close : (limit : Option ℕ) (start : State) (list : List State) → IsClosedByCalls limit start list → IsClosed (AnyOrder limit) start list
calls_close limit start list is = record {
  starts = is.starts;
  closed = λ i a m b event at step.
      elim ((drawn_moves limit a m b event (is.client i a at)).0 step) as (λ _. (k : ℕ) × (slice_get list k ≡ Some b)) [
        | inl busy ↦ is.moves i a m b event at busy.0 busy.1
        | inr draws ↦ is.calls i a m draws.0 b event at draws.1
      ];
}
