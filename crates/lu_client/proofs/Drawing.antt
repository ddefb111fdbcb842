-- Each schedule of the client that draws its calls is one of some matrix drawn so.
use Rattle.std.proofs.Common.{arith, ◌≡◌, ◌≢◌, ℕ, zero, suc, ◌+◌, ◌<◌, ◌≤◌, ◌==◌, ◌⊎◌, if◌then◌else◌, List, [], ◌∷◌, length, map, replicate, Option, Some, None, slice_get, refl, sym, ◌∙◌, ap, subst, inl, inr}
use Rattle.std.specs.Option.{option_map}
use Rattle.std.proofs.lemmas.Bool.{cases_lt, eq-eqb, ne_eqb}
use Rattle.std.proofs.lemmas.Option.{slice_get_within}
use Rattle.lu_component.specs.Component.{Component}
use Rattle.lu_test.specs.declared.matrix.Call.{Call}
use Rattle.lu_test.specs.declared.schedule.Move.{Move}
use Rattle.lu_test.specs.Matrix.{Matrix, calls_of, row_of, thread_count}
use Rattle.lu_machine.specs.declared.event.Event.{Event}
use Rattle.lu_machine.specs.declared.thread.Activity.TheVariants.{Idle}
use Rattle.lu_machine.specs.declared.thread.Thread.{Thread}
use Rattle.lu_machine.specs.States.{State}
use Rattle.lu_machine.specs.Runs.{with_event}
use Rattle.lu_machine.specs.Starts.{IsStart, at_rest}
use Rattle.lu_machine.proofs.Starting.{other_start, starts_at_rest}
use Rattle.lu_serial.proofs.Opening.{same_or_not}
use Rattle.lu_serial.proofs.Counts.{made_at, made_busy, made_idle, made_in, made_of, made_others}
use Rattle.lu_serial.specs.Whole.{made}
use Rattle.lu_serial.proofs.Moves.{Stepped, step_stepped, the_thread}
use Rattle.lu_client.specs.Rounds.{AreDrawn, IsAllowed, IsDrawnFrom, Way}
use Rattle.lu_client.specs.Rounds.Way.{AnyOrder, InOrder}
use Rattle.lu_client.specs.Clients.{ClientLeads, HasNext, StepOn, around, client_matrix, client_of, event_in}
use Rattle.lu_client.specs.Laws.{HasMoved, IsScheduleTo}
use Rattle.lu_client.specs.Stages.{IsIn}
use Rattle.lu_client.proofs.Clients.{move_from_client}
use Rattle.lu_client.proofs.Carried.{seen}
use Rattle.lu_client.proofs.Making.{step_made}
use Rattle.lu_client.proofs.Schedules.{IsMade, schedule_in_order, with_event_map}
use Rattle.lu_client.proofs.Turning.{stand_at, turn}
use Rattle.lu_client.proofs.Unrolled.{client_at_rest, fewer_allowed}

-- ---- the calls that a thread has made, after a move

made_called : (s : State) (m : Move) (new : State) (e : Option Event) → (by : Stepped s m new e) → by.before.activity ≡ Idle → made_of new m.thread ≡ made_of s m.thread + 1
made_called s m new e by idle =
    let was = made_at s m.thread by.before by.was in
    let first = made_idle by.before idle in
    let after = step_made s m new e by in
    omega (arith, was, first, after)

made_held : (s : State) (m : Move) (new : State) (e : Option Event) → (by : Stepped s m new e) → by.before.activity ≢ Idle → made_of new m.thread ≡ made_of s m.thread
made_held s m new e by busy =
    let was = made_at s m.thread by.before by.was in
    let first = made_busy by.before busy in
    let after = step_made s m new e by in
    omega (arith, was, first, after)

-- ---- calls that come first

abbrev with_first : ℕ → Call → (ℕ → List Call) → ℕ → List Call
with_first t call calls i = if i == t then call ∷ calls i else calls i

first_here : (t : ℕ) (call : Call) (calls : ℕ → List Call) → with_first t call calls t ≡ call ∷ calls t
first_here t call calls = ap (λ b. if b then call ∷ calls t else calls t) (eq-eqb t t refl)

first_there : (t : ℕ) (call : Call) (calls : ℕ → List Call) (i : ℕ) → (i ≡ t → ⊥) → with_first t call calls i ≡ calls i
first_there t call calls i apart = ap (λ b. if b then call ∷ calls i else calls i) (ne_eqb i t apart)

pub get_in : {A : Type 0} (xs : List A) (k : ℕ) → k < length xs → (x : A) × (slice_get xs k ≡ Some x)
get_in [] k h = absurd (omega arith)
get_in (x ∷ xs) zero h = (x, refl)
get_in (x ∷ xs) (suc k) h = get_in xs k (omega arith)

-- from s on each thread makes these calls
HasCalls : State → (ℕ → List Call) → Type 0
HasCalls s calls = (t k : ℕ) (was : Thread) → slice_get s.threads t ≡ Some was → k < length (calls t) → slice_get (calls_of s.matrix t) (made_of s t + k) ≡ slice_get (calls t) k

module _ (limit : Option ℕ) (matrix : Matrix) where
  abbrev way : Way
  way = AnyOrder limit

  -- so many calls may be made from the client's state a on
  HasRoom : State → (ℕ → List Call) → Type 0
  HasRoom a calls = (t : ℕ) → 0 < length (calls t) → IsAllowed limit (made_of a t + length (calls t))

  -- Calls of the lines: a state that has them next has the client's schedule.
  record CallsFor (a : State) (u : List Move) (b : State) (history : List Event) : Type 0 where
    calls : ℕ → List Call
    drawn : (t k : ℕ) (call : Call) → slice_get (calls t) k ≡ Some call → IsIn (calls_of matrix t) call
    room : HasRoom a calls
    makes : (s : State) → client_of way matrix s ≡ a → HasCalls s calls → IsMade way matrix s u b history

  none_more : (a : State) → CallsFor a [] a []
  unfolding HasRoom
  none_more a = record {
    calls = λ t. [];
    drawn = λ t k call e. absurd (let f : None ≡ Some call = e in cc);
    room = λ t some. absurd (omega (arith, some));
    makes = λ s is has. record { end = s; made = []; leads = (refl, refl); is = is; counted = refl };
  }

  -- where the client counts, a thread has made as many calls there
  made_there : (a : State) (calls : Matrix) (h : State) (b : State) (t : ℕ) → b ≡ around way (record h { matrix = a.matrix }) → (n : ℕ) → limit ≡ Some n → made_of b t ≡ made_of h t
  made_there a calls h b t is n some =
      ap (λ x. made_of x t) is
      ∙ ap made_in (stand_at way a.matrix.threads h.threads t)
      ∙ by (slice_get h.threads t)
    where
      alike : (x : Thread) (l : Option ℕ) → l ≡ Some n → made (turn (AnyOrder l) a.matrix.threads t x) ≡ made x
      alike x None e = absurd cc
      alike x (Some k) e = refl

      by : (o : Option Thread) → made_in (option_map (turn way a.matrix.threads t) o) ≡ made_in o
      by None = refl
      by (Some x) = alike x limit some

  -- a move before
  module _ (a : State) (m : Move) (u : List Move) (b next : State) (event : Option Event) (rest : List Event) (from : Matrix) (own : a.matrix ≡ matrix) (are : IsDrawnFrom limit matrix from) (h : StepOn way from a m next event) (more : CallsFor next u b rest) where
    abbrev t : ℕ
    t = m.thread

    by : Stepped (seen a from a.threads) m h.0 event
    by = step_stepped (seen a from a.threads) m h.0 event h.1

    -- the client's thread stands as that of s does
    stands_as : (s : State) → client_of way matrix s ≡ a → (was : Thread) → slice_get s.threads t ≡ Some was → by.before ≡ turn way matrix.threads t was
    stands_as s is was e =
        let there : slice_get a.threads t ≡ Some (turn way matrix.threads t was) = ap (λ (x : State). slice_get x.threads t) (sym is) ∙ (stand_at way matrix.threads s.threads t ∙ ap (option_map (turn way matrix.threads t)) e) in
        the_thread a t by.before (turn way matrix.threads t was) by.was there

    -- so the move is one of s, where s has the call
    made_first : (s : State) → client_of way matrix s ≡ a → HasNext way matrix from s t →
        ((moved : HasMoved way matrix s m next event) → HasCalls moved.next more.calls) → IsMade way matrix s (m ∷ u) b (with_event event rest)
    made_first s is has on =
        let moved = move_from_client way matrix from s m next event has (subst (λ x. StepOn way from x m next event) (sym is) h) in
        let last = more.makes moved.next moved.is (on moved) in
        record {
          end = last.end;
          made = with_event moved.made last.made;
          leads = (moved.next, moved.made, last.made, moved.step, last.leads, refl);
          is = last.is;
          counted = with_event_map (event_in way matrix) moved.made last.made ∙ (ap (λ e. with_event e (map (event_in way matrix) last.made)) moved.counted ∙ ap (with_event event) last.counted);
        }

    -- an operation goes on
    held : by.before.activity ≢ Idle → CallsFor a (m ∷ u) b (with_event event rest)
    unfolding HasRoom HasCalls
    held busy = record {
      calls = more.calls;
      drawn = more.drawn;
      room = λ i some. room_of i limit refl (more.room i some);
      makes = λ s is has. made_first s is
          (λ was e idle. absurd (busy (ap (λ (x : Thread). x.activity) (stands_as s is was e) ∙ idle)))
          (λ moved i k was e below. on s is has moved i k was e below);
    }
      where
        kept : (i : ℕ) → made_of h.0 i ≡ made_of a i
        kept i = elim (same_or_not i t) as (λ _. made_of h.0 i ≡ made_of a i) [
          | inl same ↦ subst (λ x. made_of h.0 x ≡ made_of a x) (sym same) (made_held (seen a from a.threads) m h.0 event by busy)
          | inr apart ↦ made_others (seen a from a.threads) m h.0 event by i apart
        ]

        room_of : (i : ℕ) (l : Option ℕ) → limit ≡ l → IsAllowed limit (made_of next i + length (more.calls i)) → IsAllowed limit (made_of a i + length (more.calls i))
        room_of i None e allowed = subst (λ x. IsAllowed x (made_of a i + length (more.calls i))) (sym e) tt
        room_of i (Some n) e allowed =
            subst (λ x. IsAllowed limit (x + length (more.calls i))) (made_there a from h.0 next i h.2 n e ∙ kept i) allowed

        on : (s : State) → client_of way matrix s ≡ a → HasCalls s more.calls → (moved : HasMoved way matrix s m next event) → (i k : ℕ) (was : Thread) → slice_get moved.next.threads i ≡ Some was → k < length (more.calls i) → slice_get (calls_of moved.next.matrix i) (made_of moved.next i + k) ≡ slice_get (more.calls i) k
        on s is has moved i k was e below =
            let its = step_stepped s m moved.next moved.made moved.step in
            let calls : slice_get (calls_of moved.next.matrix i) (made_of moved.next i + k) ≡ slice_get (calls_of s.matrix i) (made_of moved.next i + k) = ap (λ x. slice_get (calls_of x i) (made_of moved.next i + k)) its.matrix in
            elim (same_or_not i t) as (λ _. slice_get (calls_of moved.next.matrix i) (made_of moved.next i + k) ≡ slice_get (more.calls i) k) [
              | inl same ↦
                  (let same_made : made_of moved.next i ≡ made_of s i = subst (λ x. made_of moved.next x ≡ made_of s x) (sym same)
                  (made_held s m moved.next moved.made its (λ idle. busy (ap (λ (x : Thread). x.activity) (stands_as s is its.before its.was) ∙ idle))) in
                  calls ∙ (ap (λ n. slice_get (calls_of s.matrix i) (n + k)) same_made ∙ has i k its.before (ap (slice_get s.threads) same ∙ its.was) below))
              | inr apart ↦ calls ∙ (ap (λ n. slice_get (calls_of s.matrix i) (n + k)) (made_others s m moved.next moved.made its i apart) ∙ has i k was (sym (its.others i apart) ∙ e) below)
            ]

    -- an operation is called
    module _ (idle : by.before.activity ≡ Idle) (call : Call) (at : slice_get (calls_of from t) by.before.done ≡ Some call) where
      abbrev calls : ℕ → List Call
      calls = with_first t call more.calls

      called_room : (i : ℕ) (l : Option ℕ) → limit ≡ l → 0 < length (calls i) → IsAllowed limit (made_of a i + length (calls i))
      unfolding HasRoom
      called_room i None e some = subst (λ x. IsAllowed x (made_of a i + length (calls i))) (sym e) tt
      called_room i (Some n) e some =
          elim (same_or_not i t) as (λ _. IsAllowed limit (made_of a i + length (calls i))) [
            | inl same ↦ subst (λ x. IsAllowed limit (made_of a x + length (calls x))) (sym same) here
            | inr apart ↦
                (let same_calls = ap (λ (x : List Call). length x) (first_there t call more.calls i apart) in
                let there : made_of next i ≡ made_of a i = made_there a from h.0 next i h.2 n e ∙ made_others (seen a from a.threads) m h.0 event by i apart in
                let all = more.room i (omega (arith, same_calls, some)) in
                subst (IsAllowed limit) (omega (arith, same_calls, there)) all)
          ]
        where
          there : made_of next t ≡ made_of a t + 1
          there = made_there a from h.0 next t h.2 n e ∙ made_called (seen a from a.threads) m h.0 event by idle

          many : length (calls t) ≡ length (more.calls t) + 1
          many = ap (λ (x : List Call). length x) (first_here t call more.calls) ∙ omega arith

          here : IsAllowed limit (made_of a t + length (calls t))
          here = elim (cases_lt 0 (length (more.calls t))) as (λ _. IsAllowed limit (made_of a t + length (calls t))) [
            | inl others ↦ subst (IsAllowed limit) (omega (arith, there, many)) (more.room t others)
            | inr none ↦
                (let within = slice_get_within (calls_of from t) by.before.done call at in
                let was : made_of a t ≡ made by.before = made_at a t by.before by.was in
                let first = made_idle by.before idle in
                fewer_allowed limit (made_of a t + length (calls t)) (length (calls_of from t)) (omega (arith, within, was, first, many, none)) (are.each t).allowed)
          ]

      called_drawn : (i k : ℕ) (x : Call) → slice_get (calls i) k ≡ Some x → IsIn (calls_of matrix i) x
      called_drawn i k x e = elim (same_or_not i t) as (λ _. IsIn (calls_of matrix i) x) [
        | inl same ↦ subst (λ y. IsIn (calls_of matrix y) x) (sym same) (here k (ap (λ (y : List Call). slice_get y k) (sym (first_here t call more.calls)) ∙ (ap (λ y. slice_get (calls y) k) (sym same) ∙ e)))
        | inr apart ↦ more.drawn i k x (ap (λ (y : List Call). slice_get y k) (sym (first_there t call more.calls i apart)) ∙ e)
      ]
        where
          here : (k : ℕ) → slice_get (call ∷ more.calls t) k ≡ Some x → IsIn (calls_of matrix t) x
          here zero e = (are.each t).each by.before.done x (at ∙ e)
          here (suc k) e = more.drawn t k x e

      called_next : (s : State) → client_of way matrix s ≡ a → HasCalls s calls → HasNext way matrix from s t
      unfolding HasCalls
      called_next s is has was e rests =
          let first : slice_get (calls t) 0 ≡ Some call = ap (λ (y : List Call). slice_get y 0) (first_here t call more.calls) in
          let many = ap (λ (x : List Call). length x) (first_here t call more.calls) in
          let number : made_of s t + 0 ≡ was.done = (let at = made_at s t was e in let idle = made_idle was rests in omega (arith, at, idle)) in
          ap (slice_get (calls_of s.matrix t)) (sym number)
          ∙ (has t 0 was e (omega (arith, many)) ∙ (first ∙ (sym at ∙ ap (λ (x : Thread). slice_get (calls_of from t) x.done) (stands_as s is was e))))

      called_on : (s : State) → client_of way matrix s ≡ a → HasCalls s calls → (moved : HasMoved way matrix s m next event) → (i k : ℕ) (was : Thread) → slice_get moved.next.threads i ≡ Some was → k < length (more.calls i) → slice_get (calls_of moved.next.matrix i) (made_of moved.next i + k) ≡ slice_get (more.calls i) k
      unfolding HasCalls
      called_on s is has moved i k was e below =
          let its = step_stepped s m moved.next moved.made moved.step in
          let same_calls : slice_get (calls_of moved.next.matrix i) (made_of moved.next i + k) ≡ slice_get (calls_of s.matrix i) (made_of moved.next i + k) = ap (λ x. slice_get (calls_of x i) (made_of moved.next i + k)) its.matrix in
          elim (same_or_not i t) as (λ _. slice_get (calls_of moved.next.matrix i) (made_of moved.next i + k) ≡ slice_get (more.calls i) k) [
            | inl same ↦
                (let one : made_of moved.next i ≡ made_of s i + 1 = subst (λ x. made_of moved.next x ≡ made_of s x + 1) (sym same)
                (made_called s m moved.next moved.made its (ap (λ (x : Thread). x.activity) (sym (stands_as s is its.before its.was)) ∙ idle)) in
                let first : calls i ≡ call ∷ more.calls i = subst (λ x. calls x ≡ call ∷ more.calls x) (sym same) (first_here t call more.calls) in
                let many = ap (λ (x : List Call). length x) first in
                same_calls
                ∙ (ap (slice_get (calls_of s.matrix i)) (plus_one (made_of moved.next i) (made_of s i) k one)
                ∙ (has i (suc k) its.before (ap (slice_get s.threads) same ∙ its.was) (omega (arith, many, below)) ∙ ap (λ (y : List Call). slice_get y (suc k)) first)))
            | inr apart ↦
                (let others = first_there t call more.calls i apart in
                let many = ap (λ (x : List Call). length x) others in
                same_calls ∙ (ap (λ n. slice_get (calls_of s.matrix i) (n + k)) (made_others s m moved.next moved.made its i apart) ∙ (has i k was (sym (its.others i apart) ∙ e) (omega (arith, many, below)) ∙ ap (λ (y : List Call). slice_get y k) others)))
          ]
        where
          plus_one : (x n k : ℕ) → x ≡ n + 1 → x + k ≡ n + suc k
          plus_one x n k e = omega (arith, e)

      called : CallsFor a (m ∷ u) b (with_event event rest)
      unfolding HasRoom HasCalls
      called = record {
        calls = calls;
        drawn = called_drawn;
        room = λ i some. called_room i limit refl some;
        makes = λ s is has. made_first s is (called_next s is has) (λ moved i k was e below. called_on s is has moved i k was e below);
      }

    one_more_move : CallsFor a (m ∷ u) b (with_event event rest)
    one_more_move = elim by.kind as (λ _. CallsFor a (m ∷ u) b (with_event event rest)) [
      | inl opens ↦ (let at = get_in (calls_of from t) by.before.done opens.4 in called opens.0 at.0 at.1)
      | inr other ↦ elim other as (λ _. CallsFor a (m ∷ u) b (with_event event rest)) [
        | inl went ↦ held went.0
        | inr closed ↦ held closed.0
      ]
    ]

  calls_for : (u : List Move) (a b : State) (history : List Event) → a.matrix ≡ matrix → ClientLeads way a u b history → CallsFor a u b history
  calls_for [] a b history own p = subst (λ x. CallsFor a [] x history) (sym p.0) (subst (CallsFor a [] a) (sym p.1) (none_more a))
  calls_for (m ∷ u) a b history own p =
      let step = p.3 in
      let on : p.0.matrix ≡ matrix = ap (λ (x : State). x.matrix) step.2.2 ∙ own in
      subst (CallsFor a (m ∷ u) b) (sym p.5) (one_more_move a m u b p.0 p.1 p.2 step.0 own (subst (λ x. IsDrawnFrom limit x step.0) own step.1) step.2 (calls_for u p.0 b p.2 on p.4))

-- ---- the matrix of these calls

zero_allowed : (l : Option ℕ) → IsAllowed l 0
zero_allowed None = tt
zero_allowed (Some n) = omega arith

pub no_calls : (limit : Option ℕ) (line : List Call) → AreDrawn limit line []
no_calls limit line = record { allowed = zero_allowed limit; each = λ k call e. absurd (let f : None ≡ Some call = e in cc) }

abbrev pub listed : (ℕ → List Call) → ℕ → List (List Call)
listed f zero = []
listed f (suc n) = f 0 ∷ listed (λ t. f (suc t)) n

pub listed_many : (f : ℕ → List Call) (n : ℕ) → length (listed f n) ≡ n
listed_many f zero = refl
listed_many f (suc n) = let rest = listed_many (λ t. f (suc t)) n in omega (arith, rest)

pub listed_row : (f : ℕ → List Call) (n t : ℕ) → (row_of (listed f n) t ≡ f t) ⊎ (row_of (listed f n) t ≡ [])
listed_row f zero t = inr refl
listed_row f (suc n) zero = inl refl
listed_row f (suc n) (suc t) = listed_row (λ t. f (suc t)) n t

listed_at : (f : ℕ → List Call) (n t : ℕ) (x : Thread) → slice_get (replicate n (record { done = 0; activity = Idle })) t ≡ Some x → row_of (listed f n) t ≡ f t
listed_at f zero t x e = absurd cc
listed_at f (suc n) zero x e = refl
listed_at f (suc n) (suc t) x e = listed_at (λ t. f (suc t)) n t x e

rest_made : (n t : ℕ) (x : Thread) → slice_get (replicate n (record { done = 0; activity = Idle })) t ≡ Some x → made x ≡ 0
rest_made zero t x e = absurd cc
rest_made (suc n) zero x e = let idle : Thread = record { done = 0; activity = Idle } in let is : idle ≡ x = cc in ap made (sym is)
rest_made (suc n) (suc t) x e = rest_made n t x e

module _ (c : Component) (limit : Option ℕ) (matrix : Matrix) (a : State) (u : List Move) (b : State) (history : List Event) (start : IsStart c matrix a) (p : ClientLeads (AnyOrder limit) a u b history) where
  for_all : CallsFor limit matrix a u b history
  for_all = calls_for limit matrix u a b history (ap (λ (x : State). x.matrix) start.is) p

  abbrev big : Matrix
  big = record matrix { threads = listed for_all.calls (thread_count matrix) }

  row_drawn : (t : ℕ) → AreDrawn limit (calls_of matrix t) (calls_of big t)
  unfolding HasRoom
  row_drawn t = elim (listed_row for_all.calls (thread_count matrix) t) as (λ _. AreDrawn limit (calls_of matrix t) (calls_of big t)) [
    | inl is ↦ subst (AreDrawn limit (calls_of matrix t)) (sym is) (record { allowed = all_allowed (cases_lt 0 (length (for_all.calls t))); each = for_all.drawn t })
    | inr none ↦ subst (AreDrawn limit (calls_of matrix t)) (sym none) (no_calls limit (calls_of matrix t))
  ]
    where
      all_allowed : ((0 < length (for_all.calls t)) ⊎ (length (for_all.calls t) ≤ 0)) → IsAllowed limit (length (for_all.calls t))
      all_allowed (inl some) = fewer_allowed limit (length (for_all.calls t)) (made_of a t + length (for_all.calls t)) (omega arith) (for_all.room t some)
      all_allowed (inr none) = fewer_allowed limit (length (for_all.calls t)) 0 (omega (arith, none)) (zero_allowed limit)

  drawn_schedule : IsScheduleTo c (AnyOrder limit) matrix u b history
  unfolding HasCalls
  drawn_schedule =
      let s = at_rest c big a.cells a.locks in
      let unrolled : IsDrawnFrom limit matrix big = record { setup = refl; many = listed_many for_all.calls (thread_count matrix); each = row_drawn } in
      let same : client_of (AnyOrder limit) matrix s ≡ a = client_at_rest c (AnyOrder limit) matrix big a.cells a.locks unrolled ∙ sym (starts_at_rest c matrix a start) in
      let made = for_all.makes s same (λ t k was e below.
      (let none = made_at s t was e in
      let zeros = rest_made (thread_count big) t was e in
      let row = listed_at for_all.calls (thread_count matrix) t was (ap (λ n. slice_get (replicate n (record { done = 0; activity = Idle })) t) (sym unrolled.many) ∙ e) in
      ap (slice_get (calls_of big t)) (omega (arith, none, zeros)) ∙ ap (λ (x : List Call). slice_get x k) row)) in
      record {
        big = big;
        unrolled = unrolled;
        start = s;
        is_start = other_start c matrix big a start refl;
        end = made.end;
        made = made.made;
        leads = made.leads;
        is = made.is;
        counted = made.counted;
      }

pub schedule_from_client : (c : Component) (way : Way) (matrix : Matrix) (a : State) (u : List Move) (b : State) (history : List Event) → IsStart c (client_matrix way matrix) a → ClientLeads way a u b history → IsScheduleTo c way matrix u b history
schedule_from_client c (InOrder rounds) matrix a u b history start p = schedule_in_order c rounds matrix a u b history start p
schedule_from_client c (AnyOrder limit) matrix a u b history start p = drawn_schedule c limit matrix a u b history start p
