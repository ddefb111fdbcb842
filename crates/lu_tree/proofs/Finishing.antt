-- Threads that are run to their ends one after the other, and what that says of all orders.
use Rattle.std.proofs.Common.{◌≡◌, ℕ, zero, suc, ◌+◌, ◌-◌, ◌<◌, ◌≤◌, ◌⊎◌, true, List, [], ◌∷◌, ◌++◌, Option, Some, None, MatchOption, slice_get, slice_set, get_or, length, replicate, refl, sym, ◌∙◌, ap, subst, inl, inr, arith, append_assoc}
use Rattle.std.proofs.lemmas.Bool.{cases_eq, cases_lt}
use Rattle.std.proofs.lemmas.Bool.Decides.{nat_tests}
use Rattle.std.proofs.lemmas.List.{append-nil, get_or-set_same, get_or-set_other, length-set}
use Rattle.lu_machine.specs.declared.event.Event.{Event}
use Rattle.lu_machine.specs.declared.thread.Activity.{Activity}
use Rattle.lu_machine.specs.declared.thread.Activity.TheVariants.{Idle, Open}
use Rattle.lu_machine.specs.declared.thread.Frame.{Frame}
use Rattle.lu_machine.specs.declared.thread.Thread.{Thread}
use Rattle.lu_machine.specs.Changes.{at_work, idle}
use Rattle.lu_machine.specs.Effects.{Effect}
use Rattle.lu_machine.specs.Effects.Effect.{GoesOn, Ends}
use Rattle.lu_machine.specs.Ends.{IsComplete, IsFinished}
use Rattle.lu_machine.specs.Runs.{with_event}
use Rattle.lu_machine.specs.States.{State, call_count, progress}
use Rattle.lu_machine.specs.Steps.{ByActivity, Step, event_after}
use Rattle.lu_machine.specs.Sums.{capped}
use Rattle.lu_machine.proofs.Keeping.{step_keeps_threads, step_moved}
use Rattle.lu_machine.proofs.Paths.{with_event-append}
use Rattle.lu_machine.proofs.StepLaws.{step_same}
use Rattle.lu_horizon.proofs.OwnLaws.{one_step_by, other_stands}
use Rattle.lu_orders.specs.Orders.{all_moves, interleavings}
use Rattle.lu_orders.specs.Solo.{AreApart, HasSolo, IsSame, IsShared, LastEvents, Solo, only_move}
use Rattle.lu_orders.proofs.Frames.{Touches, Works, frame, same_itself, solo_same}
use Rattle.lu_orders.proofs.SoloRuns.{solo_run}
use Rattle.lu_history.specs.declared.serial.SerialOp.{SerialOp}
use Rattle.lu_history.specs.Standing.{Agree}
use Rattle.lu_tree.specs.declared.tail_question.Judging.TheVariants.{OneVerdict}
use Rattle.lu_tree.specs.declared.tail_question.TailQuestion.{TailQuestion}
use Rattle.lu_horizon.specs.declared.sharers.Sharers.{Sharers}
use Rattle.lu_horizon.specs.declared.sharers.Sharers.TheVariants.{Only, Readers}
use Rattle.lu_tree.specs.Tails.{HasNoCall, StartsAfter, IsGoodTail, IsJudged, IsRest, MayMove, sharing_of}
use Rattle.lu_tree.specs.Reordered.{AreReordered}
use Rattle.lu_tree.specs.Trees.{Below}
use Rattle.lu_tree.specs.Walks.{IsGoodAfter, completes}
use Rattle.lu_tree.proofs.Reordering.{reordered_then, witness_reordered}
use Rattle.lu_tree.proofs.TailBelow.{orders_all}
use Rattle.lu_tree.proofs.TailVerdicts.{one_for_all}
use Rattle.lu_tree.proofs.Walking.{AllEndSo}

none_past : {A : Type 0} (xs : List A) (i : ℕ) → slice_get xs i ≡ None → length xs ≤ i
none_past [] i e = omega arith
none_past (x ∷ xs) zero e = cc
none_past (x ∷ xs) (suc i) e = let rest = none_past xs i e in omega arith

abbrev pub zeros : ℕ → List ℕ
zeros n = replicate n 0

zeros_none : (n j : ℕ) → get_or (zeros n) j 0 ≡ 0
zeros_none zero j = refl
zeros_none (suc n) zero = refl
zeros_none (suc n) (suc j) = zeros_none n j

zeros_all : (n : ℕ) → all_moves (zeros n) ≡ 0
zeros_all zero = refl
zeros_all (suc n) = let rest = zeros_all n in omega arith

zeros_length : (n : ℕ) → length (zeros n) ≡ n
zeros_length zero = refl
zeros_length (suc n) = ap suc (zeros_length n)

more_moves : (ns : List ℕ) (t : ℕ) → t < length ns → all_moves (slice_set ns t (get_or ns t 0 + 1)) ≡ all_moves ns + 1
more_moves [] t within = absurd (omega arith)
more_moves (n ∷ ns) zero within = omega arith
more_moves (n ∷ ns) (suc t) within = let rest = more_moves ns t (omega arith) in omega arith

pub few_moves : (ns : List ℕ) (t : ℕ) → get_or ns t 0 ≤ all_moves ns
few_moves [] t = omega arith
few_moves (n ∷ ns) zero = omega arith
few_moves (n ∷ ns) (suc t) = let rest = few_moves ns t in omega arith

-- what one thread sees, the others keep
sharers_apart : (sharers : Sharers) → AreApart (sharing_of sharers)
sharers_apart (Only special) t u other sees = grind (arith, nat_tests)
sharers_apart Readers t u other sees = refl

module _ (Set : List SerialOp → Type 0) (question : TailQuestion) (s : State) (h : List Event) where
  -- after the last thread
  pub rest_end : (t left : ℕ) (ns : List ℕ) → ns ≡ zeros (length s.threads) → length s.threads ≤ t → IsComplete s → IsJudged Set question.judging h → IsRest Set question s h t left ns
  rest_end t left ns is past complete judged = rw is (record {
    many = zeros_length (length s.threads);
    short = (let e = zeros_all (length s.threads) in omega arith);
    none = λ j lt. zeros_none (length s.threads) j;
    solo = λ j le lt. absurd (omega arith);
    good = record { moves = []; end = s; events = []; leads = (refl, refl); complete = complete; silent = λ e. tt; judged = rw (append-nil h) judged };
  })

  -- a thread that has made all its calls
  pub rest_turn : (t left : ℕ) (ns : List ℕ) → IsFinished s t → IsRest Set question s h (t + 1) left ns → IsRest Set question s h t left ns
  rest_turn t left ns finished rest = record {
    many = rest.many;
    short = rest.short;
    none = λ j lt. rest.none j (omega arith);
    solo = λ j le lt. elim (cases_eq t j) [
      | inl itself ↦
          (let zero_left : get_or ns j 0 ≡ 0 = ap (λ x. get_or ns x 0) (sym itself) ∙ rest.none t (omega arith) in
          rw zero_left ((λ i. None), over j lt (subst (IsFinished s) itself finished)))
      | inr other ↦ rest.solo j (omega arith) lt
    ];
    good = rest.good;
  }
    where
      by_thread : (j : ℕ) (o : Option Thread) → slice_get s.threads j ≡ o → j < length s.threads → MatchOption o (Unit {0}) (λ thread. (thread.activity ≡ Idle) × (call_count s j ≤ thread.done)) → (done : ℕ) × (slice_get s.threads j ≡ Some (idle done)) × (call_count s j ≤ done)
      by_thread j None at lt is = absurd (let past = none_past s.threads j at in omega arith)
      by_thread j (Some thread) at lt is = (thread.done, at ∙ ap (λ a. let x : Thread = record { done = thread.done; activity = a } in Some x) is.0, is.1)

      over : (j : ℕ) → j < length s.threads → IsFinished s j → (done : ℕ) × (slice_get s.threads j ≡ Some (idle done)) × (call_count s j ≤ done)
      over j lt is = by_thread j (slice_get s.threads j) refl lt is

  -- one move before
  module _ (t : ℕ) (next : State) (event : Option Event) (step : Step s (only_move t) next event) (may : MayMove question s t) where
    touches : (k : ℕ) (f : Frame) → slice_get s.threads t ≡ Some (at_work k f) → Touches ((sharing_of question.sharers).sees t) ((sharing_of question.sharers).keeps t) s f
    touches k f stands =
        let within = may.within k f stands in
        record {
          unseen_is = λ instr e here. (let l = rw (stands, here) at (within.unseen e) in l);
          reads_is = λ instr e here. (let l = rw (stands, here) at (within.reads e) in l);
        }

    works : (k : ℕ) (activity : Activity) → slice_get s.threads t ≡ Some (record { done = k; activity = activity }) → Works ((sharing_of question.sharers).sees t) ((sharing_of question.sharers).keeps t) t k activity s next event
    works k activity stands = record {
      stands = stands;
      touches = λ f e. touches k f (stands ∙ ap (λ a. let x : Thread = record { done = k; activity = a } in Some x) e);
      one = may.one;
      step = step;
    }

    quiet : (k : ℕ) (activity : Activity) → slice_get s.threads t ≡ Some (record { done = k; activity = activity }) → (sharing_of question.sharers).keeps t ≡ true → IsShared s next
    quiet k activity stands e =
        let sees = (sharing_of question.sharers).sees t in
        let fr = frame sees ((sharing_of question.sharers).keeps t) t k activity s next event (works k activity stands) s (same_itself sees t s) in
        let same = step_same s (only_move t) fr.there next event event fr.step step in
        subst (IsShared s) same.0 (fr.quiet e)

    -- where one verdict is to serve, the move makes no call
    silent : (k : ℕ) (activity : Activity) → slice_get s.threads t ≡ Some (record { done = k; activity = activity }) → question.judging ≡ OneVerdict → (rest : List Event) → HasNoCall rest → HasNoCall (with_event event rest)
    silent k Idle stands one rest none = absurd (may.calls k stands one)
    silent k (Open f) stands one rest none =
        let by : ByActivity s (only_move t) k (Open f) step.0 event = one_step_by s (only_move t) step.0 event (at_work k f) stands step.1 in
        rw by.7 (by_effect by.2)
      where
        by_effect : (e : Effect) → HasNoCall (with_event (event_after t k e) rest)
        by_effect (GoesOn g) = none
        by_effect (Ends o) = none

    pub rest_move : (left : ℕ) (ns : List ℕ) (after : List Event) → 1 ≤ left → t < length s.threads → after ≡ h ++ with_event event [] → IsRest Set question next after t (left - 1) ns → IsRest Set question s h t left (slice_set ns t (get_or ns t 0 + 1))
    rest_move left ns after some within is rest =
        let moved = step_moved s (only_move t) next event step in
        let k = moved.standing.done in
        let activity = moved.standing.activity in
        let stands : slice_get s.threads t ≡ Some (record { done = k; activity = activity }) = moved.stands in
        let threads = step_keeps_threads s (only_move t) next event step in
        let many = rest.many in
        let there : t < length ns = omega arith in
        let n = get_or ns t 0 in
        let sharing = sharing_of question.sharers in
        record {
          many = length-set ns t (n + 1) ∙ (rest.many ∙ threads);
          short = (let e = more_moves ns t there in let f = rest.short in omega arith);
          none = λ j lt. get_or-set_other ns t j (n + 1) 0 (λ e. omega arith) ∙ rest.none j lt;
          solo = λ j le lt. elim (cases_eq j t) [
            | inl itself ↦
                (let mine : HasSolo (sharing.sees t) (sharing.keeps t) t (suc n) s = solo_run (sharing.sees t) (sharing.keeps t) t k activity n s next event (works k activity stands) (rest.solo t (omega arith) (omega arith)) in
                let e : get_or (slice_set ns t (n + 1)) t 0 ≡ suc n = get_or-set_same ns t (n + 1) 0 there ∙ omega arith in
                subst (λ x. HasSolo (sharing.sees x) (sharing.keeps x) x (get_or (slice_set ns t (n + 1)) x 0) s) (sym itself) (rw e mine))
            | inr other ↦
                (let old = rest.solo j le (omega arith) in
                let e : get_or (slice_set ns t (n + 1)) j 0 ≡ get_or ns j 0 = get_or-set_other ns t j (n + 1) 0 other in
                let back : IsSame (sharing.sees j) j next s = record {
                  component = sym moved.component;
                  matrix_is = sym moved.matrix;
                  stands = sym (other_stands s (only_move t) next event j (λ x. other (sym x)) step);
                  shared = λ sees. (let q = quiet k activity stands (sharers_apart question.sharers j t other sees) in (sym q.0, sym q.1));
                } in
                rw e (old.0, solo_same (sharing.sees j) (sharing.keeps j) j old.0 (get_or ns j 0) next s back old.1))
          ];
          good =
              (let g = rest.good in
              let joined : after ++ g.events ≡ h ++ with_event event g.events = ap (λ x. x ++ g.events) is ∙ (append_assoc h (with_event event []) g.events ∙ ap (λ x. h ++ x) (with_event-append event [] g.events)) in
              record {
                moves = only_move t ∷ g.moves;
                end = g.end;
                events = with_event event g.events;
                leads = (next, event, g.events, step, g.leads, refl);
                complete = g.complete;
                silent = λ one. silent k activity stands one g.events (g.silent one);
                judged = subst (IsJudged Set question.judging) joined g.judged;
              });
        }

  -- all threads
  pub rest_all : (left n : ℕ) (ns : List ℕ) → StartsAfter question.judging h → IsRest Set question s h 0 left ns → n ≡ capped (interleavings ns) → IsGoodTail Set s h left n
  rest_all left n ns behind rest is = record {
    moves = ns;
    sharing = sharing_of question.sharers;
    events_of = λ j. events_at j (cases_lt j (length s.threads));
    judging = question.judging;
    tail = record { many = rest.many; apart = sharers_apart question.sharers; each = λ j lt. solo_at j lt (cases_lt j (length s.threads)) };
    short = rest.short;
    number = is;
    after = behind;
    good = rest.good;
  }
    where
      has : (j : ℕ) → j < length s.threads → HasSolo ((sharing_of question.sharers).sees j) ((sharing_of question.sharers).keeps j) j (get_or ns j 0) s
      has j lt = rest.solo j (omega arith) lt

      events_at : (j : ℕ) → (j < length s.threads) ⊎ (length s.threads ≤ j) → LastEvents
      events_at j (inl lt) = (has j lt).0
      events_at j (inr past) = λ i. None

      solo_at : (j : ℕ) → j < length s.threads → (c : (j < length s.threads) ⊎ (length s.threads ≤ j)) → Solo ((sharing_of question.sharers).sees j) ((sharing_of question.sharers).keeps j) j (events_at j c) (get_or ns j 0) s
      solo_at j lt (inl lt') = (has j lt').1
      solo_at j lt (inr past) = absurd (omega arith)

-- below such a state, after each reordered history
pub tail_all : (Set : List SerialOp → Type 0) (left n : ℕ) (s : State) (h g : List Event) → Agree (progress s) h → AreReordered h g → IsGoodTail Set s h left n → AllEndSo (IsGoodAfter Set g) s left (Below []) (completes n)
tail_all Set left n s h g agree re t =
    let short = t.short in
    let all = orders_all s (IsGoodAfter Set g) left t.sharing t.events_of (all_moves t.moves) [] s [] (refl, refl) t.moves t.tail refl (omega arith)
    (λ v end k leads complete.
    (let here = one_for_all Set s h agree t.moves t.sharing t.events_of t.tail v end k leads complete t.judging t.after t.good in
    inl (complete, witness_reordered Set (h ++ k) (g ++ k) (reordered_then h g k re) here))) in
    subst (λ (x : ℕ). AllEndSo (IsGoodAfter Set g) s left (Below []) (completes x)) (sym t.number) all
