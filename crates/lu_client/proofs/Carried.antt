-- A move, carried over to another state whose thread stands alike.
use Rattle.std.proofs.Common.{◌≡◌, ◌≢◌, ◌+◌, ◌-◌, ◌==◌, Bool, true, false, if◌then◌else◌, ℕ, zero, suc, List, [], ◌∷◌, slice_get, slice_set, Option, Some, None, MatchOption, MatchBool, refl, sym, ◌∙◌, ap, subst}
use Rattle.std.specs.Option.{option_map, option_map_or}
use Rattle.std.proofs.lemmas.List.{set-set}
use Rattle.lu_component.specs.declared.instr.Instr.{Instr}
use Rattle.lu_component.specs.declared.instr.Instr.TheVariants.{Set, Compute, Load, Store, Cas, Lock, Unlock, Await, AwaitNot, Pick, Jump, JumpIfZero, Return}
use Rattle.lu_test.specs.declared.schedule.Move.{Move}
use Rattle.lu_test.specs.Matrix.{Matrix, calls_of}
use Rattle.lu_machine.specs.declared.event.Event.{Event}
use Rattle.lu_machine.specs.declared.event.Event.TheVariants.{Call as Called, Return as Returned}
use Rattle.lu_machine.specs.declared.event.Outcome.TheVariants.{Trap}
use Rattle.lu_machine.specs.declared.thread.Activity.{Activity}
use Rattle.lu_machine.specs.declared.thread.Activity.TheVariants.{Idle, Open}
use Rattle.lu_machine.specs.declared.thread.Frame.{Frame}
use Rattle.lu_machine.specs.declared.thread.Thread.{Thread}
use Rattle.lu_machine.specs.Effects.{Effect, value_of, onward, onward_with}
use Rattle.lu_machine.specs.Effects.Effect.{GoesOn, Ends}
use Rattle.lu_machine.specs.States.{State, cell_at, instr_at, value_at, with_cell, with_owner, with_standing}
use Rattle.lu_machine.specs.Steps.{ByActivity, Carries, OneStep, RunsOn, Step, activity_is_local, activity_picks, choices, event_after, instr_picks, is_at_local, is_blocked, more_local, opened, owns, picks_of, thread_after}
use Rattle.lu_machine.proofs.Keeping.{carries_alike}
use Rattle.lu_machine.proofs.OneStepLaws.{one_same}
use Rattle.lu_machine.proofs.Running.{local_once}
use Rattle.lu_machine.proofs.Undoing.{moved_there}
use Rattle.lu_serial.proofs.Moves.{the_thread}

-- the cells and locks of s, over another matrix, and with other threads
abbrev pub seen : State → Matrix → List Thread → State
seen s matrix threads = record s { matrix = matrix; threads = threads }

module _ (matrix : Matrix) (threads : List Thread) where
  abbrev over : State → State
  over s = seen s matrix threads

  same_over : (s new : State) → new ≡ s → over new ≡ over s
  same_over s new e = ap over e

  store_over : (s new : State) (n : ℕ) (o : Option ℕ) (e x y : Effect) → MatchOption o ((new ≡ s) × (e ≡ x)) (λ p. (new ≡ with_cell s p n) × (e ≡ y)) → MatchOption o ((over new ≡ over s) × (e ≡ x)) (λ p. (over new ≡ with_cell (over s) p n) × (e ≡ y))
  store_over s new n None e x y h = (same_over s new h.0, h.1)
  store_over s new n (Some p) e x y h = (same_over (with_cell s p n) new h.0, h.1)

  test_over : (s new one : State) (t : Bool) (e x y : Effect) → MatchBool t ((new ≡ one) × (e ≡ x)) ((new ≡ s) × (e ≡ y)) → MatchBool t ((over new ≡ over one) × (e ≡ x)) ((over new ≡ over s) × (e ≡ y))
  test_over s new one true e x y h = (same_over one new h.0, h.1)
  test_over s new one false e x y h = (same_over s new h.0, h.1)

  cas_over : (s new : State) (f : Frame) (to v n : ℕ) (o : Option ℕ) (e : Effect) → MatchOption o ((new ≡ s) × (e ≡ Ends Trap)) (λ p. MatchBool (value_at s p == v) ((new ≡ with_cell s p n) × (e ≡ onward_with f to 1)) ((new ≡ s) × (e ≡ onward_with f to 0))) → MatchOption o ((over new ≡ over s) × (e ≡ Ends Trap)) (λ p. MatchBool (value_at s p == v) ((over new ≡ with_cell (over s) p n) × (e ≡ onward_with f to 1)) ((over new ≡ over s) × (e ≡ onward_with f to 0)))
  cas_over s new f to v n None e h = (same_over s new h.0, h.1)
  cas_over s new f to v n (Some p) e h = test_over s new (with_cell s p n) (value_at s p == v) e (onward_with f to 1) (onward_with f to 0) h

  -- no instruction looks at the matrix, or at the threads
  carries_over : (s : State) (m : Move) (f : Frame) (instr : Instr) (new : State) (e : Effect) → Carries s m f instr new e → Carries (over s) m f instr (over new) e
  carries_over s m f (Set to v) new e h = (same_over s new h.0, h.1)
  carries_over s m f (Compute by to x y) new e h = (same_over s new h.0, h.1)
  carries_over s m f (Load to w i) new e h = (same_over s new h.0, h.1)
  carries_over s m f (Store w i v) new e h = store_over s new (value_of f v) (cell_at s f w i) e (Ends Trap) (onward f) h
  carries_over s m f (Cas to w i x y) new e h = cas_over s new f to (value_of f x) (value_of f y) (cell_at s f w i) e h
  carries_over s m f (Lock l) new e h = (h.0, same_over (with_owner s l (Some m.thread)) new h.1, h.2)
  carries_over s m f (Unlock l) new e h = test_over s new (with_owner s l None) (owns s m.thread l) e (onward f) (Ends Trap) h
  carries_over s m f (Await w i v) new e h = (same_over s new h.0, h.1)
  carries_over s m f (AwaitNot w i v) new e h = (same_over s new h.0, h.1)
  carries_over s m f (Pick to count) new e h = (same_over s new h.0, h.1)
  carries_over s m f (Jump target) new e h = (same_over s new h.0, h.1)
  carries_over s m f (JumpIfZero v target) new e h = (same_over s new h.0, h.1)
  carries_over s m f (Return v) new e h = (same_over s new h.0, h.1)

  blocked_over : (s : State) (f : Frame) (instr : Instr) → is_blocked (over s) f instr ≡ is_blocked s f instr
  blocked_over s f (Set to v) = refl
  blocked_over s f (Compute by to x y) = refl
  blocked_over s f (Load to w i) = refl
  blocked_over s f (Store w i v) = refl
  blocked_over s f (Cas to w i x y) = refl
  blocked_over s f (Lock l) = refl
  blocked_over s f (Unlock l) = refl
  blocked_over s f (Await w i v) = refl
  blocked_over s f (AwaitNot w i v) = refl
  blocked_over s f (Pick to count) = refl
  blocked_over s f (Jump target) = refl
  blocked_over s f (JumpIfZero v target) = refl
  blocked_over s f (Return v) = refl

  -- an open operation has as many picks
  open_picks_over : (s : State) (t done k : ℕ) (f : Frame) → activity_picks (over s) t done (Open f) ≡ activity_picks s t k (Open f)
  open_picks_over s t done k f = by_instr (instr_at s.component f.op f.place)
    where
      by_instr : (o : Option Instr) → option_map_or (instr_picks (over s) f) o 0 ≡ option_map_or (instr_picks s f) o 0
      by_instr None = refl
      by_instr (Some instr) = ap (λ b. if b then 0 else choices instr) (blocked_over s f instr)

  pub picks_over : (s : State) (t : ℕ) (was mine : Thread) (activity : Activity) → slice_get s.threads t ≡ Some was → slice_get threads t ≡ Some mine → was.activity ≡ activity → mine.activity ≡ activity → activity ≢ Idle → picks_of (over s) t ≡ picks_of s t
  picks_over s t was mine Idle stands there is same busy = absurd (busy refl)
  picks_over s t was mine (Open f) stands there is same busy = rw (stands, there, is, same) (open_picks_over s t mine.done was.done f)

  activity_local_over : (s : State) (a : Activity) → activity_is_local (over s) a ≡ activity_is_local s a
  activity_local_over s Idle = refl
  activity_local_over s (Open f) = refl

  local_over : (s : State) (t : ℕ) (was mine : Thread) → slice_get s.threads t ≡ Some was → slice_get threads t ≡ Some mine → mine.activity ≡ was.activity → is_at_local (over s) t ≡ is_at_local s t
  local_over s t was mine stands there alike = rw (stands, there, alike) (activity_local_over s was.activity)

-- the event, of the thread's call number k
abbrev pub numbered : ℕ → Event → Event
numbered k (Called t n) = Called t k
numbered k (Returned t n outcome) = Returned t k outcome

-- one call more where the operation ended
abbrev pub one_more : Bool → ℕ → ℕ
one_more true k = k + 1
one_more false k = k

abbrev ends : Effect → Bool
ends (GoesOn f) = false
ends (Ends outcome) = true

abbrev acts : Effect → Activity
acts (GoesOn f) = Open f
acts (Ends outcome) = Idle

after_is : (k : ℕ) (effect : Effect) → thread_after k effect ≡ record { done = one_more (ends effect) k; activity = acts effect }
after_is k (GoesOn f) = refl
after_is k (Ends outcome) = refl

event_numbered : (t j k : ℕ) (effect : Effect) → option_map (numbered k) (event_after t j effect) ≡ event_after t k effect
event_numbered t j k (GoesOn f) = refl
event_numbered t j k (Ends outcome) = refl

-- the next call of `mine` over the matrix is that of `was`, where it is idle
abbrev pub HasSameCall : State → ℕ → Thread → Matrix → Thread → Type 0
HasSameCall s t was matrix mine = was.activity ≡ Idle → slice_get (calls_of matrix t) mine.done ≡ slice_get (calls_of s.matrix t) was.done

-- one call or instruction, carried over
record OneCarried (s : State) (m : Move) (new : State) (e : Option Event) (matrix : Matrix) (threads : List Thread) (was mine : Thread) : Type 0 where
  effect : Effect
  threads_are : new.threads ≡ slice_set s.threads m.thread (thread_after was.done effect)
  step : OneStep (seen s matrix threads) m (seen new matrix (slice_set threads m.thread (thread_after mine.done effect))) (option_map (numbered mine.done) e)

activity_carried : (s : State) (m : Move) (new : State) (e : Option Event) (matrix : Matrix) (threads : List Thread) (was mine : Thread) (activity : Activity) → was.activity ≡ activity → mine.activity ≡ activity → slice_get threads m.thread ≡ Some mine → HasSameCall s m.thread was matrix mine → ByActivity s m was.done activity new e → OneCarried s m new e matrix threads was mine
activity_carried s m new e matrix threads was mine Idle is same there call h =
    let by : ByActivity (seen s matrix threads) m mine.done Idle (seen new matrix (slice_set threads m.thread (record { done = mine.done; activity = Open (opened h.0) }))) (option_map (numbered mine.done) e) = (
      h.0,
      call is ∙ h.1,
      h.2,
      ap (λ x. seen x matrix (slice_set threads m.thread (record { done = mine.done; activity = Open (opened h.0) }))) h.3,
      ap (option_map (numbered mine.done)) h.4,
    ) in
    record {
      effect = GoesOn (opened h.0);
      threads_are = ap (λ (x : State). x.threads) h.3;
      step = (mine, there, rw same by);
    }
activity_carried s m new e matrix threads was mine (Open f) is same there call h =
    let alike = carries_alike s m f h.0 h.1 h.2 h.5 in
    let by : ByActivity (seen s matrix threads) m mine.done (Open f) (seen new matrix (slice_set threads m.thread (thread_after mine.done h.2))) (option_map (numbered mine.done) e) = (
      h.0,
      seen h.1 matrix threads,
      h.2,
      h.3,
      h.4,
      carries_over matrix threads s m f h.0 h.1 h.2 h.5,
      ap (λ x. seen x matrix (slice_set threads m.thread (thread_after mine.done h.2))) h.6,
      ap (option_map (numbered mine.done)) h.7 ∙ event_numbered m.thread was.done mine.done h.2,
    ) in
    record {
      effect = h.2;
      threads_are = ap (λ (x : State). x.threads) h.6 ∙ ap (λ (x : List Thread). slice_set x m.thread (thread_after was.done h.2)) alike.threads;
      step = (mine, there, rw same by);
    }

one_carried : (s : State) (m : Move) (new : State) (e : Option Event) (matrix : Matrix) (threads : List Thread) (was mine : Thread) → slice_get s.threads m.thread ≡ Some was → slice_get threads m.thread ≡ Some mine → mine.activity ≡ was.activity → HasSameCall s m.thread was matrix mine → OneStep s m new e → OneCarried s m new e matrix threads was mine
one_carried s m new e matrix threads was mine stands there alike call h =
    let same : h.0 ≡ was = the_thread s m.thread h.0 was h.1 stands in
    let by : ByActivity s m was.done was.activity new e = subst (λ (x : Thread). ByActivity s m x.done x.activity new e) same h.2 in
    activity_carried s m new e matrix threads was mine was.activity refl alike there call by

-- a thread that runs on, carried over
record RunCarried (n : ℕ) (s : State) (t : ℕ) (end : State) (matrix : Matrix) (threads : List Thread) (was mine : Thread) : Type 0 where
  activity : Activity
  threads_are : end.threads ≡ slice_set s.threads t (record { done = was.done; activity = activity })
  runs : RunsOn n (seen s matrix threads) t (seen end matrix (slice_set threads t (record { done = mine.done; activity = activity })))

pub set_stays : (threads : List Thread) (t : ℕ) (a : Thread) → slice_get threads t ≡ Some a → slice_set threads t a ≡ threads
set_stays [] t a h = refl
set_stays (b ∷ threads) zero a h = let e : b ≡ a = cc in ap (λ x. x ∷ threads) (sym e)
set_stays (b ∷ threads) (suc t) a h = ap (λ x. b ∷ x) (set_stays threads t a h)

-- it did not run on
run_stays : (n : ℕ) (s : State) (t : ℕ) (end : State) (matrix : Matrix) (threads : List Thread) (was mine : Thread) → slice_get s.threads t ≡ Some was → slice_get threads t ≡ Some mine → mine.activity ≡ was.activity → end ≡ s → (seen end matrix (slice_set threads t (record { done = mine.done; activity = was.activity })) ≡ seen s matrix threads → RunsOn n (seen s matrix threads) t (seen end matrix (slice_set threads t (record { done = mine.done; activity = was.activity })))) → RunCarried n s t end matrix threads was mine
run_stays n s t end matrix threads was mine stands there alike is runs =
    let same : slice_set threads t (record { done = mine.done; activity = was.activity }) ≡ threads = ap (λ (a : Activity). slice_set threads t (record { done = mine.done; activity = a })) (sym alike) ∙ set_stays threads t mine there in
    record {
      activity = was.activity;
      threads_are = ap (λ (x : State). x.threads) is ∙ sym (set_stays s.threads t was stands);
      runs = runs (ap (seen end matrix) same ∙ ap (λ x. seen x matrix threads) is);
    }

goes_on_only : (k : ℕ) (f : Frame) (effect : Effect) → Open f ≡ acts effect → effect ≡ GoesOn f
goes_on_only k f (GoesOn g) e = let same : f ≡ g = cc in ap GoesOn (sym same)
goes_on_only k f (Ends outcome) e = absurd cc

runs_carried : (n : ℕ) (s : State) (t : ℕ) (end : State) (matrix : Matrix) (threads : List Thread) (was mine : Thread) → slice_get s.threads t ≡ Some was → slice_get threads t ≡ Some mine → mine.activity ≡ was.activity → RunsOn n s t end → RunCarried n s t end matrix threads was mine
runs_carried zero s t end matrix threads was mine stands there alike h = run_stays zero s t end matrix threads was mine stands there alike h (λ e. e)
runs_carried (suc n) s t end matrix threads was mine stands there alike h = by_test (λ x. runs_carried n x t end matrix) (is_at_local s t) refl h
  where
    RunsOver : State → State → Type 0
    RunsOver x y = (next : State) × OneStep x (record { thread = t; pick = 0 }) next None × RunsOn n next t y

    by_test : ((x : State) (rows : List Thread) (a b : Thread) → slice_get x.threads t ≡ Some a → slice_get rows t ≡ Some b → b.activity ≡ a.activity → RunsOn n x t end → RunCarried n x t end matrix rows a b) → (test : Bool) → is_at_local s t ≡ test → MatchBool test ((next : State) × OneStep s (record { thread = t; pick = 0 }) next None × RunsOn n next t end) (end ≡ s) → RunCarried (suc n) s t end matrix threads was mine
    by_test go false is h =
        run_stays (suc n) s t end matrix threads was mine stands there alike h (λ e. rw (local_over matrix threads s t was mine stands there alike, is) e)
    by_test go true is h =
        let m : Move = record { thread = t; pick = 0 } in
        let one = one_carried s m h.0 None matrix threads was mine stands there alike (λ idle. never idle) h.1 in
        let once = local_once s t is in
        let stand : once.standing ≡ was = the_thread s t once.standing was once.stands stands in
        let next : h.0 ≡ with_standing s t (record { done = once.standing.done; activity = Open once.after }) = (one_same s m h.0 (with_standing s t (record { done = once.standing.done; activity = Open once.after })) None None h.1 once.step).0 in
        let here : slice_get h.0.threads t ≡ Some (thread_after was.done one.effect) = ap (λ x. slice_get x t) one.threads_are ∙ moved_there s t (thread_after was.done one.effect) was stands in
        let also : slice_get h.0.threads t ≡ Some (record { done = once.standing.done; activity = Open once.after }) = ap (λ (x : State). slice_get x.threads t) next ∙ moved_there s t (record { done = once.standing.done; activity = Open once.after }) was stands in
        let two : record { done = once.standing.done; activity = Open once.after } ≡ thread_after was.done one.effect = the_thread h.0 t (record { done = once.standing.done; activity = Open once.after }) (thread_after was.done one.effect) also here in
        let goes : one.effect ≡ GoesOn once.after = goes_on_only was.done once.after one.effect (ap (λ (x : Thread). x.activity) (two ∙ after_is was.done one.effect)) in
        let before : Thread = record { done = was.done; activity = Open once.after } in
        let beside : Thread = record { done = mine.done; activity = Open once.after } in
        let rows : List Thread = slice_set threads t beside in
        let now : h.0.threads ≡ slice_set s.threads t before = one.threads_are ∙ ap (λ x. slice_set s.threads t (thread_after was.done x)) goes in
        let step : OneStep (seen s matrix threads) m (seen h.0 matrix rows) None = subst (λ x. OneStep (seen s matrix threads) m (seen h.0 matrix (slice_set threads t (thread_after mine.done x))) None) goes one.step in
        let rest = go h.0 rows before beside (ap (λ x. slice_get x t) now ∙ moved_there s t before was stands) (moved_there (seen s matrix threads) t beside mine there) refl h.2 in
        let over : RunsOver (seen s matrix threads) (seen end matrix (slice_set threads t (record { done = mine.done; activity = rest.activity }))) = (
          seen h.0 matrix rows,
          step,
          subst (λ x. RunsOn n (seen h.0 matrix rows) t (seen end matrix x)) (set-set threads t beside (record { done = mine.done; activity = rest.activity })) rest.runs,
        ) in
        record {
          activity = rest.activity;
          threads_are = rest.threads_are ∙ ap (λ x. slice_set x t (record { done = was.done; activity = rest.activity })) now ∙ set-set s.threads t before (record { done = was.done; activity = rest.activity });
          runs = rw (local_over matrix threads s t was mine stands there alike, is) over;
        }
      where
        never : was.activity ≡ Idle → slice_get (calls_of matrix t) mine.done ≡ slice_get (calls_of s.matrix t) was.done
        never idle =
            let once = local_once s t is in
            let stand : once.standing ≡ was = the_thread s t once.standing was once.stands stands in
            let f : Open once.before ≡ Idle = sym once.is_open ∙ (ap (λ (x : Thread). x.activity) stand ∙ idle) in
            absurd cc

-- A move, carried over to the matrix and the threads: its own thread stands as it does in s, but for the number of its call.
pub record Carried (s : State) (m : Move) (new : State) (e : Option Event) (matrix : Matrix) (threads : List Thread) (was mine : Thread) : Type 0 where
  pub activity : Activity
  pub ended : Bool
  pub threads_are : new.threads ≡ slice_set s.threads m.thread (record { done = one_more ended was.done; activity = activity })
  pub step : Step (seen s matrix threads) m (seen new matrix (slice_set threads m.thread (record { done = one_more ended mine.done; activity = activity }))) (option_map (numbered mine.done) e)

pub step_carried : (s : State) (m : Move) (new : State) (e : Option Event) (matrix : Matrix) (threads : List Thread) (was mine : Thread) → slice_get s.threads m.thread ≡ Some was → slice_get threads m.thread ≡ Some mine → mine.activity ≡ was.activity → HasSameCall s m.thread was matrix mine → Step s m new e → Carried s m new e matrix threads was mine
step_carried s m new e matrix threads was mine stands there alike call h =
    let t = m.thread in
    let one = one_carried s m h.0 e matrix threads was mine stands there alike call h.1 in
    let ended = ends one.effect in
    let before : Thread = record { done = one_more ended was.done; activity = acts one.effect } in
    let beside : Thread = record { done = one_more ended mine.done; activity = acts one.effect } in
    let rows : List Thread = slice_set threads t beside in
    let now : h.0.threads ≡ slice_set s.threads t before = one.threads_are ∙ ap (λ x. slice_set s.threads t x) (after_is was.done one.effect) in
    let step : OneStep (seen s matrix threads) m (seen h.0 matrix rows) (option_map (numbered mine.done) e) = subst (λ x. OneStep (seen s matrix threads) m (seen h.0 matrix (slice_set threads t x)) (option_map (numbered mine.done) e)) (after_is mine.done one.effect) one.step in
    let rest = runs_carried (more_local s t) h.0 t new matrix rows before beside (ap (λ x. slice_get x t) now ∙ moved_there s t before was stands) (moved_there (seen s matrix threads) t beside mine there) refl h.2 in
    let more : more_local (seen s matrix threads) t ≡ more_local s t = ap (λ b. s.component.local - (if b then 1 else 0)) (local_over matrix threads s t was mine stands there alike) in
    record {
      activity = rest.activity;
      ended = ended;
      threads_are = rest.threads_are ∙ ap (λ x. slice_set x t (record { done = before.done; activity = rest.activity })) now ∙ set-set s.threads t before (record { done = before.done; activity = rest.activity });
      step = (
        seen h.0 matrix rows,
        step,
        subst (λ k. RunsOn k (seen h.0 matrix rows) t (seen new matrix (slice_set threads t (record { done = one_more ended mine.done; activity = rest.activity })))) (sym more)
            (subst (λ x. RunsOn (more_local s t) (seen h.0 matrix rows) t (seen new matrix x)) (set-set threads t beside (record { done = one_more ended mine.done; activity = rest.activity })) rest.runs),
      );
    }
