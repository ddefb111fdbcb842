-- What a move does in another state that is the same for its thread.
use Rattle.std.proofs.Common.{◌≡◌, ◌≢◌, ℕ, zero, suc, ◌+◌, ◌<◌, ◌==◌, if◌then◌else◌, Bool, true, false, List, [], ◌∷◌, get_or, Option, Some, None, MatchOption, MatchBool, slice_get, slice_set, refl, sym, ◌∙◌, ap, subst}
use Rattle.std.specs.Option.{option_map_or}
use Rattle.std.proofs.lemmas.List.{set-set}
use Rattle.std.proofs.lemmas.Option.{same_Some}
use Rattle.lu_component.specs.declared.instr.Instr.{Instr}
use Rattle.lu_component.specs.declared.instr.Instr.TheVariants.{Set, Compute, Load, Store, Cas, Lock, Unlock, Await, AwaitNot, Pick, Jump, JumpIfZero, Return}
use Rattle.lu_test.specs.declared.schedule.Move.{Move}
use Rattle.lu_machine.specs.declared.event.Event.{Event}
use Rattle.lu_machine.specs.declared.event.Event.TheVariants.{Call as Called, Return as Returned}
use Rattle.lu_machine.specs.declared.event.Outcome.{Outcome}
use Rattle.lu_machine.specs.declared.event.Outcome.TheVariants.{Trap}
use Rattle.lu_machine.specs.declared.thread.Activity.{Activity}
use Rattle.lu_machine.specs.declared.thread.Activity.TheVariants.{Idle, Open}
use Rattle.lu_machine.specs.declared.thread.Frame.{Frame}
use Rattle.lu_machine.specs.declared.thread.Thread.{Thread}
use Rattle.lu_machine.specs.Effects.{Effect, onward, onward_with, value_of}
use Rattle.lu_machine.specs.Effects.Effect.{GoesOn, Ends}
use Rattle.lu_machine.specs.States.{State, cell_at, cell_of, instr_at, value_at, with_cell, with_owner, with_standing}
use Rattle.lu_machine.specs.Steps.{ByActivity, Carries, OneStep, RunsOn, Step, activity_is_local, choices, event_after, is_at_local, is_local, more_local, opened, owns, thread_after}
use Rattle.lu_machine.proofs.Keeping.{carries_alike}
use Rattle.lu_machine.proofs.Undoing.{moved_there, stays}
use Rattle.lu_machine.proofs.Unseen.{local_unseen}

-- s with other cells, locks and threads
abbrev pub elsewhere : State → List ℕ → List (Option ℕ) → List Thread → State
elsewhere s cells locks threads = record s { cells = cells; locks = locks; threads = threads }

-- s with other threads
abbrev pub among : State → List Thread → State
among s threads = record s { threads = threads }

-- ---- a thread that runs on by local instructions

local_carried : (s r mid : State) (m : Move) (f : Frame) (instr : Instr) (e : Effect) → is_local instr ≡ true → Carries s m f instr mid e → (mid ≡ s) × Carries r m f instr r e
local_carried s r mid m f (Set to v) e h c = (c.0, (refl, c.1))
local_carried s r mid m f (Compute by to a b) e h c = (c.0, (refl, c.1))
local_carried s r mid m f (Load to w i) e h c = cc
local_carried s r mid m f (Store w i v) e h c = cc
local_carried s r mid m f (Cas to w i x y) e h c = cc
local_carried s r mid m f (Lock l) e h c = cc
local_carried s r mid m f (Unlock l) e h c = cc
local_carried s r mid m f (Await w i v) e h c = cc
local_carried s r mid m f (AwaitNot w i v) e h c = cc
local_carried s r mid m f (Pick to count) e h c = cc
local_carried s r mid m f (Jump target) e h c = (c.0, (refl, c.1))
local_carried s r mid m f (JumpIfZero v target) e h c = (c.0, (refl, c.1))
local_carried s r mid m f (Return v) e h c = cc

module _ (s : State) (cells : List ℕ) (locks : List (Option ℕ)) (threads : List Thread) where
  abbrev there : State
  there = elsewhere s cells locks threads

  activity_alike : (a : Activity) → activity_is_local there a ≡ activity_is_local s a
  activity_alike Idle = refl
  activity_alike (Open f) = refl

  local_alike : (t : ℕ) (x : Thread) → slice_get s.threads t ≡ Some x → slice_get threads t ≡ Some x → is_at_local there t ≡ is_at_local s t
  local_alike t x stands same = rw (stands, same) (activity_alike x.activity)

  -- one local instruction
  module _ (m : Move) (x : Thread) (same : slice_get threads m.thread ≡ Some x) (next : State) where
    local_by : (a : Activity) → x.activity ≡ a → activity_is_local s a ≡ true → ByActivity s m x.done a next None → (now : Thread) × (next ≡ with_standing s m.thread now) × OneStep there m (elsewhere s cells locks (slice_set threads m.thread now)) None
    local_by Idle is h by = absurd (let wrong = by.4 in cc)
    local_by (Open f) is h by =
        let local : is_local by.0 ≡ true = rw by.3 at h in
        let on = local_carried s there by.1 m f by.0 by.2 local by.5 in
        let now = thread_after x.done by.2 in
        let again : ByActivity there m x.done (Open f) (elsewhere s cells locks (slice_set threads m.thread now)) None = (by.0, there, by.2, by.3, by.4, on.1, refl, by.7) in (
          now,
          by.6 ∙ ap (λ (z : State). with_standing z m.thread now) on.0,
          (x, same, subst (λ z. ByActivity there m x.done z (elsewhere s cells locks (slice_set threads m.thread now)) None) (sym is) again),
        )

    local_there : slice_get s.threads m.thread ≡ Some x → is_at_local s m.thread ≡ true → OneStep s m next None → (now : Thread) × (next ≡ with_standing s m.thread now) × OneStep there m (elsewhere s cells locks (slice_set threads m.thread now)) None
    local_there stands h one =
        let is : one.0 ≡ x = same_Some one.0 x (sym one.1 ∙ stands) in
        let by : ByActivity s m x.done x.activity next None = subst (λ (z : Thread). ByActivity s m z.done z.activity next None) is one.2 in
        let local : activity_is_local s x.activity ≡ true = rw stands at h in
        local_by x.activity refl local by

-- so it runs on to the same place
pub runs_there : (n : ℕ) (s : State) (cells : List ℕ) (locks : List (Option ℕ)) (threads : List Thread) (t : ℕ) (x : Thread) (end : State) → slice_get s.threads t ≡ Some x → slice_get threads t ≡ Some x → RunsOn n s t end → (now : Thread) × (end ≡ with_standing s t now) × RunsOn n (elsewhere s cells locks threads) t (elsewhere s cells locks (slice_set threads t now))
runs_there zero s cells locks threads t x end stands same h =
    (x, h ∙ sym (stays s t x stands), stays (elsewhere s cells locks threads) t x same)
runs_there (suc n) s cells locks threads t x end stands same h = by_test (λ z ts y. runs_there n z cells locks ts t y end) (is_at_local s t) refl h
  where
    there : State
    there = elsewhere s cells locks threads

    by_test : ((z : State) (ts : List Thread) (y : Thread) → slice_get z.threads t ≡ Some y → slice_get ts t ≡ Some y → RunsOn n z t end → (now : Thread) × (end ≡ with_standing z t now) × RunsOn n (elsewhere z cells locks ts) t (elsewhere z cells locks (slice_set ts t now)))
        → (test : Bool) → is_at_local s t ≡ test → MatchBool test ((next : State) × OneStep s (record { thread = t; pick = 0 }) next None × RunsOn n next t end) (end ≡ s)
        → (now : Thread) × (end ≡ with_standing s t now) × RunsOn (suc n) (elsewhere s cells locks threads) t (elsewhere s cells locks (slice_set threads t now))
    by_test go true is h =
        let m : Move = record { thread = t; pick = 0 } in
        let one = local_there s cells locks threads m x same h.0 stands is h.1 in
        let next = with_standing s t one.0 in
        let ts = slice_set threads t one.0 in
        let rest = go next ts one.0 (moved_there s t one.0 x stands) (moved_there (elsewhere s cells locks threads) t one.0 x same) (subst (λ z. RunsOn n z t end) one.1 h.2) in
        let last : slice_set ts t rest.0 ≡ slice_set threads t rest.0 = set-set threads t one.0 rest.0 in
        let run : RunsOn n (elsewhere s cells locks ts) t (elsewhere s cells locks (slice_set threads t rest.0)) = subst (λ (l : List Thread). RunsOn n (elsewhere s cells locks ts) t (elsewhere s cells locks l)) last rest.2 in
        let test : is_at_local (elsewhere s cells locks threads) t ≡ true = local_alike s cells locks threads t x stands same ∙ is in (
          rest.0,
          rest.1 ∙ ap (λ (l : List Thread). among s l) (set-set s.threads t one.0 rest.0),
          rw test (elsewhere s cells locks ts, one.2, run),
        )
    by_test go false is h =
        let test : is_at_local (elsewhere s cells locks threads) t ≡ false = local_alike s cells locks threads t x stands same ∙ is in
        (x, h ∙ sym (stays s t x stands), rw test (stays (elsewhere s cells locks threads) t x same))

-- where as many may run on
more_alike : (s : State) (cells : List ℕ) (locks : List (Option ℕ)) (threads : List Thread) (t : ℕ) (x : Thread) → slice_get s.threads t ≡ Some x → slice_get threads t ≡ Some x → more_local (elsewhere s cells locks threads) t ≡ more_local s t
more_alike s cells locks threads t x stands same = rw (local_alike s cells locks threads t x stands same) refl

-- ---- other threads alone stand elsewhere

store_among : (s new : State) (ts : List Thread) (n : ℕ) (o : Option ℕ) (x y e : Effect) → MatchOption o ((new ≡ s) × (e ≡ x)) (λ p. (new ≡ with_cell s p n) × (e ≡ y)) → MatchOption o ((among new ts ≡ among s ts) × (e ≡ x)) (λ p. (among new ts ≡ with_cell (among s ts) p n) × (e ≡ y))
store_among s new ts n None x y e h = (ap (λ z. among z ts) h.0, h.1)
store_among s new ts n (Some p) x y e h = (ap (λ z. among z ts) h.0, h.1)

match_among : (one s new : State) (ts : List Thread) (b : Bool) (x y e : Effect) → MatchBool b ((new ≡ one) × (e ≡ x)) ((new ≡ s) × (e ≡ y)) → MatchBool b ((among new ts ≡ among one ts) × (e ≡ x)) ((among new ts ≡ among s ts) × (e ≡ y))
match_among one s new ts true x y e h = (ap (λ z. among z ts) h.0, h.1)
match_among one s new ts false x y e h = (ap (λ z. among z ts) h.0, h.1)

cas_among : (s new : State) (ts : List Thread) (f : Frame) (to v n : ℕ) (o : Option ℕ) (e : Effect) → MatchOption o ((new ≡ s) × (e ≡ Ends Trap)) (λ p. MatchBool (value_at s p == v) ((new ≡ with_cell s p n) × (e ≡ onward_with f to 1)) ((new ≡ s) × (e ≡ onward_with f to 0)))
    → MatchOption o ((among new ts ≡ among s ts) × (e ≡ Ends Trap)) (λ p. MatchBool (value_at s p == v) ((among new ts ≡ with_cell (among s ts) p n) × (e ≡ onward_with f to 1)) ((among new ts ≡ among s ts) × (e ≡ onward_with f to 0)))
cas_among s new ts f to v n None e h = (ap (λ z. among z ts) h.0, h.1)
cas_among s new ts f to v n (Some p) e h = match_among (with_cell s p n) s new ts (value_at s p == v) (onward_with f to 1) (onward_with f to 0) e h

carries_among : (s new : State) (ts : List Thread) (m : Move) (f : Frame) (instr : Instr) (e : Effect) → Carries s m f instr new e → Carries (among s ts) m f instr (among new ts) e
carries_among s new ts m f (Set to v) e h = (ap (λ z. among z ts) h.0, h.1)
carries_among s new ts m f (Compute by to a b) e h = (ap (λ z. among z ts) h.0, h.1)
carries_among s new ts m f (Load to w i) e h = (ap (λ z. among z ts) h.0, h.1)
carries_among s new ts m f (Store w i v) e h = store_among s new ts (value_of f v) (cell_at s f w i) (Ends Trap) (onward f) e h
carries_among s new ts m f (Cas to w i x y) e h = cas_among s new ts f to (value_of f x) (value_of f y) (cell_at s f w i) e h
carries_among s new ts m f (Lock l) e h = (h.0, ap (λ z. among z ts) h.1, h.2)
carries_among s new ts m f (Unlock l) e h = match_among (with_owner s l None) s new ts (owns s m.thread l) (onward f) (Ends Trap) e h
carries_among s new ts m f (Await w i v) e h = (ap (λ z. among z ts) h.0, h.1)
carries_among s new ts m f (AwaitNot w i v) e h = (ap (λ z. among z ts) h.0, h.1)
carries_among s new ts m f (Pick to count) e h = (ap (λ z. among z ts) h.0, h.1)
carries_among s new ts m f (Jump target) e h = (ap (λ z. among z ts) h.0, h.1)
carries_among s new ts m f (JumpIfZero v target) e h = (ap (λ z. among z ts) h.0, h.1)
carries_among s new ts m f (Return v) e h = (ap (λ z. among z ts) h.0, h.1)

-- the same is done where other threads stand elsewhere
pub record DoneAmong (s : State) (ts : List Thread) (m : Move) (new : State) (event : Option Event) : Type 0 where
  pub now : Thread
  pub threads_are : new.threads ≡ slice_set s.threads m.thread now
  pub step : Step (among s ts) m (among new (slice_set ts m.thread now)) event

-- and so one call or instruction is
record OnceAmong (s : State) (ts : List Thread) (m : Move) (new : State) (event : Option Event) : Type 0 where
  now : Thread
  threads_are : new.threads ≡ slice_set s.threads m.thread now
  one : OneStep (among s ts) m (among new (slice_set ts m.thread now)) event

once_by : (s : State) (ts : List Thread) (m : Move) (x : Thread) → slice_get ts m.thread ≡ Some x → (a : Activity) → x.activity ≡ a → (new : State) (event : Option Event) → ByActivity s m x.done a new event → OnceAmong s ts m new event
once_by s ts m x same Idle is new event h =
    let now : Thread = record { done = x.done; activity = Open (opened h.0) } in
    record {
      now = now;
      threads_are = ap (λ (z : State). z.threads) h.3;
      one = (x, same, subst (λ z. ByActivity (among s ts) m x.done z (among new (slice_set ts m.thread now)) event) (sym is) (h.0, h.1, h.2, ap (λ z. among z (slice_set ts m.thread now)) h.3, h.4));
    }
once_by s ts m x same (Open f) is new event h =
    let now = thread_after x.done h.2 in
    let mid = carries_alike s m f h.0 h.1 h.2 h.5 in
    record {
      now = now;
      threads_are = ap (λ (z : State). z.threads) h.6 ∙ ap (λ (l : List Thread). slice_set l m.thread now) mid.threads;
      one = (
        x,
        same,
        subst (λ z. ByActivity (among s ts) m x.done z (among new (slice_set ts m.thread now)) event) (sym is)
            (h.0, among h.1 ts, h.2, h.3, h.4, carries_among s h.1 ts m f h.0 h.2 h.5, ap (λ z. among z (slice_set ts m.thread now)) h.6, h.7),
      );
    }

pub done_among : (s : State) (ts : List Thread) (m : Move) (new : State) (event : Option Event) → slice_get ts m.thread ≡ slice_get s.threads m.thread → Step s m new event → DoneAmong s ts m new event
done_among s ts m new event same step =
    let mid = step.0 in
    let x = step.1.0 in
    let stands = step.1.1 in
    let here : slice_get ts m.thread ≡ Some x = same ∙ stands in
    let first = once_by s ts m x here x.activity refl mid event step.1.2 in
    let there : slice_get mid.threads m.thread ≡ Some first.now = ap (λ (l : List Thread). slice_get l m.thread) first.threads_are ∙ moved_there s m.thread first.now x stands in
    let moved : slice_get (slice_set ts m.thread first.now) m.thread ≡ Some first.now = moved_there (among s ts) m.thread first.now x here in
    let on = runs_there (more_local s m.thread) mid mid.cells mid.locks (slice_set ts m.thread first.now) m.thread first.now new there moved step.2 in
    let last : slice_set (slice_set ts m.thread first.now) m.thread on.0 ≡ slice_set ts m.thread on.0 = set-set ts m.thread first.now on.0 in
    let as_new : elsewhere mid mid.cells mid.locks (slice_set (slice_set ts m.thread first.now) m.thread on.0) ≡ among new (slice_set ts m.thread on.0) =
    ap (λ (l : List Thread). among mid l) last ∙ ap (λ (z : State). among z (slice_set ts m.thread on.0)) (sym on.1) in
    let run : RunsOn (more_local s m.thread) (among mid (slice_set ts m.thread first.now)) m.thread (among new (slice_set ts m.thread on.0)) =
    subst (λ z. RunsOn (more_local s m.thread) (among mid (slice_set ts m.thread first.now)) m.thread z) as_new on.2 in
    record {
      now = on.0;
      threads_are = ap (λ (z : State). z.threads) on.1 ∙ (ap (λ (l : List Thread). slice_set l m.thread on.0) first.threads_are ∙ set-set s.threads m.thread first.now on.0);
      step = (
        among mid (slice_set ts m.thread first.now),
        first.one,
        subst (λ n. RunsOn n (among mid (slice_set ts m.thread first.now)) m.thread (among new (slice_set ts m.thread on.0))) (sym (more_alike s s.cells s.locks ts m.thread x stands here)) run,
      );
    }

-- ---- what opens or ends an operation

-- the same is done where all else is otherwise
pub record DoneElsewhere (s : State) (cells : List ℕ) (locks : List (Option ℕ)) (ts : List Thread) (m : Move) (new : State) (event : Option Event) : Type 0 where
  pub now : Thread
  pub is : new ≡ with_standing s m.thread now
  pub step : Step (elsewhere s cells locks ts) m (elsewhere s cells locks (slice_set ts m.thread now)) event

module _ (s : State) (cells : List ℕ) (locks : List (Option ℕ)) (ts : List Thread) (m : Move) where
  -- where the first step is done there
  finish : (x now : Thread) (mid new : State) (event : Option Event) → slice_get s.threads m.thread ≡ Some x → slice_get ts m.thread ≡ Some x → mid ≡ with_standing s m.thread now → OneStep (elsewhere s cells locks ts) m (elsewhere s cells locks (slice_set ts m.thread now)) event → RunsOn (more_local s m.thread) mid m.thread new → DoneElsewhere s cells locks ts m new event
  finish x now mid new event stands same is one runs =
      let from = with_standing s m.thread now in
      let moved = slice_set ts m.thread now in
      let on = runs_there (more_local s m.thread) from cells locks moved m.thread now new (moved_there s m.thread now x stands) (moved_there (among s ts) m.thread now x same) (subst (λ z. RunsOn (more_local s m.thread) z m.thread new) is runs) in
      let last : slice_set moved m.thread on.0 ≡ slice_set ts m.thread on.0 = set-set ts m.thread now on.0 in
      let run : RunsOn (more_local s m.thread) (elsewhere s cells locks moved) m.thread (elsewhere s cells locks (slice_set ts m.thread on.0)) =
      subst (λ (l : List Thread). RunsOn (more_local s m.thread) (elsewhere s cells locks moved) m.thread (elsewhere s cells locks l)) last on.2 in
      record {
        now = on.0;
        is = on.1 ∙ ap (λ (l : List Thread). among s l) (set-set s.threads m.thread now on.0);
        step = (
          elsewhere s cells locks moved,
          one,
          subst (λ n. RunsOn n (elsewhere s cells locks moved) m.thread (elsewhere s cells locks (slice_set ts m.thread on.0))) (sym (more_alike s cells locks ts m.thread x stands same)) run,
        );
      }

  -- a call
  module _ (t k : ℕ) (new : State) (step : Step s m new (Some (Called t k))) (same : slice_get ts m.thread ≡ slice_get s.threads m.thread) where
    never_called : (effect : Effect) (u done : ℕ) → Some (Called t k) ≡ event_after u done effect → ⊥
    never_called (GoesOn f) u done h = cc
    never_called (Ends outcome) u done h = cc

    call_by : (a : Activity) → step.1.0.activity ≡ a → ByActivity s m step.1.0.done a step.0 (Some (Called t k)) → DoneElsewhere s cells locks ts m new (Some (Called t k))
    call_by Idle is h =
        let x = step.1.0 in
        let now : Thread = record { done = x.done; activity = Open (opened h.0) } in
        let here : slice_get ts m.thread ≡ Some x = same ∙ step.1.1 in
        finish x now step.0 new (Some (Called t k)) step.1.1 here h.3
        (x, here, subst (λ z. ByActivity (elsewhere s cells locks ts) m x.done z (elsewhere s cells locks (slice_set ts m.thread now)) (Some (Called t k))) (sym is) (h.0, h.1, h.2, refl, h.4)) step.2
    call_by (Open f) is h = absurd (never_called h.2 m.thread step.1.0.done h.7)

    pub call_there : DoneElsewhere s cells locks ts m new (Some (Called t k))
    call_there = call_by step.1.0.activity refl step.1.2

-- ---- what ends an operation

load_ends : (s r : State) (f : Frame) (to : ℕ) (o : Outcome) (q : Option ℕ) → MatchOption q (Ends o ≡ Ends Trap) (λ p. Ends o ≡ onward_with f to (value_at s p)) → MatchOption q (Ends o ≡ Ends Trap) (λ p. Ends o ≡ onward_with f to (value_at r p))
load_ends s r f to o None h = h
load_ends s r f to o (Some p) h = absurd (cc)

store_ends : (s r mid : State) (f : Frame) (n : ℕ) (o : Outcome) (q : Option ℕ) → MatchOption q ((mid ≡ s) × (Ends o ≡ Ends Trap)) (λ p. (mid ≡ with_cell s p n) × (Ends o ≡ onward f)) → (mid ≡ s) × MatchOption q ((r ≡ r) × (Ends o ≡ Ends Trap)) (λ p. (r ≡ with_cell r p n) × (Ends o ≡ onward f))
store_ends s r mid f n o None h = (h.0, (refl, h.1))
store_ends s r mid f n o (Some p) h = absurd (let wrong = h.1 in cc)

either_goes : (b : Bool) (x y : Frame) (o : Outcome) (P Q : Type 0) → MatchBool b (P × (Ends o ≡ GoesOn x)) (Q × (Ends o ≡ GoesOn y)) → ⊥
either_goes true x y o P Q h = let wrong = h.1 in cc
either_goes false x y o P Q h = let wrong = h.1 in cc

cas_ends : (s r mid : State) (f : Frame) (to v n : ℕ) (o : Outcome) (q : Option ℕ) → MatchOption q ((mid ≡ s) × (Ends o ≡ Ends Trap)) (λ p. MatchBool (value_at s p == v) ((mid ≡ with_cell s p n) × (Ends o ≡ onward_with f to 1)) ((mid ≡ s) × (Ends o ≡ onward_with f to 0)))
    → (mid ≡ s) × MatchOption q ((r ≡ r) × (Ends o ≡ Ends Trap)) (λ p. MatchBool (value_at r p == v) ((r ≡ with_cell r p n) × (Ends o ≡ onward_with f to 1)) ((r ≡ r) × (Ends o ≡ onward_with f to 0)))
cas_ends s r mid f to v n o None h = (h.0, (refl, h.1))
cas_ends s r mid f to v n o (Some p) h =
    absurd (either_goes (value_at s p == v) (record f { place = f.place + 1; registers = slice_set f.registers to 1 }) (record f { place = f.place + 1; registers = slice_set f.registers to 0 }) o (mid ≡ with_cell s p n) (mid ≡ s) h)

unlock_ends : (s r mid : State) (f : Frame) (l : ℕ) (o : Outcome) (b c : Bool) → (b ≡ false → c ≡ false) → MatchBool b ((mid ≡ with_owner s l None) × (Ends o ≡ onward f)) ((mid ≡ s) × (Ends o ≡ Ends Trap)) → (mid ≡ s) × MatchBool c ((r ≡ with_owner r l None) × (Ends o ≡ onward f)) ((r ≡ r) × (Ends o ≡ Ends Trap))
unlock_ends s r mid f l o true c keeps h = absurd (let wrong = h.1 in cc)
unlock_ends s r mid f l o false c keeps h = (h.0, rw (keeps refl) (refl, h.1))

await_ends : (f : Frame) (o : Outcome) (q : Option ℕ) (P Q : ℕ → Type 0) → MatchOption q (Ends o ≡ Ends Trap) (λ p. P p × (Ends o ≡ onward f)) → MatchOption q (Ends o ≡ Ends Trap) (λ p. Q p × (Ends o ≡ onward f))
await_ends f o None P Q h = h
await_ends f o (Some p) P Q h = absurd (let wrong = h.1 in cc)

jump_ends : (b : Bool) (x y : Frame) (o : Outcome) → Ends o ≡ (if b then GoesOn x else GoesOn y) → ⊥
jump_ends true x y o h = cc
jump_ends false x y o h = cc

-- what ends an operation changes nothing else, and does so wherever its thread owns no lock more
carries_ends : (s r mid : State) (m : Move) (f : Frame) (instr : Instr) (o : Outcome) → r.component ≡ s.component → ((l : ℕ) → owns s m.thread l ≡ false → owns r m.thread l ≡ false) → Carries s m f instr mid (Ends o) → (mid ≡ s) × Carries r m f instr r (Ends o)
carries_ends s r mid m f (Set to v) o c keeps h = absurd (let wrong = h.1 in cc)
carries_ends s r mid m f (Compute by to a b) o c keeps h = absurd (let wrong = h.1 in cc)
carries_ends s r mid m f (Load to w i) o c keeps h =
    (h.0, (refl, subst (λ d. MatchOption (cell_of d w (value_of f i)) (Ends o ≡ Ends Trap) (λ p. Ends o ≡ onward_with f to (value_at r p))) (sym c) (load_ends s r f to o (cell_at s f w i) h.1)))
carries_ends s r mid m f (Store w i v) o c keeps h =
    let on = store_ends s r mid f (value_of f v) o (cell_at s f w i) h in
    (on.0, subst (λ d. MatchOption (cell_of d w (value_of f i)) ((r ≡ r) × (Ends o ≡ Ends Trap)) (λ p. (r ≡ with_cell r p (value_of f v)) × (Ends o ≡ onward f))) (sym c) on.1)
carries_ends s r mid m f (Cas to w i x y) o c keeps h =
    let on = cas_ends s r mid f to (value_of f x) (value_of f y) o (cell_at s f w i) h in
    (on.0, subst (λ d. MatchOption (cell_of d w (value_of f i)) ((r ≡ r) × (Ends o ≡ Ends Trap)) (λ p. MatchBool (value_at r p == value_of f x) ((r ≡ with_cell r p (value_of f y)) × (Ends o ≡ onward_with f to 1)) ((r ≡ r) × (Ends o ≡ onward_with f to 0)))) (sym c) on.1)
carries_ends s r mid m f (Lock l) o c keeps h = absurd (let wrong = h.2 in cc)
carries_ends s r mid m f (Unlock l) o c keeps h = unlock_ends s r mid f l o (owns s m.thread l) (owns r m.thread l) (keeps l) h
carries_ends s r mid m f (Await w i v) o c keeps h =
    (h.0, (refl, subst (λ d. MatchOption (cell_of d w (value_of f i)) (Ends o ≡ Ends Trap) (λ p. (value_at r p ≡ value_of f v) × (Ends o ≡ onward f))) (sym c) (await_ends f o (cell_at s f w i) (λ p. value_at s p ≡ value_of f v) (λ p. value_at r p ≡ value_of f v) h.1)))
carries_ends s r mid m f (AwaitNot w i v) o c keeps h =
    (h.0, (refl, subst (λ d. MatchOption (cell_of d w (value_of f i)) (Ends o ≡ Ends Trap) (λ p. (value_at r p ≢ value_of f v) × (Ends o ≡ onward f))) (sym c) (await_ends f o (cell_at s f w i) (λ p. value_at s p ≢ value_of f v) (λ p. value_at r p ≢ value_of f v) h.1)))
carries_ends s r mid m f (Pick to count) o c keeps h = absurd (let wrong = h.1 in cc)
carries_ends s r mid m f (Jump target) o c keeps h = absurd (let wrong = h.1 in cc)
carries_ends s r mid m f (JumpIfZero v target) o c keeps h = absurd (jump_ends (value_of f v == 0) (record f { place = target }) (record f { place = f.place + 1 }) o h.1)
carries_ends s r mid m f (Return v) o c keeps h = (h.0, (refl, h.1))

module _ (s : State) (cells : List ℕ) (locks : List (Option ℕ)) (ts : List Thread) (m : Move) (t k : ℕ) (outcome : Outcome) (new : State) (step : Step s m new (Some (Returned t k outcome))) (same : slice_get ts m.thread ≡ slice_get s.threads m.thread) (keeps : (l : ℕ) → owns s m.thread l ≡ false → owns (elsewhere s cells locks ts) m.thread l ≡ false) where
  return_open : (f : Frame) → step.1.0.activity ≡ Open f → (instr : Instr) (mid : State) (effect : Effect) → instr_at s.component f.op f.place ≡ Some instr → m.pick < choices instr → Carries s m f instr mid effect → step.0 ≡ with_standing mid m.thread (thread_after step.1.0.done effect) → Some (Returned t k outcome) ≡ event_after m.thread step.1.0.done effect → DoneElsewhere s cells locks ts m new (Some (Returned t k outcome))
  return_open f is instr mid (GoesOn g) at pick by moved event = absurd (cc)
  return_open f is instr mid (Ends o) at pick by moved event =
      let x = step.1.0 in
      let r = elsewhere s cells locks ts in
      let now = thread_after x.done (Ends o) in
      let here : slice_get ts m.thread ≡ Some x = same ∙ step.1.1 in
      let on = carries_ends s r mid m f instr o refl keeps by in
      let again : ByActivity r m x.done (Open f) (elsewhere s cells locks (slice_set ts m.thread now)) (Some (Returned t k outcome)) = (instr, r, Ends o, at, pick, on.1, refl, event) in
      finish s cells locks ts m x now step.0 new (Some (Returned t k outcome)) step.1.1 here (moved ∙ ap (λ (z : State). with_standing z m.thread now) on.0)
      (x, here, subst (λ z. ByActivity r m x.done z (elsewhere s cells locks (slice_set ts m.thread now)) (Some (Returned t k outcome))) (sym is) again) step.2

  return_by : (a : Activity) → step.1.0.activity ≡ a → ByActivity s m step.1.0.done a step.0 (Some (Returned t k outcome)) → DoneElsewhere s cells locks ts m new (Some (Returned t k outcome))
  return_by Idle is h = absurd (let wrong = h.4 in cc)
  return_by (Open f) is h = return_open f is h.0 h.1 h.2 h.3 h.4 h.5 h.6 h.7

  pub return_there : DoneElsewhere s cells locks ts m new (Some (Returned t k outcome))
  return_there = return_by step.1.0.activity refl step.1.2

-- ---- another thread's move gives a thread no lock

owned_still : (xs : List (Option ℕ)) (i l : ℕ) (o : Option ℕ) (t : ℕ) → option_map_or (λ w. w == t) o false ≡ false → option_map_or (λ w. w == t) (get_or xs l None) false ≡ false → option_map_or (λ w. w == t) (get_or (slice_set xs i o) l None) false ≡ false
owned_still [] i l o t p h = h
owned_still (x ∷ xs) zero zero o t p h = p
owned_still (x ∷ xs) zero (suc l) o t p h = h
owned_still (x ∷ xs) (suc i) zero o t p h = h
owned_still (x ∷ xs) (suc i) (suc l) o t p h = owned_still xs i l o t p h

module _ (s new : State) (t l : ℕ) (not_owned : owns s t l ≡ false) where
  as_before : new.locks ≡ s.locks → owns new t l ≡ false
  as_before is = ap (λ (xs : List (Option ℕ)). option_map_or (λ w. w == t) (get_or xs l None) false) is ∙ not_owned

  with_new_owner : (i : ℕ) (o : Option ℕ) → option_map_or (λ w. w == t) o false ≡ false → new ≡ with_owner s i o → owns new t l ≡ false
  with_new_owner i o p is = ap (λ (z : State). owns z t l) is ∙ owned_still s.locks i l o t p not_owned

  store_owns : (q : Option ℕ) (n : ℕ) (x y e : Effect) → MatchOption q ((new ≡ s) × (e ≡ x)) (λ p. (new ≡ with_cell s p n) × (e ≡ y)) → owns new t l ≡ false
  store_owns None n x y e h = as_before (ap (λ (z : State). z.locks) h.0)
  store_owns (Some p) n x y e h = as_before (ap (λ (z : State). z.locks) h.0)

  match_owns : (b : Bool) (one : State) (x y e : Effect) → (new ≡ one → owns new t l ≡ false) → MatchBool b ((new ≡ one) × (e ≡ x)) ((new ≡ s) × (e ≡ y)) → owns new t l ≡ false
  match_owns true one x y e changed h = changed h.0
  match_owns false one x y e changed h = as_before (ap (λ (z : State). z.locks) h.0)

  cas_owns : (f : Frame) (to v n : ℕ) (q : Option ℕ) (e : Effect) → MatchOption q ((new ≡ s) × (e ≡ Ends Trap)) (λ p. MatchBool (value_at s p == v) ((new ≡ with_cell s p n) × (e ≡ onward_with f to 1)) ((new ≡ s) × (e ≡ onward_with f to 0))) → owns new t l ≡ false
  cas_owns f to v n None e h = as_before (ap (λ (z : State). z.locks) h.0)
  cas_owns f to v n (Some p) e h = match_owns (value_at s p == v) (with_cell s p n) (onward_with f to 1) (onward_with f to 0) e (λ is. as_before (ap (λ (z : State). z.locks) is)) h

carries_owns : (s : State) (m : Move) (f : Frame) (instr : Instr) (new : State) (e : Effect) (t l : ℕ) → (m.thread == t) ≡ false → owns s t l ≡ false → Carries s m f instr new e → owns new t l ≡ false
carries_owns s m f (Set to v) new e t l other none h = as_before s new t l none (ap (λ (z : State). z.locks) h.0)
carries_owns s m f (Compute by to a b) new e t l other none h = as_before s new t l none (ap (λ (z : State). z.locks) h.0)
carries_owns s m f (Load to w i) new e t l other none h = as_before s new t l none (ap (λ (z : State). z.locks) h.0)
carries_owns s m f (Store w i v) new e t l other none h = store_owns s new t l none (cell_at s f w i) (value_of f v) (Ends Trap) (onward f) e h
carries_owns s m f (Cas to w i x y) new e t l other none h = cas_owns s new t l none f to (value_of f x) (value_of f y) (cell_at s f w i) e h
carries_owns s m f (Lock i) new e t l other none h = with_new_owner s new t l none i (Some m.thread) other h.1
carries_owns s m f (Unlock i) new e t l other none h =
    match_owns s new t l none (owns s m.thread i) (with_owner s i None) (onward f) (Ends Trap) e (with_new_owner s new t l none i None refl) h
carries_owns s m f (Await w i v) new e t l other none h = as_before s new t l none (ap (λ (z : State). z.locks) h.0)
carries_owns s m f (AwaitNot w i v) new e t l other none h = as_before s new t l none (ap (λ (z : State). z.locks) h.0)
carries_owns s m f (Pick to count) new e t l other none h = as_before s new t l none (ap (λ (z : State). z.locks) h.0)
carries_owns s m f (Jump target) new e t l other none h = as_before s new t l none (ap (λ (z : State). z.locks) h.0)
carries_owns s m f (JumpIfZero v target) new e t l other none h = as_before s new t l none (ap (λ (z : State). z.locks) h.0)
carries_owns s m f (Return v) new e t l other none h = as_before s new t l none (ap (λ (z : State). z.locks) h.0)

activity_owns : (s : State) (m : Move) (done : ℕ) (a : Activity) (new : State) (e : Option Event) (t l : ℕ) → (m.thread == t) ≡ false → owns s t l ≡ false → ByActivity s m done a new e → owns new t l ≡ false
activity_owns s m done Idle new e t l other none h = as_before s new t l none (ap (λ (z : State). z.locks) h.3)
activity_owns s m done (Open f) new e t l other none h =
    ap (λ (z : State). owns z t l) h.6 ∙ carries_owns s m f h.0 h.1 h.2 t l other none h.5

pub step_owns : (s : State) (m : Move) (new : State) (e : Option Event) (t l : ℕ) → (m.thread == t) ≡ false → owns s t l ≡ false → Step s m new e → owns new t l ≡ false
step_owns s m new e t l other none h =
    let first = activity_owns s m h.1.0.done h.1.0.activity h.0 e t l other none h.1.2 in
    let behind = local_unseen (more_local s m.thread) h.0 m.thread new h.2 in
    as_before h.0 new t l first behind.locks
