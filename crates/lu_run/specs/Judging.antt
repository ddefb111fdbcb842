-- The runs that pass.
use Rattle.std.specs.Prelude.{◌≢◌, ◌<◌, ◌+◌, Bool, true, MatchBool, ◌≡◌, ◌↔◌, ℕ, List, [], ◌∷◌, ◌++◌, length, take, Option, Some, None, IfOk, Result, replicate, slice_get, unwrap_or}
use Rattle.lu_component.specs.Component.{Component}
use Rattle.lu_test.specs.declared.matrix.Call.{Call as ACall}
use Rattle.lu_test.specs.Matrix.{Matrix, matrix_with}
use Rattle.lu_machine.specs.declared.event.Event.{Event}
use Rattle.lu_machine.specs.declared.position.Position.{Position}
use Rattle.lu_machine.specs.Starts.{FromEachStart, IsStart}
use Rattle.lu_machine.specs.States.{State}
use Rattle.lu_history.specs.declared.operation.OpId.{OpId}
use Rattle.lu_history.specs.Histories.{IsPending}
use Rattle.lu_history.specs.Parts.{keep_pending}
use Rattle.lu_history.specs.declared.serial.SerialOp.{SerialOp}
use Rattle.lu_history.specs.declared.serial.SerialOutcome.{SerialOutcome}
use Rattle.lu_serial.specs.Serial.{IsSerialHistory}
use Rattle.lu_witness.specs.Witnesses.{HasWitness, IsGood}
use Rattle.lu_client.specs.Alone.{Rest, RestAfter, rest_of}
use Rattle.lu_linearization.specs.declared.configuration.Configuration.{Configuration as Kept}
use Rattle.lu_linearization.specs.Linearizations.{IsLinearization}
use Rattle.lu_linearization.specs.Configurations.{Configuration, IsConfiguration, Reads, pending_call}
use Rattle.lu_linearization.specs.Monitors.{CanBeStuck, Holds, by_thread}
use Rattle.lu_run.specs.declared.automaton.ThreadCall.{ThreadCall}
use Rattle.lu_run.specs.declared.run.Run.{Run}
use Rattle.lu_run.specs.declared.run.RunEvent.{RunEvent}
use Rattle.lu_run.specs.declared.run.RunEvent.TheVariants.{Call as Calls, Return as Returns}
use Rattle.lu_run.specs.declared.table.Rests.{Rests}
use Rattle.lu_run.specs.declared.table.Table.{Table}
use Rattle.lu_run.specs.declared.following.FollowFault.{FollowFault}
use Rattle.lu_run.specs.declared.following.FollowFault.TheVariants as fault
use Rattle.lu_run.specs.declared.following.Follower.{Follower}
use Rattle.lu_run.specs.declared.following.SerialRuns.{SerialRuns}
use Rattle.lu_run.specs.declared.judging.Followed.{Followed}
use Rattle.lu_run.specs.declared.judging.RunFailure.{RunFailure}
use Rattle.lu_run.specs.declared.judging.RunVerdict.{RunVerdict}
use Rattle.lu_run.specs.declared.judging.RunVerdict.TheVariants.{Passes, FailsAt, CannotBeStuck as NotStuck, Offends}
use Rattle.lu_run.specs.declared.table.Question.{Question}
use Rattle.lu_run.specs.Asking.{HasRest, IsAtRest, rest_at}
use Rattle.lu_run.specs.Completions.{HasCompletion}
use Rattle.lu_run.specs.Following.{AreAnswered, AreSeated, HasStates, NextState}
use Rattle.lu_run.specs.Foreseeing.{FitsReturns, next_return}
use Rattle.lu_run.specs.Offending.{AreReached, IsOffence}
use Rattle.lu_run.specs.Runs.{IsRun, history_of, matrix_of, numbers_of}
use Rattle.lu_run.specs.Tables.{IsTable, recorded}

-- ---- the verdict

-- The run is linearizable: some completion of its history has a witness, which a serial schedule
-- from s shows with no operation open at the end.
abbrev pub IsLinearizable : State → List RunEvent → Type 0
IsLinearizable s events = HasCompletion (Reads (RestAfter s)) (history_of events)

-- The run passes. Where it is stuck, each pending call has a witness in which it is stuck, among the
-- serial histories of the run's matrix; where it is not, the run is linearizable.
abbrev pub IsPassing : State → List RunEvent → Bool → Type 0
IsPassing s events stuck =
    MatchBool stuck (IsGood (IsSerialHistory s) (history_of events)) (IsLinearizable s events)

-- ---- how the verdict is found

-- the history of the run has a linearization, which a serial schedule from s shows
abbrev pub HasLinearization : State → List RunEvent → Type 0
HasLinearization s events =
    (q : List SerialOp) × IsLinearization (Reads (RestAfter s)) q (history_of events)

-- the call of an operation of the run; where there is none, a number past those of the calls
abbrev pub call_of : List ACall → List RunEvent → OpId → ThreadCall
call_of calls events a =
    record { thread = a.t; call = unwrap_or (slice_get (numbers_of a.t events) a.k) (length calls) }

-- the rest is one of the state with this number
abbrev pub InState : Table → ℕ → Rest → Type 0
InState table n rest =
    (state : Rests) × (slice_get table.states.keys n ≡ Some state)
    × HasRest state.positions.items rest

-- some configuration of the list stands for this one
abbrev pub Represents : Table → List Kept → Configuration Rest → Type 0
Represents table list c =
    (d : Configuration ℕ) × Holds list d × InState table d.state c.state
    × ((t : ℕ) → d.effects t ≡ c.effects t)

-- After the history h, a beginning of that of the run: the calls in `pending` are the pending ones,
-- the list has the configurations of all linearizations, and the answers to all questions are known.
pub record IsFollowed (c : Component) (s : State) (calls : List ACall) (events : List RunEvent)
    (table : Table) (pending : List (Option ThreadCall)) (list : List Kept) (h : List Event)
    : Type 0 where
  pub automaton : IsTable c calls table
  pub seated : AreSeated calls pending
  pub pends : (t : ℕ) → by_thread pending t ≡ pending_call (call_of calls events) h t
  pub configurations : (d : Configuration Rest) → IsConfiguration (RestAfter s) h d
      ↔ Represents table list d
  pub states : HasStates table list
  pub answered : AreAnswered table (by_thread pending) list

-- After the history h, a beginning of that of the run, `more` are the next events: the calls in
-- `pending` are the pending ones, `returns` has what they return in `more`, the list has the
-- configurations of all linearizations that fit these returns, and the answers to all questions are
-- known.
pub record IsForeseen (c : Component) (s : State) (calls : List ACall) (events : List RunEvent)
    (table : Table) (pending : List (Option ThreadCall)) (returns : List (Option SerialOutcome))
    (list : List Kept) (h : List Event) (more : List RunEvent) : Type 0 where
  pub automaton : IsTable c calls table
  pub seated : AreSeated calls pending
  pub pends : (t : ℕ) → by_thread pending t ≡ pending_call (call_of calls events) h t
  pub returned : (t : ℕ) (call : ThreadCall) → by_thread pending t ≡ Some call
      → by_thread returns t ≡ next_return t more
  pub configurations : (d : Configuration Rest) →
      (IsConfiguration (RestAfter s) h d × FitsReturns more d.effects)
      ↔ Represents table list d
  pub states : HasStates table list
  pub answered : AreAnswered table (by_thread pending) list

-- The table's answers are right, it has the states of the configurations, and each pending call is
-- one of these calls, of one of eight threads.
pub record IsReady (c : Component) (calls : List ACall) (table : Table) (f : Follower) : Type 0 where
  pub right : IsTable c calls table
  pub states : HasStates table f.monitor
  pub seated : AreSeated calls f.pending
  pub eight : (length f.pending ≡ 8) × (length f.returns ≡ 8)

-- the follower has followed the run up to this history, and foresees these events
abbrev pub Foresees : Component → State → List ACall → List RunEvent → Table → Follower
    → List Event → List RunEvent → Type 0
Foresees c s calls events table f h more =
    IsForeseen c s calls events table f.pending f.returns f.monitor h more

-- with the event that comes next in the run, the new follower follows it; the events `more`, which
-- come after it, are foreseen, and those in `rest` are not
abbrev pub Advances : Component → List ACall → RunEvent → List RunEvent → Table → Follower → Table
    → Follower → Type 0
Advances c calls event more table old later new =
    (setup : List ACall) (events done rest : List RunEvent) (s : State) →
    IsStart c (matrix_of setup calls events) s → IsRun calls events
    → events ≡ (done ++ event ∷ more) ++ rest
    → Foresees c s calls events table old (history_of done) (event ∷ more)
    → Foresees c s calls events later new (history_of (done ++ event ∷ [])) more

-- the same, of what a step returns, unless a serial run offends or memory ran out
abbrev pub IfAdvances : {E : Type 0} → SerialRuns → RunEvent → List RunEvent → Table → Follower
    → Table → Result Follower E → Type 0
IfAdvances runs event more table old later result =
    IfOk result (Advances runs.component.now runs.calls.now event more table old later)

-- the follower is ready
abbrev pub IfReady : {E : Type 0} → Component → List ACall → Table → Result Follower E → Type 0
IfReady c calls table result = IfOk result (IsReady c calls table)

-- state 0 of the table is that of the serial runs' start
abbrev pub StartsAt : Table → State → Type 0
StartsAt table s = (rest : Rest) → InState table 0 rest ↔ (rest ≡ rest_of s)

-- What holds of each run with these calls that begins with these events, from a start that is state 0
-- of the table.
abbrev pub OfEachRun : Component → List ACall → Table → List RunEvent
    → (State → List RunEvent → Type 0) → Type 0
OfEachRun c calls table part P =
    (setup : List ACall) (events rest : List RunEvent) (s : State) →
    IsStart c (matrix_of setup calls events) s → StartsAt table s → IsRun calls events
    → events ≡ part ++ rest → P s events

-- the follower has followed these events, with which runs begin
abbrev pub FollowsAll : Component → List ACall → Table → List RunEvent → Table → Follower → Type 0
FollowsAll c calls old part new f =
    OfEachRun c calls old part
    (λ s events. IsFollowed c s calls events new f.pending f.monitor (history_of part))

-- the same, of what is returned, unless a serial run offends or memory ran out
abbrev pub IfFollows : {E : Type 0} → SerialRuns → Table → List RunEvent → Table
    → Result Followed E → Type 0
IfFollows runs old part new result =
    IfOk result (λ all. FollowsAll runs.component.now runs.calls.now old part new all.follower)

-- the matrix with this setup, in which eight threads make no calls
abbrev pub idle_matrix : List ACall → Matrix
idle_matrix setup = matrix_with setup (replicate 8 [])

-- The position is at rest, and its rest is that of each matrix with this setup at the start.
pub record IsStartPosition (c : Component) (setup : List ACall) (p : Position) : Type 0 where
  pub at_rest : IsAtRest c p
  pub rest : (matrix : Matrix) (s : State) → matrix.setup ≡ setup → IsStart c matrix s
      → rest_at p ≡ rest_of s

-- The table has one state, with the rest of this position, and no answers.
pub record IsFirstTable (p : Position) (table : Table) : Type 0 where
  pub state : Rests
  pub states : table.states.keys ≡ state ∷ []
  pub rests : state.positions.items ≡ p ∷ []
  pub none : (question : Question) → recorded table question ≡ None

-- the pending call, if there is one, can be stuck
abbrev pub StuckIfPending : Table → List Kept → Option ThreadCall → Type 0
StuckIfPending table list None = Unit {0}
StuckIfPending table list (Some call) = CanBeStuck (NextState table) call list

-- each pending call can be stuck
abbrev pub AllStuck : Table → List Kept → List (Option ThreadCall) → Type 0
AllStuck table list pending = (t : ℕ) → t < 8 → StuckIfPending table list (by_thread pending t)

-- no thread has a pending call
abbrev pub NonePending : List (Option ThreadCall) → Type 0
NonePending pending = (t : ℕ) → t < 8 → by_thread pending t ≡ None

-- Each pending call can be stuck; and where there is none, some configuration is left.
pub record IsGoodNow (table : Table) (list : List Kept) (pending : List (Option ThreadCall))
    : Type 0 where
  pub complete : NonePending pending → list ≢ []
  pub stuck : AllStuck table list pending

-- what the monitor tells of a run that has ended, stuck or not
abbrev pub IsPassingNow : Bool → Table → List Kept → List (Option ThreadCall) → Type 0
IsPassingNow stuck table list pending =
    MatchBool stuck (IsGoodNow table list pending) (list ≢ [])

-- The event with number n, counted from 0, is the first after which the run has no linearization.
pub record IsFirstWithout (s : State) (events : List RunEvent) (n : ℕ) : Type 0 where
  pub within : n < length events
  pub before : HasLinearization s (take n events)
  pub after : HasLinearization s (take (n + 1) events) → ⊥

-- the thread of the event
abbrev pub thread_of : RunEvent → ℕ
thread_of (Calls t n) = t
thread_of (Returns t outcome) = t

-- in some linearization of these events, the pending operation of thread t has this outcome
abbrev pub MayReturn : State → List RunEvent → ℕ → SerialOutcome → Type 0
MayReturn s part t outcome =
    (d : Configuration Rest) × IsConfiguration (RestAfter s) (history_of part) d
    × (d.effects t ≡ Some outcome)

-- such an outcome; or none, if there is none
abbrev pub IsExpected : State → List RunEvent → ℕ → Option SerialOutcome → Type 0
IsExpected s part t None = (outcome : SerialOutcome) → MayReturn s part t outcome → ⊥
IsExpected s part t (Some outcome) = MayReturn s part t outcome

-- so it is of the operation of event number n, after the events before it
abbrev pub IsExpectedAt : State → List RunEvent → ℕ → Option SerialOutcome → Type 0
IsExpectedAt s events n expected =
    (e : RunEvent) × (slice_get events n ≡ Some e)
    × IsExpected s (take n events) (thread_of e) expected

-- Thread t has a pending call, and no serial run gets stuck in it: without the other pending calls,
-- the history has no witness.
pub record IsNeverStuck (s : State) (events : List RunEvent) (t : ℕ) : Type 0 where
  pub call : OpId
  pub of : call.t ≡ t
  pub pending : IsPending (history_of events) call
  pub never : HasWitness (IsSerialHistory s) (keep_pending call.t (history_of events)) → ⊥

-- the run passes
abbrev pub RunPasses : State → Run → Type 0
RunPasses s run = IsPassing s run.events.items run.is_stuck

-- The verdict on the run is right, and a run that does not pass has its reason. Where a serial run of
-- its calls offends, the verdict is that call.
abbrev pub IsVerdict : Component → ℕ → State → Run → RunVerdict → Type 0
IsVerdict c bound s run Passes = RunPasses s run
IsVerdict c bound s run (FailsAt failure) =
    IsFirstWithout s run.events.items failure.event × (RunPasses s run → ⊥)
    × IsExpectedAt s run.events.items failure.event failure.expected
IsVerdict c bound s run (NotStuck t) =
    (run.is_stuck ≡ true) × IsNeverStuck s run.events.items t × (RunPasses s run → ⊥)
IsVerdict c bound s run (Offends t n) = IsOffence c run.calls.items (rest_of s) bound t n

-- from each start with the setup of the matrix, the verdict on the run is right
abbrev pub JudgesRun : {E : Type 0} → Component → Matrix → ℕ → Run → Result RunVerdict E → Type 0
JudgesRun c matrix bound run result =
    FromEachStart c (matrix_of matrix.setup run.calls.items run.events.items)
    (λ s. IfOk result (IsVerdict c bound s run))

-- what holds of the run with these events, from a start that is state 0 of the table
abbrev pub OfRun : Component → List ACall → Table → List RunEvent → (State → Type 0) → Type 0
OfRun c calls table events P =
    (setup : List ACall) (s : State) →
    IsStart c (matrix_of setup calls events) s → StartsAt table s → IsRun calls events → P s

-- the verdict on the run is right, if the table's states are reached from its start
abbrev pub JudgesFrom : {E : Type 0} → SerialRuns → Table → Run → Result RunVerdict E → Type 0
JudgesFrom runs table run result =
    OfRun runs.component.now runs.calls.now table run.events.items
    (λ s. AreReached runs.component.now runs.calls.now (rest_of s) table
    → IfOk result (IsVerdict runs.component.now runs.bound s run))

-- where it is known that the run passes, it does
abbrev pub FindsPassing : {E : Type 0} → SerialRuns → Table → Run → Result Bool E → Type 0
FindsPassing runs table run result =
    IfOk result (λ found. found ≡ true
    → OfRun runs.component.now runs.calls.now table run.events.items (λ s. RunPasses s run))

-- the verdict names the call that offends
abbrev pub NamesOffence : FollowFault → RunVerdict → Type 0
NamesOffence (fault.Offends call) verdict = verdict ≡ Offends call.thread call.call
NamesOffence fault.Memory verdict = ⊥

-- ---- the reason

-- the event with number i is the first after which no configuration is left, unless one before it
-- is; none where some are left
abbrev pub FindsLost : Option ℕ → ℕ → List Kept → Option ℕ → Type 0
FindsLost (Some n) i list result = result ≡ Some n
FindsLost None i list (Some n) = (n ≡ i) × (list ≡ [])
FindsLost None i list None = list ≢ []

-- what was noted, if no configuration is left at the end; else none
abbrev pub EndsLost : Option ℕ → List Kept → Option ℕ → Type 0
EndsLost lost [] result = result ≡ lost
EndsLost lost (one ∷ list) result = result ≡ None

-- These events have a linearization; or they have none, and the first n of them have one.
abbrev pub TellsLost : State → List RunEvent → Option ℕ → Type 0
TellsLost s part None = HasLinearization s part
TellsLost s part (Some n) =
    (n < length part) × HasLinearization s (take n part) × (HasLinearization s part → ⊥)

-- so it is of the beginnings of runs
abbrev pub TellsOfEach : Component → List ACall → Table → List RunEvent → Option ℕ → Type 0
TellsOfEach c calls table part lost =
    OfEachRun c calls table part (λ s events. TellsLost s part lost)

-- the same, of what is returned, unless a serial run offends or memory ran out
abbrev pub IfTells : {E : Type 0} → SerialRuns → Table → List RunEvent → Result Followed E → Type 0
IfTells runs table part result =
    IfOk result (λ all. TellsOfEach runs.component.now runs.calls.now table part all.lost)

-- what is returned, if anything is, is the first event after which the events have no linearization, if
-- they have none, and the first `kept` of them have one
abbrev pub FindsFirst : {E : Type 0} → SerialRuns → Table → List RunEvent → ℕ → Result ℕ E → Type 0
FindsFirst runs table part kept result =
    OfEachRun runs.component.now runs.calls.now table part
    (λ s events. TellsLost s part (Some kept) → IfOk result (IsFirstWithout s part))

-- this outcome, or the next one
abbrev pub first_some : Option SerialOutcome → Option SerialOutcome → Option SerialOutcome
first_some None next = next
first_some (Some outcome) next = Some outcome

-- the outcome of the pending operation of thread t in the first configuration where it has taken
-- effect
abbrev pub first_effect : ℕ → List Kept → Option SerialOutcome
first_effect t [] = None
first_effect t (one ∷ list) = first_some (by_thread one.effects t) (first_effect t list)

-- what is returned, if anything is, is an outcome that the pending operation of thread t has in some
-- linearization of the events
abbrev pub FindsExpected : {E : Type 0} → SerialRuns → Table → List RunEvent → ℕ
    → Result (Option SerialOutcome) E → Type 0
FindsExpected runs table part t result =
    OfEachRun runs.component.now runs.calls.now table part
    (λ s events. IfOk result (IsExpected s part t))

-- the event is the first after which the events have no linearization, and this is the outcome that
-- is expected
abbrev pub IsFailure : State → List RunEvent → RunFailure → Type 0
IsFailure s part failure =
    IsFirstWithout s part failure.event × IsExpectedAt s part failure.event failure.expected

-- what is returned, if anything is, is the failure of the events, if they have no linearization, and
-- the first `kept` of them have one
abbrev pub FindsFailure : {E : Type 0} → SerialRuns → Table → List RunEvent → ℕ
    → Result RunFailure E → Type 0
FindsFailure runs table part kept result =
    OfEachRun runs.component.now runs.calls.now table part
    (λ s events. TellsLost s part (Some kept) → IfOk result (IsFailure s part))

-- the pending call of the thread can't be stuck; where there is no such thread, each can be
abbrev pub TellsNotStuck : Table → List Kept → List (Option ThreadCall) → Option ℕ → Type 0
TellsNotStuck table list pending None = AllStuck table list pending
TellsNotStuck table list pending (Some t) = StuckIfPending table list (by_thread pending t) → ⊥

-- the verdict at the end of a run that has a linearization
abbrev pub IsEndVerdict : Bool → Table → List Kept → List (Option ThreadCall) → RunVerdict
    → Type 0
IsEndVerdict stuck table list pending Passes =
    MatchBool stuck (AllStuck table list pending) (Unit {0})
IsEndVerdict stuck table list pending (NotStuck t) =
    (stuck ≡ true) × (StuckIfPending table list (by_thread pending t) → ⊥)
IsEndVerdict stuck table list pending _ = ⊥
