-- Lists of configurations, and monitors. `Kept` is the struct of a configuration with a numbered
-- state and eight threads.
use Rattle.std.specs.Prelude.{◌≡◌, ◌≢◌, ◌↔◌, ◌⊎◌, ℕ, List, [], ◌∷◌, ◌++◌, Option, Some, None, MatchOption, get_or}
use Rattle.lu_machine.specs.declared.event.Event.{Event}
use Rattle.lu_machine.specs.declared.event.Event.TheVariants.{Call, Return}
use Rattle.lu_machine.specs.declared.event.Outcome.{Outcome}
use Rattle.lu_history.specs.declared.operation.OpId.{OpId}
use Rattle.lu_history.specs.declared.serial.SerialOp.{SerialOp}
use Rattle.lu_history.specs.declared.serial.SerialOutcome.{SerialOutcome}
use Rattle.lu_history.specs.Histories.{IsPending}
use Rattle.lu_history.specs.Parts.{as_serial, keep_pending}
use Rattle.lu_history.specs.Serial.{IsSerial}
use Rattle.lu_witness.specs.Witnesses.{HasWitness}
use Rattle.lu_linearization.specs.declared.configuration.Configuration.{Configuration as Kept}
use Rattle.lu_linearization.specs.Linearizations.{AllReturned, HasSequentialThreads}
use Rattle.lu_linearization.specs.Configurations.{AreSame, Configuration, FirstIsOf, HasStuck, HasComplete, IsConfiguration, TakesEffect, AllTakeEffect, ReadsPrefixes, Returns, pending_call}

-- the configuration that is kept
abbrev pub configuration_of : Kept → Configuration ℕ
configuration_of one = record { state = one.state; effects = λ t. get_or one.effects t None }

-- the list has this configuration
abbrev pub Holds : List Kept → Configuration ℕ → Type 0
Holds [] c = ⊥
Holds (one ∷ list) c = AreSame (configuration_of one) c ⊎ Holds list c

-- there is one, and it is this configuration
abbrev pub Gives : Option Kept → Configuration ℕ → Type 0
Gives one c = MatchOption one ⊥ (λ it. AreSame (configuration_of it) c)

-- the new list has the old one's configurations and this one
abbrev pub Adds : List Kept → List Kept → Kept → Type 0
Adds old new one =
    (c : Configuration ℕ) → Holds new c ↔ (Holds old c ⊎ AreSame (configuration_of one) c)

-- the new list has the old one's configurations and this one, if there is one
abbrev pub AddsAny : List Kept → List Kept → Option Kept → Type 0
AddsAny old new one = (c : Configuration ℕ) → Holds new c ↔ (Holds old c ⊎ Gives one c)

-- the new list has the configurations of both
abbrev pub Joins : List Kept → List Kept → List Kept → Type 0
Joins old new more = (c : Configuration ℕ) → Holds new c ↔ (Holds old c ⊎ Holds more c)

-- for each thread its call in the array; None past the end
abbrev pub by_thread : {C : Type 0} → List (Option C) → ℕ → Option C
by_thread calls t = get_or calls t None

-- what a step answers: the call's only outcome in this state, and the state to which that leads; or
-- None, if it has no outcome
abbrev pub IsStep : {C : Type 0} → (ℕ → C → SerialOutcome → ℕ → Type 0) → ℕ → C
    → Option (SerialOutcome × ℕ) → Type 0
IsStep Next state call to =
    (outcome : SerialOutcome) (next : ℕ) →
    Next state call outcome next ↔ (to ≡ Some (outcome, next))

-- some pending operation takes effect
abbrev pub SomeTakesEffect : {C : Type 0} → (ℕ → C → SerialOutcome → ℕ → Type 0) → (ℕ → Option C)
    → Configuration ℕ → Configuration ℕ → Type 0
SomeTakesEffect Next pending_calls b c = (op : SerialOp) × TakesEffect Next pending_calls op b c

-- the pending operation of thread t takes effect
abbrev pub ThreadTakesEffect : {C : Type 0} → (ℕ → C → SerialOutcome → ℕ → Type 0)
    → (ℕ → Option C) → ℕ → Configuration ℕ → Configuration ℕ → Type 0
ThreadTakesEffect Next pending_calls t b c =
    (op : SerialOp) × (op.thread ≡ t) × TakesEffect Next pending_calls op b c

-- the configurations to which the relation leads from those of the first list
abbrev pub AreNext : (Configuration ℕ → Configuration ℕ → Type 0) → List Kept
    → List Kept → Type 0
AreNext R from to =
    (c : Configuration ℕ) →
    Holds to c ↔ ((b : Configuration ℕ) × Holds from b × R b c)

-- the only configuration to which the relation leads from this one; or None, if there is none
abbrev pub IsNextOf : (Configuration ℕ → Configuration ℕ → Type 0) → Kept
    → Option Kept → Type 0
IsNextOf R from to = (c : Configuration ℕ) → Gives to c ↔ R (configuration_of from) c

-- the new list has the old one's configurations, and those to which the relation leads from this
-- one
abbrev pub AddsNext : (Configuration ℕ → Configuration ℕ → Type 0) → Kept
    → List Kept → List Kept → Type 0
AddsNext R from old new =
    (c : Configuration ℕ) → Holds new c ↔ (Holds old c ⊎ R (configuration_of from) c)

-- the configurations of the first list, and those to which the pending operation of thread t leads
-- from them, followed by any number of other pending operations
abbrev pub AreClosed : {C : Type 0} → (ℕ → C → SerialOutcome → ℕ → Type 0) → (ℕ → Option C)
    → ℕ → List Kept → List Kept → Type 0
AreClosed Next pending_calls t from to =
    (c : Configuration ℕ) →
    Holds to c
    ↔ ((b : Configuration ℕ) × (r : List SerialOp) × Holds from b × FirstIsOf t r
    × AllTakeEffect Next pending_calls r b c)

-- ---- monitors

-- the list has exactly the configurations of the linearizations of h
abbrev pub IsMonitorOf : (List SerialOp → ℕ → Type 0) → List Kept → List Event → Type 0
IsMonitorOf LeadsTo m h = (c : Configuration ℕ) → Holds m c ↔ IsConfiguration LeadsTo h c

-- the only configuration is this state, where nothing has taken effect
abbrev pub AreInitial : ℕ → List Kept → Type 0
AreInitial start list =
    (c : Configuration ℕ) → Holds list c ↔ ((c.state ≡ start) × ((t : ℕ) → c.effects t ≡ None))

-- The monitor of the empty history.
abbrev pub MonitorAtStart : (List SerialOp → ℕ → Type 0) → Type 0
MonitorAtStart LeadsTo =
    (m : List Kept) (start : ℕ) →
    ((x : ℕ) → LeadsTo [] x ↔ (x ≡ start)) →
    AreInitial start m → IsMonitorOf LeadsTo m []

-- The monitor after a call.
abbrev pub MonitorAfterCall : {C : Type 0} → (List SerialOp → ℕ → Type 0)
    → (ℕ → C → SerialOutcome → ℕ → Type 0) → (OpId → C) → Type 0
MonitorAfterCall {C} LeadsTo Next call =
    (h : List Event) (a : OpId) (pending_calls : ℕ → Option C) (old new : List Kept) →
    HasSequentialThreads (h ++ Call a.t a.k ∷ []) →
    ((t : ℕ) → pending_call call (h ++ Call a.t a.k ∷ []) t ≡ pending_calls t) →
    IsMonitorOf LeadsTo old h → AreClosed Next pending_calls a.t old new →
    IsMonitorOf LeadsTo new (h ++ Call a.t a.k ∷ [])

-- The monitor after a return.
abbrev pub MonitorAfterReturn : (List SerialOp → ℕ → Type 0) → Type 0
MonitorAfterReturn LeadsTo =
    (h : List Event) (a : OpId) (outcome : Outcome) (old new : List Kept) →
    HasSequentialThreads (h ++ Return a.t a.k outcome ∷ []) →
    IsMonitorOf LeadsTo old h → AreNext (Returns a.t (as_serial outcome)) old new →
    IsMonitorOf LeadsTo new (h ++ Return a.t a.k outcome ∷ [])

-- A monitor is empty exactly where the history has no linearization.
abbrev pub MonitorIsEmpty : (List SerialOp → ℕ → Type 0) → Type 0
MonitorIsEmpty LeadsTo =
    (h : List Event) (m : List Kept) → IsMonitorOf LeadsTo m h →
    (m ≡ []) ↔ ((c : Configuration ℕ) → IsConfiguration LeadsTo h c → ⊥)

-- the call has no outcome in this state
abbrev pub IsStuckFrom : {C : Type 0} → (ℕ → C → SerialOutcome → ℕ → Type 0) → ℕ → C → Type 0
IsStuckFrom Next state call =
    (outcome : SerialOutcome) (next : ℕ) → Next state call outcome next → ⊥

-- no pending operation has taken effect, and the call is stuck in the state
abbrev pub CanBeStuckAt : {C : Type 0} → (ℕ → C → SerialOutcome → ℕ → Type 0) → C
    → Configuration ℕ → Type 0
CanBeStuckAt Next call c = ((t : ℕ) → c.effects t ≡ None) × IsStuckFrom Next c.state call

-- so it is in some configuration of the list
abbrev pub CanBeStuck : {C : Type 0} → (ℕ → C → SerialOutcome → ℕ → Type 0) → C
    → List Kept → Type 0
CanBeStuck Next call m = (c : Configuration ℕ) × Holds m c × CanBeStuckAt Next call c

-- ---- histories that have ended

-- A history whose calls have all returned has a witness exactly where its monitor is not empty.
abbrev pub MonitorOfComplete : (List SerialOp → Type 0) → (List SerialOp → ℕ → Type 0) → Type 0
MonitorOfComplete Set LeadsTo =
    ReadsPrefixes Set LeadsTo →
    (h : List Event) (m : List Kept) → HasSequentialThreads h → AllReturned h →
    HasComplete Set LeadsTo h → IsMonitorOf LeadsTo m h → HasWitness Set h ↔ (m ≢ [])

-- Without all pending calls but that of a, the history has a witness exactly where the call of a
-- can be stuck in its monitor.
abbrev pub MonitorOfStuck : {C : Type 0} → (List SerialOp → Type 0)
    → (List SerialOp → ℕ → Type 0) → (ℕ → C → SerialOutcome → ℕ → Type 0) → (OpId → C) → Type 0
MonitorOfStuck Set LeadsTo Next call =
    ReadsPrefixes Set LeadsTo → ((q : List SerialOp) → Set q → IsSerial q) →
    (h : List Event) (a : OpId) (m : List Kept) → HasSequentialThreads h → IsPending h a →
    HasStuck Set LeadsTo (λ x. IsStuckFrom Next x (call a)) h a → IsMonitorOf LeadsTo m h →
    HasWitness Set (keep_pending a.t h) ↔ CanBeStuck Next (call a) m
