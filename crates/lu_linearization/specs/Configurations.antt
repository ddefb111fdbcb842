-- Configurations: what matters of a linearization for the events to come.
use Rattle.std.specs.Prelude.{◌≡◌, ◌≢◌, ◌↔◌, ℕ, ◌==◌, List, [], ◌∷◌, ◌++◌, Option, Some, None, length, if◌then◌else◌, slice_get}
use Rattle.lu_machine.specs.declared.event.Event.{Event}
use Rattle.lu_machine.specs.declared.event.Event.TheVariants.{Call, Return}
use Rattle.lu_machine.specs.declared.event.Outcome.{Outcome}
use Rattle.lu_history.specs.declared.operation.OpId.{OpId}
use Rattle.lu_history.specs.declared.serial.SerialOp.{SerialOp}
use Rattle.lu_history.specs.declared.serial.SerialOutcome.{SerialOutcome}
use Rattle.lu_history.specs.declared.serial.SerialOutcome.TheVariants.{Stuck}
use Rattle.lu_history.specs.Histories.{IsPending, calls, outcomes, pending}
use Rattle.lu_history.specs.Parts.{as_serial, keep_pending}
use Rattle.lu_history.specs.Serial.{IsSerial}
use Rattle.lu_serial.specs.Serial.{stuck_of}
use Rattle.lu_witness.specs.Witnesses.{HasWitness, entries}
use Rattle.lu_witness.specs.Search.{next_of}
use Rattle.lu_linearization.specs.Linearizations.{AllReturned, HasSequentialThreads, IsLinearization, HasOutcome}

-- ---- the automaton of the serial histories

-- X are the states of the automaton, and C the calls that operations make. It reads operations one
-- by one: where an operation leads depends only on the state, the call and the outcome.
abbrev pub IsAutomaton : {X C : Type 0} → (List SerialOp → X → Type 0)
    → (X → C → SerialOutcome → X → Type 0) → (OpId → C) → Type 0
IsAutomaton {X} LeadsTo Next call =
    (q : List SerialOp) (op : SerialOp) (y : X) →
    LeadsTo (q ++ op ∷ []) y
    ↔ ((x : X) × LeadsTo q x × Next x (call (next_of q op)) op.outcome y)

-- the automaton can read q
abbrev pub Reads : {X : Type 0} → (List SerialOp → X → Type 0) → List SerialOp → Type 0
Reads {X} LeadsTo q = (x : X) × LeadsTo q x

-- ---- configurations

-- for each thread, its pending call in h
abbrev pub pending_call : {C : Type 0} → (OpId → C) → List Event → ℕ → Option C
pending_call call h t =
    if pending t h then Some (call (record { t = t; k = length (outcomes t h) })) else None

-- for each thread, the outcome in q of its pending operation in h, if q has the operation
abbrev pub effects_in : List SerialOp → List Event → ℕ → Option SerialOutcome
effects_in q h t = slice_get (entries t q) (length (outcomes t h))

-- the state to which a linearization leads the automaton; and for each thread the outcome of its
-- pending operation, if that has taken effect: if it is in the linearization
pub record Configuration (X : Type 0) : Type 0 where
  pub state : X
  pub effects : ℕ → Option SerialOutcome

-- some linearization of h has this configuration
pub record IsConfiguration {X : Type 0} (LeadsTo : List SerialOp → X → Type 0) (h : List Event)
    (c : Configuration X) : Type 0 where
  pub q : List SerialOp
  pub linearizes : IsLinearization (Reads LeadsTo) q h
  pub leads : LeadsTo q c.state
  pub effects : (t : ℕ) → effects_in q h t ≡ c.effects t

-- they have the same state and the same effects
pub record AreSame {X : Type 0} (b c : Configuration X) : Type 0 where
  pub state : b.state ≡ c.state
  pub effects : (t : ℕ) → b.effects t ≡ c.effects t

-- op is pending in b and has not taken effect; in c it has, with its outcome
pub record TakesEffect {X C : Type 0} (Next : X → C → SerialOutcome → X → Type 0)
    (pending_calls : ℕ → Option C) (op : SerialOp) (b c : Configuration X) : Type 0 where
  pub call : C
  pub is_pending : pending_calls op.thread ≡ Some call
  pub absent : b.effects op.thread ≡ None
  pub leads : Next b.state call op.outcome c.state
  pub effects : c.effects op.thread ≡ Some op.outcome
  pub others : (t : ℕ) → t ≢ op.thread → c.effects t ≡ b.effects t

-- these operations take effect one after another
abbrev pub AllTakeEffect : {X C : Type 0} → (X → C → SerialOutcome → X → Type 0) → (ℕ → Option C)
    → List SerialOp → Configuration X → Configuration X → Type 0
AllTakeEffect Next pending_calls [] b c = AreSame b c
AllTakeEffect {X} Next pending_calls (op ∷ r) b c =
    (d : Configuration X) × TakesEffect Next pending_calls op b d
    × AllTakeEffect Next pending_calls r d c

-- the first operation, if there is one, is of thread t
abbrev pub FirstIsOf : ℕ → List SerialOp → Type 0
FirstIsOf t [] = Unit {0}
FirstIsOf t (op ∷ r) = op.thread ≡ t

-- thread t's operation, which has taken effect with this outcome, returns
pub record Returns {X : Type 0} (t : ℕ) (outcome : SerialOutcome) (b c : Configuration X)
    : Type 0 where
  pub state : b.state ≡ c.state
  pub had : b.effects t ≡ Some outcome
  pub gone : c.effects t ≡ None
  pub others : (u : ℕ) → u ≢ t → c.effects u ≡ b.effects u

-- ---- one event more

-- Before any event, nothing has taken effect.
abbrev pub InitialConfigurations : {X : Type 0} → (List SerialOp → X → Type 0) → Type 0
InitialConfigurations {X} LeadsTo =
    (c : Configuration X) →
    IsConfiguration LeadsTo [] c ↔ (LeadsTo [] c.state × ((t : ℕ) → c.effects t ≡ None))

-- Where a pending operation takes effect, a configuration leads to another of the same history.
abbrev pub ConfigurationsAfterEffect : {X C : Type 0} → (List SerialOp → X → Type 0)
    → (X → C → SerialOutcome → X → Type 0) → (OpId → C) → Type 0
ConfigurationsAfterEffect {X} LeadsTo Next call =
    IsAutomaton LeadsTo Next call →
    (h : List Event) (op : SerialOp) (b c : Configuration X) →
    HasSequentialThreads h → IsConfiguration LeadsTo h b →
    TakesEffect Next (pending_call call h) op b c → IsConfiguration LeadsTo h c

-- After a is called, the configurations are those from before, and those to which a leads from
-- them, followed by any number of other pending operations.
abbrev pub ConfigurationsAfterCall : {X C : Type 0} → (List SerialOp → X → Type 0)
    → (X → C → SerialOutcome → X → Type 0) → (OpId → C) → Type 0
ConfigurationsAfterCall {X} LeadsTo Next call =
    IsAutomaton LeadsTo Next call →
    (h : List Event) (a : OpId) (c : Configuration X) →
    HasSequentialThreads (h ++ Call a.t a.k ∷ []) →
    IsConfiguration LeadsTo (h ++ Call a.t a.k ∷ []) c
    ↔ ((b : Configuration X) × (r : List SerialOp) × IsConfiguration LeadsTo h b × FirstIsOf a.t r
    × AllTakeEffect Next (pending_call call (h ++ Call a.t a.k ∷ [])) r b c)

-- After a returns, the configurations are those in which it had taken effect with that outcome.
abbrev pub ConfigurationsAfterReturn : {X : Type 0} → (List SerialOp → X → Type 0) → Type 0
ConfigurationsAfterReturn {X} LeadsTo =
    (h : List Event) (a : OpId) (outcome : Outcome) (c : Configuration X) →
    HasSequentialThreads (h ++ Return a.t a.k outcome ∷ []) →
    IsConfiguration LeadsTo (h ++ Return a.t a.k outcome ∷ []) c
    ↔ ((b : Configuration X) × IsConfiguration LeadsTo h b × Returns a.t (as_serial outcome) b c)

-- A call is pending until it returns.
abbrev pub PendingAfterEvent : {C : Type 0} → (OpId → C) → Type 0
PendingAfterEvent call =
    (h : List Event) (a : OpId) (t : ℕ) →
    (HasSequentialThreads (h ++ Call a.t a.k ∷ [])
    → pending_call call (h ++ Call a.t a.k ∷ []) t
    ≡ (if a.t == t then Some (call a) else pending_call call h t))
    × ((outcome : Outcome) → HasSequentialThreads (h ++ Return a.t a.k outcome ∷ [])
    → pending_call call (h ++ Return a.t a.k outcome ∷ []) t
    ≡ (if a.t == t then None else pending_call call h t))

-- ---- two histories

-- both have the same pending calls and the same configurations
pub record HaveSameConfigurations {X C : Type 0} (LeadsTo : List SerialOp → X → Type 0)
    (call : OpId → C) (h g : List Event) : Type 0 where
  pub pending : (t : ℕ) → pending_call call h t ≡ pending_call call g t
  pub configurations : (c : Configuration X) →
      IsConfiguration LeadsTo h c ↔ IsConfiguration LeadsTo g c

-- the same thread makes the same call, or returns with the same outcome
abbrev pub AreAlikeEvents : {C : Type 0} → (OpId → C) → Event → Event → Type 0
AreAlikeEvents call (Call t k) (Call u l) =
    (t ≡ u) × (call (record { t = t; k = k }) ≡ call (record { t = u; k = l }))
AreAlikeEvents call (Call t k) (Return u l other) = ⊥
AreAlikeEvents call (Return t k outcome) (Call u l) = ⊥
AreAlikeEvents call (Return t k outcome) (Return u l other) = (t ≡ u) × (outcome ≡ other)

-- After the same event they have the same again: nothing else matters of a history.
abbrev pub ConfigurationsSuffice : {X C : Type 0} → (List SerialOp → X → Type 0)
    → (X → C → SerialOutcome → X → Type 0) → (OpId → C) → Type 0
ConfigurationsSuffice LeadsTo Next call =
    IsAutomaton LeadsTo Next call →
    (h g : List Event) (e f : Event) →
    HasSequentialThreads (h ++ e ∷ []) → HasSequentialThreads (g ++ f ∷ []) →
    AreAlikeEvents call e f → HaveSameConfigurations LeadsTo call h g →
    HaveSameConfigurations LeadsTo call (h ++ e ∷ []) (g ++ f ∷ [])

-- ---- histories that have ended

-- the automaton reads each prefix of a member of the set in which no operation is stuck
abbrev pub ReadsPrefixes : {X : Type 0} → (List SerialOp → Type 0)
    → (List SerialOp → X → Type 0) → Type 0
ReadsPrefixes Set LeadsTo =
    (p r : List SerialOp) → Set (p ++ r) → ((a : OpId) → HasOutcome p a Stuck → ⊥) →
    Reads LeadsTo p

-- a list that the automaton reads, with as many operations of each thread as h has calls, is in the
-- set
abbrev pub HasComplete : {X : Type 0} → (List SerialOp → Type 0) → (List SerialOp → X → Type 0)
    → List Event → Type 0
HasComplete Set LeadsTo h =
    (q : List SerialOp) → Reads LeadsTo q → ((t : ℕ) → length (entries t q) ≡ calls t h) → Set q

-- a list with as many operations of each thread as have returned in h, followed by a, stuck, is in
-- the set exactly where a is stuck in a state to which the list leads
abbrev pub HasStuck : {X : Type 0} → (List SerialOp → Type 0) → (List SerialOp → X → Type 0)
    → (X → Type 0) → List Event → OpId → Type 0
HasStuck {X} Set LeadsTo IsStuckAt h a =
    (q : List SerialOp) → ((t : ℕ) → length (entries t q) ≡ length (outcomes t h)) →
    Set (q ++ stuck_of a.t ∷ []) ↔ ((x : X) × LeadsTo q x × IsStuckAt x)

-- A history whose calls have all returned has a witness exactly where it has a configuration.
abbrev pub CompleteHasConfiguration : {X : Type 0} → (List SerialOp → Type 0)
    → (List SerialOp → X → Type 0) → Type 0
CompleteHasConfiguration {X} Set LeadsTo =
    ReadsPrefixes Set LeadsTo →
    (h : List Event) → HasSequentialThreads h → AllReturned h → HasComplete Set LeadsTo h →
    HasWitness Set h ↔ ((c : Configuration X) × IsConfiguration LeadsTo h c)

-- Without all pending calls but that of a, the history has a witness exactly where it has a
-- configuration in which no pending operation has taken effect, and in whose state a is stuck.
abbrev pub StuckHasConfiguration : {X C : Type 0} → (List SerialOp → Type 0)
    → (List SerialOp → X → Type 0) → (X → C → Type 0) → (OpId → C) → Type 0
StuckHasConfiguration {X} Set LeadsTo IsStuckAt call =
    ReadsPrefixes Set LeadsTo → ((q : List SerialOp) → Set q → IsSerial q) →
    (h : List Event) (a : OpId) → HasSequentialThreads h → IsPending h a →
    HasStuck Set LeadsTo (λ x. IsStuckAt x (call a)) h a →
    HasWitness Set (keep_pending a.t h)
    ↔ ((c : Configuration X) × IsConfiguration LeadsTo h c × ((t : ℕ) → c.effects t ≡ None)
    × IsStuckAt c.state (call a))
