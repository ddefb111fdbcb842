-- One sentence about what happened in a history that has no serial witness.
use Rattle.std.specs.Prelude.{◌≡◌, ℕ, ◌<◌, ◌++◌, Bool, true, false, MatchBool, List, [], ◌∷◌, codes, length, Option, Some, None, MatchOption, option_and_then, slice_get, String, string_bytes, Result, IfOk, OnOk}
use Rattle.std.specs.Option.{option_map_or}
use Rattle.std.specs.Fmt.{decimal}
use Rattle.lu_text.specs.Writing.{Writes}
use Rattle.lu_component.specs.Component.{Component}
use Rattle.lu_test.specs.Matrix.{Matrix}
use Rattle.lu_machine.specs.declared.event.Event.{Event}
use Rattle.lu_history.specs.declared.serial.SerialOp.{SerialOp}
use Rattle.lu_history.specs.declared.serial.SerialOutcome.{SerialOutcome}
use Rattle.lu_history.specs.declared.serial.SerialOutcome.TheVariants.{Ret, Trap, Stuck}
use Rattle.lu_history.specs.Parts.{keep_pending, part}
use Rattle.lu_witness.specs.declared.judgement.Verdict.{Verdict}
use Rattle.lu_witness.specs.declared.judgement.Verdict.TheVariants.{Good, NoWitness, NoWitnessFor}
use Rattle.lu_witness.specs.Witnesses.{IsMember, entries}
use Rattle.lu_explain.specs.declared.explanation.Reason.{Reason}
use Rattle.lu_explain.specs.declared.explanation.Reason.TheVariants.{After, Outcome, Nothing}
use Rattle.lu_explain.specs.declared.orders.Precedence.{Precedence}
use Rattle.lu_explain.specs.AnyOrders.{AnyOrder, TellsAnyOrder}
use Rattle.lu_explain.specs.Explanations.{Explanation, IsExplanation, reason_of}
use Rattle.lu_explain.specs.Lines.{operation_words, why_not}
use Rattle.lu_diagnosis.specs.SerialRuns.{ends_words}

-- ---- words

-- how a call of the run ended
abbrev pub past_words : SerialOutcome → List ℕ
past_words (Ret n) = codes " returned " ++ decimal n
past_words Trap = codes " trapped"
past_words Stuck = codes " blocks"

-- `T2 take returned 0`: call k of thread t, and how it ended in the history
abbrev pub happened : Component → Matrix → List Event → ℕ → ℕ → List ℕ
happened c matrix h t k =
    operation_words c matrix t k ++ option_map_or past_words (slice_get (part t h) k) []

-- `T2 take returned 0, although T1 put 2 had returned before it was called`
abbrev pub late : Component → Matrix → List Event → Precedence → List ℕ
late c matrix h broken =
    happened c matrix h broken.second.t broken.second.k ++ codes ", although "
    ++ operation_words c matrix broken.first.t broken.first.k
    ++ codes " had returned before it was called\n"

-- the calls of the order
abbrev pub order_words : Component → Matrix → List SerialOp → List ℕ
order_words c matrix [] = []
order_words c matrix (op ∷ []) = codes " after " ++ operation_words c matrix op.thread 0
order_words c matrix (op ∷ next ∷ more) =
    codes " after the " ++ decimal (length (op ∷ next ∷ more)) ++ codes " calls below"

-- `, but in a serial run it returns 2 after T0 inc`: why an operation can't come next after an order
abbrev pub why_left : Component → Matrix → List SerialOp → Reason → List ℕ
why_left c matrix order (Outcome o) =
    codes ", but in a serial run it " ++ ends_words o ++ order_words c matrix order
why_left c matrix order (After a) = why_not c matrix order (After a)
why_left c matrix order Nothing = why_not c matrix order Nothing

-- the next operation of thread t after the order, and why it can't come next for this reason
abbrev pub left_sentence : Component → Matrix → List Event → List SerialOp → ℕ → Reason → List ℕ
left_sentence c matrix h order t reason =
    happened c matrix h t (length (entries t order)) ++ why_left c matrix order reason ++ codes "\n"

-- ---- what it is about

-- an outcome is the reason, or that nothing continues, and not another operation that is left
abbrev pub is_own : Option Reason → Bool
is_own None = false
is_own (Some (After a)) = false
is_own (Some (Outcome o)) = true
is_own (Some Nothing) = true

-- the least thread whose next operation is left for such a reason, or none
abbrev pub TellsFirstOwn : Explanation → Option ℕ → Type 0
TellsFirstOwn e found =
    MatchOption found ((t : ℕ) → t < 8 → is_own (reason_of e t) ≡ false)
    (λ t. (t < 8) × (is_own (reason_of e t) ≡ true)
    × ((u : ℕ) → u < t → is_own (reason_of e u) ≡ false))

-- the precedence that an order breaks, if there is an order and it breaks one
abbrev pub broken_of : Option AnyOrder → Option Precedence
broken_of found = option_and_then (λ o. o.broken) found

-- the sentence about thread t, where there is one
abbrev pub thread_sentence : Component → Matrix → List Event → Explanation → ℕ → List ℕ
thread_sentence c matrix h e t =
    option_map_or (left_sentence c matrix h e.order t) (reason_of e t) []

-- The sentence about a precedence that is broken, or else about the first such thread.
abbrev pub IsSentenceBy : Component → Matrix → List Event → Explanation → Option Precedence
    → List ℕ → Type 0
IsSentenceBy c matrix h e (Some broken) text = text ≡ late c matrix h broken
IsSentenceBy c matrix h e None text =
    (t : Option ℕ) × TellsFirstOwn e t
    × (text ≡ option_map_or (thread_sentence c matrix h e) t [])

-- this precedence is broken by the least order of the calls that has the outcomes of h, or none is
abbrev pub IsBroken : (List SerialOp → Type 0) → List Event → Option Precedence → Type 0
IsBroken Set h broken =
    (found : Option AnyOrder) × TellsAnyOrder Set h found × (broken ≡ broken_of found)

-- what is said of a history without a witness, by its explanation
abbrev pub IsSaidOf : (List SerialOp → Type 0) → Component → Matrix → List Event → Explanation
    → List ℕ → Type 0
IsSaidOf Set c matrix h e text =
    (broken : Option Precedence) × IsBroken Set h broken × IsSentenceBy c matrix h e broken text

-- nothing is said of a history that has one
abbrev pub IsSentence : (List SerialOp → Type 0) → Component → Matrix → List Event → List ℕ
    → Type 0
IsSentence Set c matrix h text =
    (e : Explanation) × IsExplanation Set h e
    × MatchBool e.witnessed (text ≡ []) (IsSaidOf Set c matrix h e text)

-- what is said of a history with this verdict: it is about the pending call that has no witness, or
-- about all calls where none is pending
abbrev pub IsWhatHappened : (List SerialOp → Type 0) → Component → Matrix → List Event → Verdict
    → List ℕ → Type 0
IsWhatHappened Set c matrix h Good text = text ≡ []
IsWhatHappened Set c matrix h NoWitness text = IsSentence Set c matrix h text
IsWhatHappened Set c matrix h (NoWitnessFor t) text = IsSentence Set c matrix (keep_pending t h) text

-- ---- texts in memory, over the members of a set, unless memory ran out

-- the text grows by the sentence about thread t
abbrev pub AddsThread : {T E Z : Type 0} → Result T E → String Z → String Z → Component → Matrix
    → List Event → Explanation → ℕ → Type 0
AddsThread result old new c matrix h e t =
    Writes result old new (thread_sentence c matrix h e t)

-- it grows by the sentence about what is broken, or else about the first such thread
abbrev pub AddsBy : {T E Z : Type 0} → Result T E → String Z → String Z → Component → Matrix
    → List Event → Explanation → Option Precedence → Type 0
AddsBy result old new c matrix h e broken =
    OnOk result ((more : List ℕ) × IsSentenceBy c matrix h e broken more
    × (string_bytes new ≡ string_bytes old ++ more))

abbrev pub TellsBroken : List (List SerialOp) → List Event → Option Precedence → Type 0
TellsBroken members h broken = IsBroken (IsMember members) h broken

abbrev pub SaysOf : {Z E : Type 0} → List (List SerialOp) → Component → Matrix → List Event
    → Explanation → Result (String Z) E → Type 0
SaysOf members c matrix h e result =
    IfOk result (λ text. IsSaidOf (IsMember members) c matrix h e (string_bytes text))

abbrev pub Says : {Z E : Type 0} → List (List SerialOp) → Component → Matrix → List Event
    → Result (String Z) E → Type 0
Says members c matrix h result =
    IfOk result (λ text. IsSentence (IsMember members) c matrix h (string_bytes text))

abbrev pub SaysWhy : {Z E : Type 0} → List (List SerialOp) → Component → Matrix
    → List Event → Verdict → Result (String Z) E → Type 0
SaysWhy members c matrix h verdict result =
    IfOk result (λ text. IsWhatHappened (IsMember members) c matrix h verdict (string_bytes text))
