-- Which members are possible, as numbered lists; and what returns leave of them.
use Rattle.std.specs.Prelude.{◌≡◌, ℕ, Bool, List, All, Option, Some, None}
use Rattle.std.specs.Bool.{beq}
use Rattle.std.specs.Global.{Vec}
use Rattle.std.specs.List.{slice_index}
use Rattle.lu_machine.specs.declared.event.Event.{Event}
use Rattle.lu_machine.specs.declared.event.Event.TheVariants.{Return}
use Rattle.lu_machine.specs.declared.event.Outcome.{Outcome}
use Rattle.lu_machine.specs.States.{State}
use Rattle.lu_history.specs.declared.operation.OpId.{OpId}
use Rattle.lu_history.specs.declared.serial.SerialOp.{SerialOp}
use Rattle.lu_graph.specs.declared.possibilities.Possibilities.{Possibilities}
use Rattle.lu_graph.specs.declared.possibilities.ReturnAt.{ReturnAt}
use Rattle.lu_graph.specs.Discovering.{Extends}
use Rattle.lu_graph.specs.Judging.{Follows, StayPossible, called}
use Rattle.lu_graph.specs.Numbered.{IsNumber, is_list}

-- n is the number of this list
abbrev pub IsNumberOf : Possibilities → List Bool → ℕ → Type 0
IsNumberOf possible alive n = IsNumber (is_list beq alive) possible.lists.keys n

-- it is the list with this number, if there is one
abbrev pub Gives : Possibilities → ℕ → List Bool → Type 0
Gives possible n result = (alive : List Bool) → IsNumberOf possible alive n → result ≡ alive

-- this many operations of each thread are called
abbrev pub HaveCalls : State → List ℕ → Type 0
HaveCalls s calls = (u : ℕ) → slice_index calls u ≡ called s u

-- the event is no return
abbrev pub IsNoReturn : Option Event → Type 0
IsNoReturn event = (a : OpId) (outcome : Outcome) → event ≡ Some (Return a.t a.k outcome) → ⊥

-- the event that led to s is this return, with the calls of s, where before it what has this number
-- was possible; or it is none
abbrev pub TellsReturn : State → ℕ → Option Event → Option ReturnAt → Type 0
TellsReturn s alive event None = IsNoReturn event
TellsReturn s alive event (Some at) =
    (event ≡ Some (Return at.operation.t at.operation.k at.outcome)) × HaveCalls s at.calls
    × (at.alive ≡ alive)

-- this is the number of what stays possible after the return
pub record IsLeft (members : List (Vec SerialOp)) (possible : Possibilities) (at : ReturnAt)
    (n : ℕ) : Type 0 where
  pub old : List Bool
  pub new : List Bool
  pub was : IsNumberOf possible old at.alive
  pub is : IsNumberOf possible new n
  pub stays : StayPossible members at old new

-- so it is of each return that is remembered
abbrev pub AreLeft : List (Vec SerialOp) → Possibilities → Type 0
AreLeft members possible =
    All (λ entry. IsLeft members possible entry.0 entry.1) possible.returns.entries

-- n is the number of such a list; more lists may have become known, and more returns
pub record NumbersOne (Such : List Bool → Type 0) (members : List (Vec SerialOp))
    (old new : Possibilities) (n : ℕ) : Type 0 where
  pub list : List Bool
  pub such : Such list
  pub number : IsNumberOf new list n
  pub grows : Extends old.lists.keys new.lists.keys
  pub left : AreLeft members new

-- so it is where `was` was the number of a list, and what was remembered is so
abbrev pub Numbers : (List Bool → List Bool → Type 0) → List (Vec SerialOp) → ℕ → Possibilities
    → Possibilities → ℕ → Type 0
Numbers Such members was old new n =
    (alive : List Bool) → IsNumberOf old alive was → AreLeft members old
    → NumbersOne (Such alive) members old new n

-- the number of what stays possible after the return
abbrev pub NumbersStay : List (Vec SerialOp) → ReturnAt → Possibilities → Possibilities → ℕ → Type 0
NumbersStay members at = Numbers (StayPossible members at) members at.alive

-- the number of what is possible after the event, if there is one, that led to s
abbrev pub NumbersAfter : List (Vec SerialOp) → State → Option Event → ℕ → Possibilities
    → Possibilities → ℕ → Type 0
NumbersAfter members s event = Numbers (λ alive. Follows members s alive event) members

-- so it is by what is remembered alone, whatever the members are
abbrev pub RecallsAfter : State → Option Event → ℕ → Possibilities → ℕ → Type 0
RecallsAfter s event was known n =
    (members : List (Vec SerialOp)) → NumbersAfter members s event was known known n
