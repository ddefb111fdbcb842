-- Orders of the calls in which each has its outcome of the history, precedence aside.
use Rattle.std.specs.Prelude.{◌≡◌, ℕ, ◌<◌, List, length, take, Option, MatchOption}
use Rattle.std.specs.declared.cmp.Ordering.TheVariants.{Greater}
use Rattle.lu_machine.specs.declared.event.Event.{Event}
use Rattle.lu_history.specs.declared.operation.OpId.{OpId}
use Rattle.lu_history.specs.declared.serial.SerialOp.{SerialOp}
use Rattle.lu_history.specs.Parts.{part}
use Rattle.lu_trie.specs.Members.{history_cmp}
use Rattle.lu_witness.specs.Witnesses.{IsEntryAt, entries}
use Rattle.lu_explain.specs.declared.orders.Precedence.{Precedence}
use Rattle.lu_explain.specs.Explanations.{IsBlocker, IsFree}

-- each thread has its part of h: the first half of what a witness is
abbrev pub HasEachPart : List Event → List SerialOp → Type 0
HasEachPart h q = (t : ℕ) → entries t q ≡ part t h

-- a serial history of the set that has the outcomes of h
abbrev pub HasOutcomes : (List SerialOp → Type 0) → List Event → List SerialOp → Type 0
HasOutcomes Set h q = Set q × HasEachPart h q

-- q is of this kind, and none of them is smaller
pub record IsLeast (Kind : List SerialOp → Type 0) (q : List SerialOp) : Type 0 where
  pub is : Kind q
  pub least : (r : List SerialOp) → Kind r → history_cmp q r ≡ Greater → ⊥

-- the least of this kind, or there is none
abbrev pub TellsLeast : (List SerialOp → Type 0) → Option (List SerialOp) → Type 0
TellsLeast Kind found =
    MatchOption found ((q : List SerialOp) → Kind q → ⊥) (IsLeast Kind)

-- before position n of q, what precedes an operation stands before it
abbrev pub IsInOrder : List Event → List SerialOp → ℕ → Type 0
IsInOrder h q n = (i : ℕ) (b : OpId) → i < n → IsEntryAt q i b → IsFree h (take i q) b

-- At this position q breaks the precedence: the second operation stands there, and the first does
-- not stand before it. Before that one nothing is out of order.
pub record IsFirstBroken (h : List Event) (q : List SerialOp) (broken : Precedence) : Type 0 where
  pub position : ℕ
  pub second : IsEntryAt q position broken.second
  pub first : IsBlocker h (take position q) broken.second broken.first
  pub before : IsInOrder h q position

-- the first precedence of h that q breaks, or none
abbrev pub TellsFirstBroken : List Event → List SerialOp → Option Precedence → Type 0
TellsFirstBroken h q found = MatchOption found (IsInOrder h q (length q)) (IsFirstBroken h q)

-- an order, as contracts see it, and the first precedence that it breaks
pub record AnyOrder : Type 0 where
  pub order : List SerialOp
  pub broken : Option Precedence

-- the least of the serial histories that have the outcomes of h, and the first precedence of h that
-- it breaks, or none
pub record IsAnyOrder (Set : List SerialOp → Type 0) (h : List Event) (o : AnyOrder) : Type 0 where
  pub least : IsLeast (HasOutcomes Set h) o.order
  pub broken : TellsFirstBroken h o.order o.broken

-- that, or no serial history has the outcomes of h
abbrev pub TellsAnyOrder : (List SerialOp → Type 0) → List Event → Option AnyOrder → Type 0
TellsAnyOrder Set h found =
    MatchOption found ((q : List SerialOp) → HasOutcomes Set h q → ⊥) (IsAnyOrder Set h)
