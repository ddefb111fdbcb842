-- Good schedules, and why one is not good (Burckhardt, Dern, Musuvathi and Tan, 2010).
use Rattle.std.specs.Prelude.{ℕ, ◌≤◌, ◌⊎◌, List, length}
use Rattle.lu_test.specs.declared.schedule.Move.{Move}
use Rattle.lu_machine.specs.declared.counts.Counts.{Counts}
use Rattle.lu_machine.specs.declared.event.Event.{Event}
use Rattle.lu_machine.specs.States.{State}
use Rattle.lu_machine.specs.Ends.{IsComplete, IsStuck, IsEnded}
use Rattle.lu_machine.specs.Order.{IsSmaller}
use Rattle.lu_machine.specs.Schedules.{Reaches, IsEndedWithin, AreNumbers}
use Rattle.lu_history.specs.declared.operation.OpId.{OpId}
use Rattle.lu_history.specs.declared.serial.SerialOp.{SerialOp}
use Rattle.lu_history.specs.Histories.{IsPending}
use Rattle.lu_history.specs.Parts.{keep_pending}
use Rattle.lu_witness.specs.declared.judgement.Why.{Why}
use Rattle.lu_witness.specs.declared.judgement.Why.TheVariants.{Complete, Stuck}
use Rattle.lu_witness.specs.Witnesses.{HasWitness, IsLeastWithout}

-- complete, and the history has a witness in the set; or stuck, and it has one for each pending
-- call, without the other pending calls
abbrev pub IsGoodAt : (List SerialOp → Type 0) → State → List Event → Type 0
IsGoodAt Set end history =
    (IsComplete end × HasWitness Set history)
    ⊎ (IsStuck end × ((a : OpId) → IsPending history a → HasWitness Set (keep_pending a.t history)))

-- u is ended within the bound, and not good
abbrev pub IsBad : (List SerialOp → Type 0) → State → ℕ → List Move → Type 0
IsBad Set s bound u =
    (length u ≤ bound) × Reaches s u (λ end history. IsEnded end × (IsGoodAt Set end history → ⊥))

-- each schedule of the part that is ended within the bound is good
abbrev pub AreGood : (List SerialOp → Type 0) → State → ℕ → (List Move → Type 0) → Type 0
AreGood Set s bound Part =
    (u : List Move) → Part u → IsEndedWithin s bound u → Reaches s u (IsGoodAt Set)

-- why a schedule is bad that ends so, with this history: it is complete, or it is stuck and t is
-- the least thread whose pending call has no witness
abbrev pub IsWhyAt : (List SerialOp → Type 0) → State → List Event → Why → Type 0
IsWhyAt Set end history Complete = IsComplete end
IsWhyAt Set end history (Stuck t) = IsStuck end × IsLeastWithout Set history t

abbrev pub IsWhy : (List SerialOp → Type 0) → State → List Move → Why → Type 0
IsWhy Set s u why = Reaches s u (λ end history. IsWhyAt Set end history why)

-- u is a bad schedule of the part, each smaller one of the part that is ended within the bound is
-- good, and why u is bad
pub record IsFirstBad (Set : List SerialOp → Type 0) (s : State) (bound : ℕ)
    (Part : List Move → Type 0) (u : List Move) (why : Why) : Type 0 where
  pub part : Part u
  pub bad : IsBad Set s bound u
  pub before : AreGood Set s bound (λ v. Part v × IsSmaller v u)
  pub why_is : IsWhy Set s u why

-- each schedule of the part that is ended within the bound is good, and the counts are the numbers
-- of those that are complete, stuck and cut
pub record AreAllGood (Set : List SerialOp → Type 0) (s : State) (bound : ℕ)
    (Part : List Move → Type 0) (counts : Counts) : Type 0 where
  pub good : AreGood Set s bound Part
  pub numbers : AreNumbers s bound Part counts

-- each schedule is of this part
abbrev pub Any : List Move → Type 0
Any u = Unit {0}
