-- What holds of one set of serial histories holds of another with the same members.
use Rattle.std.proofs.Common.{ℕ, List, inl, inr}
use Rattle.lu_test.specs.declared.schedule.Move.{Move}
use Rattle.lu_machine.specs.declared.event.Event.{Event}
use Rattle.lu_machine.specs.States.{State}
use Rattle.lu_history.specs.declared.serial.SerialOp.{SerialOp}
use Rattle.lu_witness.specs.Goodness.{IsGoodAt}
use Rattle.lu_witness.specs.Witnesses.{HasWitness}
use Rattle.lu_graph.specs.declared.ending.Ending.{Ending}
use Rattle.lu_graph.specs.declared.ending.Ending.TheVariants.{Well, Badly, TooMany}
use Rattle.lu_graph.specs.Nodes.{EndsBadly, EndsWell, HasFewNodes, IsEnding, IsShortestBad}

module _ (S T : List SerialOp → Type 0) (to : (q : List SerialOp) → S q → T q) (back : (q : List SerialOp) → T q → S q) where
  witness_too : (h : List Event) → HasWitness S h → HasWitness T h
  witness_too h w = (w.0, to w.0 w.1, w.2)

  pub good_too : (end : State) (h : List Event) → IsGoodAt S end h → IsGoodAt T end h
  good_too end h (inl good) = inl (good.0, witness_too h good.1)
  good_too end h (inr good) = inr (good.0, λ a pends. (let w = good.1 a pends in (w.0, to w.0 w.1, w.2)))

  pub few_too : (s : State) (most : ℕ) → HasFewNodes S s most → HasFewNodes T s most
  few_too s most few =
      (few.0, λ u end h first leads. (let one = few.1 u end h first leads in (one.0, one.1, (one.2.0, λ q of. one.2.1 q (back q of)))), few.2)

  pub well_too : (s : State) → EndsWell S s → EndsWell T s
  well_too s well u ended =
      let r = well u ended in
      record { end = r.end; history = r.history; leads = r.leads; holds = good_too r.end r.history r.holds }

pub bad_too : (S T : List SerialOp → Type 0) → ((q : List SerialOp) → S q → T q) → ((q : List SerialOp) → T q → S q) → (s : State) (u : List Move) → EndsBadly S s u → EndsBadly T s u
bad_too S T to back s u r = record {
  end = r.end;
  history = r.history;
  leads = r.leads;
  holds = (r.holds.0, λ good. r.holds.1 (good_too T S back to r.end r.history good));
}

pub shortest_too : (S T : List SerialOp → Type 0) → ((q : List SerialOp) → S q → T q) → ((q : List SerialOp) → T q → S q) → (s : State) (moves : ℕ) → IsShortestBad S s moves → IsShortestBad T s moves
shortest_too S T to back s moves is = record {
  schedule = is.schedule;
  long = is.long;
  bad = bad_too S T to back s is.schedule is.bad;
  shortest = λ v lt ends. is.shortest v lt (bad_too T S back to s v ends);
}

pub ending_too : (S T : List SerialOp → Type 0) → ((q : List SerialOp) → S q → T q) → ((q : List SerialOp) → T q → S q) → (bound most : ℕ) (s : State) (ending : Ending) → IsEnding S bound most s ending → IsEnding T bound most s ending
ending_too S T to back bound most s Well is = (few_too S T to back s most is.0, well_too S T to back s is.1)
ending_too S T to back bound most s (Badly moves) is = (shortest_too S T to back s moves is.0, λ far. few_too S T to back s most (is.1 far))
ending_too S T to back bound most s TooMany is = λ few. is (few_too T S back to s most few)
