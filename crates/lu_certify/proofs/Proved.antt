-- Where all nodes of a cut are gone through.
use Rattle.std.proofs.Common.{arith, ◌≡◌, ◌<◌, ◌≤◌, ℕ, List, sym, subst}
use Rattle.lu_component.specs.Component.{Component}
use Rattle.lu_test.specs.declared.schedule.Move.{Move}
use Rattle.lu_test.specs.Matrix.{Matrix}
use Rattle.lu_machine.specs.States.{State}
use Rattle.lu_machine.specs.Starts.{FromEachStart, IsStart, Settles}
use Rattle.lu_machine.proofs.Starting.{start_there}
use Rattle.lu_history.specs.declared.serial.SerialOp.{SerialOp}
use Rattle.lu_serial.specs.Offences.{IsOffence, IsSetOf}
use Rattle.lu_serial.specs.Serial.{IsSerialHistory}
use Rattle.lu_report.specs.Limits.{most_moves}
use Rattle.lu_witness.specs.Witnesses.{IsMember}
use Rattle.lu_graph.specs.declared.ending.Ending.{Ending}
use Rattle.lu_graph.specs.declared.ending.Ending.TheVariants.{Badly, TooMany, Well}
use Rattle.lu_graph.specs.Nodes.{EndsWellOnFewNodes, HasFewNodes, IsEnding, IsShortestBad}
use Rattle.lu_graph.proofs.OtherSet.{few_too, shortest_too, well_too}
use Rattle.lu_certify.specs.declared.limits.Limits.{Limits}
use Rattle.lu_certify.specs.declared.by_nodes.ByNodes.{ByNodes}
use Rattle.lu_certify.specs.declared.by_nodes.ByNodes.TheVariants.{AllGood, BadAfter, Nothing}
use Rattle.lu_certify.specs.Certificates.{FailsAfter, IsProvedGood}
use Rattle.lu_certify.specs.Cuts.{IsLeftOpen, IsShownByNodes, IsByNodesOf}
use Rattle.lu_certify.proofs.Behind.{one_length}
use Rattle.lu_certify.proofs.Linear.{never_bad}

-- ---- what the nodes show

module _ (c : Component) (matrix : Matrix) (limits : Limits) (settles : Settles c matrix) where
  -- where a serial run offends, nothing is
  pub none_shown : ((s : State) → IsStart c matrix s → (v : List Move) × IsOffence s limits.serial v) → IsLeftOpen c limits matrix
  none_shown offends =
      let there = start_there c matrix settles in
      let offence = offends there.0 there.1 in
      record {
        unproved = λ proved. (proved there.0 there.1).0 offence.0 offence.1;
        unfailing = λ moves behind. (behind.2 there.0 there.1).0 offence.0 offence.1;
      }

  -- over the set of the serial histories
  module _ (members : List (List SerialOp)) (set : (s : State) → IsStart c matrix s → IsSetOf s limits.serial members) where
    few_at : (s : State) → IsStart c matrix s → HasFewNodes (IsMember members) s limits.nodes → HasFewNodes (IsSerialHistory s) s limits.nodes
    few_at s at few =
        let here = set s at in
        few_too (IsMember members) (IsSerialHistory s) (λ q y. (here.are q).0 y) (λ q y. (here.are q).1 y) s limits.nodes few

    few_back : (s : State) → IsStart c matrix s → HasFewNodes (IsSerialHistory s) s limits.nodes → HasFewNodes (IsMember members) s limits.nodes
    few_back s at few =
        let here = set s at in
        few_too (IsSerialHistory s) (IsMember members) (λ q y. (here.are q).1 y) (λ q y. (here.are q).0 y) s limits.nodes few

    shortest_at : (s : State) → IsStart c matrix s → (moves : ℕ) → IsShortestBad (IsMember members) s moves → IsShortestBad (IsSerialHistory s) s moves
    shortest_at s at moves x =
        let here = set s at in
        shortest_too (IsMember members) (IsSerialHistory s) (λ q y. (here.are q).0 y) (λ q y. (here.are q).1 y) s moves x

    shown_well : FromEachStart c matrix (λ s. EndsWellOnFewNodes (IsMember members) s limits.nodes) → IsProvedGood c limits matrix
    shown_well is s at =
        let here = set s at in
        (here.none, (few_at s at (is s at).0, well_too (IsMember members) (IsSerialHistory s) (λ q y. (here.are q).0 y) (λ q y. (here.are q).1 y) s (is s at).1))

    shown_badly : (moves : ℕ) → FromEachStart c matrix (λ s. IsEnding (IsMember members) limits.bound limits.nodes s (Badly moves)) → limits.bound < moves → moves ≤ most_moves → FailsAfter c limits matrix moves
    shown_badly moves is more few = (more, few, λ s at. ((set s at).none, few_at s at ((is s at).1 more), shortest_at s at moves (is s at).0))

    shown_far : (moves : ℕ) → FromEachStart c matrix (λ s. IsEnding (IsMember members) limits.bound limits.nodes s (Badly moves)) → (limits.bound < moves → most_moves < moves) → IsLeftOpen c limits matrix
    shown_far moves is far =
        let there = start_there c matrix settles in
        let s = there.0 in
        let x = shortest_at s there.1 moves (is s there.1).0 in
        record {
          unproved = λ proved. never_bad (IsSerialHistory s) s (proved s there.1).1.1 x.schedule x.bad;
          unfailing = λ n behind.
              (let same : n ≡ moves = one_length (IsSerialHistory s) s n moves (behind.2 s there.1).2 x in
              let more : limits.bound < moves = subst (λ (k : ℕ). limits.bound < k) same behind.0 in
              let few : moves ≤ most_moves = subst (λ (k : ℕ). k ≤ most_moves) same behind.1 in
              let over = far more in
              absurd (omega (arith, few, over)));
        }

    shown_many : FromEachStart c matrix (λ s. IsEnding (IsMember members) limits.bound limits.nodes s TooMany) → IsLeftOpen c limits matrix
    shown_many is =
        let there = start_there c matrix settles in
        let many = is there.0 there.1 in
        record {
          unproved = λ proved. many (few_back there.0 there.1 (proved there.0 there.1).1.0);
          unfailing = λ n behind. many (few_back there.0 there.1 (behind.2 there.0 there.1).1);
        }

    pub shown_by : (ending : Ending) (shown : ByNodes) → FromEachStart c matrix (λ s. IsEnding (IsMember members) limits.bound limits.nodes s ending) → IsByNodesOf limits.bound ending shown → IsShownByNodes c limits matrix shown
    shown_by Well shown is by = subst (IsShownByNodes c limits matrix) (sym by) (shown_well is)
    shown_by (Badly moves) AllGood is by = absurd by
    shown_by (Badly moves) (BadAfter n) is by = subst (FailsAfter c limits matrix) (sym by.0) (shown_badly moves is by.1 by.2)
    shown_by (Badly moves) Nothing is by = shown_far moves is by
    shown_by TooMany shown is by = subst (IsShownByNodes c limits matrix) (sym by) (shown_many is)
