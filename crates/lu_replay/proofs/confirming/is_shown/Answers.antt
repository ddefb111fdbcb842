use Rattle.std.proofs.Common.{ℕ, subst}
use Rattle.std.specs.Prelude.{IsTrue, ◌↔◌}
use Rattle.std.proofs.lemmas.Result.{IfOk-weaker}
use Rattle.lu_machine.specs.States.{State}
use Rattle.lu_machine.specs.Starts.{IsStart}
use Rattle.lu_serial_graph.specs.Graphs.{members_of}
use Rattle.lu_serial_graph.specs.Learning.{IsLearntGraph}
use Rattle.lu_witness.specs.Witnesses.{IsMember}
use Rattle.lu_report.specs.declared.report.Finding.TheVariants.{Fail}
use Rattle.lu_replay.specs.Confirmed.{IsBadFor, IsShown}
use Rattle.lu_replay.proofs.RunsAnew.{learnt_cut, learnt_conflict, set_shown, offence_shows_none}
use Rattle.lu_replay.proofs.confirming.is_shown.Goals as goal

pub returns-in-SerialCut : goal.returns-in-SerialCut
returns-in-SerialCut c =
    λ (s : State) (serial : ℕ) (is : IsStart c.args.test.component.now c.args.test.matrix.now s) (learnt : IsLearntGraph s serial c.args.learnt.now).
    rw c.in-SerialCut.is (
      λ e. subst (IsLearntGraph s serial) (c.is_cut.ensures.0 e) learnt,
      λ first. c.is_cut.ensures.1 (learnt_cut c.args.test.component.now c.args.test.matrix.now s is serial c.args.learnt.now c.in-SerialCut.schedule learnt first),
    )

pub returns-in-Nondeterministic : goal.returns-in-Nondeterministic
returns-in-Nondeterministic c =
    λ (s : State) (serial : ℕ) (is : IsStart c.args.test.component.now c.args.test.matrix.now s) (learnt : IsLearntGraph s serial c.args.learnt.now).
    let n = c.in-Nondeterministic in
    rw c.in-Nondeterministic.is (
      λ e. subst (IsLearntGraph s serial) (c.is_conflict.ensures.0 e) learnt,
      λ first. c.is_conflict.ensures.1 (learnt_conflict c.args.test.component.now c.args.test.matrix.now s is serial c.args.learnt.now n.schedule n.before n.earlier learnt first),
    )

pub returns-in-Set : goal.returns-in-Set
returns-in-Set c =
    λ (s : State) (serial : ℕ) (is : IsStart c.args.test.component.now c.args.test.matrix.now s) (learnt : IsLearntGraph s serial c.args.learnt.now).
    let set = subst (IsLearntGraph s serial) c.in-Set.is learnt in
    rw c.in-Fail.is
    (IfOk-weaker c.holds.result
    (λ answer. IsTrue answer ↔ IsBadFor (IsMember (members_of c.in-Set.graph)) s c.args.bound c.in-Fail.schedule c.in-Fail.why)
    (λ answer. IsTrue answer ↔ IsShown s c.args.bound serial (Fail c.in-Fail.schedule c.in-Fail.why))
    (λ answer h. set_shown s c.args.bound serial (members_of c.in-Set.graph) set c.in-Fail.schedule c.in-Fail.why answer h)
    (c.holds.ensures s is))

pub returns-in-Cut : goal.returns-in-Cut
returns-in-Cut c =
    λ (s : State) (serial : ℕ) (is : IsStart c.args.test.component.now c.args.test.matrix.now s) (learnt : IsLearntGraph s serial c.args.learnt.now).
    let first = subst (IsLearntGraph s serial) c.in-Cut.is learnt in
    rw c.in-Fail.is (offence_shows_none s c.args.bound serial c.in-Fail.schedule c.in-Cut.field-0 c.in-Fail.why first.0)

pub returns-in-Conflict : goal.returns-in-Conflict
returns-in-Conflict c =
    λ (s : State) (serial : ℕ) (is : IsStart c.args.test.component.now c.args.test.matrix.now s) (learnt : IsLearntGraph s serial c.args.learnt.now).
    let first = subst (IsLearntGraph s serial) c.in-Conflict.is learnt in
    rw c.in-Fail.is (offence_shows_none s c.args.bound serial c.in-Fail.schedule c.in-Conflict.schedule c.in-Fail.why first.0)
