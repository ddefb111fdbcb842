-- What is learnt of the serial runs, and what it shows.
use Rattle.std.proofs.Common.{◌≡◌, ℕ, List, [], inl, inr, subst}
use Rattle.std.specs.List.Sorted.{IsStrictlySortedBy}
use Rattle.lu_component.specs.Component.{Component}
use Rattle.lu_test.specs.declared.schedule.Move.{Move}
use Rattle.lu_test.specs.Matrix.{Matrix}
use Rattle.lu_machine.specs.Starts.{FromEachStart}
use Rattle.lu_history.specs.declared.serial.SerialOp.{SerialOp}
use Rattle.lu_history.specs.declared.serial.SerialOutcome.{SerialOutcome}
use Rattle.lu_trie.specs.Members.{history_cmp}
use Rattle.lu_serial.specs.Offences.{IsFirstConflict, IsFirstCut, IsSetOf}
use Rattle.lu_serial_graph.specs.declared.learning.LearntGraph.{LearntGraph}
use Rattle.lu_serial_graph.specs.Learning.{IsLearntGraph}
use Rattle.lu_lint.specs.declared.remark.SerialHint.{SerialHint}
use Rattle.lu_lint.specs.Runs.{CanPlay, HintsOfCut, ShownSerially, set_hints}

pub learnt_so : {A : Type 0} (c : Component) (matrix : Matrix) (bound : ℕ) (x y : LearntGraph A) → FromEachStart c matrix (λ s. IsLearntGraph s bound x) → x ≡ y → FromEachStart c matrix (λ s. IsLearntGraph s bound y)
learnt_so {A = A} c matrix bound x y all is = subst (λ (z : LearntGraph A). FromEachStart c matrix (λ s. IsLearntGraph s bound z)) is all

pub shown_by_set : (c : Component) (matrix : Matrix) (bound : ℕ) (members : List (List SerialOp)) (hints : List SerialHint) → FromEachStart c matrix (λ s. IsSetOf s bound members) → IsStrictlySortedBy history_cmp members → hints ≡ set_hints members → FromEachStart c matrix (ShownSerially bound hints)
shown_by_set c matrix bound members hints all sorted is = λ s start. inl (members, all s start, sorted, is)

pub can_play : (c : Component) (matrix : Matrix) (bound : ℕ) (u : List Move) → FromEachStart c matrix (λ s. IsFirstCut s bound u) → FromEachStart c matrix (CanPlay u)
can_play c matrix bound u all = λ s start. (let cut = (all s start).1 in (cut.end, cut.history, cut.leads))

pub shown_by_cut : (c : Component) (matrix : Matrix) (bound : ℕ) (u : List Move) (hints : List SerialHint) → FromEachStart c matrix (λ s. IsFirstCut s bound u) → FromEachStart c matrix (HintsOfCut u hints) → FromEachStart c matrix (ShownSerially bound hints)
shown_by_cut c matrix bound u hints all are = λ s start. inr (inl (u, all s start, are s start))

pub shown_by_conflict : (c : Component) (matrix : Matrix) (bound : ℕ) (u : List Move) (i : ℕ) (o : SerialOutcome) (hints : List SerialHint) → FromEachStart c matrix (λ s. IsFirstConflict s bound u i o) → hints ≡ [] → FromEachStart c matrix (ShownSerially bound hints)
shown_by_conflict c matrix bound u i o hints all none = λ s start. inr (inr (u, i, o, all s start, none))
