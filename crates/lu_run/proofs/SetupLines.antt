-- A setup's lines.
use Rattle.std.proofs.Common.{◌≤◌, [], ◌∷◌, length, arith}
use Rattle.std.specs.Prelude.{All}
use Rattle.std.proofs.lemmas.List.Elements.{All-nil, All-cons}
use Rattle.lu_component.specs.Component.{Component}
use Rattle.lu_test.specs.declared.matrix.Call.{Call}
use Rattle.lu_test.specs.Matrix.{AreArguments, AreThreads, IsCallOf, IsOf}
use Rattle.lu_test.specs.MatrixText.{MatrixDraft, matrix_of}
use Rattle.lu_run.specs.Setups.{setup_matrix}

pub one_empty : AreThreads ([] ∷ [])
one_empty = record {
  few = omega arith;
  each = All-cons (λ calls. length calls ≤ 8) [] [] (omega arith) (All-nil (λ calls. length calls ≤ 8));
  calls = omega arith;
  arguments = All-cons (λ calls. All (λ (call : Call). AreArguments call.args) calls) [] [] (All-nil (λ (call : Call). AreArguments call.args)) (All-nil (λ calls. All (λ (call : Call). AreArguments call.args) calls));
}

pub setup_fits : (c : Component) (draft : MatrixDraft) → IsOf (matrix_of draft) c → IsOf (setup_matrix draft) c
setup_fits c draft of = (of.0, All-cons (λ calls. All (IsCallOf c) calls) [] [] (All-nil (IsCallOf c)) (All-nil (λ calls. All (IsCallOf c) calls)))
