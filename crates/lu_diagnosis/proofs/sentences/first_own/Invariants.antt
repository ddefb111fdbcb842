use Rattle.std.proofs.Common.{◌≡◌, ℕ, ◌<◌, false}
use Rattle.lu_explain.specs.Explanations.{reason_of}
use Rattle.lu_diagnosis.specs.Sentences.{is_own}
use Rattle.lu_diagnosis.proofs.sentences.first_own.Given as goal

abbrev pub invariant-loop-t : goal.invariant-loop-t
invariant-loop-t l = (u : ℕ) → u < l.t → is_own (reason_of l.explanation u) ≡ false
