use Rattle.lu_refine.specs.ByThread.{asked_of}
use Rattle.lu_survey.specs.Comparing.{AgreesAt}
use Rattle.lu_survey.proofs.InSlices.{SoWithin}
use Rattle.lu_survey.proofs.comparing.compare_slice_with_progress.Given as goal

abbrev pub invariant-loop-number : goal.invariant-loop-number
invariant-loop-number g l = SoWithin (asked_of l.roles) (AgreesAt l.trusted (asked_of l.roles)) l.start l.number
