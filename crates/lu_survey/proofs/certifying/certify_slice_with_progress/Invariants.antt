use Rattle.lu_refine.specs.ByThread.{asked_of}
use Rattle.lu_survey.specs.Certified.{IsCertified}
use Rattle.lu_survey.proofs.InSlices.{SoWithin}
use Rattle.lu_survey.proofs.certifying.certify_slice_with_progress.Given as goal

abbrev pub invariant-loop-number : goal.invariant-loop-number
invariant-loop-number g l = SoWithin (asked_of l.roles) (IsCertified (asked_of l.roles) l.nodes) l.start l.number
