use Rattle.lu_refine.specs.ByThread.{asked_of}
use Rattle.lu_refine.proofs.Passing.{PassWithin}
use Rattle.lu_refine.proofs.campaigning.campaign_slice_with_progress.Given as goal

abbrev pub invariant-loop-number : goal.invariant-loop-number
invariant-loop-number g l = PassWithin (asked_of l.roles) l.start l.number
