use Rattle.lu_always.proofs.monitors.Monitors.are_within.Goals as goal
