use Rattle.std.proofs.Common.{◌≡◌, take}
use Rattle.std.specs.Prelude.{string_bytes}
use Rattle.lu_cli.specs.Conform.{schedule_parts}
use Rattle.lu_cli.proofs.conform.schedule_parts.Given as goal

abbrev pub invariant-loop-schedule : goal.invariant-loop-schedule
invariant-loop-schedule l = string_bytes l.text ≡ schedule_parts (take l.schedule-index l.schedules)
