use Rattle.std.proofs.Common.{◌≡◌, ◌++◌, ◌∷◌, take}
use Rattle.std.specs.Prelude.{string_bytes, codes}
use Rattle.std.specs.List.{flat_map}
use Rattle.lu_test.specs.ScheduleText.{move_text}
use Rattle.lu_test.proofs.schedule_text.write_schedule.Given as goal

abbrev pub invariant-loop-next : goal.invariant-loop-next
invariant-loop-next l = string_bytes l.text ≡ codes "schedule" ++ flat_map (λ m. 32 ∷ move_text m) (take l.next-index l.schedule)
