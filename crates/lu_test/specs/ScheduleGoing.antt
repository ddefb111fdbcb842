-- The words of a schedule, whether or not each is a move.
use Rattle.std.specs.Prelude.{ℕ, List, Option, Some, None, Result, Err, drop, ◌==◌, if◌then◌else◌}
use Rattle.std.specs.List.{slice_split}
use Rattle.lu_test.specs.declared.schedule.Move.{Move}
use Rattle.lu_test.specs.declared.schedule_fault.ScheduleFault.{ScheduleFault}
use Rattle.lu_test.specs.declared.schedule_fault.ScheduleFault.TheVariants.{Form}
use Rattle.lu_test.specs.ScheduleText.{has_form, moves_of, one_line}

-- the words after `schedule`, of what stands between the spaces of a line
abbrev pub words_by : List (List ℕ) → Option (List (List ℕ))
words_by parts = if has_form parts then Some (drop 1 parts) else None

abbrev pub schedule_line_words : Option (List ℕ) → Option (List (List ℕ))
schedule_line_words None = None
schedule_line_words (Some line) = words_by (slice_split (λ b. b == 32) line)

-- the words after `schedule`, where the text has the form of a schedule
abbrev pub schedule_words : List ℕ → Option (List (List ℕ))
schedule_words text = schedule_line_words (one_line text)

-- the moves that they say
abbrev pub moves_said : Option (List (List ℕ)) → Result (List Move) ScheduleFault
moves_said None = Err Form
moves_said (Some words) = moves_of 0 words
