use Rattle.std.proofs.Common.{◌≡◌, ◌++◌, drop}
use Rattle.lu_text.specs.Lines.{texts}
use Rattle.lu_lint.specs.Said.{said_of}
use Rattle.lu_lint.specs.Schedule.{faults_of_each, schedule_said}
use Rattle.lu_lint.proofs.schedule.with_words.Given as goal

abbrev pub invariant-loop-word : goal.invariant-loop-word
invariant-loop-word over l = said_of l.all.items ++ schedule_said l.above (faults_of_each (drop l.word-index (texts l.first))) ≡ said_of l.initial.all.items ++ schedule_said l.above (faults_of_each (texts l.first))
