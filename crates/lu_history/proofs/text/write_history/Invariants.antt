use Rattle.std.proofs.Common.{◌≡◌, take}
use Rattle.std.specs.Prelude.{string_bytes}
use Rattle.lu_history.specs.Text.{history_text}
use Rattle.lu_history.proofs.text.write_history.Given as goal

abbrev pub invariant-loop-event : goal.invariant-loop-event
invariant-loop-event l = string_bytes l.text ≡ history_text (take l.event-index l.history)
