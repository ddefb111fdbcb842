use Rattle.std.proofs.Common.{string_bytes, take}
use Rattle.lu_cli.specs.Lint.{AddsMessages}
use Rattle.lu_cli.proofs.lint.write_messages.Given as goal

abbrev pub invariant-loop-message : goal.invariant-loop-message
invariant-loop-message l =
    AddsMessages (take l.message-index l.messages) (string_bytes l.fn.text) (string_bytes l.text)
