use Rattle.std.proofs.Common.{List, string_bytes, subst, sym, take}
use Rattle.std.proofs.lemmas.List.{take_more}
use Rattle.lu_source_lint.specs.declared.message.SourceMessage.{SourceMessage}
use Rattle.lu_cli.specs.Lint.{AddsMessages}
use Rattle.lu_cli.proofs.Messages.{adds_more}
use Rattle.lu_cli.proofs.lint.write_messages.Goals as goal

pub loop-message-preserved : goal.loop-message-preserved
loop-message-preserved c =
    let messages = c.args.messages.now in
    let i = c.loop-message.message-index in
    let old = string_bytes c.args.text.now in
    let new = string_bytes c.write_message.new.text in
    let more = take_more messages i _ c.loop-message-test.true in
    subst (λ (l : List SourceMessage). AddsMessages l old new) (sym more)
    (adds_more (take i messages) _ old (string_bytes c.loop-message.text) new c.loop-message.invariant c.in_ok-write_message.ensures)
