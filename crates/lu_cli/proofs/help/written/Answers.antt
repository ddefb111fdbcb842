use Rattle.std.proofs.Common.{ap, sym}
use Rattle.lu_cli.specs.declared.table.Kind.{Kind}
use Rattle.lu_cli.specs.Help.{written_by}
use Rattle.lu_cli.proofs.Tables.{builds_same}
use Rattle.lu_cli.proofs.help.written.Goals as goal

pub returns-in-Number : goal.returns-in-Number
returns-in-Number c =
    let row = c.args.option.now in
    builds_same _ _ _ c.format-in-Number.ensures.ok (sym (ap (λ (k : Kind). written_by k row.name.now row.letter.now) c.in-Number.is))

pub returns-in-Long : goal.returns-in-Long
returns-in-Long c =
    let row = c.args.option.now in
    builds_same _ _ _ c.format-in-Long.ensures.ok (sym (ap (λ (k : Kind). written_by k row.name.now row.letter.now) c.in-Long.is))
