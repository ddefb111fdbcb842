use Rattle.std.proofs.Common.{rules, ◌≡◌, true, Some}
use Rattle.std.specs.Prelude.{is_some}
use Rattle.std.specs.Option.{option_map}
use Rattle.lu_text.specs.Lines.{texts}
use Rattle.lu_source_text.specs.Drafts.{begun_of, drafted_of}
use Rattle.lu_source_text.proofs.Steps.{by_open}
use Rattle.lu_source_text.proofs.reading.worded_line.Goals as goal

pub returns-in-Some : goal.returns-in-Some
returns-in-Some c =
    let there : is_some c.args.draft.now.name ≡ true = search rules in
    let is : option_map begun_of c.args.draft.now.begun ≡ Some (begun_of c.in-Some.begun) = search rules in
    rw (by_open (drafted_of c.args.draft.now) c.args.draft.now.name (option_map begun_of c.args.draft.now.begun) (begun_of c.in-Some.begun) c.args.word.now (texts c.args.words.now) there is) (search rules)
