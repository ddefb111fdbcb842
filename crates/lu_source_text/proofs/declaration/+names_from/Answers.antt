use Rattle.std.proofs.Common.{rules, ◌≡◌, ◌∷◌}
use Rattle.lu_text.specs.Lines.{texts}
use Rattle.lu_source_text.specs.Drafts.{drafted_of}
use Rattle.lu_source_text.proofs.Steps.{names_more}
use Rattle.lu_source_text.proofs.declaration.+names_from.Goals as goal

pub returns-then-eq : goal.returns-then-eq
returns-then-eq t c =
    let first : texts c.args.words.now ≡ c.in-Some.word.now.now ∷ texts c.in-Some.rest.now = search rules in
    let second : texts c.in-Some.rest.now ≡ c.in-Some-split_first.sign.now.now ∷ texts c.in-Some-split_first.more.now = search rules in
    let both : texts c.args.words.now ≡ c.in-Some.word.now.now ∷ c.in-Some-split_first.sign.now.now ∷ texts c.in-Some-split_first.more.now = rw second at first in
    rw (names_more (drafted_of c.args.draft.now) c.args.names.items (texts c.args.words.now) c.in-Some.word.now.now c.in-Some-split_first.sign.now.now (texts c.in-Some-split_first.more.now) both) (search rules)
