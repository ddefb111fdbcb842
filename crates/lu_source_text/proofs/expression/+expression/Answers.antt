use Rattle.std.proofs.Common.{rules, ◌≡◌, ◌-◌, ◌∷◌, arith}
use Rattle.lu_text.specs.Lines.{texts}
use Rattle.lu_source.specs.Evaluations.{expr_of}
use Rattle.lu_source_text.specs.Reads.{meanings}
use Rattle.lu_source_text.proofs.Steps.{expr_more, infix_more}
use Rattle.lu_source_text.proofs.expression.+expression.Goals as goal

pub expr_from-returns-in_err-left : goal.expr_from-returns-in_err-left
expr_from-returns-in_err-left t c =
    let is : texts c.args.words.now ≡ c.in-Some.word.now.now ∷ texts c.in-Some.rest.now = search rules in
    rw (expr_more c.args.steps (c.args.steps - 1) (meanings c.args.scope) c.args.least (texts c.args.words.now) c.in-Some.word.now.now (texts c.in-Some.rest.now) (omega arith) is) (search rules)

pub expr_from-returns : goal.expr_from-returns
expr_from-returns t c =
    let is : texts c.args.words.now ≡ c.in-Some.word.now.now ∷ texts c.in-Some.rest.now = search rules in
    rw (expr_more c.args.steps (c.args.steps - 1) (meanings c.args.scope) c.args.least (texts c.args.words.now) c.in-Some.word.now.now (texts c.in-Some.rest.now) (omega arith) is) (search rules)

pub infix_from-returns : goal.infix_from-returns
infix_from-returns t c =
    let is : texts c.args.words.now ≡ c.in-Some.word.now.now ∷ texts c.in-Some.rest.now = search rules in
    rw (infix_more c.args.steps (c.args.steps - 1) (meanings c.args.scope) c.args.least c.args.most (expr_of c.args.left) (texts c.args.words.now) c.in-Some.word.now.now (texts c.in-Some.rest.now) (omega arith) is) (search rules)

pub infix_from-returns-in_err-right : goal.infix_from-returns-in_err-right
infix_from-returns-in_err-right t c =
    let is : texts c.args.words.now ≡ c.in-Some.word.now.now ∷ texts c.in-Some.rest.now = search rules in
    rw (infix_more c.args.steps (c.args.steps - 1) (meanings c.args.scope) c.args.least c.args.most (expr_of c.args.left) (texts c.args.words.now) c.in-Some.word.now.now (texts c.in-Some.rest.now) (omega arith) is) (search rules)
