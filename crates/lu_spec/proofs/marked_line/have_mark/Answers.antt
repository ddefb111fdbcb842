use Rattle.std.proofs.Common.{◌∙◌, refl, rules, sym}
use Rattle.lu_spec.specs.FreeSpecs.{ends_marked}
use Rattle.lu_spec.proofs.MarkedWords.{found, none_found, not_here}
use Rattle.lu_spec.proofs.marked_line.have_mark.Goals as goal

pub loop-word-init : goal.loop-word-init
loop-word-init c = refl

pub returns-then-ends_marked : goal.returns-then-ends_marked
returns-then-ends_marked c = sym (found ends_marked c.args.words.now c.loop-word.word-index _ c.loop-word-test.true (sym c.ends_marked.ensures ∙ c.if-ends_marked.true))

pub loop-word-preserved : goal.loop-word-preserved
loop-word-preserved c = not_here ends_marked c.args.words.now c.loop-word.word-index _ c.loop-word-test.true c.loop-word.invariant (sym c.ends_marked.ensures ∙ c.if-ends_marked.false)

pub returns : goal.returns
returns c = sym (none_found ends_marked c.args.words.now c.loop-word.word-index (search rules) c.loop-word.invariant)
