use Rattle.std.proofs.Common.{sym, subst, ap, ◌∙◌}
use Rattle.lu_run.specs.Reading.{calls_of_keys}
use Rattle.lu_run.specs.Runs.{AreDistinct}
use Rattle.lu_run.specs.Tables.{AreCallsOf}
use Rattle.lu_run.proofs.Saying.{distinct_calls}
use Rattle.lu_run.proofs.reading.finish.Goals as goal

pub returns-clause-calls : goal.returns-clause-calls
returns-clause-calls c = λ component sound.
    let is = rw c.in-Some.is at sound in
    let same = c.in_ok-calls.ensures ∙ ap calls_of_keys c.as_slice.ensures.keys in
    subst (AreCallsOf component) (sym same) is.calls_of

pub returns-clause-distinct : goal.returns-clause-distinct
returns-clause-distinct c =
    let same = c.in_ok-calls.ensures ∙ ap calls_of_keys c.as_slice.ensures.keys in
    subst AreDistinct (sym same) (distinct_calls c.in-Some.draft.keys.keys c.as_slice.ensures.unique)
