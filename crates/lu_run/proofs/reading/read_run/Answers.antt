use Rattle.lu_text.proofs.Reading.{first, fault_given}
use Rattle.lu_run.specs.RunText.{run_grammar, said_by}
use Rattle.lu_run.proofs.Saying.{fault_said}
use Rattle.lu_run.proofs.reading.read_run.Goals as goal

pub returns-clause-first : goal.returns-clause-first
returns-clause-first c = λ kind n e. first (run_grammar c.args.component.now) c.args.text.now kind n (fault_given (said_by c.run_in.result) _ kind n (fault_said c.run_in.result kind n e) c.run_in.ensures.exact)
