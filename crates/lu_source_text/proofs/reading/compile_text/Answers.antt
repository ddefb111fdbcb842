use Rattle.std.proofs.Common.{rules}
use Rattle.lu_text.proofs.Reading.{fault_given}
use Rattle.lu_source_text.specs.Readers.{program_in}
use Rattle.lu_source_text.proofs.Drafts.{source_sound}
use Rattle.lu_source_text.proofs.First.{first_compiled}
use Rattle.lu_source_text.proofs.reading.compile_text.Goals as goal

pub compile-requires : goal.compile-requires
compile-requires c = rw c.deref.ensures.value (source_sound c.args.text.now (program_in c.in_ok-source.source) c.in_ok-source.ensures)

pub returns-in_err-source-clause-first : goal.returns-in_err-source-clause-first
returns-in_err-source-clause-first c = λ kind n e. first_compiled c.args.text.now kind n (fault_given c.from_residual.result _ kind n e (search rules))
