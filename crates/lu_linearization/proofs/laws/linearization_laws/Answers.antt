use Rattle.lu_linearization.proofs.Ended.{complete_is_witness, stuck_ends, stuck_is_witness}
use Rattle.lu_linearization.proofs.Standing.{precedence_goes_on}
use Rattle.lu_linearization.proofs.Goes.{call_goes_on, put_goes_on, rest_is_pending, return_goes_on}
use Rattle.lu_linearization.proofs.Sequential.{well_formed_is_sequential}
use Rattle.lu_linearization.proofs.laws.linearization_laws.Goals as goal

pub returns-clause-returns : goal.returns-clause-returns
returns-clause-returns g _ = return_goes_on g.Z.SerialSet.has

pub returns-clause-calls : goal.returns-clause-calls
returns-clause-calls g _ = call_goes_on g.Z.SerialSet.has

pub returns-clause-append : goal.returns-clause-append
returns-clause-append g _ = put_goes_on g.Z.SerialSet.has

pub returns-clause-rest : goal.returns-clause-rest
returns-clause-rest g _ = rest_is_pending g.Z.SerialSet.has

pub returns-clause-complete : goal.returns-clause-complete
returns-clause-complete g _ = complete_is_witness g.Z.SerialSet.has

pub returns-clause-stuck : goal.returns-clause-stuck
returns-clause-stuck g _ = stuck_is_witness g.Z.SerialSet.has

pub returns-clause-stuck_end : goal.returns-clause-stuck_end
returns-clause-stuck_end g _ = stuck_ends

pub returns-clause-bounded : goal.returns-clause-bounded
returns-clause-bounded g _ = well_formed_is_sequential

pub returns-clause-precedence : goal.returns-clause-precedence
returns-clause-precedence g _ = precedence_goes_on
