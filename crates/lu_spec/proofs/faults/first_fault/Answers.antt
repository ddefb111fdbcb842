use Rattle.std.proofs.Common.{refl}
use Rattle.lu_spec.proofs.faults.first_fault.Goals as goal

pub returns : goal.returns
returns c = (λ same. let yes_it_is = c.is_word.ensures.1 same in let no_it_is_not = c.if-is_word.false in absurd cc, refl)
