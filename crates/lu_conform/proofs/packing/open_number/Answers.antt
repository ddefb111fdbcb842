use Rattle.lu_conform.proofs.Unpacking.{open_back}
use Rattle.lu_conform.proofs.packing.open_number.Goals as goal

pub returns-clause-back : goal.returns-clause-back
returns-clause-back c = open_back c.args.frame c.byte_number.ensures.small c.byte_number-2.ensures.small
