use Rattle.lu_always.proofs.Decided.{always_linearizes, always_serves, fails_never, prefixes_agree}
use Rattle.lu_always.proofs.Refuting.{bad_serves_none}
use Rattle.lu_always.proofs.laws.always_laws.Goals as goal

pub returns : goal.returns
returns _ = record {
  linearizes = always_linearizes;
  serves = always_serves;
  agree = prefixes_agree;
  never = fails_never;
  none = bad_serves_none;
}
