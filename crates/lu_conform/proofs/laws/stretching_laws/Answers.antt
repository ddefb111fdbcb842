use Rattle.lu_conform.proofs.LessPrecedence.{less_is_shown, less_is_stretched}
use Rattle.lu_conform.proofs.Stretched.{stretched_is_played}
use Rattle.lu_conform.proofs.laws.stretching_laws.Goals as goal

pub returns-clause-played : goal.returns-clause-played
returns-clause-played _ = stretched_is_played

pub returns-clause-less : goal.returns-clause-less
returns-clause-less _ = less_is_stretched

pub returns-clause-shown : goal.returns-clause-shown
returns-clause-shown _ = less_is_shown
