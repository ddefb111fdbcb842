use Rattle.lu_lint.proofs.Warned.{held_more}
use Rattle.lu_lint.proofs.component.with_held.Goals as goal

pub returns-in_ok-append-in-Sound : goal.returns-in_ok-append-in-Sound
returns-in_ok-append-in-Sound c = held_more c.in-Sound.component c.args.component.now c.args.warnings.items _ _ _ c.in-Sound.is c.in_ok-held-in-Sound.ensures c.in_ok-append-in-Sound.ensures.items
