use Rattle.std.proofs.Common.{◌<◌, length, rules}
use Rattle.std.proofs.lemmas.Iterator.{cases_from_any, YieldsList-from_slice}
use Rattle.std.proofs.lemmas.Bool.{false≢true}
use Rattle.lu_board.specs.declared.view.View.{View}
use Rattle.lu_board.proofs.Core.{given_in-any}
use Rattle.lu_board.proofs.board_core.Core.given_up.Goals as goal

pub returns : goal.returns
returns c =
    let views = c.args.self.now.views in
    given_in-any _ views (cases_from_any _ _ _ (λ (v : View). 0 < length v.given) (λ (v : View). 0 < length v.given → ⊥) c.any.ensures.ran (YieldsList-from_slice views cc) (λ x q k. search rules) (λ x q k. search (rules, false≢true)))
