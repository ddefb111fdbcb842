use Rattle.std.proofs.Common.{[], ◌∙◌, sym, subst, Some, None, ◌≡◌}
use Rattle.lu_board.specs.Core.{CoreState, CoreInvariant, AllDone, given_in, IsLeastBad}
use Rattle.lu_board.proofs.Core.{is_one, bounds, none_bad}
use Rattle.lu_board.proofs.board_core.Core.best.Goals as goal

pub returns-then-state-clause-least : goal.returns-then-state-clause-least
returns-then-state-clause-least c =
    let s = c.state.inside in
    let m : CoreState = record { pieces = s.pieces; bad = s.bad.items; next = s.next; best = s.best; views = s.workers.items } in
    let kept = subst CoreInvariant (sym c.state.view_is) c.self.invariant in
    subst (λ (x : CoreState). AllDone x.views → given_in x.views ≡ [] → IsLeastBad x.bad (Some s.best)) (c.state.view_is ∙ c.self.view_is)
    (λ done none_given. (is_one m kept c.if-state.true, bounds m kept done none_given))

pub returns-else-state-clause-least : goal.returns-else-state-clause-least
returns-else-state-clause-least c =
    let s = c.state.inside in
    let m : CoreState = record { pieces = s.pieces; bad = s.bad.items; next = s.next; best = s.best; views = s.workers.items } in
    let kept = subst CoreInvariant (sym c.state.view_is) c.self.invariant in
    subst (λ (x : CoreState). AllDone x.views → given_in x.views ≡ [] → IsLeastBad x.bad None) (c.state.view_is ∙ c.self.view_is)
    (λ done none_given. none_bad m kept done none_given c.if-state.false)
