use Rattle.std.proofs.Common.{◌≡◌, ◌+◌, ◌≤◌, get_or, length, ap, ◌∙◌, arith, rules}
use Rattle.lu_history.specs.Histories.{outcomes}
use Rattle.lu_history.proofs.Events.{in_turn}
use Rattle.lu_history.proofs.history.History.outcomes.Goals as goal

pub slice_bounds-result-end : goal.slice_bounds-result-end
slice_bounds-result-end c =
    let turn = in_turn c.self.inside.events.items c.self.invariant.well_formed c.args.t in
    let count : c.from-2.result ≡ length (outcomes c.args.t c.self.inside.events.items) = c.from-2.ensures ∙ ap (λ x. get_or c.self.inside.returned x 0) c.from.ensures ∙ c.self.invariant.returned_are c.args.t in
    let within : c.row-first.result + c.from-2.result ≤ 64 = omega (arith, turn.returned, turn.few, c.row-first.ensures, c.requires) in
    search (rules, within)
