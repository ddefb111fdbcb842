use Rattle.std.proofs.Common.{◌≡◌, ap, ◌∙◌, subst, arith, get_or}
use Rattle.lu_history.specs.Histories.{calls, IsWellFormed}
use Rattle.lu_history.proofs.Events.{precedes_tells, precedes_none}
use Rattle.lu_history.proofs.history.History.precedes.Goals as goal

pub returns-then-b-self : goal.returns-then-b-self
returns-then-b-self c =
    let is : IsWellFormed c.args.self.now = subst IsWellFormed c.self.view_is c.self.invariant.well_formed in
    let number : get_or c.self.inside.called c.from.result 0 ≡ calls c.args.b.t c.args.self.now = ap (λ x. get_or c.self.inside.called x 0) c.from.ensures ∙ c.self.invariant.called_are c.args.b.t ∙ ap (calls c.args.b.t) c.self.view_is in
    precedes_tells c.args.self.now is c.args.a c.args.b c.before-then-b-self.result.now _ c.before-then-b-self.ensures (omega (arith, number)) (ap (λ x. get_or c.before-then-b-self.result.now x 0) c.from-then-b-self.ensures)

pub returns-else-b-self : goal.returns-else-b-self
returns-else-b-self c =
    let is : IsWellFormed c.args.self.now = subst IsWellFormed c.self.view_is c.self.invariant.well_formed in
    let number : get_or c.self.inside.called c.from.result 0 ≡ calls c.args.b.t c.args.self.now = ap (λ x. get_or c.self.inside.called x 0) c.from.ensures ∙ c.self.invariant.called_are c.args.b.t ∙ ap (calls c.args.b.t) c.self.view_is in
    precedes_none c.args.self.now is c.args.a c.args.b _ number (omega arith)
