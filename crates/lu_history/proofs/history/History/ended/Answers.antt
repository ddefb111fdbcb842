use Rattle.std.proofs.Common.{◌≡◌, ap, sym, ◌∙◌, subst, arith, get_or, length}
use Rattle.lu_history.specs.Histories.{calls, outcomes, IsWellFormed}
use Rattle.lu_history.proofs.Events.{in_turn}
use Rattle.lu_history.proofs.PartEntries.{part_last, part_past}
use Rattle.lu_history.proofs.history.History.ended.Goals as goal

pub returns-then-a-self-clause-few : goal.returns-then-a-self-clause-few
returns-then-a-self-clause-few c some =
    let turn = in_turn c.self.inside.events.items c.self.invariant.well_formed c.args.a.t in
    let number : get_or c.self.inside.returned c.from.result 0 ≡ length (outcomes c.args.a.t c.self.inside.events.items) = ap (λ x. get_or c.self.inside.returned x 0) c.from.ensures ∙ c.self.invariant.returned_are c.args.a.t in
    omega (arith, turn.returned, turn.few, number)

pub returns-then-a-self-2-clause-few : goal.returns-then-a-self-2-clause-few
returns-then-a-self-2-clause-few c some =
    let turn = in_turn c.self.inside.events.items c.self.invariant.well_formed c.args.a.t in
    let number : get_or c.self.inside.called c.from-else-a-self.result 0 ≡ calls c.args.a.t c.self.inside.events.items = ap (λ x. get_or c.self.inside.called x 0) c.from-else-a-self.ensures ∙ c.self.invariant.called_are c.args.a.t in
    omega (arith, turn.few, number)

pub returns-then-a-self-2-clause-ended : goal.returns-then-a-self-2-clause-ended
returns-then-a-self-2-clause-ended c =
    let is : IsWellFormed c.args.self.now = subst IsWellFormed c.self.view_is c.self.invariant.well_formed in
    let returned : get_or c.self.inside.returned c.from.result 0 ≡ length (outcomes c.args.a.t c.args.self.now) = ap (λ x. get_or c.self.inside.returned x 0) c.from.ensures ∙ c.self.invariant.returned_are c.args.a.t ∙ ap (λ h. length (outcomes c.args.a.t h)) c.self.view_is in
    let called : get_or c.self.inside.called c.from-else-a-self.result 0 ≡ calls c.args.a.t c.args.self.now = ap (λ x. get_or c.self.inside.called x 0) c.from-else-a-self.ensures ∙ c.self.invariant.called_are c.args.a.t ∙ ap (calls c.args.a.t) c.self.view_is in
    sym (part_last c.args.self.now is c.args.a.t c.args.a.k (omega arith) (omega arith))

pub returns-else-a-self-2-clause-ended : goal.returns-else-a-self-2-clause-ended
returns-else-a-self-2-clause-ended c =
    let is : IsWellFormed c.args.self.now = subst IsWellFormed c.self.view_is c.self.invariant.well_formed in
    let called : get_or c.self.inside.called c.from-else-a-self.result 0 ≡ calls c.args.a.t c.args.self.now = ap (λ x. get_or c.self.inside.called x 0) c.from-else-a-self.ensures ∙ c.self.invariant.called_are c.args.a.t ∙ ap (calls c.args.a.t) c.self.view_is in
    sym (part_past c.args.self.now is c.args.a.t c.args.a.k (omega arith))
