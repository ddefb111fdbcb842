use Rattle.std.proofs.Common.{◌≡◌, sym, ◌∙◌, subst}
use Rattle.lu_machine.specs.Runs.{Leads}
use Rattle.lu_machine.specs.States.{State}
use Rattle.lu_machine.specs.Tests.{IsStartOf}
use Rattle.lu_machine.proofs.Starting.{start_same}
use Rattle.lu_history.proofs.Following.{start_agrees}
use Rattle.lu_horizon.proofs.OwnLaws.{leads_component}
use Rattle.lu_tree.specs.Searchers.{IsStateAt}
use Rattle.lu_tree.proofs.Returning.{can_return, leads_matrix, returned}
use Rattle.lu_tree.proofs.searcher.Searcher.search.Goals as goal

pub follow-requires-clause-agree : goal.follow-requires-clause-agree
follow-requires-clause-agree g c =
    let test = c.args.self.now.space.test in
    start_agrees test.component.now test.matrix.now c.args.self.now.node.machine c.requires.ready.starts

pub search_below-found-requires-clause-leads : goal.search_below-found-requires-clause-leads
search_below-found-requires-clause-leads g c = λ s is.
    (let test = c.args.self.now.space.test in
    subst (λ (x : State). Leads x c.moves-moves.result.now c.follow.new.node.machine c.follow.new.node.trail.history)
    (start_same test.component.now test.matrix.now c.args.self.now.node.machine s c.requires.ready.starts is) c.follow.ensures.leads)

pub stand_at-requires : goal.stand_at-requires
stand_at-requires g c =
    let s = c.args.self.now.node.machine in
    let mid = c.follow.new.node.machine in
    let h = c.follow.new.node.trail.history in
    let leads = c.follow.ensures.leads in
    let run = c.search_below-found.ensures.run in
    can_return s c.search_below-found.new.node.machine c.args.self.now.start c.requires.ready.kept
    (run.component ∙ leads_component s c.moves-moves.result.now mid h leads) (run.matrix ∙ leads_matrix s c.moves-moves.result.now mid h leads)

pub returns-clause-ready : goal.returns-clause-ready
returns-clause-ready g c =
    let s = c.args.self.now.node.machine in
    let mid = c.follow.new.node.machine in
    let h = c.follow.new.node.trail.history in
    let leads = c.follow.ensures.leads in
    let run = c.search_below-found.ensures.run in
    let home : c.stand_at.new.self ≡ s = c.stand_at.ensures ∙ returned s c.search_below-found.new.node.machine c.args.self.now.start c.requires.ready.kept
    (run.component ∙ leads_component s c.moves-moves.result.now mid h leads) (run.matrix ∙ leads_matrix s c.moves-moves.result.now mid h leads) in
    record {
      limits = c.requires.ready.limits;
      tabled = c.requires.ready.tabled;
      starts = subst (λ (x : State). IsStartOf c.args.self.now.space.test x) (sym home) c.requires.ready.starts;
      silent = c.clear.ensures.history;
      kept = subst (λ (x : State). IsStateAt x c.args.self.now.start) (sym home) c.requires.ready.kept;
      ready = c.renew.ensures;
    }
