use Rattle.std.proofs.Common.{◌∙◌, ap, subst}
use Rattle.lu_machine.specs.States.{State}
use Rattle.lu_always.specs.declared.judging.Judged.TheVariants.{Bad, BadAfterCall, Good}
use Rattle.lu_always.specs.Exits.{AreExits}
use Rattle.lu_always.specs.Nodes.{Node}
use Rattle.lu_always.specs.Searching.{Grows, node_at, node_of}
use Rattle.lu_always.specs.StepSearch.{HasSteps, IsJudged, IsJudgedAt}
use Rattle.lu_always.proofs.Keeping.{SameBase, adds_here, base_grows, copied_monitor, here_node, stands_base}
use Rattle.lu_always.proofs.steps.visit.Goals as goal

pub stand_at-requires-clause-can : goal.stand_at-requires-clause-can
stand_at-requires-clause-can c = λ stored at. c.requires.stand stored (c.args.index, at)

pub returns-in-Good-clause-grows : goal.returns-in-Good-clause-grows
returns-in-Good-clause-grows c =
    let same : SameBase c.args.machine.now c.stand_at.new.machine = stands_base c.args.machine.now c.stand_at.new.machine c.args.all.now c.args.index c.stand_at.ensures in
    base_grows c.args.machine.now c.stand_at.new.machine c.args.all.now c.store_all_steps.new.all same
    (subst (λ (x : State). Grows x c.args.all.now c.store_all_steps.new.all) c.in_ok-judged.ensures.home c.in_ok-exits-in-Good.ensures.grows)

pub returns-in-Good-clause-visit : goal.returns-in-Good-clause-visit
returns-in-Good-clause-visit c =
    let judged : IsJudgedAt c.args.given c.stand_at.new.machine c.in_ok-monitor.monitor Good = subst (IsJudgedAt c.args.given c.stand_at.new.machine c.in_ok-monitor.monitor) c.in-Good.is c.in_ok-judged.ensures.judged in (
      (λ kept at.
          let same = here_node c.args.machine.now c.stand_at.new.machine c.args.all.now c.args.index c.in_ok-monitor.monitor c.stand_at.ensures (copied_monitor c.args.all.now c.args.index c.monitor.result.now c.in_ok-monitor.monitor c.in_ok-monitor.ensures c.monitor.ensures) kept at in
          subst (λ (x : Node). IsJudged c.args.given.rounds c.args.given.table.now x Good) same judged),
      (λ kept at.
          let same = here_node c.args.machine.now c.stand_at.new.machine c.args.all.now c.args.index c.in_ok-monitor.monitor c.stand_at.ensures (copied_monitor c.args.all.now c.args.index c.monitor.result.now c.in_ok-monitor.monitor c.in_ok-monitor.ensures c.monitor.ensures) kept at in
          let home = c.in_ok-judged.ensures.home in
          subst (HasSteps c.args.given.dead.now c.args.given.rounds c.args.given.table.now c.store_all_steps.new.all) (ap (λ (x : State). node_at x c.in_ok-monitor.monitor) home ∙ same) c.in_ok-exits-in-Good.ensures.steps),
      (λ kept at.
          let same = here_node c.args.machine.now c.stand_at.new.machine c.args.all.now c.args.index c.in_ok-monitor.monitor c.stand_at.ensures (copied_monitor c.args.all.now c.args.index c.monitor.result.now c.in_ok-monitor.monitor c.in_ok-monitor.ensures c.monitor.ensures) kept at in
          let home = c.in_ok-judged.ensures.home in
          subst (λ (x : Node). AreExits c.args.given.dead.now c.args.given.rounds c.store_all_steps.new.all c.in_ok-exits-in-Good.exits.items x.state) (ap (λ (x : State). node_at x c.in_ok-monitor.monitor) home ∙ same) c.in_ok-exits-in-Good.ensures.exits),
    )

pub returns-in-Good-clause-new : goal.returns-in-Good-clause-new
returns-in-Good-clause-new c = λ kept at.
    let same = here_node c.args.machine.now c.stand_at.new.machine c.args.all.now c.args.index c.in_ok-monitor.monitor c.stand_at.ensures (copied_monitor c.args.all.now c.args.index c.monitor.result.now c.in_ok-monitor.monitor c.in_ok-monitor.ensures c.monitor.ensures) kept at in
    let home = c.in_ok-judged.ensures.home in
    let base : SameBase c.args.machine.now c.judge.new.machine = (let there = stands_base c.args.machine.now c.stand_at.new.machine c.args.all.now c.args.index c.stand_at.ensures in record { component = ap (λ (x : State). x.component) home ∙ there.component; matrix_is = ap (λ (x : State). x.matrix) home ∙ there.matrix_is }) in
    adds_here c.args.given.dead.now c.args.given.rounds c.args.given.table.now c.args.machine.now c.judge.new.machine c.args.index (node_at c.judge.new.machine c.in_ok-monitor.monitor) (node_of c.args.machine.now kept) c.args.all.now c.store_all_steps.new.all base
    (ap (λ (x : State). node_at x c.in_ok-monitor.monitor) home ∙ same) c.in_ok-exits-in-Good.ensures.new

pub returns-in-Bad-clause-visit : goal.returns-in-Bad-clause-visit
returns-in-Bad-clause-visit c = λ kept at.
    let judged : IsJudgedAt c.args.given c.stand_at.new.machine c.in_ok-monitor.monitor Bad = subst (IsJudgedAt c.args.given c.stand_at.new.machine c.in_ok-monitor.monitor) c.in-Bad.is c.in_ok-judged.ensures.judged in
    let same = here_node c.args.machine.now c.stand_at.new.machine c.args.all.now c.args.index c.in_ok-monitor.monitor c.stand_at.ensures (copied_monitor c.args.all.now c.args.index c.monitor.result.now c.in_ok-monitor.monitor c.in_ok-monitor.ensures c.monitor.ensures) kept at in
    subst (λ (x : Node). IsJudged c.args.given.rounds c.args.given.table.now x Bad) same judged

pub returns-clause-visit : goal.returns-clause-visit
returns-clause-visit c = λ kept at.
    let it = BadAfterCall c.in-BadAfterCall.call in
    let judged : IsJudgedAt c.args.given c.stand_at.new.machine c.in_ok-monitor.monitor it = subst (IsJudgedAt c.args.given c.stand_at.new.machine c.in_ok-monitor.monitor) c.in-BadAfterCall.is c.in_ok-judged.ensures.judged in
    let same = here_node c.args.machine.now c.stand_at.new.machine c.args.all.now c.args.index c.in_ok-monitor.monitor c.stand_at.ensures (copied_monitor c.args.all.now c.args.index c.monitor.result.now c.in_ok-monitor.monitor c.in_ok-monitor.ensures c.monitor.ensures) kept at in
    subst (λ (x : Node). IsJudged c.args.given.rounds c.args.given.table.now x it) same judged

pub store_all_steps-requires-clause-at : goal.store_all_steps-requires-clause-at
store_all_steps-requires-clause-at c =
    copied_monitor c.args.all.now c.args.index c.monitor.result.now c.in_ok-monitor.monitor c.in_ok-monitor.ensures c.monitor.ensures
