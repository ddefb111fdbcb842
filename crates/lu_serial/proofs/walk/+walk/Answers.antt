use Rattle.std.proofs.Common.{rules, arith, ◌≡◌, ◌<◌, ◌≤◌, ◌++◌, [], ◌∷◌, vec_len, refl, ◌∙◌, ap, subst}
use Rattle.std.specs.Option.{option_map}
use Rattle.lu_test.specs.declared.schedule.Move.{Move}
use Rattle.lu_machine.specs.Steps.{Step, picks_of}
use Rattle.lu_machine.specs.Undoes.{restored}
use Rattle.lu_machine.proofs.Orders.{popped}
use Rattle.lu_serial.specs.declared.walk.EarlyEnd.TheVariants.{Stopped}
use Rattle.lu_serial.specs.Walks.{HasSerialMove, IsFull, IsSerialMove, moves_left, open_after}
use Rattle.lu_serial.proofs.CallsLeft.{falls}
use Rattle.lu_serial.proofs.Shown.{cut_walk, end_walk, ended_serial, kid_ready, kids_all, kids_more, kids_none, kids_turn, room_of, serial_of}
use Rattle.lu_serial.proofs.walk.+walk.Goals as goal

pub end-requires-clause-serial : goal.end-requires-clause-serial
end-requires-clause-serial g t c = (let at = c.requires.2.0 in ended_serial c.args.state.now.node.entries.items at.history c.args.current at.are)

pub returns-then-not-goes_on-clause-walks : goal.returns-then-not-goes_on-clause-walks
returns-then-not-goes_on-clause-walks g t c = λ start first ready.
    (let none : HasSerialMove c.args.state.now.node.machine → ⊥ = search rules in
    let is : c.map.result ≡ option_map Stopped c.in_ok-stop.stop = search rules in
    let walks = end_walk start c.args.bound c.args.state.now.path.items c.args.state.now.node.machine c.args.state.now.node.entries.items c.args.current ready.0 (λ m f. none (m, f)) first (g.H.HistoryVisitor.was_shown c.args.state.now.visitor) (g.H.HistoryVisitor.was_shown c.end.new.self.visitor) (g.H.HistoryVisitor.stops c.end.new.self.visitor) c.in_ok-stop.stop c.in_ok-stop.ensures.takes ready.1 in
    rw (is, c.end.ensures.path) walks)

pub returns-then-is_full-clause-walks : goal.returns-then-is_full-clause-walks
returns-then-is_full-clause-walks g t c = λ start first ready.
    (let some : HasSerialMove c.args.state.now.node.machine = search rules in
    let full : IsFull c.args.current c.args.bound = search rules in
    (ready.1, cut_walk start c.args.bound c.args.state.now.path.items c.args.state.now.node.machine c.args.state.now.node.entries.items c.args.current ready.0 some.0 some.1 full))

pub loop-thread-init : goal.loop-thread-init
loop-thread-init g t c =
    let some : HasSerialMove c.args.state.now.node.machine = search rules in
    let room : IsFull c.args.current c.args.bound → ⊥ = search rules in
    record {
      same = refl;
      machine = refl;
      entries = refl;
      shows = λ start first ready. kids_none start c.args.bound c.args.state.now.path.items c.args.state.now.node.machine c.args.state.now.node.entries.items c.args.current ready.0 c.turns-first.result.0 c.turns-first.result.1 c.turns-first.ensures some room (g.H.HistoryVisitor.was_shown c.args.state.now.visitor first) ready.1;
    }

pub walk-requires : goal.walk-requires
walk-requires g t c κs w =
    let next : Move = record { thread = c.loop-thread.thread; pick = c.loop-pick.pick } in
    let serial : IsSerialMove c.args.state.now.node.machine next = serial_of c.args.state.now.node.machine c.turns-first.result.0 c.turns-first.result.1 c.turns-first.ensures c.loop-thread.thread c.loop-pick.pick (omega arith) (omega arith) c.loop-thread.state.node.machine c.loop-thread.invariant.machine (rw (← c.picks-pick-end.ensures) (c.loop-pick-test.true)) in
    let room : IsFull c.args.current c.args.bound → ⊥ = search rules in
    let pushed : c.push.new.self.items ≡ c.args.state.now.path.items ++ next ∷ [] = rw (← c.loop-pick.invariant.same) c.in_ok-push.ensures.items in
    let step : Step c.args.state.now.node.machine next c.enter.new.self.machine c.in_ok-undo.undo.event = subst (λ x. Step x next c.enter.new.self.machine c.in_ok-undo.undo.event) c.loop-pick.invariant.machine c.in_ok-undo.ensures.step in
    let below : c.open_after-below.result ≡ open_after c.args.current c.loop-thread.thread c.in_ok-undo.undo.event = search rules in
    let (start, first, ready) = c.requires in
    let at = ready.0 in
    let lt : moves_left c.args.bound c.enter.new.self.machine c.open_after-below.result < moves_left c.args.bound c.args.state.now.node.machine c.args.current = rw below (falls c.args.bound c.args.state.now.node.machine next c.enter.new.self.machine c.in_ok-undo.undo.event c.args.current step at.within.calls serial.1 at.opens room (room_of start c.args.state.now.path.items c.args.state.now.node.machine c.args.bound c.args.current at.taken)) in
    (search (rules, lt), (w.0, (w.1, (start, first, kid_ready start c.args.bound c.args.state.now.path.items c.args.state.now.node.machine c.args.state.now.node.entries.items c.args.current at next serial room c.loop-pick.state.node.machine c.loop-pick.invariant.machine c.loop-pick.state.node.entries.items c.loop-pick.invariant.entries c.enter.new.self.machine c.in_ok-undo.undo.event c.in_ok-undo.ensures.step c.push.new.self.items pushed c.enter.new.self.entries.items c.in_ok-undo.ensures.entries c.open_after-below.result below (g.H.HistoryVisitor.was_shown c.loop-pick.state.visitor first) (c.loop-pick.invariant.shows start first ready)))))

pub returns-in-Some-clause-walks : goal.returns-in-Some-clause-walks
returns-in-Some-clause-walks g t c = λ start first ready.
    (let next : Move = record { thread = c.loop-thread.thread; pick = c.loop-pick.pick } in
    let serial : IsSerialMove c.args.state.now.node.machine next = serial_of c.args.state.now.node.machine c.turns-first.result.0 c.turns-first.result.1 c.turns-first.ensures c.loop-thread.thread c.loop-pick.pick (omega arith) (omega arith) c.loop-thread.state.node.machine c.loop-thread.invariant.machine (rw (← c.picks-pick-end.ensures) (c.loop-pick-test.true)) in
    let room : IsFull c.args.current c.args.bound → ⊥ = search rules in
    let pushed : c.push.new.self.items ≡ c.args.state.now.path.items ++ next ∷ [] = rw (← c.loop-pick.invariant.same) c.in_ok-push.ensures.items in
    let below : c.open_after-below.result ≡ open_after c.args.current c.loop-thread.thread c.in_ok-undo.undo.event = search rules in
    let walks = c.in_ok-halt.ensures.walks start first (kid_ready start c.args.bound c.args.state.now.path.items c.args.state.now.node.machine c.args.state.now.node.entries.items c.args.current ready.0 next serial room c.loop-pick.state.node.machine c.loop-pick.invariant.machine c.loop-pick.state.node.entries.items c.loop-pick.invariant.entries c.enter.new.self.machine c.in_ok-undo.undo.event c.in_ok-undo.ensures.step c.push.new.self.items pushed c.enter.new.self.entries.items c.in_ok-undo.ensures.entries c.open_after-below.result below (g.H.HistoryVisitor.was_shown c.loop-pick.state.visitor first) (c.loop-pick.invariant.shows start first ready)) in
    rw c.in-Some.is at walks)

pub loop-pick-preserved : goal.loop-pick-preserved
loop-pick-preserved g t c =
    let next : Move = record { thread = c.loop-thread.thread; pick = c.loop-pick.pick } in
    let serial : IsSerialMove c.args.state.now.node.machine next = serial_of c.args.state.now.node.machine c.turns-first.result.0 c.turns-first.result.1 c.turns-first.ensures c.loop-thread.thread c.loop-pick.pick (omega arith) (omega arith) c.loop-thread.state.node.machine c.loop-thread.invariant.machine (rw (← c.picks-pick-end.ensures) (c.loop-pick-test.true)) in
    let room : IsFull c.args.current c.args.bound → ⊥ = search rules in
    let pushed : c.push.new.self.items ≡ c.args.state.now.path.items ++ next ∷ [] = rw (← c.loop-pick.invariant.same) c.in_ok-push.ensures.items in
    let below : c.open_after-below.result ≡ open_after c.args.current c.loop-thread.thread c.in_ok-undo.undo.event = search rules in
    let home = rw c.in_default.is at c.in_ok-halt.ensures.home in
    let same : c.pop.new.self.items ≡ c.args.state.now.path.items = c.pop.ensures.rest ∙ popped c.args.state.now.path.items c.walk.new.state.path.items next (vec_len c.walk.new.state.path) (home.0 ∙ pushed) (c.walk.new.state.path.ok.0) in
    record {
      same = same;
      machine = c.leave.ensures.machine ∙ (ap (restored c.in_ok-undo.undo) home.1 ∙ (c.in_ok-undo.ensures.back ∙ c.loop-pick.invariant.machine));
      entries = c.leave.ensures.entries c.loop-pick.state.node.entries.items (home.2 ∙ c.in_ok-undo.ensures.entries) ∙ c.loop-pick.invariant.entries;
      shows = λ start first ready.
          (let walks = c.in_ok-halt.ensures.walks start first (kid_ready start c.args.bound c.args.state.now.path.items c.args.state.now.node.machine c.args.state.now.node.entries.items c.args.current ready.0 next serial room c.loop-pick.state.node.machine c.loop-pick.invariant.machine c.loop-pick.state.node.entries.items c.loop-pick.invariant.entries c.enter.new.self.machine c.in_ok-undo.undo.event c.in_ok-undo.ensures.step c.push.new.self.items pushed c.enter.new.self.entries.items c.in_ok-undo.ensures.entries c.open_after-below.result below (g.H.HistoryVisitor.was_shown c.loop-pick.state.visitor first) (c.loop-pick.invariant.shows start first ready)) in
          let shows = rw (c.in_default.is, pushed) at walks in
          kids_more start c.args.bound c.args.state.now.path.items c.args.state.now.node.machine c.args.state.now.node.entries.items c.args.current ready.0 c.loop-thread.thread c.loop-pick.pick (g.H.HistoryVisitor.was_shown c.walk.new.state.visitor first) shows);
    }

pub loop-thread-preserved : goal.loop-thread-preserved
loop-thread-preserved g t c =
    let picks : c.picks-pick-end.result ≡ picks_of c.args.state.now.node.machine c.loop-thread.thread = c.picks-pick-end.ensures ∙ ap (λ x. picks_of x c.loop-thread.thread) c.loop-thread.invariant.machine in
    let all : picks_of c.args.state.now.node.machine c.loop-thread.thread ≤ c.loop-pick.pick = omega arith in
    record {
      same = c.loop-pick.invariant.same;
      machine = c.loop-pick.invariant.machine;
      entries = c.loop-pick.invariant.entries;
      shows = λ start first ready. kids_turn start c.args.bound c.args.state.now.path.items c.args.state.now.node.machine c.args.state.now.node.entries.items c.args.current ready.0 c.loop-thread.thread c.loop-pick.pick all (g.H.HistoryVisitor.was_shown c.loop-pick.state.visitor first) (c.loop-pick.invariant.shows start first ready);
    }

pub returns-clause-walks : goal.returns-clause-walks
returns-clause-walks g t c = λ start first ready.
    (let past : c.turns-first.result.1 ≤ c.loop-thread.thread = omega arith in
    kids_all start c.args.bound c.args.state.now.path.items c.args.state.now.node.machine c.args.state.now.node.entries.items c.args.current ready.0 c.turns-first.result.0 c.turns-first.result.1 c.loop-thread.thread c.turns-first.ensures past (g.H.HistoryVisitor.was_shown c.loop-thread.state.visitor first) (c.loop-thread.invariant.shows start first ready))
