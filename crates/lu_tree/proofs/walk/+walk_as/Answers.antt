use Rattle.std.proofs.Common.{rules, arith, ◌≡◌, ◌<◌, ◌≤◌, ◌+◌, ◌++◌, ◌-◌, [], ◌∷◌, true, false, length, vec_capacity, refl, inl, inr, sym, ◌∙◌, ap, subst}
use Rattle.lu_test.specs.declared.schedule.Move.{Move}
use Rattle.lu_machine.specs.Ends.{HasMove, HasNoMove, IsEnded}
use Rattle.lu_machine.specs.Runs.{with_event}
use Rattle.lu_machine.specs.States.{State}
use Rattle.lu_machine.specs.Steps.{IsFeasible, Step, picks_of}
use Rattle.lu_machine.specs.Undoes.{restored}
use Rattle.lu_machine.proofs.StepLaws.{feasible_step}
use Rattle.lu_witness.specs.Witnesses.{IsMember}
use Rattle.lu_tree.specs.declared.progress.WalkProgress.{WalkProgress}
use Rattle.lu_tree.specs.Known.{AreFrom, AreKnownAfter, IsHint, IsKnown, Moves, counts_of}
use Rattle.lu_tree.specs.Walks.{AreBelow, IsCountAtEnd, HaltsAtSchedule}
use Rattle.lu_tree.proofs.Added.{AreAdded, added_all, added_more, added_none, added_turn, end_below, end_halts, halts_more, halts_there}
use Rattle.lu_horizon.specs.Dead.{IsDeadTable}
use Rattle.lu_horizon.proofs.OwnLaws.{serves_next}
use Rattle.lu_machine.proofs.Keeping.{step_moved}
use Rattle.lu_tree.proofs.KnownLaws.{after_here, behind_more, after_same, hints_on, known_alone, known_after, known_below, known_with, none_after}
use Rattle.lu_tree.proofs.Leaving.{halted_above, ready_still, stays_home, walked_by}
use Rattle.lu_tree.proofs.Walking.{ended_all, ended_first, ended_picked, ended_turn}
use Rattle.lu_tree.proofs.walk.+walk_as.Goals as goal

pub loop-thread-init : goal.loop-thread-init
loop-thread-init g t c =
    let Set = IsMember (g.T.SerialTree.members c.args.node.now.trail.tree) in
    let s = c.args.node.now.machine in
    let h = c.args.node.now.trail.history in
    record {
      machine = (ap (λ n. n.machine) c.counted_below.ensures.same);
      history = (ap (λ n. n.trail.history) c.counted_below.ensures.same);
      tree = (ap (λ n. n.trail.tree) c.counted_below.ensures.same);
      cache = c.counted_below.ensures.cache;
      base = refl;
      running = c.requires.running;
      ready = c.requires.ready;
      ended = ended_first s;
      counted = subst (AreAdded Set s h c.args.visit.now.left (record { thread = 0; pick = 0 })) (sym c.alone-known.ensures.counts) (added_none Set s h c.args.visit.now.left);
      kids = none_after Set s h (c.args.visit.now.left - 1) c.alone-known.result c.alone-known.ensures.kids;
    }

pub loop-pick-preserved-in-Some-after_one_of : goal.loop-pick-preserved-in-Some-after_one_of
loop-pick-preserved-in-Some-after_one_of g t c =
    let Set = IsMember (g.T.SerialTree.members c.args.node.now.trail.tree) in
    let s = c.args.node.now.machine in
    let h = c.args.node.now.trail.history in
    let i = c.loop-pick.invariant in
    let thread = c.loop-thread.thread in
    let pick = c.loop-pick.pick in
    let next : Move = record { thread = thread; pick = pick } in
    let told = c.in-Some-after_one_of.ensures in
    let below = c.in-Some-after_one_of.hinted.now in
    let picks : c.picks-picks.result ≡ picks_of s thread = c.picks-picks.ensures ∙ ap (λ x. picks_of x thread) c.loop-thread.invariant.machine in
    let one : picks_of s thread ≡ 1 = sym picks ∙ told.only in
    let first : pick ≡ 0 = omega (arith, c.loop-pick-test.true) in
    let able : IsFeasible s next = omega (arith, c.loop-pick-test.true) in
    let step = feasible_step s next able in
    let moves : Moves thread s step.0 step.1 = (one, subst (λ x. Step s (record { thread = thread; pick = x }) step.0 step.1) first step.2) in
    let some : 1 ≤ c.args.visit.now.left = omega arith in
    let behind : AreBelow Set step.0 (h ++ with_event step.1 []) (c.args.visit.now.left - 1) (counts_of below) = after_here Set s h (c.args.visit.now.left - 1) thread below (IsHint c.args.visit.now.hints) c.requires.hints told.hint step.0 step.1 moves in
    let more = added_more Set s h c.args.visit.now.left thread pick step.0 step.1 (h ++ with_event step.1 []) step.2 refl some (counts_of c.loop-pick.known) (counts_of below) i.counted behind in
    record {
      machine = i.machine;
      history = i.history;
      tree = i.tree;
      cache = i.cache;
      base = c.pass_many.ensures.base ∙ i.base;
      running = c.pass_many.ensures.running (search rules);
      ready = record { room = subst (λ p. 256 ≤ vec_capacity p) (sym c.pass_many.ensures.path) i.ready.room; empty = ap (λ p. p.items) c.pass_many.ensures.path ∙ i.ready.empty };
      ended = ended_picked s next able;
      counted = subst (AreAdded Set s h c.args.visit.now.left (record { thread = thread; pick = pick + 1 })) (sym c.add.ensures.counts) more;
      kids = after_same Set s h (c.args.visit.now.left - 1) c.loop-pick.known c.add.new.self c.add.ensures.kids i.kids;
    }

pub walk_as-walked-requires : goal.walk_as-walked-requires
walk_as-walked-requires g t c =
    let Set = IsMember (g.T.SerialTree.members c.args.node.now.trail.tree) in
    let s = c.args.node.now.machine in
    let h = c.args.node.now.trail.history in
    let i = c.loop-pick.invariant in
    let thread = c.loop-thread.thread in
    let pick = c.loop-pick.pick in
    let next : Move = record { thread = thread; pick = pick } in
    let r = c.enter-undo.new.self.machine in
    let k = c.enter-undo.new.self.trail.history in
    let event = c.enter-undo.result.event in
    let home : c.hints_after.new.machine ≡ s = c.hints_after.ensures.machine ∙ i.machine in
    let step : Step s next r event = subst (λ x. Step x next r event) home c.enter-undo.ensures.step in
    let grown : k ≡ h ++ with_event event [] = c.enter-undo.ensures.history ∙ ap (λ x. x ++ with_event event []) i.history in
    let serves = serves_next c.args.ahead.now.tables.now.horizon s next r event c.requires.serves step in
    let table = c.args.ahead.now.tables.now.dead in
    let dead : IsDeadTable r.component table = subst (λ x. IsDeadTable x table) (sym (step_moved s next r event step).component) c.requires.dead in
    let from = subst (λ x. AreFrom table x c.args.visit.now.hints c.loop-pick.known thread c.hints_after.result) i.machine c.hints_after.ensures.from in
    let hints = hints_on Set table s c.requires.dead h (c.args.visit.now.left - 1) c.args.visit.now.hints c.loop-pick.known thread pick c.hints_after.result c.requires.hints i.kids from r event step in
    let tree = ap (λ x. g.T.SerialTree.members x) (c.enter-undo.ensures.tree ∙ i.tree) in
    let there = subst (λ x. AreKnownAfter Set r x (c.args.visit.now.left - 1 - 1) (IsHint c.hints_after.result)) (sym grown) hints in
    let told = subst (λ x. AreKnownAfter (IsMember x) r k (c.args.visit.now.left - 1 - 1) (IsHint c.hints_after.result)) (sym tree) there in
    search (rules, serves, dead, told)

pub returns-in-Err-clause-walked : goal.returns-in-Err-clause-walked
returns-in-Err-clause-walked g t c =
    let Set = IsMember (g.T.SerialTree.members c.args.node.now.trail.tree) in
    let s = c.args.node.now.machine in
    let h = c.args.node.now.trail.history in
    let i = c.loop-pick.invariant in
    let thread = c.loop-thread.thread in
    let pick = c.loop-pick.pick in
    let next : Move = record { thread = thread; pick = pick } in
    let r = c.enter-undo.new.self.machine in
    let k = c.enter-undo.new.self.trail.history in
    let event = c.enter-undo.result.event in
    let home : c.hints_after.new.machine ≡ s = c.hints_after.ensures.machine ∙ i.machine in
    let here : pick < picks_of c.loop-thread.node.machine thread = rw (← c.picks-picks.ensures) (c.loop-pick-test.true) in
    let able : IsFeasible s next = subst (λ x. pick < picks_of x thread) c.loop-thread.invariant.machine here in
    let step : Step s next r event = subst (λ x. Step x next r event) home c.enter-undo.ensures.step in
    let grown : k ≡ h ++ with_event event [] = c.enter-undo.ensures.history ∙ ap (λ x. x ++ with_event event []) i.history in
    let some : 1 ≤ c.args.visit.now.left = omega arith in
    let tree = ap (λ x. g.T.SerialTree.members x) (c.enter-undo.ensures.tree ∙ i.tree) in
    let end = c.walk_as-walked.new.node in
    let path = c.walk_as-walked.new.tally.path.items in
    let longer : WalkProgress = record { unasked = c.walk_as-walked.new.tally.unasked; path = c.push_reserved.new.self } in
    halted_above g.T.SerialTree.members c.args.node.now c.enter-undo.new.self end c.args.visit.now.left (c.args.visit.now.left - 1) c.walk_as-walked.new.tally longer c.in-Err.halt
    (λ there.
    (let below : HaltsAtSchedule Set r k (c.args.visit.now.left - 1) path end.machine end.trail.history = subst (λ x. HaltsAtSchedule (IsMember x) r k (c.args.visit.now.left - 1) path end.machine end.trail.history) tree there in
    let halts = halts_more Set s h c.args.visit.now.left thread pick r event k step grown some able (counts_of c.loop-pick.known) i.counted path end.machine end.trail.history below in
    halts_there Set s h c.args.visit.now.left (path ++ next ∷ []) c.push_reserved.new.self.items end.machine end.machine end.trail.history end.trail.history c.push_reserved.ensures.items refl refl halts))
    c.in-Err.ensures.walked

pub loop-pick-preserved : goal.loop-pick-preserved
loop-pick-preserved g t c =
    let Set = IsMember (g.T.SerialTree.members c.args.node.now.trail.tree) in
    let s = c.args.node.now.machine in
    let h = c.args.node.now.trail.history in
    let i = c.loop-pick.invariant in
    let w = c.in-Ok.ensures.walked in
    let thread = c.loop-thread.thread in
    let pick = c.loop-pick.pick in
    let next : Move = record { thread = thread; pick = pick } in
    let r = c.enter-undo.new.self.machine in
    let k = c.enter-undo.new.self.trail.history in
    let event = c.enter-undo.result.event in
    let home : c.hints_after.new.machine ≡ s = c.hints_after.ensures.machine ∙ i.machine in
    let here : pick < picks_of c.loop-thread.node.machine thread = rw (← c.picks-picks.ensures) (c.loop-pick-test.true) in
    let able : IsFeasible s next = subst (λ x. pick < picks_of x thread) c.loop-thread.invariant.machine here in
    let step : Step s next r event = subst (λ x. Step x next r event) home c.enter-undo.ensures.step in
    let grown : k ≡ h ++ with_event event [] = c.enter-undo.ensures.history ∙ ap (λ x. x ++ with_event event []) i.history in
    let some : 1 ≤ c.args.visit.now.left = omega arith in
    let tree = ap (λ x. g.T.SerialTree.members x) (c.enter-undo.ensures.tree ∙ i.tree) in
    let below = c.in-Ok.below in
    let known : IsKnown Set r k (c.args.visit.now.left - 1) below = subst (λ x. IsKnown (IsMember x) r k (c.args.visit.now.left - 1) below) tree w.known in
    let behind = known_after Set s h (c.args.visit.now.left - 1) thread pick r event k below step grown known in
    let more = added_more Set s h c.args.visit.now.left thread pick r event k step grown some (counts_of c.loop-pick.known) (counts_of below) i.counted (known_below Set r k (c.args.visit.now.left - 1) below known) in
    let counts = c.keep.ensures.counts ∙ c.add-in-loop-pick.ensures.counts in
    let kids = after_same Set s h (c.args.visit.now.left - 1) c.loop-pick.known c.add-in-loop-pick.new.self c.add-in-loop-pick.ensures.kids i.kids in
    record {
      machine = c.leave.ensures.machine ∙ (ap (restored c.enter-undo.result) w.machine ∙ (c.enter-undo.ensures.back ∙ home));
      history = c.leave.ensures.history c.loop-pick.node.trail.history (w.history ∙ c.enter-undo.ensures.history) ∙ i.history;
      tree = c.leave.ensures.tree ∙ c.walk_as-walked.ensures.stays.run.tree ∙ c.enter-undo.ensures.tree ∙ i.tree;
      cache = record { tree_is = c.walk_as-walked.ensures.cache.tree_is ∙ i.cache.tree_is; capacity = c.walk_as-walked.ensures.cache.capacity ∙ i.cache.capacity };
      base = c.walk_as-walked.ensures.base ∙ i.base;
      running = c.in-Ok.ensures.stopped;
      ready = w.ready;
      ended = ended_picked s next able;
      counted = subst (AreAdded Set s h c.args.visit.now.left (record { thread = thread; pick = pick + 1 })) (sym counts) more;
      kids = behind_more Set s h (c.args.visit.now.left - 1) thread c.add-in-loop-pick.new.self c.keep.new.self below c.keep.ensures.kids kids behind;
    }

pub loop-thread-preserved : goal.loop-thread-preserved
loop-thread-preserved g t c =
    let picks : c.picks-picks.result ≡ picks_of c.args.node.now.machine c.loop-thread.thread = c.picks-picks.ensures ∙ ap (λ x. picks_of x c.loop-thread.thread) c.loop-thread.invariant.machine in
    let all : picks_of c.args.node.now.machine c.loop-thread.thread ≤ c.loop-pick.pick = omega arith in
    let i = c.loop-pick.invariant in
    record {
      machine = i.machine;
      history = i.history;
      tree = i.tree;
      cache = i.cache;
      base = i.base;
      running = i.running;
      ready = i.ready;
      ended = ended_turn c.args.node.now.machine c.loop-thread.thread c.loop-pick.pick all c.loop-pick.is_ended i.ended;
      counted = added_turn (IsMember (g.T.SerialTree.members c.args.node.now.trail.tree)) c.args.node.now.machine c.args.node.now.trail.history c.args.visit.now.left c.loop-thread.thread c.loop-pick.pick all (counts_of c.loop-pick.known) i.counted;
      kids = i.kids;
    }

pub returns-then-left-eq0-clause-stays : goal.returns-then-left-eq0-clause-stays
returns-then-left-eq0-clause-stays g t c =
    let node = c.end.ensures.node in
    stays_home c.args.node.now c.end.new.node c.args.visit.now.left c.end.new.tally (ap (λ n. n.trail.tree) node) (ap (λ n. n.machine) node) (ap (λ n. n.trail.history) node) c.requires.agree (ready_still c.args.tally.now c.end.new.tally c.end.ensures.path c.requires.ready)

pub returns-then-left-eq0-clause-walked : goal.returns-then-left-eq0-clause-walked
returns-then-left-eq0-clause-walked g t c =
    let Set = IsMember (g.T.SerialTree.members c.args.node.now.trail.tree) in
    let s = c.args.node.now.machine in
    let h = c.args.node.now.trail.history in
    let node = c.end.ensures.node in
    let path = c.end.new.tally.path.items in
    let none = ap (λ p. p.items) c.end.ensures.path ∙ c.requires.ready.empty in
    walked_by g.T.SerialTree.members c.args.node.now c.args.visit.now.left c.end.new.tally c.end.new.node _ c.end.result
    (λ known alone. record {
      machine = ap (λ n. n.machine) node;
      history = ap (λ n. n.trail.history) node;
      ready = ready_still c.args.tally.now c.end.new.tally c.end.ensures.path c.requires.ready;
      known = known_alone Set s h c.args.visit.now.left known (counts_of known) refl alone.1 (end_below Set s h c.args.visit.now.left (inr (search rules)) (counts_of known) alone.0);
    })
    (λ is.
    (let halts = end_halts Set s h c.args.visit.now.left (inr (search rules)) (c.end.ensures.ended is) path none in
    halts_there Set s h c.args.visit.now.left path path s c.end.new.node.machine h c.end.new.node.trail.history refl (ap (λ n. n.machine) node) (ap (λ n. n.trail.history) node) halts))
    c.end.ensures.counted

pub returns-in-Some-clause-stays : goal.returns-in-Some-clause-stays
returns-in-Some-clause-stays g t c =
    let there = c.counted_below.ensures in
    stays_home c.args.node.now c.counted_below.new.node c.args.visit.now.left c.pass.new.tally (ap (λ n. n.trail.tree) there.same) (ap (λ n. n.machine) there.same) (ap (λ n. n.trail.history) there.same) c.requires.agree (ready_still c.args.tally.now c.pass.new.tally c.pass.ensures.path c.requires.ready)

pub returns-in-Some-clause-walked : goal.returns-in-Some-clause-walked
returns-in-Some-clause-walked g t c =
    let Set = IsMember (g.T.SerialTree.members c.args.node.now.trail.tree) in
    let s = c.args.node.now.machine in
    let h = c.args.node.now.trail.history in
    let there = c.counted_below.ensures in
    walked_by g.T.SerialTree.members c.args.node.now c.args.visit.now.left c.pass.new.tally c.counted_below.new.node _ c.pass.result
    (λ known alone. record {
      machine = (ap (λ n. n.machine) there.same);
      history = (ap (λ n. n.trail.history) there.same);
      ready = ready_still c.args.tally.now c.pass.new.tally c.pass.ensures.path c.requires.ready;
      known = known_alone Set s h c.args.visit.now.left known c.in-Some.counts alone.0 alone.1 (rw c.in-Some.is at c.in_ok-counted.ensures.below);
    })
    (λ is. absurd (c.pass.ensures.halts is))
    c.pass.ensures.alone

pub returns-then-is_ended-clause-walked : goal.returns-then-is_ended-clause-walked
returns-then-is_ended-clause-walked g t c =
    let Set = IsMember (g.T.SerialTree.members c.args.node.now.trail.tree) in
    let s = c.args.node.now.machine in
    let h = c.args.node.now.trail.history in
    let i = c.loop-thread.invariant in
    let home : c.counted_below.new.node.machine ≡ s = (ap (λ n. n.machine) c.counted_below.ensures.same) in
    let past : length s.threads ≤ c.loop-thread.thread = omega (arith, c.threads-thread-end.ensures.value, ap (λ (x : State). length x.threads) home) in
    let all : c.loop-thread.is_ended ≡ true = search rules in
    let none : HasNoMove s = ended_all s c.loop-thread.thread past (rw all at i.ended) in
    let node = c.end-then-is_ended.ensures.node in
    let path = c.end-then-is_ended.new.tally.path.items in
    let empty : path ≡ [] = ap (λ p. p.items) c.end-then-is_ended.ensures.path ∙ i.ready.empty in
    walked_by g.T.SerialTree.members c.args.node.now c.args.visit.now.left c.end-then-is_ended.new.tally c.end-then-is_ended.new.node _ c.end-then-is_ended.result
    (λ known alone. record {
      machine = ap (λ n. n.machine) node ∙ i.machine;
      history = ap (λ n. n.trail.history) node ∙ i.history;
      ready = ready_still c.loop-thread.tally c.end-then-is_ended.new.tally c.end-then-is_ended.ensures.path i.ready;
      known =
          (let counted : IsCountAtEnd Set s h (counts_of known) = rw (← i.tree, ← i.machine, ← i.history) alone.0 in
          known_alone Set s h c.args.visit.now.left known (counts_of known) refl alone.1 (end_below Set s h c.args.visit.now.left (inl none) (counts_of known) counted));
    })
    (λ is.
    (let over : IsEnded s = rw (← i.machine) (c.end-then-is_ended.ensures.ended is) in
    let halts = end_halts Set s h c.args.visit.now.left (inl none) over path empty in
    halts_there Set s h c.args.visit.now.left path path s c.end-then-is_ended.new.node.machine h c.end-then-is_ended.new.node.trail.history refl (ap (λ n. n.machine) node ∙ i.machine) (ap (λ n. n.trail.history) node ∙ i.history) halts))
    c.end-then-is_ended.ensures.counted

pub returns-clause-walked : goal.returns-clause-walked
returns-clause-walked g t c =
    let Set = IsMember (g.T.SerialTree.members c.args.node.now.trail.tree) in
    let s = c.args.node.now.machine in
    let h = c.args.node.now.trail.history in
    let i = c.loop-thread.invariant in
    let home : c.counted_below.new.node.machine ≡ s = (ap (λ n. n.machine) c.counted_below.ensures.same) in
    let past : length s.threads ≤ c.loop-thread.thread = omega (arith, c.threads-thread-end.ensures.value, ap (λ (x : State). length x.threads) home) in
    let is : c.loop-thread.is_ended ≡ false = search rules in
    let some : HasMove s = rw is at i.ended in
    let room : 1 ≤ c.args.visit.now.left = omega arith in
    let all = added_all Set s h c.args.visit.now.left c.loop-thread.thread past some room (counts_of c.loop-thread.known) i.counted in
    let known = known_with Set s h c.args.visit.now.left c.loop-thread.known room all i.kids in
    record {
      machine = i.machine;
      history = i.history;
      ready = i.ready;
      known = c.in_ok-nearest.ensures (g.T.SerialTree.members c.args.node.now.trail.tree) s h c.args.visit.now.left known;
    }

pub loop-pick-init : goal.loop-pick-init
loop-pick-init g t c =
    let i = c.loop-thread.invariant in
    record {
      machine = i.machine;
      history = i.history;
      tree = i.tree;
      cache = i.cache;
      base = i.base;
      running = i.running;
      ready = i.ready;
      ended = i.ended;
      counted = i.counted;
      kids = i.kids;
    }

pub returns-then-not-pass_many-clause-stays : goal.returns-then-not-pass_many-clause-stays
returns-then-not-pass_many-clause-stays g t c =
    let i = c.loop-pick.invariant in
    stays_home c.args.node.now c.loop-pick.node c.args.visit.now.left c.pass_many.new.self i.tree i.machine i.history c.requires.agree (ready_still c.loop-pick.tally c.pass_many.new.self c.pass_many.ensures.path i.ready)

pub returns-then-is_ended-clause-stays : goal.returns-then-is_ended-clause-stays
returns-then-is_ended-clause-stays g t c =
    let i = c.loop-thread.invariant in
    let node = c.end-then-is_ended.ensures.node in
    stays_home c.args.node.now c.end-then-is_ended.new.node c.args.visit.now.left c.end-then-is_ended.new.tally (ap (λ n. n.trail.tree) node ∙ i.tree) (ap (λ n. n.machine) node ∙ i.machine) (ap (λ n. n.trail.history) node ∙ i.history) c.requires.agree (ready_still c.loop-thread.tally c.end-then-is_ended.new.tally c.end-then-is_ended.ensures.path i.ready)

pub returns-clause-stays : goal.returns-clause-stays
returns-clause-stays g t c =
    let i = c.loop-thread.invariant in
    stays_home c.args.node.now c.loop-thread.node c.args.visit.now.left c.loop-thread.tally i.tree i.machine i.history c.requires.agree i.ready

pub returns-in-Err-clause-stays : goal.returns-in-Err-clause-stays
returns-in-Err-clause-stays g t c =
    let below = c.walk_as-walked.ensures.stays in
    let i = c.loop-pick.invariant in
    let next : Move = record { thread = c.loop-thread.thread; pick = c.loop-pick.pick } in
    let event = c.enter-undo.result.event in
    let made = c.enter-undo.new.self.machine in
    let home : c.hints_after.new.machine ≡ c.args.node.now.machine = c.hints_after.ensures.machine ∙ i.machine in
    let step : Step c.args.node.now.machine next made event = subst (λ x. Step x next made event) home c.enter-undo.ensures.step in
    let moved = step_moved c.args.node.now.machine next made event step in
    record {
      run = record {
        component = below.run.component ∙ moved.component;
        matrix = below.run.matrix ∙ moved.matrix;
        tree = below.run.tree ∙ c.enter-undo.ensures.tree ∙ i.tree;
      };
      agree = below.agree;
      room = rw c.push_reserved.ensures.capacity below.room;
      short = omega (arith, ap length c.push_reserved.ensures.items);
    }

pub returns-in_err-keep-clause-stays : goal.returns-in_err-keep-clause-stays
returns-in_err-keep-clause-stays g t c =
    let s = c.args.node.now.machine in
    let i = c.loop-pick.invariant in
    let w = c.in-Ok.ensures.walked in
    let home : c.hints_after.new.machine ≡ s = c.hints_after.ensures.machine ∙ i.machine in
    stays_home c.args.node.now c.leave.new.self c.args.visit.now.left c.walk_as-walked.new.tally
    (c.leave.ensures.tree ∙ c.walk_as-walked.ensures.stays.run.tree ∙ c.enter-undo.ensures.tree ∙ i.tree)
    (c.leave.ensures.machine ∙ (ap (restored c.enter-undo.result) w.machine ∙ (c.enter-undo.ensures.back ∙ home)))
    (c.leave.ensures.history c.loop-pick.node.trail.history (w.history ∙ c.enter-undo.ensures.history) ∙ i.history)
    c.requires.agree w.ready
