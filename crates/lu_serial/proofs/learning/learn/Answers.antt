use Rattle.std.proofs.Common.{◌≡◌, inl, subst}
use Rattle.lu_test.specs.Schedule.{AreMoves}
use Rattle.lu_machine.proofs.Starting.{start_same}
use Rattle.lu_serial.specs.Offences.{IsFirstCut, IsFirstConflict, IsSetOf}
use Rattle.lu_serial.specs.Walks.{Learns}
use Rattle.lu_serial.proofs.Shown.{start_ready}
use Rattle.lu_serial.proofs.Learned.{first_conflict, learns_none, least_of, passed_all}
use Rattle.lu_serial.proofs.learning.learn.Goals as goal

pub walk-requires : goal.walk-requires
walk-requires g c =
    (c.in_ok-node.node.machine, c.new-set.result, start_ready c.args.component.now c.args.matrix.now c.args.bound c.in_ok-node.ensures.limits.0 c.in_ok-node.ensures.limits.1 c.requires.few _ c.new-path.ensures.items _ c.in_ok-node.ensures.machine _ c.in_ok-node.ensures.entries (Learns c.new-set.result) (learns_none c.new-set.result c.new-set.ensures))

pub returns-in-None-clause-learnt : goal.returns-in-None-clause-learnt
returns-in-None-clause-learnt g c = λ s is.
    (let same : c.in_ok-node.node.machine ≡ s = start_same c.args.component.now c.args.matrix.now c.in_ok-node.node.machine s c.in_ok-node.ensures.machine is in
    let walks = c.in_ok-walk.ensures.walks c.in_ok-node.node.machine c.new-set.result (start_ready c.args.component.now c.args.matrix.now c.args.bound c.in_ok-node.ensures.limits.0 c.in_ok-node.ensures.limits.1 c.requires.few _ c.new-path.ensures.items _ c.in_ok-node.ensures.machine _ c.in_ok-node.ensures.entries (Learns c.new-set.result) (learns_none c.new-set.result c.new-set.ensures)) in
    let shows = rw c.in-None.is at walks in
    subst (λ x. IsSetOf x c.args.bound c.walk.new.state.visitor) same (passed_all c.in_ok-node.node.machine c.args.bound c.new-path.result.items c.new-path.ensures.items c.walk.new.state.visitor shows))

pub new-requires : goal.new-requires
new-requires g c =
    let moves : AreMoves c.walk.new.state.path.items = rw c.in-Some-Cut.is at c.in_ok-walk.ensures.home in
    moves

pub returns-in-Some-Cut-clause-learnt : goal.returns-in-Some-Cut-clause-learnt
returns-in-Some-Cut-clause-learnt g c = λ s is.
    (let same : c.in_ok-node.node.machine ≡ s = start_same c.args.component.now c.args.matrix.now c.in_ok-node.node.machine s c.in_ok-node.ensures.machine is in
    let walks = c.in_ok-walk.ensures.walks c.in_ok-node.node.machine c.new-set.result (start_ready c.args.component.now c.args.matrix.now c.args.bound c.in_ok-node.ensures.limits.0 c.in_ok-node.ensures.limits.1 c.requires.few _ c.new-path.ensures.items _ c.in_ok-node.ensures.machine _ c.in_ok-node.ensures.entries (Learns c.new-set.result) (learns_none c.new-set.result c.new-set.ensures)) in
    let halts = rw (c.in-Some-Cut.is, c.in-Some-Cut.field-0-is) at walks in
    let cut : IsFirstCut c.in_ok-node.node.machine c.args.bound c.walk.new.state.path.items = (least_of c.in_ok-node.node.machine c.args.bound c.walk.new.state.path.items c.walk.new.state.visitor halts.0 (inl halts.1), halts.1) in
    rw c.new.ensures (subst (λ x. IsFirstCut x c.args.bound c.walk.new.state.path.items) same cut))

pub new-requires-in-Some-Stopped : goal.new-requires-in-Some-Stopped
new-requires-in-Some-Stopped g c =
    let moves : AreMoves c.walk.new.state.path.items = rw c.in-Some-Stopped.is at c.in_ok-walk.ensures.home in
    moves

pub returns-clause-learnt : goal.returns-clause-learnt
returns-clause-learnt g c = λ s is.
    (let same : c.in_ok-node.node.machine ≡ s = start_same c.args.component.now c.args.matrix.now c.in_ok-node.node.machine s c.in_ok-node.ensures.machine is in
    let walks = c.in_ok-walk.ensures.walks c.in_ok-node.node.machine c.new-set.result (start_ready c.args.component.now c.args.matrix.now c.args.bound c.in_ok-node.ensures.limits.0 c.in_ok-node.ensures.limits.1 c.requires.few _ c.new-path.ensures.items _ c.in_ok-node.ensures.machine _ c.in_ok-node.ensures.entries (Learns c.new-set.result) (learns_none c.new-set.result c.new-set.ensures)) in
    let halts = rw (c.in-Some-Stopped.is, c.in-Some-Stopped.field-0-is) at walks in
    let before = c.in-Some-Stopped.before in
    let earlier = c.in-Some-Stopped.earlier in
    let conflict : IsFirstConflict c.in_ok-node.node.machine c.args.bound c.walk.new.state.path.items before earlier = first_conflict c.in_ok-node.node.machine c.args.bound c.walk.new.state.path.items c.walk.new.state.visitor before earlier halts.0 halts.1 in
    rw c.new-in-Some-Stopped.ensures (subst (λ x. IsFirstConflict x c.args.bound c.walk.new.state.path.items before earlier) same conflict))
