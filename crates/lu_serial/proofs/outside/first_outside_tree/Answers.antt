use Rattle.std.proofs.Common.{◌≡◌, None, subst}
use Rattle.lu_test.specs.Schedule.{AreMoves}
use Rattle.lu_machine.specs.Schedules.{IsLeast}
use Rattle.lu_machine.proofs.Starting.{start_same}
use Rattle.lu_serial.specs.Offences.{IsFirstOutside, IsOutside}
use Rattle.lu_serial.specs.Walks.{Seeks}
use Rattle.lu_serial.proofs.Shown.{start_ready}
use Rattle.lu_serial.proofs.Seeking.{first_of, none_outside, none_past_cut, seeks_none}
use Rattle.lu_serial.proofs.outside.first_outside_tree.Goals as goal

pub walk-requires : goal.walk-requires
walk-requires g c =
    (c.in_ok-node.node.machine, record { tree = c.args.tree }, start_ready c.args.component.now c.args.matrix.now c.args.bound c.in_ok-node.ensures.limits.0 c.in_ok-node.ensures.limits.1 c.requires.few _ c.new-path.ensures.items _ c.in_ok-node.ensures.machine _ c.in_ok-node.ensures.entries (Seeks (g.T.SerialTree.members c.args.tree.now) (g.T.SerialTree.members c.args.tree.now)) (seeks_none (g.T.SerialTree.members c.args.tree.now)))

pub new-requires : goal.new-requires
new-requires g c =
    let moves : AreMoves c.walk.new.state.path.items = rw c.in-Some-Stopped.is at c.in_ok-walk.ensures.home in
    moves

pub returns-in-Some-Stopped : goal.returns-in-Some-Stopped
returns-in-Some-Stopped g c = λ s is.
    (let start = c.in_ok-node.node.machine in
    let same : start ≡ s = start_same c.args.component.now c.args.matrix.now c.in_ok-node.node.machine s c.in_ok-node.ensures.machine is in
    let walks = c.in_ok-walk.ensures.walks start (record { tree = c.args.tree }) (start_ready c.args.component.now c.args.matrix.now c.args.bound c.in_ok-node.ensures.limits.0 c.in_ok-node.ensures.limits.1 c.requires.few _ c.new-path.ensures.items _ c.in_ok-node.ensures.machine _ c.in_ok-node.ensures.entries (Seeks (g.T.SerialTree.members c.args.tree.now) (g.T.SerialTree.members c.args.tree.now)) (seeks_none (g.T.SerialTree.members c.args.tree.now))) in
    let halts = rw (c.in-Some-Stopped.is, c.in-Some-Stopped.field-0-is) at walks in
    let least : IsLeast (IsOutside start c.args.bound (g.T.SerialTree.members c.args.tree.now)) c.walk.new.state.path.items = first_of start c.args.bound c.walk.new.state.path.items (g.T.SerialTree.members c.args.tree.now) (g.T.SerialTree.members c.walk.new.state.visitor.tree.now) halts.0 halts.1 in
    rw c.new.ensures (subst (λ x. IsLeast (IsOutside x c.args.bound (g.T.SerialTree.members c.args.tree.now)) c.walk.new.state.path.items) same least))

pub returns-in-Some-Cut : goal.returns-in-Some-Cut
returns-in-Some-Cut g c = λ s is.
    (let start = c.in_ok-node.node.machine in
    let same : start ≡ s = start_same c.args.component.now c.args.matrix.now c.in_ok-node.node.machine s c.in_ok-node.ensures.machine is in
    let walks = c.in_ok-walk.ensures.walks start (record { tree = c.args.tree }) (start_ready c.args.component.now c.args.matrix.now c.args.bound c.in_ok-node.ensures.limits.0 c.in_ok-node.ensures.limits.1 c.requires.few _ c.new-path.ensures.items _ c.in_ok-node.ensures.machine _ c.in_ok-node.ensures.entries (Seeks (g.T.SerialTree.members c.args.tree.now) (g.T.SerialTree.members c.args.tree.now)) (seeks_none (g.T.SerialTree.members c.args.tree.now))) in
    let halts = rw (c.in-Some-Cut.is, c.in-Some-Cut.field-0-is) at walks in
    subst (λ x. IsFirstOutside x c.args.bound (g.T.SerialTree.members c.args.tree.now) None) same (none_past_cut start c.args.bound c.walk.new.state.path.items (g.T.SerialTree.members c.args.tree.now) (g.T.SerialTree.members c.walk.new.state.visitor.tree.now) c.args.component.now c.args.matrix.now c.in_ok-node.ensures.machine halts.0 halts.1))

pub returns-in-None : goal.returns-in-None
returns-in-None g c = λ s is.
    (let start = c.in_ok-node.node.machine in
    let same : start ≡ s = start_same c.args.component.now c.args.matrix.now c.in_ok-node.node.machine s c.in_ok-node.ensures.machine is in
    let walks = c.in_ok-walk.ensures.walks start (record { tree = c.args.tree }) (start_ready c.args.component.now c.args.matrix.now c.args.bound c.in_ok-node.ensures.limits.0 c.in_ok-node.ensures.limits.1 c.requires.few _ c.new-path.ensures.items _ c.in_ok-node.ensures.machine _ c.in_ok-node.ensures.entries (Seeks (g.T.SerialTree.members c.args.tree.now) (g.T.SerialTree.members c.args.tree.now)) (seeks_none (g.T.SerialTree.members c.args.tree.now))) in
    let shows = rw c.in-None.is at walks in
    subst (λ x. IsFirstOutside x c.args.bound (g.T.SerialTree.members c.args.tree.now) None) same (none_outside start c.args.bound c.new-path.result.items (g.T.SerialTree.members c.args.tree.now) (g.T.SerialTree.members c.walk.new.state.visitor.tree.now) c.new-path.ensures.items shows))
