use Rattle.std.proofs.Common.{rules, ◌≡◌, ◌≤◌, length, false, arith}
use Rattle.lu_test.specs.declared.schedule.Move.{Move}
use Rattle.lu_trie.specs.Members.{contains}
use Rattle.lu_witness.specs.Witnesses.{IsMember}
use Rattle.lu_refute.proofs.Shortening.{none_gone, next_feasible, gone_on, stopped, ended}
use Rattle.lu_refute.proofs.shortest.Walk.go_outside.Goals as goal

pub loop-index-init : goal.loop-index-init
loop-index-init c = record {
  gone = none_gone c.args.self.now.machine c.args.set.now c.args.moves.now c.args.self.now.entries.items c.requires.before.entries c.requires.empty;
  calls = c.requires.before.calls;
}

pub go_on-requires-clause-feasible : goal.go_on-requires-clause-feasible
go_on-requires-clause-feasible c =
    let none : Move = record { thread = 0; pick = 0 } in
    next_feasible c.args.self.now.machine c.args.set.now c.args.moves.now c.requires.outside c.loop-index.index c.loop-index.self.machine c.loop-index.self.entries.items c.loop-index.invariant.gone none c.loop-index-test.true

pub go_on-requires-clause-calls : goal.go_on-requires-clause-calls
go_on-requires-clause-calls c = c.loop-index.invariant.calls

pub returns-then-not-contains : goal.returns-then-not-contains
returns-then-not-contains c =
    let none : Move = record { thread = 0; pick = 0 } in
    let further = c.in_ok-go_on.ensures in
    let outside : contains c.args.set.now c.go_on.new.self.entries.items ≡ false = search rules in
    let found = stopped c.args.self.now.machine c.args.set.now c.args.moves.now c.requires.outside c.loop-index.index c.loop-index.self.machine c.loop-index.self.entries.items c.loop-index.invariant.gone none c.loop-index-test.true c.go_on.new.self.machine further.event further.step c.go_on.new.self.entries.items further.entries outside in
    record { within = omega arith; short = found.0; ends = found.1; calls = further.calls }

pub loop-index-preserved : goal.loop-index-preserved
loop-index-preserved c =
    let none : Move = record { thread = 0; pick = 0 } in
    let further = c.in_ok-go_on.ensures in
    let member : IsMember c.args.set.now c.go_on.new.self.entries.items = search rules in
    record {
      gone = gone_on c.args.self.now.machine c.args.set.now c.args.moves.now c.requires.outside c.loop-index.index c.loop-index.self.machine c.loop-index.self.entries.items c.loop-index.invariant.gone none c.loop-index-test.true c.go_on.new.self.machine further.event further.step c.go_on.new.self.entries.items further.entries member;
      calls = further.calls;
    }

pub returns : goal.returns
returns c =
    let all : length c.args.moves.now ≤ c.loop-index.index = omega (arith, c.loop-index-test.false) in
    let found = ended c.args.self.now.machine c.args.set.now c.args.moves.now c.requires.outside c.loop-index.index c.loop-index.self.machine c.loop-index.self.entries.items c.loop-index.invariant.gone all in
    record { within = omega arith; short = found.0; ends = found.1; calls = c.loop-index.invariant.calls }
