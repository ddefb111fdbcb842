use Rattle.std.proofs.Common.{ℕ, Bool, false, List, slice_get, ap, ◌∙◌, arith}
use Rattle.std.specs.Option.{option_map_or}
use Rattle.lu_machine.proofs.Starting.{blocked_open, called, ends_further, further, goes_further, idle_feasible, long_open}
use Rattle.lu_machine.proofs.machine.Machine.make.Goals as goal

pub step-requires : goal.step-requires
step-requires c = idle_feasible c.args.self.now c.args.k c.requires.stands c.requires.left

pub loop-moved-init : goal.loop-moved-init
loop-moved-init c = called c.args.self.now c.args.k c.step.new.self c.step.result c.requires.stands c.step.ensures.step

pub returns-then-not-feasible-clause-open_still : goal.returns-then-not-feasible-clause-open_still
returns-then-not-feasible-clause-open_still c = λ e.
    blocked_open c.args.self.now c.args.k c.loop-moved._moved c.loop-moved.self c.loop-moved.invariant
    (λ can. (let is = c.feasible.ensures.1 can in let not = c.if-not-feasible.true in absurd cc))

pub returns-then-not-is_open-clause-ends : goal.returns-then-not-is_open-clause-ends
returns-then-not-is_open-clause-ends c = λ e.
    (let more = further c.args.self.now c.args.k c.loop-moved._moved c.loop-moved.self c.step-in-loop-moved.new.self c.step-in-loop-moved.result c.loop-moved.invariant c.step-in-loop-moved.ensures.step in
    ends_further c.args.self.now c.args.k c.loop-moved._moved c.step-in-loop-moved.new.self more (omega arith) c.is_open.result
    (λ p at. c.is_open.ensures ∙ ap (λ (ps : List (ℕ × Bool)). option_map_or (λ (q : ℕ × Bool). q.1) (slice_get ps 0) false) at)
    (let is = c.if-not-is_open.true in cc))

pub loop-moved-preserved : goal.loop-moved-preserved
loop-moved-preserved c =
    let more = further c.args.self.now c.args.k c.loop-moved._moved c.loop-moved.self c.step-in-loop-moved.new.self c.step-in-loop-moved.result c.loop-moved.invariant c.step-in-loop-moved.ensures.step in
    goes_further c.args.self.now c.args.k c.loop-moved._moved c.step-in-loop-moved.new.self more c.is_open.result
    (λ p at. c.is_open.ensures ∙ ap (λ (ps : List (ℕ × Bool)). option_map_or (λ (q : ℕ × Bool). q.1) (slice_get ps 0) false) at)
    (let is = c.if-not-is_open.false in cc)

pub returns-clause-open_still : goal.returns-clause-open_still
returns-clause-open_still c = λ e.
    long_open c.args.self.now c.args.k c.loop-moved._moved c.loop-moved.self c.loop-moved.invariant (omega arith)
