use Rattle.std.proofs.Common.{arith, ◌≡◌, ℕ, List, length, take, drop, subst, sym, ap, ◌∙◌}
use Rattle.lu_test.specs.declared.matrix.Call.{Call}
use Rattle.lu_test.specs.Matrix.{AreThreads, IsOf, Matrix}
use Rattle.lu_refine.specs.Roles.{chosen_calls, calls_per_thread}
use Rattle.lu_refine.proofs.Filling.{AreBelow, filled_more, filled_whole, next_parts, rows_limits, rows_made, rows_of}
use Rattle.lu_refine.proofs.choice.fill.Goals as goal

pub split_at-requires : goal.split_at-requires
split_at-requires c =
    let parted = next_parts c.args.roles.candidates.now c.args.roles.calls c.loop-thread.thread-index c.thread-item.result c.loop-thread.rest.now c.loop-thread.chosen_calls.items (chosen_calls c.args.roles.calls c.args.roles.candidates.now c.args.choice.now) (omega arith) c.thread-item.is c.loop-thread.invariant in
    omega (arith, parted.0, c.from.ensures, c.calls_per_thread.ensures)

pub calls_of-requires : goal.calls_of-requires
calls_of-requires c =
    let parted = next_parts c.args.roles.candidates.now c.args.roles.calls c.loop-thread.thread-index c.thread-item.result c.loop-thread.rest.now c.loop-thread.chosen_calls.items (chosen_calls c.args.roles.calls c.args.roles.candidates.now c.args.choice.now) (omega arith) c.thread-item.is c.loop-thread.invariant in
    let size : c.from.result ≡ calls_per_thread c.args.roles.calls c.thread-item.result = c.from.ensures ∙ c.calls_per_thread.ensures in
    let front : c.split_at.result.0.now ≡ take (calls_per_thread c.args.roles.calls c.thread-item.result) c.loop-thread.rest.now = c.split_at.ensures.front ∙ ap (λ (k : ℕ). take k c.loop-thread.rest.now) size in
    let list : length c.thread-item.result ≡ length c.as_slice.result.now = ap (λ (calls : List Call). length calls) (sym c.as_slice.ensures) in
    subst (λ (n : ℕ). AreBelow n c.split_at.result.0.now) list (subst (AreBelow (length c.thread-item.result)) (sym front) parted.1)

pub loop-thread-preserved : goal.loop-thread-preserved
loop-thread-preserved c =
    let size : c.from.result ≡ calls_per_thread c.args.roles.calls c.thread-item.result = c.from.ensures ∙ c.calls_per_thread.ensures in
    let front : c.split_at.result.0.now ≡ take (calls_per_thread c.args.roles.calls c.thread-item.result) c.loop-thread.rest.now = c.split_at.ensures.front ∙ ap (λ (k : ℕ). take k c.loop-thread.rest.now) size in
    let back : c.split_at.result.1.now ≡ drop (calls_per_thread c.args.roles.calls c.thread-item.result) c.loop-thread.rest.now = c.split_at.ensures.back ∙ ap (λ (k : ℕ). drop k c.loop-thread.rest.now) size in
    let chosen = rw c.as_slice.ensures at c.in_ok-calls_of.ensures in
    filled_more c.args.roles.candidates.now c.args.roles.calls c.loop-thread.thread-index c.thread-item.result c.loop-thread.rest.now c.split_at.result.0.now c.split_at.result.1.now c.in_ok-calls_of.field-0 c.loop-thread.chosen_calls.items c.push.new.self.items (chosen_calls c.args.roles.calls c.args.roles.candidates.now c.args.choice.now) (omega arith) c.thread-item.is c.loop-thread.invariant front back chosen c.in_ok-push.ensures.items

pub new-requires-clause-limits : goal.new-requires-clause-limits
new-requires-clause-limits c =
    let whole = filled_whole c.args.roles.candidates.now c.args.roles.calls c.loop-thread.thread-index c.loop-thread.rest.now c.loop-thread.chosen_calls.items (chosen_calls c.args.roles.calls c.args.roles.candidates.now c.args.choice.now) (omega arith) c.loop-thread.invariant in
    subst AreThreads (sym whole) (rows_limits c.args.roles.calls c.args.roles.candidates.now c.args.choice.now c.requires.limits c.requires.asked.arguments c.requires.choice)

pub unwrap-requires : goal.unwrap-requires
unwrap-requires c =
    let whole = filled_whole c.args.roles.candidates.now c.args.roles.calls c.loop-thread.thread-index c.loop-thread.rest.now c.loop-thread.chosen_calls.items (chosen_calls c.args.roles.calls c.args.roles.candidates.now c.args.choice.now) (omega arith) c.loop-thread.invariant in
    let before = c.in_ok-setup.ensures ∙ c.as_slice-2.ensures in
    let of = rows_of c.args.roles.component.now c.args.roles.setup.now c.args.roles.calls c.args.roles.candidates.now c.args.choice.now c.requires.asked.setup_of c.requires.asked.of c.requires.choice in
    c.new.ensures.of.1 (subst (λ (m : Matrix). IsOf m c.args.roles.component.now) (sym (rows_made c.args.roles.setup.now _ _ _ before whole)) of)
