use Rattle.std.proofs.Common.{take, get_or, refl, ap, sym, subst, arith, add-one}
use Rattle.std.proofs.lemmas.Option.{slice_get-get_or}
use Rattle.lu_history.specs.declared.serial.SerialOp.{SerialOp}
use Rattle.lu_history.specs.declared.serial.SerialOutcome.TheVariants.{Ret}
use Rattle.lu_history.proofs.Events.{take_next}
use Rattle.lu_witness.specs.Search.{AreTaken}
use Rattle.lu_explain.specs.Explanations.{IsFree}
use Rattle.lu_explain.proofs.Breaking.{thread_few, number_few, entry_is, is_called, only_entry, order_more}
use Rattle.lu_explain.proofs.orders.first_broken.Goals as goal

abbrev none : SerialOp
none = record { thread = 0; outcome = Ret 0 }

pub bounds-taken-from : goal.bounds-taken-from
bounds-taken-from c =
    let i = c.loop-op.op-index in
    let at = slice_get-get_or c.args.order.now i none (omega (arith, c.loop-op-test.true)) in
    omega (arith, c.from.ensures, thread_few c.args.history.now c.requires.history c.args.order.now c.requires.parts i _ at c.loop-op.taken c.loop-op.invariant.are)

pub blocker-requires-clause-thread : goal.blocker-requires-clause-thread
blocker-requires-clause-thread c =
    let i = c.loop-op.op-index in
    let at = slice_get-get_or c.args.order.now i none (omega (arith, c.loop-op-test.true)) in
    thread_few c.args.history.now c.requires.history c.args.order.now c.requires.parts i _ at c.loop-op.taken c.loop-op.invariant.are

pub blocker-requires-clause-call : goal.blocker-requires-clause-call
blocker-requires-clause-call c =
    let i = c.loop-op.op-index in
    let at = slice_get-get_or c.args.order.now i none (omega (arith, c.loop-op-test.true)) in
    let read = ap (λ x. get_or c.loop-op.taken x 0) c.from.ensures in
    omega (arith, read, number_few c.args.history.now c.requires.history c.args.order.now c.requires.parts i _ at c.loop-op.taken c.loop-op.invariant.are)

pub returns-in-Some : goal.returns-in-Some
returns-in-Some c =
    let h = c.args.history.now in
    let q = c.args.order.now in
    let i = c.loop-op.op-index in
    let taken = c.loop-op.taken in
    let at = slice_get-get_or q i none (omega (arith, c.loop-op-test.true)) in
    let number = ap (λ x. get_or taken x 0) c.from.ensures in
    let call = is_called h c.requires.history q c.requires.parts i _ at taken c.loop-op.invariant.are (get_or taken c.from.result 0) number in
    record {
      position = i;
      second = entry_is h c.requires.history q c.requires.parts i _ at taken c.loop-op.invariant.are (get_or taken c.from.result 0) number;
      first = c.in-Some.ensures (take i q) call.0 c.loop-op.invariant.are call.1;
      before = c.loop-op.invariant.before;
    }

pub one_more-taken-requires-clause-thread : goal.one_more-taken-requires-clause-thread
one_more-taken-requires-clause-thread c =
    let i = c.loop-op.op-index in
    let at = slice_get-get_or c.args.order.now i none (omega (arith, c.loop-op-test.true)) in
    thread_few c.args.history.now c.requires.history c.args.order.now c.requires.parts i _ at c.loop-op.taken c.loop-op.invariant.are

pub one_more-taken-requires-clause-room : goal.one_more-taken-requires-clause-room
one_more-taken-requires-clause-room c =
    let i = c.loop-op.op-index in
    let at = slice_get-get_or c.args.order.now i none (omega (arith, c.loop-op-test.true)) in
    number_few c.args.history.now c.requires.history c.args.order.now c.requires.parts i _ at c.loop-op.taken c.loop-op.invariant.are

pub loop-op-preserved : goal.loop-op-preserved
loop-op-preserved c =
    let h = c.args.history.now in
    let q = c.args.order.now in
    let i = c.loop-op.op-index in
    let taken = c.loop-op.taken in
    let at = slice_get-get_or q i none (omega (arith, c.loop-op-test.true)) in
    let number = ap (λ x. get_or taken x 0) c.from.ensures in
    let call = is_called h c.requires.history q c.requires.parts i _ at taken c.loop-op.invariant.are (get_or taken c.from.result 0) number in
    record {
      are = rw (add-one i) (subst (λ g. AreTaken g c.one_more-taken.result) (sym (take_next q _ i at)) (c.one_more-taken.ensures.takes (take i q) _ c.loop-op.invariant.are refl));
      before = order_more h q i c.loop-op.invariant.before (λ b is. subst (IsFree h (take i q)) (sym (only_entry h c.requires.history q c.requires.parts i _ at taken c.loop-op.invariant.are (get_or taken c.from.result 0) number b is)) (c.in-None.ensures (take i q) call.0 c.loop-op.invariant.are call.1));
    }

pub returns : goal.returns
returns c i b lt is = c.loop-op.invariant.before i b (omega (arith, lt, c.loop-op-test.false)) is
