use Rattle.std.proofs.Common.{arith, ◌≡◌, ◌+◌, ◌-◌, ◌++◌, [], ◌∷◌, sym, ◌∙◌, ap, subst}
use Rattle.lu_conform.specs.Packing.{threads_in}
use Rattle.lu_conform.proofs.Unpacking.{one_read}
use Rattle.lu_conform.proofs.packing.threads_in.Goals as goal

pub loop-read-preserved : goal.loop-read-preserved
loop-read-preserved c =
    let n = c.args.count in
    let k = c.loop-read._read in
    let more = c.push.new.self.items in
    let whole = threads_in n c.args.numbers.now in
    subst (λ rest. more ++ threads_in (n - (k + 1)) rest ≡ whole) (sym c.after-rest.ensures)
    (one_read n k c.loop-read.threads.items more c.loop-read.rest.now whole (omega (arith, c.loop-read-test.true)) c.loop-read.invariant
    (c.in_ok-push.ensures.items ∙ ap (λ t. c.loop-read.threads.items ++ t ∷ []) c.thread_in.ensures))
