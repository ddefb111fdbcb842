use Rattle.std.proofs.Common.{arith, ◌≡◌, List, Some, length, take, slice_get, ◌+◌, refl, sym, subst}
use Rattle.std.specs.List.{AllZip}
use Rattle.std.proofs.lemmas.Option.{slice_get_read}
use Rattle.lu_test.specs.declared.schedule.Move.{Move}
use Rattle.lu_conform.specs.declared.shown.Shown.{Shown}
use Rattle.lu_conform.specs.Showing.{IsOutOfReach, IsShortest, IsShown, IsShownByNone}
use Rattle.lu_conform.proofs.Gone.{first_such, one_more}
use Rattle.lu_conform.proofs.conforming.conformance.Goals as goal

pub returns-in-ByNone : goal.returns-in-ByNone
returns-in-ByNone c =
    let recorded = c.index-all-number.result in
    let n = c.loop-number.number in
    let at : slice_get c.args.all.now n ≡ Some recorded = slice_get_read c.args.all.now (length c.args.all.now) n recorded refl (omega arith) c.index-all-number.is in
    first_such c.args.component.now c.args.matrix.now c.args.all.now c.loop-number.schedules.items n c.loop-number.invariant recorded at (IsShownByNone c.args.component.now c.args.matrix.now)
    (subst (λ (x : Shown). IsShown c.args.component.now c.args.matrix.now recorded x) c.in-ByNone.is c.in_ok-schedule.ensures)

pub returns-in-Undecided : goal.returns-in-Undecided
returns-in-Undecided c =
    let recorded = c.index-all-number.result in
    let n = c.loop-number.number in
    let at : slice_get c.args.all.now n ≡ Some recorded = slice_get_read c.args.all.now (length c.args.all.now) n recorded refl (omega arith) c.index-all-number.is in
    first_such c.args.component.now c.args.matrix.now c.args.all.now c.loop-number.schedules.items n c.loop-number.invariant recorded at (IsOutOfReach c.args.component.now c.args.matrix.now)
    (subst (λ (x : Shown). IsShown c.args.component.now c.args.matrix.now recorded x) c.in-Undecided.is c.in_ok-schedule.ensures)

pub loop-number-preserved : goal.loop-number-preserved
loop-number-preserved c =
    let recorded = c.index-all-number.result in
    let n = c.loop-number.number in
    let at : slice_get c.args.all.now n ≡ Some recorded = slice_get_read c.args.all.now (length c.args.all.now) n recorded refl (omega arith) c.index-all-number.is in
    let shortest : IsShortest c.args.component.now c.args.matrix.now recorded c.in-By.schedule = subst (λ (x : Shown). IsShown c.args.component.now c.args.matrix.now recorded x) c.in-By.is c.in_ok-schedule.ensures in
    subst (λ (x : List (List Move)). AllZip (IsShortest c.args.component.now c.args.matrix.now) (take (n + 1) c.args.all.now) x) (sym c.in_ok-push-in-By.ensures.items)
    (one_more c.args.component.now c.args.matrix.now c.args.all.now c.loop-number.schedules.items n c.loop-number.invariant recorded at c.in-By.schedule shortest)
