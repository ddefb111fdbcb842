use Rattle.std.proofs.Common.{◌≡◌, Option, None, Some, IsSome, refl, subst}
use Rattle.std.proofs.lemmas.Result.{IfOk-weaker}
use Rattle.lu_machine.proofs.Starting.{start_there}
use Rattle.lu_serial.specs.Offences.{IsFirstOutside}
use Rattle.lu_refute.specs.Walks.{IsFromOutside, IsShortestOf}
use Rattle.lu_refute.proofs.refuting.from_outside.Goals as goal

some : {A : Type 0} (o : Option A) → (o ≡ None → ⊥) → IsSome o
some None h = absurd (h refl)
some (Some x) h = refl

pub unwrap-outside-requires : goal.unwrap-outside-requires
unwrap-outside-requires c =
    let start = start_there c.args.test.component.now c.args.test.matrix.now c.args.test.can_run.settles in
    some _ (λ none. c.requires.outside start.0 start.1 (subst (IsFirstOutside start.0 c.args.serial c.args.set.now) none (c.in_ok-first_outside.ensures start.0 start.1)))

pub shortest-requires-clause-outside : goal.shortest-requires-clause-outside
shortest-requires-clause-outside c = λ s is.
    (let least = subst (IsFirstOutside s c.args.serial c.args.set.now) c.unwrap-outside.ensures (c.in_ok-first_outside.ensures s is) in
    (least.kind.0, least.kind.1, least.kind.2))

pub returns : goal.returns
returns c =
    IfOk-weaker c.shortest.result (IsShortestOf c.args.test c.args.set.now c.unwrap-outside.result) (IsFromOutside c.args.test c.args.serial c.args.set.now)
    (λ answer short s is.
    let over = short s is in
    let least = subst (IsFirstOutside s c.args.serial c.args.set.now) c.unwrap-outside.ensures (c.in_ok-first_outside.ensures s is) in
    record { outside = c.unwrap-outside.result; least = least; short = over.short; matrix_is = over.matrix_is })
    c.shortest.ensures
