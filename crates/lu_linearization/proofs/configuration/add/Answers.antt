use Rattle.std.proofs.Common.{◌≡◌, ◌<◌, length, subst}
use Rattle.std.specs.List.{HoldsAt}
use Rattle.lu_linearization.proofs.Held.{adds_insert, adds_none}
use Rattle.lu_linearization.proofs.configuration.add.Goals as goal

pub returns-in-Ok : goal.returns-in-Ok
returns-in-Ok c =
    let same = c.deref.ensures.value in
    adds_none c.args.all.now.items c.in-Ok.field-0 c.args.one.now (subst (λ xs. c.in-Ok.field-0 < length xs) same c.in-Ok.ensures.bound) (subst (λ xs. HoldsAt (λ y. y ≡ c.args.one.now) xs c.in-Ok.field-0) same c.in-Ok.ensures.found)

pub returns-in_ok-insert-in-Err : goal.returns-in_ok-insert-in-Err
returns-in_ok-insert-in-Err c = adds_insert c.args.all.now.items c.insert.new.self.items c.in-Err.place c.args.one.now c.in_ok-insert-in-Err.ensures.items
