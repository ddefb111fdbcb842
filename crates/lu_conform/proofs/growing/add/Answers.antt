use Rattle.std.proofs.Common.{refl, sym, ◌∙◌}
use Rattle.lu_conform.specs.declared.kept.Kept.{Kept}
use Rattle.lu_conform.proofs.Added.{grows_one, stays}
use Rattle.lu_conform.proofs.Unpacking.{can_stand_with, stands_here}
use Rattle.lu_conform.proofs.growing.add.Goals as goal

pub returns-then-contains_key : goal.returns-then-contains_key
returns-then-contains_key c =
    let kept : Kept = record { numbers = c.in_ok-numbers_at.field-0; seen = c.args.seen } in
    let s = c.args.machine.now in
    let is = c.in_ok-numbers_at.ensures.numbers in
    let p = c.in_ok-_here.ensures in
    stays s c.args.seen kept
    (stands_here s c.in_ok-_here._here p.here p.stands kept.numbers.items is c.in_ok-numbers_at.ensures.back)
    (can_stand_with s c.in_ok-_here._here p.here p.stands kept.numbers.items is c.in_ok-numbers_at.ensures.back)
    refl c.args.arrival c.args.stages.now (sym c.contains_key.ensures ∙ c.if-contains_key.true)

pub returns : goal.returns
returns c =
    let kept : Kept = record { numbers = c.in_ok-numbers_at.field-0; seen = c.args.seen } in
    let s = c.args.machine.now in
    let is = c.in_ok-numbers_at.ensures.numbers in
    let p = c.in_ok-_here.ensures in
    grows_one s c.args.seen kept
    (stands_here s c.in_ok-_here._here p.here p.stands kept.numbers.items is c.in_ok-numbers_at.ensures.back)
    (can_stand_with s c.in_ok-_here._here p.here p.stands kept.numbers.items is c.in_ok-numbers_at.ensures.back)
    refl c.args.arrival c.args.stages.now
    (sym c.contains_key.ensures ∙ c.if-contains_key.false) c.insert.new.self.entries c.in_ok-insert.ensures.entries
