use Rattle.std.proofs.Common.{rules, arith, ◌≡◌, ◌<◌, ◌∷◌, [], Bool, true, false, not, refl, length, length-append}
use Rattle.lu_horizon.specs.Sure.{HasOutlook}
use Rattle.lu_horizon.proofs.CapLaws.{caps_all, caps_none, caps_push}
use Rattle.lu_horizon.proofs.horizon.Horizon.caps.Goals.{else-moves-left-via-then-moves-left+else-not-ahead, else-moves-left-via-else-moves-left}
use Rattle.lu_horizon.proofs.horizon.Horizon.caps.Goals as goal

not_false : (b : Bool) → not b ≡ false → b ≡ true
not_false true is = refl
not_false false is = absurd (cc)

pub loop-t-init : goal.loop-t-init
loop-t-init c = record {
  many = search rules;
  few = omega arith;
  caps = λ serves. search (rules, caps_none c.args.machine.now c.args.left);
}

pub loop-t-preserved : goal.loop-t-preserved
loop-t-preserved c =
    let o = c.ahead-ahead.result in
    let over : o.moves < c.args.left → o.over ≡ true = λ few. elim c.else-moves-left.branch [
      | else-moves-left-via-then-moves-left+else-not-ahead w ↦ not_false c.ahead-ahead.result.over w.if-not-ahead.false
      | else-moves-left-via-else-moves-left w ↦ absurd (omega (arith, w.if-moves-left.false, c.from-moves.ensures))
    ] in
    record {
      many = rw c.push.ensures.items (omega (arith, c.loop-t.invariant.many, length-append c.loop-t.caps.items (o.moves ∷ [])));
      few = omega (arith, c.loop-t.invariant.few, c.from-moves.ensures);
      caps = λ serves.
          (let ahead : HasOutlook c.args.machine.now (length c.loop-t.caps.items) o = rw c.loop-t.invariant.many (c.ahead-ahead.ensures serves) in
          rw (c.push.ensures.items, c.from-moves.ensures) (caps_push c.args.machine.now c.args.left c.loop-t.all c.loop-t.caps.items o (c.loop-t.invariant.caps serves) ahead over));
    }

pub returns : goal.returns
returns c = λ serves. caps_all c.args.machine.now c.args.left c.loop-t.all c.loop-t.caps.items (c.loop-t.invariant.caps serves) (omega arith) (omega arith)
