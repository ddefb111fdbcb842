use Rattle.std.proofs.Common.{◌≡◌, ◌≢◌, None, get_or, set, inl, inr, sym, subst, ◌∙◌, arith, length-set, get_or-set_other}
use Rattle.std.proofs.lemmas.Bool.{cases_lt}
use Rattle.std.proofs.lemmas.Grind.{get_or-set_at}
use Rattle.lu_witness.specs.Witnesses.{IsMember}
use Rattle.lu_explain.specs.Search.{TellsStanding}
use Rattle.lu_explain.proofs.left_calls.reasons.Goals as goal

pub loop-t-preserved : goal.loop-t-preserved
loop-t-preserved g c =
    let left = c.loop-t.left in
    let i = c.from.result in
    let Stands = TellsStanding (IsMember (g.T.SerialTree.below c.args.tree.now c.args.place)) c.args.taken.now c.args.history.now in
    record {
      size = length-set left i c.reason_not_next.result ∙ c.loop-t.invariant.size;
      each = λ t lt. elim (cases_lt t c.loop-t.t) as (λ _. Stands t (get_or (set left i c.reason_not_next.result) t None)) [
        | inl below ↦
            let other : t ≢ i = omega (arith, c.from.ensures) in
            let same : get_or (set left i c.reason_not_next.result) t None ≡ get_or left t None = get_or-set_other left i t c.reason_not_next.result None other in
            subst (Stands t) (sym same) (c.loop-t.invariant.each t below)
        | inr above ↦
            let place : t ≡ i = omega (arith, c.from.ensures) in
            let now : t ≡ c.loop-t.t = omega arith in
            let same : get_or (set left i c.reason_not_next.result) t None ≡ c.reason_not_next.result = get_or-set_at left i t c.reason_not_next.result None place (omega (arith, c.from.ensures, c.loop-t.invariant.size)) in
            subst (Stands t) (sym same) (subst (λ u. Stands u c.reason_not_next.result) (sym now) c.reason_not_next.ensures)
      ];
    }

pub returns-clause-each : goal.returns-clause-each
returns-clause-each g c t lt = c.loop-t.invariant.each t (omega arith)
