use Rattle.std.proofs.Common.{◌≡◌, ◌<◌, Bool, true, false, List, Some, get_or, set, sym, ◌∙◌, ap, subst}
use Rattle.lu_run.specs.declared.run.RunEvent.{RunEvent}
use Rattle.lu_run.specs.Checking.{Accepts}
use Rattle.lu_run.proofs.Checked.{calls_next, returns_next}
use Rattle.lu_run.proofs.checking.accept.Goals as goal

pub returns-else-pending-from : goal.returns-else-pending-from
returns-else-pending-from c =
    let table = c.args.calls.now in
    let pending : List Bool = c.args.pending.now in
    let t = c.in-Call.thread in
    let lt : t < 8 = c.if-thread-ge8.false in
    let idle : get_or pending t false ≡ false = ap (λ i. get_or pending i false) (sym c.from.ensures) ∙ c.if-pending-from.false in
    let made = calls_next table pending t c.in-Call.call lt c.if-call-calls.false idle c.told-pending in
    let here : Accepts table pending c.args.event (Some (set pending t true)) = subst (λ (e : RunEvent). Accepts table pending e (Some (set pending t true))) (sym c.in-Call.is) made in
    subst (λ i. Accepts table pending c.args.event (Some (set pending i true))) (sym c.from-in-Call.ensures) here

pub returns-else-not-pending-from : goal.returns-else-not-pending-from
returns-else-not-pending-from c =
    let table = c.args.calls.now in
    let pending : List Bool = c.args.pending.now in
    let t = c.in-Return.thread in
    let lt : t < 8 = c.if-thread-ge8-2.false in
    let busy : get_or pending t false ≡ true = ap (λ i. get_or pending i false) (sym c.from-in-Return.ensures) ∙ c.if-not-pending-from.false in
    let made = returns_next table pending t c.in-Return.outcome lt busy c.told-pending in
    let here : Accepts table pending c.args.event (Some (set pending t false)) = subst (λ (e : RunEvent). Accepts table pending e (Some (set pending t false))) (sym c.in-Return.is) made in
    subst (λ i. Accepts table pending c.args.event (Some (set pending i false))) (sym c.from-in-Return-2.ensures) here
