use Rattle.std.proofs.Common.{ap, sym, ◌∙◌}
use Rattle.lu_history.specs.Histories.{calls}
use Rattle.lu_witness.specs.Kept.{kept_events}
use Rattle.lu_witness.proofs.Keeping.{one_fewer, as_many_own, as_many_returned}
use Rattle.lu_witness.proofs.kept.Kept.calls.Goals as goal

pub returns-in-Some : goal.returns-in-Some
returns-in-Some c =
    let h = c.self.inside.history.now in
    let view = sym (ap (λ o. kept_events o h) c.in-Some.is) ∙ c.self.view_is in
    one_fewer h c.self.invariant c.in-Some.alone c.args.t c.calls-calls.result c.if-alone-t.true (sym c.pending.ensures.number ∙ c.if-pending.true) c.calls-calls.ensures ∙ ap (calls c.args.t) view

pub returns-in_default : goal.returns-in_default
returns-in_default c =
    let h = c.self.inside.history.now in
    let view = sym (ap (λ o. kept_events o h) c.in-Some.is) ∙ c.self.view_is in
    as_many_returned h c.self.invariant c.in-Some.alone c.args.t c.calls-calls.result (sym c.pending.ensures.number ∙ c.if-pending.false) c.calls-calls.ensures ∙ ap (calls c.args.t) view

pub returns-in_default-2 : goal.returns-in_default-2
returns-in_default-2 c =
    let h = c.self.inside.history.now in
    let view = sym (ap (λ o. kept_events o h) c.in-Some.is) ∙ c.self.view_is in
    as_many_own h c.self.invariant c.in-Some.alone c.args.t c.calls-calls.result c.if-alone-t.false c.calls-calls.ensures ∙ ap (calls c.args.t) view
