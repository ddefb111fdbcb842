use Rattle.std.proofs.Common.{◌<◌, ◌≤◌, slice_get, ap, sym, ◌∙◌, arith}
use Rattle.lu_history.specs.Histories.{calls}
use Rattle.lu_history.specs.Parts.{part}
use Rattle.lu_witness.specs.Kept.{kept_events}
use Rattle.lu_witness.proofs.Keeping.{kept_ended, kept_past}
use Rattle.lu_witness.proofs.kept.Kept.ended.Goals as goal

pub returns-then-a-calls-clause-ended : goal.returns-then-a-calls-clause-ended
returns-then-a-calls-clause-ended c =
    let h = c.self.inside.history.now in
    let count = ap (calls c.args.a.t) c.self.view_is in
    let lt : c.args.a.k < calls c.args.a.t (kept_events c.self.inside.alone h) = omega (arith, count, c.calls.ensures) in
    c.ended.ensures.ended ∙ kept_ended h c.self.invariant c.self.inside.alone c.args.a.t c.args.a.k lt ∙ ap (λ g. slice_get (part c.args.a.t g) c.args.a.k) c.self.view_is

pub returns-else-a-calls-clause-ended : goal.returns-else-a-calls-clause-ended
returns-else-a-calls-clause-ended c =
    let h = c.self.inside.history.now in
    let count = ap (calls c.args.a.t) c.self.view_is in
    let past : calls c.args.a.t (kept_events c.self.inside.alone h) ≤ c.args.a.k = omega (arith, count, c.calls.ensures) in
    sym (kept_past h c.self.invariant c.self.inside.alone c.args.a.t c.args.a.k past) ∙ ap (λ g. slice_get (part c.args.a.t g) c.args.a.k) c.self.view_is
