use Rattle.std.proofs.Common.{◌≡◌, get_or, length, ap, sym, ◌∙◌, subst}
use Rattle.std.specs.Prelude.{nat_lt}
use Rattle.lu_history.specs.Histories.{calls, outcomes, pending, IsWellFormed}
use Rattle.lu_history.proofs.PartEntries.{pending_tells}
use Rattle.lu_history.proofs.history.History.pending.Goals as goal

pub returns-clause-call : goal.returns-clause-call
returns-clause-call c =
    let is : IsWellFormed c.args.self.now = subst IsWellFormed c.self.view_is c.self.invariant.well_formed in
    let tells = pending_tells c.args.self.now is c.args.t in
    let a : get_or c.self.inside.returned c.from-t.result 0 ≡ length (outcomes c.args.t c.args.self.now) = ap (λ x. get_or c.self.inside.returned x 0) c.from-t.ensures ∙ c.self.invariant.returned_are c.args.t ∙ ap (λ h. length (outcomes c.args.t h)) c.self.view_is in
    let b : get_or c.self.inside.called c.from-t.result 0 ≡ calls c.args.t c.args.self.now = ap (λ x. get_or c.self.inside.called x 0) c.from-t.ensures ∙ c.self.invariant.called_are c.args.t ∙ ap (calls c.args.t) c.self.view_is in
    let same : nat_lt (get_or c.self.inside.returned c.from-t.result 0) (get_or c.self.inside.called c.from-t.result 0) ≡ pending c.args.t c.args.self.now = ap (λ x. nat_lt x (get_or c.self.inside.called c.from-t.result 0)) a ∙ ap (nat_lt (length (outcomes c.args.t c.args.self.now))) b in
    (λ e. tells.0 (sym same ∙ e), λ p. same ∙ tells.1 p)
