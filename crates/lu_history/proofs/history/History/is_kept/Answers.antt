use Rattle.std.proofs.Common.{◌≡◌, get_or, length, ap, sym, ◌∙◌, subst}
use Rattle.std.specs.Prelude.{◌||◌, nat_lt}
use Rattle.std.proofs.lemmas.Bool.{ne_eqb}
use Rattle.lu_history.specs.Histories.{outcomes, IsWellFormed}
use Rattle.lu_history.specs.Parts.{is_kept}
use Rattle.lu_history.proofs.Filtered.{is_kept_count}
use Rattle.lu_history.proofs.history.History.is_kept.Goals as goal

pub returns-else-u-t : goal.returns-else-u-t
returns-else-u-t c =
    let is : IsWellFormed c.args.self.now = subst IsWellFormed c.self.view_is c.self.invariant.well_formed in
    let returns : get_or c.self.inside.returned c.from.result 0 ≡ length (outcomes c.in-Call.u c.args.self.now) =
    ap (λ x. get_or c.self.inside.returned x 0) c.from.ensures ∙ c.self.invariant.returned_are c.in-Call.u ∙ ap (λ h. length (outcomes c.in-Call.u h)) c.self.view_is in
    ap (nat_lt c.in-Call.k) returns
    ∙ sym (ap (λ b. b || nat_lt c.in-Call.k (length (outcomes c.in-Call.u c.args.self.now))) (ne_eqb c.in-Call.u c.args.t c.if-u-t.false))
    ∙ sym (is_kept_count c.args.t c.args.self.now is c.in-Call.u c.in-Call.k)
    ∙ sym (ap (is_kept c.args.t c.args.self.now) c.in-Call.is)
