use Rattle.std.proofs.Common.{ap, sym, ◌∙◌}
use Rattle.lu_witness.proofs.SameEvents.{same_events, event_eq}
use Rattle.lu_witness.proofs.Right.{right_promoted, right_found, moved_verdict}
use Rattle.lu_witness.proofs.Shown.{looked_hit, looked_miss}
use Rattle.lu_witness.proofs.cache.Cache.verdict.Goals as goal

pub invariant_of-self : goal.invariant_of-self
invariant_of-self g c = rw c.promote.ensures.entries (right_promoted _ _ c.self.inside.kept.entries c.self.invariant)

pub remember-requires : goal.remember-requires
remember-requires g c =
    moved_verdict _ _ _ _ _ (ap (λ s. g.T.SerialTree.members s.tree) c.self.view_is) (sym c.events-events.ensures.events) c.verdict-found.ensures

pub returns-in-Some-clause-verdict : goal.returns-in-Some-clause-verdict
returns-in-Some-clause-verdict g c =
    let tree = ap (λ s. g.T.SerialTree.members s.tree) c.self.view_is in
    let found = sym c.peek.ensures ∙ (sym c.copied.ensures ∙ c.in-Some.is) in
    moved_verdict _ _ _ _ _ tree c.events-events.ensures.events
    (right_found _ c.events-events.result.now _ (λ k h. same_events c.events-events.result.now k.items h) c.self.inside.kept.entries c.in-Some.known c.self.invariant found)

pub returns-in-Some-clause-entries : goal.returns-in-Some-clause-entries
returns-in-Some-clause-entries g c =
    let found = sym c.peek.ensures ∙ (sym c.copied.ensures ∙ c.in-Some.is) in
    looked_hit event_eq c.events-events.result.now c.args.history.now c.events-events.ensures.events c.self.inside.kept c.promote.new.self c.args.self.now.kept c.in-Some.known (ap (λ s. s.kept) c.self.view_is) found c.promote.ensures.entries

pub returns-in-None-clause-entries : goal.returns-in-None-clause-entries
returns-in-None-clause-entries g c =
    let found = sym c.peek.ensures ∙ (sym c.copied.ensures ∙ c.in-None.is) in
    looked_miss event_eq c.events-events.result.now c.args.history.now c.events-events.ensures.events c.self.inside.kept c.args.self.now.kept _ c.verdict-found.result (ap (λ s. s.kept) c.self.view_is) found c.remember.ensures.entries
