use Rattle.std.proofs.Common.{◌≡◌, ◌∙◌, IfOk, refl, subst, rules}
use Rattle.lu_witness.specs.declared.judgement.Verdict.TheVariants.{Good}
use Rattle.lu_witness.specs.Witnesses.{IsGood, IsMember, IsVerdict}
use Rattle.lu_witness.proofs.Right.{moved_verdict}
use Rattle.lu_judge.specs.Paths.{history_of}
use Rattle.lu_judge.proofs.Plain.{among}
use Rattle.lu_judge.proofs.trail.Trail.judge.Goals as goal

pub returns-then-self-clause-verdict : goal.returns-then-self-clause-verdict
returns-then-self-clause-verdict g c =
    subst (λ s. IfOk c.verdict_of.result (IsVerdict (IsMember (g.T.SerialTree.members s.tree)) s.history)) c.self.view_is
    (rw (c.if-self.true, ← c.as_slice-events.ensures) c.verdict_of.ensures.verdict)

pub returns-then-is_good-clause-verdict : goal.returns-then-is_good-clause-verdict
returns-then-is_good-clause-verdict g c =
    let members = g.T.SerialTree.members c.self.inside.tree.now in
    subst (λ s. IsGood (IsMember (g.T.SerialTree.members s.tree)) s.history) c.self.view_is
    (rw c.if-self.false (c.is_good.ensures members c.self.invariant.good c.if-is_good.true))

pub invariant_of-self-then-eq : goal.invariant_of-self-then-eq
invariant_of-self-then-eq g c =
    let members = g.T.SerialTree.members c.self.inside.tree.now in
    let is : c.in_ok-verdict.verdict ≡ Good = search rules in
    let written = c.as_slice-events-2.ensures ∙ c.write.ensures in
    let verdict = moved_verdict _ members _ _ c.in_ok-verdict.verdict refl written c.in_ok-verdict.ensures.verdict in
    rw c.if-self.false
    (among members c.write.new.events c.note_good.new.self c.note_good.ensures.path
    (c.note_good.ensures.good members c.self.invariant.good (subst (λ v. IsVerdict (IsMember members) (history_of c.self.inside.path) v) is verdict)))

pub returns-else-eq-clause-verdict : goal.returns-else-eq-clause-verdict
returns-else-eq-clause-verdict g c =
    let members = g.T.SerialTree.members c.self.inside.tree.now in
    let written = c.as_slice-events-2.ensures ∙ c.write.ensures in
    let verdict = moved_verdict _ members _ _ c.in_ok-verdict.verdict refl written c.in_ok-verdict.ensures.verdict in
    subst (λ s. IsVerdict (IsMember (g.T.SerialTree.members s.tree)) s.history c.in_ok-verdict.verdict) c.self.view_is
    (rw c.if-self.false verdict)
