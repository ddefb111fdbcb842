use Rattle.std.proofs.Common.{◌≡◌, ◌∙◌, List, refl, replicate, subst}
use Rattle.lu_test.specs.declared.matrix.Call.{Call}
use Rattle.std.specs.Prelude.{IfOk}
use Rattle.lu_refine.specs.ByThread.{IsThreadsAnswer, asked_for}
use Rattle.lu_refine.proofs.Alike.{alike_chosen, alike_faults}
use Rattle.lu_refine.proofs.campaigning.campaign.Goals as goal

pub returns-clause-answer : goal.returns-clause-answer
returns-clause-answer c =
    let limits = c.in_ok-check_grid.ensures.within refl in
    let same : c.deref.result.now ≡ replicate c.args.threads c.args.candidates.now = c.deref.ensures.value ∙ c.in_ok-lists.ensures in
    alike_chosen c.args.component.now c.args.setup.now c.args.candidates.now c.args.threads c.args.calls c.args.bound c.args.serial c.campaign_by_thread.result limits.0 limits.1
    (subst (λ (lists : List (List Call)). IfOk c.campaign_by_thread.result (IsThreadsAnswer (asked_for c.args.component.now c.args.setup.now lists c.args.calls c.args.bound c.args.serial))) same c.campaign_by_thread.ensures.answer)

pub returns-clause-fault : goal.returns-clause-fault
returns-clause-fault c =
    let limits = c.in_ok-check_grid.ensures.within refl in
    let same : c.deref.result.now ≡ replicate c.args.threads c.args.candidates.now = c.deref.ensures.value ∙ c.in_ok-lists.ensures in
    alike_faults c.args.candidates.now c.args.threads c.args.calls c.deref.result.now c.campaign_by_thread.result limits.0 limits.1 same c.campaign_by_thread.ensures.fault
