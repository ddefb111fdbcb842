use Rattle.std.proofs.Common.{ℕ, ◌<◌, ◌+◌, sym, ◌∙◌, subst}
use Rattle.std.proofs.lemmas.Result.{err_from_is_err_and}
use Rattle.lu_linearization.specs.Monitors.{by_thread}
use Rattle.lu_run.specs.declared.table.Table.{Table}
use Rattle.lu_run.specs.Following.{HasAnswer, HasState, question_at}
use Rattle.lu_run.specs.Offending.{Learns}
use Rattle.lu_run.proofs.Known.{answer_later, asked_state, has_later, known_next, neither}
use Rattle.lu_run.proofs.Learning.{fault_earlier, learns_on}
use Rattle.lu_run.proofs.following.learn_at.Goals as goal
use Rattle.lu_run.proofs.following.learn_at.Goals.{in-None, in-Some+in_ok-new-in-Some}

pub learn-requires-clause-state : goal.learn-requires-clause-state
learn-requires-clause-state c =
    let t = c.loop-thread.thread in
    let one = c.args.one.now in
    let same = asked_state one.state (by_thread c.args.pending.now t) (by_thread one.effects t) c.in-Some.question (sym c.question_at.ensures ∙ c.in-Some.is) in
    subst (HasState c.loop-thread.table) (sym same) (has_later c.args.table.now c.loop-thread.table c.loop-thread.invariant.learns.grows one.state c.requires.state)

pub returns-in_err-new-in-Some-clause-offends : goal.returns-in_err-new-in-Some-clause-offends
returns-in_err-new-in-Some-clause-offends c =
    let p = err_from_is_err_and c.from_residual.result c.from_residual.ensures.1 in
    rw (p.1, p.2) (fault_earlier c.args.runs.component.now c.args.runs.calls.now c.args.runs.bound c.args.table.now c.loop-thread.table c.in_err-new-in-Some.field-0.0 c.loop-thread.invariant.learns c.in_err-new-in-Some.ensures.offends)

pub loop-thread-preserved : goal.loop-thread-preserved
loop-thread-preserved c =
    let component = c.args.runs.component.now in
    let calls = c.args.runs.calls.now in
    let old = c.args.table.now in
    let mid = c.loop-thread.table in
    let inv = c.loop-thread.invariant in
    let pending = c.args.pending.now in
    let one = c.args.one.now in
    let t = c.loop-thread.thread in
    elim c.match-question_at.branch [
      | in-None w ↦ record {
        learns = subst (Learns component calls old) (sym w.table-is) inv.learns;
        known =
            (let none = sym c.question_at.ensures ∙ w.in-None.is in
            let here : HasAnswer mid (question_at pending one t) = subst (HasAnswer mid) (sym none) tt in
            subst (λ (x : Table). (u : ℕ) → u < t + 1 → HasAnswer x (question_at pending one u)) (sym w.table-is) (known_next mid pending one t inv.known here));
        same = λ e. w.table-is ∙ inv.same (sym w.new-is ∙ e);
      }
      | in-Some+in_ok-new-in-Some w ↦ record {
        learns = subst (Learns component calls old) (sym w.table-is) (learns_on component calls old mid _ inv.learns w.in_ok-new-in-Some.ensures.learns);
        known =
            (let learns = w.in_ok-new-in-Some.ensures.learns in
            let asked = sym c.question_at.ensures ∙ w.in-Some.is in
            let here : HasAnswer w.learn.new.table (question_at pending one t) = subst (HasAnswer w.learn.new.table) (sym asked) w.in_ok-new-in-Some.ensures.known in
            subst (λ (x : Table). (u : ℕ) → u < t + 1 → HasAnswer x (question_at pending one u)) (sym w.table-is)
            (known_next w.learn.new.table pending one t (λ u lt. answer_later mid w.learn.new.table learns.grows (question_at pending one u) (inv.known u lt)) here));
        same = λ e.
            (let both = neither c.loop-thread.new w.in_ok-new-in-Some.field-0 (sym w.new-is ∙ e) in
            w.table-is ∙ (w.in_ok-new-in-Some.ensures.same both.1 ∙ inv.same both.0));
      }
    ]
