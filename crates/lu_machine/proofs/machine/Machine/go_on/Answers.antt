use Rattle.std.proofs.Common.{slice_get, refl, ap, ◌∙◌}
use Rattle.lu_machine.specs.Changes.{at_work, before, effect_of}
use Rattle.lu_machine.specs.Steps.{event_after}
use Rattle.lu_machine.specs.Undoes.{has_local}
use Rattle.lu_machine.proofs.Undoing.{can_take, kept_whole, move_back, threads_same, shared_local}
use Rattle.lu_machine.proofs.machine.Machine.go_on.Goals as goal

pub returns-clause-after : goal.returns-clause-after
returns-clause-after g c = λ f stands.
    (let same = threads_same c.args.self.now c.write-overwritten.new.self c.write-overwritten.result c.write-overwritten.ensures.back in
    let now = c.change-was.ensures.changed (at_work c.args.done f) (ap (λ x. slice_get x c.args.thread) same ∙ stands) in
    rw (now.moved, now.after f refl, c.write-overwritten.ensures.shared) refl)

pub returns-clause-back : goal.returns-clause-back
returns-clause-back g c = λ none.
    (let mid = c.write-overwritten.new.self in
    let f = c.requires.stands.0 in
    let stands = c.requires.stands.1 in
    let same = threads_same c.args.self.now mid c.write-overwritten.result c.write-overwritten.ensures.back in
    let now = c.change-was.ensures.changed (at_work c.args.done f) (ap (λ x. slice_get x c.args.thread) same ∙ stands) in
    rw (now.moved, c.event_after.ensures.event f)
    (move_back c.args.self.now mid c.write-overwritten.result c.args.thread now.now (at_work c.args.done f)
    (before (has_local mid) (event_after c.args.thread c.args.done (effect_of f c.args.act.change)) c.change-was.result)
    c.write-overwritten.ensures.back stands
    (now.back f refl c.args.thread (has_local mid) (kept_whole _ _ (λ e. shared_local c.args.self.now mid _ c.write-overwritten.ensures.back (none e))))))

pub returns-clause-fits : goal.returns-clause-fits
returns-clause-fits g c =
    let f = c.requires.stands.0 in
    let stands = c.requires.stands.1 in
    let same = threads_same c.args.self.now c.write-overwritten.new.self c.write-overwritten.result c.write-overwritten.ensures.back in
    let now = c.change-was.ensures.changed (at_work c.args.done f) (ap (λ x. slice_get x c.args.thread) same ∙ stands) in
    rw now.moved (can_take c.args.self.now c.write-overwritten.new.self c.write-overwritten.result c.args.thread now.now (at_work c.args.done f) c.change-was.result c.event_after.result c.write-overwritten.ensures.back c.write-overwritten.ensures.there stands now.register (c.change-was.ensures.was_in (at_work c.args.done f) f (ap (λ x. slice_get x c.args.thread) same ∙ stands) refl) c.event_after.ensures.range)
