use Rattle.std.proofs.Common.{◌≡◌, [], ◌∷◌, length, ap, ◌∙◌, arith}
use Rattle.std.proofs.lemmas.List.{append-nil}
use Rattle.lu_machine.specs.declared.event.Event.TheVariants.{Call}
use Rattle.lu_history.specs.Histories.{calls, outcomes}
use Rattle.lu_history.proofs.Events.{calls-append, outcomes-append, calls_call}
use Rattle.lu_search_tests.proofs.trails.push_operation.Goals as goal

pub push-requires-2 : goal.push-requires-2
push-requires-2 g c =
    let t = c.args.t in
    let h = c.args.trail.now.history in
    let called : calls t c.push.new.self.history ≡ 1 = omega (arith, ap (calls t) c.push.ensures.history, calls-append t h (Call t 0 ∷ []), calls_call t 0 [], c.requires.called) in
    let returned : length (outcomes t c.push.new.self.history) ≡ 0 = omega (arith, ap (λ x. length (outcomes t x)) c.push.ensures.history, ap length (outcomes-append t h (Call t 0 ∷ []) ∙ append-nil (outcomes t h)), c.requires.returned) in
    (c.requires.thread, omega arith, called, returned)
