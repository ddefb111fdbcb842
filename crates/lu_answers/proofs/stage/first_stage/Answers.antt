use Rattle.std.proofs.Common.{◌≡◌, ◌∷◌, ◌++◌, [], length, replicate, ◌∙◌}
use Rattle.lu_machine.specs.declared.position.Position.{Position}
use Rattle.lu_answers.proofs.Storing.{first_stored}
use Rattle.lu_answers.proofs.stage.first_stage.Goals as goal

pub returns-clause-stored : goal.returns-clause-stored
returns-clause-stored c =
    let p : Position = c.in_ok-position.field-0 in
    let zeros : c.in_ok-places.places.items ≡ replicate c.from.result 0 = c.in_ok-places.ensures.items_if_clones_equal (λ _ e. e) in
    let many : c.from.result ≡ length c.args.machine.now.threads = c.from.ensures ∙ c.threads.ensures.value in
    let one : c.push.new.self.items ≡ c.new-rests.result.items ++ p ∷ [] = c.in_ok-push.ensures.items in
    first_stored c.args.machine.now c.requires (record { places = c.in_ok-places.places; rests = c.push.new.self }) p
    (rw (← many) zeros)
    (rw c.new-rests.ensures.items at one)
    c.in_ok-position.ensures.here c.in_ok-position.ensures.stands
