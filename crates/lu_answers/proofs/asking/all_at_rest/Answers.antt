use Rattle.std.proofs.Common.{rules, ◌≡◌, ◌+◌, ◌++◌, ◌∷◌, [], take, ◌∙◌}
use Rattle.lu_machine.specs.declared.position.Position.{Position}
use Rattle.lu_serial_graph.specs.Playing.{IsAmong}
use Rattle.lu_serial_graph.proofs.Sifting.{among_at, taken_more}
use Rattle.lu_answers.proofs.Resting.{AreRested, rested_more}
use Rattle.lu_answers.proofs.asking.all_at_rest.Goals as goal

pub at_rest-requires-clause-stand : goal.at_rest-requires-clause-stand
at_rest-requires-clause-stand c =
    let p : Position = c.position-item.result in
    let here : IsAmong p c.args.positions.now = among_at c.args.positions.now c.loop-position.position-index p p (search rules) (search rules) in
    rw (c.loop-position.invariant.component, c.loop-position.invariant.matrix) (c.requires.stand p here)

pub at_rest-requires-clause-idle : goal.at_rest-requires-clause-idle
at_rest-requires-clause-idle c = rw c.loop-position.invariant.matrix c.requires.idle

pub loop-position-preserved : goal.loop-position-preserved
loop-position-preserved c =
    let p : Position = c.position-item.result in
    let q : Position = c.in_ok-at_rest.field-0 in
    let m = c.args.machine.now in
    let more : take (c.loop-position.position-index + 1) c.args.positions.now ≡ take c.loop-position.position-index c.args.positions.now ++ p ∷ [] = taken_more c.args.positions.now c.loop-position.position-index p (search rules) (search rules) in
    let can = rw (c.loop-position.invariant.component, c.loop-position.invariant.matrix) at c.in_ok-at_rest.ensures.stand in
    let grown : AreRested m.component m.matrix c.args.threads.now (take c.loop-position.position-index c.args.positions.now ++ p ∷ []) (c.loop-position.rests.items ++ q ∷ []) =
    rested_more m.component m.matrix c.args.threads.now (take c.loop-position.position-index c.args.positions.now) c.loop-position.rests.items p q c.loop-position.invariant.rests c.in_ok-at_rest.ensures.rest c.in_ok-at_rest.ensures.threads can in
    record {
      component = c.in_ok-at_rest.ensures.component ∙ c.loop-position.invariant.component;
      matrix = c.in_ok-at_rest.ensures.matrix ∙ c.loop-position.invariant.matrix;
      rests = rw (more, c.in_ok-push.ensures.items) grown;
    }
