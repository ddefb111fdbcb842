use Rattle.std.proofs.Common.{length, map, slice_index, ◌∙◌, ap}
use Rattle.lu_machine.specs.Changes.{idle}
use Rattle.lu_test.specs.Matrix.{calls_of}
use Rattle.lu_answers.specs.Stored.{next_place}
use Rattle.lu_answers.proofs.Resting.{stored_rests}
use Rattle.lu_answers.proofs.asking.next_stage.Goals as goal

pub returns-clause-stored : goal.returns-clause-stored
returns-clause-stored c =
    let m = c.args.machine.now in
    stored_rests m.component m.matrix (record { places = c.in_ok-places.places; rests = c.in_ok-rests.rests }) c.args.places.now c.args.thread
    (next_place c.args.rounds (length (calls_of m.matrix c.args.thread)) (slice_index c.args.places.now c.args.thread))
    c.deref-2.result.now c.args.positions.now c.in_ok-places.ensures c.requires.seats c.requires.some c.in_ok-rests.ensures.rests
    (c.deref-2.ensures.value ∙ (c.in_ok-threads.ensures ∙ ap (map idle) c.deref.ensures.value))
    c.in_ok-rests.ensures.threads c.in_ok-rests.ensures.stand
