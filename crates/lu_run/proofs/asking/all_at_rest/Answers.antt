use Rattle.std.proofs.Common.{rules, ◌≡◌, ◌+◌, ◌++◌, ◌∷◌, [], List, length, take, ◌∙◌, ap, subst}
use Rattle.std.proofs.Math.Seq.{take-length}
use Rattle.lu_machine.specs.declared.position.Position.{Position}
use Rattle.lu_serial_graph.specs.Playing.{IsAmong}
use Rattle.lu_serial_graph.proofs.Sifting.{among_at, taken_more}
use Rattle.lu_run.proofs.Resting.{AreRested, rested_more, rested_rests}
use Rattle.lu_run.specs.Asking.{IsAtRest}
use Rattle.lu_run.proofs.asking.all_at_rest.Goals as goal

pub at_rest-requires-clause-stand : goal.at_rest-requires-clause-stand
at_rest-requires-clause-stand c =
    let p : Position = c.position-item.result in
    let here : IsAmong p c.args.positions.now = among_at c.args.positions.now c.loop-position.position-index p p (search rules) (search rules) in
    rw (c.loop-position.invariant.component, c.loop-position.invariant.matrix) (c.requires.stand p here)

pub loop-position-preserved : goal.loop-position-preserved
loop-position-preserved c =
    let p : Position = c.position-item.result in
    let more : take (c.loop-position.position-index + 1) c.args.positions.now ≡ take c.loop-position.position-index c.args.positions.now ++ p ∷ [] = taken_more c.args.positions.now c.loop-position.position-index p (search rules) (search rules) in
    let good : IsAtRest c.args.machine.now.component c.in_ok-at_rest.field-0 = subst (λ x. IsAtRest x c.in_ok-at_rest.field-0) c.loop-position.invariant.component c.in_ok-at_rest.ensures.at_rest in
    let grown : AreRested c.args.machine.now.component (take c.loop-position.position-index c.args.positions.now ++ p ∷ []) (c.loop-position.rests.items ++ c.in_ok-at_rest.field-0 ∷ []) =
    rested_more c.args.machine.now.component (take c.loop-position.position-index c.args.positions.now) c.loop-position.rests.items p c.in_ok-at_rest.field-0 c.loop-position.invariant.rests c.in_ok-at_rest.ensures.rest good in
    record {
      component = c.in_ok-at_rest.ensures.component ∙ c.loop-position.invariant.component;
      matrix = c.in_ok-at_rest.ensures.matrix ∙ c.loop-position.invariant.matrix;
      rests = rw (more, c.in_ok-push.ensures.items) grown;
    }

pub returns-clause-same : goal.returns-clause-same
returns-clause-same c =
    let index : c.loop-position.position-index ≡ length c.args.positions.now = search rules in
    let all : take c.loop-position.position-index c.args.positions.now ≡ c.args.positions.now = ap (λ k. take k c.args.positions.now) index ∙ take-length c.args.positions.now in
    let are : AreRested c.args.machine.now.component c.args.positions.now c.loop-position.rests.items = subst (λ (x : List Position). AreRested c.args.machine.now.component x c.loop-position.rests.items) all c.loop-position.invariant.rests in
    are.same

pub returns-clause-rests : goal.returns-clause-rests
returns-clause-rests c =
    let index : c.loop-position.position-index ≡ length c.args.positions.now = search rules in
    let all : take c.loop-position.position-index c.args.positions.now ≡ c.args.positions.now = ap (λ k. take k c.args.positions.now) index ∙ take-length c.args.positions.now in
    rested_rests c.args.machine.now.component c.args.positions.now c.loop-position.rests.items (subst (λ (x : List Position). AreRested c.args.machine.now.component x c.loop-position.rests.items) all c.loop-position.invariant.rests) c.requires.some
