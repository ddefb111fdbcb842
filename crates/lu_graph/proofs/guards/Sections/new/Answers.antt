use Rattle.std.proofs.Common.{ap, arith, ◌∷◌, [], length, length-append}
use Rattle.lu_graph.proofs.Sectioned.{section_push, sections_are}
use Rattle.lu_graph.proofs.guards.Sections.new.Goals as goal

pub loop-op-preserved : goal.loop-op-preserved
loop-op-preserved c =
    let component = c.args.component.now in
    let operations = c.loop-op.operations.items in
    let places = c.in_ok-new.field-0 in
    record {
      many = rw c.in_ok-push.ensures.items (omega (arith, c.loop-op.invariant.many, length-append operations (places ∷ [])));
      rows = rw c.in_ok-push.ensures.items (section_push component c.args.lock operations c.loop-op.op places c.loop-op.invariant.many (c.code_of.result.now, c.code_of.ensures.code, c.in_ok-new.ensures.sound, c.in_ok-new.ensures.all) c.loop-op.invariant.rows);
    }

pub returns : goal.returns
returns c =
    let many = ap length c.operations.ensures.operations in
    sections_are c.args.component.now c.args.lock c.loop-op.operations.items (omega (arith, c.loop-op-test.false, c.loop-op.invariant.many, many)) c.loop-op.invariant.rows
