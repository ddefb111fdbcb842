use Rattle.std.proofs.Common.{sym, ◌∙◌, subst}
use Rattle.lu_tree.specs.Known.{AreFrom, Commute}
use Rattle.lu_tree.proofs.KnownLaws.{from_more}
use Rattle.lu_tree.proofs.commuting.hints_after.Goals.{then-commute, else-commute}
use Rattle.lu_tree.proofs.commuting.hints_after.Goals as goal

pub loop-other-preserved : goal.loop-other-preserved
loop-other-preserved g c =
    let s = c.args.machine.now in
    let hints = c.args.hints.now in
    let known = c.args.known.now in
    let dead = c.args.dead.now in
    let i = c.loop-other.invariant in
    record {
      machine = c.commute.ensures.machine ∙ i.machine;
      from = elim c.if-commute.branch [
        | then-commute w ↦
            (let commute : Commute dead c.loop-other.other c.args.thread s = subst (Commute dead c.loop-other.other c.args.thread) i.machine (c.commute.ensures.commute.0 w.if-commute.true) in
            let more = from_more dead s hints known c.args.thread c.loop-other.other c.in-Some.first.now c.in-Some-after.below.now c.loop-other.found w.add.new.self i.from w.add.ensures commute c.in-Some.ensures c.in-Some-after.ensures in
            subst (AreFrom dead s hints known c.args.thread) (sym w.found-is) more)
        | else-commute w ↦ subst (AreFrom dead s hints known c.args.thread) (sym w.found-is) i.from
      ];
    }
