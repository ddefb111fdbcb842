use Rattle.std.proofs.Common.{◌≡◌, take, ap, sym, subst, ◌∙◌}
use Rattle.std.proofs.lemmas.List.{length-take-le}
use Rattle.lu_test.specs.Schedule.{AreMoves}
use Rattle.lu_machine.specs.States.{State}
use Rattle.lu_machine.specs.Starts.{IsStart}
use Rattle.lu_machine.specs.Runs.{Leads}
use Rattle.lu_serial.specs.Cuts.{AreLengths}
use Rattle.lu_refute.specs.Walks.{EndsOutside}
use Rattle.lu_serial.specs.Whole.{made_calls}
use Rattle.lu_machine.proofs.Starting.{start_matrix, start_same}
use Rattle.lu_serial.proofs.Grounds.{ground_of, grounded}
use Rattle.lu_serial.proofs.Cuts.{made_lengths}
use Rattle.lu_refute.proofs.Shortening.{cut_over, front_moves}
use Rattle.lu_refute.proofs.shortest.shortest.Goals as goal

pub go_outside-requires-clause-outside : goal.go_outside-requires-clause-outside
go_outside-requires-clause-outside c =
    subst (EndsOutside c.in_ok-walk.walk.machine c.args.set.now) (sym c.moves-moves.ensures.moves) (c.requires.outside c.in_ok-walk.walk.machine c.in_ok-walk.ensures.start)

pub cut_to-requires : goal.cut_to-requires
cut_to-requires c =
    let stop = c.in_ok-count.ensures in
    let run = stop.short.whole in
    let front = take c.in_ok-count.count c.moves-moves.result.now in
    let g = ground_of c.args.test.component.now c.in_ok-walk.walk.machine in
    let leads = subst (λ (x : State). Leads x front run.end run.history) (grounded c.args.test.component.now c.args.test.matrix.now c.in_ok-walk.walk.machine c.in_ok-walk.ensures.start) run.leads in
    let is : c.deref.result.now ≡ made_calls run.end = c.deref.ensures.value ∙ (stop.calls ∙ ap made_calls (sym stop.ends)) in
    subst (AreLengths c.args.test.matrix.now) (sym is) (made_lengths g c.args.test.matrix.now front run.end run.history leads)

pub slice_bounds-from_slice-end : goal.slice_bounds-from_slice-end
slice_bounds-from_slice-end c =
    sym (length-take-le c.in_ok-count.count c.moves-moves.result.now c.in_ok-count.ensures.within)

pub new-requires : goal.new-requires
new-requires c =
    let are = subst AreMoves (sym c.moves-moves.ensures.moves) c.moves-moves.ensures.sound in
    subst AreMoves (sym c.in_ok-from_slice.ensures.items) (front_moves c.moves-moves.result.now c.in_ok-count.count are)

pub returns : goal.returns
returns c =
    λ (s : State) (is : IsStart c.args.test.component.now c.args.test.matrix.now s).
    let stop = c.in_ok-count.ensures in
    let start = c.in_ok-walk.walk.machine in
    cut_over start s (start_same c.args.test.component.now c.args.test.matrix.now start s c.in_ok-walk.ensures.start is) c.args.set.now c.moves-moves.result.now c.args.outside.now c.moves-moves.ensures.moves
    c.new.result c.in_ok-count.count (c.new.ensures ∙ c.in_ok-from_slice.ensures.items) stop.short
    c.deref.result.now (c.deref.ensures.value ∙ (stop.calls ∙ ap made_calls (sym stop.ends)))
    c.args.test.matrix.now c.in_ok-smaller.smaller (start_matrix c.args.test.component.now c.args.test.matrix.now start c.in_ok-walk.ensures.start) c.in_ok-smaller.ensures
