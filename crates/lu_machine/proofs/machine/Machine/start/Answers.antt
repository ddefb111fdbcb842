use Rattle.std.proofs.Common.{◌≡◌, sym, ◌∙◌, ap}
use Rattle.lu_machine.specs.States.{State}
use Rattle.lu_machine.specs.Starts.{SetsUp}
use Rattle.lu_machine.proofs.Starting.{after, laid_out_too, sets_up, takes_over}
use Rattle.lu_machine.proofs.machine.Machine.start.Goals as goal

pub invariant_of-machine : goal.invariant_of-machine
invariant_of-machine c =
    let component = c.args.component.now in
    let matrix = c.args.matrix.now in
    let there : SetsUp component matrix c.make_all.new.self = sets_up component matrix c.in_ok-alone.alone c.in_ok-setup.setup c.make_all.new.self c.make_all.result c.in_ok-alone.ensures c.in_ok-setup.ensures.empty c.make_all.ensures c.requires.settles in
    let mine : c.machine.inside.component.now ≡ component = ap (λ (s : State). s.component) (c.machine.view_is ∙ c.in_ok-machine.ensures.empty) in
    let its : c.setup.inside.component.now ≡ component = ap (λ (s : State). s.component) c.setup.view_is ∙ (after component matrix.setup _ c.make_all.new.self there).component in
    laid_out_too c.machine.inside.component.now c.setup.inside.component.now _ _ _ _ _ _ _ _ _ _ _ _ _ _ (its ∙ sym mine) c.machine.invariant c.setup.invariant

pub returns-clause-starts : goal.returns-clause-starts
returns-clause-starts c =
    let component = c.args.component.now in
    let matrix = c.args.matrix.now in
    let there : SetsUp component matrix c.make_all.new.self = sets_up component matrix c.in_ok-alone.alone c.in_ok-setup.setup c.make_all.new.self c.make_all.result c.in_ok-alone.ensures c.in_ok-setup.ensures.empty c.make_all.ensures c.requires.settles in
    let machine : State = record { component = c.machine.inside.component.now; matrix = c.machine.inside.matrix.now; cells = c.machine.inside.cells.items; locks = c.machine.inside.locks.items; threads = c.machine.inside.threads.items } in
    let setup : State = record { component = c.setup.inside.component.now; matrix = c.setup.inside.matrix.now; cells = c.setup.inside.cells.items; locks = c.setup.inside.locks.items; threads = c.setup.inside.threads.items } in
    record {
      end = c.make_all.new.self;
      made = there;
      is = takes_over component matrix machine setup c.make_all.new.self (c.machine.view_is ∙ c.in_ok-machine.ensures.empty) c.setup.view_is;
    }
