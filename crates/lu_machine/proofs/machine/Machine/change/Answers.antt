use Rattle.std.proofs.Common.{◌≡◌, ◌<◌, length, slice_get, Some, sym, ◌∙◌, ap, subst}
use Rattle.std.proofs.lemmas.List.Elements.{All-get_or}
use Rattle.std.proofs.lemmas.Option.{get_or_from_slice_get}
use Rattle.lu_machine.specs.declared.thread.Thread.{Thread}
use Rattle.lu_machine.specs.Layout.{StandsIn, WasIn}
use Rattle.lu_machine.specs.States.{State, with_standing}
use Rattle.lu_machine.proofs.Layouts.{laid_moved}
use Rattle.lu_machine.proofs.Moves.{all_at}
use Rattle.lu_machine.proofs.Undoing.{changed_is}
use Rattle.lu_machine.proofs.machine.Machine.change.Goals as goal

pub invariant_of-self : goal.invariant_of-self
invariant_of-self g c =
    let component = c.self.inside.component.now in
    let threads = c.self.inside.threads.items in
    let within : c.from.result < length threads = subst (λ (s : State). c.from.result < length s.threads) (sym c.self.view_is) (rw c.from.ensures c.requires.there) in
    let inside : StandsIn component c.index_mut.result.now = subst (StandsIn component) (sym c.index_mut.ensures.value) (All-get_or (StandsIn component) threads c.from.result c.index_mut.result.now within c.self.invariant.in_code) in
    laid_moved _ _ _ _ _ _ _ threads c.from.result c.change.new.self c.self.invariant c.change.ensures.stands (c.change.ensures.in_code component inside)

pub returns-clause-changed : goal.returns-clause-changed
returns-clause-changed g c = λ standing stands.
    (let there : slice_get c.self.inside.threads.items c.from.result ≡ Some standing = rw c.from.ensures (subst (λ (s : State). slice_get s.threads c.args.thread ≡ Some standing) (sym c.self.view_is) stands) in
    let is : c.index_mut.result.now ≡ standing = c.index_mut.ensures.value ∙ get_or_from_slice_get c.self.inside.threads.items c.from.result standing c.index_mut.result.now there in
    changed_is c.args.self.now c.args.thread c.index_mut.result.now standing c.change.new.self c.args.change _ _ c.change.result is
    (rw c.from.ensures (ap (λ (s : State). with_standing s c.args.thread c.change.new.self) c.self.view_is))
    c.change.ensures.after c.change.ensures.back c.change.ensures.register)

pub returns-clause-was_in : goal.returns-clause-was_in
returns-clause-was_in g c = λ standing f stands open'.
    (let component = c.self.inside.component.now in
    let there : slice_get c.self.inside.threads.items c.from.result ≡ Some standing = rw c.from.ensures (subst (λ (s : State). slice_get s.threads c.args.thread ≡ Some standing) (sym c.self.view_is) stands) in
    let is : c.index_mut.result.now ≡ standing = c.index_mut.ensures.value ∙ get_or_from_slice_get c.self.inside.threads.items c.from.result standing c.index_mut.result.now there in
    let inside : StandsIn component standing = all_at (StandsIn component) c.self.inside.threads.items c.from.result standing c.self.invariant.in_code there in
    subst (λ (s : State). WasIn s.component c.change.result) c.self.view_is
    (c.change.ensures.was_in component f (ap (λ (x : Thread). x.activity) is ∙ open') (subst (StandsIn component) (sym is) inside)))
