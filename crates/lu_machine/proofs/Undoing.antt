-- A move is taken back by what it overwrote.
use Rattle.std.proofs.Common.{◌≡◌, ℕ, ◌<◌, Bool, true, false, nat_lt, List, length, Option, Some, None, IfSome, slice_get, slice_set, get_or, refl, sym, ap, subst, ◌∙◌}
use Rattle.std.proofs.lemmas.List.{set-set, set-get_or, get_or-set_same, length-set}
use Rattle.std.proofs.lemmas.Option.{get_or_from_slice_get, slice_get-get_or, slice_get_within}
use Rattle.lu_machine.specs.declared.event.Event.{Event}
use Rattle.lu_machine.specs.declared.thread.Thread.{Thread}
use Rattle.lu_machine.specs.declared.thread.OperationBefore.{OperationBefore}
use Rattle.lu_machine.specs.declared.undo.Shared.{Shared}
use Rattle.lu_machine.specs.declared.undo.Shared.TheVariants.{Nothing, Cell, Owner}
use Rattle.lu_machine.specs.declared.undo.Undo.{Undo}
use Rattle.lu_component.specs.Component.{Component, IsRegister}
use Rattle.lu_machine.specs.Events.{IsEventInRange}
use Rattle.lu_machine.specs.Layout.{WasIn}
use Rattle.lu_machine.specs.States.{State, with_standing}
use Rattle.lu_machine.specs.Changes.{IsChanged, PutsBack, before, effect_of}
use Rattle.lu_machine.specs.Steps.{thread_after}
use Rattle.lu_machine.specs.declared.thread.Activity.TheVariants.{Open}
use Rattle.lu_machine.specs.declared.thread.Change.{Change}
use Rattle.lu_machine.specs.declared.thread.Frame.{Frame}
use Rattle.lu_machine.specs.Undoes.{CanTake, IsThere, has_local, restored, with_shared, with_thread_back}

-- a list with an element written and then put back
pub set_back : {X : Type 0} (xs : List X) (i j : ℕ) (x y : X) → i ≡ j → y ≡ get_or xs i y → slice_set (slice_set xs i x) j y ≡ xs
set_back xs i j x y same is = rw (← same, set-set) (rw is (set-get_or xs i y))

-- a thread that stood so, moved and put back
pub thread_back : (s : State) (t : ℕ) (now standing : Thread) → slice_get s.threads t ≡ Some standing → with_standing (with_standing s t now) t standing ≡ s
thread_back s t now standing stands =
    let threads = set_back s.threads t t now standing refl (sym (get_or_from_slice_get s.threads t standing standing stands)) in
    ap (λ (x : List Thread). let y : State = record s { threads = x } in y) threads

-- what is overwritten of cells and locks and where a thread stands are put back in any order
with_shared-with_standing : (s : State) (o : Shared) (t : ℕ) (now : Thread) → with_shared (with_standing s t now) o ≡ with_standing (with_shared s o) t now
with_shared-with_standing s Nothing t now = refl
with_shared-with_standing s (Cell p n) t now = refl
with_shared-with_standing s (Owner l owner) t now = refl

with_shared-threads : (s : State) (o : Shared) → (with_shared s o).threads ≡ s.threads
with_shared-threads s Nothing = refl
with_shared-threads s (Cell p n) = refl
with_shared-threads s (Owner l owner) = refl

there_still : (s : State) (o : Shared) (t : ℕ) (now : Thread) → IsThere s o → IsThere (with_standing s t now) o
there_still s Nothing t now there = tt
there_still s (Cell p n) t now there = there
there_still s (Owner l owner) t now there = there

-- a thread that has moved stands where it moved
pub moved_there : (s : State) (t : ℕ) (now standing : Thread) → slice_get s.threads t ≡ Some standing → slice_get (slice_set s.threads t now) t ≡ Some now
moved_there s t now standing stands =
    let within : t < length s.threads = slice_get_within s.threads t standing stands in
    let there : t < length (slice_set s.threads t now) = rw (length-set s.threads t now) within in
    slice_get-get_or (slice_set s.threads t now) t now there ∙ ap (λ (x : Thread). Some x) (get_or-set_same s.threads t now now within)

-- a thread that is moved twice stands where it was moved last
again : (s : State) (t : ℕ) (x y : Thread) → with_standing (with_standing s t x) t y ≡ with_standing s t y
again s t x y = ap (λ (threads : List Thread). let z : State = record s { threads = threads } in z) (set-set s.threads t x y)

-- a thread that is moved to where it stands
pub stays : (s : State) (t : ℕ) (standing : Thread) → slice_get s.threads t ≡ Some standing → with_standing s t standing ≡ s
stays s t standing stands = sym (again s t standing standing) ∙ thread_back s t standing standing stands

-- a thread that has moved is put back
pub turned_back : (s : State) (t : ℕ) (now standing : Thread) (back : Thread → Thread) → slice_get s.threads t ≡ Some standing → back now ≡ standing → with_thread_back (with_standing s t now) t back ≡ s
turned_back s t now standing back stands is =
    rw (moved_there s t now standing stands, is) (thread_back s t now standing stands)

pub threads_same : (s mid : State) (o : Shared) → with_shared mid o ≡ s → mid.threads ≡ s.threads
threads_same s mid o back = sym (with_shared-threads mid o) ∙ ap (λ (x : State). x.threads) back

-- a move is taken back, from the state after it
pub move_back : (s mid : State) (o : Shared) (t : ℕ) (now standing : Thread) (back : Thread → Thread) → with_shared mid o ≡ s → slice_get s.threads t ≡ Some standing → back now ≡ standing → with_thread_back (with_shared (with_standing mid t now) o) t back ≡ s
move_back s mid o t now standing back shared stands is =
    rw (with_shared-with_standing mid o t now, shared) (turned_back s t now standing back stands is)

-- the state after a move has all that its undo puts back
pub can_take : (s mid : State) (o : Shared) (t : ℕ) (now standing : Thread) (was : OperationBefore) (event : Option Event) → with_shared mid o ≡ s → IsThere mid o → slice_get s.threads t ≡ Some standing → IsRegister was.register → WasIn mid.component was → IfSome event IsEventInRange → CanTake (with_standing mid t now) (record { thread = t; was = was; overwritten = o; event = event })
can_take s mid o t now standing was event back there stands register code range = record {
  thread = rw (length-set mid.threads t now) (slice_get_within mid.threads t standing (rw (threads_same s mid o back) stands));
  register = register;
  code = code;
  event = range;
  overwritten = there_still mid o t now there;
}

-- what takes back a move takes it back after its thread has moved further, where it puts back the same
pub still_back : (mid : State) (o : Shared) (t : ℕ) (now on : Thread) (back : Thread → Thread) → slice_get mid.threads t ≡ Some now → back on ≡ back now → with_thread_back (with_shared (with_standing mid t on) o) t back ≡ with_thread_back (with_shared mid o) t back
still_back mid o t now on back there same =
    let kept : State = with_shared mid o in
    let still : slice_get kept.threads t ≡ Some now = rw (with_shared-threads mid o) there in
    let further : with_thread_back (with_standing kept t on) t back ≡ with_standing kept t (back on) = rw (moved_there kept t on now still) (again kept t on (back on)) in
    let here : with_thread_back kept t back ≡ with_standing kept t (back now) = rw still refl in
    rw (with_shared-with_standing mid o t on) (further ∙ ap (λ (x : Thread). with_standing kept t x) same ∙ sym here)

pub fits_still : (mid : State) (undo : Undo) (t : ℕ) (on : Thread) → undo.thread ≡ t → CanTake mid undo → CanTake (with_standing mid t on) undo
fits_still mid undo t on same fits = record {
  thread = rw (length-set mid.threads t on) fits.thread;
  register = fits.register;
  code = fits.code;
  event = fits.event;
  overwritten = there_still mid undo.overwritten t on fits.overwritten;
}

-- what is put back is not the component

with_shared-component : (s : State) (o : Shared) → (with_shared s o).component ≡ s.component
with_shared-component s Nothing = refl
with_shared-component s (Cell p n) = refl
with_shared-component s (Owner l owner) = refl

with_thread_back-component : (s : State) (t : ℕ) (back : Thread → Thread) → (with_thread_back s t back).component ≡ s.component
with_thread_back-component s t back = by_thread (slice_get s.threads t) refl
  where
    by_thread : (o : Option Thread) → slice_get s.threads t ≡ o → (with_thread_back s t back).component ≡ s.component
    by_thread None is = rw is refl
    by_thread (Some standing) is = rw is refl

pub restored-component : (s mid : State) (undo : Undo) → restored undo mid ≡ s → mid.component ≡ s.component
restored-component s mid undo back =
    sym (with_thread_back-component (with_shared mid undo.overwritten) undo.thread (before (has_local mid) undo.event undo.was) ∙ with_shared-component mid undo.overwritten)
    ∙ ap (λ (x : State). x.component) back

pub shared_local : (s mid : State) (o : Shared) → with_shared mid o ≡ s → s.component.local ≡ 0 → mid.component.local ≡ 0
shared_local s mid o back none =
    ap (λ (c : Component). c.local) (sym (with_shared-component mid o) ∙ ap (λ (x : State). x.component) back) ∙ none

-- local instructions run only where all registers are kept
pub kept_whole : (whole : Bool) (local : ℕ) → (whole ≡ false → local ≡ 0) → nat_lt 0 local ≡ true → whole ≡ true
kept_whole true local none some = refl
kept_whole false local none some = (let some' = rw (none refl) at some in cc)

-- a thread that is changed, where it stood
pub changed_is : (s : State) (t : ℕ) (x standing now : Thread) (change : Change) (kept : Bool) (new : State) (was : OperationBefore) → x ≡ standing → new ≡ with_standing s t now → ((f : Frame) → x.activity ≡ Open f → now ≡ thread_after x.done (effect_of f change)) → PutsBack kept x change was now → IsRegister was.register → IsChanged s t standing change kept new was
changed_is s t x standing now change kept new was is moved after back register = record {
  now = now;
  moved = moved;
  after = subst (λ (y : Thread). (f : Frame) → y.activity ≡ Open f → now ≡ thread_after y.done (effect_of f change)) is after;
  back = subst (λ (y : Thread). PutsBack kept y change was now) is back;
  register = register;
}
