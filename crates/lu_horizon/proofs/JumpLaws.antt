-- Where no local instructions run with a move, and the registers tell to which place a thread goes, its outlook is that of this place.
use Rattle.std.proofs.Common.{◌≡◌, ℕ, ◌+◌, ◌==◌, if◌then◌else◌, Bool, true, false, List, Option, Some, slice_get, slice_set, refl, sym, ◌∙◌, ap, subst}
use Rattle.std.proofs.lemmas.Option.{same_Some}
use Rattle.lu_component.specs.declared.instr.Instr.{Instr}
use Rattle.lu_component.specs.declared.instr.Instr.TheVariants.{JumpIfZero}
use Rattle.lu_component.specs.declared.instr.Operand.{Operand}
use Rattle.lu_component.specs.Component.{Component}
use Rattle.lu_test.specs.declared.schedule.Move.{Move}
use Rattle.lu_test.specs.Matrix.{Matrix}
use Rattle.lu_machine.specs.declared.event.Event.{Event}
use Rattle.lu_machine.specs.declared.thread.Activity.TheVariants.{Open}
use Rattle.lu_machine.specs.declared.thread.Frame.{Frame}
use Rattle.lu_machine.specs.declared.thread.Thread.{Thread}
use Rattle.lu_machine.specs.Changes.{at_work}
use Rattle.lu_machine.specs.Effects.{Effect, onward, onward_at, value_of}
use Rattle.lu_machine.specs.States.{State, instr_at}
use Rattle.lu_machine.specs.Steps.{ByActivity, Carries, OneStep, Step, picks_of, thread_after}
use Rattle.lu_machine.proofs.Keeping.{carries_alike}
use Rattle.lu_machine.proofs.Unseen.{one_without_local}
use Rattle.lu_horizon.specs.declared.outlook.Outlook.{Outlook}
use Rattle.lu_horizon.specs.Outlooks.{one_before}
use Rattle.lu_horizon.specs.Own.{IsOpenAt, IsOwn}
use Rattle.lu_horizon.specs.Sure.{HasOutlook}
use Rattle.lu_horizon.proofs.OwnLaws.{itself_stands, one_step_by, other_stands, step_keeps_own}
use Rattle.lu_horizon.proofs.SureLaws.{before}

module _ (c : Component) (none : c.local ≡ 0) (matrix : Matrix) (t k : ℕ) (f : Frame) (v : Operand) (target : ℕ) (jumps : instr_at c f.op f.place ≡ Some (JumpIfZero v target)) where
  -- thread t has its call number k open, with these registers
  abbrev Holds : State → Type 0
  Holds s = IsOwn c matrix s × (slice_get s.threads t ≡ Some (at_work k f))

  there : (s : State) → Holds s → instr_at s.component f.op f.place ≡ Some (JumpIfZero v target)
  there s holds = rw (holds.0.component) jumps

  one_pick : (s : State) → Holds s → picks_of s t ≡ 1
  one_pick s holds = rw (holds.1, there s holds) refl

  goes : (s : State) (m : Move) (new : State) (event : Option Event) → Holds s → m.thread ≡ t → Step s m new event → IsOpenAt c matrix t k (if value_of f v == 0 then target else f.place + 1) new
  goes s m new event holds same step =
      let short : s.component.local ≡ 0 = ap (λ (x : Component). x.local) holds.0.component ∙ none in
      let one : OneStep s m new event = (one_without_local s m new event short).0 step in
      let stands : slice_get s.threads m.thread ≡ Some (at_work k f) = rw same holds.1 in
      let h : ByActivity s m k (Open f) new event = one_step_by s m new event (at_work k f) stands one in
      let is : h.0 ≡ JumpIfZero v target = same_Some h.0 (JumpIfZero v target) (sym h.3 ∙ there s holds) in
      let carries : Carries s m f (JumpIfZero v target) h.1 h.2 = subst (λ (x : Instr). Carries s m f x h.1 h.2) is h.5 in
      let mid = carries_alike s m f h.0 h.1 h.2 h.5 in
      let threads : new.threads ≡ slice_set s.threads m.thread (thread_after k h.2) = ap (λ (x : State). x.threads) h.6 ∙ ap (λ (x : List Thread). slice_set x m.thread (thread_after k h.2)) mid.threads in
      let now : slice_get new.threads m.thread ≡ Some (thread_after k h.2) = itself_stands s new m.thread (at_work k f) (thread_after k h.2) stands threads in
      by_value (value_of f v == 0) h.2 carries.1 (subst (λ (x : ℕ). slice_get new.threads x ≡ Some (thread_after k h.2)) same now)
    where
      by_value : (zero : Bool) (effect : Effect) → effect ≡ (if zero then onward_at f target else onward f) → slice_get new.threads t ≡ Some (thread_after k effect) → IsOpenAt c matrix t k (if zero then target else f.place + 1) new
      by_value true effect is now = record { own = step_keeps_own c matrix s m new event holds.0 step; frame = record f { place = target }; stands = rw is at now; place_is = refl }
      by_value false effect is now = record { own = step_keeps_own c matrix s m new event holds.0 step; frame = record f { place = f.place + 1 }; stands = rw is at now; place_is = refl }

  pub jump_before : (o : Outlook) → ((s : State) → IsOpenAt c matrix t k (if value_of f v == 0 then target else f.place + 1) s → HasOutlook s t o) → (s : State) → Holds s → HasOutlook s t (one_before o)
  jump_before o next =
      before t o Holds one_pick
      (λ s m new e holds other step. (step_keeps_own c matrix s m new e holds.0 step, other_stands s m new e t other step ∙ holds.1))
      (λ s m new e holds same step. next new (goes s m new e holds same step))
