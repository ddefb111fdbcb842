-- A thread that is run by itself, from its last move back to its first.
use Rattle.std.proofs.Common.{◌≡◌, ℕ, zero, suc, ◌<◌, ◌==◌, if◌then◌else◌, Bool, Option, refl, sym, ap, subst, arith}
use Rattle.std.proofs.lemmas.Bool.{eq-eqb, ne_eqb}
use Rattle.lu_machine.specs.declared.event.Event.{Event}
use Rattle.lu_machine.specs.declared.thread.Activity.{Activity}
use Rattle.lu_machine.specs.States.{State}
use Rattle.lu_machine.specs.Steps.{Step}
use Rattle.lu_orders.specs.Solo.{HasSolo, LastEvents, Solo, only_move}
use Rattle.lu_orders.proofs.Frames.{Works, solo_more}

-- events that are the same for the moves that are left
solo_alike : (sees keeps : Bool) (t : ℕ) (f g : LastEvents) (n : ℕ) (s : State) → ((i : ℕ) → i < n → f i ≡ g i) → Solo sees keeps t f n s → Solo sees keeps t g n s
solo_alike sees keeps t f g zero s same solo = solo
solo_alike sees keeps t f g (suc n) s same solo = λ r like.
    (let h = solo r like in
    (h.0, subst (Step r (only_move t) h.0) (same n (omega arith)) h.1, h.2, h.3, solo_alike sees keeps t f g n h.0 (λ i lt. same i (omega arith)) h.4))

-- with this event before the last n
before_last : Option Event → ℕ → LastEvents → LastEvents
before_last event n event_of i = if i == n then event else event_of i

-- one move before
pub solo_run : (sees keeps : Bool) (t k : ℕ) (activity : Activity) (n : ℕ) (s next : State) (event : Option Event) → Works sees keeps t k activity s next event → HasSolo sees keeps t n next → HasSolo sees keeps t (suc n) s
unfolding before_last
solo_run sees keeps t k activity n s next event works solo = (
  before_last event n solo.0,
  solo_more sees keeps t k (before_last event n solo.0) n activity s next event works
      (sym (ap (λ b. if b then event else solo.0 n) (eq-eqb n n refl)))
      (solo_alike sees keeps t solo.0 (before_last event n solo.0) n next (λ i lt. sym (ap (λ b. if b then event else solo.0 i) (ne_eqb i n (λ e. absurd (omega arith))))) solo.1),
)
