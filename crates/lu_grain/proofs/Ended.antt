-- Where a schedule has ended no thread is at a local instruction, so none stands ahead: the other one has ended in the same state.
use Rattle.std.proofs.Common.{◌≡◌, ℕ, suc, ◌+◌, ◌*◌, ◌<◌, ◌≤◌, Bool, true, false, List, [], ◌∷◌, length, Option, Some, None, slice_get, refl, ◌∙◌, ap, subst, inl, inr, arith}
use Rattle.std.specs.Option.{option_map}
use Rattle.std.proofs.lemmas.Option.{same_Some}
use Rattle.lu_component.specs.declared.component.Op.{Op}
use Rattle.lu_test.specs.declared.schedule.Move.{Move}
use Rattle.lu_machine.specs.declared.event.Event.{Event}
use Rattle.lu_machine.specs.declared.thread.Thread.{Thread}
use Rattle.lu_machine.specs.Ends.{HasNoMove, IsEnded}
use Rattle.lu_machine.specs.Runs.{Leads}
use Rattle.lu_machine.specs.States.{State}
use Rattle.lu_machine.specs.Steps.{picks_of}
use Rattle.lu_machine.proofs.Ended.{complete_no_move}
use Rattle.lu_machine.proofs.Running.{local_feasible}
use Rattle.lu_grain.specs.Grains.{grained}
use Rattle.lu_grain.specs.Laws.{LeadsToo}
use Rattle.lu_grain.proofs.Ahead.{AreAhead, KeepsAhead, LeadsBy, ahead_itself, keeps_ahead}
use Rattle.lu_grain.proofs.Alone.{leads_alone}
use Rattle.lu_grain.proofs.Carried.{placed}
use Rattle.lu_grain.proofs.Threads.{is_next_local, run_local, run_stays, standing_local}

-- ---- threads that can't go on

pub same_lists : {A : Type 0} (xs ys : List A) → ((i : ℕ) → slice_get xs i ≡ slice_get ys i) → xs ≡ ys
same_lists [] [] h = refl
same_lists [] (y ∷ ys) h = absurd (let wrong = h 0 in cc)
same_lists (x ∷ xs) [] h = absurd (let wrong = h 0 in cc)
same_lists (x ∷ xs) (y ∷ ys) h =
    ap (λ z. z ∷ xs) (same_Some x y (h 0)) ∙ ap (λ zs. y ∷ zs) (same_lists xs ys (λ i. h (suc i)))

-- no thread stands before a local instruction
abbrev pub NoneAtLocal : List Op → List Thread → Type 0
NoneAtLocal ops threads = (t : ℕ) (x : Thread) → slice_get threads t ≡ Some x → is_next_local ops x.activity ≡ false

-- a thread that does not stands ahead where it stands
pub ahead_there : (ops : List Op) (ks : ℕ → ℕ) (threads ahead : List Thread) → AreAhead ops ks threads ahead → (t : ℕ) → ((x : Thread) → slice_get threads t ≡ Some x → is_next_local ops x.activity ≡ false) → slice_get ahead t ≡ slice_get threads t
ahead_there ops ks threads ahead are t none = are t ∙ by_thread (slice_get threads t) refl
  where
    by_thread : (o : Option Thread) → slice_get threads t ≡ o → option_map (run_local ops (ks t)) o ≡ o
    by_thread None is = refl
    by_thread (Some x) is = ap (λ (y : Thread). Some y) (run_stays ops (ks t) x (none x is))

pub ahead_same : (ops : List Op) (ks : ℕ → ℕ) (threads ahead : List Thread) → AreAhead ops ks threads ahead → NoneAtLocal ops threads → ahead ≡ threads
ahead_same ops ks threads ahead are none = same_lists ahead threads (λ t. ahead_there ops ks threads ahead are t (none t))

-- a thread without picks is at no local instruction
pub blocked_not_local : (s : State) (t : ℕ) (x : Thread) → picks_of s t ≡ 0 → slice_get s.threads t ≡ Some x → is_next_local s.component.operations x.activity ≡ false
blocked_not_local s t x none stands = by_test (is_next_local s.component.operations x.activity) refl
  where
    by_test : (test : Bool) → is_next_local s.component.operations x.activity ≡ test → test ≡ false
    by_test false is = refl
    by_test true is =
        let some : 0 < picks_of s t = local_feasible s t (standing_local s t x stands ∙ is) in
        absurd (omega (arith, some, none))

pub ended_no_move : (s : State) → IsEnded s → HasNoMove s
ended_no_move s (inl complete) = complete_no_move s complete
ended_no_move s (inr stuck) = stuck.1

pub ended_none_local : (s : State) → HasNoMove s → NoneAtLocal s.component.operations s.threads
ended_none_local s none t x stands = blocked_not_local s t x (none t) stands

-- ---- schedules without a guard

abbrev pub NoGuard : State → Move → Type 0
NoGuard s m = Unit {0}

pub unguarded : (u : List Move) (s end : State) (h : List Event) → LeadsBy NoGuard s u end h → Leads s u end h
unguarded [] s end h p = p
unguarded (m ∷ u) s end h p = (p.0, p.1, p.2, p.3, unguarded u p.0 end p.2 p.4, p.5)

pub guarded_by_none : (u : List Move) (s end : State) (h : List Event) → Leads s u end h → LeadsBy NoGuard s u end h
guarded_by_none [] s end h p = p
guarded_by_none (m ∷ u) s end h p = (p.0, p.1, p.2, p.3, guarded_by_none u p.0 end p.2 p.4, p.5, tt)

-- one that keeps ahead has ended where the other has
ends_there : (s : State) (n : ℕ) (end : State) (history : List Event) (most : ℕ) → IsEnded end → KeepsAhead NoGuard s n (λ t. 0) s.threads end history most → LeadsToo s n end history most
ends_there s n end history most ended k =
    let same : k.threads ≡ end.threads = ahead_same end.component.operations k.counts end.threads k.threads k.are (ended_none_local end (ended_no_move end ended)) in
    let there = unguarded k.moves (grained s n) (placed end n k.threads) history k.leads in
    record {
      moves = k.moves;
      leads = subst (λ x. Leads (grained s n) k.moves (placed end n x) history) same there;
      few = k.few;
    }

pub no_longer : (s : State) (n : ℕ) (u : List Move) (end : State) (history : List Event) → Leads s u end history → IsEnded end → s.component.local ≤ n → LeadsToo s n end history (length u)
no_longer s n u end history leads ended more =
    ends_there s n end history (length u) ended
    (keeps_ahead NoGuard n (λ x m ks ahead are guard. tt) u s end history (λ t. 0) s.threads more (ahead_itself s.component.operations s.threads) (guarded_by_none u s end history leads))

pub same_ends : (s : State) (n : ℕ) (u : List Move) (end : State) (history : List Event) → Leads s u end history → IsEnded end → LeadsToo s n end history ((s.component.local + 1) * length u)
same_ends s n u end history leads ended =
    let first = leads_alone NoGuard (λ x r m k same opens guard. tt) u s end history (guarded_by_none u s end history leads) in
    let r = grained s 0 in
    let onto = keeps_ahead NoGuard n (λ x m ks ahead are guard. tt) first.moves r (grained end 0) history (λ t. 0) r.threads (omega arith) (ahead_itself r.component.operations r.threads) first.leads in
    let same : onto.threads ≡ end.threads = ahead_same end.component.operations onto.counts end.threads onto.threads onto.are (ended_none_local end (ended_no_move end ended)) in
    let there = unguarded onto.moves (grained s n) (placed (grained end 0) n onto.threads) history onto.leads in
    let few = first.few in
    let fewer = onto.few in
    record {
      moves = onto.moves;
      leads = subst (λ x. Leads (grained s n) onto.moves (placed (grained end 0) n x) history) same there;
      few = omega (arith, few, fewer);
    }
