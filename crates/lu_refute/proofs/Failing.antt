-- Whether a schedule that is run anew is ended, and not good for a set.
use Rattle.std.proofs.Common.{◌≡◌, ◌≢◌, ℕ, List, [], ◌∷◌, ◌++◌, append_assoc, refl, sym, ap, subst, ◌∙◌, inl, inr}
use Rattle.std.proofs.lemmas.List.{append-nil}
use Rattle.lu_component.specs.Component.{Component}
use Rattle.lu_test.specs.declared.schedule.Move.{Move}
use Rattle.lu_test.specs.Matrix.{Matrix}
use Rattle.lu_machine.specs.declared.event.Event.{Event}
use Rattle.lu_machine.specs.declared.event.Status.{Status}
use Rattle.lu_machine.specs.declared.event.Status.TheVariants.{Running, Complete, Stuck}
use Rattle.lu_machine.specs.States.{State, progress}
use Rattle.lu_machine.specs.Starts.{IsStart}
use Rattle.lu_machine.specs.Runs.{Leads, with_event}
use Rattle.lu_machine.specs.Ends.{HasStatus, IsEnded}
use Rattle.lu_machine.specs.Schedules.{Reaches}
use Rattle.lu_machine.proofs.Starting.{start_same}
use Rattle.lu_machine.proofs.Ahead.{not_both, ended_no_move}
use Rattle.lu_machine.proofs.Paths.{leads_same, with_event-append}
use Rattle.lu_history.specs.Histories.{IsWellFormed}
use Rattle.lu_history.specs.Standing.{Agree}
use Rattle.lu_history.proofs.Following.{start_agrees, step_agrees}
use Rattle.lu_history.specs.declared.serial.SerialOp.{SerialOp}
use Rattle.lu_witness.specs.declared.judgement.Verdict.{Verdict}
use Rattle.lu_witness.specs.declared.judgement.Verdict.TheVariants.{Good, NoWitness, NoWitnessFor}
use Rattle.lu_witness.specs.Witnesses.{IsVerdict}
use Rattle.lu_witness.specs.Goodness.{IsGoodAt}
use Rattle.lu_witness.proofs.Endings.{judged_good, judged_bad, judged_without}
use Rattle.lu_replay.specs.Replays.{PlaysToStatus, IsInfeasibleAt}
use Rattle.lu_replay.proofs.Playing.{replay_or_fault}
use Rattle.lu_refute.specs.Linearizable.{Refutes}

-- the history of a run follows its state
agrees_along : (s : State) (u : List Move) (end : State) (h k : List Event) → Agree (progress s) k → Leads s u end h → Agree (progress end) (k ++ h)
agrees_along s [] end h k agree p = rw (p.0, p.1, append-nil k) agree
agrees_along s (m ∷ u) end h k agree p =
    let next = step_agrees s m p.0 p.1 k agree p.3 in
    let rest : Agree (progress end) ((k ++ with_event p.1 []) ++ p.2) = agrees_along p.0 u end p.2 (k ++ with_event p.1 []) next p.4 in
    let joined : (k ++ with_event p.1 []) ++ p.2 ≡ k ++ h =
    append_assoc k (with_event p.1 []) p.2 ∙ (ap (λ x. k ++ x) (with_event-append p.1 [] p.2) ∙ ap (λ x. k ++ x) (sym p.5)) in
    subst (Agree (progress end)) joined rest

status_of : (end : State) → IsEnded end → (status : Status) × HasStatus end status
status_of end (inl complete) = (Complete, complete)
status_of end (inr stuck) = (Stuck, stuck)

module _ (c : Component) (matrix : Matrix) (s : State) (is : IsStart c matrix s) (M : List SerialOp → Type 0) (u : List Move) where
  -- an infeasible schedule refutes nothing
  pub infeasible_refutes : (i : ℕ) → IsInfeasibleAt c matrix u i → Refutes M s u → ⊥
  infeasible_refutes i at r =
      let status = status_of r.end r.holds.0 in
      replay_or_fault c matrix u r.history status.0 i (r.end, (s, is, r.leads), status.1) at

  module _ (end : Status) (h : List Event) (shows : PlaysToStatus c matrix u h end) (well : IsWellFormed h) (v : Verdict) (judged : IsVerdict M h v) where
    leads : Leads s u (shows.0) h
    leads = subst (λ (x : State). Leads x u (shows.0) h) (start_same c matrix shows.1.0 s shows.1.1 is) shows.1.2

    agree : Agree (progress (shows.0)) h
    agree = agrees_along s u (shows.0) h [] (start_agrees c matrix s is) leads

    -- what holds where the schedule leads
    here : (P : State → List Event → Type 0) → Reaches s u P → P (shows.0) h
    here P r =
        let same = leads_same s u r.end (shows.0) r.history h r.leads leads in
        subst (P (shows.0)) same.1 (subst (λ (x : State). P x r.history) same.0 r.holds)

    ended_by : (status : Status) → HasStatus (shows.0) status → status ≢ Running → IsEnded (shows.0)
    ended_by Running has running = absurd (running refl)
    ended_by Complete has running = inl has
    ended_by Stuck has running = inr has

    not_good : (w : Verdict) → IsVerdict M h w → w ≢ Good → IsEnded (shows.0) → IsGoodAt M (shows.0) h → ⊥
    not_good Good is_verdict bad ended good = bad refl
    not_good NoWitness is_verdict bad ended good = judged_bad (shows.0) h agree well M ended is_verdict good
    not_good (NoWitnessFor t) is_verdict bad ended good = judged_without (shows.0) h agree well M ended t is_verdict good

    pub refutes_by : end ≢ Running → v ≢ Good → Refutes M s u
    refutes_by running bad =
        let ended = ended_by end shows.2 running in
        record { end = shows.0; history = h; leads = leads; holds = (ended, not_good v judged bad ended) }

    not_running : (status : Status) → HasStatus (shows.0) status → IsEnded (shows.0) → status ≢ Running
    not_running Running has ended running = not_both (shows.0) has (ended_no_move (shows.0) ended)
    not_running Complete has ended running = cc
    not_running Stuck has ended running = cc

    pub by_refutes : Refutes M s u → (end ≢ Running) × (v ≢ Good)
    by_refutes r =
        let holds = here (λ x k. IsEnded x × (IsGoodAt M x k → ⊥)) r in
        (not_running end shows.2 holds.0, λ good. holds.1 (judged_good (shows.0) h agree well M holds.0 (subst (IsVerdict M h) good judged)))
