-- Serial schedules, move by move.
use Rattle.std.proofs.Common.{◌≡◌, ℕ, List, [], ◌∷◌, ◌++◌, Option, sym, ◌∙◌, ap, subst}
use Rattle.lu_test.specs.declared.schedule.Move.{Move}
use Rattle.lu_machine.specs.declared.event.Event.{Event}
use Rattle.lu_machine.specs.States.{State, call_count}
use Rattle.lu_machine.specs.Steps.{Step}
use Rattle.lu_machine.specs.Runs.{Leads, with_event}
use Rattle.lu_machine.proofs.StepLaws.{step_same}
use Rattle.lu_machine.proofs.Paths.{with_event-append}
use Rattle.lu_history.specs.declared.serial.SerialOp.{SerialOp}
use Rattle.lu_serial.specs.Serial.{IsByOpen, IsSerialFrom, IsSeriallyEnded, EndsAs}
use Rattle.lu_serial.proofs.Moves.{HasSeats, count_same, seats_on, step_stepped}

-- The schedule leads from s to the state end, with this history, and each move made while an operation is open is by its thread.
abbrev pub LeadsSerially : State → List Move → State → List Event → Type 0
LeadsSerially s [] end history = (end ≡ s) × (history ≡ [])
LeadsSerially s (m ∷ u) end history =
    (next : State) × (event : Option Event) × (rest : List Event)
    × Step s m next event × LeadsSerially next u end rest × (history ≡ with_event event rest)
    × IsByOpen s m

pub serially_leads : (s : State) (u : List Move) (end : State) (h : List Event) → LeadsSerially s u end h → Leads s u end h
serially_leads s [] end h p = p
serially_leads s (m ∷ u) end h p = (p.0, p.1, p.2, p.3, serially_leads p.0 u end p.2 p.4, p.5)

pub serially_from : (s : State) (u : List Move) (end : State) (h : List Event) → IsSerialFrom s u → Leads s u end h → LeadsSerially s u end h
serially_from s [] end h serial p = p
serially_from s (m ∷ u) end h serial p = (p.0, p.1, p.2, p.3, serially_from p.0 u end p.2 (serial.1 p.0 p.1 p.3) p.4, p.5, serial.0)

pub serially_to : (s : State) (u : List Move) (end : State) (h : List Event) → LeadsSerially s u end h → IsSerialFrom s u
serially_to s [] end h p = tt
serially_to s (m ∷ u) end h p =
    (p.6, (λ next event step. subst (λ x. IsSerialFrom x u) (step_same s m p.0 next p.1 event p.3 step).0 (serially_to p.0 u end p.2 p.4)))

-- one serial schedule after another
pub serially_on : (s : State) (u v : List Move) (mid end : State) (h k : List Event) → LeadsSerially s u mid h → LeadsSerially mid v end k → LeadsSerially s (u ++ v) end (h ++ k)
serially_on s [] v mid end h k p q = rw (← p.0, p.1) q
serially_on s (m ∷ u) v mid end h k p q =
    (p.0, p.1, p.2 ++ k, p.3, serially_on p.0 u v mid end p.2 k p.4 q, ap (λ x. x ++ k) p.5 ∙ with_event-append p.1 p.2 k, p.6)

pub ended_run : (s : State) (u : List Move) (end : State) (h : List Event) (q : List SerialOp) → LeadsSerially s u end h → EndsAs end h q → IsSeriallyEnded s u q
ended_run s u end h q p ends = record { serial = serially_to s u end h p; end = end; history = h; leads = serially_leads s u end h p; holds = ends }

pub leads_matrix : (s : State) (u : List Move) (end : State) (h : List Event) → Leads s u end h → end.matrix ≡ s.matrix
leads_matrix s [] end h p = ap (λ (x : State). x.matrix) p.0
leads_matrix s (m ∷ u) end h p = leads_matrix p.0 u end p.2 p.4 ∙ (step_stepped s m p.0 p.1 p.3).matrix

pub leads_seats : (s : State) (u : List Move) (end : State) (h : List Event) → Leads s u end h → HasSeats s → HasSeats end
leads_seats s [] end h p seats = subst HasSeats (sym p.0) seats
leads_seats s (m ∷ u) end h p seats = leads_seats p.0 u end p.2 p.4 (seats_on s m p.0 p.1 p.3 seats)

-- each thread has as many calls as before
pub leads_count : (s : State) (u : List Move) (end : State) (h : List Event) → Leads s u end h → (t : ℕ) → call_count end t ≡ call_count s t
leads_count s u end h p t = count_same s end t (leads_matrix s u end h p)
