-- Serial schedules, one after another.
use Rattle.std.proofs.Common.{◌≡◌, ℕ, ◌⊎◌, List, [], ◌∷◌, ◌++◌, length, Option, Some, None, refl, sym, ◌∙◌, ap, subst, inl, inr, append_assoc}
use Rattle.std.proofs.lemmas.List.{append-nil}
use Rattle.lu_machine.specs.declared.event.Event.{Event}
use Rattle.lu_machine.specs.declared.event.Event.TheVariants.{Call}
use Rattle.lu_test.specs.declared.schedule.Move.{Move}
use Rattle.lu_machine.specs.States.{State}
use Rattle.lu_machine.specs.Steps.{Step}
use Rattle.lu_machine.specs.Runs.{Leads, with_event}
use Rattle.lu_machine.proofs.StepLaws.{step_same, step_feasible}
use Rattle.lu_machine.specs.Schedules.{BeginsWith}
use Rattle.lu_serial.specs.Serial.{IsByOpen, IsSerialFrom, SerialRun, HasTaken}
use Rattle.lu_serial.specs.Walks.{IsSerialMove}
use Rattle.lu_machine.proofs.Paths.{leads_same, leads_split}

pub serial_split : (s : State) (u v : List Move) (mid : State) (h : List Event) → Leads s u mid h → IsSerialFrom s (u ++ v) → IsSerialFrom s u × IsSerialFrom mid v
serial_split s [] v mid h p f = (tt, subst (λ x. IsSerialFrom x v) (sym p.0) f)
serial_split s (m ∷ u) v mid h p f =
    let rest = serial_split p.0 u v mid p.2 p.4 (f.1 p.0 p.1 p.3) in
    ((f.0, (λ next event step. subst (λ x. IsSerialFrom x u) (step_same s m p.0 next p.1 event p.3 step).0 rest.0)), rest.1)

pub serial_on : (s : State) (u v : List Move) (mid : State) (h : List Event) → Leads s u mid h → IsSerialFrom s u → IsSerialFrom mid v → IsSerialFrom s (u ++ v)
serial_on s [] v mid h p f g = subst (λ x. IsSerialFrom x v) p.0 g
serial_on s (m ∷ u) v mid h p f g =
    (f.0, (λ next event step. subst (λ x. IsSerialFrom x (u ++ v)) (step_same s m p.0 next p.1 event p.3 step).0 (serial_on p.0 u v mid p.2 p.4 (f.1 p.0 p.1 p.3) g)))

module _ (start : State) (u : List Move) (s : State) (h : List Event) (at : Leads start u s h) where
  -- one serial move more
  pub serial_child : IsSerialFrom start u → (m : Move) → IsByOpen s m → IsSerialFrom start (u ++ m ∷ [])
  serial_child f m by = serial_on start u (m ∷ []) s h at f (by, (λ next event step. tt))

  here_rest : (P : State → List Event → Type 0) (v rest : List Move) → v ≡ u ++ rest → (end : State) (k history : List Event) → Leads s rest end k → IsSerialFrom s rest → history ≡ h ++ k → P end history → ((v ≡ u) × P s h) ⊎ ((m : Move) × IsSerialMove s m × BeginsWith v (u ++ m ∷ []))
  here_rest P v [] e end k history p g f holds =
      let is : history ≡ h = f ∙ (ap (λ x. h ++ x) p.1 ∙ append-nil h) in
      inl (e ∙ append-nil u, subst (P s) is (subst (λ x. P x history) p.0 holds))
  here_rest P v (m ∷ w) e end k history p g f holds =
      inr (m, (step_feasible s m p.0 p.1 p.3, g.0), (w, e ∙ sym (append_assoc u (m ∷ []) w)))

  -- a serial schedule that begins with u is u itself, or goes on by a serial move
  pub here : (P : State → List Event → Type 0) (v : List Move) → BeginsWith v u → SerialRun start v P → ((v ≡ u) × P s h) ⊎ ((m : Move) × IsSerialMove s m × BeginsWith v (u ++ m ∷ []))
  here P v b r =
      let leads : Leads start (u ++ b.0) r.end r.history = subst (λ x. Leads start x r.end r.history) b.1 r.leads in
      let serial : IsSerialFrom start (u ++ b.0) = subst (IsSerialFrom start) b.1 r.serial in
      let split = leads_split start u b.0 r.end r.history leads in
      let same = leads_same start u split.mid s split.first h split.begins at in
      let on : Leads s b.0 r.end split.second = subst (λ x. Leads x b.0 r.end split.second) same.0 split.goes_on in
      here_rest P v b.0 b.1 r.end split.second r.history on (serial_split start u b.0 s h at serial).1 (split.whole ∙ ap (λ x. x ++ split.second) same.1) r.holds

  pub run_here : (P : State → List Event → Type 0) → IsSerialFrom start u → P s h → SerialRun start u P
  run_here P f holds = record { serial = f; end = s; history = h; leads = at; holds = holds }

  -- what holds where u leads
  pub at_here : (P : State → List Event → Type 0) → SerialRun start u P → P s h
  at_here P r =
      let same = leads_same start u r.end s r.history h r.leads at in
      subst (P s) same.1 (subst (λ x. P x r.history) same.0 r.holds)

pub no_event : (e : Option Event) (h : List Event) → [] ≡ with_event e h → (e ≡ None) × (h ≡ [])
no_event None h f = (refl, sym f)
no_event (Some e) h f = cc

-- where moves give no event, none of them gives one
silent : (s : State) (b : List Move) (c : Move) (a : List Move) (end : State) → Leads s (b ++ c ∷ a) end [] → (idle : State) (h : List Event) → Leads s b idle h → (called : State) (e : Event) → Step idle c called (Some e) → ⊥
silent s [] c a end p idle h q called e step =
    let none = (no_event p.1 p.2 p.5).0 in
    let same = step_same s c p.0 called p.1 (Some e) p.3 (subst (λ x. Step x c called (Some e)) q.0 step) in
    let f = same.1 in cc
silent s (m ∷ b) c a end p idle h q called e step =
    let none = (no_event p.1 p.2 p.5).1 in
    let same = step_same s m q.0 p.0 q.1 p.1 q.3 p.3 in
    silent p.0 b c a end (subst (λ x. Leads p.0 (b ++ c ∷ a) end x) none p.4) idle q.2 (subst (λ x. Leads x b idle q.2) same.0 q.4) called e step

unique : (s : State) (b : List Move) (c : Move) (a b' : List Move) (c' : Move) (a' : List Move) → b ++ c ∷ a ≡ b' ++ c' ∷ a' →
    (idle : State) (h : List Event) → Leads s b idle h → (called : State) (e : Event) → Step idle c called (Some e) → (end : State) → Leads called a end [] →
    (idle' : State) (h' : List Event) → Leads s b' idle' h' → (called' : State) (e' : Event) → Step idle' c' called' (Some e') → (end' : State) → Leads called' a' end' [] → length a ≡ length a'
unique s [] c a [] c' a' is idle h p called e step end on idle' h' p' called' e' step' end' on' = let f : a ≡ a' = cc in ap length f
unique s [] c a (m ∷ b') c' a' is idle h p called e step end on idle' h' p' called' e' step' end' on' =
    let first : c ≡ m = cc in
    let rest : a ≡ b' ++ c' ∷ a' = cc in
    let same = step_same s c called p'.0 (Some e) p'.1 (subst (λ x. Step x c called (Some e)) p.0 step) (subst (λ x. Step s x p'.0 p'.1) (sym first) p'.3) in
    absurd (silent called b' c' a' end (subst (λ x. Leads called x end []) rest on) idle' p'.2 (subst (λ x. Leads x b' idle' p'.2) (sym same.0) p'.4) called' e' step')
unique s (m ∷ b) c a [] c' a' is idle h p called e step end on idle' h' p' called' e' step' end' on' =
    let first : c' ≡ m = cc in
    let rest : a' ≡ b ++ c ∷ a = cc in
    let same = step_same s c' called' p.0 (Some e') p.1 (subst (λ x. Step x c' called' (Some e')) p'.0 step') (subst (λ x. Step s x p.0 p.1) (sym first) p.3) in
    absurd (silent called' b c a end' (subst (λ x. Leads called' x end' []) rest on') idle p.2 (subst (λ x. Leads x b idle p.2) (sym same.0) p.4) called e step)
unique s (m ∷ b) c a (n ∷ b') c' a' is idle h p called e step end on idle' h' p' called' e' step' end' on' =
    let first : n ≡ m = cc in
    let rest : b ++ c ∷ a ≡ b' ++ c' ∷ a' = cc in
    let same = step_same s m p'.0 p.0 p'.1 p.1 (subst (λ x. Step s x p'.0 p'.1) first p'.3) p.3 in
    unique p.0 b c a b' c' a' rest idle p.2 p.4 called e step end on idle' p'.2 (subst (λ x. Leads x b' idle' p'.2) same.0 p'.4) called' e' step' end' on'

-- how many moves the open operation has taken is determined
pub taken_same : (s : State) (u : List Move) (end : State) (t i m n : ℕ) → HasTaken s u end t m → HasTaken s u end i n → m ≡ n
taken_same s u end t i m n x y =
    let a = x.call in
    let b = y.call in
    sym x.count ∙ unique s a.before a.move x.after b.before b.move y.after (sym a.parts ∙ b.parts) a.idle a.history a.begins x.called (Call t a.number) a.step end x.goes_on b.idle b.history b.begins y.called (Call i b.number) b.step end y.goes_on ∙ y.count
