-- Without offence operations are short.
use Rattle.std.proofs.Common.{◌≡◌, ◌<◌, ◌≤◌, ◌+◌, min, ℕ, List, [], ◌∷◌, ◌++◌, length, take, drop, Some, None, refl, sym, ◌∙◌, ap, subst, inl, inr, arith, append_assoc, length-append}
use Rattle.std.proofs.lemmas.Bool.{cases_lt}
use Rattle.std.proofs.lemmas.List.{take-append-drop, length-take-le}
use Rattle.lu_machine.specs.declared.event.Event.{Event}
use Rattle.lu_machine.specs.declared.event.Event.TheVariants.{Call}
use Rattle.lu_test.specs.declared.schedule.Move.{Move}
use Rattle.lu_machine.specs.States.{State}
use Rattle.lu_machine.specs.Steps.{picks_of}
use Rattle.lu_machine.specs.Runs.{Leads}
use Rattle.lu_machine.proofs.StepLaws.{step_feasible}
use Rattle.lu_history.specs.declared.serial.SerialOp.{SerialOp}
use Rattle.lu_serial.specs.Serial.{HasOpen, IsSerialFrom, HasTaken, RunsToEvent, Takes, IsSeriallyEnded, IsSeriallyCut}
use Rattle.lu_serial.specs.Offences.{NoOffence}
use Rattle.lu_machine.proofs.Paths.{child_leads, leads_on, leads_same, leads_split}
use Rattle.lu_serial.proofs.SerialPaths.{serial_split, no_event}
use Rattle.lu_serial.proofs.Opening.{step_turned, silent_keeps, taken_more, call_opens}

silent_open : (s : State) (u : List Move) (end : State) (t : ℕ) → Leads s u end [] → HasOpen s t → HasOpen end t
silent_open s [] end t p h = subst (λ x. HasOpen x t) (sym p.0) h
silent_open s (m ∷ u) end t p h =
    let none = no_event p.1 p.2 p.5 in
    let turned = step_turned s m p.0 p.1 p.3 in
    silent_open p.0 u end t (subst (Leads p.0 u end) none.1 p.4) (silent_keeps s m p.0 p.1 turned none.0 t h)

first_empty : {A : Type 0} (a b : List A) → [] ≡ a ++ b → a ≡ []
first_empty [] b e = refl
first_empty (x ∷ a) b e = cc

module _ (s : State) (bound : ℕ) (u rest : List Move) (q : List SerialOp) (end : State) (t n : ℕ) (none : NoOffence s bound) (ended : IsSeriallyEnded s (u ++ rest) q) (h : HasTaken s u end t n) where
  abbrev a : List Move
  a = take bound h.after

  abbrev d : List Move
  d = drop bound h.after

  halves : a ++ d ≡ h.after
  halves = take-append-drop bound h.after

  abbrev begun : List Move
  begun = h.call.before ++ h.call.move ∷ a

  whole : u ++ rest ≡ begun ++ (d ++ rest)
  whole =
      ap (λ x. x ++ rest) h.call.parts
      ∙ ap (λ x. (h.call.before ++ h.call.move ∷ x) ++ rest) (sym halves)
      ∙ append_assoc h.call.before (h.call.move ∷ (a ++ d)) rest
      ∙ ap (λ x. h.call.before ++ h.call.move ∷ x) (append_assoc a d rest)
      ∙ sym (append_assoc h.call.before (h.call.move ∷ a) (d ++ rest))

  over : (m : Move) (w : List Move) → d ++ rest ≡ m ∷ w → length a ≡ bound → IsSeriallyCut s bound begun
  over m w is long =
      let parts : u ++ rest ≡ begun ++ (m ∷ w) = whole ∙ ap (λ x. begun ++ x) is in
      let leads : Leads s (begun ++ (m ∷ w)) ended.end ended.history = subst (λ x. Leads s x ended.end ended.history) parts ended.leads in
      let serial : IsSerialFrom s (begun ++ (m ∷ w)) = subst (IsSerialFrom s) parts ended.serial in
      let split = leads_split s begun (m ∷ w) ended.end ended.history leads in
      let on = split.goes_on in
      let serials = serial_split s begun (m ∷ w) split.mid split.first split.begins serial in
      let inner = leads_split h.called a d end [] (subst (λ x. Leads h.called x end []) (sym halves) h.goes_on) in
      let quiet : Leads h.called a inner.mid [] = subst (Leads h.called a inner.mid) (first_empty inner.first inner.second inner.whole) inner.begins in
      let k = h.call in
      let there : Leads s begun inner.mid (k.history ++ Call t k.number ∷ []) = leads_on s k.before (k.move ∷ a) k.idle inner.mid k.history (Call t k.number ∷ []) k.begins (h.called, Some (Call t k.number), [], k.step, quiet, refl) in
      let same : inner.mid ≡ split.mid = (leads_same s begun inner.mid split.mid (k.history ++ Call t k.number ∷ []) split.first there split.begins).0 in
      let quiet_mid : Leads h.called a split.mid [] = subst (λ x. Leads h.called a x []) same quiet in
      let turned = step_turned k.idle k.move h.called (Some (Call t k.number)) k.step in
      let opened : HasOpen split.mid t = silent_open h.called a split.mid t quiet_mid (call_opens k.idle k.move h.called (Some (Call t k.number)) turned t k.number refl) in
      let by : m.thread ≡ t = serials.1.0 t opened in
      let able : m.pick < picks_of split.mid m.thread = step_feasible split.mid m on.0 on.1 on.3 in
      let picks : picks_of split.mid m.thread ≡ picks_of split.mid t = ap (picks_of split.mid) by in
      let taken : HasTaken s begun split.mid t bound = record {
        called = h.called;
        after = a;
        call = record { before = k.before; move = k.move; parts = refl; idle = k.idle; history = k.history; begins = k.begins; number = k.number; step = k.step };
        count = long;
        goes_on = quiet_mid;
      } in
      record { serial = serials.0; end = split.mid; history = split.first; leads = split.begins; holds = (t, opened, omega arith, taken) }

  by_rest : (more : List Move) → d ++ rest ≡ more → length a ≡ bound → n + min (length rest) 1 ≤ bound
  by_rest [] is long =
      let l : length d + length rest ≡ 0 = sym (length-append d rest) ∙ ap length is in
      let k : length a + length d ≡ length h.after = sym (length-append a d) ∙ ap length halves in
      let c : length h.after ≡ n = h.count in
      omega arith
  by_rest (m ∷ w) is long = absurd (none begun (inl (over m w is long)))

  -- where n moves went by without an event, and more follow, the next is one of those that the operation may take
  short : n + min (length rest) 1 ≤ bound
  short =
      elim (cases_lt n bound) [
        | inl lt ↦ omega arith
        | inr ge ↦ (let c : length h.after ≡ n = h.count in by_rest (d ++ rest) refl (length-take-le bound h.after (omega arith)))
      ]

module _ (s : State) (bound : ℕ) (u : List Move) (q : List SerialOp) (none : NoOffence s bound) (ended : IsSeriallyEnded s u q) where
  -- the operation has taken n moves, and goes on
  few_more : (after rest v : List Move) (here : State) (h : List Event) (t n : ℕ) → Leads s v here h → HasTaken s v here t n → u ≡ v ++ (after ++ rest) → RunsToEvent here t after → n ≤ bound → n + length after ≤ bound
  few_more [] rest v here h t n leads taken parts goes le = omega arith
  few_more (m ∷ []) rest v here h t n leads taken parts goes le =
      let next : n + min (length (m ∷ rest)) 1 ≤ bound = short s bound v (m ∷ rest) q here t n none (subst (λ x. IsSeriallyEnded s x q) parts ended) taken in
      omega arith
  few_more (m ∷ k ∷ after) rest v here h t n leads taken parts goes le =
      let next : n + min (length (m ∷ (k ∷ after) ++ rest)) 1 ≤ bound = short s bound v (m ∷ (k ∷ after) ++ rest) q here t n none (subst (λ x. IsSeriallyEnded s x q) parts ended) taken in
      let there = goes.1 in
      let step = goes.2 in
      let longer = taken_more here m there None (step_turned here m there None step) s v h leads step t n refl taken in
      let more : (n + 1) + length (k ∷ after) ≤ bound = few_more (k ∷ after) rest (v ++ m ∷ []) there _ t (n + 1) (child_leads s v here h leads m there None step) longer (parts ∙ sym (append_assoc v (m ∷ []) ((k ∷ after) ++ rest))) goes.3 (omega arith) in
      omega arith

  pub takes_few : (n : ℕ) → Takes s u n → n ≤ bound
  takes_few n x =
      let c = x.call in
      let call = Some (Call x.thread c.number) in
      let v = c.before ++ c.move ∷ [] in
      let taken : HasTaken s v x.called x.thread 0 = record {
        called = x.called;
        after = [];
        call = record { before = c.before; move = c.move; parts = refl; idle = c.idle; history = c.history; begins = c.begins; number = c.number; step = c.step };
        count = refl;
        goes_on = (refl, refl);
      } in
      let few = few_more x.after x.rest v x.called _ x.thread 0 (child_leads s c.before c.idle c.history c.begins c.move x.called call c.step) taken (c.parts ∙ sym (append_assoc c.before (c.move ∷ []) (x.after ++ x.rest))) x.goes_on (omega arith) in
      let count = x.count in
      omega arith
