-- Serial schedules, operation by operation.
use Rattle.std.proofs.Common.{arith, ◌≡◌, ℕ, ◌+◌, ◌<◌, ◌⊎◌, List, [], ◌∷◌, ◌++◌, Option, Some, None, refl, sym, ◌∙◌, ap, subst, inl, inr}
use Rattle.lu_test.specs.declared.schedule.Move.{Move}
use Rattle.lu_machine.specs.declared.event.Event.{Event}
use Rattle.lu_machine.specs.declared.event.Event.TheVariants.{Call, Return}
use Rattle.lu_machine.specs.declared.event.Outcome.{Outcome}
use Rattle.lu_machine.specs.declared.thread.Activity.TheVariants.{Idle}
use Rattle.lu_machine.specs.States.{State, call_count}
use Rattle.lu_machine.specs.Runs.{Leads, with_event}
use Rattle.lu_machine.proofs.Keeping.{step_moved}
use Rattle.lu_history.specs.declared.serial.SerialOp.{SerialOp}
use Rattle.lu_history.specs.Parts.{as_serial}
use Rattle.lu_serial.specs.Serial.{HasOpen, IsByOpen, entries_of}
use Rattle.lu_serial.proofs.Opening.{How, same_or_not}
use Rattle.lu_serial.specs.Whole.{IsQuiet}
use Rattle.lu_serial.proofs.Moves.{HasSeats, Stepped, done_at, done_more, done_of, done_others, done_same, open_busy, step_stepped}
use Rattle.lu_serial.proofs.Ops.{IsOnlyOpen, open_before}
use Rattle.lu_serial.proofs.Serially.{LeadsSerially, leads_matrix, leads_seats, serially_leads, serially_on}
use Rattle.lu_client.specs.Alone.{AllBy}

-- an operation, from its call to its return
pub record OneOp (s : State) (op : SerialOp) (end : State) : Type 0 where
  pub moves : List Move
  pub history : List Event
  pub leads : LeadsSerially s moves end history
  pub by : AllBy op.thread moves
  pub quiet : IsQuiet end
  pub entries : entries_of history ≡ op ∷ []
  pub left : done_of s op.thread < call_count s op.thread
  pub more : done_of end op.thread ≡ done_of s op.thread + 1
  pub others : (x : ℕ) → (x ≡ op.thread → ⊥) → done_of end x ≡ done_of s x

-- an operation from its call on, which is open still
pub record OpenPart (s : State) (t : ℕ) (moves : List Move) (end : State) : Type 0 where
  pub history : List Event
  pub leads : LeadsSerially s moves end history
  pub by : AllBy t moves
  pub some : (m : Move) × (u : List Move) × (moves ≡ m ∷ u)
  pub busy : HasOpen end t
  pub only : IsOnlyOpen end t
  pub entries : entries_of history ≡ []
  pub left : done_of s t < call_count s t
  pub same : done_of end t ≡ done_of s t

-- operations, one after another
abbrev pub Chain : State → List SerialOp → State → Type 0
Chain s [] end = end ≡ s
Chain s (op ∷ q) end = (mid : State) × OneOp s op mid × Chain mid q end

-- the end itself, or one more operation that is open
abbrev pub Tail : State → State → Type 0
Tail mid end = (end ≡ mid) ⊎ ((t : ℕ) × (moves : List Move) × OpenPart mid t moves end)

pub record Decomposed (s end : State) (q : List SerialOp) : Type 0 where
  pub mid : State
  pub chain : Chain s q mid
  pub tail : Tail mid end

-- the open operation of thread t returns, and others follow
record Closed (s : State) (t : ℕ) (end : State) (h : List Event) : Type 0 where
  moves : List Move
  mid : State
  number : ℕ
  outcome : Outcome
  leads : LeadsSerially s moves mid (Return t number outcome ∷ [])
  by : AllBy t moves
  quiet : IsQuiet mid
  more : done_of mid t ≡ done_of s t + 1
  others : (x : ℕ) → (x ≡ t → ⊥) → done_of mid x ≡ done_of s x
  q : List SerialOp
  entries : entries_of h ≡ record { thread = t; outcome = as_serial outcome } ∷ q
  rest : Decomposed mid end q

-- or it is open to the end
record Still (s : State) (t : ℕ) (u : List Move) (end : State) (h : List Event) : Type 0 where
  by : AllBy t u
  none : h ≡ []
  busy : HasOpen end t
  only : IsOnlyOpen end t
  same : done_of end t ≡ done_of s t

FromQuiet : List Move → Type 0
FromQuiet u = (s end : State) (h : List Event) → IsQuiet s → LeadsSerially s u end h → Decomposed s end (entries_of h)

FromOpen : List Move → Type 0
FromOpen u = (s end : State) (h : List Event) (t : ℕ) → HasOpen s t → IsOnlyOpen s t → LeadsSerially s u end h → Closed s t end h ⊎ Still s t u end h

pub only_after : (s : State) (m : Move) (new : State) (e : Option Event) → (by : Stepped s m new e) → IsOnlyOpen s m.thread → IsOnlyOpen new m.thread
only_after s m new e by only x h =
    elim (same_or_not x m.thread) [ inl same ↦ same | inr apart ↦ only x (open_before s m new e by x apart h) ]

quiet_after : (s : State) (m : Move) (new : State) (e : Option Event) → (by : Stepped s m new e) → by.after.activity ≡ Idle → IsOnlyOpen s m.thread → IsQuiet new
quiet_after s m new e by idle only x h =
    elim (same_or_not x m.thread) [
      | inl same ↦ open_busy new m.thread by.after by.is (subst (HasOpen new) same h) idle
      | inr apart ↦ apart (only x (open_before s m new e by x apart h))
    ]

module _ (m : Move) (u : List Move) (quietly : FromQuiet u) (openly : FromOpen u) (s end : State) (h : List Event) (p : LeadsSerially s (m ∷ u) end h) where
  abbrev next : State
  next = p.0

  its : Stepped s m next p.1
  its = step_stepped s m next p.1 p.3

  -- ---- from an open operation

  module _ (busy : HasOpen s m.thread) (only : IsOnlyOpen s m.thread) where
    by_open : IsByOpen s m
    by_open i is = sym (only i is)

    went_closed : its.after.done ≡ its.before.done → p.1 ≡ None → Closed next m.thread end p.2 → Closed s m.thread end h
    went_closed same none c =
        let still = done_same s m next p.1 its same in
        record {
          moves = m ∷ c.moves;
          mid = c.mid;
          number = c.number;
          outcome = c.outcome;
          leads = (next, p.1, Return m.thread c.number c.outcome ∷ [], p.3, c.leads, sym (ap (λ e. with_event e (Return m.thread c.number c.outcome ∷ [])) none), by_open);
          by = (refl, c.by);
          quiet = c.quiet;
          more = c.more ∙ ap (λ (n : ℕ). n + 1) (still m.thread);
          others = λ x apart. c.others x apart ∙ still x;
          q = c.q;
          entries = ap entries_of (p.5 ∙ ap (λ e. with_event e p.2) none) ∙ c.entries;
          rest = c.rest;
        }

    went_still : its.after.done ≡ its.before.done → p.1 ≡ None → Still next m.thread u end p.2 → Still s m.thread (m ∷ u) end h
    went_still same none c = record {
      by = (refl, c.by);
      none = p.5 ∙ ap (λ e. with_event e p.2) none ∙ c.none;
      busy = c.busy;
      only = c.only;
      same = c.same ∙ done_same s m next p.1 its same m.thread;
    }

    closed_now : its.after.activity ≡ Idle → its.after.done ≡ its.before.done + 1 → (o : Outcome) → p.1 ≡ Some (Return m.thread its.before.done o) → Closed s m.thread end h
    unfolding FromQuiet
    closed_now idle more o is =
        let quiet = quiet_after s m next p.1 its idle only in
        record {
          moves = m ∷ [];
          mid = next;
          number = its.before.done;
          outcome = o;
          leads = (next, p.1, [], p.3, (refl, refl), sym (ap (λ e. with_event e []) is), by_open);
          by = (refl, tt);
          quiet = quiet;
          more = done_more s m next p.1 its more;
          others = done_others s m next p.1 its;
          q = entries_of p.2;
          entries = ap entries_of (p.5 ∙ ap (λ e. with_event e p.2) is);
          rest = quietly next end p.2 quiet p.4;
        }

    open_on : How s m.thread its.before its.after p.1 → Closed s m.thread end h ⊎ Still s m.thread (m ∷ u) end h
    unfolding FromOpen
    open_on (inl called) = absurd (open_busy s m.thread its.before its.was busy called.0)
    open_on (inr (inr closed)) = inl (closed_now closed.1 closed.2 closed.3.0 closed.3.1)
    open_on (inr (inl went)) =
        elim (openly next end p.2 m.thread (its.after, its.is, went.1) (only_after s m next p.1 its only) p.4) [
          | inl c ↦ inl (went_closed went.2 went.3 c)
          | inr c ↦ inr (went_still went.2 went.3 c)
        ]

    from_open : Closed s m.thread end h ⊎ Still s m.thread (m ∷ u) end h
    from_open = open_on its.kind

  -- ---- from a quiet state

  module _ (quiet : IsQuiet s) where
    by_none : IsByOpen s m
    by_none i is = absurd (quiet i is)

    module _ (k : ℕ) (called : p.1 ≡ Some (Call m.thread k)) (same : its.after.done ≡ its.before.done) (left : its.before.done < call_count s m.thread) where
      here : done_of s m.thread ≡ its.before.done
      here = done_at s m.thread its.before its.was

      entries_here : entries_of h ≡ entries_of p.2
      entries_here = ap entries_of (p.5 ∙ ap (λ e. with_event e p.2) called)

      op_closed : Closed next m.thread end p.2 → Decomposed s end (entries_of h)
      op_closed c =
          let still = done_same s m next p.1 its same in
          let op : SerialOp = record { thread = m.thread; outcome = as_serial c.outcome } in
          let one : OneOp s op c.mid = record {
            moves = m ∷ c.moves;
            history = with_event p.1 (Return m.thread c.number c.outcome ∷ []);
            leads = (next, p.1, Return m.thread c.number c.outcome ∷ [], p.3, c.leads, refl, by_none);
            by = (refl, c.by);
            quiet = c.quiet;
            entries = ap (λ e. entries_of (with_event e (Return m.thread c.number c.outcome ∷ []))) called;
            left = omega (arith, here, left);
            more = c.more ∙ ap (λ (n : ℕ). n + 1) (still m.thread);
            others = λ x apart. c.others x apart ∙ still x;
          } in
          let whole : Decomposed s end (op ∷ c.q) = record { mid = c.rest.mid; chain = (c.mid, one, c.rest.chain); tail = c.rest.tail } in
          subst (Decomposed s end) (sym (entries_here ∙ c.entries)) whole

      op_still : Still next m.thread u end p.2 → Decomposed s end (entries_of h)
      op_still c =
          let none : entries_of h ≡ [] = entries_here ∙ ap entries_of c.none in
          let part : OpenPart s m.thread (m ∷ u) end = record {
            history = h;
            leads = p;
            by = (refl, c.by);
            some = (m, u, refl);
            busy = c.busy;
            only = c.only;
            entries = none;
            left = omega (arith, here, left);
            same = c.same ∙ done_same s m next p.1 its same m.thread;
          } in
          let whole : Decomposed s end [] = record { mid = s; chain = refl; tail = inr (m.thread, m ∷ u, part) } in
          subst (Decomposed s end) (sym none) whole

    quiet_on : How s m.thread its.before its.after p.1 → Decomposed s end (entries_of h)
    unfolding FromOpen
    quiet_on (inl called) =
        elim (openly next end p.2 m.thread (its.after, its.is, called.1) (λ x o. elim (same_or_not x m.thread) [ inl same ↦ same | inr apart ↦ absurd (quiet x (open_before s m next p.1 its x apart o)) ]) p.4) [
          | inl c ↦ op_closed its.before.done called.3 called.2 called.4 c
          | inr c ↦ op_still its.before.done called.3 called.2 called.4 c
        ]
    quiet_on (inr (inl went)) = absurd (quiet m.thread (its.before, its.was, went.0))
    quiet_on (inr (inr closed)) = absurd (quiet m.thread (its.before, its.was, closed.0))

    from_quiet : Decomposed s end (entries_of h)
    from_quiet = quiet_on its.kind

decompose_both : (u : List Move) → FromQuiet u × FromOpen u
unfolding FromQuiet FromOpen
decompose_both [] = (
  (λ s end h quiet p. subst (Decomposed s end) (ap entries_of (sym p.1)) (record { mid = s; chain = refl; tail = inl p.0 })),
  (λ s end h t busy only p. inr (record {
    by = tt;
    none = p.1;
    busy = subst (λ x. HasOpen x t) (sym p.0) busy;
    only = subst (λ x. IsOnlyOpen x t) (sym p.0) only;
    same = ap (λ x. done_of x t) p.0;
  })),
)
decompose_both (m ∷ u) = (
  (λ s end h quiet p. from_quiet m u (decompose_both u).0 (decompose_both u).1 s end h p quiet),
  (λ s end h t busy only p.
      (let same : m.thread ≡ t = p.6 t busy in
      subst (λ x. HasOpen s x → IsOnlyOpen s x → Closed s x end h ⊎ Still s x (m ∷ u) end h) same (from_open m u (decompose_both u).0 (decompose_both u).1 s end h p) busy only)),
)

-- a serial schedule from a quiet state: its operations, one after another, and perhaps an open one
pub decompose : (u : List Move) (s end : State) (h : List Event) → IsQuiet s → LeadsSerially s u end h → Decomposed s end (entries_of h)
unfolding FromQuiet
decompose u = (decompose_both u).0

-- ---- and back

pub entries_on : (h k : List Event) → entries_of (h ++ k) ≡ entries_of h ++ entries_of k
entries_on [] k = refl
entries_on (Call t n ∷ h) k = entries_on h k
entries_on (Return t n outcome ∷ h) k = ap (λ x. record { thread = t; outcome = as_serial outcome } ∷ x) (entries_on h k)

-- the schedule of the operations
pub record ChainRun (s : State) (q : List SerialOp) (end : State) : Type 0 where
  pub moves : List Move
  pub history : List Event
  pub leads : LeadsSerially s moves end history
  pub entries : entries_of history ≡ q

pub chain_run : (q : List SerialOp) (s end : State) → Chain s q end → ChainRun s q end
chain_run [] s end c = record { moves = []; history = []; leads = (c, refl); entries = refl }
chain_run (op ∷ q) s end c =
    let rest = chain_run q c.0 end c.2 in
    record {
      moves = c.1.moves ++ rest.moves;
      history = c.1.history ++ rest.history;
      leads = serially_on s c.1.moves rest.moves c.0 end c.1.history rest.history c.1.leads rest.leads;
      entries = entries_on c.1.history rest.history ∙ (ap (λ x. x ++ entries_of rest.history) c.1.entries ∙ ap (λ x. op ∷ x) rest.entries);
    }

pub chain_more : (q : List SerialOp) (s mid end : State) (op : SerialOp) → Chain s q mid → OneOp mid op end → Chain s (q ++ op ∷ []) end
chain_more [] s mid end op c one = (end, subst (λ x. OneOp x op end) c one, refl)
chain_more (x ∷ q) s mid end op c one = (c.0, c.1, chain_more q c.0 mid end op c.2 one)

pub chain_split : (q r : List SerialOp) (s end : State) → Chain s (q ++ r) end → (mid : State) × Chain s q mid × Chain mid r end
chain_split [] r s end c = (s, refl, c)
chain_split (op ∷ q) r s end c = (let rest = chain_split q r c.0 end c.2 in (rest.0, (c.0, c.1, rest.1), rest.2))

pub leads_component : (s : State) (u : List Move) (end : State) (h : List Event) → Leads s u end h → end.component ≡ s.component
leads_component s [] end h p = ap (λ (x : State). x.component) p.0
leads_component s (m ∷ u) end h p = leads_component p.0 u end p.2 p.4 ∙ (step_moved s m p.0 p.1 p.3).component

-- what the operations keep
pub record Kept (s end : State) : Type 0 where
  pub component : end.component ≡ s.component
  pub matrix : end.matrix ≡ s.matrix
  pub quiet : IsQuiet end
  pub seats : HasSeats end

pub chain_keeps : (q : List SerialOp) (s end : State) → IsQuiet s → HasSeats s → Chain s q end → Kept s end
chain_keeps [] s end quiet seats c = record {
  component = ap (λ (x : State). x.component) c;
  matrix = ap (λ (x : State). x.matrix) c;
  quiet = subst IsQuiet (sym c) quiet;
  seats = subst HasSeats (sym c) seats;
}
chain_keeps (op ∷ q) s end quiet seats c =
    let leads = serially_leads s c.1.moves c.0 c.1.history c.1.leads in
    let rest = chain_keeps q c.0 end c.1.quiet (leads_seats s c.1.moves c.0 c.1.history leads seats) c.2 in
    record {
      component = rest.component ∙ leads_component s c.1.moves c.0 c.1.history leads;
      matrix = rest.matrix ∙ leads_matrix s c.1.moves c.0 c.1.history leads;
      quiet = rest.quiet;
      seats = rest.seats;
    }
