-- What is shown at the state to which u leads.
use Rattle.std.proofs.Common.{◌≡◌, ◌<◌, ◌≤◌, ◌+◌, ◌||◌, Bool, true, false, ℕ, ◌⊎◌, List, [], ◌∷◌, ◌++◌, length, Option, Some, None, refl, sym, ◌∙◌, ap, subst, inl, inr, arith, append_assoc, length-append}
use Rattle.std.specs.Option.{option_map}
use Rattle.std.proofs.lemmas.Bool.{cases_lt}
use Rattle.std.proofs.lemmas.List.{append-nil}
use Rattle.std.proofs.lemmas.Option.{same_Some}
use Rattle.lu_component.specs.Component.{Component, IsComponent}
use Rattle.lu_test.specs.Matrix.{Matrix, IsMatrix}
use Rattle.lu_test.specs.declared.schedule.Move.{Move}
use Rattle.lu_machine.specs.declared.event.Event.{Event}
use Rattle.lu_machine.specs.declared.event.Event.TheVariants.{Call, Return}
use Rattle.lu_machine.specs.declared.event.Outcome.{Outcome}
use Rattle.lu_machine.specs.declared.event.Outcome.TheVariants.{Ret, Trap}
use Rattle.lu_machine.specs.States.{State}
use Rattle.lu_machine.specs.Steps.{Step, picks_of}
use Rattle.lu_machine.specs.Starts.{IsStart}
use Rattle.lu_machine.specs.Runs.{with_event}
use Rattle.lu_machine.specs.Order.{IsMoveBelow, IsSmaller}
use Rattle.lu_machine.proofs.Ended.{complete_no_move}
use Rattle.lu_machine.proofs.Paths.{child_leads}
use Rattle.lu_history.specs.declared.serial.SerialOutcome.TheVariants as serial
use Rattle.lu_history.specs.declared.serial.SerialOp.{SerialOp}
use Rattle.lu_history.specs.Parts.{as_serial}
use Rattle.lu_history.specs.Serial.{IsSerial}
use Rattle.lu_trie.specs.Members.{contains, same_history}
use Rattle.lu_trie.proofs.Ops.{same_histories_are, histories_equiv}
use Rattle.lu_trie.proofs.Membership.{split_or}
use Rattle.lu_serial.specs.declared.node.OpenCall.{OpenCall}
use Rattle.lu_serial.specs.declared.walk.EarlyEnd.TheVariants.{Stopped}
use Rattle.lu_machine.specs.Schedules.{BeginsWith}
use Rattle.lu_serial.specs.Serial.{HasOpen, SerialRun, EndsAs, HasTaken, IsSeriallyEnded, IsSeriallyCut, entry_of, entries_of, stuck_of}
use Rattle.lu_serial.specs.Walks.{TakesOrStops, AreShown, AreTurns, HasSerialMove, HasTakenOf, IsAt, IsFull, IsOpenIn, IsSerialMove, IsUpTo, Shows, Walked, ended_entries, entry_if, open_after}
use Rattle.lu_machine.proofs.Orders.{between, same_move, smaller_begins, smaller_last, smaller_longer, smaller_on, smaller_trans}
use Rattle.lu_serial.proofs.CallsLeft.{none_at_start, within_kid, within_start}
use Rattle.lu_machine.proofs.Ahead.{begins_itself, begins_shorter}
use Rattle.lu_machine.proofs.Moves.{next_same}
use Rattle.lu_serial.proofs.Opening.{step_turned, one_open, taken_after, no_open_complete}
use Rattle.lu_serial.proofs.Single.{ends_same}
use Rattle.lu_serial.proofs.SerialPaths.{here, run_here, at_here, serial_child, taken_same}

begins_longer : (v u : List Move) (m : Move) → BeginsWith v (u ++ m ∷ []) → v ≡ u → ⊥
begins_longer v u m b is =
    let e : length v ≡ length ((u ++ m ∷ []) ++ b.0) = ap length b.1 in
    let f : length ((u ++ m ∷ []) ++ b.0) ≡ length (u ++ m ∷ []) + length b.0 = length-append (u ++ m ∷ []) b.0 in
    let g : length (u ++ m ∷ []) ≡ length u + 1 = length-append u (m ∷ []) in
    let h : length v ≡ length u = ap length is in
    omega arith

or_right : (a b : Bool) → b ≡ true → (a || b) ≡ true
or_right true b e = refl
or_right false b e = e

or_left : (a b : Bool) → a ≡ true → (a || b) ≡ true
or_left true b e = refl
or_left false b e = cc

-- the same of two parts that have the same serial schedules
shows_same : (s : State) (bound : ℕ) (A B : List Move → Type 0) (Known : List (List SerialOp) → Type 0) → ((v : List Move) (P : State → List Event → Type 0) → SerialRun s v P → A v → B v) → ((v : List Move) (P : State → List Event → Type 0) → SerialRun s v P → B v → A v) → Shows s bound A Known → Shows s bound B Known
shows_same s bound A B Known forth back (shown, x, known) = (
  shown,
  record {
    uncut = λ v b cut. x.uncut v (back v _ cut b) cut;
    each = λ v q b e. x.each v q (back v _ e b) e;
    only = λ q c. (let y = x.only q c in (y.0, forth y.0 _ y.2 y.1, y.2));
  },
  known,
)

no_stuck : (o : Outcome) → as_serial o ≡ serial.Stuck → ⊥
no_stuck (Ret n) e = cc
no_stuck Trap e = cc

entries_serial : (h : List Event) (tail : List SerialOp) → IsSerial tail → IsSerial (entries_of h ++ tail)
entries_serial [] tail f = f
entries_serial (Call t k ∷ h) tail f = entries_serial h tail f
entries_serial (Return t k o ∷ h) tail f = ((λ e. absurd (no_stuck o e)), entries_serial h tail f)

pub ended_serial : (entries : List SerialOp) (h : List Event) (current : Option OpenCall) → entries ≡ entries_of h → IsSerial (ended_entries entries current)
ended_serial entries h None are = subst IsSerial (append-nil (entries_of h) ∙ sym are) (entries_serial h [] tt)
ended_serial entries h (Some o) are = subst (λ x. IsSerial (x ++ stuck_of o.thread ∷ [])) (sym are) (entries_serial h (stuck_of o.thread ∷ []) ((λ e. refl), tt))

entries-append : (h k : List Event) → entries_of (h ++ k) ≡ entries_of h ++ entries_of k
entries-append [] k = refl
entries-append (e ∷ h) k = ap (λ x. entry_of e ++ x) (entries-append h k) ∙ sym (append_assoc (entry_of e) (entries_of h) (entries_of k))

entries-event : (e : Option Event) → entry_if e ≡ entries_of (with_event e [])
entries-event None = refl
entries-event (Some e) = sym (append-nil (entry_of e))

pub ends_as : (s : State) (h : List Event) (entries : List SerialOp) (current : Option OpenCall) → entries ≡ entries_of h → IsOpenIn s current → ((m : Move) → IsSerialMove s m → ⊥) → EndsAs s h (ended_entries entries current)
ends_as s h entries None are opens none =
    inl (
      no_open_complete s opens (λ t. elim (cases_lt 0 (picks_of s t)) [
        | inl some ↦ absurd (none (record { thread = t; pick = 0 }) (some, (λ i k. absurd (opens i k))))
        | inr not_some ↦ omega arith
      ]),
      are,
    )
ends_as s h entries (Some o) are opens none =
    inr (
      o.thread,
      opens.0,
      (elim (cases_lt 0 (picks_of s o.thread)) [
        | inl some ↦ absurd (none (record { thread = o.thread; pick = 0 }) (some, (λ i k. sym (opens.1 i k))))
        | inr not_some ↦ omega arith
      ]),
      ap (λ x. x ++ stuck_of o.thread ∷ []) are,
    )

pub one_thread : (s : State) (current : Option OpenCall) → IsOpenIn s current → (t i : ℕ) → HasOpen s t → HasOpen s i → t ≡ i
one_thread s None opens t i h k = absurd (opens t h)
one_thread s (Some o) opens t i h k = opens.1 t h ∙ sym (opens.1 i k)

pub not_ended : (s : State) (h : List Event) (m : Move) → IsSerialMove s m → (q : List SerialOp) → EndsAs s h q → ⊥
not_ended s h m f q (inl a) = (let e : picks_of s m.thread ≡ 0 = complete_no_move s a.0 m.thread in let l : m.pick < picks_of s m.thread = f.0 in omega arith)
not_ended s h m f q (inr a) =
    (let e : picks_of s m.thread ≡ 0 = ap (picks_of s) (f.1 a.0 a.1) ∙ a.2 in
    let l : m.pick < picks_of s m.thread = f.0 in omega arith)

pub full_here : (start : State) (u : List Move) (s : State) (bound : ℕ) (current : Option OpenCall) → IsOpenIn s current → HasTakenOf start u s bound current → (t : ℕ) → HasOpen s t → HasTaken start u s t bound → IsFull current bound
full_here start u s bound None opens taken t h k = opens t h
full_here start u s bound (Some o) opens taken t h k = taken_same start u s o.thread t o.taken bound taken.0 k

pub cut_here : (start : State) (u : List Move) (s : State) (bound : ℕ) (current : Option OpenCall) → IsOpenIn s current → HasTakenOf start u s bound current → IsFull current bound → (m : Move) → IsSerialMove s m → (t : ℕ) × HasOpen s t × (0 < picks_of s t) × HasTaken start u s t bound
cut_here start u s bound None opens taken full m f = absurd full
cut_here start u s bound (Some o) opens taken full m f =
    (let l : m.pick < picks_of s m.thread = f.0 in
    let e : picks_of s m.thread ≡ picks_of s o.thread = ap (picks_of s) (f.1 o.thread opens.0) in
    (o.thread, opens.0, omega arith, subst (HasTaken start u s o.thread) full taken.0))

pub room_of : (start : State) (u : List Move) (s : State) (bound : ℕ) (current : Option OpenCall) → HasTakenOf start u s bound current → (o : OpenCall) → current ≡ Some o → o.taken ≤ bound
room_of start u s bound None h o is = absurd (cc)
room_of start u s bound (Some p) h o is = (let e : p ≡ o = same_Some p o is in subst (λ (x : OpenCall). x.taken ≤ bound) e h.1)

module _ (start : State) (bound : ℕ) (u : List Move) (s : State) (entries : List SerialOp) (current : Option OpenCall) (at : IsAt start bound u s entries current) where
  -- at a state where no serial move goes on
  module _ (none : (m : Move) → IsSerialMove s m → ⊥) where
    ends_here : EndsAs s at.history (ended_entries entries current)
    ends_here = ends_as s at.history entries current at.are at.opens none

    ended_here : IsSeriallyEnded start u (ended_entries entries current)
    ended_here = run_here start u s at.history at.leads (λ end history. EndsAs end history (ended_entries entries current)) at.serial ends_here

    end_shown : (shown : List (List SerialOp)) → AreShown start bound (λ v. IsSmaller v u) shown → AreShown start bound (IsUpTo u) (ended_entries entries current ∷ shown)
    end_shown shown x =
        let q = ended_entries entries current in
        record {
          uncut = λ v up cut. elim up [
            | inl lt ↦ x.uncut v lt cut
            | inr b ↦ elim (here start u s at.history at.leads _ v b cut) [
              | inl y ↦ (let c = y.1 in none (record { thread = c.0; pick = 0 }) (c.2, (λ i k. one_thread s current at.opens c.0 i c.1 k)))
              | inr m ↦ none m.0 m.1
            ]
          ];
          each = λ v p up e. elim up [
            | inl lt ↦ or_right (same_history p q) (contains shown p) (x.each v p lt e)
            | inr b ↦ elim (here start u s at.history at.leads _ v b e) [
              | inl y ↦ (let is : q ≡ p = ends_same s at.history (one_thread s current at.opens) q p ends_here y.1 in or_left (same_history p q) (contains shown p) (ap (same_history p) is ∙ histories_equiv.refl p))
              | inr m ↦ absurd (none m.0 m.1)
            ]
          ];
          only = λ p c. split_or (same_history p q) (contains shown p) ((v : List Move) × IsUpTo u v × IsSeriallyEnded start v p)
              (λ e. (u, inr (begins_itself u), subst (IsSeriallyEnded start u) (sym (same_histories_are p q e)) ended_here))
              (λ e. (let y = x.only p e in (y.0, inl y.1, y.2)))
              c;
        }

    pub end_walk : {H S : Type 0} → (first : H) (Old New : H → List (List SerialOp) → Type 0) (Stops : List SerialOp → S → Type 0) (stop : Option S) → TakesOrStops Old New Stops (ended_entries entries current) stop → Shows start bound (λ v. IsSmaller v u) (Old first) → Walked start bound u (New first) Stops (option_map Stopped stop) u
    end_walk first Old New Stops None answers (shown, x, known) = (ended_entries entries current ∷ shown, end_shown shown x, answers first shown known)
    end_walk first Old New Stops (Some stop) answers (shown, x, known) = ((shown, x, answers.0 first shown known), (ended_entries entries current, ended_here, answers.1))

  -- where the open operation has taken all the moves that it may
  pub cut_walk : (m : Move) → IsSerialMove s m → IsFull current bound → IsSeriallyCut start bound u
  cut_walk m f full = run_here start u s at.history at.leads _ at.serial (cut_here start u s bound current at.opens at.taken full m f)

  -- at a kid
  pub kid_at : (m : Move) → IsSerialMove s m → (IsFull current bound → ⊥) → (next : State) (event : Option Event) → Step s m next event → IsAt start bound (u ++ m ∷ []) next (entries ++ entry_if event) (open_after current m.thread event)
  kid_at m f room next event step =
      let t = step_turned s m next event step in
      record {
        serial = serial_child start u s at.history at.leads at.serial m f.1;
        history = at.history ++ with_event event [];
        leads = child_leads start u s at.history at.leads m next event step;
        are = ap (λ y. y ++ entry_if event) at.are ∙ (ap (λ y. entries_of at.history ++ y) (entries-event event) ∙ sym (entries-append at.history (with_event event [])));
        opens = one_open s m next event t current at.opens f.1;
        taken = taken_after s m next event t start u at.history at.leads step bound current room at.taken;
        within = within_kid bound u s current at.within m next event step f.0 f.1 at.opens room (room_of start u s bound current at.taken);
      }

  -- below u with one more move m: smaller than u, or u itself, or on from u by a serial move below m
  pub below_cases : (P : State → List Event → Type 0) (v : List Move) (m : Move) → SerialRun start v P → IsSmaller v (u ++ m ∷ []) → (IsSmaller v u ⊎ ((v ≡ u) × P s at.history)) ⊎ ((n : Move) × IsSerialMove s n × IsMoveBelow n m × BeginsWith v (u ++ n ∷ []))
  below_cases P v m run lt =
      elim (between u v m lt) [
        | inl a ↦ elim a [
          | inl lt ↦ inl (inl lt)
          | inr e ↦ inl (inr (e, at_here start u s at.history at.leads P (subst (λ y. SerialRun start y P) e run)))
        ]
        | inr y ↦ elim (here start u s at.history at.leads P v (begins_shorter v u y.0 y.2) run) [
          | inl e ↦ absurd (begins_longer v u y.0 y.2 e.0)
          | inr n ↦
              (let same : n.0 ≡ y.0 = next_same u n.0 y.0 n.2.0 y.2.0 (sym n.2.1 ∙ y.2.1) in
              inr (n.0, n.1, subst (λ z. IsMoveBelow z m) (sym same) y.1, n.2))
        ]
      ]

  smaller_from : (v : List Move) (n m : Move) → BeginsWith v (u ++ n ∷ []) → IsMoveBelow n m → IsSmaller v (u ++ m ∷ [])
  smaller_from v n m b lower = subst (λ y. IsSmaller y (u ++ m ∷ [])) (sym b.1) (smaller_on u n m b.0 lower)

  smaller_same : (v : List Move) (m : Move) → v ≡ u → IsSmaller v (u ++ m ∷ [])
  smaller_same v m e = subst (λ y. IsSmaller y (u ++ m ∷ [])) (sym e) (smaller_begins u m)

  -- the path itself is neither ended nor cut, where some move goes on and there is room
  pub uncut_here : (IsFull current bound → ⊥) → (t : ℕ) × HasOpen s t × (0 < picks_of s t) × HasTaken start u s t bound → ⊥
  uncut_here room c = room (full_here start u s bound current at.opens at.taken c.0 c.1 c.3)

  -- no serial move is below the first one of the first thread
  pub no_first : (first end : ℕ) → AreTurns s first end → (n : Move) → IsSerialMove s n → IsMoveBelow n (record { thread = first; pick = 0 }) → ⊥
  no_first first end turns n f (inl lt) = (let ge = (turns.all n f).0 in omega arith)
  no_first first end turns n f (inr b) = omega (arith, b.1)

  -- before all kids
  pub kids_none : (first end : ℕ) → AreTurns s first end → HasSerialMove s → (IsFull current bound → ⊥) → (Known : List (List SerialOp) → Type 0) → Shows start bound (λ v. IsSmaller v u) Known → Shows start bound (λ v. IsSmaller v (u ++ record { thread = first; pick = 0 } ∷ [])) Known
  kids_none first end turns some room Known (shown, x, known) =
      let m : Move = record { thread = first; pick = 0 } in (
        shown,
        record {
          uncut = λ v lt cut. elim (below_cases _ v m cut lt) [
            | inl a ↦ elim a [ inl lt ↦ x.uncut v lt cut | inr e ↦ uncut_here room (at_here start u s at.history at.leads _ (subst (IsSeriallyCut start bound) e.0 cut)) ]
            | inr n ↦ no_first first end turns n.0 n.1 n.2
          ];
          each = λ v q lt e. elim (below_cases _ v m e lt) [
            | inl a ↦ elim a [ inl lt ↦ x.each v q lt e | inr y ↦ absurd (not_ended s at.history some.0 some.1 q y.1) ]
            | inr n ↦ absurd (no_first first end turns n.0 n.1 n.2)
          ];
          only = λ q c. (let y = x.only q c in (y.0, smaller_longer y.0 u (m ∷ []) y.1, y.2));
        },
        known,
      )

  -- after a kid
  pub kid_forth : (t p : ℕ) (v : List Move) → IsUpTo (u ++ record { thread = t; pick = p } ∷ []) v → IsSmaller v (u ++ record { thread = t; pick = p + 1 } ∷ [])
  kid_forth t p v (inl lt) = smaller_trans v (u ++ record { thread = t; pick = p } ∷ []) (u ++ record { thread = t; pick = p + 1 } ∷ []) lt (smaller_last u (record { thread = t; pick = p }) (record { thread = t; pick = p + 1 }) (inr (refl, omega arith)))
  kid_forth t p v (inr b) = smaller_from v (record { thread = t; pick = p }) (record { thread = t; pick = p + 1 }) b (inr (refl, omega arith))

  pub kid_back : (t p : ℕ) (v : List Move) (P : State → List Event → Type 0) → SerialRun start v P → IsSmaller v (u ++ record { thread = t; pick = p + 1 } ∷ []) → IsUpTo (u ++ record { thread = t; pick = p } ∷ []) v
  kid_back t p v P run lt =
      let m : Move = record { thread = t; pick = p } in
      elim (below_cases P v (record { thread = t; pick = p + 1 }) run lt) [
        | inl a ↦ elim a [ inl lt ↦ inl (smaller_longer v u (m ∷ []) lt) | inr e ↦ inl (smaller_same v m e.0) ]
        | inr n ↦ up_to n.0 n.2 n.3
      ]
    where
      up_to : (n : Move) → IsMoveBelow n (record { thread = t; pick = p + 1 }) → BeginsWith v (u ++ n ∷ []) → IsUpTo (u ++ record { thread = t; pick = p } ∷ []) v
      up_to n (inl lt) b = inl (smaller_from v n (record { thread = t; pick = p }) b (inl lt))
      up_to n (inr e) b =
          elim (cases_lt n.pick p) [
            | inl lt ↦ inl (smaller_from v n (record { thread = t; pick = p }) b (inr (e.0, lt)))
            | inr ge ↦
                (let is : n ≡ record { thread = t; pick = p } = same_move n (record { thread = t; pick = p }) e.0 (let k = e.1 in omega arith) in
                inr (subst (λ y. BeginsWith v (u ++ y ∷ [])) is b))
          ]

  pub kids_more : (t p : ℕ) (Known : List (List SerialOp) → Type 0) → Shows start bound (IsUpTo (u ++ record { thread = t; pick = p } ∷ [])) Known → Shows start bound (λ v. IsSmaller v (u ++ record { thread = t; pick = p + 1 } ∷ [])) Known
  kids_more t p Known x = shows_same start bound (IsUpTo (u ++ record { thread = t; pick = p } ∷ [])) (λ v. IsSmaller v (u ++ record { thread = t; pick = p + 1 } ∷ [])) Known (λ v P run. kid_forth t p v) (kid_back t p) x

  -- from one thread to the next
  pub turn_forth : (t p : ℕ) (v : List Move) → IsSmaller v (u ++ record { thread = t; pick = p } ∷ []) → IsSmaller v (u ++ record { thread = t + 1; pick = 0 } ∷ [])
  turn_forth t p v lt = smaller_trans v (u ++ record { thread = t; pick = p } ∷ []) (u ++ record { thread = t + 1; pick = 0 } ∷ []) lt (smaller_last u (record { thread = t; pick = p }) (record { thread = t + 1; pick = 0 }) (inl (omega arith)))

  pub turn_back : (t p : ℕ) → picks_of s t ≤ p → (v : List Move) (P : State → List Event → Type 0) → SerialRun start v P → IsSmaller v (u ++ record { thread = t + 1; pick = 0 } ∷ []) → IsSmaller v (u ++ record { thread = t; pick = p } ∷ [])
  turn_back t p all v P run lt =
      let m : Move = record { thread = t; pick = p } in
      elim (below_cases P v (record { thread = t + 1; pick = 0 }) run lt) [
        | inl a ↦ elim a [ inl lt ↦ smaller_longer v u (m ∷ []) lt | inr e ↦ smaller_same v m e.0 ]
        | inr n ↦ smaller_from v n.0 m n.3 (lower n.0 n.1 n.2)
      ]
    where
      lower : (n : Move) → IsSerialMove s n → IsMoveBelow n (record { thread = t + 1; pick = 0 }) → IsMoveBelow n (record { thread = t; pick = p })
      lower n f (inl lt) =
          elim (cases_lt n.thread t) [
            | inl lt ↦ inl lt
            | inr ge ↦
                (let e : n.thread ≡ t = omega arith in
                let same : picks_of s n.thread ≡ picks_of s t = ap (picks_of s) e in
                let g : n.pick < picks_of s n.thread = f.0 in
                inr (e, omega arith))
          ]
      lower n f (inr b) = absurd (omega (arith, b.1))

  pub kids_turn : (t p : ℕ) → picks_of s t ≤ p → (Known : List (List SerialOp) → Type 0) → Shows start bound (λ v. IsSmaller v (u ++ record { thread = t; pick = p } ∷ [])) Known → Shows start bound (λ v. IsSmaller v (u ++ record { thread = t + 1; pick = 0 } ∷ [])) Known
  kids_turn t p all Known x = shows_same start bound (λ v. IsSmaller v (u ++ record { thread = t; pick = p } ∷ [])) (λ v. IsSmaller v (u ++ record { thread = t + 1; pick = 0 } ∷ [])) Known (λ v P run. turn_forth t p v) (turn_back t p all) x

  -- after all kids
  pub all_forth : (t : ℕ) (v : List Move) → IsSmaller v (u ++ record { thread = t; pick = 0 } ∷ []) → IsUpTo u v
  all_forth t v lt =
      elim (between u v (record { thread = t; pick = 0 }) lt) [
        | inl a ↦ elim a [ inl lt ↦ inl lt | inr e ↦ inr (subst (λ y. BeginsWith y u) (sym e) (begins_itself u)) ]
        | inr y ↦ inr (begins_shorter v u y.0 y.2)
      ]

  pub all_back : (first end t : ℕ) → AreTurns s first end → end ≤ t → (v : List Move) (P : State → List Event → Type 0) → SerialRun start v P → IsUpTo u v → IsSmaller v (u ++ record { thread = t; pick = 0 } ∷ [])
  all_back first end t turns past v P run (inl lt) = smaller_longer v u (record { thread = t; pick = 0 } ∷ []) lt
  all_back first end t turns past v P run (inr b) =
      elim (here start u s at.history at.leads P v b run) [
        | inl e ↦ smaller_same v (record { thread = t; pick = 0 }) e.0
        | inr n ↦ (let lt = (turns.all n.0 n.1).1 in smaller_from v n.0 (record { thread = t; pick = 0 }) n.2 (inl (omega arith)))
      ]

  pub kids_all : (first end t : ℕ) → AreTurns s first end → end ≤ t → (Known : List (List SerialOp) → Type 0) → Shows start bound (λ v. IsSmaller v (u ++ record { thread = t; pick = 0 } ∷ [])) Known → Shows start bound (IsUpTo u) Known
  kids_all first end t turns past Known x = shows_same start bound (λ v. IsSmaller v (u ++ record { thread = t; pick = 0 } ∷ [])) (IsUpTo u) Known (λ v P run. all_forth t v) (all_back first end t turns past) x

-- a pick below their number, of a thread whose turn it is
pub serial_of : (s : State) (first end : ℕ) → AreTurns s first end → (t p : ℕ) → first ≤ t → t < end → (now : State) → now ≡ s → p < picks_of now t → IsSerialMove s (record { thread = t; pick = p })
serial_of s first end turns t p from to now e able = (subst (λ x. p < picks_of x t) e able, turns.by (record { thread = t; pick = p }) from to)

-- the same, where machine, entries and path are known by equations
pub kid_ready : (start : State) (bound : ℕ) (u : List Move) (s : State) (entries : List SerialOp) (current : Option OpenCall) → IsAt start bound u s entries current →
    (m : Move) → IsSerialMove s m → (IsFull current bound → ⊥) →
    (now : State) → now ≡ s → (es : List SerialOp) → es ≡ entries → (next : State) (event : Option Event) → Step now m next event →
    (path : List Move) → path ≡ u ++ m ∷ [] → (grown : List SerialOp) → grown ≡ es ++ entry_if event → (below : Option OpenCall) → below ≡ open_after current m.thread event →
    (Known : List (List SerialOp) → Type 0) → Shows start bound (λ v. IsSmaller v (u ++ m ∷ [])) Known → IsAt start bound path next grown below × Shows start bound (λ v. IsSmaller v path) Known
kid_ready start bound u s entries current at m f room now e es g next event step path p grown h below b Known x =
    let step' : Step s m next event = subst (λ y. Step y m next event) e step in
    rw (p, h, g, b) (kid_at start bound u s entries current at m f room next event step', x)

-- at the start
pub start_at : (c : Component) (matrix : Matrix) (bound : ℕ) → IsComponent c → IsMatrix matrix → bound ≤ 256 → (u : List Move) → u ≡ [] → (s : State) → IsStart c matrix s → (entries : List SerialOp) → entries ≡ [] → IsAt s bound u s entries None
start_at c matrix bound is are few u e s f entries g =
    rw (e, g) (
    record {
      serial = tt;
      history = [];
      leads = (refl, refl);
      are = refl;
      opens = none_at_start c matrix s f;
      taken = tt;
      within = within_start c matrix s bound f is are few;
    }
    )

pub start_ready : (c : Component) (matrix : Matrix) (bound : ℕ) → IsComponent c → IsMatrix matrix → bound ≤ 256 → (u : List Move) → u ≡ [] → (s : State) → IsStart c matrix s → (entries : List SerialOp) → entries ≡ [] → (Known : List (List SerialOp) → Type 0) → Known [] → IsAt s bound u s entries None × Shows s bound (λ v. IsSmaller v u) Known
start_ready c matrix bound is are few u e s f entries g Known known = (
  start_at c matrix bound is are few u e s f entries g,
  ([], rw e (record { uncut = λ v lt cut. lt; each = λ v q lt x. absurd lt; only = λ q x. cc }), known),
)
