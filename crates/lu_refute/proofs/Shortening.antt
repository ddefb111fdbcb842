-- The shortest beginning of a serial schedule whose entries are no member of a set.
use Rattle.std.proofs.Common.{◌≡◌, ◌≢◌, ℕ, zero, suc, ◌+◌, ◌<◌, ◌≤◌, false, ◌⊎◌, List, [], ◌∷◌, ◌++◌, length, take, drop, get_or, Option, Some, None, slice_get, refl, sym, ap, subst, ◌∙◌, inl, inr, arith, append_assoc}
use Rattle.std.proofs.lemmas.List.{append-nil, take-append-drop, take_all, take_more}
use Rattle.std.proofs.lemmas.List.Elements.{All-take}
use Rattle.lu_test.specs.declared.schedule.Move.{Move}
use Rattle.lu_test.specs.Matrix.{Matrix, cut}
use Rattle.lu_test.specs.Schedule.{IsMove, AreMoves}
use Rattle.lu_machine.specs.declared.event.Event.{Event}
use Rattle.lu_machine.specs.declared.event.Event.TheVariants.{Call, Return}
use Rattle.lu_machine.specs.declared.event.Outcome.{Outcome}
use Rattle.lu_machine.specs.declared.thread.Thread.{Thread}
use Rattle.lu_machine.specs.States.{State}
use Rattle.lu_machine.specs.Steps.{Step, IsFeasible, picks_of}
use Rattle.lu_machine.specs.Runs.{Leads, with_event}
use Rattle.lu_machine.specs.Schedules.{BeginsWith}
use Rattle.lu_machine.proofs.Ahead.{begins_itself}
use Rattle.lu_machine.proofs.Paths.{leads_same, goes_on_feasible, child_leads}
use Rattle.lu_history.specs.declared.serial.SerialOp.{SerialOp}
use Rattle.lu_trie.specs.Members.{contains}
use Rattle.lu_serial.specs.Serial.{HasOpen, IsByOpen, IsSerialFrom, EndsAs, IsSeriallyEnded, entry_of, entries_of}
use Rattle.lu_serial.specs.Walks.{entry_if}
use Rattle.lu_serial.proofs.Opening.{Turned, step_turned, complete_not_open, slice_get_set_same}
use Rattle.lu_serial.proofs.SerialPaths.{here, serial_split}
use Rattle.lu_serial.proofs.Single.{mover}
use Rattle.lu_witness.specs.Witnesses.{IsMember}
use Rattle.lu_serial.specs.Whole.{IsQuiet, EndsWhole, IsSeriallyWhole, made_calls}
use Rattle.lu_refute.specs.Answers.{IsShortest}
use Rattle.lu_refute.specs.Walks.{EndsOutside, IsShortestOver}

-- ---- entries, event by event

entries-append : (h k : List Event) → entries_of (h ++ k) ≡ entries_of h ++ entries_of k
entries-append [] k = refl
entries-append (e ∷ h) k = ap (λ (x : List SerialOp). entry_of e ++ x) (entries-append h k) ∙ sym (append_assoc (entry_of e) (entries_of h) (entries_of k))

entries-event : (e : Option Event) → entry_if e ≡ entries_of (with_event e [])
entries-event None = refl
entries-event (Some e) = sym (append-nil (entry_of e))

pub entries_more : (h : List Event) (e : Option Event) → entries_of (h ++ with_event e []) ≡ entries_of h ++ entry_if e
entries_more h e = entries-append h (with_event e []) ∙ ap (λ (x : List SerialOp). entries_of h ++ x) (sym (entries-event e))

-- ---- beginnings

begins_or_whole : (u x : List Move) (m : Move) → BeginsWith (u ++ m ∷ []) x → BeginsWith u x ⊎ (x ≡ u ++ m ∷ [])
begins_or_whole u [] m b = inl (u, refl)
begins_or_whole [] (n ∷ x) m b =
    let first : n ≡ m = (let e = b.1 in cc) in
    let rest : x ++ b.0 ≡ [] = (let e = b.1 in cc) in
    inr (rw (first, none_front x b.0 rest) refl)
  where
    none_front : (p more : List Move) → p ++ more ≡ [] → p ≡ []
    none_front [] more e = refl
    none_front (y ∷ p) more e = absurd cc
begins_or_whole (y ∷ u) (n ∷ x) m b =
    let first : n ≡ y = (let e = b.1 in cc) in
    let rest : u ++ m ∷ [] ≡ x ++ b.0 = (let e = b.1 in cc) in
    elim (begins_or_whole u x m (b.0, rest)) [
      | inl on ↦ inl (on.0, rw (first, on.1) refl)
      | inr whole ↦ inr (rw (first, whole) refl)
    ]

-- the entries so far are members at each beginning of u
abbrev pub AllInside : State → List (List SerialOp) → List Move → Type 0
AllInside s members u = (x : List Move) (end : State) (h : List Event) → BeginsWith u x → Leads s x end h → IsMember members (entries_of h)

-- nothing goes on where the open operation is blocked
blocked_last : (s : State) (v x : List Move) (q : List SerialOp) (run : IsSeriallyWhole s x q) → IsSerialFrom s v → (end : State) (h : List Event) → Leads s v end h → BeginsWith v x → x ≢ v → (t : ℕ) → HasOpen run.end t → picks_of run.end t ≡ 0 → ⊥
blocked_last s v x q run serial end h leads begins differ t busy none =
    by_rest (here s x run.end run.history run.leads (λ _ _. Unit {0}) v begins (record { serial = serial; end = end; history = h; leads = leads; holds = tt }))
  where
    by_rest : ((v ≡ x) × Unit {0}) ⊎ ((m : Move) × (IsFeasible run.end m × IsByOpen run.end m) × BeginsWith v (x ++ m ∷ [])) → ⊥
    by_rest (inl same) = differ (sym same.0)
    by_rest (inr (m, (feasible, by), on)) =
        let thread : picks_of run.end m.thread ≡ picks_of run.end t = ap (picks_of run.end) (by t busy) in
        omega (arith, feasible, thread, none)

-- proper beginnings of v that end with a whole entry are members, where they begin u
pub shorter_inside : (s : State) (members : List (List SerialOp)) (u v : List Move) → AllInside s members u → IsSerialFrom s v → (end : State) (h : List Event) → Leads s v end h
    → ((x : List Move) → BeginsWith v x → x ≢ v → BeginsWith u x) → (x : List Move) (q : List SerialOp) → BeginsWith v x → x ≢ v → IsSeriallyWhole s x q → IsMember members q
shorter_inside s members u v inside serial end h leads proper x q begins differ run = by_end run.holds
  where
    by_end : EndsWhole run.end run.history q → IsMember members q
    by_end (inl (quiet, is)) = subst (IsMember members) (sym is) (inside x run.end run.history (proper x begins differ) run.leads)
    by_end (inr (t, busy, none, is)) = absurd (blocked_last s v x q run serial end h leads begins differ t busy none)

-- a serially ended schedule ends with a whole entry
whole_end : (end : State) (h : List Event) (q : List SerialOp) → EndsAs end h q → EndsWhole end h q
whole_end end h q (inl (complete, is)) = inl (complete_not_open end complete, is)
whole_end end h q (inr blocked) = inr blocked

-- where an operation returns, its thread is idle
returned_idle : (s : State) (m : Move) (new : State) (event : Option Event) → Turned s m new event → (j k : ℕ) (outcome : Outcome) → event ≡ Some (Return j k outcome) → HasOpen new m.thread → ⊥
returned_idle s m new event t j k outcome is busy = elim t.how [
  | inl h ↦ absurd (let e = h.3 in cc)
  | inr h ↦ elim h [
    | inl h ↦ absurd (let e = h.3 in cc)
    | inr h ↦
        let at : slice_get new.threads m.thread ≡ Some t.after = ap (λ (xs : List Thread). slice_get xs m.thread) t.threads ∙ slice_get_set_same s.threads m.thread t.after t.before t.stands in
        let same : busy.0 ≡ t.after = (let e = busy.1 in cc) in
        busy.2 (ap (λ (x : Thread). x.activity) same ∙ h.1)
  ]
]

-- ---- the walk

-- the first i moves of w lead here, and the entries of each beginning of them are members
pub record IsGone (start : State) (members : List (List SerialOp)) (w : List Move) (i : ℕ) (now : State) (entries : List SerialOp) : Type 0 where
  pub history : List Event
  pub leads : Leads start (take i w) now history
  pub are : entries ≡ entries_of history
  pub inside : AllInside start members (take i w)

pub none_gone : (start : State) (members : List (List SerialOp)) (w : List Move) (entries : List SerialOp) → entries ≡ [] → IsMember members [] → IsGone start members w 0 start entries
none_gone start members w entries none empty = record {
  history = [];
  leads = (refl, refl);
  are = none;
  inside = λ x end h begins leads. subst (λ (k : List Event). IsMember members (entries_of k)) (sym (no_moves x begins.0 begins.1 end h leads)) empty;
}
  where
    no_moves : (x rest : List Move) → [] ≡ x ++ rest → (end : State) (h : List Event) → Leads start x end h → h ≡ []
    no_moves [] rest e end h leads = leads.1
    no_moves (m ∷ x) rest e end h leads = absurd cc

module _ (start : State) (members : List (List SerialOp)) (w : List Move) (outside : EndsOutside start members w) (i : ℕ) (now : State) (entries : List SerialOp) (gone : IsGone start members w i now entries) where
  run : IsSeriallyEnded start w outside.0
  run = outside.1

  pub next_feasible : (d : Move) → i < length w → IsFeasible now (get_or w i d)
  next_feasible d within = goes_on_feasible start w run.end run.history run.leads i d within now gone.history gone.leads

  module _ (d : Move) (within : i < length w) (next : State) (event : Option Event) (step : Step now (get_or w i d) next event) (grown : List SerialOp) (more : grown ≡ entries ++ entry_if event) where
    abbrev m : Move
    m = get_or w i d

    longer : take (i + 1) w ≡ take i w ++ m ∷ []
    longer = take_more w i d within

    abbrev history : List Event
    history = gone.history ++ with_event event []

    leads : Leads start (take (i + 1) w) next history
    leads = subst (λ (u : List Move). Leads start u next history) (sym longer) (child_leads start (take i w) now gone.history gone.leads m next event step)

    are : grown ≡ entries_of history
    are = more ∙ (ap (λ (x : List SerialOp). x ++ entry_if event) gone.are ∙ sym (entries_more gone.history event))

    -- one move more, and the entries are a member still
    pub gone_on : IsMember members grown → IsGone start members w (i + 1) next grown
    gone_on member = record {
      history = history;
      leads = leads;
      are = are;
      inside = λ x end h begins at. elim (begins_or_whole (take i w) x m (subst (λ (u : List Move). BeginsWith u x) longer begins)) [
        | inl shorter ↦ gone.inside x end h shorter at
        | inr whole ↦
            let same = leads_same start x end next h history at (subst (λ (u : List Move). Leads start u next history) (longer ∙ sym whole) leads) in
            subst (λ (k : List Event). IsMember members (entries_of k)) (sym same.1) (subst (IsMember members) are member)
      ];
    }

    serial : IsSerialFrom start (take (i + 1) w) × IsSerialFrom next (drop (i + 1) w)
    serial = serial_split start (take (i + 1) w) (drop (i + 1) w) next history leads (subst (IsSerialFrom start) (sym (take-append-drop (i + 1) w)) run.serial)

    by_open : IsByOpen now m
    by_open = (serial_split start (take i w) (m ∷ []) now gone.history gone.leads (subst (IsSerialFrom start) longer serial.0)).1.0

    -- an operation returned, so none is open
    quiet : contains members grown ≡ false → IsQuiet next
    quiet none t busy = by_event event refl
      where
        still : entry_if event ≡ [] → ⊥
        still no_entry =
            let same : grown ≡ entries = more ∙ (ap (λ (x : List SerialOp). entries ++ x) no_entry ∙ append-nil entries) in
            let member = subst (IsMember members) (sym (same ∙ gone.are)) (gone.inside (take i w) now gone.history (begins_itself (take i w)) gone.leads) in
            cc

        by_event : (e : Option Event) → event ≡ e → ⊥
        by_event None is = still (ap entry_if is)
        by_event (Some (Call j k)) is = still (ap entry_if is)
        by_event (Some (Return j k outcome)) is =
            let by = mover now m next event step by_open t busy in
            returned_idle now m next event (step_turned now m next event step) j k outcome is (subst (HasOpen next) by busy)

    -- the shortest beginning, where its entries are no member
    pub stopped : contains members grown ≡ false → (short : IsShortest start members w (take (i + 1) w)) × (short.whole.end ≡ next)
    stopped none =
        let run_here : IsSeriallyWhole start (take (i + 1) w) grown = record { serial = serial.0; end = next; history = history; leads = leads; holds = inl (quiet none, are) } in
        let short : IsShortest start members w (take (i + 1) w) = record {
          begins = (drop (i + 1) w, sym (take-append-drop (i + 1) w));
          entries = grown;
          whole = run_here;
          outside = none;
          shortest = shorter_inside start members (take i w) (take (i + 1) w) gone.inside serial.0 next history leads (λ x begins differ.
              elim (begins_or_whole (take i w) x m (subst (λ (u : List Move). BeginsWith u x) longer begins)) [
                | inl shorter ↦ shorter
                | inr whole ↦ absurd (differ (whole ∙ sym longer))
              ]);
        } in
        (short, refl)

  -- at the end of w
  module _ (all : length w ≤ i) where
    whole : take i w ≡ w
    whole = take_all i w all

    leads_end : Leads start w now gone.history
    leads_end = subst (λ (u : List Move). Leads start u now gone.history) whole gone.leads

    run_end : run.end ≡ now
    run_end = (leads_same start w run.end now run.history gone.history run.leads leads_end).0

    -- v is the shortest beginning, and leads here
    abbrev IsShortestTo : List Move → Type 0
    IsShortestTo v = (short : IsShortest start members w v) × (short.whole.end ≡ now)

    pub ended : (short : IsShortest start members w (take (length w) w)) × (short.whole.end ≡ now)
    ended =
        let whole_run : IsSeriallyWhole start w outside.0 = record { serial = run.serial; end = run.end; history = run.history; leads = run.leads; holds = whole_end run.end run.history outside.0 run.holds } in
        let short : IsShortest start members w w = record {
          begins = begins_itself w;
          entries = outside.0;
          whole = whole_run;
          outside = outside.2;
          shortest = shorter_inside start members w w (subst (AllInside start members) whole gone.inside) run.serial run.end run.history run.leads (λ x begins differ. begins);
        } in
        subst IsShortestTo (sym (take_all (length w) w (omega arith))) (short, run_end)

-- ---- what is answered

-- some first moves of a schedule
pub front_moves : (u : List Move) (n : ℕ) → AreMoves u → AreMoves (take n u)
front_moves u n are = (omega (arith, are.0, length-take-most n u), All-take IsMove n u are.1)
  where
    length-take-most : (k : ℕ) (xs : List Move) → length (take k xs) ≤ length xs
    length-take-most k [] = rw (take-nil k) (omega arith)
      where
        take-nil : (j : ℕ) → take {A = Move} j [] ≡ []
        take-nil zero = refl
        take-nil (suc j) = refl
    length-take-most zero (x ∷ xs) = omega arith
    length-take-most (suc k) (x ∷ xs) = let rest = length-take-most k xs in omega arith

-- over the matrix cut to the calls made
pub cut_over : (start s : State) → start ≡ s → (members : List (List SerialOp)) (moves w : List Move) → moves ≡ w → (v : List Move) (n : ℕ) → v ≡ take n moves
    → (short : IsShortest start members moves (take n moves)) (lengths : List ℕ) → lengths ≡ made_calls short.whole.end → (matrix smaller : Matrix) → start.matrix ≡ matrix → smaller ≡ cut matrix lengths → IsShortestOver s members w (smaller, v)
cut_over start s same members moves w whole v n front short lengths made matrix smaller of is =
    let here : IsShortestOver start members moves (smaller, take n moves) = record {
      short = short;
      matrix_is = is ∙ (ap (cut matrix) made ∙ ap (λ (m : Matrix). cut m (made_calls short.whole.end)) (sym of));
    } in
    subst (λ (x : State). IsShortestOver x members w (smaller, v)) same
    (subst (λ (x : List Move). IsShortestOver start members x (smaller, v)) whole
    (subst (λ (x : List Move). IsShortestOver start members moves (smaller, x)) (sym front) here))
