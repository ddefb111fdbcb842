-- States after the entries of a serial history.
use Rattle.std.proofs.Common.{arith, ◌≡◌, ◌≢◌, ◌+◌, ◌<◌, ◌≤◌, ◌⊎◌, ℕ, List, [], ◌∷◌, ◌++◌, length, Option, Some, None, slice_get, refl, sym, ◌∙◌, ap, subst, inl, inr}
use Rattle.std.proofs.lemmas.Bool.{cases_lt, le-ltb, lt-ltb}
use Rattle.std.proofs.lemmas.List.{append-nil}
use Rattle.lu_component.specs.Component.{Component}
use Rattle.lu_test.specs.declared.matrix.Call.{Call as ACall}
use Rattle.lu_test.specs.Matrix.{Matrix, calls_of}
use Rattle.lu_test.specs.declared.schedule.Move.{Move}
use Rattle.lu_machine.specs.declared.event.Event.{Event}
use Rattle.lu_machine.specs.declared.event.Event.TheVariants.{Call, Return}
use Rattle.lu_machine.specs.declared.event.Outcome.{Outcome}
use Rattle.lu_machine.specs.declared.event.Outcome.TheVariants.{Ret as Returned, Trap as Trapped}
use Rattle.lu_machine.specs.declared.thread.Activity.TheVariants.{Idle}
use Rattle.lu_machine.specs.declared.thread.Thread.{Thread}
use Rattle.lu_machine.specs.States.{State, call_count}
use Rattle.lu_machine.specs.Steps.{picks_of}
use Rattle.lu_machine.specs.Runs.{Leads}
use Rattle.lu_machine.proofs.StepLaws.{step_feasible}
use Rattle.lu_history.specs.declared.serial.SerialOp.{SerialOp}
use Rattle.lu_history.specs.declared.serial.SerialOutcome.{SerialOutcome}
use Rattle.lu_history.specs.declared.serial.SerialOutcome.TheVariants.{Stuck}
use Rattle.lu_history.specs.Parts.{as_serial}
use Rattle.lu_history.specs.Serial.{IsSerial}
use Rattle.lu_serial.specs.Offences.{NoOffence}
use Rattle.lu_serial.specs.Serial.{EndsAs, HasOpen, IsSerialHistory, entries_of, stuck_of}
use Rattle.lu_serial.proofs.Opening.{no_open_complete}
use Rattle.lu_serial.specs.Whole.{IsQuiet}
use Rattle.lu_serial.proofs.Moves.{HasSeats, done_at, done_of, idle_or_not, seated, step_stepped}
use Rattle.lu_serial.proofs.Serially.{LeadsSerially, ended_run, serially_from, serially_leads, serially_on, serially_to}
use Rattle.lu_client.specs.Alone.{AllBy, Answers, IsNextCall, Overruns, Rest, RestAfter}
use Rattle.lu_client.proofs.Chains.{Chain, OneOp, OpenPart, chain_more, chain_run, chain_split, decompose, entries_on}
use Rattle.lu_client.proofs.Played.{IsReady, Shape, blocks_stops, done_now, keeps, op_now, part_now, rest_to_chain, serial_shape}
use Rattle.lu_client.proofs.Outcomes.{begun_answers, no_offence}
use Rattle.lu_serial_graph.specs.Playing.{Comes, Lasts, OpensOnly, op_of}
use Rattle.lu_serial_graph.specs.Continuing.{IsFine, StateAfter}
use Rattle.lu_serial_graph.proofs.FirstMoves.{only_next}

-- ---- entries

not_stuck : (o : Outcome) → as_serial o ≢ Stuck
not_stuck (Returned n) = λ e. cc
not_stuck Trapped = λ e. cc

pub none_stuck : (h : List Event) (p : List SerialOp) (op : SerialOp) (w : List SerialOp) → entries_of h ≡ p ++ op ∷ w → op.outcome ≢ Stuck
none_stuck [] [] op w e = absurd cc
none_stuck [] (x ∷ p) op w e = absurd cc
none_stuck (Call t k ∷ h) p op w e = none_stuck h p op w e
none_stuck (Return t k o ∷ h) [] op w e =
    let first : SerialOp = record { thread = t; outcome = as_serial o } in
    let same : first ≡ op = cc in
    λ stuck. not_stuck o (ap (λ (x : SerialOp). x.outcome) same ∙ stuck)
none_stuck (Return t k o ∷ h) (x ∷ p) op w e = none_stuck h p op w (let rest : entries_of h ≡ p ++ op ∷ w = cc in rest)

entries_serial : (h : List Event) (tail : List SerialOp) → IsSerial tail → IsSerial (entries_of h ++ tail)
entries_serial [] tail f = f
entries_serial (Call t k ∷ h) tail f = entries_serial h tail f
entries_serial (Return t k o ∷ h) tail f = ((λ e. absurd (not_stuck o e)), entries_serial h tail f)

pub serial_entries : (s : State) (q : List SerialOp) → IsSerialHistory s q → IsSerial q
serial_entries s q (u, run) = by run.holds
  where
    by : EndsAs run.end run.history q → IsSerial q
    by (inl x) = subst IsSerial (append-nil (entries_of run.history) ∙ sym x.1) (entries_serial run.history [] tt)
    by (inr x) = subst IsSerial (sym x.3) (entries_serial run.history (stuck_of x.0 ∷ []) ((λ e. refl), tt))

-- ---- schedules of one thread

pub by_serially : (u : List Move) (s end : State) (t : ℕ) (h : List Event) → OpensOnly s t → AllBy t u → Leads s u end h → LeadsSerially s u end h
by_serially [] s end t h only by p = p
by_serially (m ∷ u) s end t h only by p =
    subst (λ x. OpensOnly s x → AllBy x u → LeadsSerially s (m ∷ u) end h) by.0
    (λ only_m by_m. (p.0, p.1, p.2, p.3, by_serially u p.0 end m.thread p.2 (only_next s m p.0 p.1 (step_stepped s m p.0 p.1 p.3) only_m) by_m p.4, p.5, (λ i o. sym (only_m i o))))
    only by.1

pub quiet_only : (s : State) (t : ℕ) → IsQuiet s → OpensOnly s t
quiet_only s t quiet x h = absurd (quiet x h)

-- an operation moves first
comes_moves : (u : List Move) (s end : State) (t : ℕ) (o : SerialOutcome) (h : List Event) → IsQuiet s → AllBy t u → Leads s u end h → (IsQuiet end × (entries_of h ≡ op_of t o ∷ [])) ⊎ ((o ≡ Stuck) × HasOpen end t × (picks_of end t ≡ 0) × (entries_of h ≡ [])) → 0 < picks_of s t
comes_moves [] s end t o h quiet by p (inl x) = (let e : [] ≡ op_of t o ∷ [] = sym (ap entries_of p.1) ∙ x.1 in absurd cc)
comes_moves [] s end t o h quiet by p (inr x) = absurd (quiet t (subst (λ y. HasOpen y t) p.0 x.1))
comes_moves (m ∷ u) s end t o h quiet by p ends =
    let f : m.pick < picks_of s m.thread = step_feasible s m p.0 p.1 p.3 in
    let same : picks_of s m.thread ≡ picks_of s t = ap (picks_of s) by.0 in
    omega (arith, f, same)

pub comes_picks : (s : State) (t : ℕ) (o : SerialOutcome) (end : State) → IsQuiet s → Comes s t o end → 0 < picks_of s t
comes_picks s t o end quiet c = comes_moves c.moves s end t o c.history quiet c.by c.leads c.ends

lasts_moves : (u : List Move) (s end : State) (t : ℕ) (h : List Event) → IsQuiet s → AllBy t u → Leads s u end h → HasOpen end t → 0 < picks_of s t
lasts_moves [] s end t h quiet by p busy = absurd (quiet t (subst (λ y. HasOpen y t) p.0 busy))
lasts_moves (m ∷ u) s end t h quiet by p busy =
    let f : m.pick < picks_of s m.thread = step_feasible s m p.0 p.1 p.3 in
    let same : picks_of s m.thread ≡ picks_of s t = ap (picks_of s) by.0 in
    omega (arith, f, same)

pub lasts_picks : (s : State) (t n : ℕ) → IsQuiet s → Lasts s t n → 0 < picks_of s t
lasts_picks s t n quiet l = lasts_moves l.moves s l.end t l.history quiet l.by l.leads l.still

-- ---- picks and calls

idle_picks : (s : State) (t : ℕ) (a : Thread) → slice_get s.threads t ≡ Some a → a.activity ≡ Idle → a.done < call_count s t → 0 < picks_of s t
idle_picks s t a stands idle left = rw (stands, idle, lt-ltb a.done (call_count s t) left) (omega arith)

pub left_picks : (s : State) (t : ℕ) → IsQuiet s → HasSeats s → done_of s t < call_count s t → 0 < picks_of s t
left_picks s t quiet seats left =
    let a = seated s t seats left in
    let done = done_at s t a.0 a.1 in
    elim (idle_or_not a.0.activity) [
      | inl idle ↦ idle_picks s t a.0 a.1 idle (omega (arith, left, done))
      | inr busy ↦ absurd (quiet t (a.0, a.1, busy))
    ]

no_call_picks : (s : State) (t : ℕ) → IsQuiet s → call_count s t ≤ done_of s t → picks_of s t ≡ 0
no_call_picks s t quiet all = by_thread (slice_get s.threads t) refl
  where
    by_thread : (o : Option Thread) → slice_get s.threads t ≡ o → picks_of s t ≡ 0
    by_thread None e = rw e refl
    by_thread (Some a) e =
        let at = done_at s t a e in
        let le : call_count s t ≤ a.done = omega (arith, all, at) in
        elim (idle_or_not a.activity) [
          | inl idle ↦ none_left s t a e idle le
          | inr busy ↦ absurd (quiet t (a, e, busy))
        ]
      where
        none_left : (s : State) (t : ℕ) (a : Thread) → slice_get s.threads t ≡ Some a → a.activity ≡ Idle → call_count s t ≤ a.done → picks_of s t ≡ 0
        none_left s t a e idle le = rw (e, idle, le-ltb a.done (call_count s t) le) refl

pub picks_left : (s : State) (t : ℕ) → IsQuiet s → 0 < picks_of s t → done_of s t < call_count s t
picks_left s t quiet some =
    elim (cases_lt (done_of s t) (call_count s t)) [
      | inl lt ↦ lt
      | inr ge ↦ (let none = no_call_picks s t quiet ge in absurd (omega (arith, none, some)))
    ]

-- ---- from a start

module _ (c : Component) (matrix : Matrix) (s : State) (at : IsReady c matrix s) where
  pub state_chain : (q : List SerialOp) (end : State) → StateAfter s q end → Chain s q end
  state_chain q end (u, run) =
      let d = decompose u s run.end run.history at.quiet (serially_from s u run.end run.history run.serial run.leads) in
      elim d.tail [
        | inl same ↦ subst (Chain s q) (sym same ∙ run.holds.2) (subst (λ x. Chain s x d.mid) (sym run.holds.1) d.chain)
        | inr part ↦ absurd (run.holds.0 part.0 part.2.busy)
      ]

  pub chain_state : (q : List SerialOp) (end : State) → Chain s q end → StateAfter s q end
  chain_state q end chain =
      let run = chain_run q s end chain in
      let kept = keeps c matrix s at q end chain in (
        run.moves,
        record {
          serial = serially_to s run.moves end run.history run.leads;
          end = end;
          history = run.history;
          leads = serially_leads s run.moves end run.history run.leads;
          holds = (kept.quiet, sym run.entries, refl);
        },
      )

  pub state_quiet : (q : List SerialOp) (end : State) → StateAfter s q end → IsQuiet end
  state_quiet q end (u, run) = subst IsQuiet run.holds.2 run.holds.0

  pub start_state : StateAfter s [] s
  start_state = chain_state [] s refl

  pub only_start : (end : State) → StateAfter s [] end → end ≡ s
  only_start end after = state_chain [] end after

  -- ---- one operation more

  one_comes : (mid : State) (op : SerialOp) (end : State) → OneOp mid op end → Comes mid op.thread op.outcome end
  one_comes mid op end one = record {
    moves = one.moves;
    by = one.by;
    history = one.history;
    leads = serially_leads mid one.moves end one.history one.leads;
    ends = inl (one.quiet, one.entries);
  }

  part_comes : (mid : State) (t : ℕ) (u : List Move) (end : State) → OpenPart mid t u end → picks_of end t ≡ 0 → Comes mid t Stuck end
  part_comes mid t u end part blocked = record {
    moves = u;
    by = part.by;
    history = part.history;
    leads = serially_leads mid u end part.history part.leads;
    ends = inr (refl, part.busy, blocked, part.entries);
  }

  pub next_state : (q : List SerialOp) (mid : State) (t : ℕ) (o : SerialOutcome) (end : State) → StateAfter s q mid → Comes mid t o end → o ≢ Stuck → StateAfter s (q ++ op_of t o ∷ []) end
  next_state q mid t o end after comes free =
      let run = chain_run q s mid (state_chain q mid after) in
      let on = by_serially comes.moves mid end t comes.history (quiet_only mid t (state_quiet q mid after)) comes.by comes.leads in
      let whole = serially_on s run.moves comes.moves mid end run.history comes.history run.leads on in
      elim comes.ends [
        | inl x ↦
            (let same : q ++ op_of t o ∷ [] ≡ entries_of (run.history ++ comes.history) = sym (entries_on run.history comes.history ∙ (ap (λ y. y ++ entries_of comes.history) run.entries ∙ ap (λ y. q ++ y) x.1)) in (
              run.moves ++ comes.moves,
              record {
                serial = serially_to s (run.moves ++ comes.moves) end (run.history ++ comes.history) whole;
                end = end;
                history = run.history ++ comes.history;
                leads = serially_leads s (run.moves ++ comes.moves) end (run.history ++ comes.history) whole;
                holds = (x.0, same, refl);
              },
            ))
        | inr x ↦ absurd (free x.0)
      ]

  -- the operation that stands after q in a longer list of entries
  pub record Between (q : List SerialOp) (op : SerialOp) : Type 0 where
    pub mid : State
    pub after : StateAfter s q mid
    pub end : State
    pub comes : Comes mid op.thread op.outcome end
    pub later : StateAfter s (q ++ op ∷ []) end

  pub between : (q : List SerialOp) (op : SerialOp) (w : List SerialOp) (end : State) → StateAfter s (q ++ op ∷ w) end → Between q op
  between q op w end after =
      let split = chain_split q (op ∷ w) s end (state_chain (q ++ op ∷ w) end after) in
      let mid = split.0 in
      let x = split.2.0 in
      record {
        mid = mid;
        after = chain_state q mid split.1;
        end = x;
        comes = one_comes mid op x split.2.1;
        later = chain_state (q ++ op ∷ []) x (chain_more q s mid x op split.1 split.2.1);
      }

  pub last_comes : (q : List SerialOp) (op : SerialOp) (end : State) → StateAfter s (q ++ op ∷ []) end → (mid : State) × StateAfter s q mid × Comes mid op.thread op.outcome end
  last_comes q op end after =
      let split = chain_split q (op ∷ []) s end (state_chain (q ++ op ∷ []) end after) in
      (split.0, chain_state q split.0 split.1, subst (Comes split.0 op.thread op.outcome) (sym split.2.2) (one_comes split.0 op split.2.0 split.2.1))

  pub after_not_stuck : (q : List SerialOp) (op : SerialOp) (w : List SerialOp) (end : State) → StateAfter s (q ++ op ∷ w) end → op.outcome ≢ Stuck
  after_not_stuck q op w end (u, run) = none_stuck run.history q op w (sym run.holds.1)

  -- ---- histories

  pub stuck_serial : (q : List SerialOp) (mid : State) (t : ℕ) (end : State) → StateAfter s q mid → Comes mid t Stuck end → IsSerialHistory s (q ++ stuck_of t ∷ [])
  stuck_serial q mid t end after comes =
      let run = chain_run q s mid (state_chain q mid after) in
      let on = by_serially comes.moves mid end t comes.history (quiet_only mid t (state_quiet q mid after)) comes.by comes.leads in
      let whole = serially_on s run.moves comes.moves mid end run.history comes.history run.leads on in
      elim comes.ends [
        | inl x ↦ absurd (none_stuck comes.history [] (op_of t Stuck) [] x.1 refl)
        | inr x ↦
            (let same : entries_of (run.history ++ comes.history) ≡ q = entries_on run.history comes.history ∙ (ap (λ y. y ++ entries_of comes.history) run.entries ∙ (ap (λ y. q ++ y) x.3 ∙ append-nil q)) in
            (run.moves ++ comes.moves, ended_run s (run.moves ++ comes.moves) end (run.history ++ comes.history) (q ++ stuck_of t ∷ []) whole (inr (t, x.1, x.2, ap (λ y. y ++ stuck_of t ∷ []) (sym same)))))
      ]

  -- from some state after q the call comes to this
  abbrev pub Reaches : List SerialOp → ℕ → SerialOutcome → Type 0
  Reaches q t o = (mid : State) × (end : State) × StateAfter s q mid × Comes mid t o end

  pub answer_comes : (q : List SerialOp) (rest : Rest) (t : ℕ) (call : ACall) (o : SerialOutcome) → RestAfter s q rest → IsNextCall matrix q t call → Answers c rest t call o → Reaches q t o
  answer_comes q rest t call o after next (inl (to, plays)) =
      let r = rest_to_chain s q rest at.quiet after in
      let one = op_now c matrix s at q rest r t call next o to plays in
      (r.end, one.0, chain_state q r.end r.chain, one_comes r.end (op_of t o) one.0 one.1)
  answer_comes q rest t call o after next (inr (is, blocks)) =
      let r = rest_to_chain s q rest at.quiet after in
      let x = blocks_stops c matrix s at q rest t call r next blocks in
      (x.mid, x.end, chain_state q x.mid x.chain, subst (λ y. Comes x.mid t y x.end) (sym is) (part_comes x.mid t (x.first ∷ x.moves) x.end x.part x.blocked))

  pub begun_comes : (q : List SerialOp) (op : SerialOp) (w : List SerialOp) → IsSerialHistory s (q ++ op ∷ w) → Reaches q op.thread op.outcome
  begun_comes q op w z =
      let a = begun_answers c matrix s at 0 q op w z in
      answer_comes q a.rest op.thread a.call op.outcome a.before a.next a.answers

  overrun_lasts : (bound : ℕ) (q : List SerialOp) (rest : Rest) (t : ℕ) (call : ACall) → RestAfter s q rest → IsNextCall matrix q t call → Overruns c bound rest t call → (mid : State) × StateAfter s q mid × Lasts mid t (bound + 1)
  overrun_lasts bound q rest t call after next (end, holds, enabled) =
      let r = rest_to_chain s q rest at.quiet after in
      let p = part_now c matrix s at q rest r t call next bound end holds in
      let long = p.long in
      let same = p.same in (
        r.end,
        chain_state q r.end r.chain,
        record {
          moves = p.first ∷ p.moves;
          by = p.part.by;
          long = omega (arith, long);
          end = p.other;
          history = p.part.history;
          leads = serially_leads r.end (p.first ∷ p.moves) p.other p.part.history p.part.leads;
          still = p.part.busy;
          none = p.part.entries;
          enabled = omega (arith, same, enabled);
        },
      )

  pub all_fine : (bound : ℕ) → ((q : List SerialOp) → IsFine s bound q) → NoOffence s bound
  all_fine bound fine = no_offence c matrix s at bound (record {
    short = λ q rest t call after next over. (let l = overrun_lasts bound q rest t call after next over in (fine q).short l.0 t l.1 l.2);
    one = λ q rest other t call a b after also next x y.
        (let m = answer_comes q rest t call a after next x in
        let n = answer_comes q other t call b also next y in
        (fine q).one m.0 n.0 t a b m.1 n.1 m.2 n.2 m.3 n.3);
  })

  -- ---- complete histories

  same_matrix : (q : List SerialOp) (end : State) → Chain s q end → (t : ℕ) → call_count end t ≡ length (calls_of matrix t)
  same_matrix q end chain t = ap (λ x. length (calls_of x t)) ((keeps c matrix s at q end chain).matrix ∙ at.matrix_is)

  pub same_picks : (q : List SerialOp) (a b : State) (t : ℕ) → StateAfter s q a → StateAfter s q b → 0 < picks_of a t → 0 < picks_of b t
  same_picks q a b t x y some =
      let chain = state_chain q a x in
      let other = state_chain q b y in
      let left = picks_left a t (state_quiet q a x) some in
      let count = same_matrix q a chain t in
      let also = same_matrix q b other t in
      let done = done_now c matrix s at q a chain t in
      let too = done_now c matrix s at q b other t in
      left_picks b t (state_quiet q b y) (keeps c matrix s at q b other).seats (omega (arith, left, count, also, done, too))

  pub over_serial : (q : List SerialOp) (end : State) → StateAfter s q end → ((t : ℕ) → picks_of end t ≡ 0) → IsSerialHistory s q
  over_serial q end after none =
      let chain = state_chain q end after in
      let run = chain_run q s end chain in
      (run.moves, ended_run s run.moves end run.history q run.leads (inl (no_open_complete end (state_quiet q end after) none, sym run.entries)))

  pub serial_over : (q : List SerialOp) (end : State) → StateAfter s q end → IsSerialHistory s q → (t : ℕ) → picks_of end t ≡ 0
  serial_over q end after z t = by (serial_shape c matrix s at q z)
    where
      by : Shape c matrix s at q → picks_of end t ≡ 0
      by (inl (other, chain, all)) =
          let mine = state_chain q end after in
          let le = all t in
          let done = done_now c matrix s at q end mine t in
          let count = same_matrix q end mine t in
          no_call_picks end t (state_quiet q end after) (omega (arith, le, done, count))
      by (inr (p, x, is, stops)) = absurd (none_stuck after.1.history p (stuck_of x) [] (sym after.1.holds.1 ∙ is) refl)
