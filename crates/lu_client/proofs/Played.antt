-- The serial histories of a matrix, call by call.
use Rattle.std.proofs.Common.{arith, ◌≡◌, ◌↔◌, ℕ, suc, ◌+◌, ◌<◌, ◌≤◌, ◌⊎◌, if◌then◌else◌, List, [], ◌∷◌, ◌++◌, length, slice_get, refl, sym, ◌∙◌, ap, subst, inl, inr}
use Rattle.std.proofs.lemmas.Bool.{ne_eqb}
use Rattle.std.proofs.lemmas.List.{append-nil}
use Rattle.lu_component.specs.Component.{Component}
use Rattle.lu_test.specs.declared.matrix.Call.{Call as ACall}
use Rattle.lu_test.specs.declared.schedule.Move.{Move}
use Rattle.lu_test.specs.Matrix.{Matrix, calls_of}
use Rattle.lu_machine.specs.declared.event.Event.{Event}
use Rattle.lu_machine.specs.States.{State, call_count}
use Rattle.lu_machine.specs.Steps.{picks_of}
use Rattle.lu_machine.specs.Starts.{IsStart}
use Rattle.lu_history.specs.declared.serial.SerialOp.{SerialOp}
use Rattle.lu_history.specs.declared.serial.SerialOutcome.{SerialOutcome}
use Rattle.lu_serial.specs.Serial.{EndsAs, HasOpen, IsSerialHistory, entries_of, stuck_of}
use Rattle.lu_serial.proofs.Opening.{complete_not_open, same_or_not}
use Rattle.lu_witness.specs.Witnesses.{entries}
use Rattle.lu_witness.proofs.Entries.{entries_own}
use Rattle.lu_serial.specs.Whole.{IsQuiet}
use Rattle.lu_serial.proofs.Grounds.{seats_start, ground_of, grounded, none_on, start_on}
use Rattle.lu_serial.proofs.Cuts.{start_done}
use Rattle.lu_serial.proofs.Moves.{HasSeats, complete_done, done_complete, done_of}
use Rattle.lu_serial.proofs.Serially.{ended_run, serially_from, serially_leads, serially_on, serially_to}
use Rattle.lu_client.specs.Alone.{Blocks, Holds, IsBefore, IsNextCall, Plays, Rest, RestAfter, rest_of}
use Rattle.lu_client.specs.Automaton.{BlocksAfter, GoesOnTo, HasAllEntries}
use Rattle.lu_client.proofs.Chains.{Chain, Decomposed, Kept, OneOp, OpenPart, chain_keeps, chain_more, chain_run, chain_split, decompose, entries_on}
use Rattle.lu_client.proofs.OneCalls.{holds_from, holds_to, is_before, plays_from, plays_to, within_some}

-- what is so at a start
pub record IsReady (c : Component) (matrix : Matrix) (s : State) : Type 0 where
  pub quiet : IsQuiet s
  pub seats : HasSeats s
  pub none : (t : ℕ) → done_of s t ≡ 0
  pub component : s.component ≡ c
  pub matrix_is : s.matrix ≡ matrix

pub ready : (c : Component) (matrix : Matrix) (s : State) → IsStart c matrix s → IsReady c matrix s
ready c matrix s is =
    let g = ground_of c s in
    let there : IsReady c matrix (start_on g matrix) = record { quiet = none_on g matrix; seats = seats_start g matrix; none = start_done g matrix; component = refl; matrix_is = refl } in
    subst (IsReady c matrix) (sym (grounded c matrix s is)) there

-- ---- how many operations have ended

pub entries_other : (t : ℕ) (op : SerialOp) (q : List SerialOp) → (t ≡ op.thread → ⊥) → entries t (op ∷ q) ≡ entries t q
entries_other t op q apart = ap (λ b. if b then op.outcome ∷ entries t q else entries t q) (ne_eqb op.thread t (λ e. apart (sym e)))

chain_done : (q : List SerialOp) (s end : State) → Chain s q end → (t : ℕ) → done_of end t ≡ done_of s t + length (entries t q)
chain_done [] s end c t = let same : done_of end t ≡ done_of s t = ap (λ x. done_of x t) c in omega (arith, same)
chain_done (op ∷ q) s end c t =
    let rest = chain_done q c.0 end c.2 t in
    elim (same_or_not t op.thread) as (λ _. done_of end t ≡ done_of s t + length (entries t (op ∷ q))) [
      | inl same ↦
          (let own : length (entries op.thread (op ∷ q)) ≡ suc (length (entries op.thread q)) = ap (λ (x : List SerialOutcome). length x) (entries_own op q) in
          let more = c.1.more in
          let rest' : done_of end op.thread ≡ done_of c.0 op.thread + length (entries op.thread q) = subst (λ x. done_of end x ≡ done_of c.0 x + length (entries x q)) same rest in
          subst (λ x. done_of end x ≡ done_of s x + length (entries x (op ∷ q))) (sym same) (omega (arith, own, more, rest')))
      | inr apart ↦
          (let other : length (entries t (op ∷ q)) ≡ length (entries t q) = ap (λ (x : List SerialOutcome). length x) (entries_other t op q apart) in
          let same = c.1.others t apart in
          omega (arith, other, same, rest))
    ]

-- ---- rests and chains

-- where the entries lead
pub record Reached (s : State) (q : List SerialOp) (rest : Rest) : Type 0 where
  pub end : State
  pub chain : Chain s q end
  pub is : rest_of end ≡ rest

pub rest_to_chain : (s : State) (q : List SerialOp) (rest : Rest) → IsQuiet s → RestAfter s q rest → Reached s q rest
rest_to_chain s q rest quiet (u, run) =
    let d = decompose u s run.end run.history quiet (serially_from s u run.end run.history run.serial run.leads) in
    elim d.tail [
      | inl same ↦ record {
        end = d.mid;
        chain = subst (λ x. Chain s x d.mid) (sym run.holds.1) d.chain;
        is = ap rest_of (sym same) ∙ run.holds.2;
      }
      | inr part ↦ absurd (run.holds.0 part.0 part.2.busy)
    ]

pub chain_to_rest : (s : State) (q : List SerialOp) (end : State) → IsQuiet s → HasSeats s → Chain s q end → RestAfter s q (rest_of end)
chain_to_rest s q end quiet seats c =
    let run = chain_run q s end c in
    let kept = chain_keeps q s end quiet seats c in (
      run.moves,
      record {
        serial = serially_to s run.moves end run.history run.leads;
        end = end;
        history = run.history;
        leads = serially_leads s run.moves end run.history run.leads;
        holds = (kept.quiet, sym run.entries, refl);
      },
    )

-- ---- from a start

module _ (c : Component) (matrix : Matrix) (s : State) (at : IsReady c matrix s) where
  pub keeps : (q : List SerialOp) (end : State) → Chain s q end → Kept s end
  keeps q end chain = chain_keeps q s end at.quiet at.seats chain

  pub done_now : (q : List SerialOp) (end : State) → Chain s q end → (t : ℕ) → done_of end t ≡ length (entries t q)
  done_now q end chain t = let none = at.none t in let done = chain_done q s end chain t in omega (arith, none, done)

  matrix_now : (q : List SerialOp) (end : State) → Chain s q end → end.matrix ≡ matrix
  matrix_now q end chain = (keeps q end chain).matrix ∙ at.matrix_is

  component_now : (q : List SerialOp) (end : State) → Chain s q end → end.component ≡ c
  component_now q end chain = (keeps q end chain).component ∙ at.component

  pub rest_now : (q : List SerialOp) (end : State) → Chain s q end → RestAfter s q (rest_of end)
  rest_now q end chain = chain_to_rest s q end at.quiet at.seats chain

  pub before_next : (q : List SerialOp) (end : State) → Chain s q end → (t : ℕ) (call : ACall) → IsNextCall matrix q t call → IsBefore end t call
  before_next q end chain t call next =
      let kept = keeps q end chain in
      is_before end t call kept.quiet kept.seats
      (ap (λ x. slice_get (calls_of x t) (done_of end t)) (matrix_now q end chain) ∙ ap (slice_get (calls_of matrix t)) (done_now q end chain t) ∙ next)

  pub some_next : (q : List SerialOp) (end : State) → Chain s q end → (t : ℕ) → done_of end t < call_count end t → (call : ACall) × IsNextCall matrix q t call
  some_next q end chain t left =
      let some = within_some (calls_of end.matrix t) (done_of end t) left in (
        some.0,
        ap (slice_get (calls_of matrix t)) (sym (done_now q end chain t)) ∙ ap (λ x. slice_get (calls_of x t) (done_of end t)) (sym (matrix_now q end chain)) ∙ some.1,
      )

  -- the operation is the call, made alone
  pub plays_now : (q : List SerialOp) (mid : State) → Chain s q mid → (op : SerialOp) (end : State) → OneOp mid op end → (call : ACall) × IsNextCall matrix q op.thread call × Plays c (rest_of mid) op.thread call op.outcome (rest_of end)
  plays_now q mid chain op end one =
      let next = some_next q mid chain op.thread one.left in
      let before = before_next q mid chain op.thread next.0 next.1 in
      (next.0, next.1, subst (λ x. Plays x (rest_of mid) op.thread next.0 op.outcome (rest_of end)) (component_now q mid chain) (plays_from mid op.thread next.0 before op.outcome end one))

  -- and the call made alone is an operation
  pub op_now : (q : List SerialOp) (rest : Rest) (at_rest : Reached s q rest) (t : ℕ) (call : ACall) → IsNextCall matrix q t call → (outcome : SerialOutcome) (after : Rest) → Plays c rest t call outcome after → (end : State) × OneOp at_rest.end (record { thread = t; outcome = outcome }) end × (rest_of end ≡ after)
  op_now q rest r t call next outcome after plays =
      plays_to r.end t call (before_next q r.end r.chain t call next) outcome after
      (subst (λ x. Plays x (rest_of r.end) t call outcome after) (sym (component_now q r.end r.chain)) (subst (λ x. Plays c x t call outcome after) (sym r.is) plays))

  -- so it is of a call that is open
  pub holds_now : (q : List SerialOp) (mid : State) → Chain s q mid → (t : ℕ) (m : Move) (u : List Move) (end : State) → OpenPart mid t (m ∷ u) end →
      (call : ACall) × IsNextCall matrix q t call × (other : State) × Holds c (rest_of mid) t call (length u) other × (picks_of other t ≡ picks_of end t)
  holds_now q mid chain t m u end part =
      let next = some_next q mid chain t part.left in
      let holds = holds_from mid t next.0 (before_next q mid chain t next.0 next.1) m u end part in
      (next.0, next.1, holds.0, subst (λ x. Holds x (rest_of mid) t next.0 (length u) holds.0) (component_now q mid chain) holds.1, holds.2)

  -- a part, with its moves after the call
  pub record PartOf (mid : State) (t n : ℕ) (end : State) : Type 0 where
    pub first : Move
    pub moves : List Move
    pub long : length moves ≡ n
    pub other : State
    pub part : OpenPart mid t (first ∷ moves) other
    pub same : picks_of other t ≡ picks_of end t

  pub part_now : (q : List SerialOp) (rest : Rest) (r : Reached s q rest) (t : ℕ) (call : ACall) → IsNextCall matrix q t call → (n : ℕ) (end : State) → Holds c rest t call n end → PartOf r.end t n end
  part_now q rest r t call next n end holds =
      let there : Holds r.end.component (rest_of r.end) t call n end = subst (λ x. Holds x (rest_of r.end) t call n end) (sym (component_now q r.end r.chain)) (subst (λ x. Holds c x t call n end) (sym r.is) holds) in
      let made = holds_to r.end t call (before_next q r.end r.chain t call next) n end there in
      record { first = there.first; moves = there.moves; long = there.long; other = made.0; part = made.1; same = made.2 }

  -- ---- the laws

  pub rest_starts : (rest : Rest) → RestAfter s [] rest ↔ (rest ≡ rest_of s)
  rest_starts rest = (
    (λ after. (let r = rest_to_chain s [] rest at.quiet after in sym r.is ∙ ap rest_of r.chain)),
    (λ e. subst (RestAfter s []) (sym e) (chain_to_rest s [] s at.quiet at.seats refl)),
  )

  pub goes_on : (q : List SerialOp) (op : SerialOp) (after : Rest) → RestAfter s (q ++ op ∷ []) after → GoesOnTo c matrix s q op after
  goes_on q op after reached =
      let r = rest_to_chain s (q ++ op ∷ []) after at.quiet reached in
      let split = chain_split q (op ∷ []) s r.end r.chain in
      let mid = split.0 in
      let one = split.2.1 in
      let made = plays_now q mid split.1 op split.2.0 one in
      record {
        rest = rest_of mid;
        before = rest_now q mid split.1;
        call = made.0;
        next = made.1;
        plays = subst (λ x. Plays c (rest_of mid) op.thread made.0 op.outcome x) (ap rest_of (sym split.2.2) ∙ r.is) made.2;
      }

  pub goes_back : (q : List SerialOp) (op : SerialOp) (after : Rest) → GoesOnTo c matrix s q op after → RestAfter s (q ++ op ∷ []) after
  goes_back q op after g =
      let r = rest_to_chain s q g.rest at.quiet g.before in
      let made = op_now q g.rest r op.thread g.call g.next op.outcome after g.plays in
      subst (RestAfter s (q ++ op ∷ [])) made.2 (rest_now (q ++ op ∷ []) made.0 (chain_more q s r.end made.0 op r.chain made.1))

  -- after the entries a call is blocked
  pub record Stops (q : List SerialOp) (t : ℕ) : Type 0 where
    pub mid : State
    pub chain : Chain s q mid
    pub first : Move
    pub moves : List Move
    pub end : State
    pub part : OpenPart mid t (first ∷ moves) end
    pub blocked : picks_of end t ≡ 0

  -- all entries, or those before a call that is blocked
  abbrev pub Shape : List SerialOp → Type 0
  Shape q = ((end : State) × Chain s q end × HasAllEntries matrix q) ⊎ ((p : List SerialOp) × (t : ℕ) × (q ≡ p ++ stuck_of t ∷ []) × Stops p t)

  all_entries : (q : List SerialOp) (end : State) → (chain : Chain s q end) → ((t : ℕ) → call_count end t ≤ done_of end t) → HasAllEntries matrix q
  all_entries q end chain all t =
      let le = all t in
      let done = done_now q end chain t in
      let count : call_count end t ≡ length (calls_of matrix t) = ap (λ x. length (calls_of x t)) (matrix_now q end chain) in
      omega (arith, le, done, count)

  shape_of : (end : State) (h : List Event) (q : List SerialOp) → Decomposed s end (entries_of h) → EndsAs end h q → Shape q
  shape_of end h q d (inl (complete, is)) =
      elim d.tail [
        | inl same ↦
            (let chain : Chain s q end = subst (λ x. Chain s x end) (sym is) (subst (Chain s (entries_of h)) (sym same) d.chain) in
            inl (end, chain, all_entries q end chain (λ t. complete_done end t (keeps q end chain).seats complete)))
        | inr part ↦ absurd (complete_not_open end complete part.0 part.2.busy)
      ]
  shape_of end h q d (inr (t, busy, blocked, is)) =
      elim d.tail [
        | inl same ↦ absurd ((keeps (entries_of h) d.mid d.chain).quiet t (subst (λ x. HasOpen x t) same busy))
        | inr part ↦
            (let here : t ≡ part.0 = part.2.only t busy in
            let some = part.2.some in
            inr (
              entries_of h,
              t,
              is,
              subst (Stops (entries_of h)) (sym here) (record {
                mid = d.mid;
                chain = d.chain;
                first = some.0;
                moves = some.1;
                end = end;
                part = subst (λ x. OpenPart d.mid part.0 x end) some.2 part.2;
                blocked = subst (λ x. picks_of end x ≡ 0) here blocked;
              }),
            ))
      ]

  pub serial_shape : (q : List SerialOp) → IsSerialHistory s q → Shape q
  serial_shape q (u, run) = shape_of run.end run.history q (decompose u s run.end run.history at.quiet (serially_from s u run.end run.history run.serial run.leads)) run.holds

  pub stops_serial : (p : List SerialOp) (t : ℕ) → Stops p t → IsSerialHistory s (p ++ stuck_of t ∷ [])
  stops_serial p t x =
      let run = chain_run p s x.mid x.chain in
      let u = run.moves ++ x.first ∷ x.moves in
      let h = run.history ++ x.part.history in
      let whole : entries_of h ≡ p = entries_on run.history x.part.history ∙ (ap (λ y. y ++ entries_of x.part.history) run.entries ∙ (ap (λ y. p ++ y) x.part.entries ∙ append-nil p)) in
      (u, ended_run s u x.end h (p ++ stuck_of t ∷ []) (serially_on s run.moves (x.first ∷ x.moves) x.mid x.end run.history x.part.history run.leads x.part.leads) (inr (t, x.part.busy, x.blocked, ap (λ y. y ++ stuck_of t ∷ []) (sym whole))))

  pub shape_serial : (q : List SerialOp) → Shape q → IsSerialHistory s q
  shape_serial q (inl (end, chain, all)) =
      let run = chain_run q s end chain in
      let kept = keeps q end chain in
      let complete = done_complete end kept.quiet (λ t.
      (let le = all t in
      let done = done_now q end chain t in
      let count : call_count end t ≡ length (calls_of matrix t) = ap (λ x. length (calls_of x t)) (matrix_now q end chain) in
      omega (arith, le, done, count))) in
      (run.moves, ended_run s run.moves end run.history q run.leads (inl (complete, sym run.entries)))
  shape_serial q (inr (p, t, is, stops)) = subst (IsSerialHistory s) (sym is) (stops_serial p t stops)

  -- where it stops the next call blocks
  pub stops_blocks : (p : List SerialOp) (t : ℕ) (x : Stops p t) → (call : ACall) × IsNextCall matrix p t call × Blocks c (rest_of x.mid) t call
  stops_blocks p t x =
      let holds = holds_now p x.mid x.chain t x.first x.moves x.end x.part in
      (holds.0, holds.1, (length x.moves, holds.2, holds.3, holds.4 ∙ x.blocked))

  pub blocks_stops : (p : List SerialOp) (rest : Rest) (t : ℕ) (call : ACall) → Reached s p rest → IsNextCall matrix p t call → Blocks c rest t call → Stops p t
  blocks_stops p rest t call r next (n, end, holds, blocked) =
      let made = part_now p rest r t call next n end holds in
      record { mid = r.end; chain = r.chain; first = made.first; moves = made.moves; end = made.other; part = made.part; blocked = made.same ∙ blocked }

  abbrev pub Played : List SerialOp → Type 0
  Played q = ((rest : Rest) × RestAfter s q rest × HasAllEntries matrix q) ⊎ ((p : List SerialOp) × (t : ℕ) × (q ≡ p ++ stuck_of t ∷ []) × BlocksAfter c matrix s p t)

  shape_played : (q : List SerialOp) → Shape q → Played q
  shape_played q (inl (end, chain, all)) = inl (rest_of end, rest_now q end chain, all)
  shape_played q (inr (p, t, is, stops)) =
      let blocks = stops_blocks p t stops in
      inr (p, t, is, record { rest = rest_of stops.mid; before = rest_now p stops.mid stops.chain; call = blocks.0; next = blocks.1; blocks = blocks.2 })

  played_shape : (q : List SerialOp) → Played q → Shape q
  played_shape q (inl (rest, after, all)) = (let r = rest_to_chain s q rest at.quiet after in inl (r.end, r.chain, all))
  played_shape q (inr (p, t, is, b)) = inr (p, t, is, blocks_stops p b.rest t b.call (rest_to_chain s p b.rest at.quiet b.before) b.next b.blocks)

  pub serial_is_played : (q : List SerialOp) → IsSerialHistory s q ↔ Played q
  serial_is_played q = ((λ z. shape_played q (serial_shape q z)), (λ z. shape_serial q (played_shape q z)))
