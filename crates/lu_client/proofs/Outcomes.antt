-- No serial run offends exactly where each next call has one outcome, and is short.
use Rattle.std.proofs.Common.{arith, ◌≡◌, ◌≢◌, ◌↔◌, ℕ, zero, suc, ◌<◌, ◌⊎◌, List, [], ◌∷◌, ◌++◌, length, take, Some, slice_get, refl, sym, ◌∙◌, ap, subst, inl, inr, append_assoc}
use Rattle.std.proofs.lemmas.Option.{same_Some}
use Rattle.lu_component.specs.Component.{Component}
use Rattle.lu_test.specs.declared.matrix.Call.{Call as ACall}
use Rattle.lu_test.specs.declared.schedule.Move.{Move}
use Rattle.lu_test.specs.Matrix.{Matrix}
use Rattle.lu_machine.specs.declared.event.Event.{Event}
use Rattle.lu_machine.specs.declared.event.Event.TheVariants.{Call, Return}
use Rattle.lu_machine.specs.declared.event.Outcome.{Outcome}
use Rattle.lu_machine.specs.declared.event.Outcome.TheVariants.{Ret as Returned, Trap as Trapped}
use Rattle.lu_machine.specs.States.{State, call_count}
use Rattle.lu_machine.specs.Steps.{IsEnabled, Step, picks_of}
use Rattle.lu_machine.specs.Runs.{Leads, with_event}
use Rattle.lu_machine.proofs.Orders.{smaller_cases}
use Rattle.lu_machine.proofs.Paths.{leads_same}
use Rattle.lu_history.specs.declared.serial.SerialOp.{SerialOp}
use Rattle.lu_history.specs.declared.serial.SerialOutcome.{SerialOutcome}
use Rattle.lu_history.specs.declared.serial.SerialOutcome.TheVariants.{Ret, Trap, Stuck}
use Rattle.lu_history.specs.Parts.{as_serial}
use Rattle.lu_trie.specs.Conflicts.{ConflictAt}
use Rattle.lu_trie.proofs.Determinism.{conflict_back, no_self_conflict}
use Rattle.lu_serial.specs.Serial.{EndsAs, HasOpen, HasTaken, IsSerialFrom, IsSerialHistory, IsSeriallyCut, IsSeriallyEnded, entries_of, stuck_of}
use Rattle.lu_serial.specs.Offences.{IsSerialConflict, NoOffence}
use Rattle.lu_serial.proofs.Opening.{same_or_not, silent_keeps, step_turned}
use Rattle.lu_serial.proofs.SerialPaths.{no_event, serial_split}
use Rattle.lu_serial.proofs.Single.{AtMostOne, ends_same, one_along}
use Rattle.lu_serial.specs.Whole.{IsQuiet}
use Rattle.lu_serial.proofs.Moves.{done_at, done_of, open_busy, step_stepped}
use Rattle.lu_serial.proofs.Ops.{NoCut, no_cut_on, some_serial}
use Rattle.lu_serial.proofs.Serially.{ended_run, serially_from, serially_leads, serially_on, serially_to}
use Rattle.lu_client.specs.Alone.{AllBy, Answers, HasOneOutcome, IsNextCall, Overruns, Rest, RestAfter, rest_of}
use Rattle.lu_client.specs.Automaton.{AnswersAfter, BlocksAfter, NoneStuck}
use Rattle.lu_client.proofs.Chains.{Chain, OneOp, OpenPart, chain_keeps, chain_run, chain_split, decompose, entries_on}
use Rattle.lu_client.proofs.OneCalls.{by_one}
use Rattle.lu_client.proofs.Played.{IsReady, Reached, Shape, blocks_stops, holds_now, keeps, op_now, part_now, plays_now, rest_now, rest_to_chain, serial_shape, stops_serial}

-- ---- an entry of a serial history

at_after : (q : List SerialOp) (op : SerialOp) (more : List SerialOp) → slice_get (q ++ op ∷ more) (length q) ≡ Some op
at_after [] op more = refl
at_after (x ∷ q) op more = at_after q op more

take_after : (q r : List SerialOp) → take (length q) (q ++ r) ≡ q
take_after [] r = refl
take_after (x ∷ q) r = ap (λ y. x ∷ y) (take_after q r)

-- the entry is of an operation that returns, or that is blocked
record Answered (s : State) (q : List SerialOp) (op : SerialOp) : Type 0 where
  mid : State
  chain : Chain s q mid
  how : ((end : State) × OneOp mid op end) ⊎ ((op.outcome ≡ Stuck) × ((first : Move) × (moves : List Move) × (end : State) × OpenPart mid op.thread (first ∷ moves) end × (picks_of end op.thread ≡ 0)))

answered_later : (s mid : State) (x op : SerialOp) (q : List SerialOp) → OneOp s x mid → Answered mid q op → Answered s (x ∷ q) op
answered_later s mid x op q one a = record { mid = a.mid; chain = (mid, one, a.chain); how = a.how }

answered_chain : (q : List SerialOp) (i : ℕ) (op : SerialOp) (s end : State) → Chain s q end → slice_get q i ≡ Some op → Answered s (take i q) op
answered_chain [] i op s end c at = absurd cc
answered_chain (x ∷ q) zero op s end c at =
    let same : x ≡ op = same_Some x op at in
    record { mid = s; chain = refl; how = inl (c.0, subst (λ y. OneOp s y c.0) same c.1) }
answered_chain (x ∷ q) (suc i) op s end c at = answered_later s c.0 x op (take i q) c.1 (answered_chain q i op c.0 end c.2 at)

answered_stop : (p : List SerialOp) (t i : ℕ) (op : SerialOp) (s mid : State) → Chain s p mid → (first : Move) (moves : List Move) (end : State) → OpenPart mid t (first ∷ moves) end → picks_of end t ≡ 0 → slice_get (p ++ stuck_of t ∷ []) i ≡ Some op → Answered s (take i (p ++ stuck_of t ∷ [])) op
answered_stop [] t zero op s mid c first moves end part blocked at =
    let same : stuck_of t ≡ op = same_Some (stuck_of t) op at in
    record {
      mid = s;
      chain = refl;
      how = inr (subst (λ (y : SerialOp). (y.outcome ≡ Stuck) × ((first : Move) × (moves : List Move) × (end : State) × OpenPart s y.thread (first ∷ moves) end × (picks_of end y.thread ≡ 0))) same (refl, (first, moves, end, subst (λ y. OpenPart y t (first ∷ moves) end) c part, blocked)));
    }
answered_stop [] t (suc i) op s mid c first moves end part blocked at = absurd cc
answered_stop (x ∷ p) t zero op s mid c first moves end part blocked at =
    let same : x ≡ op = same_Some x op at in
    record { mid = s; chain = refl; how = inl (c.0, subst (λ y. OneOp s y c.0) same c.1) }
answered_stop (x ∷ p) t (suc i) op s mid c first moves end part blocked at =
    answered_later s c.0 x op (take i (p ++ stuck_of t ∷ [])) c.1 (answered_stop p t i op c.0 mid c.2 first moves end part blocked at)

-- no operation that returns is stuck
not_stuck : (o : Outcome) → as_serial o ≢ Stuck
not_stuck (Returned n) = λ e. cc
not_stuck Trapped = λ e. cc

entry_not_stuck : (h : List Event) (op : SerialOp) → entries_of h ≡ op ∷ [] → op.outcome ≢ Stuck
entry_not_stuck [] op e = absurd cc
entry_not_stuck (Call t k ∷ h) op e = entry_not_stuck h op e
entry_not_stuck (Return t k o ∷ h) op e =
    let first : SerialOp = record { thread = t; outcome = as_serial o } in
    let same : first ≡ op = cc in
    λ stuck. not_stuck o (ap (λ (x : SerialOp). x.outcome) same ∙ stuck)

chain_none_stuck : (q : List SerialOp) (s end : State) → Chain s q end → NoneStuck q
chain_none_stuck [] s end c i op at = absurd cc
chain_none_stuck (x ∷ q) s end c zero op at =
    let same : x ≡ op = same_Some x op at in
    λ stuck. entry_not_stuck c.1.history x c.1.entries (ap (λ (y : SerialOp). y.outcome) same ∙ stuck)
chain_none_stuck (x ∷ q) s end c (suc i) op at = chain_none_stuck q c.0 end c.2 i op at

-- entries of which none is stuck are operations
begun_chain : (q p more : List SerialOp) (t : ℕ) (s mid : State) → Chain s p mid → q ++ more ≡ p ++ stuck_of t ∷ [] → NoneStuck q → (end : State) × Chain s q end
begun_chain [] p more t s mid c e none = (s, refl)
begun_chain (x ∷ q) [] more t s mid c e none =
    let same : x ≡ stuck_of t = cc in
    absurd (none 0 x refl (ap (λ (y : SerialOp). y.outcome) same))
begun_chain (x ∷ q) (y ∷ p) more t s mid c e none =
    let same : x ≡ y = cc in
    let rest : q ++ more ≡ p ++ stuck_of t ∷ [] = cc in
    let on = begun_chain q p more t c.0 mid c.2 rest (λ i op at. none (suc i) op at) in
    (on.0, (c.0, subst (λ z. OneOp s z c.0) (sym same) c.1, on.1))

-- ---- silent moves

open_silent : (u : List Move) (s end : State) (t : ℕ) (h : List Event) → HasOpen s t → AllBy t u → Leads s u end h → entries_of h ≡ [] → h ≡ []
open_silent [] s end t h busy by p none = p.1
open_silent (m ∷ u) s end t h busy by p none =
    let its = step_stepped s m p.0 p.1 p.3 in
    let busy_here : HasOpen s m.thread = subst (HasOpen s) (sym by.0) busy in
    elim its.kind as (λ _. h ≡ []) [
      | inl called ↦ absurd (open_busy s m.thread its.before its.was busy_here called.0)
      | inr other ↦ elim other as (λ _. h ≡ []) [
        | inl went ↦
            (let whole : h ≡ p.2 = p.5 ∙ ap (λ e. with_event e p.2) went.3 in
            whole ∙ open_silent u p.0 end t p.2 (subst (HasOpen p.0) by.0 (its.after, its.is, went.1)) by.1 p.4 (ap entries_of (sym whole) ∙ none))
        | inr closed ↦
            (let some : entries_of h ≡ entries_of (Return m.thread its.before.done closed.3.0 ∷ p.2) = ap entries_of (p.5 ∙ ap (λ e. with_event e p.2) closed.3.1) in
            let no : [] ≡ entries_of (Return m.thread its.before.done closed.3.0 ∷ p.2) = sym none ∙ some in
            absurd cc)
      ]
    ]

serial_by : (u : List Move) (s end : State) (t : ℕ) → HasOpen s t → IsSerialFrom s u → Leads s u end [] → AllBy t u
serial_by [] s end t busy serial p = tt
serial_by (m ∷ u) s end t busy serial p =
    let none = no_event p.1 p.2 p.5 in
    let on = silent_keeps s m p.0 p.1 (step_turned s m p.0 p.1 p.3) none.0 t busy in
    (serial.0 t busy, serial_by u p.0 end t on (serial.1 p.0 p.1 p.3) (subst (Leads p.0 u end) none.1 p.4))

-- ---- conflicts

outcome_or_not : (a b : SerialOutcome) → (a ≡ b) ⊎ (a ≢ b)
outcome_or_not (Ret m) (Ret n) = elim (same_or_not m n) [ inl e ↦ inl (ap Ret e) | inr e ↦ inr (λ f. e (cc)) ]
outcome_or_not (Ret m) Trap = inr (λ f. cc)
outcome_or_not (Ret m) Stuck = inr (λ f. cc)
outcome_or_not Trap (Ret n) = inr (λ f. cc)
outcome_or_not Trap Trap = inl refl
outcome_or_not Trap Stuck = inr (λ f. cc)
outcome_or_not Stuck (Ret n) = inr (λ f. cc)
outcome_or_not Stuck Trap = inr (λ f. cc)
outcome_or_not Stuck Stuck = inl refl

one_history : (s : State) → AtMostOne s → (u : List Move) (q p : List SerialOp) → IsSeriallyEnded s u q → IsSeriallyEnded s u p → q ≡ p
one_history s one u q p x y =
    let same = leads_same s u x.end y.end x.history y.history x.leads y.leads in
    let ends : EndsAs y.end y.history q = subst (λ h. EndsAs y.end h q) same.1 (subst (λ e. EndsAs e x.history q) same.0 x.holds) in
    ends_same y.end y.history (one_along s u y.end y.history one y.serial y.leads) q p ends y.holds

-- without offence no two serial histories conflict
apart : (s : State) (bound : ℕ) → AtMostOne s → NoOffence s bound → (h k : List SerialOp) (i : ℕ) (o : SerialOutcome) → IsSerialHistory s h → IsSerialHistory s k → ConflictAt h k i o → ⊥
apart s bound one none h k i o x y c =
    elim (smaller_cases x.0 y.0) [
      | inl less ↦ elim less [
        | inl lt ↦
            (let back = conflict_back h k i o c in
            none y.0 (inr (i, back.0, record { history = k; ended = y.1; earlier = x.0; smaller = lt; other = h; earlier_ended = x.1; conflict = back.1 })))
        | inr gt ↦ none x.0 (inr (i, o, record { history = h; ended = x.1; earlier = y.0; smaller = gt; other = k; earlier_ended = y.1; conflict = c }))
      ]
      | inr same ↦
          (let is : k ≡ h = one_history s one x.0 k h (subst (λ u. IsSeriallyEnded s u k) (sym same) y.1) x.1 in
          no_self_conflict h i o (subst (λ z. ConflictAt h z i o) is c))
    ]

-- the two next entries of one thread, with two outcomes
entries_conflict : (q : List SerialOp) (t : ℕ) (a b : SerialOutcome) (r1 r2 : List SerialOp) → b ≢ a → ConflictAt (q ++ record { thread = t; outcome = a } ∷ r1) (q ++ record { thread = t; outcome = b } ∷ r2) (length q) b
entries_conflict q t a b r1 r2 differ =
    let x : SerialOp = record { thread = t; outcome = a } in
    let y : SerialOp = record { thread = t; outcome = b } in
    record {
      same = take_after q (x ∷ r1) ∙ sym (take_after q (y ∷ r2));
      next = x;
      next_is = at_after q x r1;
      other_is = at_after q y r2;
      differ = differ;
    }

ends_later : (end : State) (h : List Event) (k : List Event) (q r : List SerialOp) → entries_of h ≡ q → EndsAs end k r → EndsAs end (h ++ k) (q ++ r)
ends_later end h k q r e (inl a) = inl (a.0, ap (λ x. x ++ r) (sym e) ∙ (ap (λ x. entries_of h ++ x) a.1 ∙ sym (entries_on h k)))
ends_later end h k q r e (inr a) =
    inr (a.0, a.1, a.2, ap (λ x. x ++ r) (sym e) ∙ (ap (λ x. entries_of h ++ x) a.3 ∙ (sym (append_assoc (entries_of h) (entries_of k) (stuck_of a.0 ∷ [])) ∙ ap (λ x. x ++ stuck_of a.0 ∷ []) (sym (entries_on h k)))))

-- a serial history after operations
chain_serial : (q r : List SerialOp) (s mid : State) → Chain s q mid → IsSerialHistory mid r → IsSerialHistory s (q ++ r)
chain_serial q r s mid chain z =
    let run = chain_run q s mid chain in
    let on = serially_from mid z.0 z.1.end z.1.history z.1.serial z.1.leads in (
      run.moves ++ z.0,
      ended_run s (run.moves ++ z.0) z.1.end (run.history ++ z.1.history) (q ++ r)
          (serially_on s run.moves z.0 mid z.1.end run.history z.1.history run.leads on)
          (ends_later z.1.end run.history z.1.history q r run.entries z.1.holds),
    )

-- ---- from a start

module _ (c : Component) (matrix : Matrix) (s : State) (at : IsReady c matrix s) (bound : ℕ) where
  answers_after : (q : List SerialOp) (op : SerialOp) → Answered s q op → AnswersAfter c matrix s q op
  answers_after q op a =
      elim a.how [
        | inl one ↦
            (let plays = plays_now c matrix s at q a.mid a.chain op one.0 one.1 in
            record { rest = rest_of a.mid; before = rest_now c matrix s at q a.mid a.chain; call = plays.0; next = plays.1; answers = inl (rest_of one.0, plays.2) })
        | inr stuck ↦
            (let holds = holds_now c matrix s at q a.mid a.chain op.thread stuck.1.0 stuck.1.1 stuck.1.2 stuck.1.3 in
            record {
              rest = rest_of a.mid;
              before = rest_now c matrix s at q a.mid a.chain;
              call = holds.0;
              next = holds.1;
              answers = inr (stuck.0, (length stuck.1.1, holds.2, holds.3, holds.4 ∙ stuck.1.4));
            })
      ]

  -- an entry of a serial history
  entry_answers : (q : List SerialOp) (i : ℕ) (op : SerialOp) → IsSerialHistory s q → slice_get q i ≡ Some op → AnswersAfter c matrix s (take i q) op
  entry_answers q i op z is = answers_after (take i q) op (of_shape (serial_shape c matrix s at q z))
    where
      of_shape : Shape c matrix s at q → Answered s (take i q) op
      of_shape (inl all) = answered_chain q i op s all.0 all.1 is
      of_shape (inr (p, t, same, x)) =
          subst (λ y. Answered s (take i y) op) (sym same)
          (answered_stop p t i op s x.mid x.chain x.first x.moves x.end x.part x.blocked (subst (λ y. slice_get y i ≡ Some op) same is))

  pub begun_answers : (q : List SerialOp) (op : SerialOp) (more : List SerialOp) → IsSerialHistory s (q ++ op ∷ more) → AnswersAfter c matrix s q op
  begun_answers q op more z = subst (λ y. AnswersAfter c matrix s y op) (take_after q (op ∷ more)) (entry_answers (q ++ op ∷ more) (length q) op z (at_after q op more))

  -- and without offence each answer is an entry of one
  pub answers_begun : NoOffence s bound → (q : List SerialOp) (op : SerialOp) → AnswersAfter c matrix s q op → (more : List SerialOp) × IsSerialHistory s (q ++ op ∷ more)
  answers_begun none q op a = of_answer a.answers
    where
      r : Reached s q a.rest
      r = rest_to_chain s q a.rest at.quiet a.before

      cut_none : NoCut s bound
      cut_none u cut = none u (inl cut)

      of_answer : Answers c a.rest op.thread a.call op.outcome → (more : List SerialOp) × IsSerialHistory s (q ++ op ∷ more)
      of_answer (inl (after, plays)) =
          let made = op_now c matrix s at q a.rest r op.thread a.call a.next op.outcome after plays in
          let end = made.0 in
          let one : Chain r.end (op ∷ []) end = (end, made.1, refl) in
          let first = chain_run q s r.end r.chain in
          let second = chain_run (op ∷ []) r.end end one in
          let none_mid : NoCut r.end bound = no_cut_on s first.moves r.end first.history bound first.leads cut_none in
          let none_end : NoCut end bound = no_cut_on r.end second.moves end second.history bound second.leads none_mid in
          let kept = keeps c matrix s at q r.end r.chain in
          let seats = (chain_keeps (op ∷ []) r.end end kept.quiet kept.seats one).seats in
          let rest = some_serial bound end made.1.quiet seats none_end in
          (rest.0, chain_serial q (op ∷ rest.0) s r.end r.chain (chain_serial (op ∷ []) rest.0 r.end end one rest.1))
      of_answer (inr (stuck, blocks)) =
          let stop : SerialOp = stuck_of op.thread in
          let same : stop ≡ op = ap (λ (o : SerialOutcome). let x : SerialOp = record { thread = op.thread; outcome = o } in x) (sym stuck) in
          ([], subst (λ x. IsSerialHistory s (q ++ x ∷ [])) same (stops_serial c matrix s at q op.thread (blocks_stops c matrix s at q a.rest op.thread a.call r a.next blocks)))

  -- ---- stuck, and not

  pub stuck_is_played : (q : List SerialOp) (t : ℕ) → IsSerialHistory s (q ++ stuck_of t ∷ []) ↔ BlocksAfter c matrix s q t
  stuck_is_played q t = (
    (λ z. (let a = begun_answers q (stuck_of t) [] z in elim a.answers [
      | inl plays ↦ absurd (entry_not_stuck plays.1.history (stuck_of t) plays.1.returns refl)
      | inr blocks ↦ record { rest = a.rest; before = a.before; call = a.call; next = a.next; blocks = blocks.1 }
    ])),
    (λ b. stops_serial c matrix s at q t (blocks_stops c matrix s at q b.rest t b.call (rest_to_chain s q b.rest at.quiet b.before) b.next b.blocks)),
  )

  pub rests_begin : NoOffence s bound → (q : List SerialOp) (rest : Rest) → RestAfter s q rest → ((more : List SerialOp) × IsSerialHistory s (q ++ more)) × NoneStuck q
  rests_begin none q rest after =
      let r = rest_to_chain s q rest at.quiet after in
      let run = chain_run q s r.end r.chain in
      let kept = keeps c matrix s at q r.end r.chain in
      let on = some_serial bound r.end kept.quiet kept.seats (no_cut_on s run.moves r.end run.history bound run.leads (λ u cut. none u (inl cut))) in
      ((on.0, chain_serial q on.0 s r.end r.chain on.1), chain_none_stuck q s r.end r.chain)

  pub begin_rests : (q more : List SerialOp) → IsSerialHistory s (q ++ more) → NoneStuck q → (rest : Rest) × RestAfter s q rest
  begin_rests q more z none = of_shape (serial_shape c matrix s at (q ++ more) z)
    where
      of_chain : (end : State) → Chain s q end → (rest : Rest) × RestAfter s q rest
      of_chain end chain = (rest_of end, rest_now c matrix s at q end chain)

      of_shape : Shape c matrix s at (q ++ more) → (rest : Rest) × RestAfter s q rest
      of_shape (inl all) = (let split = chain_split q more s all.0 all.1 in of_chain split.0 split.1)
      of_shape (inr (p, t, same, x)) = (let begun = begun_chain q p more t s x.mid x.chain same none in of_chain begun.0 begun.1)

  none_open : AtMostOne s
  none_open t i a b = absurd (at.quiet t a)

  -- ---- without offence

  module _ (none : NoOffence s bound) where
    short : (q : List SerialOp) (rest : Rest) (t : ℕ) (call : ACall) → RestAfter s q rest → IsNextCall matrix q t call → Overruns c bound rest t call → ⊥
    short q rest t call after next (end, holds, enabled) =
        let r = rest_to_chain s q rest at.quiet after in
        let made = part_now c matrix s at q rest r t call next bound end holds in
        let part = made.part in
        let run = chain_run q s r.end r.chain in
        let p = part.leads in
        let its = step_stepped r.end made.first p.0 p.1 p.3 in
        let kept = keeps c matrix s at q r.end r.chain in
        elim its.kind as (λ _. ⊥) [
          | inl called ↦
              (let here : made.first.thread ≡ t = part.by.0 in
              let step : Step r.end made.first p.0 (Some (Call t its.before.done)) = subst (λ x. Step r.end made.first p.0 (Some (Call x its.before.done))) here (subst (Step r.end made.first p.0) called.3 p.3) in
              let busy : HasOpen p.0 t = subst (HasOpen p.0) here (its.after, its.is, called.1) in
              let leads = serially_leads p.0 made.moves made.other p.2 p.4 in
              let quiet : entries_of p.2 ≡ [] = ap entries_of (sym (p.5 ∙ ap (λ e. with_event e p.2) called.3)) ∙ part.entries in
              let silent : p.2 ≡ [] = open_silent made.moves p.0 made.other t p.2 busy part.by.1 leads quiet in
              let whole = serially_on s run.moves (made.first ∷ made.moves) r.end made.other run.history part.history run.leads part.leads in
              let taken : HasTaken s (run.moves ++ made.first ∷ made.moves) made.other t bound = record {
                called = p.0;
                after = made.moves;
                call = record { before = run.moves; move = made.first; parts = refl; idle = r.end; history = run.history; begins = serially_leads s run.moves r.end run.history run.leads; number = its.before.done; step = step };
                count = made.long;
                goes_on = subst (Leads p.0 made.moves made.other) silent leads;
              } in
              let able : IsEnabled made.other t = (let e = made.same in omega (arith, e, enabled)) in
              none (run.moves ++ made.first ∷ made.moves) (inl (record {
                serial = serially_to s (run.moves ++ made.first ∷ made.moves) made.other (run.history ++ part.history) whole;
                end = made.other;
                history = run.history ++ part.history;
                leads = serially_leads s (run.moves ++ made.first ∷ made.moves) made.other (run.history ++ part.history) whole;
                holds = (t, part.busy, able, taken);
              })))
          | inr other ↦ elim other as (λ _. ⊥) [
            | inl went ↦ kept.quiet made.first.thread (its.before, its.was, went.0)
            | inr closed ↦ kept.quiet made.first.thread (its.before, its.was, closed.0)
          ]
        ]

    one_answer : (q : List SerialOp) (rest other : Rest) (t : ℕ) (call : ACall) (a b : SerialOutcome) → RestAfter s q rest → RestAfter s q other → IsNextCall matrix q t call → Answers c rest t call a → Answers c other t call b → a ≡ b
    one_answer q rest other t call a b after also next x y =
        let first = answers_begun none q (record { thread = t; outcome = a }) (record { rest = rest; before = after; call = call; next = next; answers = x }) in
        let second = answers_begun none q (record { thread = t; outcome = b }) (record { rest = other; before = also; call = call; next = next; answers = y }) in
        elim (outcome_or_not b a) [
          | inl same ↦ sym same
          | inr differ ↦ absurd (apart s bound none_open none (q ++ record { thread = t; outcome = a } ∷ first.0) (q ++ record { thread = t; outcome = b } ∷ second.0) (length q) b first.1 second.1 (entries_conflict q t a b first.0 second.0 differ))
        ]

  pub has_one_outcome : NoOffence s bound → HasOneOutcome c matrix s bound
  has_one_outcome none = record { short = short none; one = one_answer none }

  -- ---- and back

  module _ (has : HasOneOutcome c matrix s bound) where
    not_cut : (u : List Move) → IsSeriallyCut s bound u → ⊥
    not_cut u cut =
        let t = cut.holds.0 in
        let busy = cut.holds.1 in
        let enabled = cut.holds.2 in
        let taken = cut.holds.3 in
        let k = taken.call in
        let its = step_stepped k.idle k.move taken.called (Some (Call t k.number)) k.step in
        elim its.kind as (λ _. ⊥) [
          | inl called ↦
              (let here : k.move.thread ≡ t = (let e = called.3 in cc) in
              let serial : IsSerialFrom s (k.before ++ k.move ∷ taken.after) = subst (IsSerialFrom s) k.parts cut.serial in
              let split = serial_split s k.before (k.move ∷ taken.after) k.idle k.history k.begins serial in
              let calm : IsQuiet k.idle = λ i o. open_busy k.idle k.move.thread its.before its.was (subst (HasOpen k.idle) (sym (split.1.0 i o)) o) called.0 in
              let d = decompose k.before s k.idle k.history at.quiet (serially_from s k.before k.idle k.history split.0 k.begins) in
              let leads : Leads k.idle (k.move ∷ taken.after) cut.end (Call t k.number ∷ []) = (taken.called, Some (Call t k.number), [], k.step, taken.goes_on, refl) in
              let open_called : HasOpen taken.called t = subst (HasOpen taken.called) here (its.after, its.is, called.1) in
              let by : AllBy t (k.move ∷ taken.after) = (here, serial_by taken.after taken.called cut.end t open_called (split.1.1 taken.called (Some (Call t k.number)) k.step) taken.goes_on) in
              let one : AtMostOne cut.end = one_along k.idle (k.move ∷ taken.after) cut.end (Call t k.number ∷ []) (λ x y a b. absurd (calm x a)) split.1 leads in
              let counted = (by_one (k.move ∷ taken.after) k.idle cut.end t (Call t k.number ∷ []) by leads).ended in
              let done : done_of k.idle t ≡ its.before.done = subst (λ x. done_of k.idle x ≡ its.before.done) here (done_at k.idle k.move.thread its.before its.was) in
              let left : its.before.done < call_count k.idle t = subst (λ x. its.before.done < call_count k.idle x) here called.4 in
              let part : OpenPart k.idle t (k.move ∷ taken.after) cut.end = record {
                history = Call t k.number ∷ [];
                leads = serially_from k.idle (k.move ∷ taken.after) cut.end (Call t k.number ∷ []) split.1 leads;
                by = by;
                some = (k.move, taken.after, refl);
                busy = busy;
                only = λ x o. one x t o busy;
                entries = refl;
                left = omega (arith, done, left);
                same = omega (arith, counted);
              } in
              elim d.tail as (λ _. ⊥) [
                | inl same ↦
                    (let chain : Chain s (entries_of k.history) k.idle = subst (Chain s (entries_of k.history)) (sym same) d.chain in
                    let holds = holds_now c matrix s at (entries_of k.history) k.idle chain t k.move taken.after cut.end part in
                    let able : IsEnabled holds.2 t = (let e = holds.4 in omega (arith, e, enabled)) in
                    has.short (entries_of k.history) (rest_of k.idle) t holds.0 (rest_now c matrix s at (entries_of k.history) k.idle chain) holds.1
                    (subst (λ n. Overruns c n (rest_of k.idle) t holds.0) taken.count (holds.2, holds.3, able)))
                | inr more ↦ calm more.0 more.2.busy
              ])
          | inr other ↦ elim other as (λ _. ⊥) [
            | inl went ↦ (let e = went.3 in cc)
            | inr closed ↦ (let e = closed.3.1 in cc)
          ]
        ]

    not_conflict : (u : List Move) (i : ℕ) (o : SerialOutcome) → IsSerialConflict s u i o → ⊥
    not_conflict u i o x =
        let f = x.conflict in
        let t = f.next.thread in
        let other : SerialOp = record { thread = t; outcome = o } in
        let mine = entry_answers x.history i f.next (u, x.ended) f.next_is in
        let theirs = subst (λ q. AnswersAfter c matrix s q other) (sym f.same) (entry_answers x.other i other (x.earlier, x.earlier_ended) f.other_is) in
        let one : theirs.call ≡ mine.call = same_Some theirs.call mine.call (sym theirs.next ∙ mine.next) in
        f.differ (has.one (take i x.history) theirs.rest mine.rest t mine.call o f.next.outcome theirs.before mine.before mine.next (subst (λ y. Answers c theirs.rest t y o) one theirs.answers) mine.answers)

    pub no_offence : NoOffence s bound
    no_offence u (inl cut) = not_cut u cut
    no_offence u (inr (i, o, x)) = not_conflict u i o x
