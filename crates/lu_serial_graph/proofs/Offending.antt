-- Where a call has two outcomes, or takes too long, a serial run offends.
use Rattle.std.proofs.Common.{arith, ◌≡◌, ◌≢◌, ◌+◌, ◌-◌, ◌<◌, ◌≤◌, ◌⊎◌, ℕ, suc, cond, List, [], ◌∷◌, ◌++◌, length, refl, sym, ◌∙◌, ap, subst, inl, inr}
use Rattle.std.specs.Prelude.{nat_lt, sum_by}
use Rattle.std.proofs.lemmas.Bool.{cases_lt, lt-ltb, le-ltb}
use Rattle.std.proofs.lemmas.Bool.Decides.{eqb_tells}
use Rattle.std.proofs.lemmas.List.Sums.{sum_by-cons}
use Rattle.std.proofs.lemmas.Option.{same_Some}
use Rattle.lu_component.specs.Component.{Component}
use Rattle.lu_test.specs.declared.matrix.Call.{Call as ACall}
use Rattle.lu_test.specs.declared.schedule.Move.{Move}
use Rattle.lu_test.specs.Matrix.{IsMatrix, Matrix, calls_of, row_of}
use Rattle.lu_machine.specs.declared.event.Event.{Event}
use Rattle.lu_machine.specs.States.{State}
use Rattle.lu_machine.specs.Steps.{picks_of}
use Rattle.lu_machine.specs.Runs.{Leads}
use Rattle.lu_machine.specs.Starts.{IsStart}
use Rattle.lu_history.specs.declared.serial.SerialOp.{SerialOp}
use Rattle.lu_history.specs.declared.serial.SerialOutcome.{SerialOutcome}
use Rattle.lu_serial.specs.Serial.{HasOpen, entries_of, stuck_of}
use Rattle.lu_serial.specs.Offences.{NoOffence}
use Rattle.lu_witness.specs.Witnesses.{entries}
use Rattle.lu_witness.proofs.Entries.{entries_own}
use Rattle.lu_serial.proofs.Cuts.{made_within}
use Rattle.lu_serial.proofs.Counts.{done_made}
use Rattle.lu_serial.proofs.Grounds.{ground_of, grounded, start_on}
use Rattle.lu_serial.proofs.Moves.{done_of}
use Rattle.lu_client.specs.Alone.{AllBy, Answers, Overruns, rest_of}
use Rattle.lu_client.specs.Automaton.{AnswersAfter}
use Rattle.lu_client.proofs.Chains.{OpenPart}
use Rattle.lu_client.proofs.OneCalls.{by_one}
use Rattle.lu_client.proofs.Played.{entries_other, IsReady, done_now, goes_on, holds_now, ready, rest_now}
use Rattle.lu_client.proofs.Outcomes.{begun_answers, has_one_outcome}
use Rattle.lu_serial_graph.specs.Playing.{Comes, Lasts, op_of}
use Rattle.lu_serial_graph.specs.Continuing.{StateAfter}
use Rattle.lu_serial_graph.proofs.After.{by_serially, lasts_picks, next_state, none_stuck, picks_left, quiet_only, state_chain, state_quiet, stuck_serial}

-- ---- how many entries there are

abbrev from_k : ℕ → ℕ → ℕ
from_k k thread = cond (nat_lt thread k) 0 1

-- those of the threads from k on
abbrev count_from : ℕ → List SerialOp → ℕ
count_from k [] = 0
count_from k (op ∷ q) = from_k k op.thread + count_from k q

from_here : (k thread : ℕ) → k ≤ thread → from_k k thread ≡ 1
from_here k thread le = ap (λ b. cond b 0 1) (le-ltb thread k le)

not_from : (k thread : ℕ) → thread < k → from_k k thread ≡ 0
not_from k thread lt = ap (λ b. cond b 0 1) (lt-ltb thread k lt)

-- an operation more is one of thread k, or none
entries_one : (k : ℕ) (op : SerialOp) (q : List SerialOp) → ((op.thread ≡ k) × (length (entries k (op ∷ q)) ≡ length (entries k q) + 1)) ⊎ ((op.thread ≢ k) × (length (entries k (op ∷ q)) ≡ length (entries k q)))
entries_one k op q = elim (eqb_tells op.thread k) [
  | inl (same, is) ↦ inl (is, (subst (λ (t : ℕ). length (entries t (op ∷ q)) ≡ length (entries t q) + 1) is (let own = ap length (entries_own op q) in omega (arith, own))))
  | inr (other, differ) ↦ inr (differ, ap length (entries_other k op q (λ same. differ (sym same))))
]

entries_grow : (k : ℕ) (op : SerialOp) (q : List SerialOp) → length (entries k q) ≤ length (entries k (op ∷ q))
entries_grow k op q = elim (entries_one k op q) [ inl (is, one) ↦ omega (arith, one) | inr (differ, none) ↦ omega (arith, none) ]

all_from : (q : List SerialOp) → count_from 0 q ≡ length q
all_from [] = refl
all_from (op ∷ q) = let here = from_here 0 op.thread (omega arith) in let later = all_from q in omega (arith, here, later)

-- those of thread k, and those of later threads
one_thread : (k : ℕ) (q : List SerialOp) → count_from k q ≡ length (entries k q) + count_from (k + 1) q
one_thread k [] = omega arith
one_thread k (op ∷ q) = elim (cases_lt op.thread k) [
  | inl before ↦
      let a = not_from k op.thread before in
      let b = not_from (k + 1) op.thread (omega arith) in
      by_entry (entries_one k op q) (λ is. absurd (omega (arith, is))) (λ differ none. omega (arith, a, b, none, one_thread k q))
  | inr from ↦ elim (cases_lt k op.thread) [
    | inl later ↦
        let a = from_here k op.thread from in
        let b = from_here (k + 1) op.thread (omega arith) in
        by_entry (entries_one k op q) (λ is. absurd (omega (arith, is))) (λ differ none. omega (arith, a, b, none, one_thread k q))
    | inr here ↦
        let a = from_here k op.thread from in
        let b = not_from (k + 1) op.thread (omega arith) in
        by_entry (entries_one k op q) (λ is one. omega (arith, a, b, one, one_thread k q)) (λ differ. absurd (differ (omega arith)))
  ]
]
  where
    by_entry : {P : Type 0} → ((op.thread ≡ k) × (length (entries k (op ∷ q)) ≡ length (entries k q) + 1)) ⊎ ((op.thread ≢ k) × (length (entries k (op ∷ q)) ≡ length (entries k q)))
        → ((op.thread ≡ k) → (length (entries k (op ∷ q)) ≡ length (entries k q) + 1) → P) → ((op.thread ≢ k) → (length (entries k (op ∷ q)) ≡ length (entries k q)) → P) → P
    by_entry (inl (is, one)) f g = f is one
    by_entry (inr (differ, none)) f g = g differ none

none_from : (k : ℕ) (q : List SerialOp) → ((t : ℕ) → k ≤ t → length (entries t q) ≡ 0) → count_from k q ≡ 0
none_from k [] none = refl
none_from k (op ∷ q) none = elim (cases_lt op.thread k) [
  | inl before ↦
      let later = none_from k q (λ t le. omega (arith, none t le, entries_grow t op q)) in
      omega (arith, not_from k op.thread before, later)
  | inr from ↦ absurd (omega (arith, none op.thread from, ap length (entries_own op q)))
]

few_from : (rows : List (List ACall)) (k : ℕ) (q : List SerialOp) → ((t : ℕ) → length (entries (k + t) q) ≤ length (row_of rows t)) → count_from k q ≤ sum_by length rows
few_from [] k q fits =
    let none = none_from k q (λ t le. let same : k + (t - k) ≡ t = omega arith in subst (λ (u : ℕ). length (entries u q) ≡ 0) same (omega (arith, fits (t - k)))) in
    omega (arith, none)
few_from (calls ∷ rows) k q fits =
    let here : length (entries k q) ≤ length calls = subst (λ (u : ℕ). length (entries u q) ≤ length calls) (let e : k + 0 ≡ k = omega arith in e) (fits 0) in
    let later = few_from rows (k + 1) q (λ t. subst (λ (u : ℕ). length (entries u q) ≤ length (row_of rows t)) (let e : k + suc t ≡ (k + 1) + t = omega arith in e) (fits (suc t))) in
    omega (arith, one_thread k q, here, later, sum_by-cons length calls rows)

module _ (c : Component) (matrix : Matrix) (s : State) (start : IsStart c matrix s) where
  at : IsReady c matrix s
  at = ready c matrix s start

  entries_within : (q : List SerialOp) (mid : State) → StateAfter s q mid → (t : ℕ) → length (entries t q) ≤ length (calls_of matrix t)
  entries_within q mid after t =
      let g = ground_of c s in
      let there : Leads (start_on g matrix) after.0 after.1.end after.1.history = subst (λ x. Leads x after.0 after.1.end after.1.history) (grounded c matrix s start) after.1.leads in
      let within = made_within g matrix after.0 after.1.end after.1.history there t in
      let made = done_made after.1.end t in
      let same : done_of after.1.end t ≡ done_of mid t = ap (λ x. done_of x t) after.1.holds.2 in
      let done = done_now c matrix s at q mid (state_chain c matrix s at q mid after) t in
      omega (arith, within, made, same, done)

  -- no more entries than calls
  pub few_entries : (q : List SerialOp) (mid : State) → IsMatrix matrix → StateAfter s q mid → length q ≤ 16
  few_entries q mid is after =
      let few = few_from matrix.threads 0 q (λ t. subst (λ (u : ℕ). length (entries u q) ≤ length (calls_of matrix t)) (let e : t ≡ 0 + t = omega arith in e) (entries_within q mid after t)) in
      omega (arith, few, all_from q, is.limits.calls)

  -- ---- two outcomes

  comes_answers : (q : List SerialOp) (mid : State) (t : ℕ) (a : SerialOutcome) (end : State) → StateAfter s q mid → Comes mid t a end → AnswersAfter c matrix s q (op_of t a)
  comes_answers q mid t a end after comes =
      elim comes.ends as (λ _. AnswersAfter c matrix s q (op_of t a)) [
        | inl x ↦
            (let later = next_state c matrix s at q mid t a end after comes (none_stuck comes.history [] (op_of t a) [] x.1) in
            let g = goes_on c matrix s at q (op_of t a) (rest_of end) (rest_now c matrix s at (q ++ op_of t a ∷ []) end (state_chain c matrix s at (q ++ op_of t a ∷ []) end later)) in
            record { rest = g.rest; before = g.before; call = g.call; next = g.next; answers = inl (rest_of end, g.plays) })
        | inr x ↦
            subst (λ o. AnswersAfter c matrix s q (op_of t o)) (sym x.0)
            (begun_answers c matrix s at 0 q (stuck_of t) [] (stuck_serial c matrix s at q mid t end after (subst (λ o. Comes mid t o end) x.0 comes)))
      ]

  pub two_offend : (bound : ℕ) (q : List SerialOp) (mid other : State) (t : ℕ) (a b : SerialOutcome) (end last : State) → StateAfter s q mid → StateAfter s q other → Comes mid t a end → Comes other t b last → a ≢ b → NoOffence s bound → ⊥
  two_offend bound q mid other t a b end last after also comes goes apart none =
      let has = has_one_outcome c matrix s at bound none in
      let x = comes_answers q mid t a end after comes in
      let y = comes_answers q other t b last also goes in
      let one : y.call ≡ x.call = same_Some y.call x.call (sym y.next ∙ x.next) in
      apart (has.one q x.rest y.rest t x.call a b x.before y.before x.next x.answers (subst (λ z. Answers c y.rest t z b) one y.answers))

  -- ---- too long

  no_entries : (q : List SerialOp) → q ≡ [] → length q ≡ 0
  no_entries q e = ap length e

  long_by : (bound : ℕ) (q : List SerialOp) (mid : State) (t : ℕ) (u : List Move) (end : State) (h : List Event) → StateAfter s q mid → 0 < picks_of mid t → AllBy t u → length u ≡ bound + 1 → Leads mid u end h → HasOpen end t → entries_of h ≡ [] → 0 < picks_of end t → NoOffence s bound → ⊥
  long_by bound q mid t [] end h after some by long leads still silent enabled none = omega (arith, long)
  long_by bound q mid t (m ∷ u) end h after some by long leads still silent enabled none =
      let has = has_one_outcome c matrix s at bound none in
      let quiet = state_quiet c matrix s at q mid after in
      let chain = state_chain c matrix s at q mid after in
      let one = by_one (m ∷ u) mid end t h by leads in
      let ended = one.ended in
      let zero_entries = no_entries (entries_of h) silent in
      let part : OpenPart mid t (m ∷ u) end = record {
        history = h;
        leads = by_serially (m ∷ u) mid end t h (quiet_only mid t quiet) by leads;
        by = by;
        some = (m, u, refl);
        busy = still;
        only = one.only (quiet_only mid t quiet);
        entries = silent;
        left = picks_left mid t quiet some;
        same = omega (arith, ended, zero_entries);
      } in
      let holds = holds_now c matrix s at q mid chain t m u end part in
      let count : length u ≡ bound = omega (arith, long) in
      let same = holds.4 in
      let able : 0 < picks_of holds.2 t = omega (arith, same, enabled) in
      has.short q (rest_of mid) t holds.0 (rest_now c matrix s at q mid chain) holds.1 (subst (λ n. Overruns c n (rest_of mid) t holds.0) count (holds.2, holds.3, able))

  pub long_offends : (bound : ℕ) (q : List SerialOp) (mid : State) (t : ℕ) → StateAfter s q mid → Lasts mid t (bound + 1) → NoOffence s bound → ⊥
  long_offends bound q mid t after l none = long_by bound q mid t l.moves l.end l.history after (lasts_picks mid t (bound + 1) (state_quiet c matrix s at q mid after) l) l.by l.long l.leads l.still l.none l.enabled none
