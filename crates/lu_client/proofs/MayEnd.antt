-- Where some schedule ends, in the client and in unrolled matrices.
use Rattle.std.proofs.Common.{arith, ◌≡◌, ◌≢◌, ℕ, zero, suc, ◌+◌, ◌<◌, ◌≤◌, List, [], ◌∷◌, ◌++◌, length, map, get_or, Option, Some, None, slice_get, slice_set, refl, sym, ◌∙◌, ap, subst, inl, inr}
use Rattle.std.specs.List.{AllZip}
use Rattle.std.specs.Option.{option_map}
use Rattle.lu_component.specs.Component.{Component}
use Rattle.lu_test.specs.declared.matrix.Call.{Call as ACall}
use Rattle.lu_test.specs.declared.schedule.Move.{Move}
use Rattle.lu_test.specs.Matrix.{Matrix, cut}
use Rattle.lu_machine.specs.declared.event.Event.{Event}
use Rattle.lu_machine.specs.declared.thread.Activity.TheVariants.{Idle}
use Rattle.lu_machine.specs.declared.thread.Thread.{Thread}
use Rattle.lu_machine.specs.States.{State, call_count}
use Rattle.lu_machine.specs.Steps.{Step}
use Rattle.lu_machine.specs.Runs.{Leads, with_event}
use Rattle.lu_machine.specs.Starts.{IsStart}
use Rattle.lu_machine.specs.Ends.{HasNoMove, IsEnded}
use Rattle.lu_machine.proofs.Ended.{complete_or_not, move_or_not}
use Rattle.lu_machine.proofs.Paths.{child_leads, leads_on}
use Rattle.lu_machine.proofs.StepLaws.{feasible_step}
use Rattle.lu_machine.proofs.Starting.{start_same}
use Rattle.lu_serial.specs.Serial.{HasOpen}
use Rattle.lu_serial.proofs.Opening.{How}
use Rattle.lu_serial.specs.Whole.{made_calls}
use Rattle.lu_serial.proofs.Cuts.{made_lengths, with_matrix}
use Rattle.lu_serial.proofs.Counts.{made_at, made_idle, made_of}
use Rattle.lu_serial.proofs.Grounds.{Ground, ground_of, grounded, start_on}
use Rattle.lu_serial.proofs.Made.{made_call, made_none, made_return}
use Rattle.lu_serial.proofs.Moves.{Stepped, count_same, step_stepped, the_thread}
use Rattle.lu_serial.proofs.Serially.{leads_matrix}
use Rattle.lu_client.specs.Rounds.{IsUnrolledFrom, Way}
use Rattle.lu_client.specs.Clients.{AllBlocked, ClientLeads, client_matrix, client_of, event_in}
use Rattle.lu_client.specs.Livelock.{IsLivelockOf, MayEnd, OpenLeads, SomeEnds}
use Rattle.lu_client.proofs.Turning.{stand_at, turn}
use Rattle.lu_client.proofs.Clients.{move_to_client, open_from_client}
use Rattle.lu_client.proofs.Cutting.{blocked_here, cut_run, ended_is_blocked, made_grows}
use Rattle.lu_client.proofs.Drawing.{schedule_from_client}
use Rattle.lu_client.proofs.Schedules.{schedule_to_client}
use Rattle.lu_client.proofs.Unrolled.{client_starts}

-- ---- open operations, in the client and in an unrolled matrix

open_there : (way : Way) (matrix : Matrix) (s : State) (t : ℕ) → HasOpen s t → HasOpen (client_of way matrix s) t
open_there way matrix s t busy =
    let rows = (client_matrix way matrix).threads in
    (turn way rows t busy.0, stand_at way rows s.threads t ∙ ap (option_map (turn way rows t)) busy.1, busy.2)

open_here : (way : Way) (matrix : Matrix) (s : State) (t : ℕ) → HasOpen (client_of way matrix s) t → HasOpen s t
open_here way matrix s t busy = by_thread (slice_get s.threads t) refl
  where
    rows : List (List ACall)
    rows = (client_matrix way matrix).threads

    by_thread : (o : Option Thread) → slice_get s.threads t ≡ o → HasOpen s t
    by_thread None e = absurd (let none : slice_get (client_of way matrix s).threads t ≡ None = stand_at way rows s.threads t ∙ ap (option_map (turn way rows t)) e in let some = busy.1 in cc)
    by_thread (Some was) e =
        let there : slice_get (client_of way matrix s).threads t ≡ Some (turn way rows t was) = stand_at way rows s.threads t ∙ ap (option_map (turn way rows t)) e in
        let same = the_thread (client_of way matrix s) t (turn way rows t was) busy.0 there busy.1 in
        (was, e, λ idle. busy.2 (ap (λ (x : Thread). x.activity) (sym same) ∙ idle))

open_back : (way : Way) (matrix : Matrix) (u : List Move) (s b : State) → IsUnrolledFrom way matrix s.matrix → OpenLeads way (client_of way matrix s) u b → (end : State) × (h : List Event) × Leads s u end h × (client_of way matrix end ≡ b)
open_back way matrix [] s b unrolled p = (s, [], (refl, refl), sym p)
open_back way matrix (m ∷ u) s b unrolled p =
    let moved = open_from_client way matrix s m p.0 p.1 (open_here way matrix s m.thread p.2) p.3 in
    let on : IsUnrolledFrom way matrix moved.next.matrix = subst (IsUnrolledFrom way matrix) (sym (step_stepped s m moved.next moved.made moved.step).matrix) unrolled in
    let rest = open_back way matrix u moved.next b on (subst (λ x. OpenLeads way x u b) (sym moved.is) p.4) in
    (rest.0, with_event moved.made rest.1, (moved.next, moved.made, rest.1, moved.step, rest.2, refl), rest.3)

-- ---- the number of calls made

abbrev added : List ℕ → ℕ
added [] = 0
added (x ∷ xs) = x + added xs

sum_set : (xs : List ℕ) (i k : ℕ) → i < length xs → ((d : ℕ) → get_or xs i d ≡ k) → added (slice_set xs i (k + 1)) ≡ added xs + 1
sum_set [] i k within at = absurd (omega arith)
sum_set (x ∷ xs) zero k within at = let is : x ≡ k = at 0 in omega (arith, is)
sum_set (x ∷ xs) (suc i) k within at = let rest = sum_set xs i k (omega arith) (λ d. at d) in omega (arith, rest)

sum_fits : (rows : List (List ACall)) (lengths : List ℕ) → AllZip (λ (calls : List ACall) n. n ≤ length calls) rows lengths → added lengths ≤ added (map (λ (calls : List ACall). length calls) rows)
sum_fits [] [] h = omega arith
sum_fits [] (n ∷ lengths) h = absurd h
sum_fits (row ∷ rows) [] h = absurd h
sum_fits (row ∷ rows) (n ∷ lengths) h = let rest = sum_fits rows lengths h.1 in let first = h.0 in omega (arith, rest, first)

-- how many calls are made
abbrev all_made : State → ℕ
all_made s = added (made_calls s)

abbrev all_calls : Matrix → ℕ
all_calls matrix = added (map (λ (calls : List ACall). length calls) matrix.threads)

made_more : (s : State) (m : Move) (new : State) (e : Option Event) → Step s m new e → (by : Stepped s m new e) → How s m.thread by.before by.after e → all_made s ≤ all_made new
made_more s m new e step by (inl called) =
    let one = made_call s m new e m.thread by.before.done step called.3 in
    let more : all_made new ≡ all_made s + 1 = ap added one.after ∙ sum_set (made_calls s) m.thread by.before.done one.within one.before in
    omega (arith, more)
made_more s m new e step by (inr (inl went)) = let same = ap added (made_none s m new e step went.3) in omega (arith, same)
made_more s m new e step by (inr (inr closed)) = let same = ap added (made_return s m new e m.thread by.before.done closed.3.0 step closed.3.1) in omega (arith, same)

run_more : (u : List Move) (s end : State) (h : List Event) → Leads s u end h → all_made s ≤ all_made end
run_more [] s end h p = let same : all_made end ≡ all_made s = ap all_made p.0 in omega (arith, same)
run_more (m ∷ u) s end h p =
    let its = step_stepped s m p.0 p.1 p.3 in
    let first = made_more s m p.0 p.1 p.3 its its.kind in
    let rest = run_more u p.0 end p.2 p.4 in
    omega (arith, first, rest)

-- ---- from the client to unrolled matrices

module _ (c : Component) (way : Way) (matrix big : Matrix) (s : State) (unrolled : IsUnrolledFrom way matrix big) (start : IsStart c big s)
    (may : (v : List Move) (b : State) (h : List Event) → ClientLeads way (client_of way matrix s) v b h → MayEnd way b) where
  abbrev g : Ground
  g = ground_of c s

  from_ground : (u : List Move) (end : State) (h : List Event) → Leads s u end h → Leads (start_on g big) u end h
  from_ground u end h p = subst (λ x. Leads x u end h) (grounded c big s start) p

  few : (u : List Move) (end : State) (h : List Event) → Leads s u end h → all_made end ≤ all_calls big
  few u end h p = sum_fits big.threads (made_calls end) (made_lengths g big u end h (from_ground u end h p))

  unrolled_here : IsUnrolledFrom way matrix s.matrix
  unrolled_here = subst (IsUnrolledFrom way matrix) (sym (ap (λ (x : State). x.matrix) start.is)) unrolled

  -- it comes to where each open operation is blocked
  rests : (u : List Move) (end : State) (h : List Event) → Leads s u end h → (v : List Move) × (mid : State) × (k : List Event) × Leads end v mid k × AllBlocked mid
  rests u end h p =
      let there = may u (client_of way matrix end) (map (event_in way matrix) h) (schedule_to_client way matrix s u end h unrolled_here p) in
      let at : IsUnrolledFrom way matrix end.matrix = subst (IsUnrolledFrom way matrix) (sym (leads_matrix s u end h p)) unrolled_here in
      let back = open_back way matrix there.0 end there.1 at there.2 in
      (there.0, back.0, back.1, back.2, blocked_here way matrix back.0 (subst AllBlocked (sym back.3) there.3))

  stopped : (mid : State) → HasNoMove mid → IsEnded mid
  stopped mid none = elim (complete_or_not mid) as (λ _. IsEnded mid) [ inl complete ↦ inl complete | inr not ↦ inr (not, none) ]

  -- and where a thread has a call left, it makes it, and they come there again
  module _ (u : List Move) (end : State) (h : List Event) (p : Leads s u end h) (go : (w : List Move) (x : State) (k : List Event) → Leads s w x k → all_made end < all_made x → SomeEnds x) where
    ends_or_calls : SomeEnds end
    ends_or_calls =
        let r = rests u end h p in
        let mid = r.1 in
        let there = leads_on s u r.0 end mid h r.2 p r.3 in
        elim (move_or_not mid) as (λ _. SomeEnds end) [
          | inr none ↦ (r.0, mid, r.2, r.3, stopped mid none)
          | inl some ↦
              (let m : Move = record { thread = some.0; pick = 0 } in
              let to = feasible_step mid m some.1 in
              let its = step_stepped mid m to.0 to.1 to.2 in
              let not_busy : (its.before.activity ≢ Idle) → ⊥ = (λ busy. (let none = r.4 some.0 (its.before, its.was, busy) in let able = some.1 in omega (arith, none, able))) in
              elim its.kind as (λ _. SomeEnds end) [
                | inl called ↦
                    (let one = made_call mid m to.0 to.1 some.0 its.before.done to.2 called.3 in
                    let more : all_made to.0 ≡ all_made mid + 1 = ap added one.after ∙ sum_set (made_calls mid) some.0 its.before.done one.within one.before in
                    let grows = run_more r.0 end mid r.2 r.3 in
                    let child = child_leads s (u ++ r.0) mid (h ++ r.2) there m to.0 to.1 to.2 in
                    let last = go ((u ++ r.0) ++ m ∷ []) to.0 ((h ++ r.2) ++ with_event to.1 []) child (omega (arith, more, grows)) in
                    let history = with_event to.1 last.2 in
                    (r.0 ++ (m ∷ last.0), last.1, r.2 ++ history, leads_on end r.0 (m ∷ last.0) mid last.1 r.2 history r.3 (to.0, to.1, last.2, to.2, last.3, refl), last.4))
                | inr other ↦ elim other as (λ _. SomeEnds end) [
                  | inl went ↦ absurd (not_busy went.0)
                  | inr closed ↦ absurd (not_busy closed.0)
                ]
              ])
        ]

  ends : (n : ℕ) (u : List Move) (end : State) (h : List Event) → Leads s u end h → all_calls big ≤ all_made end + n → SomeEnds end
  ends zero u end h p left = ends_or_calls u end h p (λ w x k q more. (let bound = few w x k q in absurd (omega (arith, bound, left, more))))
  ends (suc n) u end h p left = ends_or_calls u end h p (λ w x k q more. ends n w x k q (omega (arith, left, more)))

  pub all_end : (u : List Move) (end : State) (h : List Event) → Leads s u end h → SomeEnds end
  all_end u end h p = ends (all_calls big) u end h p (omega arith)

pub no_livelock : (c : Component) (way : Way) (matrix big : Matrix) (a s : State) (u : List Move) (end : State) (history : List Event) →
    IsStart c (client_matrix way matrix) a → ((v : List Move) (b : State) (h : List Event) → ClientLeads way a v b h → MayEnd way b) → IsUnrolledFrom way matrix big → IsStart c big s → Leads s u end history → SomeEnds end
no_livelock c way matrix big a s u end history from may unrolled start leads =
    let one : a ≡ client_of way matrix s = start_same c (client_matrix way matrix) a (client_of way matrix s) from (client_starts c way matrix big s unrolled start) in
    all_end c way matrix big s unrolled start (λ v b h p. may v b h (subst (λ x. ClientLeads way x v b h) (sym one) p)) u end history leads

-- ---- from unrolled matrices to the client

-- no thread has a call left
abbrev NoneLeft : State → Type 0
NoneLeft s = (t : ℕ) → call_count s t ≤ made_of s t

open_on : (way : Way) (matrix : Matrix) (v : List Move) (s end : State) (h : List Event) → IsUnrolledFrom way matrix s.matrix → NoneLeft s → Leads s v end h → OpenLeads way (client_of way matrix s) v (client_of way matrix end)
open_on way matrix [] s end h unrolled none p = ap (client_of way matrix) p.0
open_on way matrix (m ∷ v) s end h unrolled none p =
    let its = step_stepped s m p.0 p.1 p.3 in
    let on : IsUnrolledFrom way matrix p.0.matrix = subst (IsUnrolledFrom way matrix) (sym its.matrix) unrolled in
    let busy : HasOpen s m.thread = elim its.kind [
      | inl called ↦
          (let made = made_at s m.thread its.before its.was in
          let idle = made_idle its.before called.0 in
          let left = called.4 in
          let most = none m.thread in
          absurd (omega (arith, made, idle, left, most)))
      | inr other ↦ elim other [ inl went ↦ (its.before, its.was, went.0) | inr closed ↦ (its.before, its.was, closed.0) ]
    ] in
    let none_on : NoneLeft p.0 = λ t. (let most = none t in let grows = made_grows s m p.0 p.1 its t in let count = count_same s p.0 t its.matrix in omega (arith, most, grows, count)) in (
      client_of way matrix p.0,
      option_map (event_in way matrix) p.1,
      open_there way matrix s m.thread busy,
      move_to_client way matrix s m p.0 p.1 unrolled p.3,
      open_on way matrix v p.0 end p.2 on none_on p.4,
    )

pub some_livelock : (c : Component) (way : Way) (matrix : Matrix) (a : State) (u : List Move) (b : State) (history : List Event) →
    IsStart c (client_matrix way matrix) a → ClientLeads way a u b history → (MayEnd way b → ⊥) →
    (smaller : Matrix) × (made : List Event) × IsLivelockOf c way matrix smaller u b made × (map (event_in way matrix) made ≡ history)
some_livelock c way matrix a u b history start p never =
    let there = schedule_from_client c way matrix a u b history start p in
    let run = cut_run c way matrix there.big there.start u there.end there.made there.unrolled there.is_start there.leads in
    let smaller = cut there.big (made_calls there.end) in
    let end = with_matrix there.end smaller in (
      smaller,
      there.made,
      record {
        unrolled = run.unrolled;
        start = run.start;
        is_start = run.is_start;
        end = end;
        leads = run.leads;
        none = λ ends.
            never (ends.0, client_of way matrix ends.1, subst (λ x. OpenLeads way x ends.0 (client_of way matrix ends.1)) there.is (open_on way matrix ends.0 end ends.1 ends.2 run.unrolled run.is.few ends.3), ended_is_blocked way matrix ends.1 ends.4);
        is = there.is;
      },
      there.counted,
    )
