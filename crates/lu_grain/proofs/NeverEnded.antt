-- States from which no schedule ends are the same however many local instructions run with a move.
use Rattle.std.proofs.Common.{arith, ◌≡◌, ℕ, zero, suc, ◌+◌, ◌<◌, ◌≤◌, List, [], ◌∷◌, ◌++◌, length, None, Some, slice_get, option_map, refl, sym, ◌∙◌, ap, subst, inl, inr}
use Rattle.std.proofs.lemmas.Bool.{cases_lt}
use Rattle.std.proofs.lemmas.List.{length-set}
use Rattle.std.proofs.lemmas.Option.{slice_get_past}
use Rattle.lu_test.specs.declared.schedule.Move.{Move}
use Rattle.lu_machine.specs.declared.event.Event.{Event}
use Rattle.lu_machine.specs.declared.thread.Thread.{Thread}
use Rattle.lu_machine.specs.Ends.{IsEnded}
use Rattle.lu_machine.specs.Runs.{Leads}
use Rattle.lu_machine.specs.States.{State, with_standing}
use Rattle.lu_machine.proofs.Paths.{leads_on}
use Rattle.lu_machine.proofs.Undoing.{moved_there}
use Rattle.lu_serial.proofs.Opening.{slice_get_set_other}
use Rattle.lu_graph.specs.Hopeless.{IsHopeless}
use Rattle.lu_grain.specs.Grains.{grained}
use Rattle.lu_grain.specs.Laws.{HopelessAlike, LosesHopeToo}
use Rattle.lu_grain.proofs.Ahead.{ahead_itself, keeps_ahead}
use Rattle.lu_grain.proofs.Alone.{leads_alone, runs_alone}
use Rattle.lu_grain.proofs.Carried.{placed, stuck_grained}
use Rattle.lu_grain.proofs.Ended.{NoGuard, guarded_by_none, same_ends, same_lists, unguarded}
use Rattle.lu_grain.proofs.Threads.{run_local, runs_there}

pub ended_grained : (s : State) (n : ℕ) → IsEnded s → IsEnded (grained s n)
ended_grained s n (inl complete) = inl complete
ended_grained s n (inr stuck) = inr (stuck_grained s n stuck)

hopeless_grained : (s : State) (n : ℕ) → IsHopeless s → IsHopeless (grained s n)
hopeless_grained s n hopeless v r =
    let l = s.component.local in
    let other = same_ends (grained s n) l v r.end r.history r.leads r.holds in
    hopeless other.moves (record { end = grained r.end l; history = r.history; leads = other.leads; holds = ended_grained r.end l r.holds })

pub hopeless_alike : HopelessAlike
hopeless_alike s n = (hopeless_grained s n, hopeless_grained (grained s n) s.component.local)

-- where a schedule leads from such a state is one too
hopeless_on : (s : State) (u : List Move) (end : State) (h : List Event) → Leads s u end h → IsHopeless s → IsHopeless end
hopeless_on s u end h leads hopeless v r =
    hopeless (u ++ v) (record { end = r.end; history = h ++ r.history; leads = leads_on s u v end r.end h r.history leads r.leads; holds = r.holds })

some_thread : (xs : List Thread) (i : ℕ) → i < length xs → (x : Thread) × (slice_get xs i ≡ Some x)
some_thread [] i lt = absurd (omega arith)
some_thread (x ∷ xs) zero lt = (x, refl)
some_thread (x ∷ xs) (suc i) lt = some_thread xs i (omega arith)

-- With `local 0` each thread from t on runs its local instructions, one after the other.
catches_up : (ks : ℕ → ℕ) (ahead : List Thread) (left t : ℕ) (s : State) → length s.threads ≡ t + left
    → ((i : ℕ) → i < t → slice_get ahead i ≡ slice_get s.threads i)
    → ((i : ℕ) → t ≤ i → slice_get ahead i ≡ option_map (run_local s.component.operations (ks i)) (slice_get s.threads i))
    → (u : List Move) × Leads (grained s 0) u (placed s 0 ahead) []
catches_up ks ahead zero t s size before behind =
    let same : (i : ℕ) → slice_get ahead i ≡ slice_get s.threads i = λ i. elim (cases_lt i t) as (λ _. slice_get ahead i ≡ slice_get s.threads i) [
      | inl lt ↦ before i lt
      | inr ge ↦
          (let none : slice_get s.threads i ≡ None = slice_get_past s.threads i (omega (arith, size, ge)) in
          behind i ge ∙ (ap (option_map (run_local s.component.operations (ks i))) none ∙ sym none))
    ] in
    ([], (ap (λ (xs : List Thread). placed s 0 xs) (same_lists ahead s.threads same), refl))
catches_up ks ahead (suc left) t s size before behind =
    let x = some_thread s.threads t (omega (arith, size)) in
    let y = run_local s.component.operations (ks t) x.0 in
    let onto = with_standing s t y in
    let alone = runs_alone NoGuard (λ a r m k same opens guard. tt) (ks t) s t onto (runs_there (ks t) s t x.0 x.1) tt in
    let now = moved_there s t y x.0 x.1 in
    let here : slice_get ahead t ≡ Some y = behind t (omega arith) ∙ ap (option_map (run_local s.component.operations (ks t))) x.1 in
    let rest = catches_up ks ahead left (suc t) onto (length-set s.threads t y ∙ (omega (arith, size)))
    (λ i lt. elim (cases_lt i t) as (λ _. slice_get ahead i ≡ slice_get onto.threads i) [
      | inl less ↦ before i less ∙ sym (slice_get_set_other s.threads t i y (λ e. omega (arith, e, less)))
      | inr ge ↦ (let e : i ≡ t = omega (arith, lt, ge) in subst (λ (j : ℕ). slice_get ahead j ≡ slice_get onto.threads j) (sym e) (here ∙ sym now))
    ])
    (λ i ge. behind i (omega (arith, ge)) ∙ ap (option_map (run_local s.component.operations (ks i))) (sym (slice_get_set_other s.threads t i y (λ e. omega (arith, e, ge))))) in
    (alone.moves ++ rest.0, leads_on (grained s 0) alone.moves rest.0 (grained onto 0) (placed s 0 ahead) [] [] (unguarded alone.moves (grained s 0) (grained onto 0) [] alone.leads) rest.1)

pub loses_hope_too : LosesHopeToo
loses_hope_too s n u r =
    let end = r.end in
    let first = leads_alone NoGuard (λ x y m k same opens guard. tt) u s end r.history (guarded_by_none u s end r.history r.leads) in
    let slow = grained s 0 in
    let onto = keeps_ahead NoGuard n (λ x m ks ahead are guard. tt) first.moves slow (grained end 0) r.history (λ t. 0) slow.threads (omega arith) (ahead_itself slow.component.operations slow.threads) first.leads in
    let there = unguarded onto.moves (grained s n) (placed (grained end 0) n onto.threads) r.history onto.leads in
    let way = catches_up onto.counts onto.threads (length end.threads) 0 (grained end 0) (omega arith) (λ i lt. absurd (omega (arith, lt))) (λ i ge. onto.are i) in
    let behind = hopeless_grained end 0 r.holds in
    let ahead = hopeless_on (grained end 0) way.0 (placed (grained end 0) 0 onto.threads) [] way.1 behind in
    (onto.moves, record { end = placed (grained end 0) n onto.threads; history = r.history; leads = there; holds = hopeless_grained (placed (grained end 0) 0 onto.threads) n ahead })
