-- How a state stands, by its threads one after the other.
use Rattle.std.proofs.Common.{◌≡◌, ℕ, zero, suc, ◌<◌, ◌≤◌, ◌⊎◌, Bool, true, false, length, Option, Some, None, slice_get, refl, ap, subst, sym, inl, inr, arith}
use Rattle.std.proofs.lemmas.Bool.{cases_lt, le-ltb}
use Rattle.std.proofs.lemmas.Option.{slice_get_past}
use Rattle.lu_machine.specs.declared.event.Status.{Status}
use Rattle.lu_machine.specs.declared.event.Status.TheVariants.{Running, Complete, Stuck}
use Rattle.lu_machine.specs.declared.thread.Activity.{Activity}
use Rattle.lu_machine.specs.declared.thread.Activity.TheVariants.{Idle, Open}
use Rattle.lu_machine.specs.declared.thread.Thread.{Thread}
use Rattle.lu_machine.specs.States.{State, call_count}
use Rattle.lu_machine.specs.Steps.{picks_of}
use Rattle.lu_machine.specs.Ends.{HasMove, HasNoMove, HasStatus, IsComplete, IsFinished}

-- the first threads, so many, are not enabled; they are all finished, or else the state is not complete
pub record IsWalked (s : State) (many : ℕ) (complete : Bool) : Type 0 where
  pub none : (t : ℕ) → t < many → picks_of s t ≡ 0
  pub all : complete ≡ true → (t : ℕ) → t < many → IsFinished s t
  pub some : complete ≡ false → IsComplete s → ⊥

-- a thread that is not there has no move
pub picks_past : (s : State) (t : ℕ) → length s.threads ≤ t → picks_of s t ≡ 0
picks_past s t past = rw (slice_get_past s.threads t past) refl

pub no_move : (s : State) → ((t : ℕ) → t < length s.threads → picks_of s t ≡ 0) → HasNoMove s
no_move s none t = elim (cases_lt t (length s.threads)) [ inl within ↦ none t within | inr past ↦ picks_past s t past ]

-- no thread of a complete state is enabled
pub complete_no_move : (s : State) → IsComplete s → HasNoMove s
complete_no_move s h = no_move s (λ t within. finished_no_picks s t (slice_get s.threads t) refl (h t within))
  where
    finished_no_picks : (s : State) (t : ℕ) (o : Option Thread) → slice_get s.threads t ≡ o → IsFinished s t → picks_of s t ≡ 0
    finished_no_picks s t None is h = rw is refl
    finished_no_picks s t (Some thread) is h =
        let p = rw is at h in
        rw (is, p.0, le-ltb thread.done (call_count s t) p.1) refl

-- whether a thread is finished is decided
finished_or_not : (s : State) (t : ℕ) (o : Option Thread) → slice_get s.threads t ≡ o → IsFinished s t ⊎ (IsFinished s t → ⊥)
finished_or_not s t None is = inl (rw is tt)
finished_or_not s t (Some thread) is =
    elim (idle_or_not thread.activity) [
      | inl idle ↦ elim (cases_lt thread.done (call_count s t)) [
        | inl left ↦ inr (λ h. let p = rw is at h in absurd (omega (arith, p.1)))
        | inr over ↦ inl (rw is (idle, over))
      ]
      | inr busy ↦ inr (λ h. let p = rw is at h in busy p.0)
    ]
  where
    idle_or_not : (activity : Activity) → (activity ≡ Idle) ⊎ (activity ≡ Idle → ⊥)
    idle_or_not Idle = inl refl
    idle_or_not (Open f) = inr (λ e. cc)

complete_below : (s : State) (n : ℕ) → ((t : ℕ) → t < n → IsFinished s t) ⊎ (((t : ℕ) → t < n → IsFinished s t) → ⊥)
complete_below s zero = inl (λ t h. absurd (omega arith))
complete_below s (suc n) =
    elim (complete_below s n) [
      | inl all ↦ elim (finished_or_not s n (slice_get s.threads n) refl) [
        | inl last ↦ inl (λ t h. elim (cases_lt t n) [ inl below ↦ all t below | inr past ↦ (let e : t ≡ n = omega arith in subst (IsFinished s) (sym e) last) ])
        | inr busy ↦ inr (λ all'. busy (all' n (omega arith)))
      ]
      | inr busy ↦ inr (λ all. busy (λ t h. all t (omega arith)))
    ]

-- a state is complete or not
pub complete_or_not : (s : State) → IsComplete s ⊎ (IsComplete s → ⊥)
complete_or_not s = complete_below s (length s.threads)

move_below : (s : State) (n : ℕ) → HasMove s ⊎ ((t : ℕ) → t < n → picks_of s t ≡ 0)
move_below s zero = inr (λ t h. absurd (omega arith))
move_below s (suc n) =
    elim (move_below s n) [
      | inl some ↦ inl some
      | inr none ↦ elim (cases_lt 0 (picks_of s n)) [
        | inl here ↦ inl (n, here)
        | inr not ↦ inr (λ t h. elim (cases_lt t n) [ inl below ↦ none t below | inr past ↦ (let e : t ≡ n = omega arith in let same : picks_of s t ≡ picks_of s n = ap (picks_of s) e in omega arith) ])
      ]
    ]

-- some thread is enabled or none
pub move_or_not : (s : State) → HasMove s ⊎ HasNoMove s
move_or_not s = elim (move_below s (length s.threads)) [ inl some ↦ inl some | inr none ↦ inr (no_move s none) ]

-- a state has one status
pub status_same : (s : State) (a b : Status) → HasStatus s a → HasStatus s b → a ≡ b
status_same s Running Running h k = refl
status_same s Running Complete h k = let none = complete_no_move s k h.0 in absurd (omega arith)
status_same s Running Stuck h k = let none = k.1 h.0 in absurd (omega arith)
status_same s Complete Running h k = let none = complete_no_move s h k.0 in absurd (omega arith)
status_same s Complete Complete h k = refl
status_same s Complete Stuck h k = absurd (k.0 h)
status_same s Stuck Running h k = let none = h.1 k.0 in absurd (omega arith)
status_same s Stuck Complete h k = absurd (h.0 k)
status_same s Stuck Stuck h k = refl
