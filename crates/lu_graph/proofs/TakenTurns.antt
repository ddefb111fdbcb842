-- Whose moves go first.
use Rattle.std.proofs.Common.{arith, ◌≡◌, ℕ, ◌+◌, ◌<◌, Bool, true, false, List, length, subst, inl, inr}
use Rattle.std.proofs.lemmas.Bool.{cases_lt}
use Rattle.lu_machine.specs.States.{State}
use Rattle.lu_machine.proofs.Moves.{feasible_within}
use Rattle.lu_graph.specs.First.{IsFirstAside}
use Rattle.lu_graph.specs.Growing.{TakeTurns}
use Rattle.lu_graph.specs.Guards.{TellsGuarded}
use Rattle.lu_graph.specs.Turns.{is_aside_at}
use Rattle.lu_graph.proofs.Aside.{is_told, none_past, not_told, one_first}

-- those of the first thread that is aside
pub turns_one : (s : State) (guarded : List Bool) (told : TellsGuarded s.component guarded) (t : ℕ) → is_aside_at guarded s t ≡ true → ((u : ℕ) → u < t → is_aside_at guarded s u ≡ false) → TakeTurns s t (t + 1)
turns_one s guarded told t is none m feasible =
    let here : IsFirstAside s t = record { aside = is_told s guarded told t is; first = λ u lt. not_told s guarded told u (none u lt) } in (
      (λ goes. let same = goes t here in (omega (arith, same), omega (arith, same))),
      (λ (ge, lt) u is. let same = one_first s t u here is in omega (arith, same, ge, lt)),
    )

-- or all, where there is none
pub turns_all : (s : State) (guarded : List Bool) (told : TellsGuarded s.component guarded) → ((u : ℕ) → u < length s.threads → is_aside_at guarded s u ≡ false) → TakeTurns s 0 (length s.threads)
turns_all s guarded told none m feasible = (
  (λ goes. (omega arith, feasible_within s m feasible)),
  (λ within u is. elim (cases_lt u (length s.threads)) as (λ _. m.thread ≡ u) [
    | inl lt ↦ absurd (not_told s guarded told u (none u lt) is.aside)
    | inr past ↦ absurd (none_past s u past is.aside)
  ]),
)

-- one more that is not aside
pub none_more : (s : State) (guarded : List Bool) (t : ℕ) → ((u : ℕ) → u < t → is_aside_at guarded s u ≡ false) → is_aside_at guarded s t ≡ false → (u : ℕ) → u < t + 1 → is_aside_at guarded s u ≡ false
none_more s guarded t none not u lt = elim (cases_lt u t) as (λ _. is_aside_at guarded s u ≡ false) [
  | inl before ↦ none u before
  | inr past ↦ (let here : t ≡ u = omega (arith, lt, past) in subst (λ v. is_aside_at guarded s v ≡ false) here not)
]
