-- The moves that have events, move after move.
use Rattle.std.proofs.Common.{◌≡◌, ℕ, suc, ◌+◌, List, [], ◌∷◌, ◌++◌, length, Option, Some, None, refl, sym, ap, ◌∙◌, subst, arith}
use Rattle.lu_test.specs.declared.schedule.Move.{Move}
use Rattle.lu_machine.specs.declared.event.Event.{Event}
use Rattle.lu_machine.specs.States.{State}
use Rattle.lu_machine.specs.Steps.{Step}
use Rattle.lu_explain.specs.EventMoves.{LeadsNumbered, with_number}

with_append : (event : Option Event) (n : ℕ) (rest more : List ℕ) → with_number event n rest ++ more ≡ with_number event n (rest ++ more)
with_append None n rest more = refl
with_append (Some e) n rest more = refl

-- one move more
pub numbered_more : (s : State) (n : ℕ) (u : List Move) (end : State) (numbers : List ℕ) → LeadsNumbered s n u end numbers → (m : Move) (new : State) (event : Option Event) → Step end m new event → LeadsNumbered s n (u ++ m ∷ []) new (numbers ++ with_number event (n + length u) [])
numbered_more s n [] end numbers leads m new event step =
    let last : n + 0 ≡ n = omega arith in
    let here : Step s m new event = subst (λ (r : State). Step r m new event) leads.0 step in
    (new, event, [], here, (refl, refl), ap (λ x. x ++ with_number event (n + 0) []) leads.1 ∙ ap (λ k. with_number event k []) last)
numbered_more s n (x ∷ u) end numbers (next, e, rest, first, leads, is) m new event step =
    let more = numbered_more next (suc n) u end rest leads m new event step in
    let number : suc n + length u ≡ n + suc (length u) = omega arith in
    (next, e, rest ++ with_number event (suc n + length u) [], first, more, ap (λ x. x ++ with_number event (n + suc (length u)) []) is ∙ with_append e n rest (with_number event (n + suc (length u)) []) ∙ ap (λ k. with_number e n (rest ++ with_number event k [])) (sym number))
