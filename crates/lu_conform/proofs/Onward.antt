-- Schedules that follow a history, and to which stages they lead.
use Rattle.std.proofs.Common.{arith, ◌≡◌, ℕ, ◌+◌, ◌<◌, ◌≤◌, List, [], ◌∷◌, ◌++◌, length, Option, Some, None, slice_get, refl, sym, ◌∙◌, ap, subst, append_assoc, add-zero}
use Rattle.std.proofs.lemmas.List.{append-nil, length_push}
use Rattle.lu_test.specs.declared.schedule.Move.{Move}
use Rattle.lu_machine.specs.declared.event.Event.{Event}
use Rattle.lu_machine.specs.Runs.{Leads, with_event}
use Rattle.lu_machine.specs.States.{State}
use Rattle.lu_machine.specs.Steps.{Step}
use Rattle.lu_conform.specs.Laws.{AllAreAmong}
use Rattle.lu_conform.specs.Stages.{Follows, IsAmong, Stage, stage_of}
use Rattle.lu_conform.proofs.Among.{at_between, at_front}

-- Has says of a stage that it has been met after so many moves. Where each move that follows h goes on from one such stage to another, up to so many moves, a schedule that follows h leads to one.
module _ (h : List Event) (limit : ℕ) (Has : Stage → ℕ → Type 0) (goes : (stage : Stage) (n : ℕ) (m : Move) (next : State) (event : Option Event) (after : ℕ) → n < limit → Has stage n → Step stage.state m next event → Follows h stage.seen event after → Has (stage_of next after) (n + 1)) where
  module _ (s next : State) (n : ℕ) (m : Move) (before rest later : List Event) (short : n < limit) (is : Has (stage_of s (length before)) n) where
    -- by one move: what is seen then, and what is left of h
    by_event : (event : Option Event) → Step s m next event → h ≡ before ++ (with_event event rest ++ later) → (more : List Event) × Has (stage_of next (length more)) (n + 1) × (h ≡ more ++ (rest ++ later)) × (before ++ with_event event rest ≡ more ++ rest)
    by_event None step whole = (before, goes (stage_of s (length before)) n m next None (length before) short is step refl, whole, refl)
    by_event (Some e) step whole =
        let there : slice_get h (length before) ≡ Some e = ap (λ (x : List Event). slice_get x (length before)) whole ∙ at_between before e (rest ++ later) in
        let more : List Event = before ++ e ∷ [] in
        let long : length more ≡ length before + 1 = length_push before e in (
          more,
          goes (stage_of s (length before)) n m next (Some e) (length more) short is step (there, long),
          whole ∙ sym (append_assoc before (e ∷ []) (rest ++ later)),
          sym (append_assoc before (e ∷ []) rest),
        )

  pub on_from : (s : State) (before : List Event) (n : ℕ) → Has (stage_of s (length before)) n → (u : List Move) (end : State) (k later : List Event) → Leads s u end k → h ≡ before ++ (k ++ later) → n + length u ≤ limit → Has (stage_of end (length (before ++ k))) (n + length u)
  on_from s before n is [] end k later leads whole short =
      let same : before ++ k ≡ before = ap (λ x. before ++ x) leads.1 ∙ append-nil before in
      subst (λ (x : List Event). Has (stage_of end (length x)) (n + 0)) (sym same)
      (subst (λ (x : State). Has (stage_of x (length before)) (n + 0)) (sym leads.0) (subst (Has (stage_of s (length before))) (sym (add-zero n)) is))
  on_from s before n is (m ∷ u) end k later leads whole short =
      let next = leads.0 in
      let event = leads.1 in
      let rest = leads.2 in
      let here : h ≡ before ++ (with_event event rest ++ later) = whole ∙ ap (λ x. before ++ (x ++ later)) leads.5 in
      let one = by_event s next n m before rest later (omega arith) is event leads.3 here in
      let on = on_from next one.0 (n + 1) one.1 u end rest later leads.4 one.2 (omega arith) in
      let long : n + 1 + length u ≡ n + length (m ∷ u) = omega arith in
      let seen : one.0 ++ rest ≡ before ++ k = sym one.3 ∙ ap (λ x. before ++ x) (sym leads.5) in
      subst (Has (stage_of end (length (before ++ k)))) long (subst (λ (x : List Event). Has (stage_of end (length x)) (n + 1 + length u)) seen on)

pub all_are_among : AllAreAmong
all_are_among s h stages u end history rest all leads whole =
    let Has : Stage → ℕ → Type 0 = λ stage _. IsAmong stages stage in
    on_from h (length u) Has (λ stage n m next event after short is step f. all.closed stage m next event after is step f) s [] 0 all.start u end history rest leads whole (omega arith)

-- what a move that follows h leaves of it
pub followed : (h seen_ones rest : List Event) (seen after : ℕ) (event : Option Event) → h ≡ seen_ones ++ rest → seen ≡ length seen_ones → Follows h seen event after → (left : List Event) × (h ≡ (seen_ones ++ with_event event []) ++ left) × (after ≡ length (seen_ones ++ with_event event []))
followed h seen_ones rest seen after None whole is f =
    let none : seen_ones ++ [] ≡ seen_ones = append-nil seen_ones in
    (rest, whole ∙ ap (λ x. x ++ rest) (sym none), f ∙ (is ∙ ap length (sym none)))
followed h seen_ones rest seen after (Some e) whole is f =
    let there : slice_get (seen_ones ++ rest) (length seen_ones) ≡ Some e = subst (λ (x : List Event). slice_get x (length seen_ones) ≡ Some e) whole (subst (λ n. slice_get h n ≡ Some e) is f.0) in
    let left = at_front seen_ones rest e there in
    (left.0, whole ∙ (ap (λ x. seen_ones ++ x) left.1 ∙ sym (append_assoc seen_ones (e ∷ []) left.0)), f.1 ∙ (ap (λ n. n + 1) is ∙ sym (length_push seen_ones e)))
