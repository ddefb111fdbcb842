-- What is told of the members after one event more.
use Rattle.std.proofs.Common.{arith, ◌≡◌, ℕ, Bool, false, get_or, List, [], ◌∷◌, ◌++◌, length, Option, Some, None, slice_get, sym, refl, ◌∙◌, ap, subst, inl, inr}
use Rattle.std.specs.Global.{Vec}
use Rattle.std.proofs.lemmas.List.{append-nil}
use Rattle.std.proofs.lemmas.Option.{get_or_from_slice_get, same_Some, slice_get_within}
use Rattle.lu_machine.specs.declared.event.Event.{Event}
use Rattle.lu_machine.specs.declared.event.Event.TheVariants.{Return}
use Rattle.lu_machine.specs.declared.event.Outcome.{Outcome}
use Rattle.lu_machine.specs.States.{State}
use Rattle.lu_history.specs.declared.operation.OpId.{OpId}
use Rattle.lu_history.specs.declared.serial.SerialOp.{SerialOp}
use Rattle.lu_history.proofs.Events.{at_push}
use Rattle.lu_history.proofs.Keeping.{calls_same}
use Rattle.lu_graph.specs.Alive.{Admits, ArePossible}
use Rattle.lu_graph.specs.declared.possibilities.ReturnAt.{ReturnAt}
use Rattle.lu_graph.specs.Judging.{Follows, HasCalls, Stay, StayPossible, TellsStays}
use Rattle.lu_graph.specs.Possibilities.{HaveCalls, IsNoReturn}
use Rattle.lu_graph.proofs.Many.{some_at}
use Rattle.lu_graph.proofs.Possible.{possible_goes_on}

-- one member more
pub stay_more : (members : List (Vec SerialOp)) (at : ReturnAt) (old now new : List Bool) (place : ℕ) (q : Vec SerialOp) (b so : Bool)
    → slice_get members place ≡ Some q → b ≡ get_or old place false → TellsStays q.items at b so → new ≡ now ++ so ∷ [] → length now ≡ place
    → Stay members at old now → Stay members at old new
stay_more members at old now new place q b so there was tells grown many stay i p d c its before made =
    elim (at_push now so c i (subst (λ x. slice_get x i ≡ Some c) grown made)) as (λ _. TellsStays p.items at d c) [
      | inl early ↦ stay i p d c its before early.1
      | inr late ↦
          (let here : i ≡ place = late.0 ∙ many in
          let one : q ≡ p = same_Some q p (sym there ∙ (ap (slice_get members) (sym here) ∙ its)) in
          let same : b ≡ d = was ∙ get_or_from_slice_get old place d false (ap (slice_get old) (sym here) ∙ before) in
          subst (λ x. TellsStays p.items at d x) (sym late.1) (subst (λ x. TellsStays p.items at x so) same (subst (λ (v : Vec SerialOp). TellsStays v.items at b so) one tells)))
    ]

module _ (members : List (Vec SerialOp)) (s : State) (old : List Bool) where
  -- nothing changes where nothing returns
  pub follows_quiet : (event : Option Event) → IsNoReturn event → Follows members s old event old
  follows_quiet None quiet h agree told = subst (λ g. ArePossible members g old) (sym (append-nil h)) told
  follows_quiet (Some e) quiet h agree told = record {
    many = told.many;
    tells = λ i q b at there.
        (let both = possible_goes_on q.items h e in
        let before = told.tells i q b at there in (
          (λ x. both.1 (before.0 x, λ a outcome is. absurd (quiet a outcome (ap Some is)))),
          (λ x. before.1 (both.0 x).0),
        ));
  }

  pub follows_return : (at : ReturnAt) (new : List Bool) → HaveCalls s at.calls → StayPossible members at old new → Follows members s old (Some (Return at.operation.t at.operation.k at.outcome)) new
  follows_return at new have stay h agree told = record {
    many = stay.many;
    tells = λ i q c its there.
        (let many = told.many in
        let within = slice_get_within members i q its in
        let before = some_at old i (omega (arith, within, many)) in
        let a = at.operation in
        let outcome = at.outcome in
        let made : HasCalls at.calls h = λ u. sym (calls_same u a.t a.k outcome h) ∙ (agree.called u ∙ sym (have u)) in
        let both = possible_goes_on q.items h (Return a.t a.k outcome) in
        let stays = stay.stay i q before.0 c its before.1 there h made in
        let was = told.tells i q before.0 its before.1 in (
          (λ x. both.1 (was.0 (stays.0 x).0, λ b other e. same_admits q.items h a b outcome other e (stays.0 x).1)),
          (λ x. let is = both.0 x in stays.1 (was.1 is.0, is.1 a outcome refl)),
        ));
  }
    where
      same_admits : (q : List SerialOp) (h : List Event) (a b : OpId) (outcome other : Outcome) → Return a.t a.k outcome ≡ Return b.t b.k other → Admits q h a outcome → Admits q h b other
      same_admits q h a b outcome other e is =
          let thread : a.t ≡ b.t = cc in
          let number : a.k ≡ b.k = cc in
          let so : outcome ≡ other = cc in
          let make : ℕ → ℕ → OpId = λ t k. record { t = t; k = k } in
          subst (λ o. Admits q h b o) so (subst (λ x. Admits q h x outcome) (ap (λ t. make t a.k) thread ∙ ap (λ k. make b.t k) number) is)
