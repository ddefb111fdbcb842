-- What is remembered of returns.
use Rattle.std.proofs.Common.{◌≡◌, ℕ, Bool, true, ◌&&◌, List, [], ◌∷◌, ◌++◌, Option, None, Some, refl, sym, ◌∙◌, ap, subst}
use Rattle.std.specs.Prelude.{IfSome, nat_eq}
use Rattle.std.specs.Bool.{Decides, beq}
use lib.Pointwise.{pointwise}
use Rattle.std.specs.Global.{Vec}
use Rattle.std.specs.Prelude.{All}
use Rattle.std.specs.Map.{lookup}
use Rattle.std.proofs.lemmas.Bool.Decides.{Decides-and, Decides-eqb, Decides-like}
use Rattle.std.proofs.lemmas.List.Elements.{All-contains, All-nil, All-push, All-weaker}
use Rattle.std.proofs.lemmas.Map.Views.{Contains-from_lookup}
use Rattle.lu_machine.specs.declared.event.Event.{Event}
use Rattle.lu_machine.specs.declared.event.Outcome.{Outcome}
use Rattle.lu_machine.specs.declared.event.Outcome.TheVariants.{Ret, Trap}
use Rattle.lu_machine.specs.contracts.event.OutcomePartialEq as outcome
use Rattle.lu_machine.specs.States.{State}
use Rattle.lu_history.specs.declared.operation.OpId.{OpId}
use Rattle.lu_history.specs.contracts.operation.OpIdPartialEq as op_id
use Rattle.lu_history.specs.declared.serial.SerialOp.{SerialOp}
use Rattle.lu_graph.specs.declared.possibilities.Possibilities.{Possibilities}
use Rattle.lu_graph.specs.declared.possibilities.ReturnAt.{ReturnAt}
use Rattle.lu_graph.specs.contracts.possibilities.ReturnAtPartialEq as return_at
use Rattle.lu_graph.specs.Discovering.{Extends}
use Rattle.lu_graph.specs.Judging.{Follows, StayPossible}
use Rattle.lu_graph.specs.Numbered.{IsNumbered, is_list}
use Rattle.lu_graph.specs.Possibilities.{AreLeft, Gives, IsLeft, IsNoReturn, IsNumberOf, NumbersAfter, NumbersStay, RecallsAfter, TellsReturn}
use Rattle.lu_graph.proofs.Followed.{follows_quiet, follows_return}
use Rattle.lu_graph.proofs.Numbers.{extends_none, number_stays, numbered}
use Rattle.lu_graph.proofs.Same.{one_alive, same_numbers}

-- ---- equal returns

abbrev outcome_eq : Outcome → Outcome → Bool
outcome_eq = (outcome.TheImpl.ghosts).eq

abbrev op_id_eq : OpId → OpId → Bool
op_id_eq = (op_id.TheImpl.ghosts).eq

abbrev pub return_eq : ReturnAt → ReturnAt → Bool
return_eq = (return_at.TheImpl.ghosts).eq

same_outcome : (a b : Outcome) → Decides (outcome_eq a b) (a ≡ b)
same_outcome (Ret m) (Ret n) = Decides-like (nat_eq m n) (λ is. ap Ret is) (λ is. cc) (Decides-eqb m n)
same_outcome (Ret m) Trap = ((λ is. absurd (cc)), (λ is. absurd (cc)))
same_outcome Trap (Ret n) = ((λ is. absurd (cc)), (λ is. absurd (cc)))
same_outcome Trap Trap = ((λ is. refl), (λ is. refl))

ids_same : (a b : OpId) → a.t ≡ b.t → a.k ≡ b.k → a ≡ b
ids_same a b thread number =
    let make : ℕ → ℕ → OpId = λ t k. record { t = t; k = k } in
    ap (λ t. make t a.k) thread ∙ ap (λ k. make b.t k) number

same_id : (a b : OpId) → Decides (op_id_eq a b) (a ≡ b)
same_id a b =
    Decides-like (op_id_eq a b) (λ is. ids_same a b is.0 is.1) (λ is. (ap (λ (x : OpId). x.t) is, ap (λ (x : OpId). x.k) is))
    (Decides-and (nat_eq a.t b.t) (nat_eq a.k b.k) (Decides-eqb a.t b.t) (Decides-eqb a.k b.k))

returns_same : (a b : ReturnAt) → a.alive ≡ b.alive → a.calls ≡ b.calls → a.operation ≡ b.operation → a.outcome ≡ b.outcome → a ≡ b
returns_same a b alive calls operation outcome =
    let make : ℕ → List ℕ → OpId → Outcome → ReturnAt = λ n c a o. record { alive = n; calls = c; operation = a; outcome = o } in
    ap (λ n. make n a.calls a.operation a.outcome) alive ∙ (ap (λ c. make b.alive c a.operation a.outcome) calls
    ∙ (ap (λ x. make b.alive b.calls x a.outcome) operation ∙ ap (λ o. make b.alive b.calls b.operation o) outcome))

same_return : (a b : ReturnAt) → return_eq a b ≡ true → a ≡ b
same_return a b =
    (Decides-like (return_eq a b)
    (λ is. returns_same a b is.0 is.1.0 is.1.1.0 is.1.1.1)
    (λ is. (ap (λ (x : ReturnAt). x.alive) is, (ap (λ (x : ReturnAt). x.calls) is, (ap (λ (x : ReturnAt). x.operation) is, ap (λ (x : ReturnAt). x.outcome) is))))
    (Decides-and (nat_eq a.alive b.alive) (pointwise nat_eq a.calls b.calls && (op_id_eq a.operation b.operation && outcome_eq a.outcome b.outcome)) (Decides-eqb a.alive b.alive)
    (Decides-and (pointwise nat_eq a.calls b.calls) (op_id_eq a.operation b.operation && outcome_eq a.outcome b.outcome) (same_numbers a.calls b.calls)
    (Decides-and (op_id_eq a.operation b.operation) (outcome_eq a.outcome b.outcome) (same_id a.operation b.operation) (same_outcome a.outcome b.outcome))))).0

-- ---- what is remembered

module _ (members : List (Vec SerialOp)) where
  abbrev IsLeftIn : Possibilities → ReturnAt × ℕ → Type 0
  IsLeftIn possible entry = IsLeft members possible entry.0 entry.1

  pub left_none : (possible : Possibilities) → possible.returns.entries ≡ [] → AreLeft members possible
  left_none possible none = subst (All (IsLeftIn possible)) (sym none) (All-nil (IsLeftIn possible))

  left_grown : (old new : Possibilities) → Extends old.lists.keys new.lists.keys → (entry : ReturnAt × ℕ) → IsLeftIn old entry → IsLeftIn new entry
  left_grown old new grown entry is = record {
    old = is.old;
    new = is.new;
    was = number_stays (is_list beq is.old) old.lists.keys new.lists.keys entry.0.alive grown is.was;
    is = number_stays (is_list beq is.new) old.lists.keys new.lists.keys entry.1 grown is.is;
    stays = is.stays;
  }

  module _ (at : ReturnAt) where
    -- it was met
    pub numbers_met : (possible : Possibilities) (n : ℕ) → lookup (return_eq at) possible.returns.entries ≡ Some n → NumbersStay members at possible possible n
    numbers_met possible n met alive knows left =
        let entries = possible.returns.entries in
        let it : IsLeft members possible at n = All-contains (IsLeftIn possible) entries (at, n) left (Contains-from_lookup same_return at n entries met) in
        let same : it.old ≡ alive = one_alive possible at.alive it.old alive it.was knows in
        record {
          list = it.new;
          such = subst (λ x. StayPossible members at x it.new) same it.stays;
          number = it.is;
          grows = extends_none possible.lists.keys;
          left = left;
        }

    -- it is new
    pub numbers_new : (old new : Possibilities) (listed now : List Bool) (n : ℕ) → Gives old at.alive listed → StayPossible members at listed now
        → IsNumbered (is_list beq now) old.lists.keys new.lists.keys n → new.returns.entries ≡ old.returns.entries ++ (at, n) ∷ [] → NumbersStay members at old new n
    numbers_new old new listed now n gives told numbered more alive knows left =
        let same : listed ≡ alive = gives alive knows in
        let here = subst (λ x. StayPossible members at x now) same told in
        let it : IsLeft members new at n = record {
          old = alive;
          new = now;
          was = number_stays (is_list beq alive) old.lists.keys new.lists.keys at.alive numbered.grows knows;
          is = numbered.number;
          stays = here;
        } in
        record {
          list = now;
          such = here;
          number = numbered.number;
          grows = numbered.grows;
          left = subst (All (IsLeftIn new)) (sym more)
              (All-push (IsLeftIn new) old.returns.entries (at, n) (All-weaker (IsLeftIn old) (IsLeftIn new) (left_grown old new numbered.grows) old.returns.entries left) it);
        }

  -- ---- after events

  pub numbers_same : (s : State) (event : Option Event) (possible : Possibilities) (n : ℕ) → IsNoReturn event → NumbersAfter members s event n possible possible n
  numbers_same s event possible n quiet alive knows left =
      record { list = alive; such = follows_quiet members s alive event quiet; number = knows; grows = extends_none possible.lists.keys; left = left }

  pub numbers_return : (s : State) (event : Option Event) (at : ReturnAt) (was : ℕ) (old new : Possibilities) (n : ℕ) → TellsReturn s was event (Some at)
      → NumbersStay members at old new n → NumbersAfter members s event was old new n
  numbers_return s event at was old new n (is, have, from) stay alive knows left =
      let one = stay alive (subst (IsNumberOf old alive) (sym from) knows) left in
      record { list = one.list; such = subst (λ e. Follows members s alive e one.list) (sym is) (follows_return members s alive at one.list have one.such); number = one.number; grows = one.grows; left = one.left }

-- what is looked up
pub recalled : (s : State) (event : Option Event) (at : ReturnAt) (was : ℕ) (known : Possibilities) (o : Option ℕ) → TellsReturn s was event (Some at) → o ≡ lookup (return_eq at) known.returns.entries → IfSome o (RecallsAfter s event was known)
recalled s event at was known None told met = tt
recalled s event at was known (Some n) told met = λ members. numbers_return members s event at was known known n told (numbers_met members at known n (sym met))
