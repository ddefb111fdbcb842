-- The stages that are kept, as the moves of a state are gone through.
use Rattle.std.proofs.Common.{arith, ◌≡◌, ℕ, ◌+◌, ◌<◌, ◌≤◌, List, [], ◌++◌, length, Option, Some, None, slice_get, sym, ◌∙◌, ap, subst, inl, inr, append_assoc}
use Rattle.std.proofs.lemmas.Bool.{cases_lt}
use Rattle.std.proofs.lemmas.List.{append-nil}
use Rattle.std.proofs.lemmas.List.Elements.{All-append, All-nil, All-weaker}
use Rattle.lu_component.specs.Component.{Component}
use Rattle.lu_test.specs.declared.schedule.Move.{Move}
use Rattle.lu_test.specs.Matrix.{Matrix}
use Rattle.lu_machine.specs.declared.event.Event.{Event}
use Rattle.lu_machine.specs.Order.{IsMoveBelow}
use Rattle.lu_machine.specs.States.{State}
use Rattle.lu_machine.specs.Steps.{Step, picks_of}
use Rattle.lu_machine.proofs.Keeping.{step_moved}
use Rattle.lu_machine.proofs.Moves.{feasible_within}
use Rattle.lu_machine.proofs.Orders.{same_move}
use Rattle.lu_machine.proofs.StepLaws.{step_feasible, step_same}
use Rattle.lu_conform.specs.declared.kept.Arrival.{Arrival}
use Rattle.lu_conform.specs.Growing.{AddsFollowing, AddsNext, AddsStage, Entry, GrowsBy, IsFollowing, IsKeptAs, IsNext, Keeps, arrived}
use Rattle.lu_conform.specs.Stages.{Follows, Stage, stage_of}
use Rattle.lu_conform.proofs.Among.{at_left}

pub keeps_more : (c : Component) (matrix : Matrix) (old more new : List Entry) (stage : Stage) → new ≡ old ++ more → Keeps c matrix old stage → Keeps c matrix new stage
keeps_more c matrix old more new stage is k =
    (k.0, k.1, subst (λ (x : List Entry). slice_get x k.0 ≡ Some k.1) (sym is) (at_left old more k.0 k.1 k.2), k.3)

pub grows_on : (P : Entry → Type 0) (old mid new : List Entry) → GrowsBy P old mid → GrowsBy P mid new → GrowsBy P old new
grows_on P old mid new a b =
    (a.0 ++ b.0, b.1 ∙ (ap (λ x. x ++ b.0) a.1 ∙ append_assoc old a.0 b.0), All-append P a.0 b.0 a.2 b.2)

-- a move that follows in one way alone
pub follows_same : (h : List Event) (seen : ℕ) (event : Option Event) (a b : ℕ) → Follows h seen event a → Follows h seen event b → a ≡ b
follows_same h seen event a b p q = by event p q
  where
    by : (e : Option Event) → Follows h seen e a → Follows h seen e b → a ≡ b
    by None x y = x ∙ sym y
    by (Some e) x y = x.1 ∙ sym y.1

module _ (s : State) (h : List Event) (seen : ℕ) (event : Option Event) (arrival : Option Arrival) (old : List Entry) where
  -- no event that follows
  pub follows_none : ((after : ℕ) → Follows h seen event after → ⊥) → AddsFollowing s h seen event arrival old old
  follows_none never = record {
    there = λ after f. absurd (never after f);
    grows = ([], sym (append-nil old), All-nil (IsFollowing s h seen event arrival));
  }

  pub follows_one : (after : ℕ) → Follows h seen event after → (new : List Entry) → AddsStage s.component s.matrix (stage_of s after) arrival old new → AddsFollowing s h seen event arrival old new
  follows_one after f new here =
      record {
        there = λ other g. subst (λ n. Keeps s.component s.matrix new (stage_of s n)) (follows_same h seen event after other f g) here.there;
        grows = (here.grows.0, here.grows.1, All-weaker (IsKeptAs s.component s.matrix (stage_of s after) arrival) (IsFollowing s h seen event arrival) (λ entry is. (after, f, is)) here.grows.0 here.grows.2);
      }

module _ (s : State) (h : List Event) (seen place : ℕ) (old : List Entry) where
  -- of the moves before this one, all stages to which they lead that follow h are there, and no others are added
  pub record AddsBelow (new : List Entry) (limit : Move) : Type 0 where
    pub there : (m : Move) (next : State) (event : Option Event) (after : ℕ) → IsMoveBelow m limit → Step s m next event → Follows h seen event after
        → Keeps s.component s.matrix new (stage_of next after)
    pub grows : GrowsBy (IsNext s h seen place) old new

  pub below_none : AddsBelow old (record { thread = 0; pick = 0 })
  below_none = record {
    there = λ m next event after b step f. elim b [ inl x ↦ absurd (omega arith) | inr x ↦ absurd (omega arith) ];
    grows = ([], sym (append-nil old), All-nil (IsNext s h seen place));
  }

  module _ (t p : ℕ) (mid new : List Entry) where
    -- a stage that is added is one to which the move leads
    pub below_more : (made : State) (event : Option Event) → Step s (record { thread = t; pick = p }) made event → AddsBelow mid (record { thread = t; pick = p }) → AddsFollowing made h seen event (arrived place (record { thread = t; pick = p })) mid new → AddsBelow new (record { thread = t; pick = p + 1 })
    below_more made event step before adds =
        let m : Move = record { thread = t; pick = p } in
        let moved = step_moved s m made event step in
        let there : (after : ℕ) → Follows h seen event after → Keeps s.component s.matrix new (stage_of made after) =
        λ after f. subst (λ d. Keeps d s.matrix new (stage_of made after)) moved.component (subst (λ x. Keeps made.component x new (stage_of made after)) moved.matrix (adds.there after f)) in
        let such : (entry : Entry) → IsFollowing made h seen event (arrived place m) entry → IsNext s h seen place entry =
        λ entry is. (m, made, event, is.0, step, is.1, subst (λ d. IsKeptAs d s.matrix (stage_of made is.0) (arrived place m) entry) moved.component (subst (λ x. IsKeptAs made.component x (stage_of made is.0) (arrived place m) entry) moved.matrix is.2)) in
        let grown : GrowsBy (IsNext s h seen place) mid new = (adds.grows.0, adds.grows.1, All-weaker (IsFollowing made h seen event (arrived place m)) (IsNext s h seen place) such adds.grows.0 adds.grows.2) in
        record {
          there = λ n next e after below other f. elim below as (λ _. Keeps s.component s.matrix new (stage_of next after)) [
            | inl x ↦ keeps_more s.component s.matrix mid adds.grows.0 new (stage_of next after) adds.grows.1 (before.there n next e after (inl x) other f)
            | inr x ↦ elim (cases_lt n.pick p) as (λ _. Keeps s.component s.matrix new (stage_of next after)) [
              | inl lt ↦ keeps_more s.component s.matrix mid adds.grows.0 new (stage_of next after) adds.grows.1 (before.there n next e after (inr (x.0, lt)) other f)
              | inr ge ↦
                  (let is : m ≡ n = same_move m n (sym x.0) (omega arith) in
                  let same = step_same s n made next event e (subst (λ y. Step s y made event) is step) other in
                  let follows : Follows h seen event after = subst (λ y. Follows h seen y after) (sym same.1) f in
                  subst (λ (y : State). Keeps s.component s.matrix new (stage_of y after)) same.0 (there after follows))
            ]
          ];
          grows = grows_on (IsNext s h seen place) old mid new before.grows grown;
        }

  pub below_turn : (t p : ℕ) (new : List Entry) → picks_of s t ≤ p → AddsBelow new (record { thread = t; pick = p }) → AddsBelow new (record { thread = t + 1; pick = 0 })
  below_turn t p new all before = record {
    there = λ m next event after below step f. elim below as (λ _. Keeps s.component s.matrix new (stage_of next after)) [
      | inl x ↦ elim (cases_lt m.thread t) as (λ _. Keeps s.component s.matrix new (stage_of next after)) [
        | inl lt ↦ before.there m next event after (inl lt) step f
        | inr ge ↦
            (let e : m.thread ≡ t = omega arith in
            let same : picks_of s m.thread ≡ picks_of s t = ap (picks_of s) e in
            let able : m.pick < picks_of s m.thread = step_feasible s m next event step in
            before.there m next event after (inr (e, omega arith)) step f)
      ]
      | inr x ↦ absurd (omega arith)
    ];
    grows = before.grows;
  }

  pub below_all : (t : ℕ) (new : List Entry) → length s.threads ≤ t → AddsBelow new (record { thread = t; pick = 0 }) → AddsNext s h seen place old new
  below_all t new all before = record {
    there = λ m next event after step f. (let within = feasible_within s m (step_feasible s m next event step) in before.there m next event after (inl (omega arith)) step f);
    grows = before.grows;
  }
