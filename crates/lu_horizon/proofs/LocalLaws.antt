-- What is ahead of a thread that runs on by local instructions.
use Rattle.std.proofs.Common.{◌≡◌, ℕ, zero, suc, ◌+◌, Bool, true, false, if◌then◌else◌, List, Option, Some, None, MatchBool, slice_get, refl, sym, ◌∙◌, ap, subst, inl, inr}
use Rattle.std.specs.Option.{option_map_or}
use Rattle.std.proofs.lemmas.Option.{same_Some}
use Rattle.lu_component.specs.declared.instr.Instr.{Instr}
use Rattle.lu_component.specs.declared.instr.Instr.TheVariants.{Set, Compute, Load, Store, Cas, Lock, Unlock, Await, AwaitNot, Pick, Jump, JumpIfZero, Return}
use Rattle.lu_component.specs.Component.{Component}
use Rattle.lu_test.specs.declared.matrix.Call.{Call}
use Rattle.lu_test.specs.declared.schedule.Move.{Move}
use Rattle.lu_test.specs.Matrix.{Matrix}
use Rattle.lu_machine.specs.States.{State, instr_at}
use Rattle.lu_machine.specs.Steps.{OneStep, RunsOn, is_at_local, is_local, more_local}
use Rattle.lu_horizon.specs.declared.outlook.Outlook.{Outlook}
use Rattle.lu_horizon.specs.Code.{after_local, more_after, run_on}
use Rattle.lu_horizon.specs.Own.{IsOpenAt}
use Rattle.lu_horizon.specs.Outlooks.{IsWeaker}
use Rattle.lu_horizon.specs.Sure.{HasOutlook}
use Rattle.lu_horizon.specs.Tables.{IsCall}
use Rattle.lu_horizon.proofs.OwnLaws.{MayEnd, MayGoTo, own_goes}
use Rattle.lu_horizon.proofs.SureLaws.{either_first, either_second, outlook_less, within_itself}

-- no local instruction ends its operation
local_ends : (c : Component) (instr : Instr) → is_local instr ≡ true → MayEnd c instr → ⊥
local_ends c (Set to v) is ends = ends
local_ends c (Compute by to a b) is ends = ends
local_ends c (Load to w i) is ends = cc
local_ends c (Store w i v) is ends = cc
local_ends c (Cas to w i x y) is ends = cc
local_ends c (Lock l) is ends = cc
local_ends c (Unlock l) is ends = cc
local_ends c (Await w i v) is ends = cc
local_ends c (AwaitNot w i v) is ends = cc
local_ends c (Pick to count) is ends = cc
local_ends c (Jump target) is ends = ends
local_ends c (JumpIfZero v target) is ends = ends
local_ends c (Return v) is ends = cc

-- what is after it says no more than what is at each place to which it may go
local_within : (on : ℕ → Outlook) (place : ℕ) (instr : Instr) → is_local instr ≡ true → (q : ℕ) → MayGoTo instr place q → IsWeaker (after_local on place instr) (on q)
local_within on place (Set to v) is q goes = rw goes (within_itself (on (place + 1)))
local_within on place (Compute by to a b) is q goes = rw goes (within_itself (on (place + 1)))
local_within on place (Load to w i) is q goes = absurd (cc)
local_within on place (Store w i v) is q goes = absurd (cc)
local_within on place (Cas to w i x y) is q goes = absurd (cc)
local_within on place (Lock l) is q goes = absurd (cc)
local_within on place (Unlock l) is q goes = absurd (cc)
local_within on place (Await w i v) is q goes = absurd (cc)
local_within on place (AwaitNot w i v) is q goes = absurd (cc)
local_within on place (Pick to count) is q goes = absurd (cc)
local_within on place (Jump target) is q goes = rw goes (within_itself (on target))
local_within on place (JumpIfZero v target) is q goes =
    elim goes [
      | inl e ↦ rw e (either_first (on target) (on (place + 1)))
      | inr e ↦ rw e (either_second (on target) (on (place + 1)))
    ]
local_within on place (Return v) is q goes = absurd (cc)

module _ (c : Component) (matrix : Matrix) (t k : ℕ) (rest : Outlook) (code : List Instr) (call : IsCall c matrix t k code rest) where
  -- the instruction at a place is that of the code
  pub here : (place : ℕ) (s : State) (a : IsOpenAt c matrix t k place s) → instr_at s.component a.frame.op a.frame.place ≡ slice_get code place
  here place s a =
      let own = a.own.own t k a.frame a.stands in
      let same : own.0 ≡ call.call = same_Some own.0 call.call (sym own.1 ∙ call.called) in
      let is : instr_at c call.call.op place ≡ slice_get code place = call.code_is place in
      let op : a.frame.op ≡ call.call.op = own.2 ∙ ap (λ (x : Call). x.op) same in
      rw (a.own.component, op, a.place_is) is

  at_local : (place : ℕ) (s : State) (a : IsOpenAt c matrix t k place s) → is_at_local s t ≡ option_map_or is_local (slice_get code place) false
  at_local place s a = rw (a.stands, here place s a) refl

  -- so many local instructions may follow the one at this place
  pub more_here : (place : ℕ) (s : State) (a : IsOpenAt c matrix t k place s) (instr : Instr) → slice_get code place ≡ Some instr → more_local s t ≡ more_after c instr
  more_here place s a instr stands =
      let is : is_at_local s t ≡ is_local instr = rw stands at (at_local place s a) in
      rw (is, a.own.component) refl

  module _ (known : ℕ → Outlook) (next : (q : ℕ) (s : State) → IsOpenAt c matrix t k q s → HasOutlook s t (known q)) where
    -- what is ahead where a thread has run on
    pub ahead_on : (n place : ℕ) (s end : State) → IsOpenAt c matrix t k place s → RunsOn n s t end → HasOutlook end t (run_on code known n place)
    ahead_on zero place s end a runs = rw runs (next place s a)
    ahead_on (suc n) place s end a runs =
        by_instr (ahead_on n) (slice_get code place) refl (subst (λ b. MatchBool b ((x : State) × OneStep s (record { thread = t; pick = 0 }) x None × RunsOn n x t end) (end ≡ s)) (at_local place s a) runs)
      where
        by_local : ((q : ℕ) (x y : State) → IsOpenAt c matrix t k q x → RunsOn n x t y → HasOutlook y t (run_on code known n q)) → (instr : Instr) → slice_get code place ≡ Some instr → (b : Bool) → is_local instr ≡ b → MatchBool b ((x : State) × OneStep s (record { thread = t; pick = 0 }) x None × RunsOn n x t end) (end ≡ s) → HasOutlook end t (if b then after_local (run_on code known n) place instr else known place)
        by_local go instr at true is h =
            let m : Move = record { thread = t; pick = 0 } in
            let on = run_on code known n in
            elim (own_goes c matrix t k s m h.0 None h.1 place a refl instr (here place s a ∙ at)) [
              | inl goes ↦ outlook_less end t (after_local on place instr) (on goes.0) (local_within on place instr is goes.0 goes.1) (go goes.0 h.0 end goes.2 h.2)
              | inr ends ↦ absurd (local_ends c instr is ends.0)
            ]
        by_local go instr at false is h = rw h (next place s a)

        by_instr : ((q : ℕ) (x y : State) → IsOpenAt c matrix t k q x → RunsOn n x t y → HasOutlook y t (run_on code known n q)) → (o : Option Instr) → slice_get code place ≡ o → MatchBool (option_map_or is_local o false) ((x : State) × OneStep s (record { thread = t; pick = 0 }) x None × RunsOn n x t end) (end ≡ s) → HasOutlook end t (option_map_or (λ instr. if is_local instr then after_local (run_on code known n) place instr else known place) o (known place))
        by_instr go None at h = rw h (next place s a)
        by_instr go (Some instr) at h = by_local go instr at (is_local instr) refl h
