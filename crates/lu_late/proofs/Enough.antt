-- What a search has to go through.
use Rattle.std.proofs.Common.{ℕ, zero, suc, Bool, List, [], ◌++◌, append_assoc, sym, subst}
use Rattle.std.proofs.lemmas.List.{append-nil}
use Rattle.lu_component.specs.Component.{Component}
use Rattle.lu_test.specs.declared.schedule.Move.{Move}
use Rattle.lu_test.specs.Matrix.{Matrix}
use Rattle.lu_machine.specs.declared.event.Event.{Event}
use Rattle.lu_machine.specs.Runs.{Leads}
use Rattle.lu_machine.specs.Schedules.{Reaches}
use Rattle.lu_machine.specs.Starts.{IsStart}
use Rattle.lu_machine.specs.States.{State}
use Rattle.lu_machine.proofs.Paths.{leads_on, leads_same}
use Rattle.lu_history.specs.declared.serial.SerialOp.{SerialOp}
use Rattle.lu_witness.specs.Goodness.{IsGoodAt}
use Rattle.lu_witness.specs.Witnesses.{IsMember}
use Rattle.lu_tree.proofs.Reordering.{good_reordered}
use Rattle.lu_graph.specs.Guards.{TellsGuarded}
use Rattle.lu_graph.specs.Nodes.{EndsWell}
use Rattle.lu_late.specs.LastCalls.{AreAllBlocked, AreGoodBefore, IsGoodBefore, StepsAreEnough}
use Rattle.lu_late.specs.Steps.{IsOneStep, LeadsBySteps}
use Rattle.lu_late.proofs.Begun.{start_called}
use Rattle.lu_late.proofs.Blocked.{blocked_end_by_calls}
use Rattle.lu_late.proofs.Judged.{judged}
use Rattle.lu_late.proofs.Steps.{steps_tell_all}

-- what is good where the schedule leads
module _ (Set : List SerialOp → Type 0) (s end : State) (u : List Move) (h before : List Event) where
  good_by : (v : List Move) → Leads s v end before → Reaches s v (IsGoodAt Set) → IsGoodAt Set end before
  good_by v leads r =
      let same = leads_same s v r.end end r.history before r.leads leads in
      subst (λ z. IsGoodAt Set z before) same.0 (subst (IsGoodAt Set r.end) same.1 r.holds)

-- ---- steps are enough

steps_lead : (n : ℕ) (s : State) (u : List Move) (end : State) (h : List Event) → LeadsBySteps n s u end h → Leads s u end h
steps_lead zero s u end h (empty, same, none) = subst (λ x. Leads s x end h) (sym empty) (same, none)
steps_lead (suc n) s u end h (step, rest, next, first, more, one, leads, taken, joined, whole) =
    subst (λ x. Leads s x end h) (sym joined) (subst (Leads s (step ++ rest) end) (sym whole) (leads_on s step rest next end first more leads (steps_lead n next rest end more taken)))

module _ (Set : List SerialOp → Type 0) (c : Component) (matrix : Matrix) (guarded : List Bool) (s : State) (told : TellsGuarded c guarded) (start : IsStart c matrix s) where
  -- for any set
  pub well_by : AreGoodBefore Set s → EndsWell Set s
  well_by good u reaches =
      let r = steps_tell_all c matrix guarded s told start u reaches.end reaches.history reaches.leads reaches.holds in
      let way = steps_lead r.steps s r.schedule r.rest r.before r.taken in
      let all = r.are_calls in
      let there = good r.steps r.schedule r.rest r.before r.taken ((blocked_end_by_calls r.rest).0 (r.calls, reaches.end, r.after, all, r.leads, reaches.holds)) in
      let is = (judged Set s (start_called c matrix s start) r.schedule r.rest r.before way r.calls reaches.end r.after all r.leads reaches.holds).1 there in
      record {
        end = reaches.end;
        history = reaches.history;
        leads = reaches.leads;
        holds = good_reordered Set reaches.end (r.before ++ r.after) reaches.history r.reordered is;
      }

  pub by_well : EndsWell Set s → AreGoodBefore Set s
  by_well well n u rest h taken blocked =
      let (calls, end, after, all, leads, ended) = (blocked_end_by_calls rest).1 blocked in
      let way = steps_lead n s u rest h taken in
      let whole = leads_on s u calls rest end h after way leads in
      let good = good_by Set s end u h (h ++ after) (u ++ calls) whole (well (u ++ calls) (record { end = end; history = h ++ after; leads = whole; holds = ended })) in
      (judged Set s (start_called c matrix s start) u rest h way calls end after all leads ended).0 good

pub steps_are_enough : StepsAreEnough
steps_are_enough c matrix guarded s told start members = (by_well (IsMember members) c matrix guarded s told start, well_by (IsMember members) c matrix guarded s told start)

-- A search that has the start, and with each node all to which one step leads, has all to which
-- steps lead.
module _ (Has : State → List Event → Type 0) (closed : (s : State) (h : List Event) (step : List Move) (next : State) (first : List Event) → Has s h → IsOneStep s step → Leads s step next first → Has next (h ++ first)) where
  pub has_all : (n : ℕ) (s : State) (u : List Move) (end : State) (g h : List Event) → LeadsBySteps n s u end h → Has s g → Has end (g ++ h)
  has_all zero s u end g h none has = subst (λ x. Has end (g ++ x)) (sym none.2) (subst (λ z. Has z (g ++ [])) (sym none.1) (subst (Has s) (sym (append-nil g)) has))
  has_all (suc n) s u end g h (step, rest, next, first, more, one, leads, taken, joined, whole) has =
      let there = has_all n next rest end (g ++ first) more taken (closed s g step next first has one leads) in
      subst (λ x. Has end (g ++ x)) (sym whole) (subst (Has end) (append_assoc g first more) there)

  -- so where each of its nodes in which all are blocked is good before the last calls, each ended
  -- schedule is good
  pub ends_well : (Set : List SerialOp → Type 0) (c : Component) (matrix : Matrix) (guarded : List Bool) (s : State) → TellsGuarded c guarded → IsStart c matrix s → Has s [] → ((rest : State) (h : List Event) → Has rest h → AreAllBlocked rest → IsGoodBefore Set rest h) → EndsWell Set s
  ends_well Set c matrix guarded s told start has good =
      well_by Set c matrix guarded s told start (λ n u rest h taken blocked. good rest h (has_all n s u rest [] h taken has) blocked)
