-- Where a cut has a livelock, and where it has none.
use Rattle.std.proofs.Common.{arith, ◌≡◌, ℕ, zero, suc, ◌+◌, ◌-◌, List, [], ◌∷◌, ◌++◌, length, take, Option, Some, None, Result, Ok, Err, refl, subst, inl, inr}
use Rattle.std.specs.Prelude.{IfOk}
use Rattle.std.proofs.lemmas.Bool.{cases_lt}
use Rattle.std.proofs.lemmas.List.{length_push}
use Rattle.lu_component.specs.Component.{Component}
use Rattle.lu_test.specs.declared.schedule.Move.{Move}
use Rattle.lu_test.specs.Matrix.{Matrix}
use Rattle.lu_machine.specs.declared.event.Event.{Event}
use Rattle.lu_machine.specs.Ends.{HasMove}
use Rattle.lu_machine.specs.Runs.{Leads, with_event}
use Rattle.lu_machine.specs.Schedules.{IsCutAt}
use Rattle.lu_machine.specs.Starts.{FromEachStart, Settles}
use Rattle.lu_machine.specs.States.{State}
use Rattle.lu_machine.specs.Steps.{Step}
use Rattle.lu_machine.proofs.Ended.{complete_or_not, move_or_not}
use Rattle.lu_machine.proofs.Orders.{smaller_cases}
use Rattle.lu_machine.proofs.Paths.{child_leads}
use Rattle.lu_machine.proofs.Starting.{start_there}
use Rattle.lu_machine.proofs.StepLaws.{feasible_step}
use Rattle.lu_graph.specs.declared.lost.FirstLost.{FirstLost}
use Rattle.lu_graph.specs.declared.lost.FirstLost.TheVariants.{First, Never, Unknown}
use Rattle.lu_graph.specs.Hopeless.{FindsFirstLost, IsFirstLost, IsHopeless, LosesHope, NeverLosesHope}
use Rattle.lu_witness.specs.Goodness.{Any}
use Rattle.lu_serial.specs.Offences.{NoOffence}
use Rattle.lu_report.specs.declared.report.Finding.{Finding}
use Rattle.lu_report.specs.declared.report.Finding.TheVariants.{SerialCut}
use Rattle.lu_report.specs.declared.report.Report.{Report}
use Rattle.lu_replay.specs.Reports.{IsFinding}
use Rattle.lu_certify.specs.declared.limits.Limits.{Limits}
use Rattle.lu_certify.specs.declared.asked.Asked.{Asked}
use Rattle.lu_certify.specs.declared.asked.Asked.TheVariants.{Clearness, FailureOnly, LivelockOnly}
use Rattle.lu_certify.specs.declared.judged.Standing.{Standing}
use Rattle.lu_certify.specs.declared.judged.Standing.TheVariants.{FullPass, Good, Open}
use Rattle.lu_certify.specs.declared.so_far.SoFar.{SoFar}
use Rattle.lu_certify.specs.declared.so_far.SoFar.TheVariants.{Clear, Lost, Unclear}
use Rattle.lu_certify.specs.Certificates.{HasNoLivelock, HasReport, IsClear, IsFullPass, IsLivelock, IsProvedGood, IsLivelockFree}
use Rattle.lu_certify.specs.Cuts.{IsFirstLostOf, IsLivelockIfAny, IsLivelockOf, IsNext, IsStanding, asked_by, report_of, so_far_after}
use Rattle.lu_certify.specs.Looking.{IsAnswer, IsClearUnless, TellsUnclear}
use Rattle.lu_certify.proofs.Linear.{full_at}
use Rattle.lu_certify.proofs.Within.{cut_there, none_of}

-- ---- one schedule

pub one_lost : (s : State) (u v : List Move) → IsFirstLost s u → IsFirstLost s v → u ≡ v
one_lost s u v x y =
    elim (cases_lt (length u) (length v)) as (λ _. u ≡ v) [
      | inl lt ↦ absurd (y.shortest u lt x.lost)
      | inr ge ↦ elim (cases_lt (length v) (length u)) as (λ _. u ≡ v) [
        | inl lt ↦ absurd (x.shortest v lt y.lost)
        | inr le ↦ elim (smaller_cases u v) as (λ _. u ≡ v) [
          | inl z ↦ elim z as (λ _. u ≡ v) [
            | inl less ↦ absurd (y.least u (omega (arith, ge, le)) less x.lost)
            | inr more ↦ absurd (x.least v (omega (arith, ge, le)) more y.lost)
          ]
          | inr same ↦ same
        ]
      ]
    ]

-- ---- where no schedule is cut at a bound, each state has one that ends

hopeless_on : (s : State) (m : Move) (next : State) (event : Option Event) → Step s m next event → IsHopeless s → IsHopeless next
hopeless_on s m next event step hopeless u r =
    hopeless (m ∷ u) (record { end = r.end; history = with_event event r.history; leads = (next, event, r.history, step, r.leads, refl); holds = r.holds })

has_move : (s : State) → IsHopeless s → HasMove s
has_move s hopeless = elim (move_or_not s) as (λ _. HasMove s) [
  | inl move ↦ move
  | inr none ↦ absurd (elim (complete_or_not s) as (λ _. ⊥) [
    | inl complete ↦ hopeless [] (record { end = s; history = []; leads = (refl, refl); holds = inl complete })
    | inr not_complete ↦ hopeless [] (record { end = s; history = []; leads = (refl, refl); holds = inr (not_complete, none) })
  ])
]

never_hopeless : (s : State) (bound : ℕ) → ((v : List Move) → IsCutAt s bound v → ⊥) → (left : ℕ) (u : List Move) (end : State) (h : List Event) → length u + left ≡ bound → Leads s u end h → IsHopeless end → ⊥
never_hopeless s bound uncut zero u end h size leads hopeless =
    uncut u (omega (arith, size), record { end = end; history = h; leads = leads; holds = has_move end hopeless })
never_hopeless s bound uncut (suc left) u end h size leads hopeless =
    let move = has_move end hopeless in
    let m : Move = record { thread = move.0; pick = 0 } in
    let step = feasible_step end m move.1 in
    let long = length_push u m in
    never_hopeless s bound uncut left (u ++ m ∷ []) step.0 (h ++ with_event step.1 []) (omega (arith, long, size))
    (child_leads s u end h leads m step.0 step.1 step.2) (hopeless_on end m step.0 step.1 step.2 hopeless)

never_lost : (s : State) (bound : ℕ) → ((v : List Move) → IsCutAt s bound v → ⊥) → (u : List Move) → LosesHope s u → ⊥
never_lost s bound uncut u r =
    elim (cases_lt bound (length u)) as (λ _. ⊥) [
      | inl long ↦ uncut (take bound u) (cut_there s bound u r.end r.history r.leads long)
      | inr short ↦ never_hopeless s bound uncut (bound - length u) u r.end r.history (omega (arith, short)) r.leads r.holds
    ]

-- ---- what is known of a cut

module _ (c : Component) (matrix : Matrix) (limits : Limits) (settles : Settles c matrix) where
  full_never_lost : HasReport IsFullPass c limits.bound limits.serial matrix → FromEachStart c matrix NeverLosesHope
  full_never_lost has s at =
      let full = full_at c matrix limits.bound limits.serial has s at in
      never_lost s limits.bound (λ v cut. none_of (λ w. Any w × IsCutAt s limits.bound w) full.counts.cut full.good.numbers.cut full.uncut v (tt, cut))

  -- what was found of schedules that lead to a state from which none ends, where no serial run offends
  livelock_of : (standing : Standing) (lost : FirstLost) → FromEachStart c matrix (λ s. NoOffence s limits.serial) → IsFirstLostOf c limits matrix lost → IsLivelockOf c limits matrix standing lost
  livelock_of standing Never none lost = lost
  livelock_of standing (First u) none lost = λ s at. (none s at, (lost s at).0, (lost s at).1)
  livelock_of standing Unknown none lost =
      let there = start_there c matrix settles in
      let here = lost there.0 there.1 in (
        (λ u livelock. let x = livelock there.0 there.1 in (here x.1).1 u x.2),
        (λ _ live. let x = live there.0 there.1 in (here x.0).0 x.1),
      )

  pub livelock_where : {E : Type 0} (standing : Standing) (result : Result FirstLost E) → FromEachStart c matrix (λ s. NoOffence s limits.serial) → IfOk result (IsFirstLostOf c limits matrix) → IfOk result (IsLivelockOf c limits matrix standing)
  livelock_where standing (Ok lost) none is = livelock_of standing lost none is
  livelock_where standing (Err e) none is = tt

  -- a clear cut never loses hope
  pub clear_never_lost : IsClear c limits matrix → FromEachStart c matrix NeverLosesHope
  clear_never_lost (inl has) s at = full_never_lost has s at
  clear_never_lost (inr proved) s at = (proved.1 s at).1

  -- so it has no livelock
  pub never_lost_none : FromEachStart c matrix NeverLosesHope → HasNoLivelock c limits matrix
  never_lost_none never u livelock =
      let there = start_there c matrix settles in
      never there.0 there.1 u (livelock there.0 there.1).2.lost

  pub clear_no_livelock : IsClear c limits matrix → HasNoLivelock c limits matrix
  clear_no_livelock clear = never_lost_none (clear_never_lost clear)

  pub none_in_full_pass : HasReport IsFullPass c limits.bound limits.serial matrix → HasNoLivelock c limits matrix
  none_in_full_pass has = clear_no_livelock (inl has)

  -- it is left open, with this report at the bounds
  module _ (r : Report) (stands : IsStanding c limits matrix (Open r)) where
    pub finds_as : (f : Finding) → r.finding ≡ f → FromEachStart c matrix (λ s. IsFinding s limits.bound limits.serial f)
    finds_as f is s at = subst (IsFinding s limits.bound limits.serial) is (stands.0.3 s at)

    pub none_in_serial_cut : (v : List Move) → r.finding ≡ SerialCut v → HasNoLivelock c limits matrix
    none_in_serial_cut v is u livelock =
        let there = start_there c matrix settles in
        (livelock there.0 there.1).0 v (finds_as (SerialCut v) is there.0 there.1).0.kind

-- what is sought from each start is the cut's
pub first_lost_of : {E : Type 0} (c : Component) (matrix : Matrix) (limits : Limits) (result : Result FirstLost E) → FromEachStart c matrix (λ s. IfOk result (FindsFirstLost limits.nodes s)) → IfOk result (IsFirstLostOf c limits matrix)
first_lost_of c matrix limits (Ok lost) is = is
first_lost_of c matrix limits (Err e) is = tt

-- ---- what is answered of it

-- where no schedule leads to a state from which none ends, it is clear but for its ended ones
pub free_answer : (asked : Asked) (c : Component) (matrix : Matrix) (limits : Limits) (standing : Standing) → Settles c matrix → IsStanding c limits matrix standing → IsLivelockFree c limits matrix → IsAnswer asked c limits matrix None (report_of standing)
free_answer FailureOnly c matrix limits standing settles stands live = tt
free_answer LivelockOnly c matrix limits standing settles stands live = never_lost_none c matrix limits settles (λ s at. (live s at).1)
free_answer Clearness c matrix limits standing settles stands live = (never_lost_none c matrix limits settles (λ s at. (live s at).1), (λ _. told standing stands))
  where
    told : (standing : Standing) → IsStanding c limits matrix standing → IsClearUnless c limits matrix (report_of standing)
    told FullPass stands = inl stands
    told Good stands = inr (stands, live)
    told (Open r) stands = (stands.0, stands.1)

-- where that is not known
pub open_answer : (asked : Asked) (c : Component) (matrix : Matrix) (limits : Limits) (unclear : Option Report) → HasNoLivelock c limits matrix → TellsUnclear asked c limits matrix unclear → IsAnswer asked c limits matrix None unclear
open_answer FailureOnly c matrix limits unclear none tells = tt
open_answer LivelockOnly c matrix limits unclear none tells = none
open_answer Clearness c matrix limits unclear none tells = (none, (λ _. tells refl))

-- where it has a livelock
pub lost_answer : (asked : Asked) (c : Component) (matrix : Matrix) (limits : Limits) (u : List Move) → IsLivelock c limits matrix u → IsAnswer asked c limits matrix (Some u) None
lost_answer FailureOnly c matrix limits u is = tt
lost_answer LivelockOnly c matrix limits u is = is
lost_answer Clearness c matrix limits u is = (is, (λ same. absurd (let other : Some u ≡ None = same in cc)))

-- ---- what is known after it

pub next_cut : (c : Component) (limits : Limits) (matrix : Matrix) (old : SoFar) (livelock : Option (List Move)) (unclear : Option Report) → IsAnswer (asked_by old) c limits matrix livelock unclear → IsNext c limits old matrix (so_far_after old matrix livelock unclear)
next_cut c limits matrix (Lost smaller u) livelock unclear is = refl
next_cut c limits matrix (Unclear smaller q) None unclear is = (refl, is)
next_cut c limits matrix (Unclear smaller q) (Some u) unclear is = (refl, is)
next_cut c limits matrix Clear None None is = (is.0, is.1 refl)
next_cut c limits matrix Clear None (Some r) is = (refl, is.0, (is.1 refl).0, (is.1 refl).1)
next_cut c limits matrix Clear (Some u) unclear is = (refl, is.0)

pub good_none : (c : Component) (matrix : Matrix) (limits : Limits) → IsProvedGood c limits matrix → FromEachStart c matrix (λ s. NoOffence s limits.serial)
good_none c matrix limits proved s at = (proved s at).0
