-- The outlooks at places hold.
use Rattle.std.proofs.Common.{◌≡◌, ℕ, ◌+◌, ◌<◌, ◌≤◌, Bool, true, false, List, Some, slice_get, length, refl, ◌∙◌, subst, inl, inr, arith}
use Rattle.std.proofs.lemmas.Bool.{lt-ltb, le-ltb}
use Rattle.std.proofs.lemmas.Option.{slice_get_within}
use Rattle.lu_component.specs.declared.instr.Instr.{Instr}
use Rattle.lu_component.specs.declared.instr.Instr.TheVariants.{Set, Compute, Load, Store, Cas, Lock, Unlock, Await, AwaitNot, Pick, Jump, JumpIfZero, Return}
use Rattle.lu_component.specs.Component.{Component}
use Rattle.lu_test.specs.Matrix.{Matrix, calls_of}
use Rattle.lu_machine.specs.declared.thread.Frame.{Frame}
use Rattle.lu_machine.specs.States.{State}
use Rattle.lu_machine.specs.Steps.{RunsOn, choices, is_blocked, more_local}
use Rattle.lu_horizon.specs.declared.outlook.Outlook.{Outlook}
use Rattle.lu_horizon.specs.Code.{ahead_at, ahead_of_call, is_certain_cell, more_after, run_on, unless_there}
use Rattle.lu_horizon.specs.Own.{IsIdle, IsOpenAt}
use Rattle.lu_horizon.specs.Outlooks.{IsWeaker, either, no_move, one_before}
use Rattle.lu_horizon.specs.Sure.{HasOutlook}
use Rattle.lu_horizon.specs.Tables.{IsCall}
use Rattle.lu_horizon.proofs.OwnLaws.{MayGoTo, MayEnd, idle_stays, other_at, other_idle, own_goes, own_opens}
use Rattle.lu_horizon.proofs.LocalLaws.{ahead_on, here, more_here}
use Rattle.lu_horizon.proofs.SureLaws.{before, either_first, either_second, no_move_stays, nothing_ahead, outlook_less, within_itself}

-- where none is left the thread is over
pub idle_over : (c : Component) (matrix : Matrix) (t k : ℕ) → length (calls_of matrix t) ≤ k → (s : State) → IsIdle c matrix t k s → HasOutlook s t no_move
idle_over c matrix t k all =
    no_move_stays t (IsIdle c matrix t k)
    (λ s i. rw (i.stands, i.own.matrix_is, le-ltb k (length (calls_of matrix t)) all) refl)
    (λ s m new e i other step. other_idle c matrix t k s m new e step i other)

there_next : (there : Bool) (a b : Outlook) → IsWeaker (unless_there there a b) a
there_next true a b = within_itself a
there_next false a b = either_first a b

not_there_rest : (there : Bool) (a b : Outlook) → there ≡ false → IsWeaker (unless_there there a b) b
not_there_rest true a b not = absurd (cc)
not_there_rest false a b not = either_second a b

module _ (c : Component) (matrix : Matrix) (t k : ℕ) (rest : Outlook) (code : List Instr) (known : ℕ → Outlook) (call : IsCall c matrix t k code rest) (next : (q : ℕ) (s : State) → IsOpenAt c matrix t k q s → HasOutlook s t (known q)) where
  -- before a call, one move more than where its own first steps may lead
  pub call_ahead : (s : State) → IsIdle c matrix t k s → HasOutlook s t (ahead_of_call c code known)
  call_ahead =
      let left : k < length (calls_of matrix t) = slice_get_within (calls_of matrix t) k call.call call.called in
      before t (run_on code known c.local 0) (IsIdle c matrix t k)
      (λ s i. rw (i.stands, i.own.matrix_is, lt-ltb k (length (calls_of matrix t)) left) refl)
      (λ s m new e i other step. other_idle c matrix t k s m new e step i other)
      (λ s m new e i same step.
      (let all : more_local s t ≡ c.local = rw (i.stands, i.own.component) (omega arith) in
      let own : RunsOn (more_local s t) step.0 t new = subst (λ x. RunsOn (more_local s x) step.0 x new) same step.2 in
      let runs : RunsOn c.local step.0 t new = subst (λ n. RunsOn n step.0 t new) all own in
      ahead_on c matrix t k rest code call known next c.local 0 step.0 new (own_opens c matrix t k s m step.0 e step.1 i same) runs))

  module _ (place : ℕ) where
    one_more : (instr : Instr) → slice_get code place ≡ Some instr → ((s : State) (f : Frame) → is_blocked s f instr ≡ false) → choices instr ≡ 1 → (o : Outlook) → ((q : ℕ) → MayGoTo instr place q → IsWeaker o (run_on code known (more_after c instr) q)) → (MayEnd c instr → IsWeaker o rest) → (s : State) → IsOpenAt c matrix t k place s → HasOutlook s t (one_before o)
    one_more instr stands free one o to end =
        before t o (IsOpenAt c matrix t k place)
        (λ s a. rw (a.stands, here c matrix t k rest code call place s a, stands, free s a.frame) one)
        (λ s m new e a other step. other_at c matrix t k s m new e step place a other)
        (λ s m new e a same step.
        (let more = more_here c matrix t k rest code call place s a instr stands in
        let own : RunsOn (more_local s t) step.0 t new = subst (λ x. RunsOn (more_local s x) step.0 x new) same step.2 in
        let runs : RunsOn (more_after c instr) step.0 t new = subst (λ n. RunsOn n step.0 t new) more own in
        elim (own_goes c matrix t k s m step.0 e step.1 place a same instr (here c matrix t k rest code call place s a ∙ stands)) [
          | inl goes ↦ outlook_less new t o (run_on code known (more_after c instr) goes.0) (to goes.0 goes.1) (ahead_on c matrix t k rest code call known next (more_after c instr) goes.0 step.0 new goes.2 runs)
          | inr ends ↦ outlook_less new t o rest (end ends.0) (call.after new (rw (idle_stays (more_after c instr) step.0 t (k + 1) new ends.1.stands runs) ends.1))
        ]))

    to_place : (on : ℕ → Outlook) (o : Outlook) (p : ℕ) → IsWeaker o (on p) → (q : ℕ) → q ≡ p → IsWeaker o (on q)
    to_place on o p within q is = rw is within

    -- the outlook at an instruction holds
    pub ahead_here : (instr : Instr) → slice_get code place ≡ Some instr → (s : State) → IsOpenAt c matrix t k place s → HasOutlook s t (ahead_at c code known rest place instr)
    ahead_here (Set to v) stands =
        let on = run_on code known (more_after c (Set to v)) in
        one_more (Set to v) stands (λ s f. refl) refl (on (place + 1)) (to_place on (on (place + 1)) (place + 1) (within_itself (on (place + 1)))) (λ e. absurd e)
    ahead_here (Compute by to a b) stands =
        let on = run_on code known (more_after c (Compute by to a b)) in
        one_more (Compute by to a b) stands (λ s f. refl) refl (on (place + 1)) (to_place on (on (place + 1)) (place + 1) (within_itself (on (place + 1)))) (λ e. absurd e)
    ahead_here (Load to w i) stands =
        let on = run_on code known (more_after c (Load to w i)) in
        let o = unless_there (is_certain_cell c w i) (on (place + 1)) rest in
        one_more (Load to w i) stands (λ s f. refl) refl o (to_place on o (place + 1) (there_next (is_certain_cell c w i) (on (place + 1)) rest)) (not_there_rest (is_certain_cell c w i) (on (place + 1)) rest)
    ahead_here (Store w i v) stands =
        let on = run_on code known (more_after c (Store w i v)) in
        let o = unless_there (is_certain_cell c w i) (on (place + 1)) rest in
        one_more (Store w i v) stands (λ s f. refl) refl o (to_place on o (place + 1) (there_next (is_certain_cell c w i) (on (place + 1)) rest)) (not_there_rest (is_certain_cell c w i) (on (place + 1)) rest)
    ahead_here (Cas to w i x y) stands =
        let on = run_on code known (more_after c (Cas to w i x y)) in
        let o = unless_there (is_certain_cell c w i) (on (place + 1)) rest in
        one_more (Cas to w i x y) stands (λ s f. refl) refl o (to_place on o (place + 1) (there_next (is_certain_cell c w i) (on (place + 1)) rest)) (not_there_rest (is_certain_cell c w i) (on (place + 1)) rest)
    ahead_here (Lock l) stands = λ s a. nothing_ahead s t
    ahead_here (Unlock l) stands =
        let on = run_on code known (more_after c (Unlock l)) in
        let o = either (on (place + 1)) rest in
        one_more (Unlock l) stands (λ s f. refl) refl o (to_place on o (place + 1) (either_first (on (place + 1)) rest)) (λ e. either_second (on (place + 1)) rest)
    ahead_here (Await w i v) stands = λ s a. nothing_ahead s t
    ahead_here (AwaitNot w i v) stands = λ s a. nothing_ahead s t
    ahead_here (Pick to count) stands = λ s a. nothing_ahead s t
    ahead_here (Jump target) stands =
        let on = run_on code known (more_after c (Jump target)) in
        one_more (Jump target) stands (λ s f. refl) refl (on target) (to_place on (on target) target (within_itself (on target))) (λ e. absurd e)
    ahead_here (JumpIfZero v target) stands =
        let on = run_on code known (more_after c (JumpIfZero v target)) in
        let o = either (on target) (on (place + 1)) in
        one_more (JumpIfZero v target) stands (λ s f. refl) refl o (λ q is. elim is [
          | inl e ↦ to_place on o target (either_first (on target) (on (place + 1))) q e
          | inr e ↦ to_place on o (place + 1) (either_second (on target) (on (place + 1))) q e
        ]) (λ e. absurd e)
    ahead_here (Return v) stands = one_more (Return v) stands (λ s f. refl) refl rest (λ q is. absurd is) (λ e. within_itself rest)
