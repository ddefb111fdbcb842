-- Steps of the automaton are calls made alone from its rests.
use Rattle.std.proofs.Common.{◌≡◌, ℕ, List, [], ◌∷◌, ◌++◌, Option, Some, None, slice_get, refl, sym, ◌∙◌, ap, subst}
use Rattle.std.specs.Prelude.{IsSome}
use Rattle.std.proofs.lemmas.Option.{same_Some}
use Rattle.lu_component.specs.Component.{Component}
use Rattle.lu_test.specs.declared.matrix.Call.{Call as ACall}
use Rattle.lu_history.specs.declared.serial.SerialOp.{SerialOp}
use Rattle.lu_history.specs.declared.serial.SerialOutcome.{SerialOutcome}
use Rattle.lu_client.specs.Alone.{Plays, Rest}
use Rattle.lu_linearization.specs.Configurations.{AllTakeEffect, AreSame, Configuration, FirstIsOf, TakesEffect}
use Rattle.lu_run.specs.declared.automaton.ThreadCall.{ThreadCall}
use Rattle.lu_run.specs.declared.table.Rests.{Rests}
use Rattle.lu_run.specs.declared.table.Table.{Table}
use Rattle.lu_run.specs.Asking.{HasRest, PlaysFromSome}
use Rattle.lu_run.specs.Tables.{Answer, IsRight, IsTable, recorded}
use Rattle.lu_run.specs.Following.{NextState, question_of}
use Rattle.lu_run.specs.Judging.{InState}
use Rattle.lu_run.specs.Offending.{NextRest}

-- ---- lists of operations that take effect

module _ {X C : Type 0} (Next : X → C → SerialOutcome → X → Type 0) where
  pub effect_same : (pending : ℕ → Option C) (op : SerialOp) (b d e : Configuration X) → AreSame b d → TakesEffect Next pending op d e → TakesEffect Next pending op b e
  effect_same pending op b d e same takes = record {
    call = takes.call;
    is_pending = takes.is_pending;
    absent = same.effects op.thread ∙ takes.absent;
    leads = subst (λ x. Next x takes.call op.outcome e.state) (sym same.state) takes.leads;
    effects = takes.effects;
    others = λ u ne. takes.others u ne ∙ sym (same.effects u);
  }

  pub all_push : (pending : ℕ → Option C) (p : List SerialOp) (b d e : Configuration X) (op : SerialOp) → AllTakeEffect Next pending p b d → TakesEffect Next pending op d e → AllTakeEffect Next pending (p ++ op ∷ []) b e
  all_push pending [] b d e op same takes = (e, effect_same pending op b d e same takes, record { state = refl; effects = λ t. refl })
  all_push pending (x ∷ p) b d e op (f, first, rest) takes = (f, first, all_push pending p f d e op rest takes)

  pub pending_same : (pending other : ℕ → Option C) (r : List SerialOp) (b c : Configuration X) → ((t : ℕ) → pending t ≡ other t) → AllTakeEffect Next pending r b c → AllTakeEffect Next other r b c
  pending_same pending other [] b c same all = all
  pending_same pending other (op ∷ r) b c same (d, takes, all) = (
    d,
    record { call = takes.call; is_pending = sym (same op.thread) ∙ takes.is_pending; absent = takes.absent; leads = takes.leads; effects = takes.effects; others = takes.others },
    pending_same pending other r d c same all,
  )

pub first_front : (t : ℕ) (p q : List SerialOp) → FirstIsOf t (p ++ q) → FirstIsOf t p
first_front t [] q first = tt
first_front t (op ∷ p) q first = first

-- ---- one step

module _ (c : Component) (calls : List ACall) (table : Table) (is : IsTable c calls table) where
  pub to_state : (x : ℕ) (call : ThreadCall) (rest after : Rest) (o : SerialOutcome) → IsSome (recorded table (question_of x call)) → InState table x rest → NextRest c calls rest call o after → (y : ℕ) × NextState table x call o y × InState table y after
  to_state x call rest after o known (state, at, has) (a, called, plays) = by (recorded table (question_of x call)) refl known
    where
      answered : (answer : Answer) (from : Rests) (made : ACall) → IsRight c table.states.keys from call.thread made answer → recorded table (question_of x call) ≡ Some answer → PlaysFromSome c from.positions.items call.thread made o after → (y : ℕ) × NextState table x call o y × InState table y after
      answered None from made blocks e p = absurd (blocks.never_ends o after p)
      answered (Some (p, y)) from made (to, there, ends) e plays_from =
          let both = (ends.exact o after).0 plays_from in
          (y, e ∙ ap (λ z. Some (Some (z, y))) (sym both.0), (to, there, both.1))

      by : (r : Option Answer) → recorded table (question_of x call) ≡ r → IsSome r → (y : ℕ) × NextState table x call o y × InState table y after
      by None e none = absurd cc
      by (Some answer) e some =
          let right = is.answers (question_of x call) answer e in
          let same : right.from ≡ state = same_Some right.from state (sym right.state ∙ at) in
          let which : right.call ≡ a = same_Some right.call a (sym right.called ∙ called) in
          answered answer right.from right.call right.right e (rest, subst (λ (z : Rests). HasRest z.positions.items rest) (sym same) has, subst (λ z. Plays c rest call.thread z o after) (sym which) plays)

  pub from_state : (x y : ℕ) (call : ThreadCall) (after : Rest) (o : SerialOutcome) → NextState table x call o y → InState table y after → (rest : Rest) × InState table x rest × NextRest c calls rest call o after
  from_state x y call after o next (state, at, has) =
      let right = is.answers (question_of x call) (Some (o, y)) next in
      let to = right.right in
      let same : to.0 ≡ state = same_Some to.0 state (sym to.1 ∙ at) in
      let from = (to.2.exact o after).1 (refl, subst (λ (z : Rests). HasRest z.positions.items after) (sym same) has) in
      (from.0, (right.from, right.state, from.1), (right.call, right.called, from.2))

  pub next_state : (x y : ℕ) (call : ThreadCall) (o : SerialOutcome) → NextState table x call o y → (state : Rests) × (slice_get table.states.keys y ≡ Some state)
  next_state x y call o next =
      let right = is.answers (question_of x call) (Some (o, y)) next in
      (right.right.0, right.right.1)

  -- ---- many steps

  module _ (pending : ℕ → Option ThreadCall) where
    pub states_valid : (r : List SerialOp) (b e : Configuration ℕ) → (state : Rests) × (slice_get table.states.keys b.state ≡ Some state) → AllTakeEffect (NextState table) pending r b e → (state : Rests) × (slice_get table.states.keys e.state ≡ Some state)
    states_valid [] b e valid same = (valid.0, ap (slice_get table.states.keys) (sym same.state) ∙ valid.1)
    states_valid (op ∷ r) b e valid (d, takes, all) = states_valid r d e (next_state b.state d.state takes.call op.outcome takes.leads) all

    pub backward : (r : List SerialOp) (b e : Configuration ℕ) (rest : Rest) → AllTakeEffect (NextState table) pending r b e → InState table e.state rest
        → (first : Rest) × InState table b.state first × AllTakeEffect (NextRest c calls) pending r (record { state = first; effects = b.effects }) (record { state = rest; effects = e.effects })
    backward [] b e rest same at = (rest, subst (λ x. InState table x rest) (sym same.state) at, record { state = refl; effects = same.effects })
    backward (op ∷ r) b e rest (d, takes, all) at =
        let z = backward r d e rest all at in
        let w = from_state b.state d.state takes.call z.0 op.outcome takes.leads z.1 in
        (w.0, w.1, (record { state = z.0; effects = d.effects }, record { call = takes.call; is_pending = takes.is_pending; absent = takes.absent; leads = w.2; effects = takes.effects; others = takes.others }, z.2))
