-- States with 0 in dead registers.
use Rattle.std.proofs.Common.{arith, ◌≡◌, ℕ, ◌+◌, ◌<◌, ◌≤◌, if◌then◌else◌, List, [], ◌∷◌, ◌++◌, length, Option, Some, None, slice_get, slice_index, refl, sym, ◌∙◌, ap, subst, inl, inr, length-append}
use Rattle.std.specs.Prelude.{All}
use Rattle.std.proofs.lemmas.Bool.{cases_lt}
use Rattle.std.proofs.lemmas.List.Elements.{All-nil, All-push}
use Rattle.std.proofs.lemmas.List.{get_or_past}
use Rattle.std.proofs.lemmas.Option.{same_Some, slice_get_within}
use Rattle.lu_machine.specs.declared.thread.Activity.{Activity}
use Rattle.lu_machine.specs.declared.thread.Activity.TheVariants.{Idle, Open}
use Rattle.lu_machine.specs.declared.thread.Frame.{Frame}
use Rattle.lu_machine.specs.declared.thread.Thread.{Thread}
use Rattle.lu_machine.specs.declared.position.Position.{Position}
use Rattle.lu_machine.specs.Layout.{HasRoom, IsInCode, IsStanding, StandsIn}
use Rattle.lu_machine.specs.Positions.{CanStand, CanStandAt, at_position, standing_so}
use Rattle.lu_machine.specs.States.{State}
use Rattle.lu_horizon.specs.Dead.{DeadTable}
use Rattle.lu_horizon.specs.Live.{IsLiveActivity, IsLiveFrame, IsLiveThread}
use Rattle.lu_history.proofs.Events.{at_push}
use Rattle.lu_tree.specs.Alike.{AreActivitiesAlike, AreAlike, AreFramesAlike, AreStandingAlike}
use Rattle.lu_graph.specs.Rows.{AreLive}
use Rattle.lu_client.proofs.OneCalls.{within_some}
use Rattle.lu_always.specs.Clearing.{IsCleared}

module _ (dead : DeadTable) where
  -- ---- what is cleared is alike

  live_frame : (f g : Frame) → IsLiveFrame dead f g → AreFramesAlike dead f g
  live_frame f g x = record {
    op = x.op;
    place = x.place;
    many = x.many;
    live = λ r alive. elim (cases_lt r 8) as (λ _. slice_index g.registers r ≡ slice_index f.registers r) [
      | inl lt ↦ x.registers r lt ∙ ap (λ b. if b then 0 else slice_index f.registers r) alive
      | inr past ↦
          (let eight = x.eight in
          let many = x.many in
          get_or_past g.registers r 0 (omega (arith, past, eight)) ∙ sym (get_or_past f.registers r 0 (omega (arith, past, eight, many))))
    ];
  }

  live_activity : (a b : Activity) → IsLiveActivity dead a b → AreActivitiesAlike dead a b
  live_activity Idle b is = subst (AreActivitiesAlike dead Idle) (sym is) tt
  live_activity (Open f) b (live, is, of) = subst (AreActivitiesAlike dead (Open f)) (sym is) (live_frame f live of)

  live_or_none : (threads live : List Thread) → AreLive dead threads live → (t : ℕ) (o p : Option Thread) → slice_get threads t ≡ o → slice_get live t ≡ p → AreStandingAlike dead o p
  live_or_none threads live are t None None at there = tt
  live_or_none threads live are t None (Some b) at there =
      let many = are.many in
      let within = slice_get_within live t b there in
      let one = within_some threads t (omega (arith, within, many)) in
      absurd (let wrong = sym at ∙ one.1 in cc)
  live_or_none threads live are t (Some a) None at there =
      let many = are.many in
      let within = slice_get_within threads t a at in
      let one = within_some live t (omega (arith, within, many)) in
      absurd (let wrong = sym there ∙ one.1 in cc)
  live_or_none threads live are t (Some a) (Some b) at there =
      let of = are.each t a b at there in
      (of.done, live_activity a.activity b.activity of.activity)

  pub cleared_alike : (s cleared : State) → IsCleared dead s cleared → AreAlike dead s cleared
  cleared_alike s cleared (live, are, is) = subst (AreAlike dead s) (sym is) (record {
    component = refl;
    matrix_is = refl;
    cells = refl;
    locks = refl;
    threads = λ t. live_or_none s.threads live are t (slice_get s.threads t) (slice_get live t) refl refl;
  })

  -- ---- and can stand where it stood

  activity_stands : (done : ℕ) (a b : Activity) → IsLiveActivity dead a b → HasRoom done a → HasRoom done b
  activity_stands done Idle b is room = subst (HasRoom done) (sym is) tt
  activity_stands done (Open f) b (live, is, of) room = subst (HasRoom done) (sym is) room

  live_stands : (thread one : Thread) → IsLiveThread dead thread one → IsStanding thread → IsStanding one
  live_stands thread one of stands = activity_stands one.done thread.activity one.activity of.activity (subst (λ n. HasRoom n thread.activity) (sym of.done) stands)

  activity_in_code : (s : State) (a b : Activity) → IsLiveActivity dead a b → IsInCode s.component a → IsInCode s.component b
  activity_in_code s Idle b is there = subst (IsInCode s.component) (sym is) tt
  activity_in_code s (Open f) b (live, is, of) there =
      subst (IsInCode s.component) (sym is) (subst (λ n. n < length s.component.operations) (sym of.op) there.0, subst (λ n. n ≤ 64) (sym of.place) there.1)

  -- ---- thread after thread

  -- the first n threads of s, with 0 in their dead registers
  pub record AreLiveBefore (s : State) (n : ℕ) (live : List Thread) : Type 0 where
    pub many : length live ≡ n
    pub within : n ≤ length s.threads
    pub each : (t : ℕ) (thread one : Thread) → slice_get s.threads t ≡ Some thread → slice_get live t ≡ Some one → IsLiveThread dead thread one
    pub stand : All IsStanding live
    pub in_code : All (StandsIn s.component) live

  pub live_none : (s : State) → AreLiveBefore s 0 []
  live_none s = record {
    many = refl;
    within = omega arith;
    each = λ t thread one at there. absurd (let lt = slice_get_within [] t one there in omega (arith, lt));
    stand = All-nil IsStanding;
    in_code = All-nil (StandsIn s.component);
  }

  pub live_next : (s : State) (n : ℕ) (live : List Thread) (thread one : Thread) → AreLiveBefore s n live → Some thread ≡ slice_get s.threads n → IsStanding thread → StandsIn s.component thread → IsLiveThread dead thread one → AreLiveBefore s (n + 1) (live ++ one ∷ [])
  live_next s n live thread one are is stands in_code of = record {
    many = length-append live (one ∷ []) ∙ ap (λ k. k + 1) are.many;
    within = (let lt = slice_get_within s.threads n thread (sym is) in omega (arith, lt));
    each = λ t a b at there. elim (at_push live one b t there) as (λ _. IsLiveThread dead a b) [
      | inl before ↦ are.each t a b at before.1
      | inr last ↦
          (let here : t ≡ n = last.0 ∙ are.many in
          let same : thread ≡ a = same_Some thread a (is ∙ (ap (slice_get s.threads) (sym here) ∙ at)) in
          subst (IsLiveThread dead a) (sym last.1) (subst (λ (x : Thread). IsLiveThread dead x one) same of))
    ];
    stand = All-push IsStanding live one are.stand (live_stands thread one of stands);
    in_code = All-push (StandsIn s.component) live one are.in_code (activity_in_code s thread.activity one.activity of.activity in_code);
  }

  -- no thread is left out
  pub live_there : (s : State) (n : ℕ) → n < length s.threads → None ≡ slice_get s.threads n → ⊥
  live_there s n lt is = let one = within_some s.threads n lt in let wrong = is ∙ one.1 in cc

  pub live_all : (s : State) (n : ℕ) (live : List Thread) → length s.threads ≤ n → AreLiveBefore s n live → AreLive dead s.threads live
  live_all s n live past are = record {
    many = (let many = are.many in let within = are.within in omega (arith, past, many, within));
    each = are.each;
  }

  -- ---- the whole state

  pub cleared_stands : (s : State) (p : Position) (cells : List ℕ) (locks : List (Option ℕ)) (threads : List Thread) → CanStandAt s.component s.matrix p → at_position s p ≡ s → cells ≡ s.cells → locks ≡ s.locks → AreLive dead s.threads threads → All IsStanding threads → All (StandsIn s.component) threads → CanStand s.component s.matrix cells locks threads
  cleared_stands s p cells locks threads stands here same also are standing in_code = record {
    cells = ap (λ (xs : List ℕ). length xs) (same ∙ sym (ap (λ (x : State). x.cells) here)) ∙ stands.cells;
    locks = ap (λ (xs : List (Option ℕ)). length xs) (also ∙ sym (ap (λ (x : State). x.locks) here)) ∙ stands.locks;
    threads = are.many ∙ (sym (ap (λ (x : State). length x.threads) here) ∙ stands.threads);
    stand = standing;
    in_code = in_code;
  }

  pub cleared_so : (s new : State) (cells : List ℕ) (locks : List (Option ℕ)) (threads : List Thread) → cells ≡ s.cells → locks ≡ s.locks → AreLive dead s.threads threads → new ≡ standing_so s cells locks threads → IsCleared dead s new
  cleared_so s new cells locks threads same also are is = (
    threads,
    are,
    is
        ∙ (ap (λ x. standing_so s x locks threads) same ∙ ap (λ x. standing_so s s.cells x threads) also),
  )
