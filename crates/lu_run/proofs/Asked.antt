-- A call on a menu is the call made alone.
use Rattle.std.proofs.Common.{arith, ◌≡◌, ◌≢◌, ℕ, ◌<◌, ◌+◌, List, [], ◌∷◌, length, replicate, refl, sym, ◌∙◌, ap, subst, inl, inr, ◌⊎◌}
use Rattle.lu_component.specs.Component.{Component}
use Rattle.lu_test.specs.declared.matrix.Call.{Call as ACall}
use Rattle.lu_test.specs.declared.schedule.Move.{Move}
use Rattle.lu_machine.specs.declared.position.Position.{Position}
use Rattle.lu_machine.specs.Runs.{Leads}
use Rattle.lu_machine.specs.States.{State}
use Rattle.lu_machine.specs.Steps.{picks_of}
use Rattle.lu_history.specs.declared.serial.SerialOutcome.{SerialOutcome}
use Rattle.lu_history.specs.declared.serial.SerialOutcome.TheVariants.{Stuck}
use Rattle.lu_serial.specs.Serial.{HasOpen}
use Rattle.lu_client.specs.Alone.{AllBy, Answers, Blocks, HoldsFrom, IsBefore, Overruns, Plays, PlaysFrom, Rest, rest_of}
use Rattle.lu_client.proofs.OneCalls.{alone_anywhere, held_anywhere}
use Rattle.lu_serial_graph.specs.Playing.{Comes, EndsSo as Ending, IsAmong, Lasts, op_of, state_at}
use Rattle.lu_serial_graph.specs.Answers.{IsAnswer, LastsSomewhere, TwoOutcomes, HasRest as HasState}
use Rattle.lu_serial_graph.specs.declared.answering.Answer.{Answer}
use Rattle.lu_serial_graph.proofs.After.{none_stuck}
use Rattle.lu_run.specs.Asking.{AreRests, BlocksSo, EndsSo, HasRest, HasSameRests, HasTwoOutcomes, OverrunsFromSome, PlaysFromSome, at_start, menu_of, rest_at}
use Rattle.lu_run.proofs.Menus.{before, quiet}

module _ (c : Component) (call : ACall) (p : Position) (idle : p.threads.items ≡ replicate 8 at_start) (t : ℕ) (seat : t < 8) where
  is_before : IsBefore (state_at c (menu_of call) p) t call
  is_before = before c call p idle t seat

  -- a call that returns
  pub comes_plays : (o : SerialOutcome) (end : State) → o ≢ Stuck → Comes (state_at c (menu_of call) p) t o end → Plays c (rest_at p) t call o (rest_of end)
  comes_plays o end free comes = by comes.ends
    where
      by : Ending t end comes.history o → Plays c (rest_at p) t call o (rest_of end)
      by (inr x) = absurd (free x.0)
      by (inl x) = (alone_anywhere (state_at c (menu_of call) p) t call o (rest_of end) is_before).1 (record { moves = comes.moves; by = comes.by; end = end; history = comes.history; leads = comes.leads; quiet = x.0; returns = x.1; leaves = refl })

  pub plays_comes : (o : SerialOutcome) (after : Rest) → Plays c (rest_at p) t call o after → (end : State) × Comes (state_at c (menu_of call) p) t o end × (rest_of end ≡ after) × (o ≢ Stuck)
  plays_comes o after plays =
      let from : PlaysFrom (state_at c (menu_of call) p) t o after = (alone_anywhere (state_at c (menu_of call) p) t call o after is_before).0 plays in (
        from.end,
        record { moves = from.moves; by = from.by; history = from.history; leads = from.leads; ends = inl (from.quiet, from.returns) },
        from.leaves,
        none_stuck from.history [] (op_of t o) [] from.returns,
      )

  -- a call that blocks
  pub blocks_comes : Blocks c (rest_at p) t call → (end : State) × Comes (state_at c (menu_of call) p) t Stuck end
  blocks_comes (n, end, holds, none) =
      let from : HoldsFrom (state_at c (menu_of call) p) t n 0 = (held_anywhere (state_at c (menu_of call) p) t call n 0 is_before).0 (end, holds, none) in
      (from.end, record { moves = from.first ∷ from.moves; by = from.by; history = from.history; leads = from.leads; ends = inr (refl, from.still, from.picks_are, from.returns) })

  pub comes_blocks : (end : State) → Comes (state_at c (menu_of call) p) t Stuck end → Blocks c (rest_at p) t call
  comes_blocks end comes = by comes.moves comes.by comes.leads comes.ends
    where
      by : (u : List Move) → AllBy t u → Leads (state_at c (menu_of call) p) u end comes.history → Ending t end comes.history Stuck → Blocks c (rest_at p) t call
      by u all leads (inl x) = absurd (none_stuck comes.history [] (op_of t Stuck) [] x.1 refl)
      by [] all leads (inr x) = absurd (quiet c call p idle t (subst (λ s. HasOpen s t) leads.0 x.1))
      by (m ∷ u) all leads (inr x) =
          let held = (held_anywhere (state_at c (menu_of call) p) t call (length u) 0 is_before).1 (record { first = m; moves = u; by = all; end = end; history = comes.history; leads = leads; long = refl; still = x.1; returns = x.3; picks_are = x.2 }) in
          (length u, held.0, held.1, held.2)

  pub comes_answers : (o : SerialOutcome) (end : State) → Comes (state_at c (menu_of call) p) t o end → Answers c (rest_at p) t call o
  comes_answers o end comes = by comes.ends
    where
      by : Ending t end comes.history o → Answers c (rest_at p) t call o
      by (inl x) = inl (rest_of end, comes_plays o end (none_stuck comes.history [] (op_of t o) [] x.1) comes)
      by (inr x) = inr (x.0, comes_blocks end (subst (λ y. Comes (state_at c (menu_of call) p) t y end) x.0 comes))

  -- a call that goes on past the bound
  pub lasts_overruns : (bound : ℕ) → Lasts (state_at c (menu_of call) p) t (bound + 1) → Overruns c bound (rest_at p) t call
  lasts_overruns bound lasts = by lasts.moves lasts.by lasts.leads lasts.long
    where
      by : (u : List Move) → AllBy t u → Leads (state_at c (menu_of call) p) u lasts.end lasts.history → length u ≡ bound + 1 → Overruns c bound (rest_at p) t call
      by [] all leads long = absurd (omega (arith, long))
      by (m ∷ u) all leads long =
          let held = (held_anywhere (state_at c (menu_of call) p) t call bound (picks_of lasts.end t) is_before).1 (record { first = m; moves = u; by = all; end = lasts.end; history = lasts.history; leads = leads; long = omega (arith, long); still = lasts.still; returns = lasts.none; picks_are = refl }) in
          let many = held.2 in
          let some = lasts.enabled in
          (held.0, held.1, omega (arith, many, some))

-- ---- from several rests

module _ (c : Component) (call : ACall) (rests : List Position) (t bound : ℕ) (seat : t < 8) (are : AreRests c rests) where
  idle : (p : Position) → IsAmong p rests → p.threads.items ≡ replicate 8 at_start
  idle p at = (are.each p at).threads

  -- some position with this rest, and the call from there
  pub none_asked : LastsSomewhere c (menu_of call) rests t (bound + 1) ⊎ TwoOutcomes c (menu_of call) rests t → OverrunsFromSome c rests t call bound ⊎ HasTwoOutcomes c rests t call
  none_asked (inl (p, at, lasts)) = inl (rest_at p, (p, at, refl), lasts_overruns c call p (idle p at) t seat bound lasts)
  none_asked (inr two) = inr (record {
    rest = rest_at two.p;
    other = rest_at two.q;
    a = two.a;
    b = two.b;
    first = (two.p, two.one, refl);
    second = (two.q, two.other, refl);
    answers = comes_answers c call two.p (idle two.p two.one) t seat two.a two.end two.comes;
    also = comes_answers c call two.q (idle two.q two.other) t seat two.b two.last two.also;
    apart = two.apart;
  })

  module _ (answer : Answer) (is : IsAnswer c (menu_of call) rests t (bound + 1) answer) where
    plays_one : (o : SerialOutcome) (after : Rest) → PlaysFromSome c rests t call o after → (o ≡ answer.outcome) × HasRest answer.rests.items after × (o ≢ Stuck)
    plays_one o after (rest, (p, at, here), plays) =
        let comes = plays_comes c call p (idle p at) t seat o after (subst (λ x. Plays c x t call o after) (sym here) plays) in
        let there : HasState c (menu_of call) answer.rests.items comes.0 = is.all p o comes.0 at comes.1 in (
          is.one p o comes.0 at comes.1,
          (there.0, there.1, ap rest_of there.2 ∙ comes.2),
          comes.3,
        )

    pub blocked : answer.outcome ≡ Stuck → BlocksSo c rests t call
    blocked stuck = record {
      blocks =
          (let last = is.each is.some.0 is.some.1 in
          (rest_at last.0, (last.0, last.1, refl), comes_blocks c call last.0 (idle last.0 last.1) t seat (state_at c (menu_of call) is.some.0) (subst (λ y. Comes (state_at c (menu_of call) last.0) t y (state_at c (menu_of call) is.some.0)) stuck last.2)));
      never_ends = λ o after plays. (let one = plays_one o after plays in one.2 (one.0 ∙ stuck));
    }

    pub ended : answer.outcome ≢ Stuck → (new : List Position) → HasSameRests answer.rests.items new → AreRests c new → EndsSo c rests t call answer.outcome new
    ended free new same good = record {
      exact = λ o after. (
        (λ plays. (let one = plays_one o after plays in (one.0, (same after).0 one.1))),
        (λ (both : (o ≡ answer.outcome) × HasRest new after).
            let old = (same after).1 both.1 in
            let from = is.each old.0 old.1 in
            let plays = comes_plays c call from.0 (idle from.0 from.1) t seat answer.outcome (state_at c (menu_of call) old.0) free from.2 in
            (rest_at from.0, (from.0, from.1, refl), subst (λ x. Plays c (rest_at from.0) t call x after) (sym both.0) (subst (λ x. Plays c (rest_at from.0) t call answer.outcome x) old.2 plays))),
      );
      never_blocks = λ blocks.
          (let rest = blocks.0 in
          let p = blocks.1.0 in
          let at = blocks.1.1 in
          let comes = blocks_comes c call p (idle p at) t seat (subst (λ x. Blocks c x t call) (sym blocks.1.2) blocks.2) in
          free (sym (is.one p Stuck comes.0 at comes.1)));
      rests = good;
    }
