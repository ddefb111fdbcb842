-- How a thread's next call ends that is made alone, and the same call made from a rest.
use Rattle.std.proofs.Common.{arith, ◌≡◌, ◌≢◌, ℕ, ◌+◌, List, [], ◌∷◌, length, refl, subst, inl, inr}
use Rattle.lu_test.specs.declared.matrix.Call.{Call as ACall}
use Rattle.lu_test.specs.declared.schedule.Move.{Move}
use Rattle.lu_machine.specs.Runs.{Leads}
use Rattle.lu_machine.specs.States.{State}
use Rattle.lu_machine.specs.Steps.{picks_of}
use Rattle.lu_history.specs.declared.serial.SerialOutcome.{SerialOutcome}
use Rattle.lu_history.specs.declared.serial.SerialOutcome.TheVariants.{Stuck}
use Rattle.lu_serial.specs.Serial.{HasOpen}
use Rattle.lu_client.specs.Alone.{AllBy, Answers, Blocks, HoldsFrom, IsBefore, Overruns, Plays, PlaysFrom, Rest, rest_of}
use Rattle.lu_client.proofs.OneCalls.{alone_anywhere, held_anywhere}
use Rattle.lu_serial_graph.specs.Playing.{Comes, EndsSo, Lasts, op_of}
use Rattle.lu_serial_graph.proofs.After.{none_stuck}

module _ (s : State) (t : ℕ) (call : ACall) (before : IsBefore s t call) where
  -- a call that returns
  pub comes_plays : (o : SerialOutcome) (end : State) → o ≢ Stuck → Comes s t o end → Plays s.component (rest_of s) t call o (rest_of end)
  comes_plays o end free comes = by comes.ends
    where
      by : EndsSo t end comes.history o → Plays s.component (rest_of s) t call o (rest_of end)
      by (inr x) = absurd (free x.0)
      by (inl x) = (alone_anywhere s t call o (rest_of end) before).1 (record { moves = comes.moves; by = comes.by; end = end; history = comes.history; leads = comes.leads; quiet = x.0; returns = x.1; leaves = refl })

  pub plays_comes : (o : SerialOutcome) (after : Rest) → Plays s.component (rest_of s) t call o after → (end : State) × Comes s t o end × (rest_of end ≡ after) × (o ≢ Stuck)
  plays_comes o after plays =
      let from : PlaysFrom s t o after = (alone_anywhere s t call o after before).0 plays in (
        from.end,
        record { moves = from.moves; by = from.by; history = from.history; leads = from.leads; ends = inl (from.quiet, from.returns) },
        from.leaves,
        none_stuck from.history [] (op_of t o) [] from.returns,
      )

  -- a call that blocks
  pub blocks_comes : Blocks s.component (rest_of s) t call → (end : State) × Comes s t Stuck end
  blocks_comes (n, end, holds, none) =
      let from : HoldsFrom s t n 0 = (held_anywhere s t call n 0 before).0 (end, holds, none) in
      (from.end, record { moves = from.first ∷ from.moves; by = from.by; history = from.history; leads = from.leads; ends = inr (refl, from.still, from.picks_are, from.returns) })

  pub comes_blocks : (end : State) → Comes s t Stuck end → Blocks s.component (rest_of s) t call
  comes_blocks end comes = by comes.moves comes.by comes.leads comes.ends
    where
      by : (u : List Move) → AllBy t u → Leads s u end comes.history → EndsSo t end comes.history Stuck → Blocks s.component (rest_of s) t call
      by u all leads (inl x) = absurd (none_stuck comes.history [] (op_of t Stuck) [] x.1 refl)
      by [] all leads (inr x) = absurd (before.quiet t (subst (λ y. HasOpen y t) leads.0 x.1))
      by (m ∷ u) all leads (inr x) =
          let held = (held_anywhere s t call (length u) 0 before).1 (record { first = m; moves = u; by = all; end = end; history = comes.history; leads = leads; long = refl; still = x.1; returns = x.3; picks_are = x.2 }) in
          (length u, held.0, held.1, held.2)

  pub comes_answers : (o : SerialOutcome) (end : State) → Comes s t o end → Answers s.component (rest_of s) t call o
  comes_answers o end comes = by comes.ends
    where
      by : EndsSo t end comes.history o → Answers s.component (rest_of s) t call o
      by (inl x) = inl (rest_of end, comes_plays o end (none_stuck comes.history [] (op_of t o) [] x.1) comes)
      by (inr x) = inr (x.0, comes_blocks end (subst (λ y. Comes s t y end) x.0 comes))

  -- what it answers, it comes to
  pub answers_comes : (o : SerialOutcome) → Answers s.component (rest_of s) t call o → (end : State) × Comes s t o end
  answers_comes o (inl (after, plays)) = (let to = plays_comes o after plays in (to.0, to.1))
  answers_comes o (inr (stuck, blocks)) =
      let to = blocks_comes blocks in
      subst (λ y. (end : State) × Comes s t y end) (let same : Stuck ≡ o = cc in same) to

  -- a call that takes more moves than the bound
  pub lasts_overruns : (bound : ℕ) → Lasts s t (bound + 1) → Overruns s.component bound (rest_of s) t call
  lasts_overruns bound lasts = by lasts.moves lasts.by lasts.leads lasts.long
    where
      by : (u : List Move) → AllBy t u → Leads s u lasts.end lasts.history → length u ≡ bound + 1 → Overruns s.component bound (rest_of s) t call
      by [] all leads long = absurd (omega (arith, long))
      by (m ∷ u) all leads long =
          let held = (held_anywhere s t call bound (picks_of lasts.end t) before).1 (record { first = m; moves = u; by = all; end = lasts.end; history = lasts.history; leads = leads; long = omega (arith, long); still = lasts.still; returns = lasts.none; picks_are = refl }) in
          let many = held.2 in
          let some = lasts.enabled in
          (held.0, held.1, omega (arith, many, some))

  pub overruns_lasts : (bound : ℕ) → Overruns s.component bound (rest_of s) t call → Lasts s t (bound + 1)
  overruns_lasts bound (end, holds, enabled) =
      let from : HoldsFrom s t bound (picks_of end t) = (held_anywhere s t call bound (picks_of end t) before).0 (end, holds, refl) in
      let long = from.long in
      let many = from.picks_are in
      record {
        moves = from.first ∷ from.moves;
        by = from.by;
        long = omega (arith, long);
        end = from.end;
        history = from.history;
        leads = from.leads;
        still = from.still;
        none = from.returns;
        enabled = omega (arith, many, enabled);
      }
