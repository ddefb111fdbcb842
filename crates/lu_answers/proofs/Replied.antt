-- What is asked of the positions of a stage is what its next calls answer.
use Rattle.std.proofs.Common.{arith, ◌≡◌, ◌≢◌, ℕ, ◌<◌, ◌+◌, ◌⊎◌, List, length, map, Some, slice_get, slice_index, slice_set, refl, sym, ◌∙◌, ap, subst, inl, inr}
use Rattle.std.proofs.lemmas.Bool.{lt-ltb}
use Rattle.std.proofs.lemmas.Option.{get_or_from_slice_get, slice_get-get_or, slice_get_within}
use Rattle.lu_component.specs.Component.{Component}
use Rattle.lu_test.specs.declared.matrix.Call.{Call as ACall}
use Rattle.lu_test.specs.Matrix.{Matrix, calls_of}
use Rattle.lu_machine.specs.declared.position.Position.{Position}
use Rattle.lu_machine.specs.declared.thread.Thread.{Thread}
use Rattle.lu_machine.specs.Changes.{idle}
use Rattle.lu_machine.specs.States.{State, call_count}
use Rattle.lu_machine.specs.Steps.{picks_of}
use Rattle.lu_history.specs.declared.serial.SerialOutcome.TheVariants.{Stuck}
use Rattle.lu_serial.specs.Whole.{IsQuiet}
use Rattle.lu_client.specs.Alone.{Answers, IsBefore, Overruns, Plays, rest_of}
use Rattle.lu_client.specs.Stages.{IsIn, Stage}
use Rattle.lu_client.proofs.OneCalls.{within_some}
use Rattle.lu_serial_graph.specs.declared.answering.Answer.{Answer}
use Rattle.lu_serial_graph.specs.Playing.{IsAmong, state_at}
use Rattle.lu_serial_graph.specs.Answers.{IsAnswer, LastsSomewhere, MayCall, TwoOutcomes}
use Rattle.lu_answers.specs.declared.rounds.Rounds.{Rounds}
use Rattle.lu_answers.specs.declared.stage.StoredStage.{StoredStage}
use Rattle.lu_answers.specs.Asking.{BlocksAlways, HasOffence, IsNextFrom, ReturnsTo}
use Rattle.lu_answers.specs.Stored.{HasNextCall, IsStored, next_place, places_after, rest_at, stage_of}
use Rattle.lu_answers.specs.Tables.{EndsOnlyAs}
use Rattle.lu_answers.proofs.Alone.{answers_comes, comes_answers, comes_plays, lasts_overruns, overruns_lasts, plays_comes}
use Rattle.lu_answers.proofs.Lines.{call_there, next_from, place_after}
use Rattle.lu_answers.proofs.Mapped.{in_mapped, mapped_at, out_mapped, unmapped_at}

-- ---- idle threads

pub idle_picks : (s : State) (t place : ℕ) → slice_get s.threads t ≡ Some (idle place) → place < call_count s t → 0 < picks_of s t
idle_picks s t place stands left = rw (stands, lt-ltb place (call_count s t) left) (omega arith)

module _ (c : Component) (matrix : Matrix) (places : List ℕ) (p : Position) (threads : p.threads.items ≡ map idle places) where
  pub quiet_at : IsQuiet (state_at c matrix p)
  quiet_at t (thread, is, busy) =
      let from = unmapped_at idle places t thread (ap (λ xs. slice_get xs t) (sym threads) ∙ is) in
      busy (ap (λ (x : Thread). x.activity) (sym from.2))

  pub idle_at : (t place : ℕ) → slice_get places t ≡ Some place → slice_get p.threads.items t ≡ Some (idle place)
  idle_at t place is = ap (λ xs. slice_get xs t) threads ∙ mapped_at idle places t place is

  pub before_at : (t place : ℕ) (call : ACall) → slice_get places t ≡ Some place → slice_get (calls_of matrix t) place ≡ Some call → IsBefore (state_at c matrix p) t call
  before_at t place call is next = record {
    quiet = quiet_at;
    was = idle place;
    stands = idle_at t place is;
    idle = refl;
    next = next;
  }

-- ---- the next call

place_of : (places : List ℕ) (t place : ℕ) → slice_get places t ≡ Some place → slice_index places t ≡ place
place_of places t place is = get_or_from_slice_get places t place 0 is

module _ (c : Component) (rounds : Rounds) (matrix : Matrix) (stored : StoredStage) (is : IsStored c matrix stored) (t : ℕ) where
  abbrev stage : Stage
  stage = stage_of stored

  -- there is one
  pub some_next : t < length stored.places.items → HasNextCall matrix stored.places.items t → (place : ℕ) × (call : ACall) × IsNextFrom rounds matrix stage t place call
  some_next there has =
      let place = slice_index stored.places.items t in
      let call = within_some (calls_of matrix t) place has in
      (place, call.0, next_from rounds matrix stage t place call.0 (slice_get-get_or stored.places.items t 0 there) call.1)

  pub none_next : (HasNextCall matrix stored.places.items t → ⊥) → (bound : ℕ) → BlocksAlways c rounds matrix bound stage t
  none_next none bound place call next =
      absurd (none (
      let here = place_of stored.places.items t place next.stands in
      let within = slice_get_within (calls_of matrix t) place call (call_there rounds matrix stage t place call next) in
      omega (arith, here, within)
      ))

  pub may_call : t < length stored.places.items → HasNextCall matrix stored.places.items t → MayCall c matrix stored.rests.items t
  may_call there has p at =
      let place = slice_index stored.places.items t in (
        (λ x busy. absurd (quiet_at c matrix stored.places.items p (is.threads p at) x busy)),
        idle_picks (state_at c matrix p) t place (idle_at c matrix stored.places.items p (is.threads p at) t place (slice_get-get_or stored.places.items t 0 there)) has,
      )

  -- what the next call answers
  module _ (place : ℕ) (call : ACall) (next : IsNextFrom rounds matrix stage t place call) (bound : ℕ) where
    before : (p : Position) → IsAmong p stored.rests.items → IsBefore (state_at c matrix p) t call
    before p at = before_at c matrix stored.places.items p (is.threads p at) t place call next.stands (call_there rounds matrix stage t place call next)

    -- why there is no answer
    pub offends : LastsSomewhere c matrix stored.rests.items t (bound + 1) ⊎ TwoOutcomes c matrix stored.rests.items t → HasOffence c rounds matrix bound stage
    offends (inl (p, at, lasts)) = (t, place, call, next, inl (rest_at p, in_mapped rest_at stored.rests.items p at, lasts_overruns (state_at c matrix p) t call (before p at) bound lasts))
    offends (inr two) = (
      t,
      place,
      call,
      next,
      inr (record {
        rest = rest_at two.p;
        other = rest_at two.q;
        one = in_mapped rest_at stored.rests.items two.p two.one;
        also_one = in_mapped rest_at stored.rests.items two.q two.other;
        a = two.a;
        b = two.b;
        answers = comes_answers (state_at c matrix two.p) t call (before two.p two.one) two.a two.end two.comes;
        also = comes_answers (state_at c matrix two.q) t call (before two.q two.other) two.b two.last two.also;
        apart = two.apart;
      }),
    )

    module _ (answer : Answer) (answers : IsAnswer c matrix stored.rests.items t (bound + 1) answer) where
      pub only_one : EndsOnlyAs c bound stage t call answer.outcome
      only_one rest there =
          let p = out_mapped rest_at stored.rests.items rest there in (
            (λ over. answers.short p.0 p.1 (overruns_lasts (state_at c matrix p.0) t call (before p.0 p.1) bound (subst (λ r. Overruns c bound r t call) (sym p.2) over))),
            (λ other says.
                (let comes = answers_comes (state_at c matrix p.0) t call (before p.0 p.1) other (subst (λ r. Answers c r t call other) (sym p.2) says) in
                answers.one p.0 other comes.0 p.1 comes.1)),
          )

      pub returns_to : answer.outcome ≢ Stuck → (new : StoredStage) → new.places.items ≡ places_after rounds matrix stored.places.items t → map rest_at new.rests.items ≡ map rest_at answer.rests.items → ReturnsTo c rounds matrix bound stage t answer.outcome (stage_of new)
      returns_to free new places rests = record {
        place = place;
        call = call;
        is_next = next;
        free = free;
        only = only_one;
        follows = record {
          places =
              places
              ∙ (ap (λ k. slice_set stored.places.items t (next_place rounds (length (calls_of matrix t)) k)) (place_of stored.places.items t place next.stands)
              ∙ ap (slice_set stored.places.items t) (place_after rounds matrix t place));
          rests = λ rest after outcome there plays.
              (let p = out_mapped rest_at stored.rests.items rest there in
              let comes = plays_comes (state_at c matrix p.0) t call (before p.0 p.1) outcome after (subst (λ r. Plays c r t call outcome after) (sym p.2) plays) in
              let q = answers.all p.0 outcome comes.0 p.1 comes.1 in
              subst (λ xs. IsIn xs after) (sym rests)
              (subst (λ r. IsIn (map rest_at answer.rests.items) r) (ap rest_of q.2 ∙ comes.2) (in_mapped rest_at answer.rests.items q.0 q.1)));
        };
        each = λ after there.
            (let q = out_mapped rest_at answer.rests.items after (subst (λ xs. IsIn xs after) rests there) in
            let p = answers.each q.0 q.1 in
            (rest_at p.0, in_mapped rest_at stored.rests.items p.0 p.1, subst (λ r. Plays c (rest_at p.0) t call answer.outcome r) q.2 (comes_plays (state_at c matrix p.0) t call (before p.0 p.1) answer.outcome (state_at c matrix q.0) free p.2)));
      }

-- where it is stuck, it blocks
pub always_blocks : (c : Component) (rounds : Rounds) (matrix : Matrix) (stored : StoredStage) → IsStored c matrix stored → (t bound : ℕ) (answer : Answer) → IsAnswer c matrix stored.rests.items t (bound + 1) answer → answer.outcome ≡ Stuck → BlocksAlways c rounds matrix bound (stage_of stored) t
always_blocks c rounds matrix stored is t bound answer answers stuck place call next =
    subst (EndsOnlyAs c bound (stage_of stored) t call) stuck (only_one c rounds matrix stored is t place call next bound answer answers)
