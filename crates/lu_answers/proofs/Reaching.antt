-- Stages to which serial runs of unrolled matrices lead.
use Rattle.std.proofs.Common.{arith, ◌≡◌, ℕ, zero, suc, ◌+◌, ◌*◌, ◌<◌, ◌≤◌, ◌==◌, Bool, true, false, if◌then◌else◌, List, [], ◌∷◌, ◌++◌, length, replicate, Some, None, slice_get, slice_set, refl, sym, ◌∙◌, ap, subst, inl, inr}
use Rattle.std.proofs.lemmas.List.{length-append}
use Rattle.std.proofs.lemmas.Option.{same_Some, slice_get_within}
use Rattle.std.proofs.Math.Nat.{mul-le-mul_left}
use Rattle.lu_component.specs.Component.{Component}
use Rattle.lu_test.specs.declared.matrix.Call.{Call as ACall}
use Rattle.lu_test.specs.Matrix.{Matrix, calls_of, thread_count}
use Rattle.lu_machine.specs.States.{State}
use Rattle.lu_machine.specs.Starts.{IsStart, at_rest}
use Rattle.lu_machine.proofs.Starting.{other_start}
use Rattle.lu_history.specs.declared.serial.SerialOp.{SerialOp}
use Rattle.lu_serial.proofs.Opening.{same_or_not, slice_get_set_other, slice_get_set_same}
use Rattle.lu_witness.specs.Witnesses.{entries}
use Rattle.lu_client.specs.Clients.{turned}
use Rattle.lu_client.specs.Rounds.{IsUnrolledFrom, times}
use Rattle.lu_client.specs.Alone.{IsNextCall, Rest, RestAfter, rest_of}
use Rattle.lu_client.specs.Automaton.{GoesOnTo}
use Rattle.lu_client.specs.Stages.{IsIn, Stage, first_stage, line_of}
use Rattle.lu_client.proofs.Outcomes.{has_one_outcome}
use Rattle.lu_client.proofs.Played.{IsReady, goes_back, ready, rest_starts}
use Rattle.lu_client.proofs.Turning.{repeated_at, repeated_row, turn_more}
use Rattle.lu_client.proofs.Unrolled.{times_is_unrolled, turn_zero}
use Rattle.lu_answers.specs.declared.rounds.Rounds.{Rounds}
use Rattle.lu_answers.specs.declared.rounds.Rounds.TheVariants.{Any, One}
use Rattle.lu_answers.specs.Ways.{way_of}
use Rattle.lu_answers.specs.Asking.{HasOffence, IsNextFrom, LeadsOn, SomeOffends}
use Rattle.lu_answers.proofs.Lines.{call_there, once}
use Rattle.lu_answers.proofs.ReadSerially.{other_more, own_more}

-- ---- entries

entries_few : (t : ℕ) (q : List SerialOp) → length (entries t q) ≤ length q
entries_few t [] = omega arith
entries_few t (op ∷ q) = by (op.thread == t) (entries_few t q)
  where
    by : (b : Bool) → length (entries t q) ≤ length q → length (if b then op.outcome ∷ entries t q else entries t q) ≤ suc (length q)
    by true few = omega arith
    by false few = omega arith

zero_at : (n t place : ℕ) → slice_get {X = ℕ} (replicate n 0) t ≡ Some place → place ≡ 0
zero_at zero t place is = absurd cc
zero_at (suc n) zero place is = sym (same_Some 0 place is)
zero_at (suc n) (suc t) place is = zero_at n t place is

-- the number of a call in its line
abbrev at_place : Rounds → Matrix → ℕ → ℕ → ℕ
at_place rounds matrix t k = turned (way_of rounds) (length (calls_of matrix t)) k

-- the places after one entry more
place_more : (rounds : Rounds) (matrix : Matrix) (places : List ℕ) (q : List SerialOp) (op : SerialOp) (here : ℕ) → slice_get places op.thread ≡ Some here → ((t place : ℕ) → slice_get places t ≡ Some place → place ≡ at_place rounds matrix t (length (entries t q))) → (t place : ℕ) → slice_get (slice_set places op.thread (at_place rounds matrix op.thread (here + 1))) t ≡ Some place → place ≡ at_place rounds matrix t (length (entries t (q ++ op ∷ [])))
place_more rounds matrix places q op here stands all t place is =
    let next = at_place rounds matrix op.thread (here + 1) in
    elim (same_or_not t op.thread) as (λ _. place ≡ at_place rounds matrix t (length (entries t (q ++ op ∷ [])))) [
      | inl same ↦
          (let there : slice_get (slice_set places op.thread next) op.thread ≡ Some place = subst (λ z. slice_get (slice_set places op.thread next) z ≡ Some place) same is in
          let whole : place ≡ next = same_Some place next (sym there ∙ slice_get_set_same places op.thread next here stands) in
          let len = length (calls_of matrix op.thread) in
          let k = length (entries op.thread q) in
          let more : next ≡ at_place rounds matrix op.thread (length (entries op.thread (q ++ op ∷ []))) = ap (λ n. at_place rounds matrix op.thread (n + 1)) (all op.thread here stands) ∙ (turn_more (way_of rounds) len k true ∙ ap (at_place rounds matrix op.thread) (sym (own_more q op))) in
          subst (λ z. place ≡ at_place rounds matrix z (length (entries z (q ++ op ∷ [])))) (sym same) (whole ∙ more))
      | inr apart ↦ all t place (sym (slice_get_set_other places op.thread t next apart) ∙ is) ∙ ap (at_place rounds matrix t) (sym (other_more q op t apart))
    ]

-- ---- from a start

-- as the client counts it
turned_same : (rounds : Rounds) (matrix : Matrix) (t k : ℕ) → turned (way_of rounds) (length (line_of (way_of rounds) matrix t)) k ≡ at_place rounds matrix t k
turned_same One matrix t k = refl
turned_same Any matrix t k = refl

-- after these entries a thread can make its next call in the matrix with n rounds
abbrev IsEnough : Rounds → List SerialOp → ℕ → Type 0
IsEnough One q n = n ≡ 1
IsEnough Any q n = length q < n

enough_before : (rounds : Rounds) (q : List SerialOp) (op : SerialOp) (n : ℕ) → IsEnough rounds (q ++ op ∷ []) n → IsEnough rounds q n
enough_before One q op n is = is
enough_before Any q op n more = (let long = length-append q (op ∷ []) in omega (arith, long, more))

-- so many are enough, and allowed
abbrev rounds_for : Rounds → List SerialOp → ℕ
rounds_for One q = 1
rounds_for Any q = length q + 1

rounds_enough : (rounds : Rounds) (q : List SerialOp) → IsEnough rounds q (rounds_for rounds q)
rounds_enough One q = refl
rounds_enough Any q = omega arith

rounds_unrolled : (rounds : Rounds) (matrix : Matrix) (q : List SerialOp) → IsUnrolledFrom (way_of rounds) matrix (times (rounds_for rounds q) matrix)
rounds_unrolled One matrix q = times_is_unrolled (Some 1) matrix 1 (omega arith)
rounds_unrolled Any matrix q = times_is_unrolled None matrix (length q + 1) tt

-- A start of the matrix with n rounds, which leaves the cells and locks of s.
abbrev start_of : Component → Matrix → State → ℕ → State
start_of c matrix s n = at_rest c (times n matrix) s.cells s.locks

-- Where there are enough rounds, a serial run with these entries leads to each rest of the stage. The
-- places are those of the threads' next calls.
pub record IsReachedBy (c : Component) (rounds : Rounds) (matrix : Matrix) (s : State) (q : List SerialOp) (stage : Stage) : Type 0 where
  pub places : (t place : ℕ) → slice_get stage.places t ≡ Some place → place ≡ at_place rounds matrix t (length (entries t q))
  pub rests : (n : ℕ) → IsEnough rounds q n → (rest : Rest) → IsIn stage.rests rest → RestAfter (start_of c matrix s n) q rest

abbrev pub IsReached : Component → Rounds → Matrix → State → Stage → Type 0
IsReached c rounds matrix s stage = (q : List SerialOp) × IsReachedBy c rounds matrix s q stage

module _ (c : Component) (rounds : Rounds) (matrix : Matrix) (s : State) (is : IsStart c matrix s) where
  start_is : (n : ℕ) → IsStart c (times n matrix) (start_of c matrix s n)
  start_is n = other_start c matrix (times n matrix) s is refl

  at : (n : ℕ) → IsReady c (times n matrix) (start_of c matrix s n)
  at n = ready c (times n matrix) (start_of c matrix s n) (start_is n)

  pub first_reached : IsReached c rounds matrix s (first_stage matrix (rest_of s))
  first_reached = (
    [],
    record {
      places = λ t place stands. zero_at (thread_count matrix) t place stands ∙ sym (turn_zero (way_of rounds) (length (calls_of matrix t)));
      rests = λ n more rest there. (rest_starts c (times n matrix) (start_of c matrix s n) (at n) rest).1 (only rest there.0 there.1);
    },
  )
    where
      only : (rest : Rest) (i : ℕ) → slice_get (rest_of s ∷ []) i ≡ Some rest → rest ≡ rest_of s
      only rest zero e = sym (same_Some (rest_of s) rest e)
      only rest (suc i) e = absurd cc

  -- the next call of a stage is that after the entries
  next_there : (q : List SerialOp) (stage : Stage) → IsReachedBy c rounds matrix s q stage → (t place : ℕ) (call : ACall) → IsNextFrom rounds matrix stage t place call → (n : ℕ) → IsEnough rounds q n → IsNextCall (times n matrix) q t call
  next_there q stage reached t place call next n = by rounds (reached.places t place next.stands) (call_there rounds matrix stage t place call next)
    where
      enough_rounds : (n len k : ℕ) → 0 < len → k < n → k < n * len
      enough_rounds n len k some less = (let one : 1 ≤ len = omega arith in let m = mul-le-mul_left n one in omega (arith, m, less))

      by : (r : Rounds) → place ≡ at_place r matrix t (length (entries t q)) → slice_get (calls_of matrix t) place ≡ Some call → IsEnough r q n → IsNextCall (times n matrix) q t call
      by One here is one =
          subst (λ m. IsNextCall (times m matrix) q t call) (sym one)
          (subst (λ (m : Matrix). IsNextCall m q t call) (sym (once matrix)) (ap (slice_get (calls_of matrix t)) (sym here) ∙ is))
      by Any here is more =
          let line = calls_of matrix t in
          let k = length (entries t q) in
          let within = slice_get_within line place call is in
          let few = entries_few t q in
          let enough : k < n * length line = enough_rounds n (length line) k (omega (arith, within)) (omega (arith, few, more)) in
          ap (λ row. slice_get row k) (repeated_row n matrix.threads t)
          ∙ (repeated_at n line k enough
          ∙ (ap (slice_get line) (sym here) ∙ is))

  pub reached_on : (stage next : Stage) → IsReached c rounds matrix s stage → LeadsOn c rounds matrix stage next → IsReached c rounds matrix s next
  reached_on stage next (q, reached) leads =
      let op : SerialOp = record { thread = leads.t; outcome = leads.outcome } in (
        q ++ op ∷ [],
        record {
          places = λ t place stands. place_more rounds matrix stage.places q op leads.place leads.is_next.stands reached.places t place
              (ap (λ n. slice_get (slice_set stage.places leads.t n) t) (sym (turned_same rounds matrix leads.t (leads.place + 1)))
              ∙ (ap (λ xs. slice_get xs t) (sym leads.follows.places) ∙ stands));
          rests = λ n more rest there.
              (let from = leads.each rest there in
              let less = enough_before rounds q op n more in
              let goes : GoesOnTo c (times n matrix) (start_of c matrix s n) q op rest = record {
                rest = from.0;
                before = reached.rests n less from.0 from.1;
                call = leads.call;
                next = next_there q stage reached leads.t leads.place leads.call leads.is_next n less;
                plays = from.2;
              } in
              goes_back c (times n matrix) (start_of c matrix s n) (at n) q op rest goes);
        },
      )

  -- a stage with a call that offends
  pub some_offends : (bound : ℕ) (stage : Stage) → IsReached c rounds matrix s stage → HasOffence c rounds matrix bound stage → SomeOffends c rounds matrix bound
  some_offends bound stage (q, reached) (t, place, call, next, how) =
      let n = rounds_for rounds q in
      let big = times n matrix in
      let start = start_of c matrix s n in
      let less = rounds_enough rounds q in
      let there = next_there q stage reached t place call next n less in
      record {
        big = big;
        unrolled = rounds_unrolled rounds matrix q;
        start = start;
        is_start = start_is n;
        offends = λ none.
            (let has = has_one_outcome c big start (at n) bound none in
            elim how [
              | inl (rest, within, over) ↦ has.short q rest t call (reached.rests n less rest within) there over
              | inr two ↦ two.apart (has.one q two.rest two.other t call two.a two.b (reached.rests n less two.rest two.one) (reached.rests n less two.other two.also_one) there two.answers two.also)
            ]);
      }
