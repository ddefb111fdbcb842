-- What the automaton's table knows, and how it grows.
use Rattle.std.proofs.Common.{◌≡◌, ℕ, zero, suc, ◌<◌, Bool, true, false, List, [], ◌∷◌, ◌++◌, Option, Some, None, Result, Ok, Err, slice_get, refl, sym, ◌∙◌, ap, subst, inl, inr, ◌⊎◌}
use Rattle.std.specs.Prelude.{◌&&◌, is_some, nat_eq, cond}
use Rattle.std.specs.HashMap.{HashMap}
use Rattle.indexmap.specs.IndexMap.{get}
use Rattle.std.specs.Result.{OkIff, result_ok}
use Rattle.std.proofs.lemmas.Bool.{and_parts, eqb-true, eq-eqb}
use Rattle.std.proofs.lemmas.Option.{same_Some}
use lib.Pointwise.{pointwise}
use Rattle.lu_component.specs.Component.{Component}
use Rattle.lu_test.specs.declared.matrix.Call.{Call as ACall}
use Rattle.lu_machine.specs.declared.position.Position.{Position}
use Rattle.lu_machine.proofs.Positions.{HaveSame, position_eq, same_position}
use Rattle.lu_history.specs.declared.serial.SerialOutcome.{SerialOutcome}
use Rattle.lu_history.proofs.Events.{kept_at}
use Rattle.lu_client.specs.Alone.{Rest}
use Rattle.lu_serial_graph.specs.Playing.{IsAmong}
use Rattle.lu_run.specs.declared.table.Question.{Question}
use Rattle.lu_run.specs.declared.table.Rests.{Rests}
use Rattle.lu_run.specs.declared.table.Table.{Table}
use Rattle.lu_run.specs.Asking.{AreRests, EndsSo, HasRest, HasSameRests, HasTwoOutcomes, OverrunsFromSome, rest_at}
use Rattle.lu_run.specs.Offending.{AreReached, HasTwoOutcomesAfter, IsFollowFault, IsReached, LeadsAlong, Learns, NextRest, OffendsFrom, OverrunsAfter}
use Rattle.lu_run.specs.declared.automaton.ThreadCall.{ThreadCall}
use Rattle.lu_run.specs.declared.following.FollowFault.{FollowFault}
use Rattle.lu_run.specs.declared.following.FollowFault.TheVariants.{Offends, Memory}
use Rattle.lu_run.specs.Tables.{Answer, Grows, IsNumbered, IsRight, IsRightFor, IsTable, Keeps, Records, recorded, same_question}

-- ---- equal states have the same rests

same_rest : (p q : Position) → HaveSame p q → rest_at p ≡ rest_at q
same_rest p q is =
    ap (λ x. let r : Rest = record { cells = x; locks = p.locks.items } in r) is.0
    ∙ ap (λ x. let r : Rest = record { cells = q.cells.items; locks = x } in r) is.1.0

to_right : (a b : List Position) → pointwise position_eq a b ≡ true → (p : Position) → IsAmong p a → HasRest b (rest_at p)
to_right [] b e p h = absurd h
to_right (x ∷ a) [] e p h = absurd cc
to_right (x ∷ a) (y ∷ b) e p (inl is) =
    let both = and_parts (position_eq x y) (pointwise position_eq a b) e in
    (y, inl refl, sym (same_rest x y ((same_position x y).0 both.0)) ∙ ap rest_at (sym is))
to_right (x ∷ a) (y ∷ b) e p (inr h) =
    let both = and_parts (position_eq x y) (pointwise position_eq a b) e in
    let r = to_right a b both.1 p h in
    (r.0, inr r.1, r.2)

to_left : (a b : List Position) → pointwise position_eq a b ≡ true → (q : Position) → IsAmong q b → HasRest a (rest_at q)
to_left a [] e q h = absurd h
to_left [] (y ∷ b) e q h = absurd cc
to_left (x ∷ a) (y ∷ b) e q (inl is) =
    let both = and_parts (position_eq x y) (pointwise position_eq a b) e in
    (x, inl refl, same_rest x y ((same_position x y).0 both.0) ∙ ap rest_at (sym is))
to_left (x ∷ a) (y ∷ b) e q (inr h) =
    let both = and_parts (position_eq x y) (pointwise position_eq a b) e in
    let r = to_left a b both.1 q h in
    (r.0, inr r.1, r.2)

pub equal_same : (a b : List Position) → pointwise position_eq a b ≡ true → HasSameRests a b
equal_same a b e rest = (
  (λ (p, at, is). (let r = to_right a b e p at in (r.0, r.1, r.2 ∙ is))),
  (λ (q, at, is). (let r = to_left a b e q at in (r.0, r.1, r.2 ∙ is))),
)

-- ---- the states

pub states_kept : (old new : List Rests) (rests : Rests) → Keeps old rests new → (n : ℕ) (x : Rests) → slice_get old n ≡ Some x → slice_get new n ≡ Some x
states_kept old new rests (inl same) n x at = ap (λ xs. slice_get xs n) same ∙ at
states_kept old new rests (inr more) n x at = ap (λ xs. slice_get xs n) more ∙ kept_at old (rests ∷ []) x n at

at_end : (xs : List Rests) (y x : Rests) (n : ℕ) → slice_get (xs ++ y ∷ []) n ≡ Some x → (slice_get xs n ≡ Some x) ⊎ (x ≡ y)
at_end [] y x zero at = inr (sym (same_Some y x at))
at_end [] y x (suc n) at = absurd cc
at_end (z ∷ xs) y x zero at = inl at
at_end (z ∷ xs) y x (suc n) at = at_end xs y x n at

states_new : (old new : List Rests) (rests : Rests) → Keeps old rests new → (n : ℕ) (x : Rests) → slice_get new n ≡ Some x → (slice_get old n ≡ Some x) ⊎ (x ≡ rests)
states_new old new rests (inl same) n x at = inl (ap (λ xs. slice_get xs n) (sym same) ∙ at)
states_new old new rests (inr more) n x at = at_end old rests x n (ap (λ xs. slice_get xs n) (sym more) ∙ at)

-- ---- the answers

right_kept : (c : Component) (old new : List Rests) (rests from : Rests) (t : ℕ) (call : ACall) (answer : Answer) → Keeps old rests new → IsRight c old from t call answer → IsRight c new from t call answer
right_kept c old new rests from t call None keeps is = is
right_kept c old new rests from t call (Some (o, n)) keeps is = (is.0, states_kept old new rests keeps n is.0 is.1, is.2)

right_for_kept : (c : Component) (calls : List ACall) (old new : List Rests) (rests : Rests) (q : Question) (answer : Answer) → Keeps old rests new → IsRightFor c calls old q answer → IsRightFor c calls new q answer
right_for_kept c calls old new rests q answer keeps is = record {
  from = is.from;
  state = states_kept old new rests keeps q.state is.from is.state;
  call = is.call;
  called = is.called;
  right = right_kept c old new rests is.from q.thread is.call answer keeps is.right;
}

-- a state more
pub table_grown : (c : Component) (calls : List ACall) (old new : Table) (rests : Rests) → IsTable c calls old → Keeps old.states.keys rests new.states.keys → AreRests c rests.positions.items → ((q : Question) → recorded new q ≡ recorded old q) → IsTable c calls new
table_grown c calls old new rests is keeps good same = record {
  states = λ n x at. elim (states_new old.states.keys new.states.keys rests keeps n x at) as (λ _. AreRests c x.positions.items) [
    | inl before ↦ is.states n x before
    | inr here ↦ subst (λ (y : Rests). AreRests c y.positions.items) (sym here) good
  ];
  answers = λ q a known. right_for_kept c calls old.states.keys new.states.keys rests q a keeps (is.answers q a (sym (same q) ∙ known));
}

pub grows_states : (old new : Table) (rests : Rests) → Keeps old.states.keys rests new.states.keys → ((q : Question) → recorded new q ≡ recorded old q) → Grows old new
grows_states old new rests keeps same = record { states = states_kept old.states.keys new.states.keys rests keeps; answers = λ q a known. same q ∙ known }

-- an answer more
pub table_recorded : (c : Component) (calls : List ACall) (old new : Table) (q : Question) (answer : Answer) → IsTable c calls old → new.states.keys ≡ old.states.keys → Records old.answers q answer new.answers → IsRightFor c calls old.states.keys q answer → IsTable c calls new
table_recorded c calls old new q answer is same records right = record {
  states = λ n x at. is.states n x (ap (λ xs. slice_get xs n) (sym same) ∙ at);
  answers = λ p a known. subst (λ xs. IsRightFor c calls xs p a) (sym same) (elim (records.others p) as (λ _. IsRightFor c calls old.states.keys p a) [
    | inl other ↦ is.answers p a (sym other ∙ known)
    | inr here ↦
        (let there : recorded new q ≡ Some a = ap (recorded new) (sym here) ∙ known in
        let which : answer ≡ a = same_Some answer a (sym records.here ∙ there) in
        subst (λ x. IsRightFor c calls old.states.keys x a) (sym here) (subst (IsRightFor c calls old.states.keys q) which right))
  ]);
}

pub grows_answers : (old new : Table) (q : Question) (answer : Answer) → new.states.keys ≡ old.states.keys → Records old.answers q answer new.answers → recorded old q ≡ None → Grows old new
grows_answers old new q answer same records none = record {
  states = λ n x at. ap (λ xs. slice_get xs n) same ∙ at;
  answers = λ p a known. elim (records.others p) as (λ _. recorded new p ≡ Some a) [
    | inl other ↦ other ∙ known
    | inr here ↦ absurd (let clash : recorded old q ≡ Some a = ap (recorded old) (sym here) ∙ known in cc)
  ];
}

pub grows_on : (a b d : Table) → Grows a b → Grows b d → Grows a d
grows_on a b d x y = record { states = λ n s at. y.states n s (x.states n s at); answers = λ q r known. y.answers q r (x.answers q r known) }

-- the new rests are those of a state
pub ends_stored : (c : Component) (from : List Position) (t : ℕ) (call : ACall) (o : SerialOutcome) (new to : List Position) → EndsSo c from t call o new → HasSameRests new to → AreRests c to → EndsSo c from t call o to
ends_stored c from t call o new to is same good = record {
  exact = λ p after. (
    (λ plays. (let both = (is.exact p after).0 plays in (both.0, (same after).0 both.1))),
    (λ both. (is.exact p after).1 (both.0, (same after).1 both.1)),
  );
  never_blocks = is.never_blocks;
  rests = good;
}

-- the state of a number has the rests that were to be stored
pub numbered : (states : List Rests) (rests : Rests) (place n : ℕ) (k : Rests) → n ≡ place → slice_get states place ≡ Some k → pointwise position_eq rests.positions.items k.positions.items ≡ true → IsNumbered states rests n
numbered states rests place n k is at same = (k, ap (slice_get states) is ∙ at, equal_same rests.positions.items k.positions.items same)

pub converted : {E : Type 0} (r : Result ℕ E) (place : ℕ) → OkIff r (place < 4294967296) place → (o : Option ℕ) → o ≡ result_ok r → (n : ℕ) → o ≡ Some n → n ≡ place
converted (Ok m) place iff o is n some = (let whole : Some m ≡ Some n = sym is ∙ some in let same : m ≡ n = cc in sym same ∙ iff.1)
converted (Err e) place iff o is n some = absurd (let none = sym is ∙ some in cc)

pub none_known : {A : Type 0} (r o : Option A) → r ≡ o → is_some r ≡ false → o ≡ None
none_known r None same none = refl
none_known r (Some x) same none = absurd (let is : is_some (Some x) ≡ false = ap is_some (sym same) ∙ none in cc)

-- ---- paths

along_push : (c : Component) (calls : List ACall) (path : List (ThreadCall × SerialOutcome)) (start rest after : Rest) (call : ThreadCall) (o : SerialOutcome) → LeadsAlong c calls start path rest → NextRest c calls rest call o after → LeadsAlong c calls start (path ++ (call, o) ∷ []) after
along_push c calls [] start rest after call o is next = (after, subst (λ x. NextRest c calls x call o after) (sym is) next, refl)
along_push c calls ((call2, o2) ∷ path) start rest after call o (mid, first, more) next = (mid, first, along_push c calls path mid rest after call o more next)

-- the rests to which a call leads are reached
pub reached_next : (c : Component) (calls : List ACall) (start : Rest) (from new : List Position) (call : ThreadCall) (made : ACall) (o : SerialOutcome) → slice_get calls call.call ≡ Some made → EndsSo c from call.thread made o new → IsReached c calls start from → IsReached c calls start new
reached_next c calls start from new call made o called ends (path, all) = (
  path ++ (call, o) ∷ [],
  (λ after has.
      let plays = (ends.exact o after).1 (refl, has) in
      along_push c calls path start plays.0 after call o (all plays.0 plays.1) (made, called, plays.2)),
)

pub reached_more : (c : Component) (calls : List ACall) (start : Rest) (old new : Table) (rests : Rests) → Keeps old.states.keys rests new.states.keys → IsReached c calls start rests.positions.items → AreReached c calls start old → AreReached c calls start new
reached_more c calls start old new rests keeps is all n x at = elim (states_new old.states.keys new.states.keys rests keeps n x at) as (λ _. IsReached c calls start x.positions.items) [
  | inl before ↦ all n x before
  | inr here ↦ subst (λ (y : Rests). IsReached c calls start y.positions.items) (sym here) is
]

-- a call that takes more moves than the bound, or has two outcomes, offends
pub offends : (c : Component) (calls : List ACall) (bound : ℕ) (table : Table) (call : ThreadCall) (state : Rests) (n : ℕ) (made : ACall) → slice_get table.states.keys n ≡ Some state → slice_get calls call.call ≡ Some made → OverrunsFromSome c state.positions.items call.thread made bound ⊎ HasTwoOutcomes c state.positions.items call.thread made → OffendsFrom c calls bound table call
offends c calls bound table call state n made at called is start all =
    let from = all n state at in
    record { path = from.0; call = made; called = called; offends = by from.0 from.1 is }
  where
    by : (path : List (ThreadCall × SerialOutcome)) → ((rest : Rest) → HasRest state.positions.items rest → LeadsAlong c calls start path rest) → OverrunsFromSome c state.positions.items call.thread made bound ⊎ HasTwoOutcomes c state.positions.items call.thread made → OverrunsAfter c calls start path call.thread made bound ⊎ HasTwoOutcomesAfter c calls start path call.thread made
    by path leads (inl over) = inl (over.0, leads over.0 over.1, over.2)
    by path leads (inr two) = inr (record { rest = two.rest; other = two.other; a = two.a; b = two.b; first = leads two.rest two.first; second = leads two.other two.second; answers = two.answers; also = two.also; apart = two.apart })

-- ---- what is learnt, step by step

pub learns_none : (c : Component) (calls : List ACall) (table : Table) → IsTable c calls table → Learns c calls table table
learns_none c calls table is = record { right = is; grows = record { states = λ n x at. at; answers = λ q a known. known }; reached = λ start all. all }

pub learns_on : (c : Component) (calls : List ACall) (a b d : Table) → Learns c calls a b → Learns c calls b d → Learns c calls a d
learns_on c calls a b d x y = record { right = y.right; grows = grows_on a b d x.grows y.grows; reached = λ start all. y.reached start (x.reached start all) }

pub fault_earlier : (c : Component) (calls : List ACall) (bound : ℕ) (old mid : Table) (fault : FollowFault) → Learns c calls old mid → IsFollowFault c calls bound mid fault → IsFollowFault c calls bound old fault
fault_earlier c calls bound old mid (Offends call) learns is = (λ start all. is start (learns.reached start all))
fault_earlier c calls bound old mid Memory learns is = tt

-- ---- questions

same_exact : (a b : Question) → same_question a b ≡ true → b ≡ a
same_exact a b is =
    let parts = and_parts (nat_eq a.state b.state) (nat_eq a.thread b.thread && nat_eq a.call b.call) is in
    let more = and_parts (nat_eq a.thread b.thread) (nat_eq a.call b.call) parts.1 in
    let state : b.state ≡ a.state = sym (eqb-true a.state b.state parts.0) in
    let thread : b.thread ≡ a.thread = sym (eqb-true a.thread b.thread more.0) in
    let call : b.call ≡ a.call = sym (eqb-true a.call b.call more.1) in
    ap (λ x. let q : Question = record { state = x; thread = b.thread; call = b.call } in q) state
    ∙ (ap (λ x. let q : Question = record { state = a.state; thread = x; call = b.call } in q) thread
    ∙ ap (λ x. let q : Question = record { state = a.state; thread = a.thread; call = x } in q) call)

same_itself : (a : Question) → same_question a a ≡ true
same_itself a =
    ap (λ x. x && (nat_eq a.thread a.thread && nat_eq a.call a.call)) (eq-eqb a.state a.state refl)
    ∙ (ap (λ x. x && nat_eq a.call a.call) (eq-eqb a.thread a.thread refl) ∙ eq-eqb a.call a.call refl)

pub records_by : {S : Type 0} (old new : HashMap Question Answer S) (question : Question) (answer : Answer) → ((q : Question) → get same_question new q ≡ cond (same_question question q) (Some answer) (get same_question old q)) → Records old question answer new
records_by old new question answer updates = record {
  here = updates question ∙ ap (λ b. cond b (Some answer) (get same_question old question)) (same_itself question);
  others = λ q. by q (same_question question q) refl;
}
  where
    by : (q : Question) (b : Bool) → same_question question q ≡ b → (get same_question new q ≡ get same_question old q) ⊎ (q ≡ question)
    by q true is = inr (same_exact question q is)
    by q false is = inl (updates q ∙ ap (λ x. cond x (Some answer) (get same_question old q)) is)
