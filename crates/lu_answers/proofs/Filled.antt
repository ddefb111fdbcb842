-- A table that is filled row by row.
use Rattle.std.proofs.Common.{arith, ◌≡◌, ℕ, zero, suc, ◌+◌, ◌<◌, ◌≤◌, ◌⊎◌, List, [], ◌∷◌, ◌++◌, length, get_or, Some, None, slice_get, slice_set, get_or-set_other, get_or-set_same, sym, ◌∙◌, ap, subst, inl, inr, append_assoc}
use Rattle.std.specs.Option.{option_and_then}
use Rattle.std.proofs.Math.ListN.{length-set}
use Rattle.std.proofs.lemmas.Bool.{cases_lt}
use Rattle.std.proofs.lemmas.List.{append-nil, length-append, length-map, map-append}
use Rattle.std.proofs.lemmas.Option.{same_Some, slice_get_within}
use Rattle.lu_component.specs.Component.{Component}
use Rattle.lu_test.specs.declared.matrix.Call.{Call as ACall}
use Rattle.lu_test.specs.Matrix.{Matrix, thread_count}
use Rattle.lu_machine.specs.States.{State}
use Rattle.lu_machine.specs.Starts.{IsStart}
use Rattle.lu_machine.proofs.Starting.{start_same}
use Rattle.lu_history.specs.declared.serial.SerialOutcome.{SerialOutcome}
use Rattle.lu_history.specs.declared.serial.SerialOutcome.TheVariants.{Stuck}
use Rattle.lu_serial.proofs.Opening.{same_or_not}
use Rattle.lu_history.proofs.Events.{at_push, kept_at, last_at}
use Rattle.lu_client.specs.Alone.{rest_of}
use Rattle.lu_client.specs.Stages.{IsIn, Stage, first_stage}
use Rattle.lu_client.proofs.OneCalls.{within_some}
use Rattle.lu_answers.specs.declared.rounds.Rounds.{Rounds}
use Rattle.lu_answers.specs.declared.stage.StoredStage.{StoredStage}
use Rattle.lu_answers.specs.declared.stop.Stop.{Stop}
use Rattle.lu_answers.specs.declared.stop.Stop.TheVariants.{Memory, Offends, TooMany}
use Rattle.lu_answers.specs.Asking.{AddsFrom, BlocksAlways, HasOffence, HasOffenceAt, IfOffends, IsNextFrom, IsRightAt, IsRow, LeadsOn, ReturnsTo, SomeOffends, Step}
use Rattle.lu_answers.specs.Stored.{AllStored, Grows, HasStage, IsNumbered, IsStored, Keeps, stage_of, stages_of}
use Rattle.lu_answers.specs.Tables.{EndsOnlyAs, IsAnswer, IsTableFrom, IsTableOf, Rows, answer_in, table_of}
use Rattle.lu_answers.specs.Ways.{way_of}
use Rattle.lu_answers.proofs.Lines.{same_call}
use Rattle.lu_answers.proofs.Mapped.{mapped_at, unmapped_at}
use Rattle.lu_answers.proofs.Reaching.{IsReached, first_reached, reached_on, some_offends}

-- ---- stages that stay

pub keeps_grows : (old new : List StoredStage) (stored : StoredStage) → Keeps old stored new → Grows old new
keeps_grows old new stored (inl same) = ([], same ∙ sym (append-nil old))
keeps_grows old new stored (inr more) = (stored ∷ [], more)

pub grows_none : (all : List StoredStage) → Grows all all
grows_none all = ([], sym (append-nil all))

pub grows_on : (old mid new : List StoredStage) → Grows old mid → Grows mid new → Grows old new
grows_on old mid new g h = (g.0 ++ h.0, h.1 ∙ (ap (λ xs. xs ++ h.0) g.1 ∙ append_assoc old g.0 h.0))

-- a stage keeps its number
pub stage_kept : (old new : List StoredStage) → Grows old new → (x : ℕ) (stage : Stage) → slice_get (stages_of old) x ≡ Some stage → slice_get (stages_of new) x ≡ Some stage
stage_kept old new g x stage is =
    ap (λ xs. slice_get (stages_of xs) x) g.1
    ∙ (ap (λ xs. slice_get xs x) (map-append stage_of old g.0)
    ∙ kept_at (stages_of old) (stages_of g.0) stage x is)

-- and the stage of an old number is the old one
pub stage_was : (old new : List StoredStage) → Grows old new → (x : ℕ) → x < length old → (stage : Stage) → slice_get (stages_of new) x ≡ Some stage → slice_get (stages_of old) x ≡ Some stage
stage_was old new g x within stage is =
    let many = length-map old stage_of in
    let was = within_some (stages_of old) x (omega (arith, many, within)) in
    let same : was.0 ≡ stage = same_Some was.0 stage (sym (stage_kept old new g x was.0 was.1) ∙ is) in
    was.1 ∙ ap Some same

pub many_kept : (old new : List StoredStage) → Grows old new → length old ≤ length new
many_kept old new g =
    let whole = ap length g.1 in
    let parts = length-append old g.0 in
    omega (arith, whole, parts)

pub in_kept : (old new : List StoredStage) → Grows old new → (stage : Stage) → IsIn (stages_of old) stage → IsIn (stages_of new) stage
in_kept old new g stage (i, is) = (i, stage_kept old new g i stage is)

-- ---- a stage more

pub stored_more : (c : Component) (matrix : Matrix) (old new : List StoredStage) (stored : StoredStage) → Keeps old stored new → AllStored c matrix old → IsStored c matrix stored → AllStored c matrix new
stored_more c matrix old new stored (inl same) all is x there = all x (subst (λ xs. IsIn xs x) same there)
stored_more c matrix old new stored (inr more) all is x (i, there) =
    elim (at_push old stored x i (ap (λ xs. slice_get xs i) (sym more) ∙ there)) as (λ _. IsStored c matrix x) [
      | inl before ↦ all x (i, before.1)
      | inr here ↦ subst (IsStored c matrix) (sym here.1) is
    ]

pub adds_one : (c : Component) (rounds : Rounds) (matrix : Matrix) (old new : List StoredStage) (stored : StoredStage) (x : ℕ) → Keeps old stored new → ((stage : Stage) → slice_get (stages_of old) x ≡ Some stage → LeadsOn c rounds matrix stage (stage_of stored)) → AddsFrom c rounds matrix old x new
adds_one c rounds matrix old new stored x (inl same) leads stage next is there = inl (subst (λ xs. IsIn (stages_of xs) next) same there)
adds_one c rounds matrix old new stored x (inr more) leads stage next is (i, there) =
    let from = unmapped_at stage_of new i next there in
    elim (at_push old stored from.0 i (ap (λ xs. slice_get xs i) (sym more) ∙ from.1)) as (λ _. IsIn (stages_of old) next ⊎ LeadsOn c rounds matrix stage next) [
      | inl before ↦ inl (i, mapped_at stage_of old i from.0 before.1 ∙ ap Some from.2)
      | inr here ↦ inr (subst (LeadsOn c rounds matrix stage) (ap stage_of (sym here.1) ∙ from.2) (leads stage is))
    ]

pub adds_none : (c : Component) (rounds : Rounds) (matrix : Matrix) (all : List StoredStage) (x : ℕ) → AddsFrom c rounds matrix all x all
adds_none c rounds matrix all x stage next is there = inl there

pub adds_on : (c : Component) (rounds : Rounds) (matrix : Matrix) (old mid new : List StoredStage) (x : ℕ) → Grows old mid → AddsFrom c rounds matrix old x mid → AddsFrom c rounds matrix mid x new → AddsFrom c rounds matrix old x new
adds_on c rounds matrix old mid new x g first second stage next is there =
    elim (second stage next (stage_kept old mid g x stage is) there) as (λ _. IsIn (stages_of old) next ⊎ LeadsOn c rounds matrix stage next) [
      | inl before ↦ first stage next is before
      | inr leads ↦ inr leads
    ]

-- ---- answers that stay

answer_kept : (c : Component) (rounds : Rounds) (matrix : Matrix) (bound : ℕ) (old new : List StoredStage) → Grows old new → (stage : Stage) (t place : ℕ) (call : ACall) (step : Step) → IsAnswer c (way_of rounds) matrix bound (stages_of old) stage t place call step → IsAnswer c (way_of rounds) matrix bound (stages_of new) stage t place call step
answer_kept c rounds matrix bound old new g stage t place call None is = is
answer_kept c rounds matrix bound old new g stage t place call (Some (outcome, y)) is = (is.0, is.1, (is.2.0, stage_kept old new g y is.2.0 is.2.1, is.2.2))

pub right_kept : (c : Component) (rounds : Rounds) (matrix : Matrix) (bound : ℕ) (old new : List StoredStage) → Grows old new → (x t : ℕ) (step : Step) → x < length old → IsRightAt c rounds matrix bound (stages_of old) x t step → IsRightAt c rounds matrix bound (stages_of new) x t step
right_kept c rounds matrix bound old new g x t step within is stage place call there next =
    answer_kept c rounds matrix bound old new g stage t place call step (is stage place call (stage_was old new g x within stage there) next)

-- ---- a step

module _ (c : Component) (rounds : Rounds) (matrix : Matrix) (bound : ℕ) (old : List StoredStage) (x t : ℕ) (stored : StoredStage) (is : slice_get old x ≡ Some stored) where
  here : (stage : Stage) → slice_get (stages_of old) x ≡ Some stage → stage ≡ stage_of stored
  here stage there = same_Some stage (stage_of stored) (sym there ∙ mapped_at stage_of old x stored is)

  pub step_blocks : BlocksAlways c rounds matrix bound (stage_of stored) t → IsRightAt c rounds matrix bound (stages_of old) x t None
  step_blocks blocks stage place call there next =
      let same = here stage there in
      subst (λ z. EndsOnlyAs c bound z t call Stuck) (sym same) (blocks place call (subst (λ z. IsNextFrom rounds matrix z t place call) same next))

  pub step_offends : HasOffence c rounds matrix bound (stage_of stored) → HasOffenceAt c rounds matrix bound old x
  step_offends offends = (stage_of stored, mapped_at stage_of old x stored is, offends)

  module _ (outcome : SerialOutcome) (to : StoredStage) (returns : ReturnsTo c rounds matrix bound (stage_of stored) t outcome (stage_of to)) where
    pub step_leads : (stage : Stage) → slice_get (stages_of old) x ≡ Some stage → LeadsOn c rounds matrix stage (stage_of to)
    step_leads stage there =
        let leads : LeadsOn c rounds matrix (stage_of stored) (stage_of to) = record {
          t = t;
          place = returns.place;
          call = returns.call;
          outcome = outcome;
          is_next = returns.is_next;
          follows = returns.follows;
          each = returns.each;
        } in
        subst (λ z. LeadsOn c rounds matrix z (stage_of to)) (sym (here stage there)) leads

    pub step_returns : (new : List StoredStage) → Grows old new → (n : ℕ) → IsNumbered new to n → IsRightAt c rounds matrix bound (stages_of new) x t (Some (outcome, n))
    step_returns new grows n number stage place call there next =
        let within = slice_get_within old x stored is in
        let same = here stage (stage_was old new grows x within stage there) in
        let at = subst (λ z. IsNextFrom rounds matrix z t place call) same next in
        let spot : returns.place ≡ place = same_Some returns.place place (sym returns.is_next.stands ∙ at.stands) in
        let made : returns.call ≡ call = same_Some returns.call call (same_call rounds matrix (stage_of stored) t returns.place place returns.call call returns.is_next at spot) in
        subst (λ z. IsAnswer c (way_of rounds) matrix bound (stages_of new) z t place call (Some (outcome, n))) (sym same)
        (subst (λ z. IsAnswer c (way_of rounds) matrix bound (stages_of new) (stage_of stored) t place z (Some (outcome, n))) made
        (subst (λ z. IsAnswer c (way_of rounds) matrix bound (stages_of new) (stage_of stored) t z returns.call (Some (outcome, n))) spot
        (returns.free, returns.only, (stage_of to, number, returns.follows))))

-- ---- a row

-- the row has the answers of the threads before thread n
pub record IsRowBefore (c : Component) (rounds : Rounds) (matrix : Matrix) (bound : ℕ) (old : List StoredStage) (x : ℕ) (all : List StoredStage) (row : List Step) (n : ℕ) : Type 0 where
  pub many : length row ≡ 8
  pub grows : Grows old all
  pub stored : AllStored c matrix all
  pub adds : AddsFrom c rounds matrix old x all
  pub right : (t : ℕ) → t < n → IsRightAt c rounds matrix bound (stages_of all) x t (get_or row t None)

pub row_none : (c : Component) (rounds : Rounds) (matrix : Matrix) (bound : ℕ) (old : List StoredStage) (x : ℕ) (row : List Step) → length row ≡ 8 → AllStored c matrix old → IsRowBefore c rounds matrix bound old x old row 0
row_none c rounds matrix bound old x row many stored = record {
  many = many;
  grows = grows_none old;
  stored = stored;
  adds = adds_none c rounds matrix old x;
  right = λ t less. absurd (omega (arith, less));
}

pub row_more : (c : Component) (rounds : Rounds) (matrix : Matrix) (bound : ℕ) (old mid new : List StoredStage) (x : ℕ) (row : List Step) (n : ℕ) (step : Step) → x < length old → n < 8 → IsRowBefore c rounds matrix bound old x mid row n → Grows mid new → AllStored c matrix new → AddsFrom c rounds matrix mid x new → IsRightAt c rounds matrix bound (stages_of new) x n step → IsRowBefore c rounds matrix bound old x new (slice_set row n step) (n + 1)
row_more c rounds matrix bound old mid new x row n step within few is grows stored adds right =
    let len = is.many in
    let room = length-set row n step in
    record {
      many = omega (arith, len, room);
      grows = grows_on old mid new is.grows grows;
      stored = stored;
      adds = adds_on c rounds matrix old mid new x is.grows is.adds adds;
      right = λ t less. elim (same_or_not t n) as (λ _. IsRightAt c rounds matrix bound (stages_of new) x t (get_or (slice_set row n step) t None)) [
        | inl same ↦
            (let there : get_or (slice_set row n step) n None ≡ step = get_or-set_same row n step None (omega (arith, len, few)) in
            subst (λ z. IsRightAt c rounds matrix bound (stages_of new) x z (get_or (slice_set row n step) z None)) (sym same) (subst (IsRightAt c rounds matrix bound (stages_of new) x n) (sym there) right))
        | inr apart ↦
            (let there : get_or (slice_set row n step) t None ≡ get_or row t None = get_or-set_other row n t step None apart in
            let many = many_kept old mid is.grows in
            let before : t < n = less_of t n less apart in
            subst (IsRightAt c rounds matrix bound (stages_of new) x t) (sym there) (right_kept c rounds matrix bound mid new grows x t (get_or row t None) (omega (arith, within, many)) (is.right t before)))
      ];
    }
  where
    less_of : (t n : ℕ) → t < n + 1 → (t ≡ n → ⊥) → t < n
    less_of t n less apart = elim (cases_lt t n) as (λ _. t < n) [ inl lt ↦ lt | inr past ↦ absurd (apart (omega arith)) ]

-- what stops at a later list of stages stops at the first
pub offence_was : (c : Component) (rounds : Rounds) (matrix : Matrix) (bound : ℕ) (old mid : List StoredStage) (x : ℕ) → x < length old → Grows old mid → (stop : Stop) → IfOffends stop (HasOffenceAt c rounds matrix bound mid x) → IfOffends stop (HasOffenceAt c rounds matrix bound old x)
offence_was c rounds matrix bound old mid x within grows Offends (stage, at, offends) = (stage, stage_was old mid grows x within stage at, offends)
offence_was c rounds matrix bound old mid x within grows TooMany h = tt
offence_was c rounds matrix bound old mid x within grows Memory h = tt

-- no thread is after the last one of the matrix
pub row_all : (c : Component) (rounds : Rounds) (matrix : Matrix) (bound : ℕ) (old : List StoredStage) (x : ℕ) (all : List StoredStage) (row : List Step) (n : ℕ) → thread_count matrix ≤ n → IsRowBefore c rounds matrix bound old x all row n → IsRow c rounds matrix bound all x row
row_all c rounds matrix bound old x all row n last is t stage place call there next =
    let from = unmapped_at stage_of all x stage there in
    let seats = (is.stored from.0 (x, from.1)).seats in
    let same : length stage.places ≡ length from.0.places.items = ap (λ (z : Stage). length z.places) (sym from.2) in
    let within = slice_get_within stage.places t place next.stands in
    is.right t (omega (arith, last, seats, same, within)) stage place call there next

-- ---- rows so far

-- The first stage is that of s, serial runs lead to each of the stages, and the rows of the first
-- stages are right.
pub record AreFilled (c : Component) (rounds : Rounds) (matrix : Matrix) (bound : ℕ) (s : State) (index : ℕ) (all : List StoredStage) (rows : Rows) : Type 0 where
  pub first : slice_get (stages_of all) 0 ≡ Some (first_stage matrix (rest_of s))
  pub stored : AllStored c matrix all
  pub reached : (stage : Stage) → IsIn (stages_of all) stage → IsReached c rounds matrix s stage
  pub many : length rows ≡ index
  pub right : (x t : ℕ) → x < index → IsRightAt c rounds matrix bound (stages_of all) x t (answer_in rows x t)

pub filled_none : (c : Component) (rounds : Rounds) (matrix : Matrix) (bound : ℕ) (s : State) (all : List StoredStage) (new : StoredStage) (rows : Rows) → IsStart c matrix s → rows ≡ [] → stage_of new ≡ first_stage matrix (rest_of s) → IsStored c matrix new → Keeps [] new all → HasStage all new → AreFilled c rounds matrix bound s 0 all rows
filled_none c rounds matrix bound s all new rows is none first stored (inl same) (n, there) = absurd (let gone = ap (λ xs. slice_get (stages_of xs) n) (sym same) ∙ there in cc)
filled_none c rounds matrix bound s all new rows is none first stored (inr one) has = record {
  first = ap (λ xs. slice_get (stages_of xs) 0) one ∙ ap Some first;
  stored = λ x at. subst (IsStored c matrix) (sym (alone x new (subst (λ xs. IsIn xs x) one at))) stored;
  reached = λ stage at. subst (IsReached c rounds matrix s) (sym (alone stage (stage_of new) (subst (λ xs. IsIn (stages_of xs) stage) one at) ∙ first)) (first_reached c rounds matrix s is);
  many = ap length none;
  right = λ x t less. absurd (omega (arith, less));
}
  where
    alone : {A : Type 0} (x y : A) → IsIn (y ∷ []) x → x ≡ y
    alone x y (zero, e) = sym (same_Some y x e)
    alone x y (suc i, e) = absurd cc

answer_before : (rows : Rows) (row : List Step) (x t : ℕ) → x < length rows → answer_in (rows ++ row ∷ []) x t ≡ answer_in rows x t
answer_before rows row x t less =
    let was = within_some rows x less in
    ap (λ o. option_and_then (λ (r : List Step). get_or r t None) o) (kept_at rows (row ∷ []) was.0 x was.1 ∙ sym was.1)

answer_last : (rows : Rows) (row : List Step) (t : ℕ) → answer_in (rows ++ row ∷ []) (length rows) t ≡ get_or row t None
answer_last rows row t = ap (λ o. option_and_then (λ (r : List Step). get_or r t None) o) (last_at rows [] row)

pub filled_next : (c : Component) (rounds : Rounds) (matrix : Matrix) (bound : ℕ) (s : State) (index : ℕ) (old new : List StoredStage) (rows : Rows) (row : List Step) → IsStart c matrix s → index < length old → AreFilled c rounds matrix bound s index old rows → Grows old new → AllStored c matrix new → AddsFrom c rounds matrix old index new → IsRow c rounds matrix bound new index row → AreFilled c rounds matrix bound s (index + 1) new (rows ++ row ∷ [])
filled_next c rounds matrix bound s index old new rows row is within are grows stored adds right =
    let count = length-map old stage_of in
    let here = within_some (stages_of old) index (omega (arith, count, within)) in
    record {
      first = stage_kept old new grows 0 (first_stage matrix (rest_of s)) are.first;
      stored = stored;
      reached = λ stage at. elim (adds here.0 stage here.1 at) as (λ _. IsReached c rounds matrix s stage) [
        | inl before ↦ are.reached stage before
        | inr leads ↦ reached_on c rounds matrix s is here.0 stage (are.reached here.0 (index, here.1)) leads
      ];
      many = (let m = are.many in let l = length-append rows (row ∷ []) in omega (arith, m, l));
      right = λ x t less. elim (same_or_not x index) as (λ _. IsRightAt c rounds matrix bound (stages_of new) x t (answer_in (rows ++ row ∷ []) x t)) [
        | inl same ↦
            (let there : answer_in (rows ++ row ∷ []) index t ≡ get_or row t None = ap (λ n. answer_in (rows ++ row ∷ []) n t) (sym are.many) ∙ answer_last rows row t in
            subst (λ z. IsRightAt c rounds matrix bound (stages_of new) z t (answer_in (rows ++ row ∷ []) z t)) (sym same) (subst (IsRightAt c rounds matrix bound (stages_of new) index t) (sym there) (right t)))
        | inr apart ↦
            (let before : x < index = less_of x index less apart in
            let m = are.many in
            subst (IsRightAt c rounds matrix bound (stages_of new) x t) (sym (answer_before rows row x t (omega (arith, m, before)))) (right_kept c rounds matrix bound old new grows x t (answer_in rows x t) (omega (arith, before, within)) (are.right x t before)))
      ];
    }
  where
    less_of : (t n : ℕ) → t < n + 1 → (t ≡ n → ⊥) → t < n
    less_of t n less apart = elim (cases_lt t n) as (λ _. t < n) [ inl lt ↦ lt | inr past ↦ absurd (apart (omega arith)) ]

-- all rows
pub filled_all : (c : Component) (rounds : Rounds) (matrix : Matrix) (bound : ℕ) (s : State) (index : ℕ) (all : List StoredStage) (rows : Rows) → IsStart c matrix s → length all ≤ index → AreFilled c rounds matrix bound s index all rows → IsTableFrom c rounds matrix rows (stages_of all) bound
filled_all c rounds matrix bound s index all rows is past are other starts =
    subst (λ x. IsTableOf c (way_of rounds) matrix bound (rest_of x) (table_of (stages_of all) rows)) (start_same c matrix s other is starts) (record {
      starts = are.first;
      answers = λ x stage t place call there next.
          (let within = slice_get_within (stages_of all) x stage there in
          let count = length-map all stage_of in
          are.right x t (omega (arith, within, count, past)) stage place call there next);
    })

-- a stage with a call that offends
pub filled_offends : (c : Component) (rounds : Rounds) (matrix : Matrix) (bound : ℕ) (s : State) (index : ℕ) (all : List StoredStage) (rows : Rows) → IsStart c matrix s → AreFilled c rounds matrix bound s index all rows → HasOffenceAt c rounds matrix bound all index → SomeOffends c rounds matrix bound
filled_offends c rounds matrix bound s index all rows is are (stage, at, offends) = some_offends c rounds matrix s is bound stage (are.reached stage (index, at)) offends

pub filled_stops : (c : Component) (rounds : Rounds) (matrix : Matrix) (bound : ℕ) (s : State) (index : ℕ) (all : List StoredStage) (rows : Rows) → IsStart c matrix s → AreFilled c rounds matrix bound s index all rows → (stop : Stop) → IfOffends stop (HasOffenceAt c rounds matrix bound all index) → IfOffends stop (SomeOffends c rounds matrix bound)
filled_stops c rounds matrix bound s index all rows is are Offends h = filled_offends c rounds matrix bound s index all rows is are h
filled_stops c rounds matrix bound s index all rows is are TooMany h = tt
filled_stops c rounds matrix bound s index all rows is are Memory h = tt
