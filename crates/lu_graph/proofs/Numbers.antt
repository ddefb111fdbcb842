-- Numbers in tables.
use Rattle.std.proofs.Common.{arith, ◌≡◌, ℕ, suc, zero, ◌+◌, ◌<◌, ◌≤◌, Bool, true, false, cond, List, [], ◌∷◌, ◌++◌, length, Option, Some, None, slice_get, get_or, replicate, set, refl, sym, ◌∙◌, ap, subst, append_assoc, inl, inr}
use Rattle.std.specs.Prelude.{All, not, position}
use Rattle.std.specs.List.{IsDistinct, position_or_len, slice_index}
use Rattle.std.proofs.lemmas.Bool.{cases_lt, le-ltb, lt-ltb}
use Rattle.std.proofs.lemmas.List.{append-nil, get_or-set_other, get_or-set_same, length-set, length_push}
use Rattle.std.proofs.lemmas.List.Elements.{All-nil, All-push}
use Rattle.std.proofs.lemmas.List.Sums.{passes_at_first, position_or_len_is}
use Rattle.std.proofs.lemmas.Map.Keys.{apart_from_distinct}
use Rattle.std.proofs.lemmas.Option.{get_or_from_slice_get, same_Some, slice_get_past, slice_get_within}
use Rattle.lu_component.specs.Component.{Component}
use Rattle.lu_machine.specs.declared.thread.Thread.{Thread}
use Rattle.lu_machine.specs.declared.thread.Activity.{Activity}
use Rattle.lu_machine.specs.declared.thread.Activity.TheVariants.{Idle, Open}
use Rattle.lu_machine.specs.Layout.{HasRoom, IsInCode, IsStanding, StandsIn}
use Rattle.lu_machine.specs.States.{State}
use Rattle.lu_horizon.specs.Dead.{DeadTable}
use Rattle.lu_horizon.specs.Live.{IsLiveActivity, IsLiveThread}
use Rattle.lu_graph.specs.Discovering.{Extends}
use Rattle.lu_graph.specs.Numbered.{IsNumber, IsNumbered, with_number}
use Rattle.lu_graph.specs.Rows.{AreNumbers, IsNumberOrNone, NumbersThreads, same_standing}
use Rattle.lu_graph.proofs.Among.{at_either, at_last, at_left, only_one}
use Rattle.lu_graph.proofs.Many.{some_at}

-- ---- the first that passes

module _ {A : Type 0} (test : A → Bool) where
  position_within : (xs : List A) → position_or_len test xs < length xs → position test xs ≡ Some (position_or_len test xs)
  position_within xs lt = ap (λ b. cond b (Some (position_or_len test xs)) None) (lt-ltb (position_or_len test xs) (length xs) lt)

  position_past : (xs : List A) → length xs ≤ position_or_len test xs → position test xs ≡ None
  position_past xs le = ap (λ b. cond b (Some (position_or_len test xs)) None) (le-ltb (position_or_len test xs) (length xs) le)

  first_at : (xs : List A) (i : ℕ) → position test xs ≡ Some i → (position_or_len test xs ≡ i) × (i < length xs)
  first_at xs i is = elim (cases_lt (position_or_len test xs) (length xs)) as (λ _. (position_or_len test xs ≡ i) × (i < length xs)) [
    | inl lt ↦ (let same = same_Some (position_or_len test xs) i (sym (position_within xs lt) ∙ is) in (same, omega (arith, same, lt)))
    | inr le ↦ absurd (let none = position_past xs le in cc)
  ]

  -- what passes has its number, where no two are equal
  pub number_there : (eq : A → A → Bool) → ((x y : A) → test x ≡ true → test y ≡ eq x y) → (xs : List A) → IsDistinct eq xs → (i : ℕ) (y : A) → slice_get xs i ≡ Some y → test y ≡ true → IsNumber test xs (i + 1)
  number_there eq respects xs distinct i y at passes =
      let within = slice_get_within xs i y at in
      let here : get_or xs i y ≡ y = get_or_from_slice_get xs i y y at in
      let first : position_or_len test xs ≡ i = position_or_len_is test xs i y (omega (arith, within))
      (λ k lt. one_fails (test (get_or xs k y)) k refl lt) (λ _. subst (λ x. test x ≡ true) (sym here) passes) in
      (i, position_within xs (omega (arith, first, within)) ∙ ap (λ k. Some k) first, refl)
    where
      one_fails : (b : Bool) (k : ℕ) → test (get_or xs k y) ≡ b → k < i → b ≡ false
      one_fails false k is lt = refl
      one_fails true k is lt =
          let within = slice_get_within xs i y at in
          let here : get_or xs i y ≡ y = get_or_from_slice_get xs i y y at in
          let apart = apart_from_distinct eq xs k i y distinct lt within in
          let both : true ≡ false = sym passes ∙ (respects (get_or xs k y) y is ∙ (sym (ap (eq (get_or xs k y)) here) ∙ apart)) in
          absurd (cc)

  first_stays : (xs ys : List A) → position_or_len test xs < length xs → position_or_len test (xs ++ ys) ≡ position_or_len test xs
  first_stays [] ys lt = absurd (omega arith)
  first_stays (x ∷ xs) ys lt = by (test x) (first_stays xs ys) lt
    where
      by : (b : Bool) → (position_or_len test xs < length xs → position_or_len test (xs ++ ys) ≡ position_or_len test xs) → cond (not b) (1 + position_or_len test xs) 0 < suc (length xs) → cond (not b) (1 + position_or_len test (xs ++ ys)) 0 ≡ cond (not b) (1 + position_or_len test xs) 0
      by true rest h = refl
      by false rest h = ap (λ n. 1 + n) (rest (omega (arith, h)))

  number_left : (old more : List A) (n : ℕ) → IsNumber test old n → IsNumber test (old ++ more) n
  number_left old more n (place, at, is) =
      let first = first_at old place at in
      let lt : position_or_len test old < length old = (let same = first.0 in let within = first.1 in omega (arith, same, within)) in
      let stays = first_stays old more lt in
      let one : position_or_len test (old ++ more) ≡ place = stays ∙ first.0 in
      let within : place < length (old ++ more) = (let there = some_at old place first.1 in slice_get_within (old ++ more) place there.0 (at_left old more place there.0 there.1)) in
      (place, position_within (old ++ more) (omega (arith, one, within)) ∙ ap (λ i. Some i) one, is)

  -- a number stays
  pub number_stays : (old new : List A) (n : ℕ) → Extends old new → IsNumber test old n → IsNumber test new n
  number_stays old new n grown is = subst (λ xs. IsNumber test xs n) (sym grown.1) (number_left old grown.0 n is)

  -- what has a number is the same as the one at its place
  pub numbered : (table : List A) (n : ℕ) → IsNumber test table n → (place : ℕ) × (y : A) × (n ≡ place + 1) × (slice_get table place ≡ Some y) × (test y ≡ true)
  numbered table n (place, at, is) =
      let first = first_at table place at in
      let there = some_at table place first.1 in
      let lt : position_or_len test table < length table = (let same = first.0 in let within = first.1 in omega (arith, same, within)) in
      let passes = subst (λ i. test (get_or table i there.0) ≡ true) first.0 (passes_at_first test table there.0 lt) in
      (place, there.0, is, there.1, subst (λ x. test x ≡ true) (get_or_from_slice_get table place there.0 there.0 there.1) passes)

  -- and it has one number
  pub one_number : (table : List A) (m n : ℕ) → IsNumber test table m → IsNumber test table n → m ≡ n
  one_number table m n (i, at, is) (j, there, too) =
      let same = same_Some i j (sym at ∙ there) in
      omega (arith, same, is, too)

pub extends_on : {A : Type 0} (old mid new : List A) → Extends old mid → Extends mid new → Extends old new
extends_on old mid new a b = (a.0 ++ b.0, b.1 ∙ (ap (λ x. x ++ b.0) a.1 ∙ append_assoc old a.0 b.0))

pub extends_none : {A : Type 0} (old : List A) → Extends old old
extends_none old = ([], sym (append-nil old))

-- two that have one number are the same
pub same_number : {A B : Type 0} (one other : B) (test : B → A → Bool) (alike : (y : A) → test one y ≡ true → test other y ≡ true → one ≡ other) (table : List A) (n : ℕ) → IsNumber (test one) table n → IsNumber (test other) table n → one ≡ other
same_number one other test alike table n first second =
    let a = numbered (test one) table n first in
    let b = numbered (test other) table n second in
    let place : a.0 ≡ b.0 = (let x = a.2 in let y = b.2 in omega (arith, x, y)) in
    let same : a.1 ≡ b.1 = same_Some a.1 b.1 (sym a.3 ∙ (ap (slice_get table) place ∙ b.3)) in
    alike a.1 a.4 (subst (λ y. test other y ≡ true) (sym same) b.4)

-- what stands at a place has the number after it
pub with_next : {A : Type 0} (table : List A) (place n : ℕ) → n ≡ place + 1 → with_number table n ≡ slice_get table place
with_next table place n is =
    let next : n ≡ suc place = omega (arith, is) in
    ap (with_number table) next

-- what is there with a number stands at the place before it
pub with_place : {A : Type 0} (table : List A) (n : ℕ) (x : A) → with_number table n ≡ Some x → (place : ℕ) × (place + 1 ≡ n) × (slice_get table place ≡ Some x)
with_place table zero x is = absurd (cc)
with_place table (suc place) x is = (place, omega arith, is)

-- what is the same as what the number stands for is what the table has there
pub number_with : {A B : Type 0} (test : B → A → Bool) (table : List A) (n : ℕ) (one : B) → IsNumber (test one) table n → (y : A) × (with_number table n ≡ Some y) × (test one y ≡ true)
number_with test table n one is =
    let there = numbered (test one) table n is in
    (there.1, with_next table there.0 n there.2 ∙ there.3, there.4)

-- ---- threads

pub all_zero : (n t : ℕ) → slice_index (replicate n 0) t ≡ 0
all_zero zero t = refl
all_zero (suc n) zero = refl
all_zero (suc n) (suc t) = all_zero n t

-- a thread without its dead registers can stand where it can
module _ (dead : DeadTable) where
  activity_stands : (done : ℕ) (a b : Activity) → IsLiveActivity dead a b → HasRoom done a → HasRoom done b
  activity_stands done Idle b is room = subst (HasRoom done) (sym is) tt
  activity_stands done (Open f) b (live, is, of) room = subst (HasRoom done) (sym is) room

  live_stands : (thread one : Thread) → IsLiveThread dead thread one → IsStanding thread → IsStanding one
  live_stands thread one of stands = activity_stands one.done thread.activity one.activity of.activity (subst (λ n. HasRoom n thread.activity) (sym of.done) stands)

  activity_in_code : (c : Component) (a b : Activity) → IsLiveActivity dead a b → IsInCode c a → IsInCode c b
  activity_in_code c Idle b is there = subst (IsInCode c) (sym is) tt
  activity_in_code c (Open f) b (live, is, of) there =
      subst (IsInCode c) (sym is) (subst (λ n. n < length c.operations) (sym of.op) there.0, subst (λ n. n ≤ 64) (sym of.place) there.1)

  live_in_code : (c : Component) (thread one : Thread) → IsLiveThread dead thread one → StandsIn c thread → StandsIn c one
  live_in_code c thread one of there = activity_in_code c thread.activity one.activity of.activity there

pub number_or_none_stays : (old new : List Thread) (o : Option Thread) (n : ℕ) → Extends old new → IsNumberOrNone old o n → IsNumberOrNone new o n
number_or_none_stays old new None n grown is = is
number_or_none_stays old new (Some thread) n grown is = number_stays (same_standing thread) old new n grown is

pub numbers_stay : (threads old new : List Thread) (numbers : List ℕ) → Extends old new → AreNumbers threads old numbers → AreNumbers threads new numbers
numbers_stay threads old new numbers grown are = record {
  eight = are.eight;
  each = λ t. number_or_none_stays old new (slice_get threads t) (slice_index numbers t) grown (are.each t);
}

module _ (dead : DeadTable) (s : State) where
  -- of the first threads
  pub record AreNumbersSoFar (old table : List Thread) (done : ℕ) (numbers : List ℕ) : Type 0 where
    pub live : List Thread
    pub many : length live ≡ done
    pub each : (t : ℕ) (thread one : Thread) → slice_get s.threads t ≡ Some thread → slice_get live t ≡ Some one → IsLiveThread dead thread one
    pub stand : All IsStanding live
    pub in_code : All (StandsIn s.component) live
    pub have : AreNumbers live table numbers
    pub grows : Extends old table

  pub so_far_first : (table : List Thread) (numbers : List ℕ) → length numbers ≡ 8 → ((t : ℕ) → slice_index numbers t ≡ 0) → AreNumbersSoFar table table 0 numbers
  so_far_first table numbers eight zeros = record {
    live = [];
    many = refl;
    each = λ t a b at there. absurd (cc);
    stand = All-nil IsStanding;
    in_code = All-nil (StandsIn s.component);
    have = record { eight = eight; each = λ t. zeros t };
    grows = extends_none table;
  }

  -- one more thread has a number
  have_more : (live table new : List Thread) (done n : ℕ) (numbers now : List ℕ) (one : Thread) → length live ≡ done → done < 8 → AreNumbers live table numbers → IsNumbered (same_standing one) table new n → now ≡ set numbers done n → AreNumbers (live ++ one ∷ []) new now
  have_more live table new done n numbers now one many few have is set_so =
      let eight = have.eight in
      record {
        eight = ap length set_so ∙ (length-set numbers done n ∙ eight);
        each = λ t. elim (cases_lt t done) as (λ _. IsNumberOrNone new (slice_get (live ++ one ∷ []) t) (slice_index now t)) [
          | inl less ↦
              (let there = some_at live t (omega (arith, less, many)) in
              let at : slice_get (live ++ one ∷ []) t ≡ slice_get live t = at_left live (one ∷ []) t there.0 there.1 ∙ sym there.1 in
              let same : slice_index now t ≡ slice_index numbers t = ap (λ xs. slice_index xs t) set_so ∙ get_or-set_other numbers done t n 0 (λ e. omega (arith, e, less)) in
              subst (λ o. IsNumberOrNone new o (slice_index now t)) (sym at) (subst (IsNumberOrNone new (slice_get live t)) (sym same) (number_or_none_stays table new (slice_get live t) (slice_index numbers t) is.grows (have.each t))))
          | inr ge ↦ elim (cases_lt done t) as (λ _. IsNumberOrNone new (slice_get (live ++ one ∷ []) t) (slice_index now t)) [
            | inl past ↦
                (let long = length_push live one in
                let none : slice_get (live ++ one ∷ []) t ≡ None = slice_get_past (live ++ one ∷ []) t (omega (arith, long, many, past)) in
                let before : slice_get live t ≡ None = slice_get_past live t (omega (arith, many, past)) in
                let same : slice_index now t ≡ slice_index numbers t = ap (λ xs. slice_index xs t) set_so ∙ get_or-set_other numbers done t n 0 (λ e. omega (arith, e, past)) in
                subst (λ o. IsNumberOrNone new o (slice_index now t)) (sym none) (same ∙ subst (λ o. IsNumberOrNone table o (slice_index numbers t)) before (have.each t)))
            | inr le ↦
                (let here : length live ≡ t = omega (arith, ge, le, many) in
                let place : done ≡ t = omega (arith, ge, le) in
                let first : slice_index now done ≡ n = ap (λ xs. slice_index xs done) set_so ∙ get_or-set_same numbers done n 0 (omega (arith, eight, few)) in
                subst (λ k. IsNumberOrNone new (slice_get (live ++ one ∷ []) t) (slice_index now k)) place
                (subst (λ k. IsNumberOrNone new (slice_get (live ++ one ∷ []) k) (slice_index now done)) here
                (subst (λ o. IsNumberOrNone new o (slice_index now done)) (sym (at_last live one))
                (subst (IsNumber (same_standing one) new) (sym first) is.number))))
          ]
        ];
      }

  pub so_far_more : (old table new : List Thread) (done n : ℕ) (numbers now : List ℕ) (thread one : Thread) → AreNumbersSoFar old table done numbers → done < 8 → slice_get s.threads done ≡ Some thread → IsStanding thread → StandsIn s.component thread → IsLiveThread dead thread one → IsNumbered (same_standing one) table new n → now ≡ set numbers done n → AreNumbersSoFar old new (done + 1) now
  so_far_more old table new done n numbers now thread one known few at stands in_code of is set_so =
      let live = known.live in
      let many = known.many in
      record {
        live = live ++ one ∷ [];
        many = (let long = length_push live one in omega (arith, long, many));
        each = λ t a b there here. elim (at_either live (one ∷ []) t b here) as (λ _. IsLiveThread dead a b) [
          | inl (less, is_there) ↦ known.each t a b there is_there
          | inr (k, place, last) ↦
              (let first = only_one one k b last in
              let it : done ≡ t = (let zero_is = first.0 in omega (arith, place, zero_is, many)) in
              let same : thread ≡ a = same_Some thread a (sym at ∙ (ap (slice_get s.threads) it ∙ there)) in
              subst (λ x. IsLiveThread dead x b) same (subst (IsLiveThread dead thread) first.1 of))
        ];
        stand = All-push IsStanding live one known.stand (live_stands dead thread one of stands);
        in_code = All-push (StandsIn s.component) live one known.in_code (live_in_code dead s.component thread one of in_code);
        have = have_more live table new done n numbers now one many few known.have is set_so;
        grows = extends_on old table new known.grows is.grows;
      }

  pub so_far_all : (old table : List Thread) (done : ℕ) (numbers : List ℕ) → AreNumbersSoFar old table done numbers → length s.threads ≡ done → NumbersThreads dead s old table numbers
  so_far_all old table done numbers known all = record {
    live = known.live;
    are = record { many = known.many ∙ sym all; each = known.each };
    stand = known.stand;
    in_code = known.in_code;
    have = known.have;
    grows = known.grows;
  }
