-- Moves: what is read is spelled so, and what is spelled so is read.
use Rattle.std.proofs.Common.{◌≡◌, ℕ, ◌+◌, ◌<◌, ◌≤◌, ◌⊎◌, Bool, true, false, cond, List, [], ◌∷◌, ◌++◌, length, get_or, take, drop, Option, Some, None, Result, Ok, Err, refl, sym, ap, subst, ◌∙◌, arith, inl, inr}
use Rattle.std.specs.Prelude.{nat_le, nat_lt, ◌==◌, ◌&&◌, not}
use Rattle.std.specs.List.{position, position_or_len, AllByRecursion}
use Rattle.std.specs.Str.{bytes_eq}
use Rattle.std.specs.Fmt.{decimal}
use Rattle.std.proofs.lemmas.Bool.{eqb-true, eq-eqb, ne_eqb, ltb-true, leb-true, le-leb, cases_lt}
use Rattle.std.proofs.lemmas.List.{append-nil, drop_more, take-append-drop}
use Rattle.std.proofs.lemmas.List.Sums.{prefix_len_stops}
use Rattle.std.proofs.lemmas.Fmt.{decimal_digit}
use Rattle.lu_test.specs.declared.schedule.Move.{Move}
use Rattle.lu_test.specs.declared.schedule_fault.ScheduleFault.{ScheduleFault}
use Rattle.lu_test.specs.declared.schedule_fault.ScheduleFault.TheVariants.{Number, Limit}
use Rattle.lu_text.specs.Numbers.{number_in}
use Rattle.lu_text.proofs.NumberText.{some_if, number_takes, number_again}
use Rattle.lu_test.specs.Schedule.{IsMove}
use Rattle.lu_test.specs.ScheduleText.{move_text, move_with, move_cut, move_of}

-- ---- tests that held

both : (a b : Bool) → (a && b) ≡ true → (a ≡ true) × (b ≡ true)
both true b e = (refl, e)
both false b e = absurd cc

ok_if : {A : Type 0} (b : Bool) (f : ScheduleFault) (x y : A) → cond b (Ok x) (Err f) ≡ Ok y → (b ≡ true) × (x ≡ y)
ok_if true f x y e = (refl, cc)
ok_if false f x y e = absurd cc

pub ok_unless : {A : Type 0} (b : Bool) (f : ScheduleFault) (r : Result A ScheduleFault) (y : A) → cond b (Err f) r ≡ Ok y → (b ≡ false) × (r ≡ Ok y)
ok_unless true f r y e = absurd cc
ok_unless false f r y e = (refl, e)

not_false : (b : Bool) → not b ≡ false → b ≡ true
not_false true e = refl
not_false false e = absurd cc

-- ---- moves

pub record IsAt (p : ℕ → Bool) (xs : List ℕ) (k : ℕ) : Type 0 where
  pub cut : take k xs ++ (get_or xs k 0 ∷ drop (k + 1) xs) ≡ xs
  pub passes : p (get_or xs k 0) ≡ true

pub is_at : (p : ℕ → Bool) (xs : List ℕ) (k : ℕ) → position p xs ≡ Some k → IsAt p xs k
is_at p xs k e =
    let h = some_if (nat_lt (position_or_len p xs) (length xs)) (position_or_len p xs) k e in
    let lt : position_or_len p xs < length xs = ltb-true _ _ h.0 in
    let below : k < length xs = rw (← h.1) lt in
    record {
      cut = (let step : drop k xs ≡ get_or xs k 0 ∷ drop (k + 1) xs = drop_more xs k 0 below in rw (← step) (take-append-drop k xs));
      passes = not_false (p (get_or xs k 0)) (rw (← h.1) (prefix_len_stops (λ x. not (p x)) xs 0 lt));
    }

record WithOk (t p : Option ℕ) (m : Move) : Type 0 where
  thread : t ≡ Some m.thread
  pick : p ≡ Some m.pick
  small : IsMove m

with_ok : (t p : Option ℕ) (m : Move) → move_with t p ≡ Ok m → WithOk t p m
with_ok None p m e = absurd cc
with_ok (Some t) None m e = absurd cc
with_ok (Some t) (Some p) m e =
    let h = ok_if (nat_le t 7 && nat_le p 7) Limit (record { thread = t; pick = p }) m e in
    let q = both (nat_le t 7) (nat_le p 7) h.0 in
    let a : t ≤ 7 = leb-true t 7 q.0 in
    let b : p ≤ 7 = leb-true p 7 q.1 in
    subst (λ (x : Move). WithOk (Some t) (Some p) x) h.1 (record { thread = refl; pick = refl; small = (a, b) })

with_again : (m : Move) → IsMove m → move_with (Some m.thread) (Some m.pick) ≡ Ok m
with_again m h = rw (le-leb m.thread 7 h.0, le-leb m.pick 7 h.1) refl

some_is : (a b : ℕ) → Some a ≡ Some b → a ≡ b
some_is a b e = cc

pub move_takes : (word : List ℕ) (m : Move) → move_of word ≡ Ok m → (move_text m ≡ word) × IsMove m
unfolding move_of
move_takes word m e = go (position (λ b. b == 58) word) refl e
  where
    go : (p : Option ℕ) → position (λ b. b == 58) word ≡ p → move_cut word p ≡ Ok m → (move_text m ≡ word) × IsMove m
    go None at e =
        let w = with_ok (number_in word) (Some 0) m e in
        let zero_pick : 0 ≡ m.pick = some_is 0 m.pick w.pick in
        let text : decimal m.thread ≡ word = number_takes word m.thread (omega (arith, w.small.0)) w.thread in
        let t : (m.pick == 0) ≡ true = eq-eqb m.pick 0 (sym zero_pick) in
        (rw (t, text) (append-nil word), w.small)
    go (Some k) at e =
        let u = ok_unless (bytes_eq (drop (k + 1) word) (48 ∷ [])) Number (move_with (number_in (take k word)) (number_in (drop (k + 1) word))) m e in
        let w = with_ok (number_in (take k word)) (number_in (drop (k + 1) word)) m u.1 in
        let thread : decimal m.thread ≡ take k word = number_takes (take k word) m.thread (omega (arith, w.small.0)) w.thread in
        let pick : decimal m.pick ≡ drop (k + 1) word = number_takes (drop (k + 1) word) m.pick (omega (arith, w.small.1)) w.pick in
        let place = is_at (λ b. b == 58) word k at in
        let colon : get_or word k 0 ≡ 58 = eqb-true (get_or word k 0) 58 place.passes in
        let some : (m.pick == 0) ≡ false = ne_eqb m.pick 0 (λ z. let d : drop (k + 1) word ≡ 48 ∷ [] = sym pick ∙ (ap decimal z ∙ decimal_digit 0 (omega arith)) in let f : bytes_eq (drop (k + 1) word) (48 ∷ []) ≡ true = rw d refl in absurd cc) in
        (rw (some, thread, pick, ← colon) place.cut, w.small)

digit : (n : ℕ) → n ≤ 7 → decimal n ≡ (48 + n) ∷ []
digit n h = decimal_digit n (omega arith)

no_colon : (n : ℕ) → n ≤ 7 → (48 + n == 58) ≡ false
no_colon n h = ne_eqb (48 + n) 58 (λ e. omega arith)

-- the bytes of a move: digits, and a colon
pub text_of : (m : Move) → IsMove m → (move_text m ≡ (48 + m.thread) ∷ []) ⊎ (move_text m ≡ (48 + m.thread) ∷ 58 ∷ (48 + m.pick) ∷ [])
text_of m h = go (cases_lt 0 m.pick)
  where
    go : (0 < m.pick) ⊎ (m.pick ≤ 0) → (move_text m ≡ (48 + m.thread) ∷ []) ⊎ (move_text m ≡ (48 + m.thread) ∷ 58 ∷ (48 + m.pick) ∷ [])
    go (inr none) = inl (let z : m.pick ≡ 0 = omega arith in rw (z, digit m.thread h.0) refl)
    go (inl some) = inr (let t : (m.pick == 0) ≡ false = ne_eqb m.pick 0 (λ e. omega arith) in rw (t, digit m.thread h.0, digit m.pick h.1) refl)

-- no byte below the digits is among them
pub lacks : (c : ℕ) (m : Move) → c < 48 → IsMove m → AllByRecursion (λ b. (b == c) ≡ false) (move_text m)
lacks c m lt h =
    let a : (48 + m.thread == c) ≡ false = ne_eqb (48 + m.thread) c (λ e. omega arith) in
    let b : (58 == c) ≡ false = ne_eqb 58 c (λ e. omega arith) in
    let d : (48 + m.pick == c) ≡ false = ne_eqb (48 + m.pick) c (λ e. omega arith) in
    elim (text_of m h) [
      | inl e ↦ subst (AllByRecursion (λ b. (b == c) ≡ false)) (sym e) (a, tt)
      | inr e ↦ subst (AllByRecursion (λ b. (b == c) ≡ false)) (sym e) (a, (b, (d, tt)))
    ]

pub some_byte : (m : Move) → IsMove m → not (length (move_text m) == 0) ≡ true
some_byte m h = elim (text_of m h) [ inl e ↦ rw e refl | inr e ↦ rw e refl ]

pub move_again : (m : Move) → IsMove m → move_of (move_text m) ≡ Ok m
unfolding move_of
move_again m h = go (cases_lt 0 m.pick)
  where
    go : (0 < m.pick) ⊎ (m.pick ≤ 0) → move_cut (move_text m) (position (λ b. b == 58) (move_text m)) ≡ Ok m
    go (inr none) =
        let z : m.pick ≡ 0 = omega arith in
        let text : move_text m ≡ (48 + m.thread) ∷ [] = rw (z, digit m.thread h.0) refl in
        let n : number_in ((48 + m.thread) ∷ []) ≡ Some m.thread = subst (λ (w : List ℕ). number_in w ≡ Some m.thread) (digit m.thread h.0) (number_again m.thread (omega (arith, h.0))) in
        rw (text, no_colon m.thread h.0, n) (subst (λ (p : ℕ). move_with (Some m.thread) (Some p) ≡ Ok m) z (with_again m h))
    go (inl some) =
        let t : (m.pick == 0) ≡ false = ne_eqb m.pick 0 (λ e. omega arith) in
        let text : move_text m ≡ (48 + m.thread) ∷ 58 ∷ (48 + m.pick) ∷ [] = rw (t, digit m.thread h.0, digit m.pick h.1) refl in
        let n : number_in ((48 + m.thread) ∷ []) ≡ Some m.thread = subst (λ (w : List ℕ). number_in w ≡ Some m.thread) (digit m.thread h.0) (number_again m.thread (omega (arith, h.0))) in
        let k : number_in ((48 + m.pick) ∷ []) ≡ Some m.pick = subst (λ (w : List ℕ). number_in w ≡ Some m.pick) (digit m.pick h.1) (number_again m.pick (omega (arith, h.1))) in
        let z : (48 + m.pick == 48) ≡ false = ne_eqb (48 + m.pick) 48 (λ e. omega arith) in
        rw (text, no_colon m.thread h.0, n, k, z) (with_again m h)
