-- Bytes and numbers: what is read is spelled so, and what is spelled so is read.
use Rattle.std.proofs.Common.{◌≡◌, ℕ, ◌^◌, ◌<◌, ◌≤◌, ◌⊎◌, Bool, true, false, cond, List, [], ◌∷◌, length, get_or, Some, None, refl, ap, arith, rules, inl, inr}
use Rattle.std.specs.Prelude.{◌==◌, ◌||◌, not, nat_lt, Option}
use Rattle.std.specs.Option.{unwrap_or}
use Rattle.std.specs.Str.{all_ascii_digits, bytes_eq}
use Rattle.std.specs.Fmt.{decimal}
use Rattle.std.proofs.lemmas.Bool.{eqb-true, eq-eqb, ne_eqb, cases_lt, and_parts, ltb-true}
use Rattle.std.proofs.lemmas.Str.Parse.{IsNumeralModel, numerals_by_fold}
use Rattle.std.proofs.lemmas.Fmt.{decimal-digits_value, digits_decimal, digits_value-decimal, decimal_digit, decimal_nonempty, first_decimal}
use Rattle.lu_text.specs.Numbers.{read_on, is_number, number_in, value_in, below}

pub some_if : {A : Type 0} (b : Bool) (x y : A) → cond b (Some x) None ≡ Some y → (b ≡ true) × (x ≡ y)
some_if true x y e = (refl, cc)
some_if false x y e = absurd cc

pub bytes_same : (xs ys : List ℕ) → bytes_eq xs ys ≡ true → xs ≡ ys
bytes_same [] [] e = refl
bytes_same [] (y ∷ ys) e = absurd cc
bytes_same (x ∷ xs) [] e = absurd cc
bytes_same (x ∷ xs) (y ∷ ys) e =
    let p = and_parts (x == y) (bytes_eq xs ys) e in
    let head = eqb-true x y p.0 in
    let tail = bytes_same xs ys p.1 in
    cc

pub bytes_self : (xs : List ℕ) → bytes_eq xs xs ≡ true
bytes_self [] = refl
bytes_self (x ∷ xs) = rw (eq-eqb x x refl, bytes_self xs) refl

-- ---- numbers

own : IsNumeralModel (λ ds. all_ascii_digits ds ≡ true) (read_on 0)
own = numerals_by_fold _ (search rules) read_on (search rules)

one_zero : (c : ℕ) (cs : List ℕ) → (not (c == 48) || (length cs == 0)) ≡ true → c ≡ 48 → length (c ∷ cs) ≡ 1
one_zero c [] t e = refl
one_zero c (d ∷ ds) t e = absurd (let f : (c == 48) ≡ true = eq-eqb c 48 e in let g = rw f at t in let z : length (d ∷ ds) ≡ 0 = eqb-true (length (d ∷ ds)) 0 g in omega arith)

pub number_takes : (word : List ℕ) (n : ℕ) → n < 2 ^ 64 → number_in word ≡ Some n → decimal n ≡ word
number_takes [] n h e = absurd cc
number_takes (c ∷ cs) n h e =
    let p = some_if (is_number (c ∷ cs)) (read_on 0 (c ∷ cs)) n e in
    let q = and_parts (all_ascii_digits (c ∷ cs)) (not (c == 48) || (length cs == 0)) p.0 in
    rw (← p.1) (decimal-digits_value own (c ∷ cs) q.0 (omega arith) (one_zero c cs q.1) (rw p.1 h))

is_number_from : (ds : List ℕ) → 0 < length ds → all_ascii_digits ds ≡ true → (get_or ds 0 0 ≡ 48 → length ds ≡ 1) → is_number ds ≡ true
is_number_from [] h d z = absurd (omega arith)
is_number_from (c ∷ []) h d z = rw d (zero_last (not (c == 48)))
  where
    zero_last : (b : Bool) → (b || true) ≡ true
    zero_last true = refl
    zero_last false = refl
is_number_from (c ∷ e ∷ cs) h d z = rw d (let f : (c == 48) ≡ false = ne_eqb c 48 (λ x. let y = z x in omega arith) in rw f refl)

pub number_again : (n : ℕ) → n < 2 ^ 64 → number_in (decimal n) ≡ Some n
number_again n h =
    let t : is_number (decimal n) ≡ true = is_number_from (decimal n) (decimal_nonempty n h) (digits_decimal own n h) (λ e. go (cases_lt 0 n) e) in
    rw (t, digits_value-decimal own n h) refl
  where
    go : (0 < n) ⊎ (n ≤ 0) → get_or (decimal n) 0 0 ≡ 48 → length (decimal n) ≡ 1
    go (inl some) e = absurd (omega (arith, first_decimal n some h))
    go (inr none) e = let z : n ≡ 0 = omega arith in rw z (ap length (decimal_digit 0 (omega arith)))

below_small : (limit : ℕ) (o : Option ℕ) → 0 < limit → unwrap_or (below limit o) 0 < limit
below_small limit None h = h
below_small limit (Some n) h = go (nat_lt n limit) refl
  where
    go : (b : Bool) → nat_lt n limit ≡ b → unwrap_or (cond b (Some n) None) 0 < limit
    go true e = ltb-true n limit e
    go false e = h

-- a number that is read is of 32 bits
pub value_small : (word : List ℕ) → unwrap_or (value_in word) 0 < 2 ^ 32
value_small word = below_small (2 ^ 32) (number_in word) (omega arith)
