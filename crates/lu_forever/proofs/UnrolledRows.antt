-- Unrolled lines and matrices.
use Rattle.std.proofs.Common.{◌≡◌, ◌++◌, ◌≤◌, ℕ, zero, suc, ◌+◌, ◌*◌, List, [], ◌∷◌, Option, Some, None, refl, sym, ◌∙◌, ap, subst, length, map, take, drop, arith, slice_get}
use Rattle.std.specs.Prelude.{All, sum_by}
use Rattle.std.proofs.lemmas.List.{append_assoc, append-nil, length-map, take-append-drop, take_all}
use Rattle.std.proofs.lemmas.List.Elements.{All-append, All-nil, All-cons, All-take}
use Rattle.std.proofs.lemmas.List.Sums.{sum_by-cons}
use Rattle.lu_component.specs.Component.{Component}
use Rattle.lu_test.specs.declared.matrix.Call.{Call}
use Rattle.lu_test.specs.Matrix.{AreArguments, AreThreads, IsCallOf, IsMatrix, IsOf, Matrix, row_of}
use Rattle.lu_machine.specs.Starts.{CanRun}
use Rattle.lu_client.specs.Rounds.{AreRounds, IsUnrolledFrom, repeated, times}
use Rattle.lu_answers.specs.declared.rounds.Rounds.{Rounds}
use Rattle.lu_answers.specs.declared.rounds.Rounds.TheVariants.{Any, One}
use Rattle.lu_answers.specs.Ways.{way_of}
use Rattle.lu_forever.specs.Unrolled.{AreWithin, count_at, first_of_rounds, rows_from, unrolled}

-- one round more, at the end
round_more : (n : ℕ) (line : List Call) → repeated n line ++ line ≡ repeated (suc n) line
round_more zero line = sym (append-nil line)
round_more (suc n) line = append_assoc line (repeated n line) line ∙ ap (λ (x : List Call). line ++ x) (round_more n line)

pub next_round : (n : ℕ) (line : List Call) → repeated n line ++ line ≡ repeated (n + 1) line
next_round n line = let more : suc n ≡ n + 1 = omega arith in round_more n line ∙ ap (λ (m : ℕ). repeated m line) more

-- the rows, one after another
pub rows_length : (counts : List ℕ) (lines : List (List Call)) (t : ℕ) → length (rows_from counts lines t) ≡ length lines
rows_length counts [] t = refl
rows_length counts (line ∷ lines) t = ap suc (rows_length counts lines (t + 1))

-- each row is made of rounds of its line
rounds_first : (line : List Call) (n : ℕ) → AreRounds None line (first_of_rounds line n)
rounds_first line n = record { many = n; allowed = tt; more = drop n (repeated n line); begins = sym (take-append-drop n (repeated n line)) }

no_rounds : (limit : Option ℕ) → AreRounds limit [] []
no_rounds None = record { many = 0; allowed = tt; more = []; begins = refl }
no_rounds (Some n) = record { many = 0; allowed = omega arith; more = []; begins = refl }

each_row : (counts : List ℕ) (lines : List (List Call)) (t k : ℕ) → AreRounds None (row_of lines k) (row_of (rows_from counts lines t) k)
each_row counts [] t k = no_rounds None
each_row counts (line ∷ lines) t zero = rounds_first line (count_at counts t)
each_row counts (line ∷ lines) t (suc k) = each_row counts lines (t + 1) k

-- no more than the line has are its first
take_first : (line rest : List Call) (n : ℕ) → n ≤ length line → take n (line ++ rest) ≡ take n line
take_first line rest zero few = refl
take_first [] rest (suc n) few = absurd (omega (arith, few))
take_first (call ∷ line) rest (suc n) few = ap (λ (x : List Call). call ∷ x) (take_first line rest n (omega (arith, few)))

first_once : (line : List Call) (n : ℕ) → n ≤ length line → first_of_rounds line n ≡ take n line
first_once line zero few = refl
first_once line (suc n) few = take_first line (repeated n line) (suc n) few

once_first : (line : List Call) (n : ℕ) → n ≤ length line → AreRounds (Some 1) line (first_of_rounds line n)
once_first line n few = record {
  many = 1;
  allowed = omega arith;
  more = drop n line;
  begins = append-nil line ∙ (sym (take-append-drop n line) ∙ ap (λ (x : List Call). x ++ drop n line) (sym (first_once line n few)));
}

each_row_once : (counts : List ℕ) (lines : List (List Call)) (t k : ℕ) → ((j : ℕ) → count_at counts (t + j) ≤ length (row_of lines j)) → AreRounds (Some 1) (row_of lines k) (row_of (rows_from counts lines t) k)
each_row_once counts [] t k few = no_rounds (Some 1)
each_row_once counts (line ∷ lines) t zero few = once_first line (count_at counts t) (subst (λ n. count_at counts n ≤ length line) (omega arith) (few 0))
each_row_once counts (line ∷ lines) t (suc k) few = each_row_once counts lines (t + 1) k (λ j. subst (λ n. count_at counts n ≤ length (row_of lines j)) (omega arith) (few (suc j)))

pub is_unrolled : (rounds : Rounds) (matrix : Matrix) (counts : List ℕ) → AreWithin rounds counts matrix → IsUnrolledFrom (way_of rounds) matrix (unrolled matrix counts)
is_unrolled Any matrix counts within = record {
  setup = refl;
  many = rows_length counts matrix.threads 0;
  each = λ t. each_row counts matrix.threads 0 t;
}
is_unrolled One matrix counts within = record {
  setup = refl;
  many = rows_length counts matrix.threads 0;
  each = λ t. each_row_once counts matrix.threads 0 t (λ j. subst (λ n. count_at counts n ≤ length (row_of matrix.threads j)) (omega arith) (within j));
}

-- what holds of each call of the lines holds of those of the rows
repeated_all : (P : Call → Type 0) (n : ℕ) (line : List Call) → All P line → All P (repeated n line)
repeated_all P zero line all = All-nil P
repeated_all P (suc n) line all = All-append P line (repeated n line) all (repeated_all P n line all)

pub rows_all : (P : Call → Type 0) (counts : List ℕ) (lines : List (List Call)) (t : ℕ) → All (λ line. All P line) lines → All (λ row. All P row) (rows_from counts lines t)
rows_all P counts [] t all = All-nil (λ row. All P row)
rows_all P counts (line ∷ lines) t all =
    All-cons (λ row. All P row) (first_of_rounds line (count_at counts t)) (rows_from counts lines (t + 1))
    (All-take P (count_at counts t) (repeated (count_at counts t) line) (repeated_all P (count_at counts t) line (all 0 [] (omega arith))))
    (rows_all P counts lines (t + 1) (λ k d h. all (suc k) d (omega arith)))

pub unrolled_of : (c : Component) (matrix : Matrix) (counts : List ℕ) → IsOf matrix c → IsOf (unrolled matrix counts) c
unrolled_of c matrix counts of = (of.0, rows_all (λ call. IsCallOf c call) counts matrix.threads 0 of.1)

pub unrolled_runs : (c : Component) (matrix : Matrix) (counts : List ℕ) → CanRun c matrix → CanRun c (unrolled matrix counts)
unrolled_runs c matrix counts can = record { of = unrolled_of c matrix counts can.of; settles = can.settles }

pub unrolled_limits : (matrix : Matrix) (counts : List ℕ) → IsMatrix matrix → All (λ (row : List Call). length row ≤ 8) (rows_from counts matrix.threads 0) → sum_by length (rows_from counts matrix.threads 0) ≤ 16 → AreThreads (rows_from counts matrix.threads 0)
unrolled_limits matrix counts sound short few = record {
  few = omega (arith, rows_length counts matrix.threads 0, sound.limits.few);
  each = short;
  calls = few;
  arguments = rows_all (λ call. AreArguments call.args) counts matrix.threads 0 sound.limits.arguments;
}

-- rows of at most 8 calls have at most 8 times as many
pub total_few : (rows : List (List Call)) → All (λ (row : List Call). length row ≤ 8) rows → sum_by length rows ≤ 8 * length rows
total_few [] all = omega arith
total_few (row ∷ rows) all =
    let here = all 0 [] (omega arith) in
    let rest = total_few rows (λ k d h. all (suc k) d (omega arith)) in
    omega (arith, sum_by-cons length row rows, here, rest)

-- the first rows and the next one, which is that of thread m
row_more : (counts : List ℕ) (lines : List (List Call)) (t k m : ℕ) (line : List Call) → slice_get lines k ≡ Some line → m ≡ t + k →
    take k (rows_from counts lines t) ++ first_of_rounds line (count_at counts m) ∷ [] ≡ take (suc k) (rows_from counts lines t)
row_more counts [] t k m line is at = absurd cc
row_more counts (first ∷ lines) t zero m line is at =
    let same : line ≡ first = cc in
    let here : m ≡ t = omega (arith, at) in
    ap (λ (x : List Call). first_of_rounds x (count_at counts m) ∷ []) same ∙ ap (λ (n : ℕ). first_of_rounds first (count_at counts n) ∷ []) here
row_more counts (first ∷ lines) t (suc k) m line is at =
    ap (λ (x : List (List Call)). first_of_rounds first (count_at counts t) ∷ x) (row_more counts lines (t + 1) k m line is (omega (arith, at)))

pub next_row : (counts : List ℕ) (lines : List (List Call)) (k : ℕ) (line : List Call) → slice_get lines k ≡ Some line →
    take k (rows_from counts lines 0) ++ first_of_rounds line (count_at counts k) ∷ [] ≡ take (k + 1) (rows_from counts lines 0)
next_row counts lines k line is =
    let more : suc k ≡ k + 1 = omega arith in
    row_more counts lines 0 k k line is (omega arith) ∙ ap (λ (n : ℕ). take n (rows_from counts lines 0)) more

pub all_rows : (counts : List ℕ) (lines : List (List Call)) (t k : ℕ) → length lines ≤ k → take k (rows_from counts lines t) ≡ rows_from counts lines t
all_rows counts lines t k h = take_all k (rows_from counts lines t) (omega (arith, rows_length counts lines t))

-- ---- the whole matrix a number of times

times_all : (P : Call → Type 0) (n : ℕ) (lines : List (List Call)) → All (λ line. All P line) lines → All (λ row. All P row) (map (repeated n) lines)
times_all P n [] all = All-nil (λ row. All P row)
times_all P n (line ∷ lines) all =
    All-cons (λ row. All P row) (repeated n line) (map (repeated n) lines)
    (repeated_all P n line (all 0 [] (omega arith)))
    (times_all P n lines (λ k d h. all (suc k) d (omega arith)))

pub times_runs : (c : Component) (matrix : Matrix) (n : ℕ) → CanRun c matrix → CanRun c (times n matrix)
times_runs c matrix n can = record {
  of = (can.of.0, times_all (λ call. IsCallOf c call) n matrix.threads can.of.1);
  settles = can.settles;
}

pub times_limits : (matrix : Matrix) (n : ℕ) → IsMatrix matrix → All (λ (row : List Call). length row ≤ 8) (map (repeated n) matrix.threads) → sum_by length (map (repeated n) matrix.threads) ≤ 16 → AreThreads (map (repeated n) matrix.threads)
times_limits matrix n sound short few = record {
  few = omega (arith, length-map matrix.threads (repeated n), sound.limits.few);
  each = short;
  calls = few;
  arguments = times_all (λ call. AreArguments call.args) n matrix.threads sound.limits.arguments;
}
