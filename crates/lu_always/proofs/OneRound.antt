-- In one round the unrolled matrices are the cuts.
use Rattle.std.proofs.Common.{arith, ◌≡◌, ◌+◌, ◌≤◌, ℕ, zero, suc, List, [], ◌∷◌, ◌++◌, length, map, take, Some, refl, sym, ◌∙◌, ap, subst, length-append}
use Rattle.std.specs.List.{AllZip}
use Rattle.std.proofs.lemmas.List.{append-nil}
use Rattle.lu_test.specs.declared.matrix.Call.{Call}
use Rattle.lu_test.specs.Matrix.{Matrix, first_calls, row_of}
use Rattle.lu_client.specs.Rounds.Way.{InOrder}
use Rattle.lu_client.specs.Rounds.{AreRounds, IsUnrolledFrom, repeated}
use Rattle.lu_client.proofs.Unrolled.{cut_is_unrolled}
use Rattle.lu_always.specs.OneRound.{OneRoundIsCut}

-- a matrix is unrolled from itself
pub self_unrolled : (matrix : Matrix) → IsUnrolledFrom (InOrder (Some 1)) matrix matrix
self_unrolled matrix = record {
  setup = refl;
  many = refl;
  each = λ t. record { many = 1; allowed = omega arith; more = []; begins = refl };
}

-- calls with which the line begins are some of its first
record IsTaken (line calls : List Call) : Type 0 where
  few : length calls ≤ length line
  is : calls ≡ take (length calls) line

taken_first : (calls more : List Call) → take (length calls) (calls ++ more) ≡ calls
taken_first [] more = refl
taken_first (x ∷ calls) more = ap (λ (xs : List Call). x ∷ xs) (taken_first calls more)

taken : (line calls more : List Call) → line ≡ calls ++ more → IsTaken line calls
taken line calls more is = record {
  few = (let parts : length line ≡ length calls + length more = ap (λ (x : List Call). length x) is ∙ length-append calls more in omega (arith, parts));
  is = sym (ap (take (length calls)) is ∙ taken_first calls more);
}

no_calls : (calls more : List Call) → [] ≡ calls ++ more → calls ≡ []
no_calls [] more e = refl
no_calls (x ∷ calls) more e = absurd cc

round_taken : (line calls : List Call) → AreRounds (Some 1) line calls → IsTaken line calls
round_taken line calls are = by are.many are.allowed are.begins
  where
    by : (n : ℕ) → n ≤ 1 → repeated n line ≡ calls ++ are.more → IsTaken line calls
    by zero le e =
        let none = no_calls calls are.more e in
        subst (IsTaken line) (sym none) (record { few = omega arith; is = refl })
    by (suc zero) le e = taken line calls are.more (sym (append-nil line) ∙ e)
    by (suc (suc n)) le e = absurd (omega (arith, le))

abbrev Fit : List (List Call) → List ℕ → Type 0
Fit rows lengths = AllZip (λ (calls : List Call) n. n ≤ length calls) rows lengths

rows_cut : (rows smaller : List (List Call)) → length smaller ≡ length rows → ((t : ℕ) → IsTaken (row_of rows t) (row_of smaller t)) → Fit rows (map length smaller) × (smaller ≡ first_calls rows (map length smaller))
rows_cut [] [] many each = (tt, refl)
rows_cut [] (x ∷ smaller) many each = absurd (omega (arith, many))
rows_cut (row ∷ rows) [] many each = absurd (omega (arith, many))
rows_cut (row ∷ rows) (x ∷ smaller) many each =
    let rest = rows_cut rows smaller (omega (arith, many)) (λ t. each (suc t)) in
    let first = each 0 in (
      (first.few, rest.0),
      ap (λ (y : List Call). y ∷ smaller) first.is ∙ ap (λ (ys : List (List Call)). take (length x) row ∷ ys) rest.1,
    )

pub one_round_is_cut : OneRoundIsCut
one_round_is_cut matrix smaller = (
  (λ is.
      let rows = rows_cut matrix.threads smaller.threads is.many (λ t. round_taken (row_of matrix.threads t) (row_of smaller.threads t) (is.each t)) in (
        map length smaller.threads,
        rows.0,
        ap (λ (x : List Call). let y : Matrix = record { setup = x; threads = smaller.threads } in y) is.setup
            ∙ ap (λ (xs : List (List Call)). let y : Matrix = record { setup = matrix.setup; threads = xs } in y) rows.1,
      )),
  (λ is. subst (IsUnrolledFrom (InOrder (Some 1)) matrix) (sym is.2) (cut_is_unrolled (InOrder (Some 1)) matrix matrix is.0 (self_unrolled matrix) is.1)),
)
