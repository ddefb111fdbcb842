-- Unrolled matrices: their cuts, and those with all rounds.
use Rattle.std.proofs.Common.{arith, ◌≡◌, ℕ, zero, suc, ◌*◌, ◌≤◌, List, [], ◌∷◌, ◌++◌, length, replicate, take, Option, Some, None, slice_get, refl, sym, ◌∙◌, ap, subst, append_assoc, drop}
use Rattle.std.specs.List.{AllZip}
use Rattle.std.proofs.lemmas.List.{append-nil, length-map, take-append-drop}
use Rattle.std.proofs.Math.Nat.{zero-mod}
use Rattle.lu_component.specs.Component.{Component}
use Rattle.lu_test.specs.declared.matrix.Call.{Call}
use Rattle.lu_test.specs.Matrix.{Matrix, calls_of, cut, first_calls, row_of, thread_count}
use Rattle.lu_machine.specs.declared.thread.Activity.TheVariants.{Idle}
use Rattle.lu_machine.specs.declared.thread.Thread.{Thread}
use Rattle.lu_machine.specs.States.{State}
use Rattle.lu_machine.specs.Starts.{IsStart, at_rest}
use Rattle.lu_machine.proofs.Starting.{other_start, starts_at_rest}
use Rattle.lu_serial.specs.Cuts.{AreLengths}
use Rattle.lu_client.specs.Rounds.{AreRounds, IsAllowed, IsUnrolledFrom, MayMake, Way, repeated, times}
use Rattle.lu_client.specs.Rounds.Way.{AnyOrder, InOrder}
use Rattle.lu_client.specs.Clients.{client_matrix, client_of, stand_in, turned}
use Rattle.lu_client.proofs.Turning.{repeated_length, repeated_row}

-- ---- cuts

rounds_taken : (rounds : Option ℕ) (line calls : List Call) (n : ℕ) → AreRounds rounds line calls → AreRounds rounds line (take n calls)
rounds_taken rounds line calls n are = record {
  many = are.many;
  allowed = are.allowed;
  more = drop n calls ++ are.more;
  begins = are.begins ∙ ap (λ x. x ++ are.more) (sym (take-append-drop n calls)) ∙ append_assoc (take n calls) (drop n calls) are.more;
}

taken_few : (n : ℕ) (calls : List Call) → length (take n calls) ≤ length calls
taken_few zero calls = omega arith
taken_few (suc n) [] = omega arith
taken_few (suc n) (x ∷ calls) = let rest = taken_few n calls in omega (arith, rest)

taken_at : (n : ℕ) (calls : List Call) (k : ℕ) (call : Call) → slice_get (take n calls) k ≡ Some call → slice_get calls k ≡ Some call
taken_at zero calls k call e = absurd cc
taken_at (suc n) [] k call e = e
taken_at (suc n) (x ∷ calls) zero call e = e
taken_at (suc n) (x ∷ calls) (suc k) call e = taken_at n calls k call e

pub fewer_allowed : (limit : Option ℕ) (n most : ℕ) → n ≤ most → IsAllowed limit most → IsAllowed limit n
fewer_allowed None n most h allowed = tt
fewer_allowed (Some limit) n most h allowed = omega (arith, h, allowed)

made_taken : (way : Way) (line calls : List Call) (n : ℕ) → MayMake way line calls → MayMake way line (take n calls)
made_taken (InOrder rounds) line calls n may = rounds_taken rounds line calls n may
made_taken (AnyOrder limit) line calls n may = record {
  allowed = fewer_allowed limit (length (take n calls)) (length calls) (taken_few n calls) may.allowed;
  each = λ k call e. may.each k call (taken_at n calls k call e);
}

row_taken : (rows : List (List Call)) (lengths : List ℕ) (t : ℕ) → (n : ℕ) × (row_of (first_calls rows lengths) t ≡ take n (row_of rows t))
row_taken [] lengths t = (0, refl)
row_taken (row ∷ rows) [] t = (0, refl)
row_taken (row ∷ rows) (n ∷ lengths) zero = (n, refl)
row_taken (row ∷ rows) (n ∷ lengths) (suc t) = row_taken rows lengths t

cut_many : (rows : List (List Call)) (lengths : List ℕ) → AllZip (λ (calls : List Call) n. n ≤ length calls) rows lengths → length (first_calls rows lengths) ≡ length rows
cut_many [] [] h = refl
cut_many [] (n ∷ lengths) h = absurd h
cut_many (row ∷ rows) [] h = absurd h
cut_many (row ∷ rows) (n ∷ lengths) h = let rest = cut_many rows lengths h.1 in omega (arith, rest)

pub cut_is_unrolled : (way : Way) (matrix big : Matrix) (lengths : List ℕ) → IsUnrolledFrom way matrix big → AreLengths big lengths → IsUnrolledFrom way matrix (cut big lengths)
cut_is_unrolled way matrix big lengths is are = record {
  setup = is.setup;
  many = cut_many big.threads lengths are ∙ is.many;
  each = λ t. (let taken = row_taken big.threads lengths t in subst (MayMake way (calls_of matrix t)) (sym taken.1) (made_taken way (calls_of matrix t) (calls_of big t) taken.0 (is.each t)));
}

-- ---- all rounds

pub times_count : (n : ℕ) (matrix : Matrix) (t : ℕ) → length (calls_of (times n matrix) t) ≡ n * length (calls_of matrix t)
times_count n matrix t = ap length (repeated_row n matrix.threads t) ∙ repeated_length n (calls_of matrix t)

-- how many rounds there are: the limit, or where there is none so many
abbrev pub rounds_or : Option ℕ → ℕ → ℕ
rounds_or None most = most
rounds_or (Some rounds) most = rounds

rounds_allowed : (rounds : Option ℕ) (most : ℕ) → IsAllowed rounds (rounds_or rounds most)
rounds_allowed None most = tt
rounds_allowed (Some rounds) most = omega arith

pub times_is_unrolled : (rounds : Option ℕ) (matrix : Matrix) (n : ℕ) → IsAllowed rounds n → IsUnrolledFrom (InOrder rounds) matrix (times n matrix)
times_is_unrolled rounds matrix n allowed = record {
  setup = refl;
  many = length-map matrix.threads (repeated n);
  each = λ t. record {
    many = n;
    allowed = allowed;
    more = [];
    begins = sym (append-nil (calls_of (times n matrix) t) ∙ repeated_row n matrix.threads t);
  };
}

pub times_unrolled : (rounds : Option ℕ) (most : ℕ) (matrix : Matrix) → IsUnrolledFrom (InOrder rounds) matrix (times (rounds_or rounds most) matrix)
times_unrolled rounds most matrix = times_is_unrolled rounds matrix (rounds_or rounds most) (rounds_allowed rounds most)

-- ---- the start

abbrev idle : Thread
idle = record { done = 0; activity = Idle }

pub turn_zero : (way : Way) (many : ℕ) → turned way many 0 ≡ 0
turn_zero (InOrder None) many = zero-mod many
turn_zero (InOrder (Some rounds)) many = refl
turn_zero (AnyOrder None) many = refl
turn_zero (AnyOrder (Some limit)) many = refl

stand_idle : (way : Way) (rows : List (List Call)) (n : ℕ) → stand_in way rows (replicate n idle) ≡ replicate n idle
stand_idle way rows zero = refl
stand_idle way [] (suc n) =
    ap (λ (k : ℕ). let x : Thread = record { done = k; activity = Idle } in x ∷ stand_in way [] (replicate n idle)) (turn_zero way 0)
    ∙ ap (λ x. idle ∷ x) (stand_idle way [] n)
stand_idle way (line ∷ rows) (suc n) =
    ap (λ (k : ℕ). let x : Thread = record { done = k; activity = Idle } in x ∷ stand_in way rows (replicate n idle)) (turn_zero way (length line))
    ∙ ap (λ x. idle ∷ x) (stand_idle way rows n)

pub client_setup : (way : Way) (matrix : Matrix) → (client_matrix way matrix).setup ≡ matrix.setup
client_setup (InOrder None) matrix = refl
client_setup (InOrder (Some rounds)) matrix = refl
client_setup (AnyOrder limit) matrix = refl

client_many : (way : Way) (matrix : Matrix) → thread_count (client_matrix way matrix) ≡ thread_count matrix
client_many (InOrder None) matrix = refl
client_many (InOrder (Some rounds)) matrix = length-map matrix.threads (repeated rounds)
client_many (AnyOrder limit) matrix = refl

pub client_at_rest : (c : Component) (way : Way) (matrix big : Matrix) (cells : List ℕ) (locks : List (Option ℕ)) → IsUnrolledFrom way matrix big → client_of way matrix (at_rest c big cells locks) ≡ at_rest c (client_matrix way matrix) cells locks
client_at_rest c way matrix big cells locks is =
    let whole : State = at_rest c (client_matrix way matrix) cells locks in
    ap (λ (x : List Thread). let y : State = record whole { threads = x } in y)
    (stand_idle way (client_matrix way matrix).threads (thread_count big) ∙ ap (λ (n : ℕ). replicate n idle) (is.many ∙ sym (client_many way matrix)))

pub client_starts : (c : Component) (way : Way) (matrix big : Matrix) (s : State) → IsUnrolledFrom way matrix big → IsStart c big s → IsStart c (client_matrix way matrix) (client_of way matrix s)
client_starts c way matrix big s is start =
    subst (IsStart c (client_matrix way matrix))
    (sym (ap (client_of way matrix) (starts_at_rest c big s start) ∙ client_at_rest c way matrix big s.cells s.locks is))
    (other_start c big (client_matrix way matrix) s start (client_setup way matrix ∙ sym is.setup))
