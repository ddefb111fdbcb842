-- A matrix without one of its calls is a matrix.
use Rattle.std.proofs.Common.{◌≡◌, ℕ, suc, ◌<◌, ◌≤◌, List, [], ◌∷◌, length, get_or, Option, refl, sym, ap, ◌∙◌, inl, inr, arith}
use Rattle.std.specs.Prelude.{All, remove, slice_set, take, drop}
use Rattle.std.specs.Option.{unwrap_or}
use Rattle.std.proofs.lemmas.Option.{slice_get_cases, slice_get-get_or}
use Rattle.std.proofs.lemmas.List.Edits.{length-remove}
use Rattle.std.proofs.lemmas.List.Elements.{All-set, All-append, All-take, All-drop, All-nil}
use Rattle.std.proofs.lemmas.List.Sums.{sum_by-set, sum_by-cons}
use Rattle.std.proofs.Math.ListN.{length-set}
use Rattle.lu_text.proofs.Written.{All-last}
use Rattle.lu_test.specs.declared.matrix.Call.{Call}
use Rattle.lu_test.specs.Matrix.{AreArguments, IsCallOf, IsMatrix, Matrix, alone, calls_of, thread_count, without}
use Rattle.lu_test.proofs.SomeComponent.{of_same}

-- there is a thread where there is a call
pub is_thread : (m : Matrix) (t k : ℕ) → k < length (calls_of m t) → t < thread_count m
is_thread m t k h = elim (slice_get_cases m.threads t).1 [
  | inl (calls, within, is, same) ↦ within
  | inr (past, none) ↦ absurd (let e : calls_of m t ≡ [] = ap (λ (o : Option (List Call)). unwrap_or o []) none in let l : length (calls_of m t) ≡ 0 = ap length e in omega arith)
]

calls_at : (m : Matrix) (t : ℕ) (d : List Call) → t < thread_count m → calls_of m t ≡ get_or m.threads t d
calls_at m t d h = ap (λ (o : Option (List Call)). unwrap_or o []) (slice_get-get_or m.threads t d h)

pub removed : (m : Matrix) (items : List (List Call)) (t k i j : ℕ) (read new : List Call) → items ≡ m.threads → i ≡ t → j ≡ k → read ≡ get_or items i read → new ≡ remove read j → k < length (calls_of m t) → slice_set items i new ≡ (without m t k).threads
removed m items t k i j read new same at number is e h =
    let there : calls_of m t ≡ read = calls_at m t read (is_thread m t k h) ∙ (rw (← at, ← same) (sym is)) in
    rw (e, same, at, number, there) refl

All-remove : {X : Type 0} (P : X → Type 0) (xs : List X) (k : ℕ) → All P xs → All P (remove xs k)
All-remove P xs k all = All-append P (take k xs) (drop (suc k) xs) (All-take P k xs all) (All-drop P (suc k) xs all)

-- each call's fact is one of each thread's
at_thread : (P : Call → Type 0) (m : Matrix) (t : ℕ) → t < thread_count m → All (λ calls. All P calls) m.threads → All P (calls_of m t)
at_thread P m t h all = rw (calls_at m t [] h) (all t [] h)

pub keeps_limits : (m : Matrix) (t k : ℕ) → IsMatrix m → k < length (calls_of m t) → IsMatrix (without m t k)
keeps_limits m t k h within =
    let threads = m.threads in
    let there = is_thread m t k within in
    let shorter = length-remove (calls_of m t) k within in
    let old : calls_of m t ≡ get_or threads t [] = calls_at m t [] there in
    let few : length (get_or threads t []) ≤ 8 = h.limits.each t [] there in
    let new = remove (calls_of m t) k in
    let same : length (slice_set threads t new) ≡ length threads = length-set threads t new in
    let count = sum_by-set length threads t new [] there in
    record {
      some = omega (arith, h.some, same);
      limits = record {
        few = omega (arith, h.limits.few, same);
        each = All-set (λ calls. length calls ≤ 8) threads t new (omega (arith, few, shorter, ap length old)) h.limits.each;
        calls = omega (arith, h.limits.calls, count, shorter, ap length old);
        arguments = All-set (λ calls. All (λ call. AreArguments call.args) calls) threads t new
            (All-remove (λ call. AreArguments call.args) (calls_of m t) k (at_thread (λ call. AreArguments call.args) m t there h.limits.arguments))
            h.limits.arguments;
      };
      before = h.before;
      of_some = of_same m (without m t k) (λ c of. (
        of.0,
        All-set (λ calls. All (IsCallOf c) calls) threads t new (All-remove (IsCallOf c) (calls_of m t) k (at_thread (IsCallOf c) m t there of.1)) of.1,
      )) h.of_some;
    }

-- the setup alone is a matrix
pub alone_limits : (m : Matrix) → IsMatrix m → IsMatrix (alone m.setup)
alone_limits m h = record {
  some = omega arith;
  limits = record {
    few = omega arith;
    each = All-last (λ calls. length calls ≤ 8) [] m.setup (All-nil (λ calls. length calls ≤ 8)) h.before.few;
    calls = (let count = sum_by-cons length m.setup [] in let few = h.before.few in omega (arith, count, few));
    arguments = All-last (λ calls. All (λ call. AreArguments call.args) calls) [] m.setup (All-nil (λ calls. All (λ call. AreArguments call.args) calls)) h.before.arguments;
  };
  before = record { few = omega arith; arguments = All-nil (λ call. AreArguments call.args) };
  of_some = of_same m (alone m.setup) (λ c of. (
    All-nil (IsCallOf c),
    All-last (λ calls. All (IsCallOf c) calls) [] m.setup (All-nil (λ calls. All (IsCallOf c) calls)) of.0,
  )) h.of_some;
}

-- the same of a setup and threads that are the matrix's
pub without_made : (m : Matrix) (t k : ℕ) (setup : List Call) (threads : List (List Call)) → setup ≡ m.setup → threads ≡ (without m t k).threads → let made : Matrix = record { setup = setup; threads = threads } in made ≡ without m t k
without_made m t k setup threads p q = rw (p, q) refl

pub alone_made : (m : Matrix) (setup : List Call) (threads : List (List Call)) → setup ≡ [] → threads ≡ m.setup ∷ [] → let made : Matrix = record { setup = setup; threads = threads } in made ≡ alone m.setup
alone_made m setup threads p q = rw (p, q) refl
