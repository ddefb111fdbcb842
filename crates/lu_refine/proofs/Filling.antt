-- The matrix that a choice fills, thread after thread.
use Rattle.std.proofs.Common.{◌≡◌, ℕ, zero, suc, ◌+◌, ◌<◌, ◌≤◌, List, [], ◌∷◌, ◌++◌, length, length-append, map, take, drop, replicate, get_or, refl, sym, ap, subst, ◌∙◌, arith, add-one, append_assoc, append-nil}
use Rattle.std.specs.Prelude.{All, sum_by}
use Rattle.std.proofs.Math.Seq.{drop-cons}
use Rattle.std.proofs.lemmas.List.{drop_all, length-map, length-replicate, length-take-le}
use Rattle.std.proofs.lemmas.List.Elements.{All-append, All-cons, All-nil, All-replicate}
use Rattle.std.proofs.lemmas.List.Sums.{sum_by-cons}
use Rattle.lu_component.specs.Component.{Component}
use Rattle.lu_test.specs.declared.matrix.Call.{Call}
use Rattle.lu_test.specs.Matrix.{AreArguments, AreThreads, IsCallOf, IsOf, Matrix}
use Rattle.lu_machine.specs.Starts.{AllEnd, CanRun}
use Rattle.lu_choices.specs.Choices.{AreBases}
use Rattle.lu_refine.specs.Choices.{AreEnough, IsChoiceIn, candidate_at}
use Rattle.lu_refine.specs.Roles.{AllCallsOf, AllHaveArguments, AreWithinLimits, bases, chosen_calls, rows_matrix, calls_per_thread}

abbrev pub AreBelow : ℕ → List ℕ → Type 0
AreBelow n choice = All (λ m. m < n) choice

-- ---- the positions

-- a position's thread has candidates
row_enough : (calls : ℕ) (thread : List Call) → length thread ≤ 8 → All AreEnough (replicate (calls_per_thread calls thread) (length thread))
row_enough calls [] few = All-nil AreEnough
row_enough calls (candidate ∷ others) few = All-replicate AreEnough calls (length (candidate ∷ others)) (omega arith, few)

bases_enough : (calls : ℕ) (candidates : List (List Call)) → All (λ thread. length thread ≤ 8) candidates → All AreEnough (bases calls candidates)
bases_enough calls [] all = All-nil AreEnough
bases_enough calls (thread ∷ threads) all =
    All-append AreEnough (replicate (calls_per_thread calls thread) (length thread)) (bases calls threads) (row_enough calls thread (all 0 [] (omega arith))) (bases_enough calls threads (λ k d h. all (suc k) d (omega arith)))

pub positions : (calls : ℕ) (candidates : List (List Call)) → AreWithinLimits calls candidates → AreBases (bases calls candidates)
positions calls candidates limits =
    let enough = bases_enough calls candidates limits.0.few_candidates in
    record {
      some = λ k d h. (enough k d h).0;
      small = λ k d h. (let here = (enough k d h).1 in omega (arith, here));
      few = limits.1.positions;
    }

-- the threads from i on
pub threads_from : (candidates : List (List Call)) (i : ℕ) (thread : List Call) → i < length candidates → thread ≡ get_or candidates i thread → drop i candidates ≡ thread ∷ drop (i + 1) candidates
threads_from candidates i thread h is =
    rw (add-one i) (drop-cons candidates i thread h ∙ ap (λ (t : List Call). t ∷ drop (suc i) candidates) (sym is))

-- the bases so far, with those of the threads after, are all
abbrev pub AreFound : ℕ → List (List Call) → ℕ → List ℕ → Type 0
AreFound calls candidates i found = found ++ bases calls (drop i candidates) ≡ bases calls candidates

pub found_none : (calls : ℕ) (candidates : List (List Call)) (found : List ℕ) → found ≡ [] → AreFound calls candidates 0 found
found_none calls candidates found none = ap (λ (xs : List ℕ). xs ++ bases calls candidates) none

pub found_more : (calls : ℕ) (candidates : List (List Call)) (i : ℕ) (thread : List Call) (found row new : List ℕ) → i < length candidates → thread ≡ get_or candidates i thread → row ≡ replicate (calls_per_thread calls thread) (length thread) → new ≡ found ++ row → AreFound calls candidates i found → AreFound calls candidates (i + 1) new
found_more calls candidates i thread found row new h is row_is pushed so_far =
    let next = threads_from candidates i thread h is in
    let behind = bases calls (drop (i + 1) candidates) in
    let here : row ++ behind ≡ bases calls (drop i candidates) = ap (λ (xs : List ℕ). xs ++ behind) row_is ∙ sym (ap (bases calls) next) in
    ap (λ (xs : List ℕ). xs ++ behind) pushed ∙ (append_assoc found row behind ∙ (ap (λ (xs : List ℕ). found ++ xs) here ∙ so_far))

pub found_all : (calls : ℕ) (candidates : List (List Call)) (i : ℕ) (found : List ℕ) → length candidates ≤ i → AreFound calls candidates i found → found ≡ bases calls candidates
found_all calls candidates i found h so_far =
    sym (append-nil found) ∙ (sym (ap (λ (xs : List (List Call)). found ++ bases calls xs) (drop_all i candidates h)) ∙ so_far)

-- ---- the rows

-- a thread's numbers, and those of the threads after it
pub parts : (n base : ℕ) (behind choice : List ℕ) → IsChoiceIn (replicate n base ++ behind) choice → (n ≤ length choice) × AreBelow base (take n choice) × IsChoiceIn behind (drop n choice)
parts zero base behind choice chosen = (omega arith, All-nil (λ m. m < base), chosen)
parts (suc n) base behind [] chosen = absurd chosen
parts (suc n) base behind (m ∷ choice) chosen =
    let rest = parts n base behind choice chosen.1 in
    (omega (arith, rest.0), All-cons (λ m. m < base) m (take n choice) chosen.0 rest.1, rest.2)

-- what holds of each candidate holds of the chosen ones
row_all : (P : Call → Type 0) (candidates : List Call) → All P candidates → (numbers : List ℕ) → AreBelow (length candidates) numbers → All P (map (candidate_at candidates) numbers)
row_all P candidates all [] below k d h = absurd (omega arith)
row_all P candidates all (n ∷ numbers) below zero d h = all n (record { op = 0; args = [] }) (below zero 0 (omega arith))
row_all P candidates all (n ∷ numbers) below (suc k) d h = row_all P candidates all numbers (λ i e w. below (suc i) e (omega arith)) k d (omega arith)

rows_all : (P : Call → Type 0) (calls : ℕ) (candidates : List (List Call)) → All (λ thread. All P thread) candidates → (choice : List ℕ) → IsChoiceIn (bases calls candidates) choice → All (λ row. All P row) (chosen_calls calls candidates choice)
rows_all P calls [] all choice chosen k d h = absurd (omega arith)
rows_all P calls (thread ∷ threads) all choice chosen zero d h =
    row_all P thread (all 0 [] (omega arith)) (take (calls_per_thread calls thread) choice) (parts (calls_per_thread calls thread) (length thread) (bases calls threads) choice chosen).1
rows_all P calls (thread ∷ threads) all choice chosen (suc k) d h =
    rows_all P calls threads (λ i e w. all (suc i) e (omega arith)) (drop (calls_per_thread calls thread) choice) (parts (calls_per_thread calls thread) (length thread) (bases calls threads) choice chosen).2 k d (omega arith)

length-chosen_calls : (calls : ℕ) (candidates : List (List Call)) (choice : List ℕ) → length (chosen_calls calls candidates choice) ≡ length candidates
length-chosen_calls calls [] choice = refl
length-chosen_calls calls (thread ∷ threads) choice = omega (arith, length-chosen_calls calls threads (drop (calls_per_thread calls thread) choice))

row_long : (candidates : List Call) (numbers : List ℕ) → length (map (candidate_at candidates) numbers) ≡ length numbers
row_long candidates numbers = length-map numbers (candidate_at candidates)

row_width : (calls : ℕ) (thread : List Call) (behind choice : List ℕ) → IsChoiceIn (replicate (calls_per_thread calls thread) (length thread) ++ behind) choice → length (map (candidate_at thread) (take (calls_per_thread calls thread) choice)) ≡ calls_per_thread calls thread
row_width calls thread behind choice chosen =
    row_long thread (take (calls_per_thread calls thread) choice) ∙ length-take-le (calls_per_thread calls thread) choice (parts (calls_per_thread calls thread) (length thread) behind choice chosen).0

width_few : (calls : ℕ) (thread : List Call) → calls_per_thread calls thread ≤ calls
width_few calls [] = omega arith
width_few calls (candidate ∷ others) = omega arith

count_rows : (calls : ℕ) (candidates : List (List Call)) (choice : List ℕ) → IsChoiceIn (bases calls candidates) choice → sum_by length (chosen_calls calls candidates choice) ≡ length (bases calls candidates)
count_rows calls [] choice chosen = refl
count_rows calls (thread ∷ threads) choice chosen =
    let w = calls_per_thread calls thread in
    let parted = parts w (length thread) (bases calls threads) choice chosen in
    let row = map (candidate_at thread) (take w choice) in
    let behind = chosen_calls calls threads (drop w choice) in
    let here : length row ≡ w = row_width calls thread (bases calls threads) choice chosen in
    let whole : length (replicate w (length thread) ++ bases calls threads) ≡ length (replicate w (length thread)) + length (bases calls threads) = length-append (replicate w (length thread)) (bases calls threads) in
    omega (arith, sum_by-cons length row behind, here, whole, length-replicate w (length thread), count_rows calls threads (drop w choice) parted.2)

rows_short : (calls : ℕ) (candidates : List (List Call)) (choice : List ℕ) → IsChoiceIn (bases calls candidates) choice → calls ≤ 8 → All (λ (row : List Call). length row ≤ 8) (chosen_calls calls candidates choice)
rows_short calls [] choice chosen few k d h = absurd (omega arith)
rows_short calls (thread ∷ threads) choice chosen few zero d h = omega (arith, row_width calls thread (bases calls threads) choice chosen, width_few calls thread, few)
rows_short calls (thread ∷ threads) choice chosen few (suc k) d h =
    rows_short calls threads (drop (calls_per_thread calls thread) choice) (parts (calls_per_thread calls thread) (length thread) (bases calls threads) choice chosen).2 few k d (omega arith)

pub rows_some : (calls : ℕ) (candidates : List (List Call)) (choice : List ℕ) → AreWithinLimits calls candidates → 1 ≤ length (chosen_calls calls candidates choice)
rows_some calls candidates choice limits = omega (arith, length-chosen_calls calls candidates choice, limits.0.some_threads)

pub rows_limits : (calls : ℕ) (candidates : List (List Call)) (choice : List ℕ) → AreWithinLimits calls candidates → AllHaveArguments candidates → IsChoiceIn (bases calls candidates) choice → AreThreads (chosen_calls calls candidates choice)
rows_limits calls candidates choice limits arguments chosen = record {
  few = omega (arith, length-chosen_calls calls candidates choice, limits.0.few_threads);
  each = rows_short calls candidates choice chosen limits.1.few_calls;
  calls = omega (arith, count_rows calls candidates choice chosen, limits.1.positions);
  arguments = rows_all (λ call. AreArguments call.args) calls candidates arguments choice chosen;
}

pub rows_of : (c : Component) (setup : List Call) (calls : ℕ) (candidates : List (List Call)) (choice : List ℕ) → All (IsCallOf c) setup → AllCallsOf c candidates → IsChoiceIn (bases calls candidates) choice → IsOf (rows_matrix setup calls candidates choice) c
rows_of c setup calls candidates choice before of chosen = (before, rows_all (λ call. IsCallOf c call) calls candidates of choice chosen)

-- and it can run where the setup does
pub rows_run : (c : Component) (setup : List Call) (calls : ℕ) (candidates : List (List Call)) (choice : List ℕ) → All (IsCallOf c) setup → AllEnd c setup → AllCallsOf c candidates → IsChoiceIn (bases calls candidates) choice → CanRun c (rows_matrix setup calls candidates choice)
rows_run c setup calls candidates choice before ends of chosen = record { of = rows_of c setup calls candidates choice before of chosen; settles = ends }

-- the same of a setup and rows that are these
pub rows_made : (setup now : List Call) (made all : List (List Call)) → now ≡ setup → made ≡ all → let matrix : Matrix = record { setup = now; threads = made } in matrix ≡ record { setup = setup; threads = all }
rows_made setup now made all p q = rw (p, q) refl

-- ---- thread after thread

-- the rows so far, with those that the rest of the choice fills, are all
pub record IsFilledTo (candidates : List (List Call)) (calls i : ℕ) (rest : List ℕ) (made all : List (List Call)) : Type 0 where
  pub chosen : IsChoiceIn (bases calls (drop i candidates)) rest
  pub rows_are : made ++ chosen_calls calls (drop i candidates) rest ≡ all

pub filled_none : (candidates : List (List Call)) (calls : ℕ) (choice : List ℕ) (made : List (List Call)) → IsChoiceIn (bases calls candidates) choice → made ≡ [] → IsFilledTo candidates calls 0 choice made (chosen_calls calls candidates choice)
filled_none candidates calls choice made chosen none = record {
  chosen = chosen;
  rows_are = ap (λ (xs : List (List Call)). xs ++ chosen_calls calls candidates choice) none;
}

-- the thread's numbers are there
pub next_parts : (candidates : List (List Call)) (calls i : ℕ) (thread : List Call) (rest : List ℕ) (made all : List (List Call)) → i < length candidates → thread ≡ get_or candidates i thread → IsFilledTo candidates calls i rest made all
    → (calls_per_thread calls thread ≤ length rest) × AreBelow (length thread) (take (calls_per_thread calls thread) rest) × IsChoiceIn (bases calls (drop (i + 1) candidates)) (drop (calls_per_thread calls thread) rest)
next_parts candidates calls i thread rest made all h is so_far =
    let next = threads_from candidates i thread h is in
    parts (calls_per_thread calls thread) (length thread) (bases calls (drop (i + 1) candidates)) rest (subst (λ (xs : List (List Call)). IsChoiceIn (bases calls xs) rest) next so_far.chosen)

pub filled_more : (candidates : List (List Call)) (calls i : ℕ) (thread : List Call) (rest numbers others : List ℕ) (row : List Call) (made new all : List (List Call)) → i < length candidates → thread ≡ get_or candidates i thread → IsFilledTo candidates calls i rest made all
    → numbers ≡ take (calls_per_thread calls thread) rest → others ≡ drop (calls_per_thread calls thread) rest → row ≡ map (candidate_at thread) numbers → new ≡ made ++ row ∷ [] → IsFilledTo candidates calls (i + 1) others new all
filled_more candidates calls i thread rest numbers others row made new all h is so_far front back chosen pushed =
    let next = threads_from candidates i thread h is in
    let parted = next_parts candidates calls i thread rest made all h is so_far in
    let behind = drop (i + 1) candidates in
    let here : row ≡ map (candidate_at thread) (take (calls_per_thread calls thread) rest) = chosen ∙ ap (map (candidate_at thread)) front in
    let whole : made ++ chosen_calls calls (thread ∷ behind) rest ≡ all = ap (λ (xs : List (List Call)). made ++ chosen_calls calls xs rest) (sym next) ∙ so_far.rows_are in
    record {
      chosen = subst (IsChoiceIn (bases calls behind)) (sym back) parted.2;
      rows_are = rw (pushed, back, here, append_assoc) whole;
    }

pub filled_whole : (candidates : List (List Call)) (calls i : ℕ) (rest : List ℕ) (made all : List (List Call)) → length candidates ≤ i → IsFilledTo candidates calls i rest made all → made ≡ all
filled_whole candidates calls i rest made all past so_far =
    let left : drop i candidates ≡ [] = drop_all i candidates past in
    let whole : made ++ chosen_calls calls [] rest ≡ all = ap (λ (xs : List (List Call)). made ++ chosen_calls calls xs rest) (sym left) ∙ so_far.rows_are in
    sym (append-nil made) ∙ whole
