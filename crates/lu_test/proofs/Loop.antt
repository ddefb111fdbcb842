-- Reading moves one after the other, as a loop does.
use Rattle.std.proofs.Common.{◌≡◌, ℕ, ◌+◌, ◌≤◌, ◌<◌, List, [], ◌∷◌, ◌++◌, length, Result, Ok, Err, refl, sym, ap, ◌∙◌, append_assoc, true, false}
use Rattle.std.specs.Prelude.{nat_lt}
use Rattle.lu_test.specs.declared.schedule.Move.{Move}
use Rattle.lu_test.specs.declared.schedule_fault.ScheduleFault.{ScheduleFault}
use Rattle.lu_test.specs.declared.schedule_fault.ScheduleFault.TheVariants.{Form, Number, Limit, Memory}
use Rattle.std.proofs.lemmas.Bool.{lt-ltb, le-ltb}
use Rattle.std.proofs.lemmas.List.{append-nil, length-append}
use Rattle.lu_test.specs.ScheduleText.{◌>>=◌, IsScheduleUnlessMemory, move_of, moves_of}

-- what was read before, and what is still read
abbrev pub with_front : List Move → Result (List Move) ScheduleFault → Result (List Move) ScheduleFault
with_front front read = read >>= λ ms. Ok (front ++ ms)

regroup : (front : List Move) (m : Move) (read : Result (List Move) ScheduleFault) → with_front front (read >>= λ ms. Ok (m ∷ ms)) ≡ with_front (front ++ m ∷ []) read
regroup front m (Ok ms) = ap (λ (x : List Move). Ok x) (sym (append_assoc front (m ∷ []) ms))
regroup front m (Err f) = refl

pub goes_on : (front : List Move) (word : List ℕ) (rest : List (List ℕ)) (m : Move) (total : Result (List Move) ScheduleFault) → length front < 4112 → move_of word ≡ Ok m
    → with_front front (moves_of (length front) (word ∷ rest)) ≡ total → with_front (front ++ m ∷ []) (moves_of (length (front ++ m ∷ [])) rest) ≡ total
unfolding moves_of
goes_on front word rest m total few e so_far =
    let below : nat_lt (length front) 4112 ≡ true = lt-ltb (length front) 4112 few in
    let len : length (front ++ m ∷ []) ≡ length front + 1 = simp length-append in
    let one : with_front front (moves_of (length front) (word ∷ rest)) ≡ with_front front (moves_of (length front + 1) rest >>= λ ms. Ok (m ∷ ms)) = rw (e, below) refl in
    rw len (sym (regroup front m (moves_of (length front + 1) rest)) ∙ sym one ∙ so_far)

pub ends : (front : List Move) (word : List ℕ) (rest : List (List ℕ)) (f : ScheduleFault) (n : ℕ) (total : Result (List Move) ScheduleFault) → move_of word ≡ Err f
    → with_front front (moves_of n (word ∷ rest)) ≡ total → total ≡ Err f
unfolding moves_of
ends front word rest f n total e so_far =
    let one : with_front front (moves_of n (word ∷ rest)) ≡ Err f = rw e refl in
    sym so_far ∙ one

pub is_full : (front : List Move) (word : List ℕ) (rest : List (List ℕ)) (m : Move) (n : ℕ) (total : Result (List Move) ScheduleFault) → move_of word ≡ Ok m → 4112 ≤ n
    → with_front front (moves_of n (word ∷ rest)) ≡ total → total ≡ Err Limit
unfolding moves_of
is_full front word rest m n total e full so_far =
    let below : nat_lt n 4112 ≡ false = le-ltb n 4112 full in
    let one : with_front front (moves_of n (word ∷ rest)) ≡ Err Limit = rw (e, below) refl in
    sym so_far ∙ one

pub is_done : (front : List Move) (n : ℕ) (total : Result (List Move) ScheduleFault) → with_front front (moves_of n []) ≡ total → total ≡ Ok front
unfolding moves_of
is_done front n total so_far = sym so_far ∙ ap (λ (x : List Move). Ok x) (append-nil front)

-- a fault that isn't refused memory
pub told : (f : ScheduleFault) (total : Result (List Move) ScheduleFault) → total ≡ Err f → IsScheduleUnlessMemory f total
told Memory total e = tt
told Form total e = e
told Number total e = e
told Limit total e = e
