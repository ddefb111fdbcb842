-- The numbers of where a machine stands, read again.
use Rattle.std.proofs.Common.{arith, ◌≡◌, ℕ, suc, ◌+◌, ◌-◌, ◌*◌, ◌/◌, ◌%◌, ◌<◌, ◌≤◌, ◌==◌, if◌then◌else◌, false, List, [], ◌∷◌, ◌++◌, length, map, take, drop, Option, Some, slice_get, refl, sym, ◌∙◌, ap, subst}
use Rattle.std.specs.Prelude.{All, OnOk, Result, Ok, Err}
use Rattle.std.proofs.lemmas.Bool.{ne_eqb}
use Rattle.std.proofs.lemmas.Nat.{div-mul-add, mod-mul-add}
use Rattle.std.specs.List.{flat_map}
use Rattle.std.proofs.lemmas.List.{drop-drop, drop_at, flat_map_more, length-map, take_all, take_at, take_more}
use Rattle.std.proofs.lemmas.List.Elements.{All-append, All-cons, All-head, All-nil, All-tail}
use Rattle.std.proofs.lemmas.Option.{get_or_from_slice_get, slice_get_within}
use Rattle.lu_test.specs.Matrix.{thread_count}
use Rattle.lu_machine.specs.declared.position.Position.{Position}
use Rattle.lu_machine.specs.declared.thread.Activity.{Activity}
use Rattle.lu_machine.specs.declared.thread.Activity.TheVariants.{Idle, Open}
use Rattle.lu_machine.specs.declared.thread.Frame.{Frame}
use Rattle.lu_machine.specs.declared.thread.Thread.{Thread}
use Rattle.lu_machine.specs.Positions.{CanStand, CanStandAt, at_position, standing_so}
use Rattle.lu_machine.specs.States.{State}
use Rattle.lu_conform.specs.Packing.{AreReadBack, CanStandWith, IsActivityReadBack, IsOwnerReadBack, IsThreadReadBack, activity_in, activity_number, owner_in, owner_number, registers_in, registers_of, thread_in, numbers_at, owners_in, standing_in, standing_with, thread_numbers, threads_in, values_in}

-- ---- owners

owners_same : (owners : List (Option ℕ)) → All IsOwnerReadBack owners → map owner_in (map owner_number owners) ≡ owners
owners_same [] all = refl
owners_same (o ∷ owners) all =
    ap (λ x. x ∷ map owner_in (map owner_number owners)) (All-head IsOwnerReadBack o owners all)
    ∙ ap (λ xs. o ∷ xs) (owners_same owners (All-tail IsOwnerReadBack o owners all))

pub owners_back : (owners : List (Option ℕ)) (rest : List ℕ) (n : ℕ) → length owners ≡ n → All IsOwnerReadBack owners → map owner_in (take n (map owner_number owners ++ rest)) ≡ owners
owners_back owners rest n many all =
    ap (map owner_in) (take_at (map owner_number owners) rest n (length-map owners owner_number ∙ many)) ∙ owners_same owners all

pub after_owners : (owners : List (Option ℕ)) (rest : List ℕ) (n : ℕ) → length owners ≡ n → drop n (map owner_number owners ++ rest) ≡ rest
after_owners owners rest n many = drop_at (map owner_number owners) rest n (length-map owners owner_number ∙ many)

-- ---- threads

small : (n : ℕ) → n < 256 → n % 256 ≡ n
small n lt =
    let same : n ≡ 0 * 256 + n = omega arith in
    ap (λ x. x % 256) same ∙ mod-mul-add 0 256 n lt

pub open_back : (f : Frame) → f.op < 256 → f.place < 256 → IsActivityReadBack (Open f)
open_back f op place =
    let n = f.op * 256 + f.place + 1 in
    let make : ℕ → ℕ → Activity = λ o p. Open (record { registers = f.registers; op = o; place = p }) in
    let some : (n == 0) ≡ false = ne_eqb n 0 (λ e. absurd (omega (arith, e))) in
    let less : n - 1 ≡ f.op * 256 + f.place = omega arith in
    let op_is : (n - 1) / 256 % 256 ≡ f.op = ap (λ x. x / 256 % 256) less ∙ (ap (λ x. x % 256) (div-mul-add f.op 256 f.place place) ∙ small f.op op) in
    let place_is : (n - 1) % 256 ≡ f.place = ap (λ x. x % 256) less ∙ mod-mul-add f.op 256 f.place place in
    ap (λ b. if b then Idle else make ((n - 1) / 256 % 256) ((n - 1) % 256)) some
    ∙ (ap (λ o. make o ((n - 1) % 256)) op_is ∙ ap (make f.op) place_is)

-- eight registers, and what comes after them
eight : (done n : ℕ) (r rest : List ℕ) → length r ≡ 8 → (registers_in (done ∷ n ∷ (r ++ rest)) ≡ r) × (drop 10 (done ∷ n ∷ (r ++ rest)) ≡ rest)
eight done n (a ∷ b ∷ c ∷ d ∷ e ∷ f ∷ g ∷ h ∷ []) rest is = (refl, refl)
eight done n [] rest is = absurd (omega (arith, is))
eight done n (a ∷ []) rest is = absurd (omega (arith, is))
eight done n (a ∷ b ∷ []) rest is = absurd (omega (arith, is))
eight done n (a ∷ b ∷ c ∷ []) rest is = absurd (omega (arith, is))
eight done n (a ∷ b ∷ c ∷ d ∷ []) rest is = absurd (omega (arith, is))
eight done n (a ∷ b ∷ c ∷ d ∷ e ∷ []) rest is = absurd (omega (arith, is))
eight done n (a ∷ b ∷ c ∷ d ∷ e ∷ f ∷ []) rest is = absurd (omega (arith, is))
eight done n (a ∷ b ∷ c ∷ d ∷ e ∷ f ∷ g ∷ []) rest is = absurd (omega (arith, is))
eight done n (a ∷ b ∷ c ∷ d ∷ e ∷ f ∷ g ∷ h ∷ i ∷ r) rest is = absurd (omega (arith, is))

pub thread_back : (t : Thread) → t.done < 256 → length (registers_of t.activity) ≡ 8 → IsActivityReadBack t.activity → IsThreadReadBack t
thread_back t done size same rest =
    let make : ℕ → Activity → Thread = λ d a. record { done = d; activity = a } in
    let n = activity_number t.activity in
    let e = eight t.done n (registers_of t.activity) rest size in (
      ap (λ r. make (t.done % 256) (activity_in n r)) e.0 ∙ (ap (make (t.done % 256)) same ∙ ap (λ d. make d t.activity) (small t.done done)),
      e.1,
    )

pub on_ok : {A E : Type 0} (r : Result A E) (P : Type 0) → P → OnOk r P
on_ok (Ok x) P p = p
on_ok (Err e) P p = tt

taken : (threads : List Thread) (n : ℕ) (t : Thread) → slice_get threads n ≡ Some t → take (n + 1) threads ≡ take n threads ++ t ∷ []
taken threads n t at =
    take_more threads n t (slice_get_within threads n t at) ∙ ap (λ x. take n threads ++ x ∷ []) (get_or_from_slice_get threads n t t at)

pub one_more : (base items new : List ℕ) (threads : List Thread) (n : ℕ) (t : Thread) → slice_get threads n ≡ Some t → items ≡ base ++ flat_map thread_numbers (take n threads) → new ≡ items ++ thread_numbers t
    → new ≡ base ++ flat_map thread_numbers (take (n + 1) threads)
one_more base items new threads n t at so more =
    more
    ∙ (ap (λ x. x ++ thread_numbers t) so
    ∙ (flat_map_more thread_numbers base (take n threads) t ∙ ap (λ x. base ++ flat_map thread_numbers x) (sym (taken threads n t at))))

pub all_more : (threads : List Thread) (n : ℕ) (t : Thread) → slice_get threads n ≡ Some t → All IsThreadReadBack (take n threads) → IsThreadReadBack t → All IsThreadReadBack (take (n + 1) threads)
all_more threads n t at all one =
    subst (All IsThreadReadBack) (sym (taken threads n t at)) (All-append IsThreadReadBack (take n threads) (t ∷ []) all (All-cons IsThreadReadBack t [] one (All-nil IsThreadReadBack)))

pub all_there : (threads : List Thread) (n : ℕ) → length threads ≤ n → All IsThreadReadBack (take n threads) → All IsThreadReadBack threads
all_there threads n le all = subst (All IsThreadReadBack) (take_all n threads le) all

joined : {A : Type 0} (xs ys zs : List A) → (xs ++ ys) ++ zs ≡ xs ++ (ys ++ zs)
joined [] ys zs = refl
joined (x ∷ xs) ys zs = ap (λ w. x ∷ w) (joined xs ys zs)

-- one more is read
pub one_read : (n k : ℕ) (before more : List Thread) (rest : List ℕ) (whole : List Thread) → k < n → before ++ threads_in (n - k) rest ≡ whole → more ≡ before ++ thread_in rest ∷ []
    → more ++ threads_in (n - (k + 1)) (drop 10 rest) ≡ whole
one_read n k before more rest whole lt so one =
    let left : n - k ≡ suc (n - (k + 1)) = omega arith in
    ap (λ x. x ++ threads_in (n - (k + 1)) (drop 10 rest)) one
    ∙ (joined before (thread_in rest ∷ []) (threads_in (n - (k + 1)) (drop 10 rest)) ∙ (ap (λ m. before ++ threads_in m rest) (sym left) ∙ so))

pub threads_back : (threads : List Thread) (rest : List ℕ) → All IsThreadReadBack threads → threads_in (length threads) (flat_map thread_numbers threads ++ rest) ≡ threads
threads_back [] rest all = refl
threads_back (t ∷ threads) rest all =
    let more = flat_map thread_numbers threads ++ rest in
    let back = All-head IsThreadReadBack t threads all more in
    let same = joined (thread_numbers t) (flat_map thread_numbers threads) rest in
    ap (λ x. thread_in x ∷ threads_in (length threads) (drop 10 x)) same
    ∙ (ap (λ x. x ∷ threads_in (length threads) (drop 10 (thread_numbers t ++ more))) back.0
    ∙ (ap (λ x. t ∷ threads_in (length threads) x) back.1
    ∙ ap (λ x. t ∷ x) (threads_back threads rest (All-tail IsThreadReadBack t threads all))))

pub after_threads : (threads : List Thread) (rest : List ℕ) → All IsThreadReadBack threads → drop (10 * length threads) (flat_map thread_numbers threads ++ rest) ≡ rest
after_threads [] rest all = refl
after_threads (t ∷ threads) rest all =
    let more = flat_map thread_numbers threads ++ rest in
    let back = All-head IsThreadReadBack t threads all more in
    let same = joined (thread_numbers t) (flat_map thread_numbers threads) rest in
    let many : 10 * length (t ∷ threads) ≡ 10 + 10 * length threads = omega arith in
    ap (λ n. drop n (flat_map thread_numbers (t ∷ threads) ++ rest)) many
    ∙ (sym (drop-drop (10 * length threads) 10 (flat_map thread_numbers (t ∷ threads) ++ rest))
    ∙ (ap (λ x. drop (10 * length threads) (drop 10 x)) same
    ∙ (ap (drop (10 * length threads)) back.1
    ∙ after_threads threads rest (All-tail IsThreadReadBack t threads all))))

-- ---- of a machine that can stand where it does

module _ (s : State) (p : Position) (here : at_position s p ≡ s) (at : CanStandAt s.component s.matrix p) (numbers : List ℕ) (are : numbers ≡ numbers_at s) (back : AreReadBack s) where
  can : CanStand s.component s.matrix s.cells s.locks s.threads
  can = subst (λ (x : State). CanStand s.component s.matrix x.cells x.locks x.threads) here at

  whole : numbers ≡ map owner_number s.locks ++ (flat_map thread_numbers s.threads ++ s.cells)
  whole = are ∙ joined (map owner_number s.locks) (flat_map thread_numbers s.threads) s.cells

  locks_there : owners_in s.component numbers ≡ s.locks
  locks_there =
      ap (λ x. map owner_in (take (length s.component.locks) x)) whole
      ∙ owners_back s.locks (flat_map thread_numbers s.threads ++ s.cells) (length s.component.locks) can.locks back.owners

  left : drop (length s.component.locks) numbers ≡ flat_map thread_numbers s.threads ++ s.cells
  left = ap (drop (length s.component.locks)) whole ∙ after_owners s.locks (flat_map thread_numbers s.threads ++ s.cells) (length s.component.locks) can.locks

  threads_there : standing_in s.component s.matrix numbers ≡ s.threads
  threads_there =
      ap (threads_in (thread_count s.matrix)) left
      ∙ (ap (λ n. threads_in n (flat_map thread_numbers s.threads ++ s.cells)) (sym can.threads) ∙ threads_back s.threads s.cells back.standing)

  cells_there : values_in s.component s.matrix numbers ≡ s.cells
  cells_there =
      ap (drop (10 * thread_count s.matrix)) left
      ∙ (ap (λ n. drop (10 * n) (flat_map thread_numbers s.threads ++ s.cells)) (sym can.threads) ∙ after_threads s.threads s.cells back.standing)

  -- where the numbers say, the machine stands as it does
  pub stands_here : standing_with s numbers ≡ s
  stands_here =
      ap (λ x. standing_so s x (owners_in s.component numbers) (standing_in s.component s.matrix numbers)) cells_there
      ∙ (ap (λ x. standing_so s s.cells x (standing_in s.component s.matrix numbers)) locks_there ∙ ap (standing_so s s.cells s.locks) threads_there)

  pub can_stand_with : CanStandWith s.component s.matrix numbers
  can_stand_with = record {
    can = subst (λ (x : State). CanStand s.component s.matrix x.cells x.locks x.threads) (sym stands_here) can;
    are = are ∙ ap numbers_at (sym stands_here);
  }
