-- Each line of a matrix without a fault keeps the limits, and its calls are the component's.
use Rattle.std.proofs.Common.{◌≡◌, ℕ, ◌+◌, ◌^◌, ◌<◌, ◌≤◌, Bool, true, false, cond, List, [], ◌∷◌, ◌++◌, length, get_or, Option, Some, None, suc, Result, Ok, Err, refl, ap, subst, sym, ◌∙◌, inl, inr, arith}
use Rattle.std.specs.Prelude.{◌==◌, ◌||◌, ◌&&◌, not, nat_le, nat_lt, is_some, drop, sum_by, All, slice_get, codes}
use Rattle.std.specs.List.{filter_map, list_all, AllByRecursion}
use Rattle.std.specs.Str.{bytes_eq}
use Rattle.std.specs.Option.{option_map, option_map_or, option_and_then}
use Rattle.std.proofs.lemmas.Bool.{and_parts, or_parts, leb-false, ltb-false, not-false, eqb-true}
use Rattle.std.proofs.lemmas.List.{length-append}
use Rattle.std.proofs.lemmas.List.Elements.{All-nil, All-from_recursion}
use Rattle.std.proofs.lemmas.List.Sums.{sum_by-append}
use Rattle.std.proofs.lemmas.Option.{slice_get_cases}
use Rattle.lu_text.specs.Lines.{is_allowed}
use Rattle.lu_text.specs.Numbers.{value_in}
use Rattle.lu_text.specs.Words.{Word}
use Rattle.lu_text.specs.Faults.{or_else}
use Rattle.lu_text.proofs.Says.{said}
use Rattle.lu_text.proofs.Written.{All-last}
use Rattle.lu_component.specs.declared.component.Op.{Op}
use Rattle.lu_component.specs.Component.{Component, IsComponent, IsOp}
use Rattle.lu_text.proofs.NumberText.{value_small}
use Rattle.lu_test.specs.declared.matrix.Call.{Call}
use Rattle.lu_test.specs.declared.matrix_fault.MatrixFaultKind.{MatrixFaultKind}
use Rattle.lu_test.specs.declared.matrix_fault.MatrixFaultKind.TheVariants.{Byte, Form, UnknownOp, Arguments, Number, Limit}
use Rattle.lu_test.specs.Matrix.{AreArguments, AreThreads, IsOf, IsCallOf, Matrix}
use Rattle.lu_test.specs.Signatures.{Signature, signatures, takes}
use Rattle.lu_test.proofs.Signatures.{signature_at}
use Rattle.lu_test.specs.MatrixText.{MatrixDraft, HasRoom, IsDraft, nothing, is_nothing, matrix_of, named_operation, has_name, has_operation, has_arguments, has_values, argument_words, arguments_in, call_of, calls_said, calls_fault, is_full, with_thread, with_setup, calls_after, by_keyword, by_parts, parts_in, line_of, finished}

-- ---- a call

-- a call that the words say, with its operation
record Named (c : Component) (words : List Word) (call : Call) : Type 0 where
  op : Op
  there : slice_get c.operations call.op ≡ Some op
  within : call.op < length c.operations
  read : get_or c.operations call.op op ≡ op
  all : argument_words (signatures c.operations) words ≡ drop 1 words
  same : call.args ≡ arguments_in (signatures c.operations) words
  arguments : op.args ≡ length (drop 1 words)

named : (c : Component) (words : List Word) (call : Call) → has_arguments (signatures c.operations) words ≡ true → call_of (signatures c.operations) words ≡ Some call → Named c words call
named c words call count said = go (named_operation (signatures c.operations) words) refl count said
  where
    go : (o : Option ℕ) → named_operation (signatures c.operations) words ≡ o → option_map_or (λ s. takes s.arity (length (drop 1 words))) (option_and_then (slice_get (signatures c.operations)) o) false ≡ true
        → option_map (λ (number : ℕ). let call : Call = record { op = number; args = arguments_in (signatures c.operations) words } in call) o ≡ Some call → Named c words call
    go None at e f = absurd cc
    go (Some number) at e f =
        let same : record { op = number; args = arguments_in (signatures c.operations) words } ≡ call = cc in
        let there = signature_at c.operations number in
        subst (Named c words) same (elim (slice_get_cases c.operations number).1 [
          | inl (op, within, is, read) ↦ record {
            op = op;
            there = is;
            within = within;
            read = read;
            all = rw (at, there, is) refl;
            same = refl;
            arguments = (let e : (op.args == length (drop 1 words)) ≡ true = rw (there, is) at e in eqb-true op.args (length (drop 1 words)) e);
          }
          | inr (past, none) ↦ absurd (let f = rw (there, none) at e in cc)
        ])

-- as many numbers as words that are numbers
values_all : (words : List Word) → list_all (λ word. is_some (value_in word)) words ≡ true → length (filter_map value_in words) ≡ length words
values_all [] h = refl
values_all (word ∷ words) h =
    let p = and_parts (is_some (value_in word)) (list_all (λ word. is_some (value_in word)) words) h in
    go (value_in word) refl p.0 (values_all words p.1)
  where
    go : (o : Option ℕ) → value_in word ≡ o → is_some (value_in word) ≡ true → length (filter_map value_in words) ≡ length words → length (filter_map value_in (word ∷ words)) ≡ length (word ∷ words)
    go None e some rest = let some = rw e at some in absurd cc
    go (Some n) e some rest = rw e (ap suc rest)

values_small : (words : List Word) → AllByRecursion (λ n. n < 2 ^ 32) (filter_map value_in words)
values_small [] = tt
values_small (word ∷ words) = go (value_in word) refl (values_small words)
  where
    go : (o : Option ℕ) → value_in word ≡ o → AllByRecursion (λ n. n < 2 ^ 32) (filter_map value_in words) → AllByRecursion (λ n. n < 2 ^ 32) (filter_map value_in (word ∷ words))
    go None e rest = rw e rest
    go (Some n) e rest = let small = rw e at (value_small word) in rw e (small, rest)

-- what is known of the words of a call, once they are tested
record IsTested (c : Component) (words : List Word) : Type 0 where
  count : has_arguments (signatures c.operations) words ≡ true
  values : has_values (signatures c.operations) words ≡ true

-- its call is one of the component's
call_fits : (c : Component) (words : List Word) (call : Call) → IsTested c words → call_of (signatures c.operations) words ≡ Some call → IsCallOf c call
call_fits c words call tested is =
    let n = named c words call tested.count is in
    let all = values_all (argument_words (signatures c.operations) words) tested.values in
    let many : length call.args ≡ n.op.args = ap length n.same ∙ (all ∙ (ap length n.all ∙ sym n.arguments)) in
    rw n.there many

call_arguments : (c : Component) → IsComponent c → (words : List Word) (call : Call) → IsTested c words → call_of (signatures c.operations) words ≡ Some call → AreArguments call.args
call_arguments c h words call tested is =
    let n = named c words call tested.count is in
    let all = values_all (argument_words (signatures c.operations) words) tested.values ∙ ap length n.all in
    let op : IsOp (length c.arrays) (length c.locks) n.op = subst (IsOp (length c.arrays) (length c.locks)) n.read (h.operations call.op n.op n.within) in
    let small = All-from_recursion (λ n. n < 2 ^ 32) (arguments_in (signatures c.operations) words) (values_small (argument_words (signatures c.operations) words)) in
    subst AreArguments (sym n.same) (omega (arith, op.args, n.arguments, all), small)

-- ---- a line

record IsSound (c : Component) (draft : MatrixDraft) : Type 0 where
  limits : IsDraft draft
  fits : IsOf (matrix_of draft) c

abbrev Keeps : (MatrixDraft → Type 0) → Result MatrixDraft MatrixFaultKind → Type 0
Keeps P r = (next : MatrixDraft) → r ≡ Ok next → P next

each_call : (c : Component) (P : Call → Type 0) → ((words : List Word) (call : Call) → IsTested c words → call_of (signatures c.operations) words ≡ Some call → P call) → (calls : List (List Word)) → list_all (has_arguments (signatures c.operations)) calls ≡ true → list_all (has_values (signatures c.operations)) calls ≡ true → AllByRecursion P (calls_said (signatures c.operations) calls)
each_call c P h [] count values = tt
each_call c P h (words ∷ calls) count values =
    let p = and_parts (has_arguments (signatures c.operations) words) (list_all (has_arguments (signatures c.operations)) calls) count in
    let q = and_parts (has_values (signatures c.operations) words) (list_all (has_values (signatures c.operations)) calls) values in
    go (call_of (signatures c.operations) words) refl (record { count = p.0; values = q.0 }) (each_call c P h calls p.1 q.1)
  where
    go : (o : Option Call) → call_of (signatures c.operations) words ≡ o → IsTested c words → AllByRecursion P (calls_said (signatures c.operations) calls) → AllByRecursion P (calls_said (signatures c.operations) (words ∷ calls))
    go None e tested rest = rw e rest
    go (Some call) e tested rest = rw e (h words call tested e, rest)

-- no more calls than parts
calls_few : (signatures : List Signature) (calls : List (List Word)) → length (calls_said signatures calls) ≤ length calls
calls_few signatures [] = omega arith
calls_few signatures (words ∷ calls) = go (call_of signatures words) refl (calls_few signatures calls)
  where
    go : (o : Option Call) → call_of signatures words ≡ o → length (calls_said signatures calls) ≤ length calls → length (calls_said signatures (words ∷ calls)) ≤ length (words ∷ calls)
    go None e h = rw e (omega arith)
    go (Some call) e h = rw e (omega arith)

count_more : (threads : List (List Call)) (calls : List Call) → sum_by length (threads ++ calls ∷ []) ≡ sum_by length threads + length calls
count_more threads calls = rw (sum_by-append length threads (calls ∷ [])) (omega arith)

-- a line without a fault: what its calls tell, and the draft with them
record IsFree (c : Component) (calls : List (List Word)) (full : Bool) (draft next : MatrixDraft) : Type 0 where
  same : draft ≡ next
  room : full ≡ false
  few : length (calls_said (signatures c.operations) calls) ≤ length calls
  fits : All (IsCallOf c) (calls_said (signatures c.operations) calls)
  arguments : All (λ call. AreArguments call.args) (calls_said (signatures c.operations) calls)

free : (c : Component) → IsComponent c → (calls : List (List Word)) (full : Bool) (draft next : MatrixDraft) → or_else (calls_fault (signatures c.operations) calls full) draft ≡ Ok next → IsFree c calls full draft next
free c is calls full draft next e =
    let x = said
    ((not (list_all has_name calls), Form)
    ∷ (not (list_all (has_operation (signatures c.operations)) calls), UnknownOp)
    ∷ (not (list_all (has_arguments (signatures c.operations)) calls), Arguments)
    ∷ (not (list_all (has_values (signatures c.operations)) calls), Number)
    ∷ (full, Limit) ∷ [])
    draft next e in
    let count = not-false (list_all (has_arguments (signatures c.operations)) calls) x.none.1.1.0 in
    let values = not-false (list_all (has_values (signatures c.operations)) calls) x.none.1.1.1.0 in
    record {
      same = x.same;
      room = x.none.1.1.1.1.0;
      few = calls_few (signatures c.operations) calls;
      fits = All-from_recursion (IsCallOf c) _ (each_call c (IsCallOf c) (call_fits c) calls count values);
      arguments = All-from_recursion (λ call. AreArguments call.args) _ (each_call c (λ call. AreArguments call.args) (call_arguments c is) calls count values);
    }

thread_keeps : (c : Component) → IsComponent c → (draft : MatrixDraft) → IsSound c draft → (calls : List (List Word)) → Keeps (IsSound c) (with_thread (signatures c.operations) draft calls)
thread_keeps c is draft h calls next e =
    let threads = draft.threads in
    let more : List Call = calls_said (signatures c.operations) calls in
    let x = free c is calls (is_full threads (length calls)) (record draft { threads = threads ++ more ∷ [] }) next e in
    let full = or_parts (nat_le 8 (length threads)) (nat_lt 8 (length calls) || nat_lt 16 (sum_by length threads + length calls)) x.room in
    let many = or_parts (nat_lt 8 (length calls)) (nat_lt 16 (sum_by length threads + length calls)) full.1 in
    let room = leb-false 8 (length threads) full.0 in
    let few = ltb-false 8 (length calls) many.0 in
    let all = ltb-false 16 (sum_by length threads + length calls) many.1 in
    let longer : length (threads ++ more ∷ []) ≡ length threads + 1 = simp length-append in
    let limits : AreThreads (threads ++ more ∷ []) = record {
      few = omega (arith, room, longer);
      each = All-last (λ calls. length calls ≤ 8) threads more h.limits.0.each (omega (arith, few, x.few));
      calls = omega (arith, all, x.few, count_more threads more);
      arguments = All-last (λ calls. All (λ call. AreArguments call.args) calls) threads more h.limits.0.arguments x.arguments;
    } in
    subst (IsSound c) x.same (record {
      limits = (limits, h.limits.1);
      fits = (h.fits.0, All-last (λ calls. All (IsCallOf c) calls) threads more h.fits.1 x.fits);
    })

setup_keeps : (c : Component) → IsComponent c → (draft : MatrixDraft) → IsSound c draft → (calls : List (List Word)) → Keeps (IsSound c) (with_setup (signatures c.operations) draft calls)
setup_keeps c is draft h calls next e =
    let x = free c is calls (nat_lt 8 (length calls)) (record draft { setup = Some (calls_said (signatures c.operations) calls) }) next e in
    let few = ltb-false 8 (length calls) x.room in
    subst (IsSound c) x.same (record {
      limits = (h.limits.0, record { few = omega (arith, few, x.few); arguments = x.arguments });
      fits = (x.fits, h.fits.1);
    })

-- with one more thread there is room still
room_kept : (signatures : List Signature) (draft : MatrixDraft) → HasRoom draft → (calls : List (List Word)) → Keeps HasRoom (with_thread signatures draft calls)
room_kept signatures draft h calls next e =
    let threads = draft.threads in
    let more : List Call = calls_said signatures calls in
    let full = is_full threads (length calls) in
    let x = said
    ((not (list_all has_name calls), Form)
    ∷ (not (list_all (has_operation signatures) calls), UnknownOp)
    ∷ (not (list_all (has_arguments signatures) calls), Arguments)
    ∷ (not (list_all (has_values signatures) calls), Number)
    ∷ (full, Limit) ∷ [])
    (record draft { threads = threads ++ more ∷ [] }) next e in
    let past = or_parts (nat_le 8 (length threads)) (nat_lt 8 (length calls) || nat_lt 16 (sum_by length threads + length calls)) x.none.1.1.1.1.0 in
    let many = or_parts (nat_lt 8 (length calls)) (nat_lt 16 (sum_by length threads + length calls)) past.1 in
    let all = ltb-false 16 (sum_by length threads + length calls) many.1 in
    let few : length more ≤ length calls = calls_few signatures calls in
    subst HasRoom x.same (omega (arith, all, few, count_more threads more))

setup_room_kept : (signatures : List Signature) (draft : MatrixDraft) → HasRoom draft → (calls : List (List Word)) → Keeps HasRoom (with_setup signatures draft calls)
setup_room_kept signatures draft h calls next e =
    let x = said
    ((not (list_all has_name calls), Form)
    ∷ (not (list_all (has_operation signatures) calls), UnknownOp)
    ∷ (not (list_all (has_arguments signatures) calls), Arguments)
    ∷ (not (list_all (has_values signatures) calls), Number)
    ∷ (nat_lt 8 (length calls), Limit) ∷ [])
    (record draft { setup = Some (calls_said signatures calls) }) next e in
    subst HasRoom x.same h

-- ---- what threads and setups keep, lines keep

module _ (P : MatrixDraft → Type 0) where
  refused : (kind : MatrixFaultKind) → Keeps P (Err kind)
  refused kind next e = absurd cc

  unchanged : (draft : MatrixDraft) → P draft → Keeps P (Ok draft)
  unchanged draft h next e = let same : draft ≡ next = cc in subst P same h

  keeps_if : (b : Bool) (x y : Result MatrixDraft MatrixFaultKind) → Keeps P x → Keeps P y → Keeps P (cond b x y)
  keeps_if true x y p q = p
  keeps_if false x y p q = q

module _ (P : MatrixDraft → Type 0) (signatures : List Signature) (thread : (draft : MatrixDraft) → P draft → (calls : List (List Word)) → Keeps P (with_thread signatures draft calls)) (setup : (draft : MatrixDraft) → P draft → (calls : List (List Word)) → Keeps P (with_setup signatures draft calls)) where
  keyword_keeps : (draft : MatrixDraft) → P draft → (word : Word) (calls : List (List Word)) → Keeps P (by_keyword signatures draft word calls)
  keyword_keeps draft h word calls =
      keeps_if P (bytes_eq word (codes "thread")) (with_thread signatures draft calls) _ (thread draft h calls)
      (keeps_if P (bytes_eq word (codes "setup") && is_nothing draft) (with_setup signatures draft calls) (Err Form) (setup draft h calls) (refused P Form))

  parts_keep : (draft : MatrixDraft) → P draft → (parts : List (List Word)) → Keeps P (by_parts signatures draft parts)
  parts_keep draft h [] = unchanged P draft h
  parts_keep draft h ([] ∷ []) = unchanged P draft h
  parts_keep draft h ([] ∷ part ∷ parts) = refused P Form
  parts_keep draft h ((word ∷ words) ∷ parts) = keyword_keeps draft h word (calls_after words parts)

  line_keeps : (draft : MatrixDraft) → P draft → (line : List ℕ) → Keeps P (line_of signatures draft line)
  unfolding line_of
  line_keeps draft h line = keeps_if P (list_all is_allowed line) (by_parts signatures draft (parts_in line)) (Err Byte) (parts_keep draft h (parts_in line)) (refused P Byte)

-- a line without a fault keeps the limits
pub line_limits : (c : Component) → IsComponent c → (draft : MatrixDraft) → IsDraft draft → IsOf (matrix_of draft) c → (line : List ℕ) (next : MatrixDraft) → line_of (signatures c.operations) draft line ≡ Ok next → IsDraft next
line_limits c is draft limits fits line next e = (line_keeps (IsSound c) (signatures c.operations) (thread_keeps c is) (setup_keeps c is) draft (record { limits = limits; fits = fits }) line next e).limits

-- and its calls are the component's
pub line_fits : (c : Component) → IsComponent c → (draft : MatrixDraft) → IsDraft draft → IsOf (matrix_of draft) c → (line : List ℕ) (next : MatrixDraft) → line_of (signatures c.operations) draft line ≡ Ok next → IsOf (matrix_of next) c
line_fits c is draft limits fits line next e = (line_keeps (IsSound c) (signatures c.operations) (thread_keeps c is) (setup_keeps c is) draft (record { limits = limits; fits = fits }) line next e).fits

-- and there is room still
pub line_room : (signatures : List Signature) (draft : MatrixDraft) → HasRoom draft → (line : List ℕ) (next : MatrixDraft) → line_of signatures draft line ≡ Ok next → HasRoom next
line_room signatures draft h line next e = line_keeps HasRoom signatures (room_kept signatures) (setup_room_kept signatures) draft h line next e

-- no line is read yet
pub nothing_limits : IsDraft nothing
nothing_limits = (
  record { few = omega arith; each = All-nil (λ calls. length calls ≤ 8); calls = omega arith; arguments = All-nil (λ calls. All (λ call. AreArguments call.args) calls) },
  record { few = omega arith; arguments = All-nil (λ call. AreArguments call.args) },
)

pub nothing_room : HasRoom nothing
nothing_room = omega arith

pub nothing_fits : (c : Component) → IsOf (matrix_of nothing) c
nothing_fits c = (All-nil (IsCallOf c), All-nil (λ calls. All (IsCallOf c) calls))

-- the calls of the finished matrix are the component's
pub of_finished : (c : Component) (draft : MatrixDraft) (r : Result Matrix MatrixFaultKind) (m : Matrix) → r ≡ finished draft → r ≡ Ok m → IsOf (matrix_of draft) c → IsOf m c
of_finished c draft r m says is fits =
    let x = said ((length draft.threads == 0, Limit) ∷ []) (matrix_of draft) m (sym says ∙ is) in
    subst (λ (m : Matrix). IsOf m c) x.same fits
