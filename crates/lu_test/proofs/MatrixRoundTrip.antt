-- What is written of a component's matrix is read as it was.
use Rattle.std.proofs.Common.{◌≡◌, ℕ, ◌+◌, ◌^◌, ◌<◌, ◌≤◌, Bool, true, false, Option, None, List, [], ◌∷◌, ◌++◌, length, Some, Ok, refl, sym, ap, subst, ◌∙◌, append_assoc, inl, inr, arith}
use Rattle.std.specs.Prelude.{codes, map, ◌==◌, is_some, slice_get, sum_by, nat_lt, All}
use Rattle.std.specs.List.{filter_map, flat_map, join_with_byte, list_all, slice_split, AllByRecursion}
use Rattle.std.specs.Fmt.{decimal}
use Rattle.std.specs.Option.{option_map, unwrap_or}
use Rattle.std.proofs.lemmas.Bool.{and_parts, false_from_ne_true, eqb-true, eq-eqb, ne_eqb, le-ltb, lt-leb}
use Rattle.std.proofs.lemmas.List.{append-nil, length-append, length-map}
use Rattle.std.proofs.lemmas.List.Elements.{recursion_from_All}
use Rattle.std.proofs.lemmas.List.Sums.{sum_by-append, sum_by-cons}
use Rattle.std.proofs.lemmas.Option.{slice_get_cases}
use Rattle.lu_text.specs.Names.{is_name_start, is_name_part, has_name_form, IsName}
use Rattle.lu_text.specs.Numbers.{value_in}
use Rattle.lu_text.specs.Lines.{before_comment, words_of}
use Rattle.lu_text.specs.Words.{Word}
use Rattle.lu_text.specs.Faults.{meaning_of}
use Rattle.lu_text.proofs.Written.{IsText, IsLineByte, Reads, reads_nothing, reads_line, reads_on, reads_value, allowed_line, one_line, words_line, words_again, no_comment, split_joined, each_joined, each_weaker}
use Rattle.lu_text.proofs.WordText.{IsDigit, digits_each, literal_text, name_text, number_text, value_again}
use Rattle.lu_component.specs.declared.component.Op.{Op}
use Rattle.lu_component.specs.Component.{Component, IsComponent, IsOp}
use Rattle.lu_component.proofs.Named.{name_has, place_at}
use Rattle.lu_test.specs.declared.matrix.Call.{Call}
use Rattle.lu_test.specs.Matrix.{AreArguments, IsMatrix, IsOf, IsCallOf, Matrix}
use Rattle.lu_test.specs.Signatures.{signature, signature_number, signatures}
use Rattle.lu_test.proofs.Signatures.{same_place, signature_at}
use Rattle.lu_test.specs.MatrixText.{MatrixDraft, nothing, matrix_of, has_name, has_operation, has_arguments, has_values, call_of, calls_said, calls_after, calls_fault, is_full, with_thread, with_setup, by_keyword, by_parts, parts_in, line_of, matrix_grammar, operation_name, arguments_text, call_text, others_text, calls_text, line_text, thread_text, setup_text, matrix_text}

-- ---- bytes that part no calls

-- a word without `;`
record IsPart (word : Word) : Type 0 where
  text : IsText word
  whole : AllByRecursion (λ b. (b == 59) ≡ false) word

name_whole : (bs : List ℕ) → list_all is_name_part bs ≡ true → AllByRecursion (λ b. (b == 59) ≡ false) bs
name_whole [] h = tt
name_whole (b ∷ bs) h =
    let p = and_parts (is_name_part b) (list_all is_name_part bs) h in
    (false_from_ne_true (b == 59) (λ e. let same : b ≡ 59 = eqb-true b 59 e in let wrong : is_name_part 59 ≡ true = rw same at p.0 in absurd cc), name_whole bs p.1)

start_whole : (b : ℕ) → is_name_start b ≡ true → (b == 59) ≡ false
start_whole b h = false_from_ne_true (b == 59) (λ e. let same : b ≡ 59 = eqb-true b 59 e in let wrong : is_name_start 59 ≡ true = rw same at h in absurd cc)

name_part : (name : Word) → has_name_form name ≡ true → IsPart name
name_part [] h = absurd cc
name_part (b ∷ bs) h =
    let p = and_parts (is_name_start b) (list_all is_name_part bs) h in
    record { text = name_text (b ∷ bs) h; whole = (start_whole b p.0, name_whole bs p.1) }

number_part : (n : ℕ) → n < 2 ^ 64 → IsPart (decimal n)
number_part n h = record { text = number_text n h; whole = each_weaker IsDigit (λ b. (b == 59) ≡ false) (λ b d. ne_eqb b 59 (λ e. omega (arith, d.1))) (decimal n) (digits_each n h) }

-- ---- the words of a call

abbrev call_words : Component → Call → List Word
call_words c call = operation_name c.operations call.op ∷ map decimal call.args

joined : (first : Word) (arguments : List ℕ) → join_with_byte 32 (first ∷ map decimal arguments) ≡ first ++ arguments_text arguments
joined first [] = sym (append-nil first)
joined first (n ∷ arguments) = ap (λ (t : List ℕ). first ++ (32 ∷ t)) (joined (decimal n) arguments)

values_again : (arguments : List ℕ) → AllByRecursion (λ n. n < 2 ^ 32) arguments → filter_map value_in (map decimal arguments) ≡ arguments
values_again [] h = refl
values_again (n ∷ arguments) h = rw (value_again n h.0) (ap (λ (ns : List ℕ). n ∷ ns) (values_again arguments h.1))

are_values : (arguments : List ℕ) → AllByRecursion (λ n. n < 2 ^ 32) arguments → list_all (λ word. is_some (value_in word)) (map decimal arguments) ≡ true
are_values [] h = refl
are_values (n ∷ arguments) h = rw (value_again n h.0, are_values arguments h.1) refl

number_parts : (arguments : List ℕ) → AllByRecursion (λ n. n < 2 ^ 32) arguments → AllByRecursion IsPart (map decimal arguments)
number_parts [] h = tt
number_parts (n ∷ arguments) h = (number_part n (omega (arith, h.0)), number_parts arguments h.1)

-- the words of a call of the component say it again
record IsSaid (c : Component) (call : Call) : Type 0 where
  parts : AllByRecursion IsPart (call_words c call)
  joins : join_with_byte 32 (call_words c call) ≡ call_text c.operations call
  there : has_operation (signatures c.operations) (call_words c call) ≡ true
  count : has_arguments (signatures c.operations) (call_words c call) ≡ true
  values : has_values (signatures c.operations) (call_words c call) ≡ true
  again : call_of (signatures c.operations) (call_words c call) ≡ Some call

op_names : (c : Component) → IsComponent c → AllByRecursion (λ o. IsName o.name) c.operations
op_names c is = each_weaker (IsOp (length c.arrays) (length c.locks)) (λ o. IsName o.name) (λ o h. h.name) c.operations (recursion_from_All (IsOp (length c.arrays) (length c.locks)) c.operations is.operations)

is_said : (c : Component) → IsComponent c → (call : Call) → IsCallOf c call → AreArguments call.args → IsSaid c call
is_said c is call fits arguments =
    elim (slice_get_cases c.operations call.op).1 [
      | inl (op, within, at, same) ↦ said op within at
      | inr (past, none) ↦ absurd (rw none at fits)
    ]
  where
    said : (op : Op) → call.op < length c.operations → slice_get c.operations call.op ≡ Some op → IsSaid c call
    said op within at =
        let small = recursion_from_All (λ n. n < 2 ^ 32) call.args arguments.1 in
        let place : signature_number (signatures c.operations) (operation_name c.operations call.op) ≡ Some call.op = same_place c.operations (operation_name c.operations call.op) ∙ place_at (λ o. o.name) c.operations call.op within is.operations_apart in
        let sign : slice_get (signatures c.operations) call.op ≡ Some (signature op) = signature_at c.operations call.op ∙ ap (λ (o : Option Op). option_map signature o) at in
        let name = name_has IsName (λ o. o.name) c.operations call.op within (op_names c is) in
        let many : length call.args ≡ op.args = rw at at fits in
        let n : length (map decimal call.args) ≡ length call.args = simp length-map in
        let numbers = values_again call.args small in
        record {
          parts = (name_part (operation_name c.operations call.op) name.0, number_parts call.args small);
          joins = joined (operation_name c.operations call.op) call.args;
          there = rw place refl;
          count = rw (place, sign) (eq-eqb op.args (length (map decimal call.args)) (omega (arith, n, many)));
          values = rw (place, sign) (are_values call.args small);
          again = rw (place, sign) (ap (λ (ns : List ℕ). let made : Call = record { op = call.op; args = ns } in Some made) numbers);
        }

each_said : (c : Component) → IsComponent c → (calls : List Call) → AllByRecursion (IsCallOf c) calls → AllByRecursion (λ call. AreArguments call.args) calls → AllByRecursion (IsSaid c) calls
each_said c is [] fits arguments = tt
each_said c is (call ∷ calls) fits arguments = (is_said c is call fits.0 arguments.0, each_said c is calls fits.1 arguments.1)

-- ---- a line

-- the words of a line's parts
abbrev line_parts : Component → Word → List Call → List (List Word)
line_parts c word [] = (word ∷ []) ∷ []
line_parts c word (call ∷ calls) = (word ∷ call_words c call) ∷ map (call_words c) calls

abbrev part_text : List Word → List ℕ
part_text words = join_with_byte 32 words

others_joined : (c : Component) (first : List ℕ) (calls : List Call) → AllByRecursion (IsSaid c) calls → join_with_byte 59 (first ∷ map part_text (map (call_words c) calls)) ≡ first ++ others_text c.operations calls
others_joined c first [] h = sym (append-nil first)
others_joined c first (call ∷ calls) h =
    ap (λ (t : List ℕ). first ++ (59 ∷ join_with_byte 59 (t ∷ map part_text (map (call_words c) calls)))) h.0.joins
    ∙ ap (λ (t : List ℕ). first ++ (59 ∷ t)) (others_joined c (call_text c.operations call) calls h.1)

line_joined : (c : Component) (word : Word) (calls : List Call) → AllByRecursion (IsSaid c) calls → join_with_byte 59 (map part_text (line_parts c word calls)) ≡ word ++ calls_text c.operations calls
line_joined c word [] h = sym (append-nil word)
line_joined c word (call ∷ calls) h =
    ap (λ (t : List ℕ). join_with_byte 59 ((word ++ 32 ∷ t) ∷ map part_text (map (call_words c) calls))) h.0.joins
    ∙ others_joined c (word ++ 32 ∷ call_text c.operations call) calls h.1
    ∙ append_assoc word (32 ∷ call_text c.operations call) (others_text c.operations calls)

thread_part : IsPart (codes "thread")
thread_part = record { text = literal_text (codes "thread") (omega arith) refl; whole = (refl, (refl, (refl, (refl, (refl, (refl, tt)))))) }

setup_part : IsPart (codes "setup")
setup_part = record { text = literal_text (codes "setup") (omega arith) refl; whole = (refl, (refl, (refl, (refl, (refl, tt))))) }

others_are : (c : Component) (calls : List Call) → AllByRecursion (IsSaid c) calls → AllByRecursion (AllByRecursion IsPart) (map (call_words c) calls)
others_are c [] h = tt
others_are c (call ∷ calls) h = (h.0.parts, others_are c calls h.1)

parts_are : (c : Component) (word : Word) → IsPart word → (calls : List Call) → AllByRecursion (IsSaid c) calls → AllByRecursion (AllByRecursion IsPart) (line_parts c word calls)
parts_are c word part [] h = ((part, tt), tt)
parts_are c word part (call ∷ calls) h = ((part, h.0.parts), others_are c calls h.1)

abbrev line_of_parts : List (List Word) → List ℕ
line_of_parts parts = join_with_byte 59 (map part_text parts)

each_text : (words : List Word) → AllByRecursion IsPart words → AllByRecursion IsText words
each_text words h = each_weaker IsPart IsText (λ w p. p.text) words h

each_line : (parts : List (List Word)) → AllByRecursion (AllByRecursion IsPart) parts → AllByRecursion (AllByRecursion IsLineByte) (map part_text parts)
each_line [] h = tt
each_line (words ∷ parts) h = (words_line words (each_text words h.0), each_line parts h.1)

parts_bytes : (parts : List (List Word)) → AllByRecursion (AllByRecursion IsPart) parts → AllByRecursion IsLineByte (line_of_parts parts)
parts_bytes parts h = each_joined IsLineByte 59 (omega arith, omega arith, refl) (map part_text parts) (each_line parts h)

each_whole : (parts : List (List Word)) → AllByRecursion (AllByRecursion IsPart) parts → AllByRecursion (AllByRecursion (λ b. (b == 59) ≡ false)) (map part_text parts)
each_whole [] h = tt
each_whole (words ∷ parts) h = (
  each_joined (λ b. (b == 59) ≡ false) 32 refl words (each_weaker IsPart (AllByRecursion (λ b. (b == 59) ≡ false)) (λ w p. p.whole) words h.0),
  each_whole parts h.1,
)

words_of_parts : (parts : List (List Word)) → AllByRecursion (AllByRecursion IsPart) parts → map words_of (map part_text parts) ≡ parts
words_of_parts [] h = refl
words_of_parts (words ∷ parts) h =
    let first = words_again words (each_text words h.0) in
    let rest = words_of_parts parts h.1 in
    cc

parts_again : (first : List Word) (parts : List (List Word)) → AllByRecursion (AllByRecursion IsPart) (first ∷ parts) → parts_in (line_of_parts (first ∷ parts)) ≡ first ∷ parts
parts_again first parts h =
    let line : List ℕ = line_of_parts (first ∷ parts) in
    let uncut : before_comment line ≡ line = no_comment line (parts_bytes (first ∷ parts) h) in
    let split : slice_split (λ b. b == 59) line ≡ map part_text (first ∷ parts) = split_joined (λ b. b == 59) 59 refl (part_text first) (map part_text parts) (each_whole (first ∷ parts) h) in
    ap (λ (l : List ℕ). map words_of (slice_split (λ b. b == 59) l)) uncut
    ∙ (ap (λ (ps : List (List ℕ)). map words_of ps) split ∙ words_of_parts (first ∷ parts) h)

line_parts_again : (c : Component) (word : Word) → IsPart word → (calls : List Call) → AllByRecursion (IsSaid c) calls → parts_in (line_of_parts (line_parts c word calls)) ≡ line_parts c word calls
line_parts_again c word part [] h = parts_again (word ∷ []) [] (parts_are c word part [] h)
line_parts_again c word part (call ∷ calls) h = parts_again (word ∷ call_words c call) (map (call_words c) calls) (parts_are c word part (call ∷ calls) h)

after_some : (words : List Word) (parts : List (List Word)) → 0 < length words → calls_after words parts ≡ words ∷ parts
after_some words parts some = rw (ne_eqb (length words) 0 (λ e. omega arith)) refl

by_line : (c : Component) (draft : MatrixDraft) (word : Word) (calls : List Call) → by_parts (signatures c.operations) draft (line_parts c word calls) ≡ by_keyword (signatures c.operations) draft word (map (call_words c) calls)
by_line c draft word [] = refl
by_line c draft word (call ∷ calls) = ap (by_keyword (signatures c.operations) draft word) (after_some (call_words c call) (map (call_words c) calls) (omega arith))

-- ---- a thread

all_named : (c : Component) (calls : List Call) → list_all has_name (map (call_words c) calls) ≡ true
all_named c [] = refl
all_named c (call ∷ calls) = rw (ne_eqb (length (call_words c call)) 0 (λ e. omega arith), all_named c calls) refl

all_there : (c : Component) (calls : List Call) → AllByRecursion (IsSaid c) calls → list_all (has_operation (signatures c.operations)) (map (call_words c) calls) ≡ true
all_there c [] h = refl
all_there c (call ∷ calls) h = rw (h.0.there, all_there c calls h.1) refl

all_counted : (c : Component) (calls : List Call) → AllByRecursion (IsSaid c) calls → list_all (has_arguments (signatures c.operations)) (map (call_words c) calls) ≡ true
all_counted c [] h = refl
all_counted c (call ∷ calls) h = rw (h.0.count, all_counted c calls h.1) refl

all_values : (c : Component) (calls : List Call) → AllByRecursion (IsSaid c) calls → list_all (has_values (signatures c.operations)) (map (call_words c) calls) ≡ true
all_values c [] h = refl
all_values c (call ∷ calls) h = rw (h.0.values, all_values c calls h.1) refl

calls_again : (c : Component) (calls : List Call) → AllByRecursion (IsSaid c) calls → calls_said (signatures c.operations) (map (call_words c) calls) ≡ calls
calls_again c [] h = refl
calls_again c (call ∷ calls) h = rw h.0.again (ap (λ (rest : List Call). call ∷ rest) (calls_again c calls h.1))

-- nothing is wrong with calls for which there is room
none_wrong : (c : Component) (calls : List Call) (full : Bool) → AllByRecursion (IsSaid c) calls → full ≡ false → calls_fault (signatures c.operations) (map (call_words c) calls) full ≡ None
none_wrong c calls full h room =
    rw (all_named c calls, all_there c calls h, all_counted c calls h, all_values c calls h, room) refl

-- a line that says this of a draft is read so
line_reads : (c : Component) (draft next : MatrixDraft) (word : Word) → IsPart word → (calls : List Call) → AllByRecursion (IsSaid c) calls → by_keyword (signatures c.operations) draft word (map (call_words c) calls) ≡ Ok next
    → Reads (matrix_grammar c) draft (line_text c.operations word calls) next
unfolding line_of
line_reads c draft next word part calls h is =
    let bytes = parts_bytes (line_parts c word calls) (parts_are c word part calls h) in
    let says : line_of (signatures c.operations) draft (line_of_parts (line_parts c word calls)) ≡ Ok next =
    rw (allowed_line _ bytes, line_parts_again c word part calls h) (by_line c draft word calls ∙ is) in
    let whole : line_of_parts (line_parts c word calls) ++ 10 ∷ [] ≡ line_text c.operations word calls =
    ap (λ (line : List ℕ). line ++ 10 ∷ []) (line_joined c word calls h) in
    subst (λ (line : List ℕ). Reads (matrix_grammar c) draft line next) whole
    (reads_line (matrix_grammar c) draft next (line_of_parts (line_parts c word calls)) (one_line _ bytes) says)

thread_reads : (c : Component) (draft : MatrixDraft) (calls : List Call) → AllByRecursion (IsSaid c) calls → length draft.threads < 8 → length calls ≤ 8 → sum_by length draft.threads + length calls ≤ 16
    → Reads (matrix_grammar c) draft (thread_text c.operations calls) (record draft { threads = draft.threads ++ calls ∷ [] })
thread_reads c draft calls h room few all =
    let n : length (map (call_words c) calls) ≡ length calls = simp length-map in
    let free : is_full draft.threads (length (map (call_words c) calls)) ≡ false =
    rw (n, lt-leb 8 (length draft.threads) room, le-ltb 8 (length calls) few, le-ltb 16 (sum_by length draft.threads + length calls) all) refl in
    let says : with_thread (signatures c.operations) draft (map (call_words c) calls) ≡ Ok (record draft { threads = draft.threads ++ calls ∷ [] }) =
    rw (none_wrong c calls _ h free, calls_again c calls h) refl in
    line_reads c draft (record draft { threads = draft.threads ++ calls ∷ [] }) (codes "thread") thread_part calls h says

-- ---- a matrix

-- what is read by the setup's line
abbrev setup_of : List Call → Option (List Call)
setup_of [] = None
setup_of (call ∷ calls) = Some (call ∷ calls)

setup_again : (calls : List Call) → unwrap_or (setup_of calls) [] ≡ calls
setup_again [] = refl
setup_again (call ∷ calls) = refl

setup_reads : (c : Component) (calls : List Call) → AllByRecursion (IsSaid c) calls → length calls ≤ 8
    → Reads (matrix_grammar c) nothing (setup_text c.operations calls) (record { setup = setup_of calls; threads = [] })
setup_reads c [] h few = reads_nothing (matrix_grammar c) nothing
setup_reads c (call ∷ calls) h few =
    let all : List Call = call ∷ calls in
    let n : length (map (call_words c) all) ≡ length all = simp length-map in
    let free : nat_lt 8 (length (map (call_words c) all)) ≡ false = rw (n, le-ltb 8 (length all) few) refl in
    let says : with_setup (signatures c.operations) nothing (map (call_words c) all) ≡ Ok (record { setup = Some all; threads = [] }) =
    rw (none_wrong c all _ h free, calls_again c all h) refl in
    line_reads c nothing (record { setup = Some all; threads = [] }) (codes "setup") setup_part all h says

threads_read : (c : Component) → IsComponent c → (setup : Option (List Call)) (all done rest : List (List Call)) → all ≡ done ++ rest → length all ≤ 8 → sum_by length all ≤ 16
    → AllByRecursion (λ calls. length calls ≤ 8) rest → AllByRecursion (λ calls. All (IsCallOf c) calls) rest → AllByRecursion (λ calls. All (λ call. AreArguments call.args) calls) rest
    → Reads (matrix_grammar c) (record { setup = setup; threads = done }) (flat_map (thread_text c.operations) rest) (record { setup = setup; threads = all })
threads_read c is setup all done [] cut few count each fits arguments =
    let same : all ≡ done = cut ∙ append-nil done in
    rw same (reads_nothing (matrix_grammar c) (record { setup = setup; threads = done }))
threads_read c is setup all done (calls ∷ rest) cut few count each fits arguments =
    let n : length (done ++ calls ∷ rest) ≡ length done + length (calls ∷ rest) = simp length-append in
    let whole : length all ≡ length (done ++ calls ∷ rest) = ap length cut in
    let room : length done < 8 = omega arith in
    let sum : sum_by length all ≡ sum_by length (done ++ calls ∷ rest) = ap (sum_by length) cut in
    let split = sum_by-append length done (calls ∷ rest) in
    let first = sum_by-cons length calls rest in
    let fewer : sum_by length done + length calls ≤ 16 = omega arith in
    let said = each_said c is calls (recursion_from_All (IsCallOf c) calls fits.0) (recursion_from_All (λ call. AreArguments call.args) calls arguments.0) in
    reads_on (matrix_grammar c) (record { setup = setup; threads = done }) (record { setup = setup; threads = done ++ calls ∷ [] }) (record { setup = setup; threads = all }) (thread_text c.operations calls) (flat_map (thread_text c.operations) rest)
    (thread_reads c (record { setup = setup; threads = done }) calls said room each.0 fewer)
    (threads_read c is setup all (done ++ calls ∷ []) rest (cut ∙ sym (append_assoc done (calls ∷ []) rest)) few count each.1 fits.1 arguments.1)

pub matrix_again : (c : Component) (matrix : Matrix) → IsComponent c → IsMatrix matrix → IsOf matrix c → meaning_of (matrix_grammar c) (matrix_text c matrix) ≡ Ok matrix
matrix_again c matrix is m fits =
    let setup = setup_of matrix.setup in
    let all : MatrixDraft = record { setup = setup; threads = matrix.threads } in
    let said = each_said c is matrix.setup (recursion_from_All (IsCallOf c) matrix.setup fits.0) (recursion_from_All (λ call. AreArguments call.args) matrix.setup m.before.arguments) in
    let read = threads_read c is setup matrix.threads [] matrix.threads refl m.limits.few m.limits.calls
    (recursion_from_All (λ calls. length calls ≤ 8) matrix.threads m.limits.each)
    (recursion_from_All (λ calls. All (IsCallOf c) calls) matrix.threads fits.1)
    (recursion_from_All (λ calls. All (λ call. AreArguments call.args) calls) matrix.threads m.limits.arguments) in
    let both = reads_on (matrix_grammar c) nothing (record { setup = setup; threads = [] }) all (setup_text c.operations matrix.setup) (flat_map (thread_text c.operations) matrix.threads) (setup_reads c matrix.setup said m.before.few) read in
    let some = m.some in
    let whole : matrix_of all ≡ matrix = ap (λ (calls : List Call). let made : Matrix = record { setup = calls; threads = matrix.threads } in made) (setup_again matrix.setup) in
    reads_value (matrix_grammar c) (matrix_text c matrix) all matrix both (rw (ne_eqb (length matrix.threads) 0 (λ e. omega arith), whole) refl)

-- the same of a text that is the matrix's
pub written_again : (c : Component) (matrix : Matrix) → IsComponent c → IsMatrix matrix → IsOf matrix c → (text : List ℕ) → text ≡ matrix_text c matrix → meaning_of (matrix_grammar c) text ≡ Ok matrix
written_again c matrix is m fits text e = rw e (matrix_again c matrix is m fits)
