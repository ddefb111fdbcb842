-- The text of a matrix: what each line says, or what is wrong with it.
use Rattle.std.specs.Prelude.{ℕ, ◌+◌, ◌≤◌, Bool, false, List, [], ◌∷◌, ◌++◌, length, map, drop, Option, Some, None, is_some, is_none, Result, Ok, Err, codes, ◌==◌, ◌&&◌, ◌||◌, not, nat_le, nat_lt, sum_by, if◌then◌else◌}
use Rattle.std.specs.List.{list_all, slice_split, filter_map, flat_map}
use Rattle.std.specs.Str.{bytes_eq}
use Rattle.std.specs.Fmt.{decimal}
use Rattle.std.specs.Option.{unwrap_or, option_map, option_map_or, option_and_then}
use Rattle.std.specs.Prelude.{slice_get}
use Rattle.lu_text.specs.Numbers.{value_in}
use denote.Ref.{Bor}
use Rattle.lu_text.specs.Lines.{texts, words_of, before_comment, is_allowed}
use Rattle.lu_text.specs.Words.{Word}
use Rattle.lu_text.specs.declared.fault.Fault.{Fault}
use Rattle.lu_text.specs.Faults.{Grammar, first_fault, meaning_of_lines, or_else, says}
use Rattle.lu_component.specs.declared.component.Op.{Op}
use Rattle.lu_component.specs.Component.{Component}
use Rattle.lu_test.specs.declared.matrix.Call.{Call}
use Rattle.lu_test.specs.declared.matrix_fault.MatrixFaultKind.{MatrixFaultKind}
use Rattle.lu_test.specs.declared.matrix_fault.MatrixFaultKind.TheVariants.{Byte, Form, UnknownOp, Arguments, Number, Limit}
use Rattle.lu_test.specs.Matrix.{Matrix, AreThreads, IsSetup}
use Rattle.lu_test.specs.Signatures.{Signature, signature_number, signatures, takes}

-- ---- the words of a call: a name and arguments

-- the number of the signature that the first word names
abbrev pub named_operation : List Signature → List Word → Option ℕ
named_operation signatures [] = None
named_operation signatures (name ∷ arguments) = signature_number signatures name

-- the signature itself
abbrev pub signature_of : List Signature → List Word → Option Signature
signature_of signatures words =
    option_and_then (slice_get signatures) (named_operation signatures words)

abbrev pub has_name : List Word → Bool
has_name words = not (length words == 0)

abbrev pub has_operation : List Signature → List Word → Bool
has_operation signatures words = is_some (named_operation signatures words)

-- there is the operation, and as many arguments as it takes
abbrev pub has_arguments : List Signature → List Word → Bool
has_arguments signatures words =
    option_map_or (λ s. takes s.arity (length (drop 1 words))) (signature_of signatures words) false

-- it is known how many arguments the operation takes
abbrev pub has_arity : List Signature → List Word → Bool
has_arity signatures words =
    option_map_or (λ s. is_some s.arity) (signature_of signatures words) false

-- the words of the arguments, which are looked at where it is known how many there are to be
abbrev pub argument_words : List Signature → List Word → List Word
argument_words signatures words = if has_arity signatures words then drop 1 words else []

abbrev pub has_values : List Signature → List Word → Bool
has_values signatures words =
    list_all (λ word. is_some (value_in word)) (argument_words signatures words)

-- the numbers that these words are
abbrev pub arguments_in : List Signature → List Word → List ℕ
arguments_in signatures words = filter_map value_in (argument_words signatures words)

-- the call that the words say, where they name an operation
abbrev pub call_of : List Signature → List Word → Option Call
call_of signatures words =
    option_map (λ number. record { op = number; args = arguments_in signatures words })
    (named_operation signatures words)

-- the calls that the words of each part say
abbrev pub calls_said : List Signature → List (List Word) → List Call
calls_said signatures parts = filter_map (call_of signatures) parts

-- ---- lines

-- what is read so far: the calls of the setup line, where there was one, and those of each thread
pub record MatrixDraft : Type 0 where
  pub setup : Option (List Call)
  pub threads : List (List Call)

-- nothing is read
abbrev pub nothing : MatrixDraft
nothing = record { setup = None; threads = [] }

-- no line with words is read
abbrev pub is_nothing : MatrixDraft → Bool
is_nothing draft = is_none draft.setup && length draft.threads == 0

-- the matrix of what is read
abbrev pub matrix_of : MatrixDraft → Matrix
matrix_of draft = record { setup = unwrap_or draft.setup []; threads = draft.threads }

-- the limits hold of what is read
abbrev pub IsDraft : MatrixDraft → Type 0
IsDraft draft = AreThreads draft.threads × IsSetup (matrix_of draft).setup

-- no more signatures than a component has operations
abbrev pub AreFew : List Signature → Type 0
AreFew signatures = length signatures ≤ 16

-- no more calls of all threads than a matrix has
abbrev pub HasRoom : MatrixDraft → Type 0
HasRoom draft = sum_by length draft.threads ≤ 16

-- the limits hold that the reader counts on
abbrev pub CanRead : List Signature → MatrixDraft → Type 0
CanRead signatures draft = AreFew signatures × HasRoom draft

-- what is wrong with the calls of a line, for which there is room or not
abbrev pub calls_fault : List Signature → List (List Word) → Bool → Option MatrixFaultKind
calls_fault signatures calls full =
    first_fault ((not (list_all has_name calls), Form)
    ∷ (not (list_all (has_operation signatures) calls), UnknownOp)
    ∷ (not (list_all (has_arguments signatures) calls), Arguments)
    ∷ (not (list_all (has_values signatures) calls), Number)
    ∷ (full, Limit) ∷ [])

-- there is no room for one more thread of n calls
abbrev pub is_full : List (List Call) → ℕ → Bool
is_full threads n =
    nat_le 8 (length threads) || (nat_lt 8 n || nat_lt 16 (sum_by length threads + n))

-- what is wrong with the calls of one more thread; or the draft with it
abbrev pub with_thread : List Signature → MatrixDraft → List (List Word)
    → Result MatrixDraft MatrixFaultKind
with_thread signatures draft calls =
    or_else (calls_fault signatures calls (is_full draft.threads (length calls)))
    (record draft { threads = draft.threads ++ calls_said signatures calls ∷ [] })

-- what is wrong with the calls of the setup; or the draft with them
abbrev pub with_setup : List Signature → MatrixDraft → List (List Word)
    → Result MatrixDraft MatrixFaultKind
with_setup signatures draft calls =
    or_else (calls_fault signatures calls (nat_lt 8 (length calls)))
    (record draft { setup = Some (calls_said signatures calls) })

-- after the first word stands nothing, or calls
abbrev pub calls_after : List Word → List (List Word) → List (List Word)
calls_after words parts = if length words == 0 && length parts == 0 then [] else words ∷ parts

-- the first word is `thread`, or, on the first line with words, `setup`
abbrev pub by_keyword : List Signature → MatrixDraft → Word → List (List Word)
    → Result MatrixDraft MatrixFaultKind
by_keyword signatures draft word calls =
    if bytes_eq word (codes "thread") then with_thread signatures draft calls
    else (if bytes_eq word (codes "setup") && is_nothing draft then with_setup signatures draft
    calls else Err Form)

-- a line by the words of its parts, between which stands `;`
abbrev pub by_parts : List Signature → MatrixDraft → List (List Word)
    → Result MatrixDraft MatrixFaultKind
by_parts signatures draft [] = Ok draft
by_parts signatures draft ([] ∷ []) = Ok draft
by_parts signatures draft ([] ∷ part ∷ parts) = Err Form
by_parts signatures draft ((word ∷ words) ∷ parts) =
    by_keyword signatures draft word (calls_after words parts)

-- the words of each of these parts in memory
abbrev pub words_in : List (Bor (List ℕ)) → List (List Word)
words_in parts = map words_of (texts parts)

-- the same of a line's first part, which has these words, and its other parts
abbrev pub all_words : List (Bor (List ℕ)) → List (Bor (List ℕ)) → List (List Word)
all_words words others = texts words ∷ words_in others

-- the words of each part of a line
abbrev pub parts_in : List ℕ → List (List Word)
parts_in line = map words_of (slice_split (λ b. b == 59) (before_comment line))

unfoldable pub line_of : List Signature → MatrixDraft → List ℕ → Result MatrixDraft MatrixFaultKind
line_of signatures draft line =
    if list_all is_allowed line then by_parts signatures draft (parts_in line) else Err Byte

-- at the end there is a thread
abbrev pub finished : MatrixDraft → Result Matrix MatrixFaultKind
finished draft = says ((length draft.threads == 0, Limit) ∷ []) (matrix_of draft)

-- the text of a matrix, by the signatures of the operations that its calls may name
abbrev pub grammar_by : List Signature → Grammar MatrixFaultKind MatrixDraft Matrix
grammar_by signatures =
    record { nothing = nothing; line = line_of signatures; finish = finished }

-- the text of a matrix of a component
abbrev pub matrix_grammar : Component → Grammar MatrixFaultKind MatrixDraft Matrix
matrix_grammar c = grammar_by (signatures c.operations)

-- the matrix of these lines, or their first fault
abbrev pub matrix_said : Component → List (List ℕ) → Result Matrix (Fault MatrixFaultKind)
matrix_said c lines = meaning_of_lines (matrix_grammar c) lines

-- ---- the canonical text

-- the name of operation number i
abbrev pub operation_name : List Op → ℕ → Word
operation_name operations i = unwrap_or (option_map (λ o. o.name) (slice_get operations i)) []

-- an argument after a space
abbrev pub argument_text : ℕ → List ℕ
argument_text n = 32 ∷ decimal n

abbrev pub arguments_text : List ℕ → List ℕ
arguments_text arguments = flat_map argument_text arguments

-- a call: the operation's name and the arguments
abbrev pub call_text : List Op → Call → List ℕ
call_text operations call = operation_name operations call.op ++ arguments_text call.args

-- a call after `;`
abbrev pub other_text : List Op → Call → List ℕ
other_text operations call = 59 ∷ call_text operations call

abbrev pub others_text : List Op → List Call → List ℕ
others_text operations calls = flat_map (other_text operations) calls

-- after the first word nothing, or a space and the calls with `;` between them
abbrev pub calls_text : List Op → List Call → List ℕ
calls_text operations [] = []
calls_text operations (call ∷ calls) =
    32 ∷ call_text operations call ++ others_text operations calls

-- a line of these calls
abbrev pub line_text : List Op → Word → List Call → List ℕ
line_text operations word calls = word ++ calls_text operations calls ++ 10 ∷ []

abbrev pub thread_text : List Op → List Call → List ℕ
thread_text operations calls = line_text operations (codes "thread") calls

-- nothing where there is no setup
abbrev pub setup_text : List Op → List Call → List ℕ
setup_text operations [] = []
setup_text operations (call ∷ calls) = line_text operations (codes "setup") (call ∷ calls)

abbrev pub threads_text : List Op → List (List Call) → List ℕ
threads_text operations threads = flat_map (thread_text operations) threads

abbrev pub matrix_text : Component → Matrix → List ℕ
matrix_text c matrix =
    setup_text c.operations matrix.setup ++ threads_text c.operations matrix.threads
