-- The words of a state need no escape.
use Rattle.std.proofs.Common.{◌≡◌, ℕ, ◌==◌, Bool, List, [], ◌++◌, Option, Some, None, slice_get, length, unwrap_or, codes, refl}
use Rattle.std.specs.Fmt.{decimal}
use Rattle.std.specs.List.{join_with_byte, list_any}
use Rattle.std.specs.Option.{option_map, option_map_or}
use Rattle.lu_component.specs.declared.component.Array.{Array}
use Rattle.lu_component.specs.declared.component.Op.{Op}
use Rattle.lu_component.specs.declared.instr.Arithmetic.{Arithmetic}
use Rattle.lu_component.specs.declared.instr.Arithmetic.TheVariants.{Add, Sub, Mul, Eq, Lt}
use Rattle.lu_component.specs.declared.instr.Instr.{Instr}
use Rattle.lu_component.specs.declared.instr.Instr.TheVariants.{Set, Compute, Load, Store, Cas, Lock, Unlock, Await, AwaitNot, Pick, Jump, JumpIfZero, Return}
use Rattle.lu_component.specs.declared.instr.Operand.{Operand}
use Rattle.lu_component.specs.declared.instr.Operand.TheVariants.{Reg, Num}
use Rattle.lu_component.specs.Component.{Component as AComponent, IsArray, IsComponent, IsOp}
use Rattle.lu_component.specs.Operands.{arithmetic_word, operand_word, register_word}
use Rattle.lu_text.specs.Names.{IsName}
use Rattle.lu_lang.specs.ComponentText.{array_word, instr_words, label_text, label_word, leads_to, lock_word}
use Rattle.lu_test.specs.declared.matrix.Call.{Call}
use Rattle.lu_test.specs.declared.schedule.Move.{Move}
use Rattle.lu_test.specs.Matrix.{Matrix, calls_of}
use Rattle.lu_test.specs.MatrixText.{argument_text, arguments_text, call_text, operation_name}
use Rattle.lu_machine.specs.declared.event.Event.{Event}
use Rattle.lu_machine.specs.declared.event.Event.TheVariants.{Call as Called, Return as Returned}
use Rattle.lu_machine.specs.declared.event.Outcome.{Outcome as AnOutcome}
use Rattle.lu_machine.specs.declared.event.Outcome.TheVariants.{Ret as Returns, Trap as Traps}
use Rattle.lu_machine.specs.declared.event.Status.{Status}
use Rattle.lu_machine.specs.declared.event.Status.TheVariants.{Running, Complete, Stuck as Stands}
use Rattle.lu_machine.specs.declared.thread.Activity.{Activity}
use Rattle.lu_machine.specs.declared.thread.Activity.TheVariants.{Idle, Open}
use Rattle.lu_machine.specs.declared.thread.Frame.{Frame}
use Rattle.lu_machine.specs.declared.thread.Thread.{Thread}
use Rattle.lu_machine.specs.Effects.{computed, value_of}
use Rattle.lu_machine.specs.States.{State, instr_at, owner_of}
use Rattle.lu_machine.specs.Steps.{is_blocked, owns}
use Rattle.lu_machine.proofs.Moves.{all_at}
use Rattle.lu_history.specs.Text.{event_text, history_text, operation_text, outcome_text}
use Rattle.lu_history.specs.declared.serial.SerialOp.{SerialOp}
use Rattle.lu_history.specs.declared.serial.SerialOutcome.{SerialOutcome}
use Rattle.lu_history.specs.declared.serial.SerialOutcome.TheVariants.{Ret, Trap, Stuck}
use Rattle.lu_witness.specs.Witnesses.{entries}
use Rattle.lu_explain.specs.declared.explanation.Reason.{Reason}
use Rattle.lu_explain.specs.declared.explanation.Reason.TheVariants.{After, Outcome, Nothing}
use Rattle.lu_explain.specs.Explanations.{Explanation, reason_of}
use Rattle.lu_history.specs.Text.{serial_outcome_text as ended_words}
use Rattle.lu_explain.specs.Lines.{call_words as call_after, operation_words, nothing_words, why_not, stuck_last}
use Rattle.lu_replay.specs.Text.{replay_text, status_text}
use Rattle.lu_trace.specs.declared.wording.Wording.{Wording}
use Rattle.lu_trace.specs.declared.wording.Wording.TheVariants.{Component}
use Rattle.lu_trace.specs.Wordings.{goes_on_at, is_indexed, register_becomes}
use Rattle.lu_trace.specs.Deeds.{awaited, cell_becomes, cell_is, cell_is_not, cell_word, deed, index_word, jump_deed, looked, named_cell, or_trap, owned_by, present, register_after, loaded, seen, swap_of, swapped}
use Rattle.lu_trace.specs.Lines.{call_words as call_said, code_of_operation, head_of, next_call, next_instr, next_move_words}
use Rattle.lu_picture.specs.declared.mark.End.{End}
use Rattle.lu_picture.specs.Reasons.{outcome_of, why_words}
use Rattle.lu_picture.specs.Shapes.{activity_waits, call_words, heading, instr_wait, status_words, step_words, wait_words}
use Rattle.lu_picture.specs.Escapes.{IsPlain, SaysPlain}
use Rattle.lu_picture.proofs.Plain.{ArePlain, plain_append, plain_decimal, plain_each, plain_five, plain_if, plain_joined, plain_name, plain_three}

-- ---- names

array_plain : (c : AComponent) (w : ℕ) → IsComponent c → IsPlain (array_word c w)
array_plain c w limits = by_array (slice_get c.arrays w) refl
  where
    by_array : (o : Option Array) → slice_get c.arrays w ≡ o → IsPlain (unwrap_or (option_map (λ (a : Array). a.name) o) [])
    by_array None at = refl
    by_array (Some a) at = plain_name a.name (all_at IsArray c.arrays w a limits.arrays at).name

lock_plain : (c : AComponent) (l : ℕ) → IsComponent c → IsPlain (lock_word c l)
lock_plain c l limits = by_lock (slice_get c.locks l) refl
  where
    by_lock : (o : Option (List ℕ)) → slice_get c.locks l ≡ o → IsPlain (unwrap_or o [])
    by_lock None at = refl
    by_lock (Some name) at = plain_name name (all_at IsName c.locks l name limits.locks at)

operation_plain : (c : AComponent) (op : ℕ) → IsComponent c → IsPlain (operation_name c.operations op)
operation_plain c op limits = by_op (slice_get c.operations op) refl
  where
    by_op : (o : Option Op) → slice_get c.operations op ≡ o → IsPlain (unwrap_or (option_map (λ (x : Op). x.name) o) [])
    by_op None at = refl
    by_op (Some x) at =
        plain_name x.name (all_at (IsOp (length c.arrays) (length c.locks)) c.operations op x limits.operations at).name

-- ---- calls and outcomes

argument_plain : (n : ℕ) → IsPlain (argument_text n)
argument_plain n = plain_append (codes " ") (decimal n) refl (plain_decimal n)

pub call_plain : (c : AComponent) (call : Call) → IsComponent c → IsPlain (call_text c.operations call)
call_plain c call limits =
    plain_append (operation_name c.operations call.op) (arguments_text call.args) (operation_plain c call.op limits) (plain_each argument_text argument_plain call.args)

calls_plain : (c : AComponent) (matrix : Matrix) (t k : ℕ) → IsComponent c → IsPlain (call_words c matrix t k)
calls_plain c matrix t k limits = by_call (slice_get (calls_of matrix t) k)
  where
    by_call : (o : Option Call) → IsPlain (option_map_or (λ call. call_text c.operations call) o [])
    by_call None = refl
    by_call (Some call) = call_plain c call limits

outcome_plain : (outcome : AnOutcome) → IsPlain (outcome_text outcome)
outcome_plain (Returns n) = plain_append (codes "ret ") (decimal n) refl (plain_decimal n)
outcome_plain Traps = refl

-- ---- instructions

register_plain : (r : ℕ) → IsPlain (register_word r)
register_plain r = plain_append (codes "r") (decimal r) refl (plain_decimal r)

operand_plain : (v : Operand) → IsPlain (operand_word v)
operand_plain (Reg r) = register_plain r
operand_plain (Num n) = plain_decimal n

arithmetic_plain : (a : Arithmetic) → IsPlain (arithmetic_word a)
arithmetic_plain Add = refl
arithmetic_plain Sub = refl
arithmetic_plain Mul = refl
arithmetic_plain Eq = refl
arithmetic_plain Lt = refl

label_plain : (place : ℕ) → IsPlain (label_word place)
label_plain place = plain_append (codes "L") (decimal place) refl (plain_decimal place)

words_plain : (c : AComponent) (instr : Instr) → IsComponent c → ArePlain (instr_words c instr)
words_plain c (Set to v) limits = (refl, (register_plain to, (operand_plain v, tt)))
words_plain c (Compute by to a b) limits =
    (arithmetic_plain by, (register_plain to, (operand_plain a, (operand_plain b, tt))))
words_plain c (Load to w i) limits =
    (refl, (register_plain to, (array_plain c w limits, (operand_plain i, tt))))
words_plain c (Store w i v) limits =
    (refl, (array_plain c w limits, (operand_plain i, (operand_plain v, tt))))
words_plain c (Cas to w i old new) limits =
    (refl, (register_plain to, (array_plain c w limits, (operand_plain i, (operand_plain old, (operand_plain new, tt))))))
words_plain c (Lock l) limits = (refl, (lock_plain c l limits, tt))
words_plain c (Unlock l) limits = (refl, (lock_plain c l limits, tt))
words_plain c (Await w i v) limits =
    (refl, (array_plain c w limits, (operand_plain i, (operand_plain v, tt))))
words_plain c (AwaitNot w i v) limits =
    (refl, (array_plain c w limits, (operand_plain i, (operand_plain v, tt))))
words_plain c (Pick to count) limits = (refl, (register_plain to, (plain_decimal count, tt)))
words_plain c (Jump target) limits = (refl, (label_plain target, tt))
words_plain c (JumpIfZero v target) limits = (refl, (operand_plain v, (label_plain target, tt)))
words_plain c (Return v) limits = (refl, (operand_plain v, tt))

label_text_plain : (code : List Instr) (place : ℕ) → IsPlain (label_text code place)
label_text_plain code place =
    plain_if (list_any (leads_to place) code) (label_word place ++ codes ": ") [] (plain_append (label_word place) (codes ": ") (label_plain place) refl) refl

instr_plain : (c : AComponent) (f : Frame) (instr : Instr) → IsComponent c → IsPlain (head_of Component c f instr)
instr_plain c f instr limits =
    plain_three (label_text (code_of_operation c f.op) f.place) (join_with_byte 32 (instr_words c instr)) (codes "  # ") (label_text_plain (code_of_operation c f.op) f.place) (plain_joined (instr_words c instr) (words_plain c instr limits)) refl

-- ---- what instructions do

becomes_plain : (f : Frame) (r n : ℕ) → IsPlain (register_becomes Component f r n)
becomes_plain f r n =
    plain_three (register_word r) (codes " = ") (decimal n) (register_plain r) refl (plain_decimal n)

index_plain : (indexed : Bool) (i : ℕ) → IsPlain (index_word indexed i)
index_plain indexed i =
    plain_if indexed (codes "[" ++ decimal i ++ codes "]") [] (plain_three (codes "[") (decimal i) (codes "]") refl (plain_decimal i) refl) refl

cell_plain : (how : Wording) (c : AComponent) (w i : ℕ) → IsComponent c → IsPlain (cell_word how c (record { array = w; index = i }))
cell_plain how c w i limits =
    plain_append (array_word c w) (index_word (is_indexed how w) i) (array_plain c w limits) (index_plain (is_indexed how w) i)

-- a cell, what is said of it, and a number
cell_said : (how : Wording) (c : AComponent) (w i n : ℕ) (said : List ℕ) → IsComponent c → IsPlain said → IsPlain (cell_word how c (record { array = w; index = i }) ++ said ++ decimal n)
cell_said how c w i n said limits p =
    plain_three (cell_word how c (record { array = w; index = i })) said (decimal n) (cell_plain how c w i limits) p (plain_decimal n)

or_trap_plain : (said : ℕ → List ℕ) → ((n : ℕ) → IsPlain (said n)) → (o : Option ℕ) → IsPlain (or_trap said o)
or_trap_plain said p None = refl
or_trap_plain said p (Some n) = p n

look_plain : (s : State) (f : Frame) (w : ℕ) (i : Operand) → IsComponent s.component → IsPlain (looked Component s f w i)
look_plain s f w i limits =
    or_trap_plain (cell_is Component s.component (named_cell f w i)) (λ n. cell_said Component s.component w (value_of f i) n (codes " is ") limits refl) (seen s f w i)

swap_plain : (c : AComponent) (f : Frame) (to w : ℕ) (i expected desired : Operand) (n : ℕ) → IsComponent c → IsPlain (swapped Component c f (swap_of f to w i expected desired) n)
swap_plain c f to w i expected desired n limits =
    let swap = swap_of f to w i expected desired in
    let becomes = cell_becomes Component c swap.cell swap.desired in
    let is = cell_is Component c swap.cell n in
    plain_if (n == swap.expected) (becomes ++ register_after Component f to 1) (is ++ register_after Component f to 0) (two becomes 1 (cell_said Component c w (value_of f i) swap.desired (codes " = ") limits refl)) (two is 0 (cell_said Component c w (value_of f i) n (codes " is ") limits refl))
  where
    two : (a : List ℕ) (n : ℕ) → IsPlain a → IsPlain (a ++ register_after Component f to n)
    two a n p =
        plain_append a (register_after Component f to n) p (plain_append (codes ", ") (register_becomes Component f to n) refl (becomes_plain f to n))

goes_on_plain : (f : Frame) (place : ℕ) → IsPlain (goes_on_at Component f place)
goes_on_plain f place =
    plain_append (codes "jumps to ") (label_word place) refl (label_plain place)

jump_plain : (f : Frame) (target n : ℕ) → IsPlain (jump_deed Component f target n)
jump_plain f target n =
    plain_if (n == 0) (goes_on_at Component f target) (codes "continues") (goes_on_plain f target) refl

deed_plain : (s : State) (m : Move) (f : Frame) (instr : Instr) → IsComponent s.component → IsPlain (deed Component s m f instr)
deed_plain s m f (Set to v) limits = becomes_plain f to (value_of f v)
deed_plain s m f (Compute by to a b) limits =
    becomes_plain f to (computed by (value_of f a) (value_of f b))
deed_plain s m f (Load to w i) limits =
    or_trap_plain (loaded Component s.component f (record { to = to; cell = named_cell f w i })) (λ n. becomes_plain f to n) (seen s f w i)
deed_plain s m f (Store w i v) limits =
    or_trap_plain (λ n. cell_becomes Component s.component (named_cell f w i) (value_of f v)) (λ n. cell_said Component s.component w (value_of f i) (value_of f v) (codes " = ") limits refl) (seen s f w i)
deed_plain s m f (Cas to w i expected desired) limits =
    or_trap_plain (swapped Component s.component f (swap_of f to w i expected desired)) (λ n. swap_plain s.component f to w i expected desired n limits) (seen s f w i)
deed_plain s m f (Lock l) limits =
    plain_append (lock_word s.component l) (codes " is taken") (lock_plain s.component l limits) refl
deed_plain s m f (Unlock l) limits =
    plain_if (owns s m.thread l) (lock_word s.component l ++ codes " is free") (codes "trap") (plain_append (lock_word s.component l) (codes " is free") (lock_plain s.component l limits) refl) refl
deed_plain s m f (Await w i v) limits = look_plain s f w i limits
deed_plain s m f (AwaitNot w i v) limits = look_plain s f w i limits
deed_plain s m f (Pick to count) limits = becomes_plain f to m.pick
deed_plain s m f (Jump target) limits = goes_on_plain f target
deed_plain s m f (JumpIfZero v target) limits = jump_plain f target (value_of f v)
deed_plain s m f (Return v) limits =
    plain_append (codes "ret ") (decimal (value_of f v)) refl (plain_decimal (value_of f v))

-- ---- steps

next_call_plain : (s : State) (t done : ℕ) → IsComponent s.component → IsPlain (next_call s t done)
next_call_plain s t done limits = by_call (slice_get (calls_of s.matrix t) done)
  where
    by_call : (o : Option Call) → IsPlain (option_map_or (λ call. call_said s.component call) o [])
    by_call None = refl
    by_call (Some call) =
        plain_append (codes "call ") (call_text s.component.operations call) refl (call_plain s.component call limits)

next_instr_plain : (s : State) (m : Move) (f : Frame) → IsComponent s.component → IsPlain (next_instr Component s m f)
next_instr_plain s m f limits = by_instr (instr_at s.component f.op f.place)
  where
    by_instr : (o : Option Instr) → IsPlain (option_map_or (λ instr. head_of Component s.component f instr ++ deed Component s m f instr) o [])
    by_instr None = refl
    by_instr (Some instr) =
        plain_append (head_of Component s.component f instr) (deed Component s m f instr) (instr_plain s.component f instr limits) (deed_plain s m f instr limits)

next_plain : (s : State) (m : Move) (done : ℕ) (activity : Activity) → IsComponent s.component → IsPlain (next_move_words Component s m done activity)
next_plain s m done Idle limits = next_call_plain s m.thread done limits
next_plain s m done (Open f) limits = next_instr_plain s m f limits

steps_plain : (s : State) (m : Move) → IsComponent s.component → IsPlain (step_words Component s m)
steps_plain s m limits = by_thread (slice_get s.threads m.thread)
  where
    by_thread : (o : Option Thread) → IsPlain (option_map_or (λ thread. next_move_words Component s m thread.done thread.activity) o [])
    by_thread None = refl
    by_thread (Some thread) = next_plain s m thread.done thread.activity limits

-- ---- waits

owned_plain : (o : Option ℕ) → IsPlain (owned_by o)
owned_plain None = refl
owned_plain (Some t) =
    plain_three (codes ", which thread ") (decimal t) (codes " holds") refl (plain_decimal t) refl

present_plain : (o : Option ℕ) → IsPlain (present o)
present_plain None = refl
present_plain (Some n) = plain_append (codes ", and it is ") (decimal n) refl (plain_decimal n)

awaited_plain : (how : Wording) (s : State) (f : Frame) (instr : Instr) → IsComponent s.component → IsPlain (awaited how s f instr)
awaited_plain how s f (Lock l) limits =
    plain_three (codes "waits for lock ") (lock_word s.component l) (owned_by (owner_of s l)) refl (lock_plain s.component l limits) (owned_plain (owner_of s l))
awaited_plain how s f (Await w i v) limits =
    let cell = cell_is how s.component (named_cell f w i) (value_of f v) in
    plain_three (codes "waits until ") cell (present (seen s f w i)) refl (cell_said how s.component w (value_of f i) (value_of f v) (codes " is ") limits refl) (present_plain (seen s f w i))
awaited_plain how s f (AwaitNot w i v) limits =
    plain_append (codes "waits until ") (cell_is_not how s.component (named_cell f w i) (value_of f v)) refl (cell_said how s.component w (value_of f i) (value_of f v) (codes " is not ") limits refl)
awaited_plain how s f _ limits = refl

waits_plain : (how : Wording) (s : State) (t : ℕ) → IsComponent s.component → IsPlain (wait_words how s t)
waits_plain how s t limits = by_thread (slice_get s.threads t)
  where
    by_instr : (f : Frame) (o : Option Instr) → IsPlain (option_map_or (instr_wait how s f) o [])
    by_instr f None = refl
    by_instr f (Some instr) =
        plain_if (is_blocked s f instr) (awaited how s f instr) [] (awaited_plain how s f instr limits) refl

    by_activity : (activity : Activity) → IsPlain (activity_waits how s activity)
    by_activity Idle = refl
    by_activity (Open f) = by_instr f (instr_at s.component f.op f.place)

    by_thread : (o : Option Thread) → IsPlain (option_map_or (λ thread. activity_waits how s thread.activity) o [])
    by_thread None = refl
    by_thread (Some thread) = by_activity thread.activity

-- ---- the heading and the replay

heading_plain : (c : AComponent) (n : ℕ) (status : Status) → IsComponent c → IsPlain (heading c n status)
heading_plain c n status limits =
    plain_five c.name (codes ", ") (decimal n) (codes " moves, ") (status_words status) (plain_name c.name limits.name) refl (plain_decimal n) refl (stands status)
  where
    stands : (status : Status) → IsPlain (status_words status)
    stands Running = refl
    stands Complete = refl
    stands Stands = refl

numbers_plain : (t k : ℕ) → IsPlain (operation_text t k)
numbers_plain t k =
    plain_three (decimal t) (codes " ") (decimal k) (plain_decimal t) refl (plain_decimal k)

event_plain : (event : Event) → IsPlain (event_text event)
event_plain (Called t k) =
    plain_three (codes "call ") (operation_text t k) (codes "\n") refl (numbers_plain t k) refl
event_plain (Returned t k outcome) =
    plain_five (codes "return ") (operation_text t k) (codes " ") (outcome_text outcome) (codes "\n") refl (numbers_plain t k) refl (outcome_plain outcome) refl

replay_plain : (history : List Event) (status : Status) → IsPlain (replay_text history status)
replay_plain history status =
    plain_append (status_text status) (history_text history) (stands status) (plain_each event_text event_plain history)
  where
    stands : (status : Status) → IsPlain (status_text status)
    stands Running = refl
    stands Complete = refl
    stands Stands = refl

-- ---- reasons

ended_plain : (o : SerialOutcome) → IsPlain (ended_words o)
ended_plain (Ret n) = plain_append (codes "ret ") (decimal n) refl (plain_decimal n)
ended_plain Trap = refl
ended_plain Stuck = refl

named_plain : (c : AComponent) (matrix : Matrix) (t k : ℕ) → IsComponent c → IsPlain (operation_words c matrix t k)
named_plain c matrix t k limits =
    plain_three (codes "T") (decimal t) (option_map_or (call_after c) (slice_get (calls_of matrix t) k) []) refl (plain_decimal t) (by_call (slice_get (calls_of matrix t) k))
  where
    by_call : (o : Option Call) → IsPlain (option_map_or (call_after c) o [])
    by_call None = refl
    by_call (Some call) =
        plain_append (codes " ") (call_text c.operations call) refl (call_plain c call limits)

nothing_plain : (c : AComponent) (matrix : Matrix) (stuck : Option (ℕ × ℕ)) → IsComponent c → IsPlain (nothing_words c matrix stuck)
nothing_plain c matrix None limits = refl
nothing_plain c matrix (Some (t, k)) limits =
    plain_three (codes ", but nothing can follow ") (operation_words c matrix t k) (codes ", which is stuck") refl (named_plain c matrix t k limits) refl

reason_plain : (c : AComponent) (matrix : Matrix) (order : List SerialOp) (reason : Reason) → IsComponent c → IsPlain (why_not c matrix order reason)
reason_plain c matrix order (After a) limits =
    plain_three (codes ", but ") (operation_words c matrix a.t a.k) (codes " precedes it") refl (named_plain c matrix a.t a.k limits) refl
reason_plain c matrix order (Outcome o) limits =
    plain_append (codes ", but serially ") (ended_words o) refl (ended_plain o)
reason_plain c matrix order Nothing limits = nothing_plain c matrix (stuck_last order) limits

why_plain : (c : AComponent) (matrix : Matrix) (why : Option Explanation) (t k : ℕ) (end : Option End) → IsComponent c → IsPlain (why_words c matrix why t k end)
why_plain c matrix None t k end limits = refl
why_plain c matrix (Some e) t k end limits =
    plain_if (k == length (entries t e.order)) (option_map_or said (reason_of e t) []) [] (by_reason (reason_of e t)) refl
  where
    said : Reason → List ℕ
    said reason = ended_words (outcome_of end) ++ why_not c matrix e.order reason

    by_reason : (o : Option Reason) → IsPlain (option_map_or said o [])
    by_reason None = refl
    by_reason (Some reason) =
        plain_append (ended_words (outcome_of end)) (why_not c matrix e.order reason) (ended_plain (outcome_of end)) (reason_plain c matrix e.order reason limits)

pub says_plain : (s : State) → IsComponent s.component → SaysPlain s
says_plain s limits = record {
  heading = λ n status. heading_plain s.component n status limits;
  replay = replay_plain;
  calls = λ t k. calls_plain s.component s.matrix t k limits;
  steps = λ m. steps_plain s m limits;
  waits = λ how t. waits_plain how s t limits;
  why = λ why t k end. why_plain s.component s.matrix why t k end limits;
}
