-- In a text that is read, the labels stand where its jumps lead.
use Rattle.std.proofs.Common.{◌≡◌, ℕ, ◌+◌, ◌<◌, Bool, true, false, cond, List, [], ◌∷◌, ◌++◌, length, Option, Some, None, Result, Ok, Err, refl, subst, sym, ap, ◌∙◌, arith}
use Rattle.std.specs.Prelude.{◌||◌, not, nat_le, nat_lt, is_some, option_and_then, map, slice_get, codes, find}
use Rattle.std.specs.List.{AllByRecursion, list_all}
use Rattle.std.specs.Str.{bytes_eq}
use Rattle.std.specs.Option.{unwrap_or, option_map}
use Rattle.std.proofs.Math.ListN.{get_or-append}
use Rattle.std.proofs.lemmas.Bool.{or_parts, and_parts, not-false}
use Rattle.std.proofs.lemmas.List.{length-append, length_push, get_or_push}
use Rattle.std.proofs.lemmas.Option.{slice_get_within, slice_get-get_or, get_or_from_slice_get}
use Rattle.std.proofs.lemmas.Slice.Eq.{bytes_eq-Decides}
use Rattle.lu_text.specs.Names.{has_name_form, is_long}
use Rattle.lu_text.specs.Lines.{is_allowed, lines_of, words_of}
use Rattle.lu_text.specs.Words.{Word, exactly_one, exactly_two, exactly_three, exactly_five}
use Rattle.lu_text.specs.Faults.{Tests, says, on_line, then_lines, lines_after, meaning_of}
use Rattle.lu_text.proofs.Says.{NoneHold, said}
use Rattle.lu_component.specs.declared.instr.Instr.{Instr}
use Rattle.lu_component.specs.declared.instr.Instr.TheVariants as instr
use Rattle.lu_component.specs.declared.instr.Arithmetic.{Arithmetic}
use Rattle.lu_component.specs.declared.component.Op.{Op}
use Rattle.lu_component.specs.Component.{Component, operation_number}
use Rattle.lu_lang.specs.declared.draft.Label.{Label}
use Rattle.lu_lang.specs.declared.draft.Statement.{Statement}
use Rattle.lu_lang.specs.declared.draft.Statement.TheVariants.{Plain, Jump, JumpIfZero}
use Rattle.lu_lang.specs.declared.keyword.Keyword.{Keyword}
use Rattle.lu_lang.specs.declared.keyword.Keyword.TheVariants as keyword
use Rattle.lu_lang.specs.declared.fault.LangFaultKind.{LangFaultKind}
use Rattle.lu_lang.specs.declared.fault.LangFaultKind.TheVariants.{Byte, Missing, Form, Number, Limit, Flow, Name}
use Rattle.lu_lang.specs.Draft.{OpenOp, ComponentDraft, nothing, named}
use Rattle.lu_lang.specs.Words.{keyword_in}
use Rattle.lu_lang.specs.Grammar.{value, is_value, register, is_register, operand, is_operand, found_array, found_lock, find_label, array_number, component_line, local_line, array_line, lock_line, op_line, declaration, set_line, compute_line, load_line, cas_line, locked, cell_and_value, as_plain, pick_line, jump_line, jump_if_zero_line, return_line, statement, sooner, place_fault, with_label, with_statement, placed, instr_line, label_used, is_there, are_there, ends_well, target, resolved, op_of, end_line, by_label, by_state, closed, by_words, line_of, label_in, declared, component_grammar}
use Rattle.lu_lang.specs.Labels.{Marked, nothing_marked, outside_line, inside_line, marked_line, with_words, all_marks, marks_of_lines, name_if, label_on, label_at, label_named, jump_of, jump_on, labels_of, jumps_of, target_of, led_to, AreTargets}
use Rattle.lu_lang.proofs.Placing.{no_fault}

-- ---- lists

slice_get_more : {X : Type 0} (xs ys : List X) (i : ℕ) (x : X) → slice_get xs i ≡ Some x → slice_get (xs ++ ys) i ≡ Some x
slice_get_more xs ys i x e =
    let within : i < length xs = slice_get_within xs i x e in
    let all : length (xs ++ ys) ≡ length xs + length ys = length-append xs ys in
    let got = slice_get-get_or (xs ++ ys) i x (omega arith) in
    let before = get_or-append xs ys x i within in
    let is = get_or_from_slice_get xs i x x e in
    cc

slice_get_last : {X : Type 0} (xs : List X) (x : X) → slice_get (xs ++ x ∷ []) (length xs) ≡ Some x
slice_get_last xs x =
    let all : length (xs ++ x ∷ []) ≡ length xs + 1 = length_push xs x in
    let got = slice_get-get_or (xs ++ x ∷ []) (length xs) x (omega arith) in
    let is = get_or_push xs x x (length xs) refl in
    cc

each_weaker : {X : Type 0} (P Q : X → Type 0) → ((x : X) → P x → Q x) → (xs : List X) → AllByRecursion P xs → AllByRecursion Q xs
each_weaker P Q h [] all = tt
each_weaker P Q h (x ∷ xs) all = (h x all.0, each_weaker P Q h xs all.1)

each_push : {X : Type 0} (P : X → Type 0) (xs : List X) (x : X) → AllByRecursion P xs → P x → AllByRecursion P (xs ++ x ∷ [])
each_push P [] x all last = (last, tt)
each_push P (y ∷ ys) x all last = (all.0, each_push P ys x all.1 last)

map_last : {X Y : Type 0} (f : X → Y) (xs : List X) (x : X) → map f (xs ++ x ∷ []) ≡ map f xs ++ f x ∷ []
map_last f [] x = refl
map_last f (y ∷ ys) x = ap (λ zs. f y ∷ zs) (map_last f ys x)

same_bytes : (a b : List ℕ) → bytes_eq a b ≡ true → a ≡ b
same_bytes a b e = (bytes_eq-Decides a b).0 e

-- the word is the one and not the other
other_word : (word one other : Word) → bytes_eq word one ≡ true → bytes_eq one other ≡ false → bytes_eq word other ≡ false
other_word word one other e apart = subst (λ (w : Word). bytes_eq w other ≡ false) (sym (same_bytes word one e)) apart

-- ---- statements

abbrev HasNoTarget : Statement → Type 0
HasNoTarget (Plain i) = target_of i ≡ None
HasNoTarget (Jump label) = Unit {0}
HasNoTarget (JumpIfZero v label) = Unit {0}

-- a statement that names this label, or none
abbrev IsNaming : Option Word → Statement → Type 0
IsNaming name s = (label_used s ≡ name) × HasNoTarget s

abbrev Names : Option Word → Result Statement LangFaultKind → Type 0
Names name r = (s : Statement) → r ≡ Ok s → IsNaming name s

names : (name : Option Word) (tests : Tests LangFaultKind) (s : Statement) → IsNaming name s → Names name (says tests s)
names name tests s h t e = let x = said tests s t e in subst (IsNaming name) x.same h

none_named : (name : Option Word) (kind : LangFaultKind) → Names name (Err kind)
none_named name kind s e = absurd cc

set_names : (o : Option (Word × Word)) → Names None (set_line o)
set_names None = none_named _ _
set_names (Some (dst, v)) = names None ((not (is_register dst), Form) ∷ (not (is_operand v), Number) ∷ []) (Plain (instr.Set (register dst) (operand v))) (refl, refl)

compute_names : (by : Arithmetic) (o : Option (Word × Word × Word)) → Names None (compute_line by o)
compute_names by None = none_named _ _
compute_names by (Some (dst, a, b)) = names None ((not (is_register dst), Form) ∷ (not (is_operand a) || not (is_operand b), Number) ∷ []) (Plain (instr.Compute by (register dst) (operand a) (operand b))) (refl, refl)

load_names : (d : ComponentDraft) (o : Option (Word × Word × Word)) → Names None (load_line d o)
load_names d None = none_named _ _
load_names d (Some (dst, array, i)) = names None ((not (is_register dst) || not (has_name_form array), Form) ∷ (not (is_operand i), Number) ∷ (is_long array, Limit) ∷ (not (is_some (found_array d array)), Name) ∷ []) (Plain (instr.Load (register dst) (array_number d array) (operand i))) (refl, refl)

cas_names : (d : ComponentDraft) (o : Option (Word × Word × Word × Word × Word)) → Names None (cas_line d o)
cas_names d None = none_named _ _
cas_names d (Some (dst, array, i, old, new)) = names None ((not (is_register dst) || not (has_name_form array), Form) ∷ (not (is_operand i) || (not (is_operand old) || not (is_operand new)), Number) ∷ (is_long array, Limit) ∷ (not (is_some (found_array d array)), Name) ∷ []) (Plain (instr.Cas (register dst) (array_number d array) (operand i) (operand old) (operand new))) (refl, refl)

plain_names : {A : Type 0} (instruction : A → Instr) → ((x : A) → target_of (instruction x) ≡ None) → (r : Result A LangFaultKind) → Names None (as_plain instruction r)
plain_names instruction none (Err kind) s e = absurd cc
plain_names instruction none (Ok x) s e =
    let same : Plain (instruction x) ≡ s = cc in
    subst (IsNaming None) same (refl, none x)

pick_names : (o : Option (Word × Word)) → Names None (pick_line o)
pick_names None = none_named _ _
pick_names (Some (dst, count)) = names None ((not (is_register dst), Form) ∷ (not (is_value count), Number) ∷ (nat_lt (value count) 1 || nat_lt 8 (value count), Limit) ∷ []) (Plain (instr.Pick (register dst) (value count))) (refl, refl)

jump_names : (o : Option Word) → Names o (jump_line o)
jump_names None = none_named _ _
jump_names (Some label) = names (Some label) ((not (has_name_form label), Form) ∷ (is_long label, Limit) ∷ []) (Jump label) (refl, tt)

jump_if_zero_names : (o : Option (Word × Word)) → Names (option_map (λ w. w.1) o) (jump_if_zero_line o)
jump_if_zero_names None = none_named _ _
jump_if_zero_names (Some (v, label)) = names (Some label) ((not (has_name_form label), Form) ∷ (not (is_operand v), Number) ∷ (is_long label, Limit) ∷ []) (JumpIfZero (operand v) label) (refl, tt)

return_names : (o : Option Word) → Names None (return_line o)
return_names None = none_named _ _
return_names (Some v) = names None ((not (is_operand v), Number) ∷ []) (Plain (instr.Return (operand v))) (refl, refl)

-- a statement names the label that its line names
statement_names : (d : ComponentDraft) (k : Option Keyword) (words : List Word) → Names (label_named k words) (statement d k words)
statement_names d None words = none_named _ _
statement_names d (Some keyword.Set) words = set_names (exactly_two words)
statement_names d (Some (keyword.Compute by)) words = compute_names by (exactly_three words)
statement_names d (Some keyword.Load) words = load_names d (exactly_three words)
statement_names d (Some keyword.Store) words = plain_names (λ (array, i, v). instr.Store array i v) (λ x. refl) (cell_and_value d (exactly_three words))
statement_names d (Some keyword.Cas) words = cas_names d (exactly_five words)
statement_names d (Some keyword.Lock) words = plain_names (λ lock. instr.Lock lock) (λ x. refl) (locked d (exactly_one words))
statement_names d (Some keyword.Unlock) words = plain_names (λ lock. instr.Unlock lock) (λ x. refl) (locked d (exactly_one words))
statement_names d (Some keyword.Await) words = plain_names (λ (array, i, v). instr.Await array i v) (λ x. refl) (cell_and_value d (exactly_three words))
statement_names d (Some keyword.AwaitNot) words = plain_names (λ (array, i, v). instr.AwaitNot array i v) (λ x. refl) (cell_and_value d (exactly_three words))
statement_names d (Some keyword.Pick) words = pick_names (exactly_two words)
statement_names d (Some keyword.Jump) words = jump_names (exactly_one words)
statement_names d (Some keyword.JumpIfZero) words = jump_if_zero_names (exactly_two words)
statement_names d (Some keyword.Return) words = return_names (exactly_one words)

-- ---- the open operation

abbrev StandsAt : List (Option Word) → Label → Type 0
StandsAt marks l = slice_get marks l.place ≡ Some (Some l.name)

-- its lines have these labels, and jump to these
record IsOpen (b : OpenOp) (marks jumps : List (Option Word)) : Type 0 where
  places : length marks ≡ length b.statements
  labels : AllByRecursion (StandsAt marks) b.labels
  names : map label_used b.statements ≡ jumps
  plain : AllByRecursion HasNoTarget b.statements

labels_more : (b : OpenOp) (marks jumps : List (Option Word)) → IsOpen b marks jumps → (label : Option Word) → AllByRecursion (StandsAt (marks ++ label ∷ [])) (with_label b label)
labels_more b marks jumps h None = each_weaker (StandsAt marks) (StandsAt (marks ++ None ∷ [])) (λ l e. slice_get_more marks (None ∷ []) l.place (Some l.name) e) b.labels h.labels
labels_more b marks jumps h (Some label) =
    each_push (StandsAt (marks ++ Some label ∷ [])) b.labels (record { name = label; place = length b.statements })
    (each_weaker (StandsAt marks) (StandsAt (marks ++ Some label ∷ [])) (λ l e. slice_get_more marks (Some label ∷ []) l.place (Some l.name) e) b.labels h.labels)
    (subst (λ (i : ℕ). slice_get (marks ++ Some label ∷ []) i ≡ Some (Some label)) h.places (slice_get_last marks (Some label)))

open_more : (b : OpenOp) (marks jumps : List (Option Word)) → IsOpen b marks jumps → (label name : Option Word) (s : Statement) → IsNaming name s → IsOpen (with_statement b label s) (marks ++ label ∷ []) (jumps ++ name ∷ [])
open_more b marks jumps h label name s is = record {
  places = omega (arith, h.places, length_push marks label, length_push b.statements s);
  labels = labels_more b marks jumps h label;
  names = rw (map_last label_used b.statements s, h.names, is.0) refl;
  plain = each_push HasNoTarget b.statements s h.plain is.1;
}

-- ---- `end`

stands_there : (marks : List (Option Word)) (name : Word) (labels : List Label) → AllByRecursion (StandsAt marks) labels → is_some (find (λ l. bytes_eq l.name name) labels) ≡ true → label_at marks (target labels name) ≡ Some name
stands_there marks name [] all e = absurd cc
stands_there marks name (l ∷ ls) all e = go (bytes_eq l.name name) refl (stands_there marks name ls all.1) e
  where
    go : (b : Bool) → bytes_eq l.name name ≡ b → (is_some (find (λ k. bytes_eq k.name name) ls) ≡ true → label_at marks (target ls name) ≡ Some name)
        → is_some (cond b (Some l) (find (λ k. bytes_eq k.name name) ls)) ≡ true → label_at marks (unwrap_or (option_map (λ k. k.place) (cond b (Some l) (find (λ k. bytes_eq k.name name) ls))) 0) ≡ Some name
    go true is rest f = rw (all.0, same_bytes l.name name is) refl
    go false is rest f = rest f

led_one : (marks : List (Option Word)) (labels : List Label) → AllByRecursion (StandsAt marks) labels → (s : Statement) → HasNoTarget s → is_there labels (label_used s) ≡ true → led_to marks (resolved labels s) ≡ label_used s
led_one marks labels all (Plain i) none there = rw none refl
led_one marks labels all (Jump name) none there = stands_there marks name labels all there
led_one marks labels all (JumpIfZero v name) none there = stands_there marks name labels all there

led_all : (marks : List (Option Word)) (labels : List Label) → AllByRecursion (StandsAt marks) labels → (statements : List Statement) → AllByRecursion HasNoTarget statements
    → list_all (λ s. is_there labels (label_used s)) statements ≡ true → map (led_to marks) (map (resolved labels) statements) ≡ map label_used statements
led_all marks labels all [] none there = refl
led_all marks labels all (s ∷ ss) none there =
    let p = and_parts (is_there labels (label_used s)) (list_all (λ s. is_there labels (label_used s)) ss) there in
    let one = led_one marks labels all s none.0 p.0 in
    let rest = led_all marks labels all ss none.1 p.1 in
    cc

targets_last : (operations : List Op) (labels jumps : List (List (Option Word))) (op : Op) (marks names : List (Option Word)) → AreTargets operations labels jumps → map (led_to marks) op.code ≡ names → AreTargets (operations ++ op ∷ []) (labels ++ marks ∷ []) (jumps ++ names ∷ [])
targets_last [] [] [] op marks names all e = (e, tt)
targets_last (o ∷ os) (l ∷ ls) (j ∷ js) op marks names all e = (all.0, targets_last os ls js op marks names all.1 e)
targets_last [] [] (j ∷ js) op marks names all e = absurd all
targets_last [] (l ∷ ls) js op marks names all e = absurd all
targets_last (o ∷ os) [] js op marks names all e = absurd all
targets_last (o ∷ os) (l ∷ ls) [] op marks names all e = absurd all

-- ---- drafts

abbrev AreOpen : Option OpenOp → Option (List (Option Word)) → Option (List (Option Word)) → Type 0
AreOpen None None None = Unit {0}
AreOpen (Some b) (Some marks) (Some jumps) = IsOpen b marks jumps
AreOpen begun marks jumps = ⊥

-- the draft and what the lines have told of it so far
record Agrees (d : ComponentDraft) (m n : Marked) : Type 0 where
  done : AreTargets d.operations m.closed n.closed
  begun : AreOpen d.begun m.begun n.begun
  unnamed : d.name ≡ None → d.begun ≡ None

abbrev Agree : Marked → Marked → Result ComponentDraft LangFaultKind → Type 0
Agree m n r = (next : ComponentDraft) → r ≡ Ok next → Agrees next m n

agreed : (m n : Marked) (tests : Tests LangFaultKind) (d : ComponentDraft) → (NoneHold tests → Agrees d m n) → Agree m n (says tests d)
agreed m n tests d h next e = let x = said tests d next e in subst (λ (y : ComponentDraft). Agrees y m n) x.same (h x.none)

refused : (m n : Marked) (kind : LangFaultKind) → Agree m n (Err kind)
refused m n kind next e = absurd cc

agree_if : (m n : Marked) (b : Bool) (x y : Result ComponentDraft LangFaultKind) → (b ≡ true → Agree m n x) → (b ≡ false → Agree m n y) → Agree m n (cond b x y)
agree_if m n true x y p q = p refl
agree_if m n false x y p q = q refl

-- ---- lines outside operations

-- no operation is open
record IsOutside (d : ComponentDraft) (m n : Marked) : Type 0 where
  none : d.begun ≡ None
  no_marks : m.begun ≡ None
  no_jumps : n.begun ≡ None
  done : AreTargets d.operations m.closed n.closed

-- a line that is not `op` leaves the marks as they are
stays : (d : ComponentDraft) (m n : Marked) → IsOutside d m n → (word : Word) → bytes_eq word (codes "op") ≡ false → (r : Result ComponentDraft LangFaultKind) → Agree m n r → Agree (outside_line m word) (outside_line n word) r
stays d m n h word apart r all = rw apart all

outside_none : (d : ComponentDraft) (m n : Marked) → IsOutside d m n → Agrees d m n
outside_none d m n h = record { done = h.done; begun = rw (h.none, h.no_marks, h.no_jumps) tt; unnamed = λ e. h.none }

component_agrees : (d : ComponentDraft) (m n : Marked) → IsOutside d m n → (o : Option Word) → Agree m n (component_line d o)
component_agrees d m n h None = refused m n _
component_agrees d m n h (Some name) = agreed m n ((not (has_name_form name), Form) ∷ (is_long name, Limit) ∷ []) (record d { name = Some name })
    (λ k. record { done = h.done; begun = rw (h.none, h.no_marks, h.no_jumps) tt; unnamed = λ e. h.none })

local_agrees : (d : ComponentDraft) (m n : Marked) → IsOutside d m n → (o : Option Word) → Agree m n (local_line d o)
local_agrees d m n h None = refused m n _
local_agrees d m n h (Some most) = agreed m n ((is_some d.local || nat_le 1 (length d.operations), Form) ∷ (not (is_value most), Number) ∷ (nat_lt 16 (value most), Limit) ∷ []) (record d { local = Some (value most) })
    (λ k. record { done = h.done; begun = rw (h.none, h.no_marks, h.no_jumps) tt; unnamed = λ e. h.none })

array_agrees : (d : ComponentDraft) (m n : Marked) → IsOutside d m n → (o : Option (Word × Word × Word)) → Agree m n (array_line d o)
array_agrees d m n h None = refused m n _
array_agrees d m n h (Some (name, len, init)) = agreed m n ((not (has_name_form name), Form) ∷ (not (is_value len) || not (is_value init), Number) ∷ (is_long name || (nat_le 16 (length d.arrays) || (nat_lt (value len) 1 || nat_lt 64 (value len))), Limit) ∷ (is_some (found_array d name), Name) ∷ []) (record d { arrays = d.arrays ++ record { name = name; len = value len; init = value init } ∷ [] })
    (λ k. record { done = h.done; begun = rw (h.none, h.no_marks, h.no_jumps) tt; unnamed = λ e. h.none })

lock_agrees : (d : ComponentDraft) (m n : Marked) → IsOutside d m n → (o : Option Word) → Agree m n (lock_line d o)
lock_agrees d m n h None = refused m n _
lock_agrees d m n h (Some name) = agreed m n ((not (has_name_form name), Form) ∷ (is_long name || nat_le 8 (length d.locks), Limit) ∷ (is_some (found_lock d name), Name) ∷ []) (record d { locks = d.locks ++ name ∷ [] })
    (λ k. record { done = h.done; begun = rw (h.none, h.no_marks, h.no_jumps) tt; unnamed = λ e. h.none })

op_agrees : (d : ComponentDraft) (m n : Marked) → IsOutside d m n → (own : Word) → d.name ≡ Some own → (o : Option (Word × Word)) → Agree (record m { begun = Some [] }) (record n { begun = Some [] }) (op_line d o)
op_agrees d m n h own is None = refused (record m { begun = Some [] }) (record n { begun = Some [] }) _
op_agrees d m n h own is (Some (name, args)) = agreed (record m { begun = Some [] }) (record n { begun = Some [] }) ((not (has_name_form name), Form) ∷ (not (is_value args), Number) ∷ (is_long name || (nat_le 16 (length d.operations) || nat_lt 4 (value args)), Limit) ∷ (is_some (operation_number d.operations name), Name) ∷ []) (record d { begun = Some (record { name = name; args = value args; statements = []; labels = [] }) })
    (λ k. record { done = h.done; begun = record { places = refl; labels = tt; names = refl; plain = tt }; unnamed = λ e. absurd cc })

declaration_agrees : (d : ComponentDraft) (m n : Marked) → IsOutside d m n → (own : Word) → d.name ≡ Some own → (word : Word) (words : List Word) → Agree (outside_line m word) (outside_line n word) (declaration d word words)
declaration_agrees d m n h own is word words =
    let M = outside_line m word in
    let N = outside_line n word in
    agree_if M N (bytes_eq word (codes "word")) (array_line d (exactly_three words)) _
    (λ e. stays d m n h word (other_word word (codes "word") (codes "op") e refl) (array_line d (exactly_three words)) (array_agrees d m n h (exactly_three words)))
    (λ e. agree_if M N (bytes_eq word (codes "lock")) (lock_line d (exactly_one words)) _
    (λ e. stays d m n h word (other_word word (codes "lock") (codes "op") e refl) (lock_line d (exactly_one words)) (lock_agrees d m n h (exactly_one words)))
    (λ e. agree_if M N (bytes_eq word (codes "op")) (op_line d (exactly_two words)) _
    (λ e. rw e (op_agrees d m n h own is (exactly_two words)))
    (λ f. agree_if M N (bytes_eq word (codes "local")) (local_line d (exactly_one words)) (Err Form)
    (λ e. stays d m n h word f (local_line d (exactly_one words)) (local_agrees d m n h (exactly_one words)))
    (λ e. refused M N Form))))

-- ---- lines of the open operation

-- no label is wrong, so that it is a name
name_is : (b : OpenOp) (label : Word) → place_fault b (Some label) ≡ None → name_if label ≡ Some label
name_is b label e =
    let f = no_fault (not (has_name_form label)) Form (cond (is_long label || nat_le 64 (length b.statements)) (Some Limit) (cond (is_some (find_label b.labels label)) (Some Name) None)) e in
    let l = no_fault (is_long label || nat_le 64 (length b.statements)) Limit (cond (is_some (find_label b.labels label)) (Some Name) None) f.1 in
    let p = or_parts (is_long label) (nat_le 64 (length b.statements)) l.0 in
    rw (not-false (has_name_form label) f.0, p.0) refl

mark_is : (b : OpenOp) (label : Option Word) → place_fault b label ≡ None → option_and_then name_if label ≡ label
mark_is b None e = refl
mark_is b (Some label) e = name_is b label e

-- with one line more
abbrev with_mark : Marked → List (Option Word) → Option Word → Marked
with_mark m marks mark = record m { begun = Some (marks ++ mark ∷ []) }

instr_agrees : (d : ComponentDraft) (m n : Marked) (own : Word) → d.name ≡ Some own → AreTargets d.operations m.closed n.closed → (b : OpenOp) (marks jumps : List (Option Word)) → IsOpen b marks jumps → (label : Option Word) (word : Word) (words : List Word)
    → Agree (with_mark m marks (option_and_then name_if label)) (with_mark n jumps (jump_of (word ∷ words))) (instr_line d b label word words)
instr_agrees d m n own is done b marks jumps h label word words = go (statement d (keyword_in word) words) (statement_names d (keyword_in word) words) (place_fault b label) (mark_is b label)
  where
    M : Marked
    M = with_mark m marks (option_and_then name_if label)

    N : Marked
    N = with_mark n jumps (jump_of (word ∷ words))

    go : (r : Result Statement LangFaultKind) → Names (jump_of (word ∷ words)) r → (fault : Option LangFaultKind) → (fault ≡ None → option_and_then name_if label ≡ label) → Agree M N (placed d b label fault r)
    go (Err kind) named fault mark = refused M N (sooner fault kind)
    go (Ok s) named (Some kind) mark = refused M N kind
    go (Ok s) named None mark = λ next e.
        let same : record d { begun = Some (with_statement b label s) } ≡ next = cc in
        let opened = open_more b marks jumps h label (jump_of (word ∷ words)) s (named s refl) in
        subst (λ (y : ComponentDraft). Agrees y M N) same (record {
          done = done;
          begun = rw (mark refl) opened;
          unnamed = λ f. absurd cc;
        })

end_agrees : (d : ComponentDraft) (m n : Marked) → AreTargets d.operations m.closed n.closed → (b : OpenOp) (marks jumps : List (Option Word)) → IsOpen b marks jumps → (words : List Word)
    → Agree (record { closed = m.closed ++ marks ∷ []; begun = None }) (record { closed = n.closed ++ jumps ∷ []; begun = None }) (end_line d b words)
end_agrees d m n done b marks jumps h (word ∷ words) = refused _ _ Form
end_agrees d m n done b marks jumps h [] = agreed (record { closed = m.closed ++ marks ∷ []; begun = None }) (record { closed = n.closed ++ jumps ∷ []; begun = None })
    ((not (ends_well b), Flow) ∷ (not (are_there b), Name) ∷ [])
    (record d { operations = d.operations ++ op_of b ∷ []; begun = None })
    (λ k. record {
      done = targets_last d.operations m.closed n.closed (op_of b) marks jumps done (led_all marks b.labels h.labels b.statements h.plain (not-false (are_there b) k.1.0) ∙ h.names);
      begun = tt;
      unnamed = λ e. refl;
    })

-- a word with a colon after it is not `end`
no_end : (word label : Word) → label_in word ≡ Some label → bytes_eq word (codes "end") ≡ false
no_end word label is = go (bytes_eq word (codes "end")) refl
  where
    go : (b : Bool) → bytes_eq word (codes "end") ≡ b → b ≡ false
    go false e = refl
    go true e =
        let none : label_in word ≡ None = subst (λ (w : Word). label_in w ≡ None) (sym (same_bytes word (codes "end") e)) refl in
        absurd cc

inside_agrees : (d : ComponentDraft) (m n : Marked) (own : Word) → d.name ≡ Some own → AreTargets d.operations m.closed n.closed → (b : OpenOp) (marks jumps : List (Option Word)) → IsOpen b marks jumps → (word : Word) (words : List Word) (label : Option Word) → label_in word ≡ label
    → Agree (inside_line m marks (label_on (word ∷ words)) word) (inside_line n jumps (jump_on (word ∷ words)) word) (by_label d b label word words)
inside_agrees d m n own is done b marks jumps h word [] (Some label) e = refused _ _ Form
inside_agrees d m n own is done b marks jumps h word (next ∷ words) (Some label) e =
    rw (no_end word label e, e) (instr_agrees d m n own is done b marks jumps h (Some label) next words)
inside_agrees d m n own is done b marks jumps h word words None e = rw e (go (bytes_eq word (codes "end")))
  where
    go : (end : Bool) → Agree (cond end (record { closed = m.closed ++ marks ∷ []; begun = None }) (with_mark m marks None)) (cond end (record { closed = n.closed ++ jumps ∷ []; begun = None }) (with_mark n jumps (jump_of (word ∷ words)))) (cond end (end_line d b words) (instr_line d b None word words))
    go true = end_agrees d m n done b marks jumps h words
    go false = instr_agrees d m n own is done b marks jumps h None word words

-- ---- all lines

state_agrees : (d : ComponentDraft) (m n : Marked) → AreTargets d.operations m.closed n.closed → (name : Option Word) → d.name ≡ name → (begun : Option OpenOp) → d.begun ≡ begun → (marks jumps : Option (List (Option Word))) → m.begun ≡ marks → n.begun ≡ jumps
    → AreOpen begun marks jumps → (name ≡ None → begun ≡ None) → (word : Word) (words : List Word) → Agree (marked_line m marks (label_on (word ∷ words)) word) (marked_line n jumps (jump_on (word ∷ words)) word) (by_state d name begun word words)
state_agrees d m n done None is None none None None p q are un word words =
    let h : IsOutside d m n = record { none = none; no_marks = p; no_jumps = q; done = done } in
    agree_if (outside_line m word) (outside_line n word) (bytes_eq word (codes "component")) (component_line d (exactly_one words)) (Err Missing)
    (λ e. stays d m n h word (other_word word (codes "component") (codes "op") e refl) (component_line d (exactly_one words)) (component_agrees d m n h (exactly_one words)))
    (λ e. refused _ _ Missing)
state_agrees d m n done (Some own) is None none None None p q are un word words =
    declaration_agrees d m n (record { none = none; no_marks = p; no_jumps = q; done = done }) own is word words
state_agrees d m n done (Some own) is (Some b) some (Some marks) (Some jumps) p q are un word words = inside_agrees (closed d) m n own is done b marks jumps are word words (label_in word) refl
state_agrees d m n done None is (Some b) some marks jumps p q are un word words = absurd (let e = un refl in cc)
state_agrees d m n done name is None none None (Some jumps) p q are un word words = absurd are
state_agrees d m n done name is None none (Some marks) jumps p q are un word words = absurd are
state_agrees d m n done name is (Some b) some None jumps p q are un word words = absurd are
state_agrees d m n done name is (Some b) some (Some marks) None p q are un word words = absurd are

words_agree : (d : ComponentDraft) (m n : Marked) → Agrees d m n → (words : List Word) → Agree (with_words label_on m words) (with_words jump_on n words) (by_words d words)
words_agree d m n h [] = λ next e. let same : d ≡ next = cc in subst (λ (y : ComponentDraft). Agrees y m n) same h
words_agree d m n h (word ∷ words) = state_agrees d m n h.done d.name refl d.begun refl m.begun n.begun refl refl h.begun h.unnamed word words

line_agrees : (d : ComponentDraft) (m n : Marked) → Agrees d m n → (line : List ℕ) → Agree (with_words label_on m (words_of line)) (with_words jump_on n (words_of line)) (line_of d line)
unfolding line_of
line_agrees d m n h line =
    agree_if (with_words label_on m (words_of line)) (with_words jump_on n (words_of line)) (list_all is_allowed line) (by_words d (words_of line)) (Err Byte)
    (λ e. words_agree d m n h (words_of line)) (λ e. refused _ _ Byte)

lines_agree : (lines : List (List ℕ)) (k : ℕ) (d : ComponentDraft) (m n : Marked) (c : Component) → Agrees d m n → lines_after component_grammar k d lines ≡ Ok c → AreTargets c.operations (marks_of_lines label_on m lines) (marks_of_lines jump_on n lines)
unfolding lines_after
lines_agree [] k d m n c h e = go d.name d.begun m.begun n.begun h.begun e
  where
    go : (name : Option Word) (begun : Option OpenOp) (marks jumps : Option (List (Option Word))) → AreOpen begun marks jumps → on_line k (declared d name begun) ≡ Ok c → AreTargets c.operations (all_marks m marks) (all_marks n jumps)
    go None begun marks jumps are f = absurd cc
    go (Some name) (Some b) marks jumps are f = absurd cc
    go (Some name) None None None are f =
        let same : named d name ≡ c = cc in
        subst (λ (x : Component). AreTargets x.operations m.closed n.closed) same h.done
    go (Some name) None (Some marks) jumps are f = absurd are
    go (Some name) None None (Some jumps) are f = absurd are
lines_agree (line ∷ lines) k d m n c h e = go (line_of d line) refl (λ next a f. lines_agree lines (k + 1) next (with_words label_on m (words_of line)) (with_words jump_on n (words_of line)) c a f) e
  where
    go : (r : Result ComponentDraft LangFaultKind) → line_of d line ≡ r
        → ((next : ComponentDraft) → Agrees next (with_words label_on m (words_of line)) (with_words jump_on n (words_of line)) → lines_after component_grammar (k + 1) next lines ≡ Ok c → AreTargets c.operations (marks_of_lines label_on m (line ∷ lines)) (marks_of_lines jump_on n (line ∷ lines)))
        → then_lines (on_line k r) (λ next. lines_after component_grammar (k + 1) next lines) ≡ Ok c → AreTargets c.operations (marks_of_lines label_on m (line ∷ lines)) (marks_of_lines jump_on n (line ∷ lines))
    go (Err kind) is rest f = absurd cc
    go (Ok next) is rest f = rest next (line_agrees d m n h line next is) f

pub text_agrees : (text : List ℕ) (c : Component) → meaning_of component_grammar text ≡ Ok c → AreTargets c.operations (labels_of text) (jumps_of text)
text_agrees text c e = lines_agree (lines_of text) 1 nothing nothing_marked nothing_marked c (record { done = tt; begun = tt; unnamed = λ f. refl }) e
