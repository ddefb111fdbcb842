-- Going on after faults: the loop, and that the first fault is the reader's.
use Rattle.std.proofs.Common.{arith, ◌≡◌, ℕ, ◌+◌, ◌<◌, true, false, eqb, List, [], ◌∷◌, ◌++◌, length, get_or, map, take, drop, Option, Some, None, Result, Ok, Err, refl, sym, ap, subst, ◌∙◌}
use Rattle.std.proofs.lemmas.Bool.{eqb-true, eqb-false}
use Rattle.std.proofs.lemmas.List.{append_assoc, append-nil, drop-map, map-append, take_more}
use Rattle.lu_text.specs.declared.fault.Fault.{Fault}
use Rattle.lu_text.specs.declared.fault.Fault.TheVariants.{At}
use Rattle.lu_text.specs.Faults.{on_line, then_lines, lines_after, meaning_of, fault_in, going_on}
use Rattle.lu_text.specs.Lines.{lines_of, texts}
use denote.Ref.{Bor}
use Rattle.lu_component.specs.Component.{Component}
use Rattle.lu_lang.specs.Grammar.{component_grammar}
use Rattle.lu_lang.proofs.Understood.{faulty_meaning}
use Rattle.lu_lang.specs.declared.fault.LangFaultKind.{LangFaultKind}
use Rattle.lu_test.specs.declared.matrix_fault.MatrixFaultKind.{MatrixFaultKind}
use Rattle.lu_test.specs.MatrixText.{matrix_grammar}
use Rattle.lu_lint.specs.declared.remark.Position.{Position}
use Rattle.lu_lint.specs.declared.remark.Said.{Said}
use Rattle.lu_lint.specs.declared.remark.Remark.{Remark}
use Rattle.lu_lint.specs.declared.remark.FaultKind.{FaultKind}
use Rattle.lu_lint.specs.Said.{said_of, message_said, said_faults}
use Rattle.lu_lint.specs.Lint.{Lint, Message, with_words, messages, message_here, message_before, line_messages, other_messages, messages_beside, left_by, end_messages, end_faults, then_faults, faults_after, faults_in, AgreeOnText, draft_after, left_after}
use Rattle.lu_lint.specs.Component.{backs_beside, component_lint, faulty_end_others, jumps, jumps_said}
use Rattle.lu_lint.specs.declared.remark.FaultKind.TheVariants as part
use Rattle.lu_lang.specs.declared.fault.LangFaultKind.TheVariants.{Name}
use Rattle.lu_lang.specs.Faulty.{FaultyDraft}
use Rattle.lu_lang.specs.FaultLines.{left_backs, open_backs}
use Rattle.lu_lint.specs.Matrix.{lint_of}

pub said_push : (all : List Remark) (r : Remark) → said_of (all ++ r ∷ []) ≡ said_of all ++ r.said ∷ []
said_push all r = map-append (λ r. r.said) all (r ∷ [])

-- what is said of two lists of faults
pub said_more : {Kind : Type 0} (of : Kind → FaultKind) (above : ℕ) (xs ys : List (Message Kind)) → said_faults of above (xs ++ ys) ≡ said_faults of above xs ++ said_faults of above ys
said_more of above xs ys = map-append (message_said of above) xs ys

-- one message on the line itself
pub messages_once : {Kind : Type 0} (seen : List ℕ) (n : ℕ) (kind : Kind) (backs : List ℕ) (m : ℕ) → m ≡ length backs → eqb m 0 ≡ true → messages seen n kind backs ≡ message_here n kind ∷ []
messages_once seen n kind [] m len e = refl
messages_once seen n kind (b ∷ bs) m len e = absurd (omega (arith, eqb-true m 0 e, len))

-- or one for each number
pub messages_each : {Kind : Type 0} (seen : List ℕ) (n : ℕ) (kind : Kind) (backs : List ℕ) (m : ℕ) → m ≡ length backs → eqb m 0 ≡ false → messages seen n kind backs ≡ map (message_before seen n kind) backs
messages_each seen n kind [] m len e = absurd (eqb-false m 0 e len)
messages_each seen n kind (b ∷ bs) m len e = refl

-- a fault has one message, on its line
pub is_once : {Kind : Type 0} (of : Kind → FaultKind) (above : ℕ) (before next : List Said) (said : Said) (seen : List ℕ) (n : ℕ) (kind : Kind) (backs meant : List ℕ) (m : ℕ)
    → next ≡ before ++ said ∷ [] → said ≡ message_said of above (message_here n kind) → backs ≡ meant → m ≡ length backs → eqb m 0 ≡ true → next ≡ before ++ said_faults of above (messages seen n kind meant)
is_once of above before next said seen n kind backs meant m more is same len e = rw (more, is, ← same, messages_once seen n kind backs m len e) refl

-- or once for each jump
pub is_each : {Kind : Type 0} (of : Kind → FaultKind) (above : ℕ) (before next : List Said) (seen : List ℕ) (n : ℕ) (kind : Kind) (backs meant : List ℕ) (m : ℕ)
    → next ≡ before ++ said_faults of above (map (message_before seen n kind) backs) → backs ≡ meant → m ≡ length backs → eqb m 0 ≡ false → next ≡ before ++ said_faults of above (messages seen n kind meant)
is_each of above before next seen n kind backs meant m more same len e = rw (more, ← same, messages_each seen n kind backs m len e) refl

-- what is said of three lists of faults
three_said : {Kind : Type 0} (of : Kind → FaultKind) (above : ℕ) (before : List Said) (xs ys zs : List (Message Kind)) → ((before ++ said_faults of above xs) ++ said_faults of above ys) ++ said_faults of above zs ≡ before ++ said_faults of above (xs ++ (ys ++ zs))
three_said of above before xs ys zs =
    append_assoc (before ++ said_faults of above xs) (said_faults of above ys) (said_faults of above zs)
    ∙ (append_assoc before (said_faults of above xs) (said_faults of above ys ++ said_faults of above zs)
    ∙ (ap (λ (x : List Said). before ++ (said_faults of above xs ++ x)) (sym (said_more of above ys zs))
    ∙ ap (λ (x : List Said). before ++ x) (sym (said_more of above xs (ys ++ zs)))))

-- the fault of a line is said, where it has one, and the rest is read from the draft that it leaves
pub goes_on : {Kind Draft Value : Type 0} (l : Lint Kind Draft Value) (of : Kind → FaultKind) (above : ℕ) (seen : List ℕ) (n : ℕ) (d d1 next : Draft) (fault : Option Kind) (line : List ℕ) (rest behind : List (List ℕ)) (before total : List Said)
    → (d1, fault) ≡ going_on d (l.grammar.line d line) → next ≡ left_by l.mend d1 line behind fault → behind ≡ rest
    → before ++ said_faults of above (faults_after l seen n d (line ∷ rest)) ≡ total → ((before ++ said_faults of above (line_messages l seen n d1 line fault)) ++ said_faults of above (messages_beside l seen n d1 line behind fault)) ++ said_faults of above (faults_after l (with_words seen n line) (n + 1) next rest) ≡ total
unfolding faults_after
goes_on {Kind = Kind} {Draft = Draft} l of above seen n d d1 next fault line rest behind before total e left is so_far = go (l.grammar.line d line) e so_far
  where
    go : (r : Result Draft Kind) → (d1, fault) ≡ going_on d r → before ++ said_faults of above (then_faults l seen n d line rest r (λ x. faults_after l (with_words seen n line) (n + 1) x rest)) ≡ total → ((before ++ said_faults of above (line_messages l seen n d1 line fault)) ++ said_faults of above (messages_beside l seen n d1 line behind fault)) ++ said_faults of above (faults_after l (with_words seen n line) (n + 1) next rest) ≡ total
    go (Ok y) f h =
        let same : d1 ≡ y = ap (λ (x : Draft × Option Kind). x.0) f in
        let none : fault ≡ None = ap (λ (x : Draft × Option Kind). x.1) f in
        rw (left, is, same, none, append-nil before, append-nil before) h
    go (Err k) f h =
        let same : d1 ≡ d = ap (λ (x : Draft × Option Kind). x.0) f in
        let some : fault ≡ Some k = ap (λ (x : Draft × Option Kind). x.1) f in
        let these = messages seen n k (l.backs d line k) in
        let beside = other_messages seen n (l.others d line rest k) in
        let others = faults_after l (with_words seen n line) (n + 1) (l.mend d line rest) rest in
        rw (left, is, same, some) (three_said of above before these beside others ∙ h)

-- no line is left
pub is_done : {Kind Draft Value : Type 0} (l : Lint Kind Draft Value) (of : Kind → FaultKind) (above : ℕ) (seen : List ℕ) (n m : ℕ) (d : Draft) (fault : Option Kind) (before total : List Said)
    → n ≡ m → ((r : Result Value Kind) → l.grammar.finish d ≡ r → end_faults seen n (l.end_others d) r ≡ end_messages seen n (l.end_others d) fault)
    → before ++ said_faults of above (faults_after l seen n d []) ≡ total → before ++ said_faults of above (end_messages seen m (l.end_others d) fault) ≡ total
unfolding faults_after
is_done l of above seen n m d fault before total e end so_far = rw (← e, ← end (l.grammar.finish d) refl) so_far

-- a text is read where there is no fault; else the reader's fault is the first
first_message : {Kind : Type 0} (A : Type 0) (seen : List ℕ) (n : ℕ) (kind : Kind) (backs : List ℕ) (others : List (Message Kind)) → AgreeOnText {Kind = Kind} {A = A} (Err (At kind n)) (messages seen n kind backs ++ others)
first_message A seen n kind [] others = refl
first_message A seen n kind (b ∷ bs) others = refl

pub agree_after : {Kind Draft Value : Type 0} (l : Lint Kind Draft Value) (seen : List ℕ) (n : ℕ) (d : Draft) (lines : List (List ℕ)) → AgreeOnText (lines_after l.grammar n d lines) (faults_after l seen n d lines)
unfolding faults_after lines_after
agree_after {Kind = Kind} {Value = Value} l seen n d [] = go (l.grammar.finish d)
  where
    go : (r : Result Value Kind) → AgreeOnText (on_line n r) (end_faults seen n (l.end_others d) r)
    go (Ok v) = tt
    go (Err k) = refl
agree_after {Kind = Kind} {Draft = Draft} {Value = Value} l seen n d (line ∷ lines) = go (l.grammar.line d line) (λ x. agree_after l (with_words seen n line) (n + 1) x lines)
  where
    go : (r : Result Draft Kind) → ((x : Draft) → AgreeOnText (lines_after l.grammar (n + 1) x lines) (faults_after l (with_words seen n line) (n + 1) x lines)) → AgreeOnText (then_lines (on_line n r) (λ x. lines_after l.grammar (n + 1) x lines)) (then_faults l seen n d line lines r (λ x. faults_after l (with_words seen n line) (n + 1) x lines))
    go (Ok x) again = again x
    go (Err k) again = first_message Value seen n k (l.backs d line k) (other_messages seen n (l.others d line lines k) ++ faults_after l (with_words seen n line) (n + 1) (l.mend d line lines) lines)

pub agrees : {Kind Draft Value : Type 0} (l : Lint Kind Draft Value) (text : List ℕ) → AgreeOnText (meaning_of l.grammar text) (faults_in l text)
agrees l text = agree_after l [] 1 l.grammar.nothing (lines_of text)

pub component_agrees : (text : List ℕ) → AgreeOnText (meaning_of component_grammar text) (faults_in component_lint text)
component_agrees text = subst (λ (r : Result Component (Fault LangFaultKind)). AgreeOnText r (faults_in component_lint text)) (faulty_meaning text) (agrees component_lint text)

pub matrix_agrees : (c : Component) (text : List ℕ) → AgreeOnText (meaning_of (matrix_grammar c) text) (faults_in (lint_of c) text)
matrix_agrees c text = agrees (lint_of c) text

-- the lines after a line, in memory
pub texts_after : (lines : List (Bor (List ℕ))) (i : ℕ) → texts (drop i lines) ≡ drop i (texts lines)
texts_after lines i = sym (drop-map (λ w. w.now) i lines)

-- what is wrong at the end of a component
pub component_end : {Value : Type 0} (seen : List ℕ) (n : ℕ) (others : List (LangFaultKind × ℕ)) (fault : Option LangFaultKind) (meant r : Result Value LangFaultKind) → fault ≡ fault_in meant → meant ≡ r → end_faults seen n others r ≡ end_messages seen n others fault
component_end seen n others fault meant (Ok v) e is = rw (e, is) refl
component_end seen n others fault meant (Err k) e is = rw (e, is) refl

-- and of a matrix
pub matrix_end : {Value : Type 0} (seen : List ℕ) (n : ℕ) (others : List (MatrixFaultKind × ℕ)) (fault : Option MatrixFaultKind) (meant r : Result Value MatrixFaultKind) → fault ≡ fault_in meant → meant ≡ r → end_faults seen n others r ≡ end_messages seen n others fault
matrix_end seen n others fault meant (Ok v) e is = rw (e, is) refl
matrix_end seen n others fault meant (Err k) e is = rw (e, is) refl

-- ---- jumps that are reported beside another fault

each_jump : (seen : List ℕ) (n : ℕ) (backs : List ℕ) → map (message_before seen n Name) backs ≡ other_messages seen n (jumps backs)
each_jump seen n [] = refl
each_jump seen n (back ∷ backs) = ap (λ (x : List (Message LangFaultKind)). message_before seen n Name back ∷ x) (each_jump seen n backs)

all_beside : (seen : List ℕ) (n : ℕ) (f : FaultyDraft) (line : List ℕ) (lines : List (List ℕ)) (fault : Option LangFaultKind) → map (message_before seen n Name) (backs_beside f line lines fault) ≡ messages_beside component_lint seen n f line lines fault
all_beside seen n f line lines None = refl
all_beside seen n f line lines (Some kind) = each_jump seen n (left_backs f.draft line lines kind)

-- one jump more
pub jump_more : (at : Position) (kind : LangFaultKind) (backs : List ℕ) (i d : ℕ) (before now next : List Said) (one : Said)
    → i < length backs → now ≡ before ++ jumps_said at kind (take i backs) → one ≡ message_said part.Component at.above (message_before at.seen.items at.line kind (get_or backs i d)) → next ≡ now ++ one ∷ [] → next ≡ before ++ jumps_said at kind (take (i + 1) backs)
jump_more at kind backs i d before now next one within so_far is more =
    let front = map (message_before at.seen.items at.line kind) (take i backs) in
    let last = message_before at.seen.items at.line kind (get_or backs i d) in
    let split : map (message_before at.seen.items at.line kind) (take (i + 1) backs) ≡ front ++ last ∷ [] = rw (take_more backs i d within) (map-append (message_before at.seen.items at.line kind) (take i backs) (get_or backs i d ∷ [])) in
    let said : jumps_said at kind (take (i + 1) backs) ≡ jumps_said at kind (take i backs) ++ one ∷ [] = ap (said_faults part.Component at.above) split ∙ (said_more part.Component at.above front (last ∷ []) ∙ ap (λ (x : Said). jumps_said at kind (take i backs) ++ x ∷ []) (sym is)) in
    more
    ∙ (ap (λ (x : List Said). x ++ one ∷ []) so_far
    ∙ (append_assoc before (jumps_said at kind (take i backs)) (one ∷ [])
    ∙ ap (λ (x : List Said). before ++ x) (sym said)))

-- the fault of a line of a component is said, where it has one, then the jumps beside its fault, and the rest is read
pub component_goes_on : (above : ℕ) (seen : List ℕ) (n : ℕ) (d d1 next : FaultyDraft) (fault : Option LangFaultKind) (line : List ℕ) (rest behind : List (List ℕ)) (backs : List ℕ) (before one two total : List Said)
    → (d1, fault) ≡ going_on d (component_lint.grammar.line d line) → next ≡ left_by component_lint.mend d1 line behind fault → behind ≡ rest
    → one ≡ before ++ said_faults part.Component above (line_messages component_lint seen n d1 line fault) → two ≡ one ++ said_faults part.Component above (map (message_before seen n Name) backs) → backs ≡ backs_beside d1 line behind fault
    → before ++ said_faults part.Component above (faults_after component_lint seen n d (line ∷ rest)) ≡ total → two ++ said_faults part.Component above (faults_after component_lint (with_words seen n line) (n + 1) next rest) ≡ total
component_goes_on above seen n d d1 next fault line rest behind backs before one two total e left is first more jumps so_far =
    let here = before ++ said_faults part.Component above (line_messages component_lint seen n d1 line fault) in
    let beside : two ≡ here ++ said_faults part.Component above (messages_beside component_lint seen n d1 line behind fault) = rw (more, first, jumps, all_beside seen n d1 line behind fault) refl in
    rw beside (goes_on component_lint part.Component above seen n d d1 next fault line rest behind before total e left is so_far)

-- those beside the fault of the end
pub are_at_end : (above : ℕ) (before one next : List Said) (said : Said) (seen : List ℕ) (n : ℕ) (kind : LangFaultKind) (f : FaultyDraft) (fault : Option LangFaultKind) (backs : List ℕ)
    → one ≡ before ++ said ∷ [] → said ≡ message_said part.Component above (message_here n kind) → next ≡ one ++ said_faults part.Component above (map (message_before seen n Name) backs) → backs ≡ open_backs f.draft.begun → Some kind ≡ fault → next ≡ before ++ said_faults part.Component above (end_messages seen n (faulty_end_others f) fault)
are_at_end above before one next said seen n kind f fault backs first is more same some =
    rw (← some, more, first, is, same, each_jump seen n (open_backs f.draft.begun)) (append_assoc before (message_said part.Component above (message_here n kind) ∷ []) (said_faults part.Component above (other_messages seen n (faulty_end_others f))))

-- what is said first, and then
pub two_more : (all one two x y : List Said) → one ≡ all ++ x → two ≡ one ++ y → two ≡ all ++ (x ++ y)
two_more all one two x y e f = rw (f, e) (append_assoc all x y)

-- a line after others, and the draft that all of them leave
pub draft_goes_on : {Kind Draft Value : Type 0} (l : Lint Kind Draft Value) (d d1 next total : Draft) (fault : Option Kind) (line : List ℕ) (rest behind : List (List ℕ))
    → (d1, fault) ≡ going_on d (l.grammar.line d line) → next ≡ left_by l.mend d1 line behind fault → behind ≡ rest
    → draft_after l d (line ∷ rest) ≡ total → draft_after l next rest ≡ total
unfolding draft_after
draft_goes_on {Kind = Kind} {Draft = Draft} l d d1 next total fault line rest behind e left is so_far = go (l.grammar.line d line) e so_far
  where
    go : (r : Result Draft Kind) → (d1, fault) ≡ going_on d r → draft_after l (left_after l d line rest r) rest ≡ total → draft_after l next rest ≡ total
    go (Ok y) f h =
        let same : d1 ≡ y = ap (λ (x : Draft × Option Kind). x.0) f in
        let none : fault ≡ None = ap (λ (x : Draft × Option Kind). x.1) f in
        rw (left, is, same, none) h
    go (Err k) f h =
        let same : d1 ≡ d = ap (λ (x : Draft × Option Kind). x.0) f in
        let some : fault ≡ Some k = ap (λ (x : Draft × Option Kind). x.1) f in
        rw (left, is, same, some) h

-- no line is left
pub draft_done : {Kind Draft Value : Type 0} (l : Lint Kind Draft Value) (d total : Draft) → draft_after l d [] ≡ total → d ≡ total
unfolding draft_after
draft_done l d total e = e
