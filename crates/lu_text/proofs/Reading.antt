-- Reading lines one after the other, as a reader's loop does; and a fault that is read is the first.
use Rattle.std.proofs.Common.{◌≡◌, ℕ, zero, suc, add-one, ◌+◌, ◌<◌, ◌≤◌, List, [], ◌∷◌, ◌++◌, length, get_or, drop, Option, Some, None, Result, Ok, Err, refl, sym, ap, subst, ◌∙◌, arith}
use Rattle.std.proofs.Math.ListN.{drop_of_length-le}
use denote.Ref.{Bor}
use Rattle.lu_text.specs.Lines.{texts, lines_of}
use Rattle.lu_text.specs.declared.fault.Fault.{Fault}
use Rattle.lu_text.specs.declared.fault.Fault.TheVariants.{At, Memory}
use Rattle.lu_text.specs.Faults.{Grammar, on_line, then_lines, lines_after, meaning_of, going_on, Gives, IsUnlessMemory, LeadsTo, IsNext, IsFirstFault}

-- ---- words in memory

more : (words : List (Bor (List ℕ))) (i : ℕ) (d : Bor (List ℕ)) → i < length words → drop i (texts words) ≡ (get_or words i d).now ∷ drop (suc i) (texts words)
more [] i d h = absurd (omega arith)
more (w ∷ ws) zero d h = refl
more (w ∷ ws) (suc i) d h = more ws i d (omega arith)

-- the lines from number i on begin with line i
pub text_more : (words : List (Bor (List ℕ))) (i : ℕ) (d : Bor (List ℕ)) → i < length words → drop i (texts words) ≡ (get_or words i d).now ∷ drop (i + 1) (texts words)
text_more words i d h = rw (add-one i) (more words i d h)

pub texts_end : (words : List (Bor (List ℕ))) (i : ℕ) → length words ≤ i → drop i (texts words) ≡ []
texts_end [] i h = drop_of_length-le [] h
texts_end (w ∷ ws) zero h = absurd (omega arith)
texts_end (w ∷ ws) (suc i) h = texts_end ws i (omega arith)

-- ---- a line that is taken

-- without a fault, the line says the next draft
pub says_next : {Kind Draft : Type 0} (d next : Draft) (meant : Result Draft Kind) → (next, None) ≡ going_on d meant → meant ≡ Ok next
says_next {Kind = Kind} {Draft = Draft} d next (Ok x) e =
    let same : x ≡ next = ap (λ (p : Draft × Option Kind). p.0) (sym e) in
    subst (λ (y : Draft). ◌≡◌ {A = Result Draft Kind} (Ok x) (Ok y)) same refl
says_next {Kind = Kind} {Draft = Draft} d next (Err k) e =
    let none : ◌≡◌ {A = Option Kind} None (Some k) = ap (λ (p : Draft × Option Kind). p.1) e in
    absurd cc

-- with a fault, it has that fault
pub has_fault : {Kind Draft : Type 0} (d next : Draft) (kind : Kind) (meant : Result Draft Kind) → (next, Some kind) ≡ going_on d meant → meant ≡ Err kind
has_fault {Kind = Kind} {Draft = Draft} d next kind (Ok x) e =
    let none : ◌≡◌ {A = Option Kind} (Some kind) None = ap (λ (p : Draft × Option Kind). p.1) e in
    absurd cc
has_fault {Kind = Kind} {Draft = Draft} d next kind (Err k) e =
    let same : ◌≡◌ {A = Option Kind} (Some kind) (Some k) = ap (λ (p : Draft × Option Kind). p.1) e in
    let kinds : k ≡ kind = cc in
    subst (λ (y : Kind). ◌≡◌ {A = Result Draft Kind} (Err k) (Err y)) kinds refl

-- ---- the loop

-- a line without a fault
pub line_ok : {Kind A : Type 0} (n : ℕ) (r : Result A Kind) (x : A) → on_line n r ≡ Ok x → r ≡ Ok x
line_ok n (Ok y) x e = cc
line_ok n (Err kind) x e = absurd cc

-- a line without a fault: the rest is read from the next draft
pub goes_on : {Kind Draft Value : Type 0} (g : Grammar Kind Draft Value) (n : ℕ) (d next : Draft) (line : List ℕ) (rest : List (List ℕ)) (total : Result Value (Fault Kind))
    → on_line n (g.line d line) ≡ Ok next → lines_after g n d (line ∷ rest) ≡ total → lines_after g (n + 1) next rest ≡ total
unfolding lines_after
goes_on {Kind = Kind} {Draft = Draft} g n d next line rest total e so_far =
    let one : lines_after g n d (line ∷ rest) ≡ lines_after g (n + 1) next rest = ap (λ (r : Result Draft (Fault Kind)). then_lines r (λ x. lines_after g (n + 1) x rest)) e in
    sym one ∙ so_far

-- a line with a fault, or no memory: that is the answer
pub ends : {Kind Draft Value : Type 0} (g : Grammar Kind Draft Value) (fault : Fault Kind) (n : ℕ) (d : Draft) (line : List ℕ) (rest : List (List ℕ)) (total : Result Value (Fault Kind))
    → IsUnlessMemory fault (on_line n (g.line d line)) → lines_after g n d (line ∷ rest) ≡ total → IsUnlessMemory fault total
unfolding lines_after
ends g Memory n d line rest total e so_far = tt
ends {Kind = Kind} {Draft = Draft} g (At kind m) n d line rest total e so_far =
    let one : lines_after g n d (line ∷ rest) ≡ Err (At kind m) = ap (λ (r : Result Draft (Fault Kind)). then_lines r (λ x. lines_after g (n + 1) x rest)) e in
    sym so_far ∙ one

-- no line is left
pub is_done : {Kind Draft Value : Type 0} (g : Grammar Kind Draft Value) (n m : ℕ) (d : Draft) (r total : Result Value (Fault Kind))
    → n ≡ m → Gives r (on_line m (g.finish d)) → lines_after g n d [] ≡ total → Gives r total
unfolding lines_after
is_done g n m d r total e h so_far = subst (Gives r) (ap (λ (k : ℕ). on_line k (g.finish d)) (sym e) ∙ so_far) h

-- ---- the same of a draft that takes line by line

-- a line without a fault is taken
pub taken : {Kind Draft Value : Type 0} (g : Grammar Kind Draft Value) (d next : Draft) (line : List ℕ) → (next, None) ≡ going_on d (g.line d line) → g.line d line ≡ Ok next
taken g d next line e = says_next d next (g.line d line) e

pub goes_on_taken : {Kind Draft Value : Type 0} (g : Grammar Kind Draft Value) (n : ℕ) (d next : Draft) (line : List ℕ) (rest : List (List ℕ)) (total : Result Value (Fault Kind))
    → (next, None) ≡ going_on d (g.line d line) → lines_after g n d (line ∷ rest) ≡ total → lines_after g (n + 1) next rest ≡ total
goes_on_taken {Kind = Kind} {Draft = Draft} g n d next line rest total e so_far =
    goes_on g n d next line rest total (ap (λ (r : Result Draft Kind). on_line n r) (says_next d next (g.line d line) e)) so_far

-- one with a fault is not: that fault is the answer
pub ends_untaken : {Kind Draft Value : Type 0} (g : Grammar Kind Draft Value) (kind : Kind) (n : ℕ) (d next : Draft) (line : List ℕ) (rest : List (List ℕ)) (total : Result Value (Fault Kind))
    → (next, Some kind) ≡ going_on d (g.line d line) → lines_after g n d (line ∷ rest) ≡ total → total ≡ Err (At kind n)
ends_untaken {Kind = Kind} {Draft = Draft} g kind n d next line rest total e so_far =
    ends g (At kind n) n d line rest total (ap (λ (r : Result Draft Kind). on_line n r) (has_fault d next kind (g.line d line) e)) so_far

-- what the end says is the answer
pub done_so : {Kind Draft Value : Type 0} (g : Grammar Kind Draft Value) (n m : ℕ) (d : Draft) (r : Result Value Kind) (total : Result Value (Fault Kind))
    → n ≡ m → r ≡ g.finish d → lines_after g n d [] ≡ total → total ≡ on_line m r
unfolding lines_after
done_so {Kind = Kind} {Value = Value} g n m d r total e says so_far =
    sym so_far ∙ (ap (λ (k : ℕ). on_line k (g.finish d)) e ∙ ap (λ (x : Result Value Kind). on_line m x) (sym says))

-- ---- the first fault

record Stops {Kind Draft Value : Type 0} (g : Grammar Kind Draft Value) (n : ℕ) (d : Draft) (lines : List (List ℕ)) (kind : Kind) (m : ℕ) : Type 0 where
  before : List (List ℕ)
  rest : List (List ℕ)
  draft : Draft
  cut : lines ≡ before ++ rest
  sound : LeadsTo g d before draft
  numbered : m ≡ length before + n
  next : IsNext g draft rest kind

stops : {Kind Draft Value : Type 0} (g : Grammar Kind Draft Value) (n : ℕ) (d : Draft) (lines : List (List ℕ)) (kind : Kind) (m : ℕ) → lines_after g n d lines ≡ Err (At kind m) → Stops g n d lines kind m
unfolding lines_after
stops {Kind = Kind} {Draft = Draft} {Value = Value} g n d [] kind m e = at_end (g.finish d) refl e
  where
    at_end : (r : Result Value Kind) → g.finish d ≡ r → on_line n r ≡ Err (At kind m) → Stops g n d [] kind m
    at_end (Ok v) is f = absurd cc
    at_end (Err k) is f =
        let same : k ≡ kind = cc in
        let number : n ≡ m = cc in
        record { before = []; rest = []; draft = d; cut = refl; sound = refl; numbered = omega arith; next = cc }
stops {Kind = Kind} {Draft = Draft} {Value = Value} g n d (line ∷ lines) kind m e = go (g.line d line) refl (λ next f. stops g (n + 1) next lines kind m f) e
  where
    go : (r : Result Draft Kind) → g.line d line ≡ r → ((next : Draft) → lines_after g (n + 1) next lines ≡ Err (At kind m) → Stops g (n + 1) next lines kind m)
        → then_lines (on_line n r) (λ next. lines_after g (n + 1) next lines) ≡ Err (At kind m) → Stops g n d (line ∷ lines) kind m
    go (Ok next) at again f =
        let s = again next f in
        record { before = line ∷ s.before; rest = s.rest; draft = s.draft; cut = ap (λ (x : List (List ℕ)). line ∷ x) s.cut; sound = (next, at, s.sound); numbered = omega (arith, s.numbered); next = s.next }
    go (Err k) at again f =
        let same : k ≡ kind = cc in
        let number : n ≡ m = cc in
        record { before = []; rest = line ∷ lines; draft = d; cut = refl; sound = refl; numbered = omega arith; next = cc }

-- a fault that the definition answers is the first one
pub first : {Kind Draft Value : Type 0} (g : Grammar Kind Draft Value) (text : List ℕ) (kind : Kind) (m : ℕ) → meaning_of g text ≡ Err (At kind m) → IsFirstFault g text kind m
first g text kind m e =
    let s = stops g 1 g.nothing (lines_of text) kind m e in
    record { before = s.before; rest = s.rest; draft = s.draft; cut = s.cut; sound = s.sound; numbered = s.numbered; next = s.next }

-- a fault that a reader returned is the definition's
pub fault_given : {Kind Value : Type 0} (r read : Result Value (Fault Kind)) (kind : Kind) (n : ℕ) → r ≡ Err (At kind n) → Gives r read → read ≡ Err (At kind n)
fault_given {Kind = Kind} {Value = Value} r read kind n e h = subst (λ (x : Result Value (Fault Kind)). Gives x read) e h
