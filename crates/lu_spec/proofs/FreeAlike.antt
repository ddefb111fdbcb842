-- Texts without marks are read as those of specifications.
use Rattle.std.proofs.Common.{◌≡◌, ℕ, zero, suc, ◌+◌, ◌-◌, arith, length, map, drop, Bool, true, false, ◌||◌, ◌↔◌, List, [], ◌∷◌, ◌++◌, Some, slice_get, refl, sym, ap, subst, ◌∙◌, inl, inr}
use Rattle.std.specs.Prelude.{Contains, codes, nat_eq, if◌then◌else◌}
use Rattle.std.specs.Cmp.Lexicographic.{pointwise}
use Rattle.std.specs.List.{list_any}
use Rattle.std.proofs.lemmas.List.{append-nil, length-append}
use Rattle.std.proofs.Math.Seq.{drop-append_seam}
use Rattle.lu_text.specs.declared.fault.Fault.{Fault}
use Rattle.lu_text.specs.declared.fault.Fault.TheVariants.{At, Memory}
use Rattle.lu_text.specs.Lines.{lines_of, words_of}
use Rattle.lu_text.specs.Words.{Word}
use Rattle.lu_history.specs.declared.serial.SerialOp.{SerialOp}
use Rattle.lu_history.specs.declared.serial.SerialOutcome.{SerialOutcome}
use Rattle.lu_test.specs.Matrix.{Matrix}
use Rattle.lu_trie.specs.Conflicts.{ConflictAt, IsDeterministic}
use Rattle.lu_spec.specs.declared.fault.SpecFaultKind.{SpecFaultKind}
use Rattle.lu_spec.specs.declared.fault.SpecFaultKind.TheVariants.{Form, Foreign, Nondeterministic}
use Rattle.lu_spec.specs.declared.marked_line.MarkedOp.{MarkedOp}
use Rattle.lu_spec.specs.Beginnings.{Has, IsClosureOf}
use Rattle.lu_spec.specs.Collecting.{AreCollected, IsCollectFault, IsCollectedAs, IsFaultOfWords, SayOf, has_begun, listing_from, listing_lines, lists}
use Rattle.lu_spec.specs.FreeLaws.{firm_all}
use Rattle.lu_spec.specs.FreeSpecs.{AreFirmlyApart, AreListedFreely, FirmConflictAt, HasFirmConflictIn, IsFaultOfFree, IsFreeFault, IsListedFreely, SayFreely, ends_marked, erased_all, has_free_entries, has_mark, have_mark}
use Rattle.lu_spec.specs.MarkedEntries.{SayMarked, erased, firm, marked_text, marked_words}
use Rattle.lu_spec.specs.SpecText.{HasConflictIn, IsListable, SayHistory, entry_text, history_words}
use Rattle.lu_spec.specs.Specs.{FitsMatrix}
use Rattle.lu_spec.proofs.Sets.{has_cons, has_first, has_next}

-- ---- entries without marks

abbrev pub firm_one : List SerialOp → List MarkedOp
firm_one q = map firm q

erased_firm : (q : List SerialOp) → erased (firm_one q) ≡ q
erased_firm [] = refl
erased_firm (op ∷ q) = ap (λ (x : List SerialOp). op ∷ x) (erased_firm q)

erased_firm_all : (listed : List (List SerialOp)) → erased_all (firm_all listed) ≡ listed
erased_firm_all [] = refl
erased_firm_all (q ∷ listed) = rw (erased_firm q, erased_firm_all listed) refl

texts_firm : (q : List SerialOp) → map marked_text (firm_one q) ≡ map entry_text q
texts_firm [] = refl
texts_firm (op ∷ q) = rw (append-nil (entry_text op), texts_firm q) refl

words_firm : (q : List SerialOp) → marked_words (firm_one q) ≡ history_words q
words_firm q = ap (λ (x : List (List ℕ)). codes "history" ∷ x) (texts_firm q)

ends_so : (word : List ℕ) → ends_marked (word ++ codes "?") ≡ true
ends_so word =
    let size : length (word ++ codes "?") - 1 ≡ length word = omega (arith, length-append word (codes "?")) in
    ap (λ (n : ℕ). pointwise nat_eq (codes "?") (drop n (word ++ codes "?"))) size ∙ ap (pointwise nat_eq (codes "?")) (drop-append_seam word (codes "?"))

or_false : (a b : Bool) → (a || b) ≡ false → (a ≡ false) × (b ≡ false)
or_false true b e = absurd cc
or_false false b e = (refl, e)

-- words without marks say entries without marks
entries_firm : (q : List MarkedOp) → have_mark (map marked_text q) ≡ false → q ≡ firm_one (erased q)
entries_firm [] none = refl
entries_firm (e ∷ q) none =
    let parts = or_false (ends_marked (marked_text e)) (have_mark (map marked_text q)) none in
    let rest = entries_firm q parts.1 in
    let first = go e.marked refl parts.0 in
    ap (λ (x : MarkedOp). x ∷ q) first ∙ ap (λ (x : List MarkedOp). firm e.op ∷ x) rest
  where
    of_mark : (b : Bool) → e.marked ≡ b → b ≡ false → e ≡ firm e.op
    of_mark b is no_mark = ap (λ (m : Bool). let x : MarkedOp = record { op = e.op; marked = m } in x) (is ∙ no_mark)

    go : (b : Bool) → e.marked ≡ b → ends_marked (marked_text e) ≡ false → e ≡ firm e.op
    go false is ends_not = of_mark false is refl
    go true is ends_not =
        let text : marked_text e ≡ entry_text e.op ++ codes "?" = ap (λ (m : Bool). marked_text (let x : MarkedOp = record { op = e.op; marked = m } in x)) is in
        let ends : ends_marked (marked_text e) ≡ true = ap ends_marked text ∙ ends_so (entry_text e.op) in
        absurd (let f : true ≡ false = sym ends ∙ ends_not in cc)

said_firm : (words : List Word) (q : List MarkedOp) → have_mark words ≡ false → words ≡ marked_words q → q ≡ firm_one (erased q)
said_firm words q none says =
    let all : have_mark (marked_words q) ≡ false = ap have_mark (sym says) ∙ none in
    entries_firm q (or_false (ends_marked (codes "history")) (have_mark (map marked_text q)) all).1

pub says_history : (words : List Word) (q : List MarkedOp) → have_mark words ≡ false → SayMarked words q → SayHistory words (erased q)
says_history words q none said =
    (said.0, said.1 ∙ (ap marked_words (said_firm words q none said.1) ∙ words_firm (erased q)))

pub says_marked : (words : List Word) (q : List SerialOp) → SayHistory words q → SayMarked words (firm_one q)
says_marked words q said = (subst IsListable (sym (erased_firm q)) said.0, said.1 ∙ sym (words_firm q))

fits_marked : (matrix : Matrix) (q : List SerialOp) → FitsMatrix matrix q → FitsMatrix matrix (erased (firm_one q))
fits_marked matrix q fits = subst (FitsMatrix matrix) (sym (erased_firm q)) fits

-- ---- conflicts

some_is : {A : Type 0} (a b : A) → Some a ≡ Some b → a ≡ b
some_is a b e = cc

at_firm : (q : List SerialOp) (i : ℕ) (op : SerialOp) → slice_get q i ≡ Some op → slice_get (firm_one q) i ≡ Some (firm op)
at_firm [] i op at = absurd cc
at_firm (x ∷ q) zero op at = ap (λ (z : SerialOp). Some (firm z)) (some_is x op at)
at_firm (x ∷ q) (suc i) op at = at_firm q i op at

firm_conflict : (h q : List SerialOp) (i : ℕ) (o : SerialOutcome) → ConflictAt h q i o → FirmConflictAt (firm_one h) (firm_one q) i o
firm_conflict h q i o conflict = record {
  conflict = subst (λ (x : List SerialOp). ConflictAt x (erased (firm_one q)) i o) (sym (erased_firm h)) (subst (λ (x : List SerialOp). ConflictAt h x i o) (sym (erased_firm q)) conflict);
  first = (conflict.next, at_firm h i conflict.next conflict.next_is);
  second = (record { thread = conflict.next.thread; outcome = o }, at_firm q i (record { thread = conflict.next.thread; outcome = o }) conflict.other_is);
}

plain_conflict : (h q : List SerialOp) (i : ℕ) (o : SerialOutcome) → FirmConflictAt (firm_one h) (firm_one q) i o → ConflictAt h q i o
plain_conflict h q i o conflict =
    subst (λ (x : List SerialOp). ConflictAt x q i o) (erased_firm h) (subst (λ (x : List SerialOp). ConflictAt (erased (firm_one h)) x i o) (erased_firm q) conflict.conflict)

has_of : (listed : List (List SerialOp)) (x : List MarkedOp) → Contains (firm_all listed) x → (q : List SerialOp) × Has listed q × (x ≡ firm_one q)
has_of [] x (k, within, is) = absurd (omega arith)
has_of (q ∷ listed) x (zero, within, is) = (q, has_first q listed, sym is)
has_of (q ∷ listed) x (suc k, within, is) =
    let found = has_of listed x (k, omega arith, is) in
    (found.0, has_next q listed found.0 found.1, found.2)

among : (listed : List (List SerialOp)) (q : List SerialOp) → Has listed q → Contains (firm_all listed) (firm_one q)
among [] q has = absurd cc
among (p ∷ listed) q has = elim (has_cons p listed q has) [
  | inl is ↦ (0, omega arith, ap firm_one (sym is))
  | inr member ↦ let there = among listed q member in (suc there.0, omega (arith, there.1), there.2)
]

pub conflict_alike : (listed : List (List SerialOp)) (q : List SerialOp) → HasFirmConflictIn (firm_all listed) (firm_one q) ↔ HasConflictIn listed q
conflict_alike listed q = (λ some. forth some, λ some. back some)
  where
    forth : HasFirmConflictIn (firm_all listed) (firm_one q) → HasConflictIn listed q
    forth (x, one, i, o, conflict) =
        let found = has_of listed x one in
        (found.0, found.1, i, o, plain_conflict q found.0 i o (subst (λ (z : List MarkedOp). FirmConflictAt (firm_one q) z i o) found.2 conflict))

    back : HasConflictIn listed q → HasFirmConflictIn (firm_all listed) (firm_one q)
    back (p, has, i, o, conflict) = (firm_one p, among listed p has, i, o, firm_conflict q p i o conflict)

pub firm_is_plain : (listed : List (List SerialOp)) → AreFirmlyApart (firm_all listed) ↔ IsDeterministic listed
firm_is_plain listed = (
  λ apart h q i o has also conflict. apart (firm_one h) (among listed h has) ((conflict_alike listed h).1 (q, also, i, o, conflict)),
  λ apart x one conflict. go apart x (has_of listed x one) conflict,
)
  where
    go : IsDeterministic listed → (x : List MarkedOp) → (q : List SerialOp) × Has listed q × (x ≡ firm_one q) → HasFirmConflictIn (firm_all listed) x → ⊥
    go apart x (q, has, is) conflict =
        let some = (conflict_alike listed q).0 (subst (HasFirmConflictIn (firm_all listed)) is conflict) in
        apart q some.0 some.2 some.3 has some.1 some.4

-- ---- lines without marks

abbrev NoMarks : List (ℕ × List Word) → Type 0
NoMarks [] = Unit {0}
NoMarks (line ∷ lines) = (have_mark line.1 ≡ false) × NoMarks lines

none_in : (begun : Bool) (n : ℕ) (lines : List (List ℕ)) → list_any has_mark lines ≡ false → NoMarks (listing_from begun n lines)
none_in begun n [] none = tt
none_in begun n (line ∷ lines) none =
    let parts = or_false (has_mark line) (list_any has_mark lines) none in
    go (lists begun (words_of line)) parts.0 (none_in (has_begun begun (words_of line)) (n + 1) lines parts.1)
  where
    go : (b : Bool) → has_mark line ≡ false → NoMarks (listing_from (has_begun begun (words_of line)) (n + 1) lines) → NoMarks ((if b then (n, words_of line) ∷ [] else []) ++ listing_from (has_begun begun (words_of line)) (n + 1) lines)
    go true here more = (here, more)
    go false here more = more

marks_before : (xs ys : List (ℕ × List Word)) → NoMarks (xs ++ ys) → NoMarks xs × NoMarks ys
marks_before [] ys none = (tt, none)
marks_before (x ∷ xs) ys (here, more) = let parts = marks_before xs ys more in ((here, parts.0), parts.1)

listed_firm : (matrix : Matrix) (lines : List (ℕ × List Word)) (listed : List (List MarkedOp)) → NoMarks lines → SayFreely matrix lines listed → listed ≡ firm_all (erased_all listed)
listed_firm matrix [] [] none say = refl
listed_firm matrix [] (q ∷ listed) none say = absurd say
listed_firm matrix (line ∷ lines) [] none say = absurd say
listed_firm matrix (line ∷ lines) (q ∷ listed) (here, more) (said, fits, others) =
    ap (λ (x : List MarkedOp). x ∷ listed) (said_firm line.1 q here said.1) ∙ ap (λ (x : List (List MarkedOp)). firm_one (erased q) ∷ x) (listed_firm matrix lines listed more others)

say_plain : (matrix : Matrix) (lines : List (ℕ × List Word)) (listed : List (List MarkedOp)) → NoMarks lines → SayFreely matrix lines listed → SayOf matrix lines (erased_all listed)
say_plain matrix [] [] none say = tt
say_plain matrix [] (q ∷ listed) none say = absurd say
say_plain matrix (line ∷ lines) [] none say = absurd say
say_plain matrix (line ∷ lines) (q ∷ listed) (here, more) (said, fits, others) =
    (says_history line.1 q here said, fits, say_plain matrix lines listed more others)

say_firm : (matrix : Matrix) (lines : List (ℕ × List Word)) (listed : List (List SerialOp)) → SayOf matrix lines listed → SayFreely matrix lines (firm_all listed)
say_firm matrix [] [] say = tt
say_firm matrix [] (q ∷ listed) say = absurd say
say_firm matrix (line ∷ lines) [] say = absurd say
say_firm matrix (line ∷ lines) (q ∷ listed) (said, fits, others) =
    (says_marked line.1 q said, fits_marked matrix q fits, say_firm matrix lines listed others)

are_plain : (matrix : Matrix) (lines : List (ℕ × List Word)) (listed : List (List MarkedOp)) → NoMarks lines → AreListedFreely matrix lines listed → AreCollected matrix lines (erased_all listed)
are_plain matrix lines listed none are = record {
  say = say_plain matrix lines listed none are.say;
  deterministic = (firm_is_plain (erased_all listed)).0 (subst AreFirmlyApart (listed_firm matrix lines listed none are.say) are.apart);
}

are_firm : (matrix : Matrix) (lines : List (ℕ × List Word)) (listed : List (List SerialOp)) → AreCollected matrix lines listed → AreListedFreely matrix lines (firm_all listed)
are_firm matrix lines listed are = record {
  say = say_firm matrix lines listed are.say;
  apart = (firm_is_plain listed).1 are.deterministic;
}

-- ---- texts

pub read_alike : (matrix : Matrix) (text : List ℕ) (members : List (List SerialOp)) → has_free_entries text ≡ false → IsListedFreely matrix text members ↔ IsCollectedAs matrix text members
read_alike matrix text members none = (λ some. forth some, λ some. back some)
  where
    no_marks : NoMarks (listing_lines text)
    no_marks = none_in false 1 (lines_of text) none

    forth : IsListedFreely matrix text members → IsCollectedAs matrix text members
    forth (listed, are, closure) = (erased_all listed, are_plain matrix (listing_lines text) listed no_marks are, closure)

    back : IsCollectedAs matrix text members → IsListedFreely matrix text members
    back (listed, are, closure) =
        (firm_all listed, are_firm matrix (listing_lines text) listed are, subst (λ (x : List (List SerialOp)). IsClosureOf x members) (sym (erased_firm_all listed)) closure)

fault_plain : (matrix : Matrix) (listed : List (List MarkedOp)) (words : List Word) (kind : SpecFaultKind) → have_mark words ≡ false → listed ≡ firm_all (erased_all listed) → IsFaultOfFree matrix (HasFirmConflictIn listed) words kind → IsFaultOfWords matrix (erased_all listed) words kind
fault_plain matrix listed words Form none is fault = λ q listable e. let said = says_marked words q (listable, e) in fault (firm_one q) said.0 said.1
fault_plain matrix listed words Foreign none is (q, said, fits_not) = (erased q, says_history words q none said, fits_not)
fault_plain matrix listed words Nondeterministic none is (q, said, fits, conflict) =
    let firm_q : q ≡ firm_one (erased q) = said_firm words q none said.1 in
    (erased q, says_history words q none said, fits, (conflict_alike (erased_all listed) (erased q)).0 (subst (HasFirmConflictIn (firm_all (erased_all listed))) firm_q (subst (λ (x : List (List MarkedOp)). HasFirmConflictIn x q) is conflict)))

fault_firm : (matrix : Matrix) (listed : List (List SerialOp)) (words : List Word) (kind : SpecFaultKind) → have_mark words ≡ false → IsFaultOfWords matrix listed words kind → IsFaultOfFree matrix (HasFirmConflictIn (firm_all listed)) words kind
fault_firm matrix listed words Form none fault = λ q listable e. let said = says_history words q none (listable, e) in fault (erased q) said.0 said.1
fault_firm matrix listed words Foreign none (q, said, fits_not) = (firm_one q, says_marked words q said, λ fits. fits_not (subst (FitsMatrix matrix) (erased_firm q) fits))
fault_firm matrix listed words Nondeterministic none (q, said, fits, conflict) =
    (firm_one q, says_marked words q said, fits_marked matrix q fits, (conflict_alike listed q).1 conflict)

pub refused_alike : (matrix : Matrix) (text : List ℕ) (fault : Fault SpecFaultKind) → has_free_entries text ≡ false → IsFreeFault matrix text fault ↔ IsCollectFault matrix text fault
refused_alike matrix text Memory none = (λ x. tt, λ x. tt)
refused_alike matrix text (At kind n) none = (λ f. forth f, λ f. back f)
  where
    parts_of : (before rest : List (ℕ × List Word)) (words : List Word) → listing_lines text ≡ before ++ (n, words) ∷ rest → NoMarks before × (have_mark words ≡ false)
    parts_of before rest words parts =
        let both = marks_before before ((n, words) ∷ rest) (subst NoMarks parts (none_in false 1 (lines_of text) none)) in
        (both.0, both.1.0)

    forth : IsFreeFault matrix text (At kind n) → IsCollectFault matrix text (At kind n)
    forth f =
        let clear = parts_of f.before f.rest f.words f.parts in
        record {
          before = f.before;
          listed = erased_all f.listed;
          are = are_plain matrix f.before f.listed clear.0 f.are;
          words = f.words;
          rest = f.rest;
          parts = f.parts;
          fault = fault_plain matrix f.listed f.words kind clear.1 (listed_firm matrix f.before f.listed clear.0 f.are.say) f.fault;
        }

    back : IsCollectFault matrix text (At kind n) → IsFreeFault matrix text (At kind n)
    back f =
        let clear = parts_of f.before f.rest f.words f.parts in
        record {
          before = f.before;
          listed = firm_all f.listed;
          are = are_firm matrix f.before f.listed f.are;
          words = f.words;
          rest = f.rest;
          parts = f.parts;
          fault = fault_firm matrix f.listed f.words kind clear.1 f.fault;
        }
