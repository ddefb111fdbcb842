-- The lines of a component's declarations are read as they were written.
use Rattle.std.proofs.Common.{◌≡◌, ℕ, ◌+◌, ◌<◌, ◌≤◌, true, false, List, [], ◌∷◌, ◌++◌, length, Option, Some, None, Ok, refl, sym, ap, ◌∙◌, append_assoc, arith}
use Rattle.std.specs.Prelude.{codes, map, Bool, ◌==◌, if◌then◌else◌}
use Rattle.std.specs.Option.{unwrap_or}
use Rattle.std.specs.List.{flat_map, position, AllByRecursion}
use Rattle.std.specs.Str.{bytes_eq}
use Rattle.std.specs.Fmt.{decimal}
use Rattle.std.proofs.lemmas.Bool.{eqb-true, le-ltb, lt-leb}
use Rattle.std.proofs.lemmas.List.{append-nil, length-append}
use Rattle.lu_text.specs.Names.{has_name_form, is_long, IsName}
use Rattle.lu_text.specs.Numbers.{value_in}
use Rattle.lu_text.specs.Words.{Word}
use Rattle.lu_text.proofs.Written.{AreText, Reads, reads_nothing, reads_line, reads_on, allowed_line, one_line, words_line, words_again}
use Rattle.lu_text.proofs.WordText.{literal_text, number_text, value_again}
use Rattle.lu_component.specs.declared.component.Array.{Array}
use Rattle.lu_component.specs.declared.component.Op.{Op}
use Rattle.lu_component.specs.Component.{AreDistinct, IsArray}
use Rattle.lu_lang.specs.Draft.{OpenOp, ComponentDraft, nothing}
use Rattle.lu_lang.specs.Grammar.{by_words, line_of, local_line, array_line, lock_line, op_line, component_line, component_grammar}
use Rattle.lu_lang.specs.ComponentText.{line_of_words, local_text, array_text, lock_text}
use Rattle.lu_component.proofs.Named.{not_yet}
use Rattle.lu_lang.proofs.WrittenWords.{is_name_word}

-- ---- one line

-- words that are written with one space between them are read
pub line_reads : (d to : ComponentDraft) (words : List Word) → AreText words → by_words d words ≡ Ok to → Reads component_grammar d (line_of_words words) to
unfolding line_of
line_reads d to words are e =
    let bytes = words_line words are in
    reads_line component_grammar d to _ (one_line _ bytes) (rw (allowed_line _ bytes, words_again words are) e)

-- what is declared so far
abbrev pub so_far : Word → Option ℕ → List Array → List Word → List Op → Option OpenOp → ComponentDraft
so_far name local arrays locks operations begun = record { name = Some name; local = local; arrays = arrays; locks = locks; operations = operations; begun = begun }

-- ---- `component`

component_says : (d : ComponentDraft) (name : Word) → has_name_form name ≡ true → is_long name ≡ false → component_line d (Some name) ≡ Ok (record d { name = Some name })
component_says d name form short = rw (form, short) refl

pub component_reads : (name : Word) → IsName name → Reads component_grammar nothing (line_of_words (codes "component" ∷ name ∷ [])) (so_far name None [] [] [] None)
component_reads name is =
    let w = is_name_word name is in
    line_reads nothing (so_far name None [] [] [] None) (codes "component" ∷ name ∷ []) (literal_text (codes "component") (omega arith) refl, (w.text, tt))
    (component_says nothing name w.form w.short)

-- ---- `local`

-- the line `local` that is written, if any
abbrev pub said_local : ℕ → Option ℕ
said_local local = if local == 0 then None else Some local

local_says : (name most : Word) (n : ℕ) → value_in most ≡ Some n → n ≤ 16 → local_line (so_far name None [] [] [] None) (Some most) ≡ Ok (so_far name (Some n) [] [] [] None)
local_says name most n value few = rw (value, le-ltb 16 n few) refl

pub local_reads : (name : Word) (local : ℕ) → local ≤ 16 → Reads component_grammar (so_far name None [] [] [] None) (local_text local) (so_far name (said_local local) [] [] [] None)
local_reads name local few = by_test (local == 0)
  where
    by_test : (none : Bool) → Reads component_grammar (so_far name None [] [] [] None) (if none then [] else line_of_words (codes "local" ∷ decimal local ∷ [])) (so_far name (if none then None else Some local) [] [] [] None)
    by_test true = reads_nothing component_grammar (so_far name None [] [] [] None)
    by_test false =
        line_reads (so_far name None [] [] [] None) (so_far name (Some local) [] [] [] None) (codes "local" ∷ decimal local ∷ [])
        (literal_text (codes "local") (omega arith) refl, (number_text local (omega arith), tt))
        (local_says name (decimal local) local (value_again local (omega arith)) few)

-- what is said is what was written
pub local_said : (local : ℕ) → unwrap_or (said_local local) 0 ≡ local
local_said local = by_test (local == 0) refl
  where
    by_test : (none : Bool) → (local == 0) ≡ none → unwrap_or (if none then None else Some local) 0 ≡ local
    by_test true e = sym (eqb-true local 0 e)
    by_test false e = refl

-- ---- `word`

array_says : (d : ComponentDraft) (name len init : Word) (a b : ℕ) → has_name_form name ≡ true → is_long name ≡ false → value_in len ≡ Some a → value_in init ≡ Some b → length d.arrays < 16 → 1 ≤ a → a ≤ 64 → position (λ x. bytes_eq x.name name) d.arrays ≡ None
    → array_line d (Some (name, len, init)) ≡ Ok (record d { arrays = d.arrays ++ record { name = name; len = a; init = b } ∷ [] })
array_says d name len init a b form short l i room some few new =
    rw (form, short, l, i, lt-leb 16 (length d.arrays) room, le-ltb a 1 some, le-ltb 64 a few, new) refl

array_reads : (name : Word) (local : Option ℕ) (done : List Array) (array : Array) → IsArray array → length done < 16 → position (λ x. bytes_eq x.name array.name) done ≡ None
    → Reads component_grammar (so_far name local done [] [] None) (array_text array) (so_far name local (done ++ array ∷ []) [] [] None)
array_reads name local done array is room new =
    let w = is_name_word array.name is.name in
    line_reads (so_far name local done [] [] None) (so_far name local (done ++ array ∷ []) [] [] None)
    (codes "word" ∷ array.name ∷ decimal array.len ∷ decimal array.init ∷ [])
    (literal_text (codes "word") (omega arith) refl, (w.text, (number_text array.len (let few = is.few in omega arith), (number_text array.init (let few = is.init in omega arith), tt))))
    (array_says (so_far name local done [] [] None) array.name (decimal array.len) (decimal array.init) array.len array.init w.form w.short (value_again array.len (let few = is.few in omega arith)) (value_again array.init is.init) room is.some is.few new)

pub arrays_read : (name : Word) (local : Option ℕ) (all done rest : List Array) → all ≡ done ++ rest → AllByRecursion IsArray rest → length all ≤ 16 → AreDistinct (map (λ a. a.name) all)
    → Reads component_grammar (so_far name local done [] [] None) (flat_map array_text rest) (so_far name local all [] [] None)
arrays_read name local all done [] is each few apart =
    let same : all ≡ done = is ∙ append-nil done in
    rw same (reads_nothing component_grammar (so_far name local done [] [] None))
arrays_read name local all done (array ∷ rest) is each few apart =
    let n : length (done ++ array ∷ rest) ≡ length done + length (array ∷ rest) = simp length-append in
    let whole : length all ≡ length (done ++ array ∷ rest) = ap length is in
    let here : length done < 16 = omega arith in
    let distinct : AreDistinct (map (λ a. a.name) (done ++ array ∷ rest)) = rw is at apart in
    reads_on component_grammar (so_far name local done [] [] None) (so_far name local (done ++ array ∷ []) [] [] None) (so_far name local all [] [] None) (array_text array) (flat_map array_text rest)
    (array_reads name local done array each.0 here (not_yet (λ a. a.name) done rest array distinct))
    (arrays_read name local all (done ++ array ∷ []) rest (is ∙ sym (append_assoc done (array ∷ []) rest)) each.1 few apart)

-- ---- `lock`

lock_says : (d : ComponentDraft) (name : Word) → has_name_form name ≡ true → is_long name ≡ false → length d.locks < 8 → position (λ x. bytes_eq x name) d.locks ≡ None
    → lock_line d (Some name) ≡ Ok (record d { locks = d.locks ++ name ∷ [] })
lock_says d name form short room new = rw (form, short, lt-leb 8 (length d.locks) room, new) refl

lock_reads : (name : Word) (local : Option ℕ) (arrays : List Array) (done : List Word) (lock : Word) → IsName lock → length done < 8 → position (λ x. bytes_eq x lock) done ≡ None
    → Reads component_grammar (so_far name local arrays done [] None) (lock_text lock) (so_far name local arrays (done ++ lock ∷ []) [] None)
lock_reads name local arrays done lock is room new =
    let w = is_name_word lock is in
    line_reads (so_far name local arrays done [] None) (so_far name local arrays (done ++ lock ∷ []) [] None)
    (codes "lock" ∷ lock ∷ []) (literal_text (codes "lock") (omega arith) refl, (w.text, tt))
    (lock_says (so_far name local arrays done [] None) lock w.form w.short room new)

pub locks_read : (name : Word) (local : Option ℕ) (arrays : List Array) (all done rest : List Word) → all ≡ done ++ rest → AllByRecursion IsName rest → length all ≤ 8 → AreDistinct (map (λ x. x) all)
    → Reads component_grammar (so_far name local arrays done [] None) (flat_map lock_text rest) (so_far name local arrays all [] None)
locks_read name local arrays all done [] is each few apart =
    let same : all ≡ done = is ∙ append-nil done in
    rw same (reads_nothing component_grammar (so_far name local arrays done [] None))
locks_read name local arrays all done (lock ∷ rest) is each few apart =
    let n : length (done ++ lock ∷ rest) ≡ length done + length (lock ∷ rest) = simp length-append in
    let whole : length all ≡ length (done ++ lock ∷ rest) = ap length is in
    let here : length done < 8 = omega arith in
    let distinct : AreDistinct (map (λ x. x) (done ++ lock ∷ rest)) = rw is at apart in
    reads_on component_grammar (so_far name local arrays done [] None) (so_far name local arrays (done ++ lock ∷ []) [] None) (so_far name local arrays all [] None) (lock_text lock) (flat_map lock_text rest)
    (lock_reads name local arrays done lock each.0 here (not_yet (λ x. x) done rest lock distinct))
    (locks_read name local arrays all (done ++ lock ∷ []) rest (is ∙ sym (append_assoc done (lock ∷ []) rest)) each.1 few apart)

-- ---- `op`

op_says : (d : ComponentDraft) (name args : Word) (n : ℕ) → has_name_form name ≡ true → is_long name ≡ false → value_in args ≡ Some n → length d.operations < 16 → n ≤ 4 → position (λ o. bytes_eq o.name name) d.operations ≡ None
    → op_line d (Some (name, args)) ≡ Ok (record d { begun = Some (record { name = name; args = n; statements = []; labels = [] }) })
op_says d name args n form short value room few new =
    rw (form, short, value, lt-leb 16 (length d.operations) room, le-ltb 4 n few, new) refl

pub op_reads : (name : Word) (local : Option ℕ) (arrays : List Array) (locks : List Word) (done : List Op) (op : Word) (args : ℕ) → IsName op → args ≤ 4 → length done < 16 → position (λ o. bytes_eq o.name op) done ≡ None
    → Reads component_grammar (so_far name local arrays locks done None) (line_of_words (codes "op" ∷ op ∷ decimal args ∷ [])) (so_far name local arrays locks done (Some (record { name = op; args = args; statements = []; labels = [] })))
op_reads name local arrays locks done op args is few room new =
    let w = is_name_word op is in
    line_reads (so_far name local arrays locks done None) (so_far name local arrays locks done (Some (record { name = op; args = args; statements = []; labels = [] })))
    (codes "op" ∷ op ∷ decimal args ∷ []) (literal_text (codes "op") (omega arith) refl, (w.text, (number_text args (omega arith), tt)))
    (op_says (so_far name local arrays locks done None) op (decimal args) args w.form w.short (value_again args (omega arith)) room few new)
