-- Instructions are read as they were written, but for their targets, which are labels until `end`.
use Rattle.std.proofs.Common.{◌≡◌, ℕ, ◌<◌, ◌≤◌, List, [], ◌∷◌, length, Option, Some, None, Ok, refl, ap, arith}
use Rattle.std.specs.Prelude.{map, slice_get}
use Rattle.std.specs.List.{position}
use Rattle.std.specs.Str.{bytes_eq}
use Rattle.std.specs.Fmt.{decimal}
use Rattle.std.specs.Option.{unwrap_or, option_map}
use Rattle.std.proofs.lemmas.Bool.{le-ltb}
use Rattle.std.proofs.lemmas.List.Elements.{recursion_from_All}
use Rattle.lu_text.specs.Names.{IsName}
use Rattle.lu_text.specs.Numbers.{value_in}
use Rattle.lu_text.specs.Words.{Word}
use Rattle.lu_text.proofs.Written.{AreText, each_weaker}
use Rattle.lu_text.proofs.WordText.{number_text, value_again}
use Rattle.lu_component.specs.declared.instr.Operand.{Operand}
use Rattle.lu_component.specs.declared.instr.Arithmetic.{Arithmetic}
use Rattle.lu_component.specs.declared.instr.Instr.{Instr}
use Rattle.lu_component.specs.declared.instr.Instr.TheVariants as instr
use Rattle.lu_component.specs.declared.component.Array.{Array}
use Rattle.lu_component.specs.declared.component.Op.{Op}
use Rattle.lu_lang.specs.declared.draft.Statement.{Statement}
use Rattle.lu_lang.specs.declared.draft.Statement.TheVariants.{Plain, Jump, JumpIfZero}
use Rattle.lu_lang.specs.declared.keyword.Keyword.{Keyword}
use Rattle.lu_lang.specs.declared.keyword.Keyword.TheVariants as keyword
use Rattle.lu_component.specs.Component.{Component, IsComponent, IsArray, IsInstr}
use Rattle.lu_lang.specs.Draft.{ComponentDraft}
use Rattle.lu_lang.specs.Words.{keyword_word, register_in, operand_in}
use Rattle.lu_lang.specs.Grammar.{set_line, compute_line, load_line, cas_line, locked, cell_and_value, pick_line, jump_line, jump_if_zero_line, return_line, statement}
use Rattle.lu_component.specs.Operands.{register_word, operand_word}
use Rattle.lu_lang.specs.ComponentText.{array_word, lock_word, label_word, instr_words}
use Rattle.lu_component.proofs.Named.{name_at, name_has, place_at}
use Rattle.lu_lang.proofs.WrittenWords.{is_register_word, is_operand_word, IsNameWord, is_name_word, label_name}
use Rattle.lu_lang.proofs.WrittenLines.{so_far, said_local}

-- ---- lines

set_says : (dst v : Word) (to : ℕ) (o : Operand) → register_in dst ≡ Some to → operand_in v ≡ Some o → set_line (Some (dst, v)) ≡ Ok (Plain (instr.Set to o))
set_says dst v to o r p = rw (r, p) refl

compute_says : (by : Arithmetic) (dst a b : Word) (to : ℕ) (o q : Operand) → register_in dst ≡ Some to → operand_in a ≡ Some o → operand_in b ≡ Some q → compute_line by (Some (dst, a, b)) ≡ Ok (Plain (instr.Compute by to o q))
compute_says by dst a b to o q r x y = rw (r, x, y) refl

-- a word that names array k
record IsArrayWord (arrays : List Array) (word : Word) (k : ℕ) : Type 0 where
  name : IsNameWord word
  number : position (λ a. bytes_eq a.name word) arrays ≡ Some k

record IsLockWord (locks : List Word) (word : Word) (k : ℕ) : Type 0 where
  name : IsNameWord word
  number : position (λ l. bytes_eq l word) locks ≡ Some k

load_says : (d : ComponentDraft) (dst array i : Word) (to k : ℕ) (o : Operand) → register_in dst ≡ Some to → IsArrayWord d.arrays array k → operand_in i ≡ Some o → load_line d (Some (dst, array, i)) ≡ Ok (Plain (instr.Load to k o))
load_says d dst array i to k o r a x = rw (r, a.name.form, a.name.short, a.number, x) refl

cas_says : (d : ComponentDraft) (dst array i old new : Word) (to k : ℕ) (o p q : Operand) → register_in dst ≡ Some to → IsArrayWord d.arrays array k → operand_in i ≡ Some o → operand_in old ≡ Some p → operand_in new ≡ Some q → cas_line d (Some (dst, array, i, old, new)) ≡ Ok (Plain (instr.Cas to k o p q))
cas_says d dst array i old new to k o p q r a x y z = rw (r, a.name.form, a.name.short, a.number, x, y, z) refl

lock_says : (d : ComponentDraft) (lock : Word) (k : ℕ) → IsLockWord d.locks lock k → locked d (Some lock) ≡ Ok k
lock_says d lock k l = rw (l.name.form, l.name.short, l.number) refl

cell_says : (d : ComponentDraft) (array i v : Word) (k : ℕ) (o q : Operand) → IsArrayWord d.arrays array k → operand_in i ≡ Some o → operand_in v ≡ Some q → cell_and_value d (Some (array, i, v)) ≡ Ok (k, o, q)
cell_says d array i v k o q a x y = rw (a.name.form, a.name.short, a.number, x, y) refl

pick_says : (dst count : Word) (to n : ℕ) → register_in dst ≡ Some to → value_in count ≡ Some n → 1 ≤ n → n ≤ 8 → pick_line (Some (dst, count)) ≡ Ok (Plain (instr.Pick to n))
pick_says dst count to n r x some few = rw (r, x, le-ltb n 1 some, le-ltb 8 n few) refl

jump_says : (label : Word) → IsNameWord label → jump_line (Some label) ≡ Ok (Jump label)
jump_says label l = rw (l.form, l.short) refl

jump_if_zero_says : (v label : Word) (o : Operand) → operand_in v ≡ Some o → IsNameWord label → jump_if_zero_line (Some (v, label)) ≡ Ok (JumpIfZero o label)
jump_if_zero_says v label o x l = rw (l.form, x, l.short) refl

return_says : (v : Word) (o : Operand) → operand_in v ≡ Some o → return_line (Some v) ≡ Ok (Plain (instr.Return o))
return_says v o x = rw x refl

-- ---- what is declared

is_array_word : (c : Component) → IsComponent c → (k : ℕ) → k < length c.arrays → IsArrayWord c.arrays (array_word c k) k
is_array_word c is k h = record {
  name = is_name_word (array_word c k) (name_has IsName (λ a. a.name) c.arrays k h (each_weaker IsArray (λ a. IsName a.name) (λ a x. x.name) c.arrays (recursion_from_All IsArray c.arrays is.arrays)));
  number = place_at (λ a. a.name) c.arrays k h is.arrays_apart;
}

lock_name : (o : Option Word) → unwrap_or (option_map (λ l. l) o) [] ≡ unwrap_or o []
lock_name None = refl
lock_name (Some l) = refl

pub same_locks : (locks : List Word) → map (λ l. l) locks ≡ locks
same_locks [] = refl
same_locks (l ∷ locks) = ap (λ (ls : List Word). l ∷ ls) (same_locks locks)

is_lock_word : (c : Component) → IsComponent c → (k : ℕ) → k < length c.locks → IsLockWord c.locks (lock_word c k) k
is_lock_word c is k h =
    let same : name_at (λ l. l) c.locks k ≡ lock_word c k = lock_name (slice_get c.locks k) in
    rw (← same) (record {
      name = is_name_word (name_at (λ l. l) c.locks k) (name_has IsName (λ l. l) c.locks k h (recursion_from_All IsName c.locks is.locks));
      number = place_at (λ l. l) c.locks k h (rw (same_locks c.locks) is.locks_apart);
    })

-- ---- instructions

abbrev pub keyword_of : Instr → Keyword
keyword_of (instr.Set to v) = keyword.Set
keyword_of (instr.Compute by to a b) = keyword.Compute by
keyword_of (instr.Load to array i) = keyword.Load
keyword_of (instr.Store array i v) = keyword.Store
keyword_of (instr.Cas to array i old new) = keyword.Cas
keyword_of (instr.Lock lock) = keyword.Lock
keyword_of (instr.Unlock lock) = keyword.Unlock
keyword_of (instr.Await array i v) = keyword.Await
keyword_of (instr.AwaitNot array i v) = keyword.AwaitNot
keyword_of (instr.Pick to count) = keyword.Pick
keyword_of (instr.Jump target) = keyword.Jump
keyword_of (instr.JumpIfZero v target) = keyword.JumpIfZero
keyword_of (instr.Return v) = keyword.Return

abbrev pub arguments_of : Component → Instr → List Word
arguments_of c (instr.Set to v) = register_word to ∷ operand_word v ∷ []
arguments_of c (instr.Compute by to a b) = register_word to ∷ operand_word a ∷ operand_word b ∷ []
arguments_of c (instr.Load to array i) = register_word to ∷ array_word c array ∷ operand_word i ∷ []
arguments_of c (instr.Store array i v) = array_word c array ∷ operand_word i ∷ operand_word v ∷ []
arguments_of c (instr.Cas to array i old new) = register_word to ∷ array_word c array ∷ operand_word i ∷ operand_word old ∷ operand_word new ∷ []
arguments_of c (instr.Lock lock) = lock_word c lock ∷ []
arguments_of c (instr.Unlock lock) = lock_word c lock ∷ []
arguments_of c (instr.Await array i v) = array_word c array ∷ operand_word i ∷ operand_word v ∷ []
arguments_of c (instr.AwaitNot array i v) = array_word c array ∷ operand_word i ∷ operand_word v ∷ []
arguments_of c (instr.Pick to count) = register_word to ∷ decimal count ∷ []
arguments_of c (instr.Jump target) = label_word target ∷ []
arguments_of c (instr.JumpIfZero v target) = operand_word v ∷ label_word target ∷ []
arguments_of c (instr.Return v) = operand_word v ∷ []

-- what a written instruction says: a target is a label
abbrev pub statement_of : Instr → Statement
statement_of (instr.Set to v) = Plain (instr.Set to v)
statement_of (instr.Compute by to a b) = Plain (instr.Compute by to a b)
statement_of (instr.Load to array i) = Plain (instr.Load to array i)
statement_of (instr.Store array i v) = Plain (instr.Store array i v)
statement_of (instr.Cas to array i old new) = Plain (instr.Cas to array i old new)
statement_of (instr.Lock lock) = Plain (instr.Lock lock)
statement_of (instr.Unlock lock) = Plain (instr.Unlock lock)
statement_of (instr.Await array i v) = Plain (instr.Await array i v)
statement_of (instr.AwaitNot array i v) = Plain (instr.AwaitNot array i v)
statement_of (instr.Pick to count) = Plain (instr.Pick to count)
statement_of (instr.Jump target) = Jump (label_word target)
statement_of (instr.JumpIfZero v target) = JumpIfZero v (label_word target)
statement_of (instr.Return v) = Plain (instr.Return v)

-- the words of the instruction say it again, beside these operations
pub record IsSaid (c : Component) (operations : List Op) (i : Instr) : Type 0 where
  pub words : instr_words c i ≡ keyword_word (keyword_of i) ∷ arguments_of c i
  pub text : AreText (arguments_of c i)
  pub says : statement (so_far c.name (said_local c.local) c.arrays c.locks operations None) (Some (keyword_of i)) (arguments_of c i) ≡ Ok (statement_of i)

label_is_word : (target places : ℕ) → target < places → places ≤ 64 → IsNameWord (label_word target)
label_is_word target places h few = is_name_word (label_word target) (label_name target (omega arith))

pub is_said : (c : Component) → IsComponent c → (operations : List Op) (places : ℕ) → places ≤ 64 → (i : Instr) → IsInstr (length c.arrays) (length c.locks) places i → IsSaid c operations i
is_said c is operations places few (instr.Set to v) (h, p) =
    let r = is_register_word to h in
    let x = is_operand_word v p in
    record { words = refl; text = (r.text, (x.text, tt)); says = set_says (register_word to) (operand_word v) to v r.again x.again }
is_said c is operations places few (instr.Compute by to a b) (h, p, q) =
    let r = is_register_word to h in
    let x = is_operand_word a p in
    let y = is_operand_word b q in
    record { words = refl; text = (r.text, (x.text, (y.text, tt))); says = compute_says by (register_word to) (operand_word a) (operand_word b) to a b r.again x.again y.again }
is_said c is operations places few (instr.Load to array i) (h, k, p) =
    let r = is_register_word to h in
    let a = is_array_word c is array k in
    let x = is_operand_word i p in
    record { words = refl; text = (r.text, (a.name.text, (x.text, tt))); says = load_says (so_far c.name (said_local c.local) c.arrays c.locks operations None) (register_word to) (array_word c array) (operand_word i) to array i r.again a x.again }
is_said c is operations places few (instr.Store array i v) (k, p, q) =
    let a = is_array_word c is array k in
    let x = is_operand_word i p in
    let y = is_operand_word v q in
    record { words = refl; text = (a.name.text, (x.text, (y.text, tt))); says = rw (cell_says (so_far c.name (said_local c.local) c.arrays c.locks operations None) (array_word c array) (operand_word i) (operand_word v) array i v a x.again y.again) refl }
is_said c is operations places few (instr.Cas to array i old new) (h, k, p, q, s) =
    let r = is_register_word to h in
    let a = is_array_word c is array k in
    let x = is_operand_word i p in
    let y = is_operand_word old q in
    let z = is_operand_word new s in
    record { words = refl; text = (r.text, (a.name.text, (x.text, (y.text, (z.text, tt))))); says = cas_says (so_far c.name (said_local c.local) c.arrays c.locks operations None) (register_word to) (array_word c array) (operand_word i) (operand_word old) (operand_word new) to array i old new r.again a x.again y.again z.again }
is_said c is operations places few (instr.Lock lock) h =
    let l = is_lock_word c is lock h in
    record { words = refl; text = (l.name.text, tt); says = rw (lock_says (so_far c.name (said_local c.local) c.arrays c.locks operations None) (lock_word c lock) lock l) refl }
is_said c is operations places few (instr.Unlock lock) h =
    let l = is_lock_word c is lock h in
    record { words = refl; text = (l.name.text, tt); says = rw (lock_says (so_far c.name (said_local c.local) c.arrays c.locks operations None) (lock_word c lock) lock l) refl }
is_said c is operations places few (instr.Await array i v) (k, p, q) =
    let a = is_array_word c is array k in
    let x = is_operand_word i p in
    let y = is_operand_word v q in
    record { words = refl; text = (a.name.text, (x.text, (y.text, tt))); says = rw (cell_says (so_far c.name (said_local c.local) c.arrays c.locks operations None) (array_word c array) (operand_word i) (operand_word v) array i v a x.again y.again) refl }
is_said c is operations places few (instr.AwaitNot array i v) (k, p, q) =
    let a = is_array_word c is array k in
    let x = is_operand_word i p in
    let y = is_operand_word v q in
    record { words = refl; text = (a.name.text, (x.text, (y.text, tt))); says = rw (cell_says (so_far c.name (said_local c.local) c.arrays c.locks operations None) (array_word c array) (operand_word i) (operand_word v) array i v a x.again y.again) refl }
is_said c is operations places few (instr.Pick to count) (h, some, most) =
    let r = is_register_word to h in
    record { words = refl; text = (r.text, (number_text count (omega arith), tt)); says = pick_says (register_word to) (decimal count) to count r.again (value_again count (omega arith)) some most }
is_said c is operations places few (instr.Jump target) h =
    let l = label_is_word target places h few in
    record { words = refl; text = (l.text, tt); says = jump_says (label_word target) l }
is_said c is operations places few (instr.JumpIfZero v target) (p, h) =
    let x = is_operand_word v p in
    let l = label_is_word target places h few in
    record { words = refl; text = (x.text, (l.text, tt)); says = jump_if_zero_says (operand_word v) (label_word target) v x.again l }
is_said c is operations places few (instr.Return v) p =
    let x = is_operand_word v p in
    record { words = refl; text = (x.text, tt); says = return_says (operand_word v) v x.again }
