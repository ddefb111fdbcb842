-- What an instruction's line says names what is there.
use Rattle.std.proofs.Common.{◌≡◌, ℕ, ◌-◌, ◌^◌, ◌<◌, Bool, true, false, cond, List, [], ◌∷◌, length, Option, Some, None, Result, Ok, Err, refl, subst, ap, ◌∙◌, arith}
use Rattle.std.specs.Prelude.{◌==◌, ◌&&◌, ◌||◌, not, nat_le, nat_lt, is_some}
use Rattle.std.specs.Str.{bytes_eq}
use Rattle.std.specs.Option.{unwrap_or, option_map, option_or}
use Rattle.std.proofs.lemmas.Bool.{or_parts, and_parts, leb-true, ltb-true, ltb-false, not-false}
use Rattle.lu_text.specs.Names.{has_name_form, is_long}
use Rattle.lu_text.specs.Numbers.{number_in, value_in, below}
use Rattle.lu_text.specs.Words.{Word, exactly_one, exactly_two, exactly_three, exactly_five}
use Rattle.lu_text.specs.Faults.{Tests, says}
use Rattle.lu_text.proofs.Says.{NoneHold, said}
use Rattle.lu_component.specs.declared.instr.Operand.{Operand}
use Rattle.lu_component.specs.declared.instr.Operand.TheVariants.{Num, Reg}
use Rattle.lu_component.specs.declared.instr.Arithmetic.{Arithmetic}
use Rattle.lu_component.specs.declared.instr.Instr.{Instr}
use Rattle.lu_component.specs.declared.instr.Instr.TheVariants as instr
use Rattle.lu_lang.specs.declared.draft.Statement.{Statement}
use Rattle.lu_lang.specs.declared.draft.Statement.TheVariants.{Plain, Jump, JumpIfZero}
use Rattle.lu_lang.specs.declared.keyword.Keyword.{Keyword}
use Rattle.lu_lang.specs.declared.keyword.Keyword.TheVariants as keyword
use Rattle.lu_lang.specs.declared.fault.LangFaultKind.{LangFaultKind}
use Rattle.lu_lang.specs.declared.fault.LangFaultKind.TheVariants.{Form, Number, Limit, Name}
use Rattle.lu_component.specs.Component.{IsRegister, IsOperand, IsInstr}
use Rattle.lu_component.proofs.Named.{place_small}
use Rattle.lu_lang.specs.Draft.{ComponentDraft}
use Rattle.lu_lang.specs.Words.{register_in}
use Rattle.lu_lang.specs.Grammar.{value, is_value, register, is_register, operand, is_operand, found_array, found_lock, array_number, lock_number, set_line, compute_line, load_line, cas_line, locked, cell_and_value, as_plain, pick_line, jump_line, jump_if_zero_line, return_line, statement}
use Rattle.lu_lang.specs.Sound.{IsStatement}

-- ---- words

pub register_small : (word : Word) → IsRegister (register word)
register_small [] = omega arith
register_small (r ∷ []) = omega arith
register_small (r ∷ d ∷ []) = go (r == 114 && (nat_le 48 d && nat_le d 55)) refl
  where
    go : (b : Bool) → (r == 114 && (nat_le 48 d && nat_le d 55)) ≡ b → unwrap_or (cond b (Some (d - 48)) None) 0 < 8
    go true e = let p = and_parts (r == 114) (nat_le 48 d && nat_le d 55) e in
        let q = and_parts (nat_le 48 d) (nat_le d 55) p.1 in
        omega (arith, leb-true d 55 q.1)
    go false e = omega arith
register_small (r ∷ d ∷ e ∷ word) = omega arith

below_is : (limit : ℕ) (o : Option ℕ) (n : ℕ) → below limit o ≡ Some n → n < limit
below_is limit None n e = absurd cc
below_is limit (Some k) n e = go (nat_lt k limit) refl e
  where
    go : (b : Bool) → nat_lt k limit ≡ b → cond b (Some k) None ≡ Some n → n < limit
    go true t f = let same : k ≡ n = cc in omega (arith, ltb-true k limit t)
    go false t f = absurd cc

pub operand_sound : (word : Word) → IsOperand (operand word)
operand_sound word = by_register (register_in word) refl
  where
    by_number : (o : Option ℕ) → value_in word ≡ o → IsOperand (unwrap_or (option_map (λ n. Num n) o) (Num 0))
    by_number None e = omega arith
    by_number (Some n) e = below_is (2 ^ 32) (number_in word) n e

    by_register : (o : Option ℕ) → register_in word ≡ o → IsOperand (unwrap_or (option_or (option_map (λ r. Reg r) o) (option_map (λ n. Num n) (value_in word))) (Num 0))
    by_register None e = by_number (value_in word) refl
    by_register (Some r) e = let small = register_small word in let same : register word ≡ r = ap (λ (x : Option ℕ). unwrap_or x 0) e in omega arith

array_there : (d : ComponentDraft) (name : Word) → not (is_some (found_array d name)) ≡ false → array_number d name < length d.arrays
array_there d name e = place_small (λ a. bytes_eq a.name name) d.arrays (not-false (is_some (found_array d name)) e)

lock_there : (d : ComponentDraft) (name : Word) → not (is_some (found_lock d name)) ≡ false → lock_number d name < length d.locks
lock_there d name e = place_small (λ l. bytes_eq l name) d.locks (not-false (is_some (found_lock d name)) e)

-- ---- instructions

abbrev IsSound : ComponentDraft → Result Statement LangFaultKind → Type 0
IsSound d r = (s : Statement) → r ≡ Ok s → IsStatement (length d.arrays) (length d.locks) s

-- what holds of the statement that is said holds of the result
sound : (d : ComponentDraft) (tests : Tests LangFaultKind) (s : Statement) → (NoneHold tests → IsStatement (length d.arrays) (length d.locks) s) → IsSound d (says tests s)
sound d tests s h t e = let x = said tests s t e in subst (IsStatement (length d.arrays) (length d.locks)) x.same (h x.none)

none_said : (d : ComponentDraft) (kind : LangFaultKind) → IsSound d (Err kind)
none_said d kind s e = absurd cc

set_sound : (d : ComponentDraft) (o : Option (Word × Word)) → IsSound d (set_line o)
set_sound d None = none_said d _
set_sound d (Some (dst, v)) = sound d
    ((not (is_register dst), Form) ∷ (not (is_operand v), Number) ∷ [])
    (Plain (instr.Set (register dst) (operand v)))
    (λ n places. (register_small dst, operand_sound v))

compute_sound : (d : ComponentDraft) (by : Arithmetic) (o : Option (Word × Word × Word)) → IsSound d (compute_line by o)
compute_sound d by None = none_said d _
compute_sound d by (Some (dst, a, b)) = sound d
    ((not (is_register dst), Form) ∷ (not (is_operand a) || not (is_operand b), Number) ∷ [])
    (Plain (instr.Compute by (register dst) (operand a) (operand b)))
    (λ n places. (register_small dst, operand_sound a, operand_sound b))

load_sound : (d : ComponentDraft) (o : Option (Word × Word × Word)) → IsSound d (load_line d o)
load_sound d None = none_said d _
load_sound d (Some (dst, array, i)) = sound d
    ((not (is_register dst) || not (has_name_form array), Form) ∷ (not (is_operand i), Number) ∷ (is_long array, Limit) ∷ (not (is_some (found_array d array)), Name) ∷ [])
    (Plain (instr.Load (register dst) (array_number d array) (operand i)))
    (λ n places. (register_small dst, array_there d array n.1.1.1.0, operand_sound i))

cas_sound : (d : ComponentDraft) (o : Option (Word × Word × Word × Word × Word)) → IsSound d (cas_line d o)
cas_sound d None = none_said d _
cas_sound d (Some (dst, array, i, old, new)) = sound d
    ((not (is_register dst) || not (has_name_form array), Form) ∷ (not (is_operand i) || (not (is_operand old) || not (is_operand new)), Number) ∷ (is_long array, Limit) ∷ (not (is_some (found_array d array)), Name) ∷ [])
    (Plain (instr.Cas (register dst) (array_number d array) (operand i) (operand old) (operand new)))
    (λ n places. (register_small dst, array_there d array n.1.1.1.0, operand_sound i, operand_sound old, operand_sound new))

locking_sound : (d : ComponentDraft) (locking : ℕ → Instr) → ((lock : ℕ) → lock < length d.locks → (places : ℕ) → IsInstr (length d.arrays) (length d.locks) places (locking lock)) → (o : Option Word) → IsSound d (as_plain locking (locked d o))
locking_sound d locking each None = none_said d _
locking_sound d locking each (Some lock) = λ s e. go (locked d (Some lock)) (λ l f. said_lock (locked d (Some lock)) l refl f) s e
  where
    said_lock : (r : Result ℕ LangFaultKind) (l : ℕ) → locked d (Some lock) ≡ r → r ≡ Ok l → l < length d.locks
    said_lock r l is f =
        let x = said
        ((not (has_name_form lock), Form) ∷ (is_long lock, Limit) ∷ (not (is_some (found_lock d lock)), Name) ∷ [])
        (lock_number d lock) l (is ∙ f) in
        subst (λ (n : ℕ). n < length d.locks) x.same (lock_there d lock x.none.1.1.0)

    go : (r : Result ℕ LangFaultKind) → ((l : ℕ) → r ≡ Ok l → l < length d.locks) → (s : Statement) → as_plain locking r ≡ Ok s → IsStatement (length d.arrays) (length d.locks) s
    go (Ok l) small s e = let same : Plain (locking l) ≡ s = cc in subst (IsStatement (length d.arrays) (length d.locks)) same (each l (small l refl))
    go (Err kind) small s e = absurd cc

cell_sound : (d : ComponentDraft) (access : ℕ × Operand × Operand → Instr) → ((array : ℕ) (i v : Operand) → array < length d.arrays → IsOperand i → IsOperand v → (places : ℕ) → IsInstr (length d.arrays) (length d.locks) places (access (array, i, v))) → (o : Option (Word × Word × Word)) → IsSound d (as_plain access (cell_and_value d o))
cell_sound d access each None = none_said d _
cell_sound d access each (Some (array, i, v)) = λ s e. go (cell_and_value d (Some (array, i, v))) (λ w f. said_array (cell_and_value d (Some (array, i, v))) w refl f) s e
  where
    Fits : ℕ × Operand × Operand → Type 0
    Fits w = (w.0 < length d.arrays) × IsOperand w.1 × IsOperand w.2

    said_array : (r : Result (ℕ × Operand × Operand) LangFaultKind) (w : ℕ × Operand × Operand) → cell_and_value d (Some (array, i, v)) ≡ r → r ≡ Ok w → Fits w
    said_array r w is f =
        let x = said
        ((not (has_name_form array), Form) ∷ (not (is_operand i) || not (is_operand v), Number) ∷ (is_long array, Limit) ∷ (not (is_some (found_array d array)), Name) ∷ [])
        (array_number d array, operand i, operand v) w (is ∙ f) in
        subst Fits x.same (array_there d array x.none.1.1.1.0, operand_sound i, operand_sound v)

    go : (r : Result (ℕ × Operand × Operand) LangFaultKind) → ((w : ℕ × Operand × Operand) → r ≡ Ok w → Fits w) → (s : Statement) → as_plain access r ≡ Ok s → IsStatement (length d.arrays) (length d.locks) s
    go (Ok w) small s e = let same : Plain (access w) ≡ s = cc in let f = small w refl in subst (IsStatement (length d.arrays) (length d.locks)) same (each w.0 w.1 w.2 f.0 f.1 f.2)
    go (Err kind) small s e = absurd cc

pick_sound : (d : ComponentDraft) (o : Option (Word × Word)) → IsSound d (pick_line o)
pick_sound d None = none_said d _
pick_sound d (Some (dst, count)) = sound d
    ((not (is_register dst), Form) ∷ (not (is_value count), Number) ∷ (nat_lt (value count) 1 || nat_lt 8 (value count), Limit) ∷ [])
    (Plain (instr.Pick (register dst) (value count)))
    (λ n places.
    let p = or_parts (nat_lt (value count) 1) (nat_lt 8 (value count)) n.1.1.0 in
    (register_small dst, ltb-false (value count) 1 p.0, ltb-false 8 (value count) p.1))

jump_sound : (d : ComponentDraft) (o : Option Word) → IsSound d (jump_line o)
jump_sound d None = none_said d _
jump_sound d (Some label) = sound d
    ((not (has_name_form label), Form) ∷ (is_long label, Limit) ∷ [])
    (Jump label)
    (λ n. tt)

jump_if_zero_sound : (d : ComponentDraft) (o : Option (Word × Word)) → IsSound d (jump_if_zero_line o)
jump_if_zero_sound d None = none_said d _
jump_if_zero_sound d (Some (v, label)) = sound d
    ((not (has_name_form label), Form) ∷ (not (is_operand v), Number) ∷ (is_long label, Limit) ∷ [])
    (JumpIfZero (operand v) label)
    (λ n. operand_sound v)

return_sound : (d : ComponentDraft) (o : Option Word) → IsSound d (return_line o)
return_sound d None = none_said d _
return_sound d (Some v) = sound d
    ((not (is_operand v), Number) ∷ [])
    (Plain (instr.Return (operand v)))
    (λ n places. operand_sound v)

pub statement_sound : (d : ComponentDraft) (k : Option Keyword) (words : List Word) (s : Statement) → statement d k words ≡ Ok s → IsStatement (length d.arrays) (length d.locks) s
statement_sound d None words = none_said d _
statement_sound d (Some keyword.Set) words = set_sound d (exactly_two words)
statement_sound d (Some (keyword.Compute by)) words = compute_sound d by (exactly_three words)
statement_sound d (Some keyword.Load) words = load_sound d (exactly_three words)
statement_sound d (Some keyword.Store) words = cell_sound d (λ (array, i, v). instr.Store array i v) (λ a i v h x y places. (h, x, y)) (exactly_three words)
statement_sound d (Some keyword.Cas) words = cas_sound d (exactly_five words)
statement_sound d (Some keyword.Lock) words = locking_sound d (λ lock. instr.Lock lock) (λ lock h places. h) (exactly_one words)
statement_sound d (Some keyword.Unlock) words = locking_sound d (λ lock. instr.Unlock lock) (λ lock h places. h) (exactly_one words)
statement_sound d (Some keyword.Await) words = cell_sound d (λ (array, i, v). instr.Await array i v) (λ a i v h x y places. (h, x, y)) (exactly_three words)
statement_sound d (Some keyword.AwaitNot) words = cell_sound d (λ (array, i, v). instr.AwaitNot array i v) (λ a i v h x y places. (h, x, y)) (exactly_three words)
statement_sound d (Some keyword.Pick) words = pick_sound d (exactly_two words)
statement_sound d (Some keyword.Jump) words = jump_sound d (exactly_one words)
statement_sound d (Some keyword.JumpIfZero) words = jump_if_zero_sound d (exactly_two words)
statement_sound d (Some keyword.Return) words = return_sound d (exactly_one words)
