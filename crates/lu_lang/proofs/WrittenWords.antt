-- Keywords, registers, operands, labels and names of what is declared are read as they were written.
use Rattle.std.proofs.Common.{◌≡◌, ℕ, ◌+◌, ◌-◌, ◌^◌, ◌<◌, ◌≤◌, true, false, [], ◌∷◌, ◌++◌, length, Some, None, refl, arith}
use Rattle.std.specs.Prelude.{codes, slice_index}
use Rattle.std.specs.List.{AllByRecursion}
use Rattle.std.specs.Str.{bytes_eq}
use Rattle.std.specs.Fmt.{decimal}
use Rattle.std.proofs.lemmas.Bool.{ne_eqb, le-leb, le-ltb, false_from_ne_true}
use Rattle.std.proofs.lemmas.Fmt.{decimal_digit, decimal_injective, length-decimal-le}
use Rattle.std.proofs.lemmas.List.{length-append, take_at, get_or_push}
use Rattle.lu_text.specs.Names.{has_name_form, is_long, IsName}
use Rattle.lu_text.specs.Words.{Word}
use Rattle.lu_text.proofs.NumberText.{bytes_same}
use Rattle.lu_text.proofs.Written.{IsWordByte, IsText, each_append}
use Rattle.lu_text.proofs.WordText.{IsDigit, digits_each, digit_parts, literal_text, name_text, number_text, value_again}
use Rattle.lu_component.specs.declared.instr.Operand.{Operand}
use Rattle.lu_component.specs.declared.instr.Operand.TheVariants.{Reg, Num}
use Rattle.lu_component.specs.declared.instr.Arithmetic.TheVariants.{Add, Sub, Mul, Eq, Lt}
use Rattle.lu_lang.specs.declared.keyword.Keyword.{Keyword}
use Rattle.lu_lang.specs.declared.keyword.Keyword.TheVariants.{Set, Compute, Load, Store, Cas, Lock, Unlock, Await, AwaitNot, Pick, Jump, JumpIfZero, Return}
use Rattle.lu_component.specs.Component.{IsOperand}
use Rattle.lu_lang.specs.Words.{keyword_in, keyword_word, register_in, operand_in}
use Rattle.lu_lang.specs.Grammar.{label_in}
use Rattle.lu_component.specs.Operands.{register_word, operand_word}
use Rattle.lu_lang.specs.ComponentText.{label_word}

-- ---- keywords

pub record IsKeywordWord (k : Keyword) : Type 0 where
  pub text : IsText (keyword_word k)
  pub again : keyword_in (keyword_word k) ≡ Some k
  pub no_label : label_in (keyword_word k) ≡ None
  pub no_end : bytes_eq (keyword_word k) (codes "end") ≡ false

pub is_keyword_word : (k : Keyword) → IsKeywordWord k
is_keyword_word Set = record { text = literal_text (codes "set") (omega arith) refl; again = refl; no_label = refl; no_end = refl }
is_keyword_word (Compute Add) = record { text = literal_text (codes "add") (omega arith) refl; again = refl; no_label = refl; no_end = refl }
is_keyword_word (Compute Sub) = record { text = literal_text (codes "sub") (omega arith) refl; again = refl; no_label = refl; no_end = refl }
is_keyword_word (Compute Mul) = record { text = literal_text (codes "mul") (omega arith) refl; again = refl; no_label = refl; no_end = refl }
is_keyword_word (Compute Eq) = record { text = literal_text (codes "eq") (omega arith) refl; again = refl; no_label = refl; no_end = refl }
is_keyword_word (Compute Lt) = record { text = literal_text (codes "lt") (omega arith) refl; again = refl; no_label = refl; no_end = refl }
is_keyword_word Load = record { text = literal_text (codes "load") (omega arith) refl; again = refl; no_label = refl; no_end = refl }
is_keyword_word Store = record { text = literal_text (codes "store") (omega arith) refl; again = refl; no_label = refl; no_end = refl }
is_keyword_word Cas = record { text = literal_text (codes "cas") (omega arith) refl; again = refl; no_label = refl; no_end = refl }
is_keyword_word Lock = record { text = literal_text (codes "lock") (omega arith) refl; again = refl; no_label = refl; no_end = refl }
is_keyword_word Unlock = record { text = literal_text (codes "unlock") (omega arith) refl; again = refl; no_label = refl; no_end = refl }
is_keyword_word Await = record { text = literal_text (codes "await") (omega arith) refl; again = refl; no_label = refl; no_end = refl }
is_keyword_word AwaitNot = record { text = literal_text (codes "awaitne") (omega arith) refl; again = refl; no_label = refl; no_end = refl }
is_keyword_word Pick = record { text = literal_text (codes "pick") (omega arith) refl; again = refl; no_label = refl; no_end = refl }
is_keyword_word Jump = record { text = literal_text (codes "jump") (omega arith) refl; again = refl; no_label = refl; no_end = refl }
is_keyword_word JumpIfZero = record { text = literal_text (codes "jz") (omega arith) refl; again = refl; no_label = refl; no_end = refl }
is_keyword_word Return = record { text = literal_text (codes "return") (omega arith) refl; again = refl; no_label = refl; no_end = refl }

-- ---- registers and operands

pub record IsRegisterWord (word : Word) (r : ℕ) : Type 0 where
  pub text : IsText word
  pub again : register_in word ≡ Some r

pub is_register_word : (r : ℕ) → r < 8 → IsRegisterWord (register_word r) r
is_register_word r h =
    let digit : decimal r ≡ (48 + r) ∷ [] = decimal_digit r (omega arith) in
    let back : 48 + r - 48 ≡ r = omega arith in
    record {
      text = rw digit (record { some = omega arith; bytes = ((omega arith, omega arith), ((omega arith, omega arith), tt)) });
      again = rw (digit, le-leb 48 (48 + r) (omega arith), le-leb (48 + r) 55 (omega arith), back) refl;
    }

no_register : (word : Word) → AllByRecursion IsDigit word → register_in word ≡ None
no_register [] h = refl
no_register (r ∷ []) h = refl
no_register (r ∷ d ∷ []) h = rw (ne_eqb r 114 (λ e. let digit = h.0 in omega (arith, digit.1))) refl
no_register (r ∷ d ∷ e ∷ word) h = refl

pub record IsOperandWord (word : Word) (o : Operand) : Type 0 where
  pub text : IsText word
  pub again : operand_in word ≡ Some o

pub is_operand_word : (o : Operand) → IsOperand o → IsOperandWord (operand_word o) o
is_operand_word (Reg r) h = let w = is_register_word r h in record { text = w.text; again = rw w.again refl }
is_operand_word (Num n) h = record {
  text = number_text n (omega arith);
  again = rw (no_register (decimal n) (digits_each n (omega arith)), value_again n h) refl;
}

-- ---- names

pub record IsNameWord (word : Word) : Type 0 where
  pub text : IsText word
  pub form : has_name_form word ≡ true
  pub short : is_long word ≡ false

pub is_name_word : (word : Word) → IsName word → IsNameWord word
is_name_word word h = record { text = name_text word h.0; form = h.0; short = le-ltb 32 (length word) h.1 }

-- ---- labels

pub label_name : (place : ℕ) → place < 2 ^ 64 → IsName (label_word place)
label_name place h =
    let short : length (decimal place) ≤ 20 = length-decimal-le 20 place (omega arith) (omega arith) h in
    (digit_parts (decimal place) (digits_each place h), omega arith)

pub labels_apart : (a b : ℕ) → a < 2 ^ 64 → b < 2 ^ 64 → (a ≡ b → ⊥) → bytes_eq (label_word a) (label_word b) ≡ false
labels_apart a b x y apart = false_from_ne_true (bytes_eq (label_word a) (label_word b)) (λ e. apart (decimal_injective a b x y (bytes_same (decimal a) (decimal b) e)))

pub label_text_is : (word : Word) → IsText word → IsText (word ++ 58 ∷ [])
label_text_is word h = record { some = (let some = h.some in let n : length (word ++ 58 ∷ []) ≡ length word + 1 = simp length-append in omega arith); bytes = each_append IsWordByte word (58 ∷ []) h.bytes ((omega arith, omega arith), tt) }

pub label_again : (word : Word) → label_in (word ++ 58 ∷ []) ≡ Some word
label_again word =
    let n : length (word ++ 58 ∷ []) ≡ length word + 1 = simp length-append in
    let before : length word + 1 - 1 ≡ length word = omega arith in
    let last : slice_index (word ++ 58 ∷ []) (length word) ≡ 58 = get_or_push word 58 _ (length word) refl in
    rw (n, before, last, take_at word (58 ∷ []) (length word) refl) refl
