-- Entries of the lines of a specification: what is read is spelled so, and what is spelled so is read.
use Rattle.std.proofs.Common.{◌≡◌, ℕ, ◌+◌, ◌-◌, ◌^◌, ◌<◌, ◌≤◌, List, [], ◌∷◌, ◌++◌, length, get_or, take, drop, Option, Some, None, refl, sym, ap, subst, ◌∙◌, arith}
use Rattle.std.specs.Prelude.{codes, nat_lt, IfNone}
use Rattle.std.specs.Fmt.{decimal}
use Rattle.std.proofs.lemmas.Bool.{ltb-true}
use Rattle.std.proofs.lemmas.List.{take_all}
use Rattle.std.proofs.lemmas.Fmt.{decimal_digit}
use Rattle.lu_text.specs.Numbers.{below, number_in, value_in}
use Rattle.lu_text.proofs.NumberText.{some_if, number_takes}
use Rattle.lu_text.proofs.WordText.{value_again}
use Rattle.lu_history.specs.declared.serial.SerialOutcome.{SerialOutcome}
use Rattle.lu_history.specs.declared.serial.SerialOutcome.TheVariants.{Ret, Trap, Stuck}
use Rattle.lu_history.specs.declared.serial.SerialOp.{SerialOp}
use Rattle.lu_history.specs.Serial.{IsOutcome}
use Rattle.lu_spec.specs.SpecText.{IsEntry, entry_text, listed_outcome_text}

-- nothing is there
pub if_none : {A : Type 0} (r : Option A) (P : Type 0) → P → IfNone r P
if_none None P p = p
if_none (Some x) P p = tt

-- a number that a word says
pub value_says : (word : List ℕ) (n : ℕ) → value_in word ≡ Some n → (n < 2 ^ 32) × (word ≡ decimal n)
value_says word n e = go (number_in word) refl e
  where
    go : (o : Option ℕ) → number_in word ≡ o → below (2 ^ 32) o ≡ Some n → (n < 2 ^ 32) × (word ≡ decimal n)
    go None at f = absurd cc
    go (Some m) at f =
        let h = some_if (nat_lt m (2 ^ 32)) m n f in
        let lt : m < 2 ^ 32 = ltb-true m (2 ^ 32) h.0 in
        (omega (arith, h.1), sym (number_takes word m (omega arith) at) ∙ ap decimal h.1)

pub no_value : (word : List ℕ) (n : ℕ) → value_in word ≡ None → n < 2 ^ 32 → word ≡ decimal n → ⊥
no_value word n none lt e = let some : value_in word ≡ Some n = ap value_in e ∙ value_again n lt in cc

pub no_outcome : (word : List ℕ) → (word ≡ codes "trap" → ⊥) → (word ≡ codes "stuck" → ⊥) → value_in word ≡ None → (outcome : SerialOutcome) → IsOutcome outcome → word ≡ listed_outcome_text outcome → ⊥
no_outcome word trap stuck none (Ret n) is e = no_value word n none is e
no_outcome word trap stuck none Trap is e = trap e
no_outcome word trap stuck none Stuck is e = stuck e

-- an entry: a digit, `=` and the outcome
pub spelled : (op : SerialOp) → op.thread ≤ 7 → entry_text op ≡ (48 + op.thread) ∷ 61 ∷ listed_outcome_text op.outcome
spelled op small = ap (λ (x : List ℕ). x ++ codes "=" ++ listed_outcome_text op.outcome) (decimal_digit op.thread (omega arith))

-- a word by its first two bytes
abbrev pub tail_of : List ℕ → List ℕ
tail_of word = take (length word - 2) (drop 2 word)

pub by_bytes : (word : List ℕ) (d e : ℕ) → 2 ≤ length word → word ≡ get_or word 0 d ∷ get_or word 1 e ∷ tail_of word
by_bytes [] d e some = absurd (omega arith)
by_bytes (a ∷ []) d e some = absurd (omega arith)
by_bytes (a ∷ b ∷ word) d e some = ap (λ (x : List ℕ). a ∷ b ∷ x) (sym (take_all (length (a ∷ b ∷ word) - 2) word (omega arith)))

pub record IsSpelled (word : List ℕ) (op : SerialOp) : Type 0 where
  pub long : 2 ≤ length word
  pub digit : (d : ℕ) → get_or word 0 d ≡ 48 + op.thread
  pub equals : (d : ℕ) → get_or word 1 d ≡ 61
  pub outcome : tail_of word ≡ listed_outcome_text op.outcome

pub is_spelled : (word : List ℕ) (op : SerialOp) → IsEntry op → word ≡ entry_text op → IsSpelled word op
is_spelled word op is e =
    let same : word ≡ (48 + op.thread) ∷ 61 ∷ listed_outcome_text op.outcome = e ∙ spelled op is.0 in
    subst (λ (x : List ℕ). IsSpelled x op) (sym same) (record {
      long = omega arith;
      digit = λ d. refl;
      equals = λ d. refl;
      outcome = take_all (length ((48 + op.thread) ∷ 61 ∷ listed_outcome_text op.outcome) - 2) (listed_outcome_text op.outcome) (omega arith);
    })

pub spells : (word : List ℕ) (digit equals : ℕ) (outcome : SerialOutcome) (d e : ℕ) → 2 ≤ length word → digit ≡ get_or word 0 d → equals ≡ get_or word 1 e → 48 ≤ digit → digit ≤ 55 → equals ≡ 61 → IsOutcome outcome → tail_of word ≡ listed_outcome_text outcome
    → let op : SerialOp = record { thread = digit - 48; outcome = outcome } in IsEntry op × (word ≡ entry_text op)
spells word digit equals outcome d e some first second low high is says tail =
    let op : SerialOp = record { thread = digit - 48; outcome = outcome } in
    let small : op.thread ≤ 7 = omega arith in
    let byte : get_or word 0 d ≡ 48 + op.thread = omega arith in
    let sign : get_or word 1 e ≡ 61 = sym second ∙ is in
    ((small, says), by_bytes word d e some ∙ (rw (byte, sign, tail) refl ∙ sym (spelled op small)))
