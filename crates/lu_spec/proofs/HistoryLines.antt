-- The lines of histories: one history a line, and one line a history.
use Rattle.std.proofs.Common.{◌≡◌, ℕ, zero, suc, ◌+◌, ◌<◌, ◌≤◌, false, List, [], ◌∷◌, ◌++◌, length, map, take, drop, ◌-◌, Option, Some, None, refl, sym, ap, subst, ◌∙◌, arith}
use Rattle.std.specs.Prelude.{All, codes, ◌==◌, IfNone, IfSome}
use Rattle.std.specs.List.{join_with_byte, slice_split, AllByRecursion}
use Rattle.std.specs.Fmt.{decimal}
use Rattle.std.proofs.lemmas.Bool.{ne_eqb}
use Rattle.std.proofs.lemmas.List.{append_cancel_right, take_all}
use Rattle.std.proofs.lemmas.List.Splits.{join_with_byte-slice_split}
use denote.Ref.{Bor}
use Rattle.lu_text.specs.Lines.{texts}
use Rattle.lu_text.specs.Numbers.{value_in}
use Rattle.lu_text.proofs.WordText.{digits_each, value_again}
use Rattle.lu_text.proofs.Written.{each_weaker, split_joined}
use Rattle.lu_history.specs.declared.serial.SerialOutcome.{SerialOutcome}
use Rattle.lu_history.specs.declared.serial.SerialOutcome.TheVariants.{Ret, Trap, Stuck}
use Rattle.lu_history.specs.declared.serial.SerialOp.{SerialOp}
use Rattle.lu_history.specs.Serial.{IsOutcome}
use Rattle.lu_spec.specs.SpecText.{IsEntry, IsListable, entry_text, history_line, listed_outcome_text, history_words}
use Rattle.lu_spec.proofs.Entries.{spelled}

-- ---- one entry a word

some_same : (a b : ℕ) → Some a ≡ Some b → a ≡ b
some_same a b e = cc

outcome_same : (a b : SerialOutcome) → IsOutcome a → IsOutcome b → listed_outcome_text a ≡ listed_outcome_text b → a ≡ b
outcome_same (Ret m) (Ret n) x y e = ap Ret (some_same m n (sym (value_again m x) ∙ (ap value_in e ∙ value_again n y)))
outcome_same (Ret m) Trap x y e = absurd (let v : Some m ≡ value_in (codes "trap") = sym (value_again m x) ∙ ap value_in e in cc)
outcome_same (Ret m) Stuck x y e = absurd (let v : Some m ≡ value_in (codes "stuck") = sym (value_again m x) ∙ ap value_in e in cc)
outcome_same Trap (Ret n) x y e = absurd (let v : value_in (codes "trap") ≡ Some n = ap value_in e ∙ value_again n y in cc)
outcome_same Trap Trap x y e = refl
outcome_same Trap Stuck x y e = absurd cc
outcome_same Stuck (Ret n) x y e = absurd (let v : value_in (codes "stuck") ≡ Some n = ap value_in e ∙ value_again n y in cc)
outcome_same Stuck Trap x y e = absurd cc
outcome_same Stuck Stuck x y e = refl

pub entry_same : (a b : SerialOp) → IsEntry a → IsEntry b → entry_text a ≡ entry_text b → a ≡ b
entry_same a b x y e =
    let bytes : (48 + a.thread) ∷ 61 ∷ listed_outcome_text a.outcome ≡ (48 + b.thread) ∷ 61 ∷ listed_outcome_text b.outcome = sym (spelled a x.0) ∙ (e ∙ spelled b y.0) in
    let digit : 48 + a.thread ≡ 48 + b.thread = cc in
    let rest : listed_outcome_text a.outcome ≡ listed_outcome_text b.outcome = cc in
    let thread : a.thread ≡ b.thread = omega arith in
    let outcome : a.outcome ≡ b.outcome = outcome_same a.outcome b.outcome x.1 y.1 rest in
    ap (λ (t : ℕ). let op : SerialOp = record { thread = t; outcome = a.outcome } in op) thread
    ∙ ap (λ (o : SerialOutcome). let op : SerialOp = record { thread = b.thread; outcome = o } in op) outcome

pub entries_same : (p q : List SerialOp) → All IsEntry p → All IsEntry q → map entry_text p ≡ map entry_text q → p ≡ q
entries_same [] [] x y e = refl
entries_same [] (b ∷ q) x y e = absurd cc
entries_same (a ∷ p) [] x y e = absurd cc
entries_same (a ∷ p) (b ∷ q) x y e =
    let first : entry_text a ≡ entry_text b = cc in
    let others : map entry_text p ≡ map entry_text q = cc in
    let op = entry_same a b (x zero a (omega arith)) (y zero b (omega arith)) first in
    let rest = entries_same p q (λ k d h. x (suc k) d (omega arith)) (λ k d h. y (suc k) d (omega arith)) others in
    rw (op, rest) refl

-- entries that may not be listed are those of no history that may
pub not_listable : (words : List (List ℕ)) (entries : List SerialOp) → All IsEntry entries → words ≡ map entry_text entries → (IsListable entries → ⊥) → (first : List ℕ) (q : List SerialOp) → IsListable q → first ∷ words ≡ history_words q → ⊥
not_listable words entries are say none first q listable e =
    let rest : words ≡ map entry_text q = cc in
    let same : entries ≡ q = entries_same entries q are listable.entries (sym say ∙ rest) in
    none (subst IsListable (sym same) listable)

pub not_listed : (words : List (Bor (List ℕ))) (entries : List SerialOp) → 1 ≤ length words → All IsEntry entries → texts (take (length words - 1) (drop 1 words)) ≡ map entry_text entries → (IsListable entries → ⊥) → (q : List SerialOp) → IsListable q → texts words ≡ history_words q → ⊥
not_listed [] entries some are say none q listable e = absurd (omega arith)
not_listed (w ∷ words) entries some are say none q listable e =
    let whole : take (length (w ∷ words) - 1) words ≡ words = take_all (length (w ∷ words) - 1) words (omega arith) in
    not_listable (texts words) entries are (ap texts (sym whole) ∙ say) none w.now q listable e

-- ---- one line a history

abbrev Lacks : ℕ → List ℕ → Type 0
Lacks c word = AllByRecursion (λ b. (b == c) ≡ false) word

-- words have neither blanks nor LFs
pub entry_lacks : (c : ℕ) (op : SerialOp) → c < 48 → IsEntry op → Lacks c (entry_text op)
entry_lacks c op small is =
    let digit : (48 + op.thread == c) ≡ false = ne_eqb (48 + op.thread) c (λ e. omega arith) in
    let sign : (61 == c) ≡ false = ne_eqb 61 c (λ e. omega arith) in
    subst (Lacks c) (sym (spelled op is.0)) (digit, (sign, outcome_lacks op.outcome is.1))
  where
    apart : (b : ℕ) → 48 ≤ b → (b == c) ≡ false
    apart b high = ne_eqb b c (λ e. omega arith)

    outcome_lacks : (o : SerialOutcome) → IsOutcome o → Lacks c (listed_outcome_text o)
    outcome_lacks (Ret n) lt = each_weaker (λ b. (48 ≤ b) × (b ≤ 57)) (λ b. (b == c) ≡ false) (λ b d. apart b d.0) (decimal n) (digits_each n (omega arith))
    outcome_lacks Trap lt = (apart 116 (omega arith), (apart 114 (omega arith), (apart 97 (omega arith), (apart 112 (omega arith), tt))))
    outcome_lacks Stuck lt = (apart 115 (omega arith), (apart 116 (omega arith), (apart 117 (omega arith), (apart 99 (omega arith), (apart 107 (omega arith), tt)))))

entries_lack : (c : ℕ) (q : List SerialOp) → c < 48 → All IsEntry q → AllByRecursion (Lacks c) (map entry_text q)
entries_lack c [] small are = tt
entries_lack c (op ∷ q) small are = (entry_lacks c op small (are zero op (omega arith)), entries_lack c q small (λ k d h. are (suc k) d (omega arith)))

pub words_lack : (c : ℕ) (q : List SerialOp) → c < 48 → All IsEntry q → AllByRecursion (Lacks c) (history_words q)
words_lack c q small are = ((apart 104 (omega arith), (apart 105 (omega arith), (apart 115 (omega arith), (apart 116 (omega arith), (apart 111 (omega arith), (apart 114 (omega arith), (apart 121 (omega arith), tt))))))), entries_lack c q small are)
  where
    apart : (b : ℕ) → 48 ≤ b → (b == c) ≡ false
    apart b high = ne_eqb b c (λ e. omega arith)

-- a line that splits into the words of a history
pub line_says : (line text : List ℕ) (q : List SerialOp) → line ≡ text ++ codes "\n" → slice_split (λ b. b == 32) text ≡ history_words q → line ≡ history_line q
line_says line text q ends words = ends ∙ ap (λ (x : List ℕ). x ++ codes "\n") (sym (join_with_byte-slice_split 32 text) ∙ ap (join_with_byte 32) words)

pub line_splits : (line text : List ℕ) (q : List SerialOp) → line ≡ text ++ codes "\n" → All IsEntry q → line ≡ history_line q → slice_split (λ b. b == 32) text ≡ history_words q
line_splits line text q ends are says =
    let same : text ≡ join_with_byte 32 (history_words q) = append_cancel_right text (join_with_byte 32 (history_words q)) (codes "\n") (sym ends ∙ says) in
    ap (slice_split (λ b. b == 32)) same ∙ split_joined (λ b. b == 32) 32 refl (codes "history") (map entry_text q) (words_lack 32 q (omega arith) are)

-- ---- answers

pub some_weaker : {A : Type 0} (o : Option A) (P Q : A → Type 0) → ((x : A) → P x → Q x) → IfSome o P → IfSome o Q
some_weaker None P Q f h = tt
some_weaker (Some x) P Q f h = f x h

pub none_weaker : {A : Type 0} (o : Option A) (P Q : Type 0) → (P → Q) → IfNone o P → IfNone o Q
none_weaker None P Q f h = f h
none_weaker (Some x) P Q f h = tt

-- a line is that of one history
pub line_same : (p q : List SerialOp) → IsListable p → IsListable q → history_line p ≡ history_line q → p ≡ q
line_same p q x y e =
    let same : join_with_byte 32 (history_words p) ≡ join_with_byte 32 (history_words q) = append_cancel_right (join_with_byte 32 (history_words p)) (join_with_byte 32 (history_words q)) (codes "\n") e in
    let words : history_words p ≡ history_words q = sym (line_splits (history_line p) (join_with_byte 32 (history_words p)) p refl x.entries refl) ∙ (ap (slice_split (λ b. b == 32)) same ∙ line_splits (history_line q) (join_with_byte 32 (history_words q)) q refl y.entries refl) in
    let entries : map entry_text p ≡ map entry_text q = cc in
    entries_same p q x.entries y.entries entries
