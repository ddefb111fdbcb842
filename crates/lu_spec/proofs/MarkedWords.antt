-- Words of entries with marks and without.
use Rattle.std.proofs.Common.{◌≡◌, ℕ, zero, suc, ◌+◌, ◌-◌, ◌<◌, ◌≤◌, Bool, true, false, List, [], ◌∷◌, ◌++◌, length, get_or, map, take, drop, refl, sym, ap, subst, ◌∙◌, arith}
use Rattle.std.specs.Prelude.{All, codes, ◌==◌}
use Rattle.std.specs.List.{AllByRecursion, list_any}
use Rattle.std.specs.Fmt.{decimal}
use Rattle.std.proofs.lemmas.Bool.{ne_eqb}
use Rattle.std.proofs.lemmas.List.{append-nil, append_cancel_right, map_push, take_more, take_all, length-map, get_or-map}
use Rattle.std.proofs.lemmas.List.Folds.{list_any_at, list_any_more}
use Rattle.std.proofs.lemmas.List.Elements.{All-map, All-push}
use denote.Ref.{Bor}
use Rattle.lu_text.specs.Lines.{texts}
use Rattle.lu_text.proofs.WordText.{digits_each}
use Rattle.lu_text.proofs.Written.{each_weaker}
use Rattle.lu_history.specs.declared.serial.SerialOutcome.{SerialOutcome}
use Rattle.lu_history.specs.declared.serial.SerialOutcome.TheVariants.{Ret, Trap, Stuck}
use Rattle.lu_history.specs.declared.serial.SerialOp.{SerialOp}
use Rattle.lu_history.specs.Serial.{IsOutcome}
use Rattle.lu_spec.specs.declared.marked_line.MarkedOp.{MarkedOp}
use Rattle.lu_spec.specs.MarkedEntries.{IsMarkedEntry, erased, mark_text, marked_text, marked_words}
use Rattle.lu_spec.specs.SpecText.{IsEntry, IsListable, entry_text, listed_outcome_text}
use Rattle.lu_spec.proofs.Entries.{spelled}
use Rattle.lu_spec.proofs.HistoryLines.{entry_same}

-- ---- an entry does not end with the mark

abbrev Lacks : List ℕ → Type 0
Lacks word = AllByRecursion (λ b. (b == 63) ≡ false) word

apart : (b : ℕ) → (b ≡ 63 → ⊥) → (b == 63) ≡ false
apart b ne = ne_eqb b 63 ne

outcome_lacks : (o : SerialOutcome) → IsOutcome o → Lacks (listed_outcome_text o)
outcome_lacks (Ret n) lt = each_weaker (λ b. (48 ≤ b) × (b ≤ 57)) (λ b. (b == 63) ≡ false) (λ b d. apart b (λ e. omega (arith, d.0, d.1))) (decimal n) (digits_each n (omega arith))
outcome_lacks Trap lt = (apart 116 (λ e. omega arith), (apart 114 (λ e. omega arith), (apart 97 (λ e. omega arith), (apart 112 (λ e. omega arith), tt))))
outcome_lacks Stuck lt = (apart 115 (λ e. omega arith), (apart 116 (λ e. omega arith), (apart 117 (λ e. omega arith), (apart 99 (λ e. omega arith), (apart 107 (λ e. omega arith), tt)))))

entry_lacks : (op : SerialOp) → IsEntry op → Lacks (entry_text op)
entry_lacks op is =
    let small = is.0 in
    subst Lacks (sym (spelled op is.0)) (apart (48 + op.thread) (λ e. omega arith), (apart 61 (λ e. omega arith), outcome_lacks op.outcome is.1))

lacks_end : (word front : List ℕ) → Lacks word → word ≡ front ++ codes "?" → ⊥
lacks_end [] [] lacks e = cc
lacks_end [] (f ∷ front) lacks e = cc
lacks_end (b ∷ word) [] lacks e =
    let is : b ≡ 63 = cc in
    let not_it : (63 == 63) ≡ false = subst (λ (x : ℕ). (x == 63) ≡ false) is lacks.0 in
    cc
lacks_end (b ∷ word) (f ∷ front) lacks e = lacks_end word front lacks.1 (let f : word ≡ front ++ codes "?" = cc in f)

pub ends_in_no_mark : (op : SerialOp) (front : List ℕ) → IsEntry op → entry_text op ≡ front ++ codes "?" → ⊥
ends_in_no_mark op front is e = lacks_end (entry_text op) front (entry_lacks op is) e

-- ---- one word

pub says_marked : (word entry : List ℕ) (op : SerialOp) → word ≡ entry ++ codes "?" → entry ≡ entry_text op → word ≡ entry_text op ++ mark_text true
says_marked word entry op ends is = ends ∙ ap (λ (x : List ℕ). x ++ codes "?") is

pub says_firm : (word : List ℕ) (op : SerialOp) → word ≡ entry_text op → word ≡ entry_text op ++ mark_text false
says_firm word op is = is ∙ sym (append-nil (entry_text op))

pub none_marked : (word entry : List ℕ) → word ≡ entry ++ codes "?" → ((op : SerialOp) → IsEntry op → entry ≡ entry_text op → ⊥) → (e : MarkedOp) → IsMarkedEntry e → word ≡ marked_text e → ⊥
none_marked word entry ends none e is says = go e.marked says
  where
    go : (b : Bool) → word ≡ entry_text e.op ++ mark_text b → ⊥
    go true w = none e.op is (append_cancel_right entry (entry_text e.op) (codes "?") (sym ends ∙ w))
    go false w = ends_in_no_mark e.op entry is (sym (append-nil (entry_text e.op)) ∙ (sym w ∙ ends))

pub none_firm : (word : List ℕ) → ((front : List ℕ) → word ≡ front ++ codes "?" → ⊥) → ((op : SerialOp) → IsEntry op → word ≡ entry_text op → ⊥) → (e : MarkedOp) → IsMarkedEntry e → word ≡ marked_text e → ⊥
none_firm word ends_not none e is says = go e.marked says
  where
    go : (b : Bool) → word ≡ entry_text e.op ++ mark_text b → ⊥
    go true w = ends_not (entry_text e.op) w
    go false w = none e.op is (w ∙ append-nil (entry_text e.op))

marked_same : (a b : MarkedOp) → IsMarkedEntry a → IsMarkedEntry b → marked_text a ≡ marked_text b → a ≡ b
marked_same a b x y e = go a.marked b.marked refl refl e
  where
    both : (m n : Bool) → a.marked ≡ m → b.marked ≡ n → m ≡ n → a.op ≡ b.op → a ≡ b
    both m n s t same op = ap (λ (o : SerialOp). let z : MarkedOp = record { op = o; marked = a.marked } in z) op ∙ ap (λ (k : Bool). let z : MarkedOp = record { op = b.op; marked = k } in z) (s ∙ (same ∙ sym t))

    go : (m n : Bool) → a.marked ≡ m → b.marked ≡ n → entry_text a.op ++ mark_text m ≡ entry_text b.op ++ mark_text n → a ≡ b
    go true true s t f = both true true s t refl (entry_same a.op b.op x y (append_cancel_right (entry_text a.op) (entry_text b.op) (codes "?") f))
    go true false s t f = absurd (ends_in_no_mark b.op (entry_text a.op) y (sym (append-nil (entry_text b.op)) ∙ sym f))
    go false true s t f = absurd (ends_in_no_mark a.op (entry_text b.op) x (sym (append-nil (entry_text a.op)) ∙ f))
    go false false s t f = both false false s t refl (entry_same a.op b.op x y (sym (append-nil (entry_text a.op)) ∙ (f ∙ append-nil (entry_text b.op))))

pub all_marked_same : (p q : List MarkedOp) → All IsMarkedEntry p → All IsMarkedEntry q → map marked_text p ≡ map marked_text q → p ≡ q
all_marked_same [] [] x y e = refl
all_marked_same [] (b ∷ q) x y e = absurd cc
all_marked_same (a ∷ p) [] x y e = absurd cc
all_marked_same (a ∷ p) (b ∷ q) x y e =
    let first : marked_text a ≡ marked_text b = cc in
    let others : map marked_text p ≡ map marked_text q = cc in
    let op = marked_same a b (x zero a (omega arith)) (y zero b (omega arith)) first in
    let rest = all_marked_same p q (λ k d h. x (suc k) d (omega arith)) (λ k d h. y (suc k) d (omega arith)) others in
    rw (op, rest) refl

-- ---- word after word

-- the first i words are these entries
pub record AreReadTo (words : List (List ℕ)) (i : ℕ) (entries : List MarkedOp) : Type 0 where
  pub are : All IsMarkedEntry entries
  pub say : take i words ≡ map marked_text entries

pub none_read : (words : List (List ℕ)) (entries : List MarkedOp) → entries ≡ [] → AreReadTo words 0 entries
none_read words entries none = rw none (record { are = λ k d h. absurd (omega arith); say = refl })

pub one_read : (words : List (Bor (List ℕ))) (i : ℕ) (d : Bor (List ℕ)) (entries new : List MarkedOp) (e : MarkedOp) → i < length words → AreReadTo (texts words) i entries → IsMarkedEntry e → (get_or words i d).now ≡ marked_text e → new ≡ entries ++ e ∷ [] → AreReadTo (texts words) (i + 1) new
one_read words i d entries new e within so_far is says pushed =
    let long : i < length (texts words) = omega (arith, length-map words (λ (w : Bor (List ℕ)). w.now)) in
    let word : get_or (texts words) i d.now ≡ marked_text e = get_or-map (λ (w : Bor (List ℕ)). w.now) words i d d.now within ∙ says in
    rw pushed (record {
      are = All-push IsMarkedEntry entries e so_far.are is;
      say = take_more (texts words) i d.now long ∙ (ap (λ (x : List (List ℕ)). x ++ get_or (texts words) i d.now ∷ []) so_far.say
          ∙ (ap (λ (w : List ℕ). map marked_text entries ++ w ∷ []) word ∙ sym (map_push marked_text entries e)));
    })

pub all_read : (words : List (List ℕ)) (i : ℕ) (entries : List MarkedOp) → length words ≤ i → AreReadTo words i entries → words ≡ map marked_text entries
all_read words i entries all so_far = sym (take_all i words all) ∙ so_far.say

-- where a word says no entry, the words say no entries
pub not_read : (words : List (Bor (List ℕ))) (i : ℕ) (d : Bor (List ℕ)) → i < length words → ((e : MarkedOp) → IsMarkedEntry e → (get_or words i d).now ≡ marked_text e → ⊥) → (q : List MarkedOp) → All IsMarkedEntry q → texts words ≡ map marked_text q → ⊥
not_read [] i d within none q are say = absurd (omega arith)
not_read (w ∷ words) i d within none [] are say = absurd cc
not_read (w ∷ words) zero d within none (e ∷ q) are say = none e (are zero e (omega arith)) (let f : w.now ≡ marked_text e = cc in f)
not_read (w ∷ words) (suc i) d within none (e ∷ q) are say =
    not_read words i d (omega arith) none q (λ k f h. are (suc k) f (omega arith)) (let f : texts words ≡ map marked_text q = cc in f)

-- ---- histories

pub erased_entries : (q : List MarkedOp) → All IsMarkedEntry q → All IsEntry (erased q)
erased_entries q are = All-map IsEntry (λ (e : MarkedOp). e.op) q are

pub marked_entries : (q : List MarkedOp) → All IsEntry (erased q) → All IsMarkedEntry q
marked_entries [] are k d h = absurd (omega arith)
marked_entries (e ∷ q) are zero d h = are zero e.op (omega arith)
marked_entries (e ∷ q) are (suc k) d h = marked_entries q (λ j f l. are (suc j) f (omega arith)) k d (omega arith)

-- entries of no words after the first say no history
not_listable : (words : List (List ℕ)) (entries : List MarkedOp) → All IsMarkedEntry entries → words ≡ map marked_text entries → (IsListable (erased entries) → ⊥) → (first : List ℕ) (q : List MarkedOp) → IsListable (erased q) → first ∷ words ≡ marked_words q → ⊥
not_listable words entries are say none first q listable e =
    let rest : words ≡ map marked_text q = cc in
    let same : entries ≡ q = all_marked_same entries q are (marked_entries q listable.entries) (sym say ∙ rest) in
    none (subst (λ (x : List MarkedOp). IsListable (erased x)) (sym same) listable)

rest_of : (w : Bor (List ℕ)) (words : List (Bor (List ℕ))) → take (length (w ∷ words) - 1) (drop 1 (w ∷ words)) ≡ words
rest_of w words = take_all (length (w ∷ words) - 1) words (omega arith)

pub not_listed : (words : List (Bor (List ℕ))) (entries : List MarkedOp) → 1 ≤ length words → All IsMarkedEntry entries → texts (take (length words - 1) (drop 1 words)) ≡ map marked_text entries → (IsListable (erased entries) → ⊥) → (q : List MarkedOp) → IsListable (erased q) → texts words ≡ marked_words q → ⊥
not_listed [] entries some are say none q listable e = absurd (omega arith)
not_listed (w ∷ words) entries some are say none q listable e =
    not_listable (texts words) entries are (ap texts (sym (rest_of w words)) ∙ say) none w.now q listable e

pub no_entries : (words : List (Bor (List ℕ))) → 1 ≤ length words → ((q : List MarkedOp) → All IsMarkedEntry q → texts (take (length words - 1) (drop 1 words)) ≡ map marked_text q → ⊥) → (q : List MarkedOp) → IsListable (erased q) → texts words ≡ marked_words q → ⊥
no_entries [] some none q listable e = absurd (omega arith)
no_entries (w ∷ words) some none q listable e =
    let rest : texts words ≡ map marked_text q = cc in
    none q (marked_entries q listable.entries) (ap texts (rest_of w words) ∙ rest)

pub are_listed : (words : List (Bor (List ℕ))) (d : Bor (List ℕ)) (entries : List MarkedOp) → 1 ≤ length words → (get_or words 0 d).now ≡ codes "history" → texts (take (length words - 1) (drop 1 words)) ≡ map marked_text entries → texts words ≡ marked_words entries
are_listed [] d entries some first say = absurd (omega arith)
are_listed (w ∷ words) d entries some first say =
    let rest : texts words ≡ map marked_text entries = ap texts (sym (rest_of w words)) ∙ say in
    rw (first, rest) refl

-- ---- a test of words or lines, one after the other

module _ (p : List ℕ → Bool) (items : List (Bor (List ℕ))) (i : ℕ) where
  module _ (d : Bor (List ℕ)) (within : i < length items) where
    long : i < length (texts items)
    long = omega (arith, length-map items (λ (w : Bor (List ℕ)). w.now))

    here : get_or (texts items) i d.now ≡ (get_or items i d).now
    here = get_or-map (λ (w : Bor (List ℕ)). w.now) items i d d.now within

    pub found : p (get_or items i d).now ≡ true → list_any p (texts items) ≡ true
    found passes = list_any_at p (texts items) i d.now long (ap p here ∙ passes)

    pub not_here : list_any p (take i (texts items)) ≡ false → p (get_or items i d).now ≡ false → list_any p (take (i + 1) (texts items)) ≡ false
    not_here before fails = list_any_more p (texts items) i d.now long ∙ rw (before, ap p here ∙ fails) refl

  pub none_found : length items ≤ i → list_any p (take i (texts items)) ≡ false → list_any p (texts items) ≡ false
  none_found past before =
      ap (list_any p) (sym (take_all i (texts items) (omega (arith, past, length-map items (λ (w : Bor (List ℕ)). w.now))))) ∙ before
