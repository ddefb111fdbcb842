-- Texts that are written by lines and words are read as they were written.
use Rattle.std.proofs.Common.{◌≡◌, ℕ, zero, suc, ◌+◌, ◌-◌, ◌<◌, ◌≤◌, Bool, true, false, List, [], ◌∷◌, ◌++◌, length, Ok, refl, sym, ap, ◌∙◌, append_assoc, arith}
use Rattle.std.specs.Prelude.{◌==◌, not, filter, slice_index, All}
use Rattle.std.specs.List.{flat_map, join_with_byte, list_all, position_or_len, slice_split, AllByRecursion}
use Rattle.std.proofs.lemmas.Bool.{ne_eqb, le-leb, le-ltb}
use Rattle.std.proofs.lemmas.List.{append-nil, length-append, take_at, get_or_push}
use Rattle.std.proofs.lemmas.List.Elements.{All-from_recursion, All-append}
use Rattle.std.proofs.lemmas.List.Splits.{slice_split_at, slice_split_none}
use Rattle.lu_text.specs.Lines.{lines_of, is_allowed, is_blank, before_comment, words_of}
use Rattle.lu_text.specs.Words.{Word}
use Rattle.lu_text.specs.Faults.{Grammar, lines_after, meaning_of, LeadsTo}

-- ---- lists

pub each_append : {X : Type 0} (P : X → Type 0) (xs ys : List X) → AllByRecursion P xs → AllByRecursion P ys → AllByRecursion P (xs ++ ys)
each_append P [] ys p q = q
each_append P (x ∷ xs) ys p q = (p.0, each_append P xs ys p.1 q)

pub each_weaker : {X : Type 0} (P Q : X → Type 0) → ((x : X) → P x → Q x) → (xs : List X) → AllByRecursion P xs → AllByRecursion Q xs
each_weaker P Q h [] all = tt
each_weaker P Q h (x ∷ xs) all = (h x all.0, each_weaker P Q h xs all.1)

pub all_from_each : {X : Type 0} (p : X → Bool) (xs : List X) → AllByRecursion (λ x. p x ≡ true) xs → list_all p xs ≡ true
all_from_each p [] h = refl
all_from_each p (x ∷ xs) h = rw (h.0, all_from_each p xs h.1) refl

pub All-one : {X : Type 0} (P : X → Type 0) (x : X) → P x → All P (x ∷ [])
All-one P x h zero d within = h
All-one P x h (suc k) d within = absurd (omega arith)

pub All-last : {X : Type 0} (P : X → Type 0) (xs : List X) (x : X) → All P xs → P x → All P (xs ++ x ∷ [])
All-last P xs x all last = All-append P xs (x ∷ []) all (All-one P x last)

-- what holds of each part and of the byte between them holds of each byte
pub each_joined : (P : ℕ → Type 0) (c : ℕ) → P c → (parts : List (List ℕ)) → AllByRecursion (AllByRecursion P) parts → AllByRecursion P (join_with_byte c parts)
each_joined P c between [] h = tt
each_joined P c between (part ∷ []) h = h.0
each_joined P c between (part ∷ next ∷ parts) h = each_append P part (c ∷ join_with_byte c (next ∷ parts)) h.0 (between, each_joined P c between (next ∷ parts) h.1)

-- parts that are joined by a byte at which is cut, and have none of these, are the parts again
pub split_joined : (p : ℕ → Bool) (c : ℕ) → p c ≡ true → (part : List ℕ) (parts : List (List ℕ)) → AllByRecursion (AllByRecursion (λ b. p b ≡ false)) (part ∷ parts) → slice_split p (join_with_byte c (part ∷ parts)) ≡ part ∷ parts
split_joined p c cuts part [] h = slice_split_none p part (All-from_recursion (λ b. p b ≡ false) part h.0)
split_joined p c cuts part (next ∷ parts) h =
    slice_split_at p part c (join_with_byte c (next ∷ parts)) (All-from_recursion (λ b. p b ≡ false) part h.0) cuts
    ∙ ap (λ (rest : List (List ℕ)). part ∷ rest) (split_joined p c cuts next parts h.1)

-- ---- lines

abbrev pub IsOneLine : List ℕ → Type 0
IsOneLine line = AllByRecursion (λ b. (b == 10) ≡ false) line

-- the text of these lines
abbrev pub ended : List (List ℕ) → List ℕ
ended lines = flat_map (λ line. line ++ 10 ∷ []) lines

ended_append : (xs ys : List (List ℕ)) → ended (xs ++ ys) ≡ ended xs ++ ended ys
ended_append [] ys = refl
ended_append (x ∷ xs) ys =
    ap (λ (t : List ℕ). (x ++ 10 ∷ []) ++ t) (ended_append xs ys) ∙ sym (append_assoc (x ++ 10 ∷ []) (ended xs) (ended ys))

ended_joined : (line : List ℕ) (lines : List (List ℕ)) → ended (line ∷ lines) ≡ join_with_byte 10 (line ∷ lines) ++ 10 ∷ []
ended_joined line [] = append-nil (line ++ 10 ∷ [])
ended_joined line (next ∷ lines) =
    append_assoc line (10 ∷ []) (ended (next ∷ lines))
    ∙ (ap (λ (t : List ℕ). line ++ (10 ∷ t)) (ended_joined next lines)
    ∙ sym (append_assoc line (10 ∷ join_with_byte 10 (next ∷ lines)) (10 ∷ [])))

lines_joined : (text : List ℕ) → lines_of (text ++ 10 ∷ []) ≡ slice_split (λ b. b == 10) text
lines_joined text =
    let n : length (text ++ 10 ∷ []) ≡ length text + 1 = simp length-append in
    let some : (length text + 1 == 0) ≡ false = ne_eqb (length text + 1) 0 (λ e. omega arith) in
    let before : length text + 1 - 1 ≡ length text = omega arith in
    let last : slice_index (text ++ 10 ∷ []) (length text) ≡ 10 = get_or_push text 10 _ (length text) refl in
    rw (n, some, before, last, take_at text (10 ∷ []) (length text) refl) refl

pub lines_again : (lines : List (List ℕ)) → AllByRecursion IsOneLine lines → lines_of (ended lines) ≡ lines
lines_again [] h = refl
lines_again (line ∷ lines) h =
    ap lines_of (ended_joined line lines)
    ∙ (lines_joined (join_with_byte 10 (line ∷ lines)) ∙ split_joined (λ b. b == 10) 10 refl line lines h)

-- ---- whole lines that lead from one draft to another

-- The text consists of whole lines, which have no fault and lead from one draft to the other.
pub record Reads {Kind Draft Value : Type 0} (g : Grammar Kind Draft Value) (d : Draft) (text : List ℕ) (to : Draft) : Type 0 where
  pub lines : List (List ℕ)
  pub spelled : text ≡ ended lines
  pub whole : AllByRecursion IsOneLine lines
  pub leads : LeadsTo g d lines to

pub reads_nothing : {Kind Draft Value : Type 0} (g : Grammar Kind Draft Value) (d : Draft) → Reads g d [] d
reads_nothing g d = record { lines = []; spelled = refl; whole = tt; leads = refl }

pub reads_line : {Kind Draft Value : Type 0} (g : Grammar Kind Draft Value) (d to : Draft) (line : List ℕ) → IsOneLine line → g.line d line ≡ Ok to → Reads g d (line ++ 10 ∷ []) to
reads_line g d to line whole e = record { lines = line ∷ []; spelled = sym (append-nil (line ++ 10 ∷ [])); whole = (whole, tt); leads = (to, e, refl) }

leads_on : {Kind Draft Value : Type 0} (g : Grammar Kind Draft Value) (d between to : Draft) (xs ys : List (List ℕ)) → LeadsTo g d xs between → LeadsTo g between ys to → LeadsTo g d (xs ++ ys) to
leads_on g d between to [] ys p q = rw p q
leads_on g d between to (x ∷ xs) ys p q = (p.0, p.1, leads_on g p.0 between to xs ys p.2 q)

pub reads_on : {Kind Draft Value : Type 0} (g : Grammar Kind Draft Value) (d between to : Draft) (text more : List ℕ) → Reads g d text between → Reads g between more to → Reads g d (text ++ more) to
reads_on g d between to text more p q = record {
  lines = p.lines ++ q.lines;
  spelled = ap (λ (t : List ℕ). t ++ more) p.spelled ∙ (ap (λ (t : List ℕ). ended p.lines ++ t) q.spelled ∙ sym (ended_append p.lines q.lines));
  whole = each_append IsOneLine p.lines q.lines p.whole q.whole;
  leads = leads_on g d between to p.lines q.lines p.leads q.leads;
}

led_value : {Kind Draft Value : Type 0} (g : Grammar Kind Draft Value) (n : ℕ) (d to : Draft) (lines : List (List ℕ)) (v : Value) → LeadsTo g d lines to → g.finish to ≡ Ok v → lines_after g n d lines ≡ Ok v
unfolding lines_after
led_value g n d to [] v p e = rw (p, e) refl
led_value g n d to (line ∷ lines) v p e = rw p.1 (led_value g (n + 1) p.0 to lines v p.2 e)

-- a text whose lines lead to a draft with a value has this value
pub reads_value : {Kind Draft Value : Type 0} (g : Grammar Kind Draft Value) (text : List ℕ) (to : Draft) (v : Value) → Reads g g.nothing text to → g.finish to ≡ Ok v → meaning_of g text ≡ Ok v
reads_value g text to v p e =
    ap (λ (t : List (List ℕ)). lines_after g 1 g.nothing t) (ap lines_of p.spelled ∙ lines_again p.lines p.whole)
    ∙ led_value g 1 g.nothing to p.lines v p.leads e

-- ---- words

-- A byte of a word: none that parts words, begins a comment or ends a line.
abbrev pub IsWordByte : ℕ → Type 0
IsWordByte b = (36 ≤ b) × (b ≤ 126)

pub record IsText (word : Word) : Type 0 where
  pub some : 0 < length word
  pub bytes : AllByRecursion IsWordByte word

-- a byte of a line of words
abbrev pub IsLineByte : ℕ → Type 0
IsLineByte b = (32 ≤ b) × (b ≤ 126) × ((b == 35) ≡ false)

pub word_line : (b : ℕ) → IsWordByte b → IsLineByte b
word_line b h = (omega arith, h.1, ne_eqb b 35 (λ e. omega arith))

line_allowed : (b : ℕ) → IsLineByte b → is_allowed b ≡ true
line_allowed b h = rw (le-leb 32 b h.0, le-leb b 126 h.1) refl

line_one : (b : ℕ) → IsLineByte b → (b == 10) ≡ false
line_one b h = ne_eqb b 10 (λ e. omega arith)

word_blank : (b : ℕ) → IsWordByte b → is_blank b ≡ false
word_blank b h = rw (ne_eqb b 32 (λ e. omega arith), ne_eqb b 9 (λ e. omega arith), ne_eqb b 13 (λ e. omega arith)) refl

pub allowed_line : (line : List ℕ) → AllByRecursion IsLineByte line → list_all is_allowed line ≡ true
allowed_line line h = all_from_each is_allowed line (each_weaker IsLineByte (λ b. is_allowed b ≡ true) line_allowed line h)

pub one_line : (line : List ℕ) → AllByRecursion IsLineByte line → IsOneLine line
one_line line h = each_weaker IsLineByte (λ b. (b == 10) ≡ false) line_one line h

pub none_before : {X : Type 0} (p : X → Bool) (xs : List X) → AllByRecursion (λ x. p x ≡ false) xs → position_or_len p xs ≡ length xs
none_before p [] h = refl
none_before p (x ∷ xs) h = rw (h.0, none_before p xs h.1) (omega arith)

pub no_comment : (line : List ℕ) → AllByRecursion IsLineByte line → before_comment line ≡ line
no_comment line h =
    let at : position_or_len (λ b. b == 35) line ≡ length line = none_before (λ b. b == 35) line (each_weaker IsLineByte (λ b. (b == 35) ≡ false) (λ b l. l.2) line h) in
    rw (at, le-ltb (length line) (length line) (omega arith)) refl

abbrev pub AreText : List Word → Type 0
AreText words = AllByRecursion IsText words

-- the bytes of words with one space between them
pub words_line : (words : List Word) → AreText words → AllByRecursion IsLineByte (join_with_byte 32 words)
words_line words h =
    each_joined IsLineByte 32 (omega arith, omega arith, refl) words
    (each_weaker IsText (AllByRecursion IsLineByte) (λ word t. each_weaker IsWordByte IsLineByte word_line word t.bytes) words h)

all_kept : (words : List Word) → AreText words → filter (λ word. not (length word == 0)) words ≡ words
all_kept [] h = refl
all_kept (word ∷ words) h = rw (ne_eqb (length word) 0 (λ e. let some = h.0.some in omega arith), all_kept words h.1) refl

-- words with one space between them are the words of the line
pub words_again : (words : List Word) → AreText words → words_of (join_with_byte 32 words) ≡ words
words_again [] h = refl
words_again (word ∷ words) h =
    let line : List ℕ = join_with_byte 32 (word ∷ words) in
    let uncut : before_comment line ≡ line = no_comment line (words_line (word ∷ words) h) in
    let split : slice_split is_blank line ≡ word ∷ words = split_joined is_blank 32 refl word words
    (each_weaker IsText (AllByRecursion (λ b. is_blank b ≡ false)) (λ w t. each_weaker IsWordByte (λ b. is_blank b ≡ false) word_blank w t.bytes) (word ∷ words) h) in
    ap (λ (l : List ℕ). filter (λ w. not (length w == 0)) (slice_split is_blank l)) uncut
    ∙ (ap (λ (ws : List Word). filter (λ w. not (length w == 0)) ws) split ∙ all_kept (word ∷ words) h)
