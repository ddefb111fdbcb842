-- One fault after the other, and lines that are changed.
use Rattle.std.proofs.Common.{true, false, if◌then◌else◌, ◌≡◌, ◌≢◌, ℕ, suc, add-one, ◌+◌, ◌-◌, List, [], ◌∷◌, ◌++◌, set, Option, Some, None, Result, Ok, Err, refl, sym, ap, ◌∙◌, arith, append_assoc}
use Rattle.std.specs.Prelude.{Vec, slice_set}
use Rattle.std.proofs.lemmas.List.{append-nil, map-set}
use Rattle.lu_text.specs.Words.{Word}
use Rattle.lu_text.specs.Faults.{meaning_of_lines}
use Rattle.lu_text.specs.declared.fault.Fault.{Fault}
use Rattle.lu_text.specs.declared.fault.Fault.TheVariants.{At, Memory}
use Rattle.lu_source.specs.Trees.{Program}
use Rattle.lu_source_text.specs.declared.fault.SourceFaultKind.{SourceFaultKind as Kind}
use Rattle.lu_source_text.specs.Grammar.{source_grammar, source_words, where_some}
use Rattle.lu_source_lint.specs.declared.faults.LineFault.{LineFault}
use Rattle.lu_source_lint.specs.declared.message.SourceMessage.{SourceMessage}
use Rattle.lu_source_lint.specs.Faults.{AgreeOn, bytes_of, fault_of, has_no_words, is_last, leaves, leaving_line, mended, mended_line, message, faults_of_lines, first_fault, line_at, meant_line, meant_outside, or_line, spelled, with_line}

-- this fault, and at most so many after it
abbrev faults_from : ℕ → List (List ℕ) → LineFault → List SourceMessage
faults_from more lines fault =
    message fault ∷ (if is_last lines fault then [] else faults_of_lines more (mended lines fault))

faults_next : (most : ℕ) (lines : List (List ℕ)) (first : Option LineFault) → most ≢ 0 → first_fault lines ≡ first → faults_of_lines most lines ≡ where_some first [] (faults_from (most - 1) lines)
unfolding faults_of_lines
faults_next most lines first some is =
    let e : most ≡ (most - 1) + 1 = omega arith in
    ap (λ n. faults_of_lines n lines) (e ∙ add-one (most - 1)) ∙ ap (λ o. where_some o [] (faults_from (most - 1) lines)) is

-- no more are reported
pub all_reported : (faults : List SourceMessage) (most : ℕ) (lines : List (List ℕ)) (total : List SourceMessage) → most ≡ 0 → faults ++ faults_of_lines most lines ≡ total → faults ≡ total
unfolding faults_of_lines
all_reported faults most lines total e so = sym (append-nil faults) ∙ sym (ap (λ n. faults ++ faults_of_lines n lines) e) ∙ so

-- none is left
pub none_left : (faults : List SourceMessage) (most : ℕ) (lines : List (List ℕ)) (total : List SourceMessage) → most ≢ 0 → first_fault lines ≡ None → faults ++ faults_of_lines most lines ≡ total → faults ≡ total
none_left faults most lines total some is so = sym (append-nil faults) ∙ sym (ap (λ l. faults ++ l) (faults_next most lines None some is)) ∙ so

-- this one is the last
pub last_one : (faults now : List SourceMessage) (most : ℕ) (lines : List (List ℕ)) (fault : LineFault) (total : List SourceMessage)
    → most ≢ 0 → first_fault lines ≡ Some fault → now ≡ faults ++ message fault ∷ [] → is_last lines fault ≡ true
    → faults ++ faults_of_lines most lines ≡ total → now ≡ total
last_one faults now most lines fault total some is push last so =
    push ∙ sym (ap (λ t. faults ++ message fault ∷ (if t then [] else faults_of_lines (most - 1) (mended lines fault))) last)
    ∙ sym (ap (λ l. faults ++ l) (faults_next most lines (Some fault) some is)) ∙ so

-- this one, and then those that are left
pub one_more : (faults now : List SourceMessage) (most less : ℕ) (lines next : List (List ℕ)) (fault : LineFault) (total : List SourceMessage)
    → most ≢ 0 → less ≡ most - 1 → first_fault lines ≡ Some fault → now ≡ faults ++ message fault ∷ [] → is_last lines fault ≡ false → next ≡ mended lines fault
    → faults ++ faults_of_lines most lines ≡ total → now ++ faults_of_lines less next ≡ total
one_more faults now most less lines next fault total some one_less is push not_last is_next so =
    ap (λ l. l ++ faults_of_lines less next) push
    ∙ append_assoc faults (message fault ∷ []) (faults_of_lines less next)
    ∙ ap (λ n. faults ++ message fault ∷ faults_of_lines n next) one_less
    ∙ ap (λ l. faults ++ message fault ∷ faults_of_lines (most - 1) l) is_next
    ∙ sym (ap (λ t. faults ++ message fault ∷ (if t then [] else faults_of_lines (most - 1) (mended lines fault))) not_last)
    ∙ sym (ap (λ l. faults ++ l) (faults_next most lines (Some fault) some is)) ∙ so

-- the first fault is reported first
pub agrees : (most : ℕ) (lines : List (List ℕ)) → most ≢ 0 → AgreeOn (meaning_of_lines source_grammar lines) (faults_of_lines most lines)
agrees most lines some = by_meaning (meaning_of_lines source_grammar lines) refl
  where
    by_meaning : (r : Result Program (Fault Kind)) → meaning_of_lines source_grammar lines ≡ r → AgreeOn r (faults_of_lines most lines)
    by_meaning (Ok p) is = faults_next most lines None some (ap fault_of is)
    by_meaning (Err (At kind n)) is = (_, faults_next most lines (Some (record { line = n; kind = kind })) some (ap fault_of is))
    by_meaning (Err Memory) is = faults_next most lines None some (ap fault_of is)

-- one word more
pub spelled_more : (text mid now word : List ℕ) (rest : List Word) (total : List ℕ) → mid ≡ text ++ word → now ≡ mid ++ 32 ∷ [] → text ++ spelled (word ∷ rest) ≡ total → now ++ spelled rest ≡ total
spelled_more text mid now word rest total one blank so =
    ap (λ l. l ++ spelled rest) (blank ∙ ap (λ l. l ++ 32 ∷ []) one)
    ∙ append_assoc (text ++ word) (32 ∷ []) (spelled rest)
    ∙ append_assoc text word (32 ∷ spelled rest)
    ∙ so

-- the faulty line is changed, and then changed again where that is faulty
pub mended_is : (lines first second last : List (List ℕ)) (fault : LineFault) (text outside : List ℕ)
    → text ≡ meant_line fault.kind (line_at lines fault.line) → outside ≡ meant_outside (line_at lines fault.line)
    → first ≡ with_line lines fault.line text → second ≡ or_line first fault.line outside → last ≡ or_line second fault.line []
    → last ≡ mended_line lines fault
mended_is lines first second last fault text outside is_text is_outside is_first is_second is_last =
    is_last ∙ ap (λ l. or_line l fault.line [])
    (is_second ∙ ap (or_line first fault.line) is_outside
    ∙ ap (λ l. or_line l fault.line (meant_outside (line_at lines fault.line))) (is_first ∙ ap (with_line lines fault.line) is_text))

-- The line above is looked at where line n has no words.
pub line_without_words : (lines : List (List ℕ)) (n : ℕ) (words : List Word) → n ≢ 0 → words ≡ source_words (line_at lines n) → has_no_words words ≡ true
    → leaving_line lines n ≡ leaving_line lines (n - 1)
line_without_words lines n words some is none =
    let e : n ≡ (n - 1) + 1 = omega arith in
    let s : n ≡ suc (n - 1) = e ∙ add-one (n - 1) in
    let same : source_words (line_at lines (suc (n - 1))) ≡ words = ap (λ k. source_words (line_at lines k)) (sym s) ∙ sym is in
    ap (leaving_line lines) s
    ∙ ap (λ w. if has_no_words w then leaving_line lines (n - 1) else (if leaves w then suc (n - 1) else 0)) same
    ∙ ap (λ b. if b then leaving_line lines (n - 1) else (if leaves words then suc (n - 1) else 0)) none

-- one line changed
pub line_set : {Z : Type 0} (lines : List (Vec ℕ Z)) (n place : ℕ) (text : Vec ℕ Z) → place ≡ n - 1 → bytes_of (slice_set lines place text) ≡ set (bytes_of lines) (n - 1) text.items
line_set lines n place text e = ap (λ i. bytes_of (slice_set lines i text)) e ∙ map-set (λ line. line.items) lines (n - 1) text
