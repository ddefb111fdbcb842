-- What lint reads of a component, line by line, is what it is to read of all of its lines.
use Rattle.std.proofs.Common.{◌≡◌, ℕ, ◌+◌, Bool, true, false, List, [], ◌∷◌, ◌++◌, map, Option, Some, Result, Ok, Err, refl, sym, ap, subst, ◌∙◌}
use Rattle.std.specs.Prelude.{IfOk, Vec, is_none, is_some, not}
use Rattle.std.proofs.lemmas.List.{append_assoc}
use Rattle.lu_text.specs.Faults.{fault_in, meaning_of_lines}
use Rattle.lu_text.specs.Lines.{words_of}
use Rattle.lu_text.specs.Words.{Word}
use Rattle.lu_lang.specs.declared.fault.LangFaultKind.{LangFaultKind}
use Rattle.lu_lang.specs.declared.fault.LangFaultKind.TheVariants.{Name}
use Rattle.lu_lang.specs.FaultLines.{left_backs}
use Rattle.lu_lang.specs.Faulty.{FaultyDraft}
use Rattle.lu_lang.specs.Meant.{faulty_grammar, mend_faulty}
use Rattle.lu_lang.proofs.Drafts.{nothing_draft}
use Rattle.lu_lint.specs.declared.component.Reading.{Reading}
use Rattle.lu_lint.specs.declared.component.ReadComponent.{ReadComponent}
use Rattle.lu_lint.specs.declared.remark.Position.{Position}
use Rattle.lu_lint.specs.declared.remark.Remark.{Remark}
use Rattle.lu_lint.specs.declared.remark.Said.{Said}
use Rattle.lu_lint.specs.declared.remark.FaultKind.TheVariants as part
use Rattle.lu_lint.specs.Bundle.{LintsComponentLines, component_lines_said, held_of, warnings_said}
use Rattle.lu_lint.specs.Component.{backs_beside, component_lint, end_said, faulty_end_others, faulty_of_lines, jumps_said, left_by, line_said, read_as, read_of_lines}
use Rattle.lu_lint.specs.Lint.{draft_after, faults_after}
use Rattle.lu_lint.specs.Reading.{FindsAt, LeavesDraft, ReadsFound, ReadsOn, all_end_said, all_on_line, line_at, line_read}
use Rattle.lu_lint.specs.Said.{SaysAndReads, said_faults, said_of, said_of_lines}
use Rattle.lu_lint.specs.Warnings.{found_at, hints_while, possible_of_lines, without_words}
use Rattle.lu_lint.proofs.Going.{component_goes_on, is_done, component_end, draft_done, draft_goes_on, two_more}
use Rattle.lu_lint.proofs.Warned.{Finds, finds_on, found_said}
use Rattle.lu_lint.proofs.WhileSound.{KeepsRules, Reads, component_done, reads_on, rules_on}

-- What is left by the lines before line n, and what the rest of the lines is still to give.
pub record SoFar (r : Reading) (n : ℕ) (rest lines : List (List ℕ)) (before : List Said) : Type 0 where
  pub said : said_of r.all.items ++ said_faults part.Component 0 (faults_after component_lint r.seen.items n r.draft rest) ≡ before ++ said_of_lines component_lint 0 lines
  pub found : Finds r.sound (map without_words r.warnings.items) r.seen.items n r.draft rest (possible_of_lines lines)
  pub left : draft_after component_lint r.draft rest ≡ faulty_of_lines lines
  pub rules : KeepsRules r.sound r.draft
  pub read : Reads component_lint.grammar r.sound n r.draft rest (meaning_of_lines component_lint.grammar lines)

-- a line has a fault or none
none_or_some : (some : Bool) → some ≡ not (not some)
none_or_some true = refl
none_or_some false = refl

pub none_is : (none some : Bool) → some ≡ not none → none ≡ not some
none_is none some is = none_or_some none ∙ sym (ap not is)

both : {A B : Type 0} (p : A × B) → (p.0, p.1) ≡ p
both (a, b) = refl

-- a line with a fault is read
pub read_faulty : (at : Position) (f d left : FaultyDraft) (kind : LangFaultKind) (line : List ℕ) (lines : List (List ℕ)) (backs : List ℕ) (before one two : List Said)
    → (d, Some kind) ≡ line_read f line → one ≡ before ++ line_said at d line (Some kind) → backs ≡ left_backs d.draft line lines kind → two ≡ one ++ jumps_said at Name backs → left ≡ mend_faulty d line lines → LeavesDraft at f line lines before two left (Some kind)
read_faulty at f d left kind line lines backs before one two is first are then leaves =
    let jumps : two ≡ one ++ jumps_said at Name (left_backs d.draft line lines kind) = then ∙ ap (λ (x : List ℕ). one ++ jumps_said at Name x) are in
    record {
      said = two_more before one two _ _ first jumps ∙ ap (λ (r : FaultyDraft × Option LangFaultKind). before ++ all_on_line at r.0 line lines r.1) is;
      left_is = leaves ∙ ap (λ (r : FaultyDraft × Option LangFaultKind). left_by r.0 line lines r.1) is;
      fault_is = ap (λ (r : FaultyDraft × Option LangFaultKind). r.1) is;
    }

-- no line is read
pub so_far_none : (r : Reading) (lines : List (List ℕ)) → r.draft ≡ component_lint.grammar.nothing → r.sound ≡ true → r.seen.items ≡ [] → r.warnings.items ≡ [] → SoFar r 1 lines lines (said_of r.all.items)
so_far_none r lines draft sound seen warnings = record {
  said = rw (draft, seen) refl;
  found = rw (draft, sound, seen, warnings) (refl, refl);
  left = rw draft refl;
  rules = rw draft (λ e. nothing_draft);
  read = rw (draft, sound) refl;
}

-- one line more
pub so_far_on : (r next : Reading) (n : ℕ) (line : List ℕ) (rest behind lines : List (List ℕ)) (before : List Said)
    → behind ≡ rest → ReadsOn r n line behind next → SoFar r n (line ∷ rest) lines before → SoFar next (n + 1) rest lines before
so_far_on r next n line rest behind lines before is (mid, finds, reads) h =
    let P : Reading → Type 0 = λ x. ReadsFound x n line (words_of line) behind next in
    let on : ReadsFound (record r { warnings = mid.warnings }) n line (words_of line) behind next = subst P finds.others reads in
    let found : map without_words next.warnings.items ≡ map without_words r.warnings.items ++ map (found_at (line_at r n)) (hints_while r.sound r.draft.draft (words_of line)) = ap (map without_words) on.found ∙ finds.found in
    let f1 = (line_read r.draft line).0 in
    let fault = (line_read r.draft line).1 in
    let at = line_at r n in
    let read : (f1, fault) ≡ line_read r.draft line = both (line_read r.draft line) in
    let free : is_some fault ≡ not (is_none fault) = none_or_some (is_some fault) in
    let backs = backs_beside f1 line behind fault in
    let one = said_of r.all.items ++ line_said at f1 line fault in
    let two : said_of next.all.items ≡ one ++ jumps_said at Name backs = on.said ∙ sym (append_assoc (said_of r.all.items) (line_said at f1 line fault) (jumps_said at Name backs)) in
    record {
      said = rw on.seen (component_goes_on 0 r.seen.items n r.draft f1 next.draft fault line rest behind backs (said_of r.all.items) one (said_of next.all.items) (before ++ said_of_lines component_lint 0 lines) read on.left is refl two refl h.said);
      found = rw (on.seen, on.sound) (finds_on r.sound (is_none fault) (map without_words r.warnings.items) (map without_words next.warnings.items) (hints_while r.sound r.draft.draft (words_of line)) r.seen.items n r.draft.draft r.draft f1 next.draft fault line behind rest (possible_of_lines lines) refl free read on.left found refl h.found);
      left = draft_goes_on component_lint r.draft f1 next.draft (faulty_of_lines lines) fault line rest behind read on.left is h.left;
      rules = rw on.sound (rules_on r.sound (is_none fault) r.draft f1 next.draft fault line behind (line ∷ rest) rest refl is free read on.left h.rules);
      read = rw on.sound (reads_on component_lint.grammar component_lint.mend r.sound (is_none fault) n r.draft f1 next.draft fault line behind rest (meaning_of_lines component_lint.grammar lines) free read on.left h.read);
    }

-- the words of a line are looked at, and then the line is read
pub both_read : {E : Type 0} (r found : Reading) (n : ℕ) (line : List ℕ) (words : List Word) (lines : List (List ℕ)) (result : Result Reading E)
    → words ≡ words_of line → FindsAt r n words found → IfOk result (λ next. ReadsFound found n line words lines next) → IfOk result (λ next. ReadsOn r n line lines next)
both_read r found n line words lines (Ok next) are finds reads =
    let P : List Word → Type 0 = λ x. FindsAt r n x found × ReadsFound found n line x lines next in
    let (look, rest) = subst P are (finds, reads) in
    (found, look, rest)
both_read r found n line words lines (Err error) are finds reads = tt

-- the warnings that hold are said after the end
pub ends_held : (r : Reading) (n : ℕ) (ended next : List Said) (c : ReadComponent)
    → ended ≡ said_of r.all.items ++ end_said (line_at r n) r.draft → c ≡ read_as r.draft r.sound → next ≡ ended ++ held_of c (map without_words r.warnings.items)
    → (next ≡ said_of r.all.items ++ all_end_said r n) × (c ≡ read_as r.draft r.sound)
ends_held r n ended next c is same more =
    let all = said_of r.all.items in
    let end = end_said (line_at r n) r.draft in
    let holds = λ (x : ReadComponent). held_of x (map without_words r.warnings.items) in
    (more ∙ (ap (λ (x : List Said). x ++ holds c) is ∙ (append_assoc all end (holds c) ∙ ap (λ (x : ReadComponent). all ++ (end ++ holds x)) same)), same)

-- no line is left
so_far_done : (r : Reading) (n : ℕ) (lines : List (List ℕ)) (before next : List Said) (c : ReadComponent)
    → SoFar r n [] lines before → (next ≡ said_of r.all.items ++ all_end_said r n) × (c ≡ read_as r.draft r.sound)
    → (next ≡ before ++ component_lines_said lines) × (c ≡ read_of_lines lines)
so_far_done r n lines before next c h e =
    let all = said_of r.all.items in
    let found = map without_words r.warnings.items in
    let at = line_at r n in
    let fault = fault_in (faulty_grammar.finish r.draft) in
    let left = draft_done component_lint r.draft (faulty_of_lines lines) h.left in
    let read : c ≡ read_of_lines lines = e.1 ∙ component_done r.sound n r.draft (faulty_of_lines lines) (meaning_of_lines component_lint.grammar lines) h.read left in
    let faults : all ++ end_said at r.draft ≡ before ++ said_of_lines component_lint 0 lines = is_done component_lint part.Component 0 r.seen.items n n r.draft fault all (before ++ said_of_lines component_lint 0 lines) refl (λ r2. component_end r.seen.items n (faulty_end_others r.draft) fault (faulty_grammar.finish r.draft) r2 refl) h.said in
    let holds : held_of (read_as r.draft r.sound) found ≡ warnings_said (read_of_lines lines) lines = ap (λ (x : ReadComponent). held_of x found) (sym e.1) ∙ found_said r.sound found r.seen.items n r.draft lines c h.found e.1 read in
    let warned : next ≡ (all ++ end_said at r.draft) ++ warnings_said (read_of_lines lines) lines = e.0 ∙ (sym (append_assoc all (end_said at r.draft) (held_of (read_as r.draft r.sound) found)) ∙ ap (λ (x : List Said). (all ++ end_said at r.draft) ++ x) holds) in
    (two_more before (all ++ end_said at r.draft) next (said_of_lines component_lint 0 lines) (warnings_said (read_of_lines lines) lines) faults warned, read)

-- the lines of a component are linted, where they and their end are read
pub are_linted : {E Y Z : Type 0} (r : Reading) (n m : ℕ) (lines : List (List ℕ)) (before : Vec Remark Y) (result : Result (Vec Remark Z × ReadComponent) E)
    → n ≡ m → SoFar r n [] lines (said_of before.items) → SaysAndReads result r.all (all_end_said r m) (read_as r.draft r.sound) → LintsComponentLines result before lines
are_linted r n m lines before (Ok (next, c)) same h e = so_far_done r m lines (said_of before.items) (said_of next.items) c (subst (λ (k : ℕ). SoFar r k [] lines (said_of before.items)) same h) e
are_linted r n m lines before (Err error) same h e = tt
