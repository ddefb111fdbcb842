-- The faults of the lines of a specification, one line after the other.
use Rattle.std.proofs.Common.{◌≡◌, ℕ, ◌+◌, ◌<◌, List, [], ◌∷◌, ◌++◌, length, map, Option, Some, None, refl, sym, ap, subst, ◌∙◌, arith, inl, inr}
use Rattle.std.specs.List.{concat}
use Rattle.std.specs.Option.{option_to_list}
use Rattle.std.proofs.lemmas.List.{append-nil, append_assoc, map_push, length-append}
use Rattle.lu_text.specs.Lines.{kept_lines}
use Rattle.lu_text.proofs.KeptLines.{joined_lines}
use Rattle.lu_history.specs.declared.serial.SerialOp.{SerialOp}
use Rattle.lu_test.specs.Matrix.{Matrix}
use Rattle.lu_spec.specs.declared.fault.SpecLineFault.{SpecLineFault}
use Rattle.lu_spec.specs.declared.reader.ListedDraft.{ListedDraft}
use Rattle.lu_spec.specs.Beginnings.{AddsBeginnings, IsClosureOf}
use Rattle.lu_spec.specs.SpecText.{AreListed, HasConflictIn, IsFaultAmong, IsReadAs, SaysHistory, SaysNoHistory, first_line, history_line}
use Rattle.lu_spec.specs.Specs.{FitsMatrix}
use Rattle.lu_spec.specs.Reading.{IsGatheredDraft, IsNextOf}
use Rattle.lu_spec.specs.EveryFault.{AddsFaults, AreFaultsFrom, AreFaultsOfLines, AreSpecFaults, IsFirstLineFault, IsJudgedAs, IsTaken, Judges, Leaves, LeavesDraft, TakesNone, first_line_fault}
use Rattle.lu_spec.specs.Laws.{IsListedAsRead}
use Rattle.lu_spec.proofs.Collected.{in_listed, in_set}
use Rattle.lu_spec.proofs.Faultless.{no_fault}
use Rattle.lu_spec.proofs.HistoryLines.{line_same}
use Rattle.lu_spec.proofs.LinesRead.{concat_lines}
use Rattle.lu_spec.proofs.Nexts.{gathered_more, listed_more, no_histories}

-- ---- a line's history, by a set and by what it is the closure of

taken_here : (matrix : Matrix) (gathered set : List (List SerialOp)) (line : List ℕ) (q : List SerialOp) → IsClosureOf gathered set → IsTaken matrix set line q → IsTaken matrix gathered line q
taken_here matrix gathered set line q closure taken = record { says = taken.says; fits = taken.fits; apart = λ conflict. taken.apart (in_set gathered set q closure conflict) }

pub none_left : (matrix : Matrix) (gathered : List (List SerialOp)) (line : List ℕ) (draft : ListedDraft) → TakesNone matrix draft.set line → IsGatheredDraft matrix gathered draft.set draft.last.items → LeavesDraft matrix gathered line draft
none_left matrix gathered line draft none are =
    (gathered, inr (λ q taken. none q (record { says = taken.says; fits = taken.fits; apart = λ conflict. taken.apart (in_listed gathered draft.set q are.closure conflict) }), refl), are)

-- with one history more
with_taken : (matrix : Matrix) (gathered : List (List SerialOp)) (line : List ℕ) (draft next : ListedDraft) (q : List SerialOp) → IsTaken matrix gathered line q → AddsBeginnings draft.set next.set q → next.last.items ≡ q → IsGatheredDraft matrix gathered draft.set draft.last.items → LeavesDraft matrix gathered line next
with_taken matrix gathered line draft next q taken adds last are =
    let more = gathered_more matrix gathered draft.set draft.last.items are q taken.says.0 taken.fits taken.apart next.set adds in
    (gathered ++ q ∷ [], inl (q, taken, refl), subst (IsGatheredDraft matrix (gathered ++ q ∷ []) next.set) (sym last) more)

pub one_left : (matrix : Matrix) (gathered : List (List SerialOp)) (line : List ℕ) (draft next : ListedDraft) (q : List SerialOp) → IsTaken matrix draft.set line q → AddsBeginnings draft.set next.set q → next.last.items ≡ q → IsGatheredDraft matrix gathered draft.set draft.last.items → LeavesDraft matrix gathered line next
one_left matrix gathered line draft next q taken adds last are = with_taken matrix gathered line draft next q (taken_here matrix gathered draft.set line q are.closure taken) adds last are

taken_next : (matrix : Matrix) (gathered : List (List SerialOp)) (line : List ℕ) (q : List SerialOp) → IsNextOf matrix gathered line q → IsTaken matrix gathered line q
taken_next matrix gathered line q next = record { says = (next.is.1, next.is.0); fits = next.fits; apart = next.apart }

pub next_left : (matrix : Matrix) (gathered : List (List SerialOp)) (line : List ℕ) (draft next : ListedDraft) (q : List SerialOp) → IsNextOf matrix gathered line q → AddsBeginnings draft.set next.set q → next.last.items ≡ q → IsGatheredDraft matrix gathered draft.set draft.last.items → LeavesDraft matrix gathered line next
next_left matrix gathered line draft next q is adds last are = with_taken matrix gathered line draft next q (taken_next matrix gathered line q is) adds last are

-- ---- a line of which no history is taken

module _ (matrix : Matrix) (set : List (List SerialOp)) (line : List ℕ) where
  pub says_none : SaysNoHistory line → TakesNone matrix set line
  says_none none q taken = none q taken.says.0 taken.says.1

  module _ (h : List SerialOp) (said : SaysHistory line h) where
    same : (q : List SerialOp) → IsTaken matrix set line q → q ≡ h
    same q taken = line_same q h taken.says.0 said.0 (sym taken.says.1 ∙ said.1)

    pub not_fitting : (FitsMatrix matrix h → ⊥) → TakesNone matrix set line
    not_fitting fails q taken = fails (subst (FitsMatrix matrix) (same q taken) taken.fits)

    pub in_conflict : HasConflictIn set h → TakesNone matrix set line
    in_conflict conflict q taken = taken.apart (subst (HasConflictIn set) (sym (same q taken)) conflict)

-- ---- line after line

-- the faults of the lines up to the rest are found, and those of all lines are these and those of the rest
pub record AreJudgedTo (matrix : Matrix) (text : List ℕ) (draft : ListedDraft) (rest : List ℕ) (number : ℕ) (before now : List SpecLineFault) : Type 0 where
  pub gathered : List (List SerialOp)
  pub are : IsGatheredDraft matrix gathered draft.set draft.last.items
  pub found : List SpecLineFault
  pub so_far : now ≡ before ++ found
  pub behind : (others : List SpecLineFault) → AreFaultsFrom matrix (number + 1) gathered (kept_lines rest) others → AreFaultsFrom matrix 2 [] (kept_lines text) (found ++ others)

pub none_judged : (matrix : Matrix) (text : List ℕ) (draft : ListedDraft) (before : List SpecLineFault) → IsGatheredDraft matrix [] draft.set draft.last.items → AreJudgedTo matrix text draft text 1 before before
none_judged matrix text draft before are = record { gathered = []; are = are; found = []; so_far = sym (append-nil before); behind = λ others is. is }

pub one_judged : (matrix : Matrix) (text line rest others : List ℕ) (draft next : ListedDraft) (number : ℕ) (fault : Option SpecLineFault) (before now after : List SpecLineFault) → AreJudgedTo matrix text draft rest number before now → kept_lines rest ≡ line ∷ kept_lines others
    → Judges matrix draft (number + 1) line (next, fault) → after ≡ now ++ option_to_list fault → AreJudgedTo matrix text next others (number + 1) before after
one_judged matrix text line rest others draft next number fault before now after to cut judges is =
    let judged = judges to.gathered to.are in
    record {
      gathered = judged.1.0;
      are = judged.1.2;
      found = to.found ++ option_to_list fault;
      so_far = is ∙ (ap (λ (x : List SpecLineFault). x ++ option_to_list fault) to.so_far ∙ append_assoc before to.found (option_to_list fault));
      behind = λ told are.
          let here : AreFaultsFrom matrix (number + 1) to.gathered (line ∷ kept_lines others) (option_to_list fault ++ told) = (fault, judged.1.0, told, judged.0, judged.1.1, are, refl) in
          let all = to.behind (option_to_list fault ++ told) (subst (λ (x : List (List ℕ)). AreFaultsFrom matrix (number + 1) to.gathered x (option_to_list fault ++ told)) (sym cut) here) in
          subst (AreFaultsFrom matrix 2 [] (kept_lines text)) (sym (append_assoc to.found (option_to_list fault) told)) all;
    }

nothing_left : (rest : List ℕ) → length rest ≡ 0 → rest ≡ []
nothing_left [] empty = refl
nothing_left (b ∷ rest) empty = absurd (omega arith)

pub all_judged : (matrix : Matrix) (text rest : List ℕ) (draft : ListedDraft) (number : ℕ) (before now : List SpecLineFault) → length rest ≡ 0 → AreJudgedTo matrix text draft rest number before now → AddsFaults matrix (kept_lines text) before now
all_judged matrix text rest draft number before now empty to =
    let none : rest ≡ [] = nothing_left rest empty in
    let at_end : AreFaultsFrom matrix (number + 1) to.gathered (kept_lines rest) [] = subst (λ (x : List ℕ). AreFaultsFrom matrix (number + 1) to.gathered (kept_lines x) []) (sym none) refl in
    (to.found, subst (AreFaultsFrom matrix 2 [] (kept_lines text)) (append-nil to.found) (to.behind [] at_end), to.so_far)

-- ---- the whole text

no_first_part : (xs ys : List ℕ) → [] ≡ xs ++ ys → xs ≡ []
no_first_part [] ys e = refl
no_first_part (x ∷ xs) ys e = absurd cc

no_last_part : (xs ys : List ℕ) → [] ≡ xs ++ ys → ys ≡ []
no_last_part [] ys e = sym e
no_last_part (x ∷ xs) ys e = absurd cc

of_nothing : (first : List ℕ) (fault : Option SpecLineFault) → first ≡ [] → IsFirstLineFault first fault → option_to_list fault ≡ first_line_fault ∷ []
of_nothing first None none is = absurd (let e : [] ≡ first_line = sym none ∙ is in cc)
of_nothing first (Some fault) none is = ap (λ (x : SpecLineFault). x ∷ []) is.1

pub of_text : (matrix : Matrix) (text first rest : List ℕ) (fault : Option SpecLineFault) (before all : List SpecLineFault) → (0 < length text → kept_lines text ≡ first ∷ kept_lines rest) → text ≡ first ++ rest → IsFirstLineFault first fault
    → before ≡ option_to_list fault → AddsFaults matrix (kept_lines rest) before all → AreSpecFaults matrix text all
of_text matrix [] first rest fault before all cut whole is here (others, are, more) =
    let one = of_nothing first fault (no_first_part first rest whole) is in
    let none : others ≡ [] = subst (λ (x : List ℕ). AreFaultsFrom matrix 2 [] (kept_lines x) others) (no_last_part first rest whole) are in
    more ∙ (ap (λ (x : List SpecLineFault). x ++ others) (here ∙ one) ∙ ap (λ (x : List SpecLineFault). first_line_fault ∷ x) none)
of_text matrix (b ∷ text) first rest fault before all cut whole is here (others, are, more) =
    let lines : kept_lines (b ∷ text) ≡ first ∷ kept_lines rest = cut (omega arith) in
    let of_lines : AreFaultsOfLines matrix (first ∷ kept_lines rest) all = (fault, others, is, are, more ∙ ap (λ (x : List SpecLineFault). x ++ others) here) in
    subst (λ (x : List (List ℕ)). AreFaultsOfLines matrix x all) (sym lines) of_lines

-- ---- what is told is what the reader says

-- the line of a history that may stand there leaves it
leaves_next : (matrix : Matrix) (listed after : List (List SerialOp)) (line : List ℕ) (q : List SerialOp) → IsNextOf matrix listed line q → Leaves matrix listed line after → after ≡ listed ++ q ∷ []
leaves_next matrix listed after line q next (inl (p, taken, is)) =
    let same : p ≡ q = line_same p q taken.says.0 next.is.1 (sym taken.says.1 ∙ next.is.0) in
    is ∙ ap (λ (x : List SerialOp). listed ++ x ∷ []) same
leaves_next matrix listed after line q next (inr (none, is)) = absurd (none q (taken_next matrix listed line q next))

-- the lines list more histories, or have this fault first
abbrev ToldAfter : Matrix → List (List SerialOp) → List (List ℕ) → List SpecLineFault → Type 0
ToldAfter matrix listed lines [] = (more : List (List SerialOp)) × AreListed matrix (listed ++ more) × (lines ≡ map history_line more)
ToldAfter matrix listed lines (first ∷ others) = IsFaultAmong matrix (map history_line listed ++ lines) first.kind first.line

one_after : (matrix : Matrix) (listed : List (List SerialOp)) (q : List SerialOp) (line : List ℕ) (lines : List (List ℕ)) (faults : List SpecLineFault) → line ≡ history_line q → ToldAfter matrix (listed ++ q ∷ []) lines faults → ToldAfter matrix listed (line ∷ lines) faults
one_after matrix listed q line lines [] is (more, are, lists) =
    (q ∷ more, subst (AreListed matrix) (append_assoc listed (q ∷ []) more) are, ap (λ (x : List ℕ). x ∷ lines) is ∙ ap (λ (x : List (List ℕ)). history_line q ∷ x) lists)
one_after matrix listed q line lines (first ∷ others) is among =
    let whole : map history_line (listed ++ q ∷ []) ++ lines ≡ map history_line listed ++ line ∷ lines =
    ap (λ (x : List (List ℕ)). x ++ lines) (map_push history_line listed q) ∙ (append_assoc (map history_line listed) (history_line q ∷ []) lines ∙ ap (λ (x : List ℕ). map history_line listed ++ x ∷ lines) (sym is)) in
    subst (λ (x : List (List ℕ)). IsFaultAmong matrix x first.kind first.line) whole among

told_after : (matrix : Matrix) (lines : List (List ℕ)) (n : ℕ) (listed : List (List SerialOp)) (faults : List SpecLineFault) → AreListed matrix listed → n ≡ length listed + 2 → AreFaultsFrom matrix n listed lines faults → ToldAfter matrix listed lines faults
told_after matrix [] n listed faults are numbered none =
    let nothing : ToldAfter matrix listed [] [] = ([], subst (AreListed matrix) (sym (append-nil listed)) are, refl) in
    subst (ToldAfter matrix listed []) (sym none) nothing
told_after matrix (line ∷ lines) n listed faults are numbered (fault, after, others, judged, leaves, from, is) =
    subst (ToldAfter matrix listed (line ∷ lines)) (sym is) (by_fault fault judged (λ q more rest. told_after matrix lines (n + 1) (listed ++ q ∷ []) others more (omega (arith, numbered, length-append listed (q ∷ []))) rest))
  where
    by_fault : (fault : Option SpecLineFault) → IsJudgedAs matrix listed n line fault
        → ((q : List SerialOp) → AreListed matrix (listed ++ q ∷ []) → AreFaultsFrom matrix (n + 1) (listed ++ q ∷ []) lines others → ToldAfter matrix (listed ++ q ∷ []) lines others)
        → ToldAfter matrix listed (line ∷ lines) (option_to_list fault ++ others)
    by_fault None (q, next) again =
        let rest : AreFaultsFrom matrix (n + 1) (listed ++ q ∷ []) lines others = subst (λ (x : List (List SerialOp)). AreFaultsFrom matrix (n + 1) x lines others) (leaves_next matrix listed after line q next leaves) from in
        one_after matrix listed q line lines others next.is.0 (again q (listed_more matrix listed are line q next) rest)
    by_fault (Some f) (here, wrong) again = record { listed = listed; are = are; line = line; rest = lines; parts = refl; numbered = here ∙ numbered; fault = wrong }

pub listed_as_read : (matrix : Matrix) (text : List ℕ) (faults : List SpecLineFault) → AreSpecFaults matrix text faults → IsListedAsRead matrix text faults
listed_as_read matrix text faults are = by_lines (kept_lines text) refl are
  where
    none_after : (lines : List (List ℕ)) (others : List SpecLineFault) → kept_lines text ≡ first_line ∷ lines → ToldAfter matrix [] lines others → IsListedAsRead matrix text others
    none_after lines [] cut (listed, listing, is) = (listed, listing, sym (joined_lines text) ∙ (ap concat (cut ∙ ap (λ (x : List (List ℕ)). first_line ∷ x) is) ∙ ap (λ (x : List ℕ). first_line ++ x) (concat_lines listed)))
    none_after lines (first ∷ others) cut among = inr (lines, cut, among)

    by_first : (first : List ℕ) (lines : List (List ℕ)) (fault : Option SpecLineFault) (others : List SpecLineFault) → kept_lines text ≡ first ∷ lines → IsFirstLineFault first fault → ToldAfter matrix [] lines others → IsListedAsRead matrix text (option_to_list fault ++ others)
    by_first first lines None others cut is told = none_after lines others (cut ∙ ap (λ (x : List ℕ). x ∷ lines) is) told
    by_first first lines (Some fault) others cut (other, is) told =
        inl (ap (λ (x : SpecLineFault). x.kind) is, ap (λ (x : SpecLineFault). x.line) is, λ rest e. other (let both : first ∷ lines ≡ first_line ∷ rest = sym cut ∙ e in let same : first ≡ first_line = cc in same))

    by_lines : (lines : List (List ℕ)) → kept_lines text ≡ lines → AreFaultsOfLines matrix lines faults → IsListedAsRead matrix text faults
    by_lines [] cut is =
        let none : IsListedAsRead matrix text (first_line_fault ∷ []) = inl (refl, refl, λ rest e. let both : [] ≡ first_line ∷ rest = sym cut ∙ e in cc) in
        subst (IsListedAsRead matrix text) (sym is) none
    by_lines (first ∷ lines) cut (fault, others, is, from, whole) =
        let told = told_after matrix lines 2 [] others (no_histories matrix) refl from in
        subst (IsListedAsRead matrix text) (sym whole) (by_first first lines fault others cut is told)

-- nothing is told of a text that is read
pub none_told : (matrix : Matrix) (text : List ℕ) (members : List (List SerialOp)) (faults : List SpecLineFault) → IsReadAs matrix text members → AreSpecFaults matrix text faults → faults ≡ []
none_told matrix text members [] read are = refl
none_told matrix text members (first ∷ others) read are = absurd (no_fault matrix text members first.kind first.line read (listed_as_read matrix text (first ∷ others) are))
